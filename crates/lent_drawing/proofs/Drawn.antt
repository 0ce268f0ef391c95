-- Drawing by a lent record: the palettes shown stand at their places, the line from the parts is that of the state in the record, and
-- the two exits of the call. `v` is the version that the record's length tells, `stored` the reply to the record, `early` what refuses
-- before the state is judged.
use Prim.Native.Nat.{ℕ, ◌≤◌, ◌<◌}
use borrow.Author.Tests.{leb-true, ltb-true}
use mathlib.Core.Path.{◌≡◌, refl, sym, ap, ap₂, subst, ◌∙◌}
use mathlib.Core.List.{List, [], ◌∷◌}
use mathlib.Core.Bool.{Bool, true, false, cond}
use lib.ListN.{length, get_or}
use Rattle.lists.specs.Tab.{tab}
use Rattle.reply.specs.declared.Reply.{Reply}
use Rattle.reply.specs.declared.Reply.TheVariants.{Done}
use Rattle.reply.specs.Reply.{is_done}
use Rattle.reply.specs.First.{first_hit}
use Rattle.reply.proofs.Order.{all_done, last-hit, hit_later, hit-early}
use Rattle.state_bits.specs.Bits.{ula_on, ula_second_shown, tile_second_shown, tilemap_on}
use Rattle.state.specs.Lawful.{all_colours}
use Rattle.state.proofs.Kept.{lawful-kept}
use Rattle.state.specs.declared.State.{State}
use Rattle.state.specs.declared.Palette.{Palette}
use Rattle.state.specs.declared.Tiles.{Tiles}
use Rattle.state.specs.declared.Ula.{Ula}
use Rattle.state.specs.declared.Ports.{Ports}
use Rattle.register_bounds.specs.Bounds.{is_mask}
use Rattle.surface.specs.Lines.{is_line}
use Rattle.surface.specs.declared.lines.LineNumber.{LineNumber}
use Rattle.colour.specs.Bytes.{widened}
use Rattle.ula_view.specs.Views.{ula_palette}
use Rattle.ula.specs.Lines.{ula_dot}
use Rattle.ula_view.specs.Bounds.{shown_state}
use Rattle.ula.proofs.Parts.{shown-dots}
use Rattle.tilemap.specs.Dots.{tile_dot}
use Rattle.tilemap_setup.specs.Setup.{setup_of, window_of}
use Rattle.record_layout.specs.Fields.{pair, row_at}
use Rattle.record_layout.specs.Places.{ula_first_place, ula_second_place, tile_first_place, tile_second_place}
use Rattle.record_layout.specs.declared.RecordRead.{RecordRead}
use Rattle.record_layout.specs.declared.Version.{Version}
use Rattle.record_layout.specs.Record.{accepted, state_as, version_of, read_as, read_record}
use Rattle.record_layout.proofs.Read.{ulafirst-read, ulasecond-read, tilefirst-read, tilesecond-read}
use Rattle.record_layout.proofs.Stages.{accepts, done-accepted}
use Rattle.record_layout.proofs.RoundTrip.{long, state-lawful}
use Rattle.line.specs.Lines.{tile_palette, tile_dot_of, composed_line, drawn_line}
use Rattle.line.specs.Shown.{ShownBytes}
use Rattle.line_dots.specs.Compose.{stencil_on, finished, composed}
use Rattle.line_replies.specs.Replies.{line_reply, lengths_reply, state_reply, drawn_if}
use Rattle.line_replies.proofs.Exits.{line-met, lengths-met, left}
use Rattle.line_dots.proofs.Shaded.{shown-colours}
use Rattle.line.proofs.Layers.{layered-line, finished-line}
use Rattle.line.proofs.ShownParts.{line-without}
use Rattle.lent_drawing.specs.Bounds.{RecordBounds, tiles_laid}
use Rattle.lent_drawing.specs.Drawn.{lent_draw_reply, lent_drawn}

chosen : (b : List ℕ) (second : Bool) (x y : ℕ) → row_at pair 256 b (cond second x y) ≡ cond second (row_at pair 256 b x) (row_at pair 256 b y)
chosen b true x y = refl
chosen b false x y = refl

-- the palettes shown, by the places where they stand
module _ (v : Version) (b pal : List ℕ) (place : ℕ) (e : pal ≡ row_at pair 256 b place) where
  pub ula-palette-read : (p : Palette) → p ≡ (state_as v b).palette → place ≡ cond (ula_second_shown p) (ula_second_place v) (ula_first_place v) → pal ≡ ula_palette (state_as v b)
  unfolding ula_palette
  ula-palette-read p ep h =
      let second = ula_second_shown (state_as v b).palette in
      e ∙ ap (row_at pair 256 b) (h ∙ ap (λ (x : Palette). cond (ula_second_shown x) (ula_second_place v) (ula_first_place v)) ep)
      ∙ chosen b second (ula_second_place v) (ula_first_place v) ∙ ap₂ (cond second) (ulasecond-read b v) (ulafirst-read b v)

  pub tile-palette-read : (t : Tiles) → t ≡ (state_as v b).tiles → place ≡ cond (tile_second_shown t) (tile_second_place v) (tile_first_place v) → pal ≡ tile_palette (state_as v b)
  unfolding tile_palette
  tile-palette-read t et h =
      let second = tile_second_shown (state_as v b).tiles in
      e ∙ ap (row_at pair 256 b) (h ∙ ap (λ (x : Tiles). cond (tile_second_shown x) (tile_second_place v) (tile_first_place v)) et)
      ∙ chosen b second (tile_second_place v) (tile_first_place v) ∙ ap₂ (cond second) (tilesecond-read b v) (tilefirst-read b v)

-- the layers of a record that is judged: what each asks for, and what it lays
module _ (v : Version) (b : List ℕ) (g : RecordBounds v b) where
  pub mask-read : (p : Palette) → p ≡ (state_as v b).palette → is_mask p.mask ≡ true
  mask-read p ep = rw ep (lawful-kept (state_as v b) g.lawful).mask

  pub border-read : (o : Ports) → o ≡ (state_as v b).ports → o.border ≤ 7
  border-read o eo = rw eo (leb-true (state_as v b).ports.border 7 (lawful-kept (state_as v b) g.lawful).border)

  pub tiles-read : (t : Tiles) → t ≡ (state_as v b).tiles → (t.xhigh ≤ 3) × (t.map < 64) × (t.definitions < 64)
  tiles-read t et =
      let k = lawful-kept (state_as v b) g.lawful in
      let s = (state_as v b).tiles in
      rw et (leb-true s.xhigh 3 k.xhigh, ltb-true s.map 64 k.map, ltb-true s.definitions 64 k.definitions)

  pub tile-colours : (pal : List ℕ) → pal ≡ tile_palette (state_as v b) → all_colours pal ≡ true
  unfolding tile_palette
  tile-colours pal ep =
      let s = state_as v b in
      let k = lawful-kept s g.lawful in
      shown-colours (tile_second_shown s.tiles) pal s.tilefirst s.tilesecond ep k.tilefirst k.tilesecond

-- what the types of the groups give of their bytes
pub bytes_read : (v : Version) (b : List ℕ) (u : Ula) (plus : List ℕ) → u ≡ (state_as v b).ula → plus ≡ (state_as v b).plus → u.fallback < 256 → ((i : ℕ) → get_or plus i 0 < 256)
    → ShownBytes (state_as v b)
bytes_read v b u plus eu ep f h =
    record { fallback = subst (λ (x : Ula). x.fallback < 256) eu f; plus = λ i. subst (λ (xs : List ℕ). get_or xs i 0 < 256) ep (h i) }

module _ (v : Version) (b bank : List ℕ) (line : LineNumber) where
  pub ula-laid : (u : Ula) (p : Palette) (o : Ports) (frame : ℕ) (clip plus pal out : List ℕ) → u ≡ (state_as v b).ula → p ≡ (state_as v b).palette → o ≡ (state_as v b).ports
      → frame ≡ (state_as v b).frame → clip ≡ (state_as v b).ulaclip → plus ≡ (state_as v b).plus → pal ≡ ula_palette (state_as v b)
      → out ≡ tab (ula_dot (shown_state u p o frame clip plus pal) bank line) 640 → out ≡ tab (ula_dot (state_as v b) bank line) 640
  ula-laid u p o frame clip plus pal out eu ep eo ef ec es el d =
      d ∙ rw (eu, ep, eo, ef, ec, es) (ap (λ (f : ℕ → ℕ). tab f 640) (shown-dots (state_as v b) pal bank line el))

  pub tiles-laid : (u : Ula) (t : Tiles) (clip pal old out : List ℕ) → u ≡ (state_as v b).ula → t ≡ (state_as v b).tiles → clip ≡ (state_as v b).tileclip → pal ≡ tile_palette (state_as v b)
      → out ≡ tab (λ (k : ℕ). composed (stencil_on u t) pal (get_or old k 0) (tile_dot (window_of t clip line) (setup_of t (ula_on u)) t.transparent bank line.0 k)) 640
      → out ≡ tiles_laid (state_as v b) bank line old
  unfolding tile_dot_of
  tiles-laid u t clip pal old out eu et ec el d = d ∙ rw (eu, et, ec, el)

-- the layers joined, and the fallback over them
module _ (v : Version) (b ula tile : List ℕ) (line : LineNumber) where
  pub layers-on : (u out : List ℕ) → u ≡ tab (ula_dot (state_as v b) ula line) 640 → out ≡ tiles_laid (state_as v b) tile line u → out ≡ composed_line (state_as v b) ula tile line
  layers-on u out eu d = layered-line (state_as v b) line ula tile u out eu d

  pub layers-off : (u : List ℕ) (t : Tiles) → u ≡ tab (ula_dot (state_as v b) ula line) 640 → t ≡ (state_as v b).tiles → tilemap_on t ≡ false → u ≡ composed_line (state_as v b) ula tile line
  layers-off u t eu et o = eu ∙ line-without ula tile line (state_as v b) (sym (ap tilemap_on et) ∙ o)

  pub line-laid : (row out : List ℕ) (u : Ula) (fallback : ℕ) → row ≡ composed_line (state_as v b) ula tile line → u ≡ (state_as v b).ula → fallback ≡ widened u.fallback
      → out ≡ finished fallback row → out ≡ drawn_line (state_as v b) ula tile line
  line-laid row out u fallback er eu ef d =
      finished-line (state_as v b) line ula tile row out fallback d er (ef ∙ ap (λ (x : Ula). widened x.fallback) eu)

-- what the state in a record is refused for, from its groups
pub state-reply-read : (v : Version) (b : List ℕ) (u : Ula) (t : Tiles) (p : Palette) (o : Ports) (r : Reply) → u ≡ (state_as v b).ula → t ≡ (state_as v b).tiles → p ≡ (state_as v b).palette
    → o ≡ (state_as v b).ports → r ≡ state_reply u t p o → r ≡ state_reply (state_as v b).ula (state_as v b).tiles (state_as v b).palette (state_as v b).ports
state-reply-read v b u t p o r eu et ep eo e = e ∙ rw (eu, et, ep, eo)

module _ (line : LineNumber) (ula tile dots b : List ℕ) (v : Version) (told : v ≡ version_of (length b)) (stored : Reply) (h : stored ≡ (read_as v b).reply) (early : Reply)
    (e : early ≡ first_hit (line_reply line ∷ lengths_reply (length ula) (length tile) (length dots) ∷ stored ∷ [])) where
  abbrev pieces : List Reply
  pieces = line_reply line ∷ lengths_reply (length ula) (length tile) (length dots) ∷ (read_record b).reply ∷ []

  record_is : read_as v b ≡ read_record b
  unfolding read_record
  record_is = ap (λ (w : Version). read_as w b) told

  early-is : early ≡ first_hit pieces
  early-is =
      e ∙ ap (λ (r : Reply). first_hit (line_reply line ∷ lengths_reply (length ula) (length tile) (length dots) ∷ r ∷ [])) (h ∙ ap (λ (a : RecordRead). a.reply) record_is)

  taken : early ≡ Done → accepted v b ≡ true
  taken z = done-accepted v b (ap (λ (a : RecordRead). a.reply) record_is ∙ (all_done pieces (sym early-is ∙ z)).1.1.0)

  -- what a drawing has met that is not refused early
  pub met : early ≡ Done → (RecordBounds v b) × (is_line line ≡ true) × (length ula ≡ 16384) × (length tile ≡ 16384) × (length dots ≡ 640)
  met z =
      let m = all_done pieces (sym early-is ∙ z) in
      let q = lengths-met (length ula) (length tile) (length dots) m.1.0 in
      let t = taken z in
      (record { long = long v b t; lawful = state-lawful v b t }, line-met line m.0, q.0, q.1, q.2)

  state-is : early ≡ Done → (read_record b).state ≡ state_as v b
  state-is z = ap (λ (a : RecordRead). a.state) (sym record_is ∙ accepts v b (taken z))

  abbrev alone : State → Reply
  alone s = state_reply s.ula s.tiles s.palette s.ports

  reply-is : early ≡ Done → lent_draw_reply line (length ula) (length tile) (length dots) b ≡ alone (state_as v b)
  unfolding lent_draw_reply
  reply-is z =
      hit_later pieces (alone (read_record b).state ∷ []) (sym early-is ∙ z)
      ∙ sym (last-hit (alone (read_record b).state) (alone (read_record b).state) refl) ∙ ap alone (state-is z)

  -- the record and the lengths are good: the drawing's own answer
  pub drawn-judged : (r : Reply) (after : List ℕ) → early ≡ Done → r ≡ alone (state_as v b) → after ≡ drawn_if r (drawn_line (state_as v b) ula tile line) dots
      → (r ≡ lent_draw_reply line (length ula) (length tile) (length dots) b) × (after ≡ lent_drawn line ula tile dots b)
  unfolding lent_drawn
  drawn-judged r after z q d =
      let t = q ∙ sym (reply-is z) in
      (t, d ∙ ap₂ (λ (x : Reply) (s : State). drawn_if x (drawn_line s ula tile line) dots) t (sym (state-is z)))

  -- refused early: the line as it was
  pub undrawn : is_done early ≡ false → (early ≡ lent_draw_reply line (length ula) (length tile) (length dots) b) × (dots ≡ lent_drawn line ula tile dots b)
  unfolding lent_draw_reply lent_drawn
  undrawn z =
      let t : lent_draw_reply line (length ula) (length tile) (length dots) b ≡ early = hit-early pieces (alone (read_record b).state ∷ []) (ap is_done (sym early-is) ∙ z) ∙ sym early-is in
      (sym t, left early (lent_draw_reply line (length ula) (length tile) (length dots) b) (drawn_line (read_record b).state ula tile line) dots (sym t) z)
