-- A drawing with lent lines by a lent record: what it has met that is not refused early, and the two exits of the call. `v` is the version
-- that the record's length tells, `stored` the reply to the record, `first` what refuses early.
use Prim.Native.Nat.{ℕ}
use mathlib.Core.Path.{◌≡◌, sym, ap, ap₂, ◌∙◌}
use mathlib.Core.List.{List}
use mathlib.Core.Bool.{true, false}
use lib.ListN.{length}
use Rattle.reply.specs.Reply.{is_done}
use Rattle.reply.specs.First.{first_hit}
use Rattle.reply.specs.declared.Reply.{Reply}
use Rattle.reply.specs.declared.Reply.TheVariants.{Done}
use Rattle.state.specs.declared.State.{State}
use Rattle.surface.specs.Lines.{is_line}
use Rattle.surface.specs.declared.lines.LineNumber.{LineNumber}
use Rattle.record_layout.specs.declared.RecordRead.{RecordRead}
use Rattle.record_layout.specs.declared.Version.{Version}
use Rattle.record_layout.specs.Record.{accepted, state_as, version_of, read_as, read_record}
use Rattle.record_layout.proofs.Stages.{accepts, done-accepted}
use Rattle.record_layout.proofs.RoundTrip.{long, state-lawful}
use Rattle.line_replies.specs.Replies.{drawn_if}
use Rattle.line_replies.proofs.Exits.{left}
use Rattle.lent_drawing.specs.Bounds.{RecordBounds}
use Rattle.layers.specs.Layers.{layered_line, early_pieces, late_pieces}
use Rattle.layers.proofs.Layers.{lengths-known, early-met, refused-late, refused-early}
use Rattle.lent_layers.specs.Lent.{lent_layers_reply, lent_layered}

module _ (line : LineNumber) (ula tile dots b layer2 sprites : List ℕ) (v : Version) (told : v ≡ version_of (length b)) (stored first : Reply) (es : stored ≡ (read_as v b).reply)
    (e : first ≡ first_hit (early_pieces line (length ula) (length tile) (length dots) (length layer2) (length sprites) stored)) where
  record_is : read_as v b ≡ read_record b
  unfolding read_record
  record_is = ap (λ (w : Version). read_as w b) told

  reply-is : (read_as v b).reply ≡ (read_record b).reply
  reply-is = ap (λ (a : RecordRead). a.reply) record_is

  abbrev pieces : Reply → List Reply
  pieces r = early_pieces line (length ula) (length tile) (length dots) (length layer2) (length sprites) r

  first-is : first ≡ first_hit (pieces (read_record b).reply)
  first-is = e ∙ ap (λ (r : Reply). first_hit (pieces r)) (es ∙ reply-is)

  taken : first ≡ Done → accepted v b ≡ true
  taken z =
      done-accepted v b (reply-is ∙ (early-met line (length ula) (length tile) (length dots) (length layer2) (length sprites) (read_record b).reply (sym first-is ∙ z)).4)

  -- what a drawing has met that is not refused early
  pub met : first ≡ Done
      → (RecordBounds v b) × (is_line line ≡ true) × (length ula ≡ 16384) × (length tile ≡ 16384) × (length dots ≡ 640) × (length layer2 ≡ 640) × (length sprites ≡ 640)
  met z =
      let m = early-met line (length ula) (length tile) (length dots) (length layer2) (length sprites) (read_record b).reply (sym first-is ∙ z) in
      let n = lengths-known line (length ula) (length tile) (length dots) (length layer2) (length sprites) (read_record b).reply (sym first-is ∙ z) in
      let t = taken z in
      (record { long = long v b t; lawful = state-lawful v b t }, m.0, m.1, m.2, m.3, n.0, n.1)

  state-is : first ≡ Done → (read_record b).state ≡ state_as v b
  state-is z = ap (λ (a : RecordRead). a.state) (sym record_is ∙ accepts v b (taken z))

  abbrev answer : Reply
  answer = lent_layers_reply line (length ula) (length tile) (length dots) b layer2 sprites

  -- the record and the lengths are good: what is refused late, or the line
  pub drawn-judged : (r : Reply) (out : List ℕ) → first ≡ Done → r ≡ first_hit (late_pieces (state_as v b) layer2 sprites) → out ≡ drawn_if r (layered_line (state_as v b) ula tile layer2 sprites line) dots
      → (r ≡ answer) × (out ≡ lent_layered line ula tile dots b layer2 sprites)
  unfolding lent_layered
  drawn-judged r out z q d =
      let t : r ≡ answer =
      q ∙ ap (λ (s : State). first_hit (late_pieces s layer2 sprites)) (sym (state-is z))
      ∙ sym (refused-late line (length ula) (length tile) (length dots) (read_record b).reply (read_record b).state layer2 sprites (sym first-is ∙ z)) in
      (t, d ∙ ap₂ (λ (x : Reply) (s : State). drawn_if x (layered_line s ula tile layer2 sprites line) dots) t (sym (state-is z)))

  -- refused early: the line as it was
  pub undrawn : is_done first ≡ false → (first ≡ answer) × (dots ≡ lent_layered line ula tile dots b layer2 sprites)
  unfolding lent_layered
  undrawn z =
      let t : answer ≡ first =
      refused-early line (length ula) (length tile) (length dots) (read_record b).reply (read_record b).state layer2 sprites (ap is_done (sym first-is) ∙ z) ∙ sym first-is in
      (sym t, left first answer (layered_line (read_record b).state ula tile layer2 sprites line) dots (sym t) z)
