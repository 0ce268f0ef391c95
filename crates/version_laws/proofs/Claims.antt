-- The claims on old pictures: the state in an old record is one that version 1 keeps whole, and a record that is moved up holds the same.
use mathlib.Core.Path.{◌≡◌, refl, sym, ap, ◌∙◌}
use mathlib.Core.List.{List, [], ◌∷◌}
use Prim.Native.Nat.{ℕ}
use lib.ListN.{length}
use Rattle.reply.specs.declared.Reply.{Reply}
use Rattle.reply.specs.First.{first_of, first_hit}
use Rattle.state.specs.declared.State.{State}
use Rattle.surface.specs.declared.lines.LineNumber.{LineNumber}
use Rattle.ula_mode.specs.Modes.{mode_of}
use Rattle.line.specs.Lines.{drawn_line}
use Rattle.line_replies.specs.Replies.{line_reply, lengths_reply, state_reply, drawn_if}
use Rattle.record_layout.specs.declared.Version.TheVariants.{Version1}
use Rattle.record_layout.specs.Record.{state_as, read_record, passed, read_with}
use Rattle.record_layout.proofs.Stages.{accepts}
use Rattle.record_layout.proofs.RoundTrip.{long}
use Rattle.record_layout.proofs.Claims.{read_told}
use Rattle.record_moves.proofs.Moved.{old-pairs}
use Rattle.record_moves.proofs.Exits.{met}
use Rattle.record_laws.proofs.Claims.{kept_whole, moved_reads_same}
use Rattle.lent_drawing.specs.Drawn.{lent_draw_reply, lent_drawn}
use Rattle.version_laws.specs.OneScroll.{one_scroll_drawn}
use Rattle.version_laws.specs.Claims.{OneScrollAlone, OldStatesDrawn, OldPicturesDrawn}
use Rattle.version_laws.proofs.Same.{drawn-alone, drawn-same}

pub one_scroll_alone : OneScrollAlone
one_scroll_alone s ula tile line x y = drawn-alone s x y ula tile line

pub old_states_drawn : OldStatesDrawn
unfolding state_reply mode_of
old_states_drawn s ula tile line = (drawn-same s ula tile line, refl)

module _ (ula tile dots : List ℕ) (line : LineNumber) (s : State) where
  abbrev reply : Reply
  reply = first_hit (line_reply line ∷ lengths_reply (length ula) (length tile) (length dots) ∷ state_reply s.ula s.tiles s.palette s.ports ∷ [])

  -- a drawing goes by the state that is read of its record
  reply-by : (b : List ℕ) → read_record b ≡ read_with passed s → lent_draw_reply line (length ula) (length tile) (length dots) b ≡ reply
  unfolding lent_draw_reply first_hit first_of
  reply-by b e = rw e

  drawn-by : (b : List ℕ) → read_record b ≡ read_with passed s → drawn_line s ula tile line ≡ one_scroll_drawn s ula tile line
      → lent_drawn line ula tile dots b ≡ drawn_if reply (one_scroll_drawn s ula tile line) dots
  unfolding lent_drawn
  drawn-by b e g = rw (reply-by b e, e, g)

pub old_pictures_drawn : OldPicturesDrawn
old_pictures_drawn b target ula tile dots line y d =
    let a = (met Version1 b target d).1 in
    let s = state_as Version1 b in
    let f : read_record b ≡ read_with passed s = read_told Version1 b (long Version1 b a) ∙ accepts Version1 b a in
    let e = moved_reads_same Version1 b target y d ∙ f in
    let g : drawn_line s ula tile line ≡ one_scroll_drawn s ula tile line =
    ap (λ (t : State). drawn_line t ula tile line) (sym (kept_whole Version1 s (old-pairs b))) ∙ drawn-same s ula tile line in
    (reply-by ula tile dots line s b f, drawn-by ula tile dots line s b f g, reply-by ula tile dots line s _ e, drawn-by ula tile dots line s _ e g)
