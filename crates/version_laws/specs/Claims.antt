-- Rule 7.12: an old picture looks as it did.
use Rattle.std.specs.Prelude.{ℕ, ◌≡◌, List, [], ◌∷◌, length}
use Rattle.lists.specs.Bytes.{Bytes}
use Rattle.reply.specs.declared.Reply.TheVariants.{Done}
use Rattle.reply.specs.First.{first_hit}
use Rattle.state.specs.declared.State.{State}
use Rattle.state.specs.Groups.{ula_with_x, ula_with_y}
use Rattle.state.specs.With.{with_ula}
use Rattle.surface.specs.declared.lines.LineNumber.{LineNumber}
use Rattle.line.specs.Lines.{drawn_line}
use Rattle.line_replies.specs.Replies.{line_reply, lengths_reply, state_reply, drawn_if}
use Rattle.record_layout.specs.declared.Version.TheVariants.{Version1}
use Rattle.record_layout.specs.Version.{kept_in}
use Rattle.record_layout.specs.Record.{state_as}
use Rattle.record_moves.specs.Moves.{move_reply, moved_in}
use Rattle.lent_drawing.specs.Drawn.{lent_draw_reply, lent_drawn}
use Rattle.version_laws.specs.OneScroll.{one_scroll_drawn}

-- the rule of one scroll does not look at $26 and $27
abbrev pub OneScrollAlone : Type 0
OneScrollAlone = (s : State) (ula tile : List ℕ) (line : LineNumber) (x y : ℕ)
    → one_scroll_drawn (with_ula s (ula_with_y (ula_with_x s.ula x) y)) ula tile line ≡ one_scroll_drawn s ula tile line

-- a state as version 1 keeps it is drawn as the rule of one scroll draws it, every dot of every line, and its own refusals (6, 7, 5, 8) are those
-- of the state
abbrev pub OldStatesDrawn : Type 0
OldStatesDrawn = (s : State) (ula tile : List ℕ) (line : LineNumber)
    → let t = kept_in Version1 s in
    (drawn_line t ula tile line ≡ one_scroll_drawn s ula tile line)
    × (state_reply t.ula t.tiles t.palette t.ports ≡ state_reply s.ula s.tiles s.palette s.ports)

-- every line drawn by a record of version 1, and by it moved up, is the line that the rule of one scroll gives it, dot for dot and reply for
-- reply: 1, 2, 3, and what the state alone is refused for
abbrev pub OldPicturesDrawn : Type 0
OldPicturesDrawn = (b target ula tile dots : List ℕ) (line : LineNumber) → Bytes b → move_reply Version1 b (length target) ≡ Done
    → let s = state_as Version1 b in
    let up = moved_in Version1 b target in
    let reply = first_hit (line_reply line ∷ lengths_reply (length ula) (length tile) (length dots) ∷ state_reply s.ula s.tiles s.palette s.ports ∷ []) in
    let drawn = drawn_if reply (one_scroll_drawn s ula tile line) dots in
    (lent_draw_reply line (length ula) (length tile) (length dots) b ≡ reply)
    × (lent_drawn line ula tile dots b ≡ drawn)
    × (lent_draw_reply line (length ula) (length tile) (length dots) up ≡ reply)
    × (lent_drawn line ula tile dots up ≡ drawn)
