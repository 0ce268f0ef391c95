-- Rules 7.10 and 10.1 by a lent record, of either version since a drawing only reads it: 16, 17 and 18 stand in the place of 4, after 1, 2 and 3.
use Rattle.std.specs.Prelude.{ℕ, List, [], ◌∷◌, length}
use Rattle.reply.specs.declared.Reply.{Reply}
use Rattle.reply.specs.First.{first_hit}
use Rattle.surface.specs.declared.lines.LineNumber.{LineNumber}
use Rattle.record_layout.specs.Record.{read_record}
use Rattle.line.specs.Lines.{drawn_line}
use Rattle.line_replies.specs.Replies.{line_reply, lengths_reply, state_reply, drawn_if}

-- 1; 2, 3; 16, 17, 18; then what the state in the record is refused for: 6, 7, 5, 8
unfoldable pub lent_draw_reply : LineNumber → ℕ → ℕ → ℕ → List ℕ → Reply
lent_draw_reply line ula tile dots b =
    let s = (read_record b).state in
    first_hit (line_reply line ∷ lengths_reply ula tile dots ∷ (read_record b).reply ∷ state_reply s.ula s.tiles s.palette s.ports ∷ [])

-- the lent line afterwards: the dots of the state in the record, or as it was
unfoldable pub lent_drawn : LineNumber → List ℕ → List ℕ → List ℕ → List ℕ → List ℕ
lent_drawn line ula tile dots b =
    drawn_if (lent_draw_reply line (length ula) (length tile) (length dots) b) (drawn_line (read_record b).state ula tile line) dots
