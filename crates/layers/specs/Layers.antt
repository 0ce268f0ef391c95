-- Rules 10.13 and 15.3: a line drawn with lent lines of Layer 2 and sprites, and what refuses it.
use Rattle.std.specs.Prelude.{ℕ, List, [], ◌∷◌, ◌++◌, length}
use Rattle.reply.specs.First.{first_hit}
use Rattle.reply.specs.declared.Reply.{Reply}
use Rattle.state.specs.Lawful.{lawful_reply}
use Rattle.state.specs.declared.State.{State}
use Rattle.surface.specs.declared.lines.LineNumber.{LineNumber}
use Rattle.layer_dots.specs.Orders.{layered_row}
use Rattle.layer_dots.specs.Numbers.{lent_reply, order_reply, numbers_reply}
use Rattle.line.specs.Lines.{composed_line}
use Rattle.line_replies.specs.Replies.{line_reply, lengths_reply, state_reply}

-- the composed line before the fallback with both lent lines
unfoldable pub layered_line : State → List ℕ → List ℕ → List ℕ → List ℕ → LineNumber → List ℕ
layered_line s ula tile layer2 sprites line = layered_row s.ula sprites layer2 (composed_line s ula tile line)

-- what is refused before the state is looked into: 1; 2, 3; and the state's own reply, 4 or of a lent record 16, 17, 18
abbrev pub early_pieces : LineNumber → ℕ → ℕ → ℕ → ℕ → ℕ → Reply → List Reply
early_pieces line ula tile out layer2 sprites state = line_reply line ∷ lengths_reply ula tile out ∷ lent_reply layer2 sprites ∷ state ∷ []

-- and then: 6, 7, 5, 8; 19; 20
abbrev pub late_pieces : State → List ℕ → List ℕ → List Reply
late_pieces s layer2 sprites = state_reply s.ula s.tiles s.palette s.ports ∷ order_reply s.ula ∷ numbers_reply layer2 sprites ∷ []

-- a drawing with lent lines: the early pieces, then the late ones
unfoldable pub layered_reply : LineNumber → ℕ → ℕ → ℕ → Reply → State → List ℕ → List ℕ → Reply
layered_reply line ula tile out state s layer2 sprites =
    first_hit (early_pieces line ula tile out (length layer2) (length sprites) state ++ late_pieces s layer2 sprites)

-- of a state, whose own reply is 4
abbrev pub layers_reply : LineNumber → ℕ → ℕ → ℕ → State → List ℕ → List ℕ → Reply
layers_reply line ula tile out s layer2 sprites = layered_reply line ula tile out (lawful_reply s) s layer2 sprites
