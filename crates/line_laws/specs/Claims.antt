-- Rule 2.3: what no single call states of a drawn line. A statement here is proved by the law of its name in proofs/Claims.antt.
use Rattle.std.specs.Prelude.{ℕ, ◌≤◌, ◌≡◌, List, true}
use Rattle.state.specs.declared.State.{State}
use Rattle.state.specs.Lawful.{lawful_state}
use Rattle.state.specs.Typed.{Typed}
use Rattle.surface.specs.declared.lines.LineNumber.{LineNumber}
use Rattle.line.specs.Lines.{line_dot}

-- a dot is a nine-bit colour, 0 to 511: every dot of every line of a lawful and typed state, whatever the banks hold
abbrev pub DotsAreColours : Type 0
DotsAreColours =
    (s : State) (ula tile : List ℕ) (line : LineNumber) (k : ℕ) → Typed s → lawful_state s ≡ true → line_dot s ula tile line k ≤ 511
