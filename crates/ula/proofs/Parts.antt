-- The dots of a line depend on no more of a state than its parts that show, and on no palette but the one shown.
use Prim.Native.Nat.{ℕ}
use mathlib.Core.Path.{◌≡◌, refl, sym, ap, ◌∙◌}
use mathlib.Core.List.{List}
use mathlib.Core.Bool.{Bool, true, false, cond}
use Rattle.lists.specs.Tab.{tab}
use Rattle.state_bits.specs.Bits.{ula_second_shown}
use Rattle.state.specs.declared.State.{State}
use Rattle.state.specs.declared.Ula.{Ula}
use Rattle.state.specs.declared.Palette.{Palette}
use Rattle.state.specs.declared.Ports.{Ports}
use Rattle.surface.specs.declared.lines.LineNumber.{LineNumber}
use Rattle.ula_view.specs.Views.{ula_palette, ula_line}
use Rattle.ula_view.specs.Bounds.{shown_state}
use Rattle.ula_view.specs.declared.views.UlaLine.{UlaLine}
use Rattle.ula.specs.Lines.{row_dot, ula_dot}

pub twice : (pal : List ℕ) (b : Bool) → cond b pal pal ≡ pal
twice pal true = refl
twice pal false = refl

-- the dots of a line, from what it shows and its palette
pub dots-of : (u : Ula) (p : Palette) (ports : Ports) (frame : ℕ) (clip plus bank pal out : List ℕ) (line : LineNumber) (l : UlaLine)
    → out ≡ tab (row_dot l pal plus bank) 640 → l ≡ ula_line (shown_state u p ports frame clip plus pal) pal line
    → out ≡ tab (ula_dot (shown_state u p ports frame clip plus pal) bank line) 640
unfolding ula_dot ula_palette
dots-of u p ports frame clip plus bank pal out line l e d =
    e ∙ ap (λ (v : UlaLine). tab (row_dot v pal plus bank) 640) d
    ∙ ap (λ (c : List ℕ). tab (row_dot (ula_line (shown_state u p ports frame clip plus pal) c line) c plus bank) 640) (sym (twice pal (ula_second_shown p)))

-- of a state no other part shows, nor the palette that is not shown
pub shown-dots : (s : State) (pal bank : List ℕ) (line : LineNumber) → pal ≡ ula_palette s
    → ula_dot (shown_state s.ula s.palette s.ports s.frame s.ulaclip s.plus pal) bank line ≡ ula_dot s bank line
unfolding ula_dot ula_line ula_palette
shown-dots s pal bank line e =
    ap (λ (c : List ℕ). row_dot (ula_line s c line) c s.plus bank) (twice pal (ula_second_shown s.palette) ∙ e)
