-- Where $26 and $27 are $32 and $33 both scrolls are one, and nothing else of a line looks at them.
use Prim.Native.Nat.{ℕ}
use mathlib.Core.Path.{◌≡◌, refl, ap}
use mathlib.Core.Bool.{Bool, true, false, cond}
use mathlib.Core.List.{List}
use Rattle.lists.specs.Tab.{tab}
use Rattle.state.specs.declared.State.{State}
use Rattle.state.specs.declared.Ula.{Ula}
use Rattle.state.specs.declared.Ports.{Ports}
use Rattle.state.specs.Groups.{ula_with_x, ula_with_y}
use Rattle.state.specs.With.{with_ula}
use Rattle.surface.specs.Lines.{display_line}
use Rattle.surface.specs.Dots.{top_dot}
use Rattle.colour.specs.Bytes.{widened}
use Rattle.surface.specs.declared.lines.LineNumber.{LineNumber}
use Rattle.ula_mode.specs.declared.modes.Mode.{Mode}
use Rattle.ula_mode.specs.Modes.{mode_of, is_lores}
use Rattle.ula_scroll.specs.Scrolls.{scroll_of}
use Rattle.ula_scheme.specs.Schemes.{colours_of}
use Rattle.ula_view.specs.Views.{ula_palette, view_of, border_of, ula_line}
use Rattle.ula_view.specs.declared.views.UlaLine.{UlaLine}
use Rattle.ula.specs.Lines.{row_dot, ula_dot}
use Rattle.line_dots.specs.Compose.{composed, stencil_on}
use Rattle.line.specs.Lines.{tile_palette, tile_dot_of, composed_dot, line_dot, drawn_line}
use Rattle.version_laws.specs.OneScroll.{one_scroll_view, one_scroll_line, one_scroll_drawn}

-- the registers with $26 and $27 as given
abbrev pub ula_moved : Ula → ℕ → ℕ → Ula
ula_moved u x y = ula_with_y (ula_with_x u x) y

either : {A : Type 0} (b : Bool) (a : A) → cond b a a ≡ a
either true a = refl
either false a = refl

scroll-same : (mode : Mode) (u : Ula) → scroll_of mode (ula_moved u u.loresx u.loresy) ≡ record { x = u.loresx; y = u.loresy }
unfolding scroll_of
scroll-same mode u = either (is_lores mode) (record { x = u.loresx; y = u.loresy })

view-same : (u : Ula) (ports : Ports) (clip : List ℕ) (y : ℕ) → view_of (ula_moved u u.loresx u.loresy) ports clip y ≡ one_scroll_view u ports clip y
unfolding view_of mode_of
view-same u ports clip y = rw (scroll-same (mode_of u ports) u)

-- the finished line, by what it shows of the ULA
abbrev drawn_by : State → List ℕ → List ℕ → LineNumber → UlaLine → List ℕ
drawn_by s ula tile line u =
    tab (λ (k : ℕ). top_dot (composed (stencil_on s.ula s.tiles) (tile_palette s) (row_dot u (ula_palette s) s.plus ula k) (tile_dot_of s tile line k)) (widened s.ula.fallback)) 640

module _ (s : State) (x y : ℕ) where
  abbrev moved : State
  moved = with_ula s (ula_moved s.ula x y)

  -- what a line shows of a state but for its scroll
  line-alone : (pal : List ℕ) (line : LineNumber) → one_scroll_line moved pal line ≡ one_scroll_line s pal line
  unfolding ula_line view_of mode_of border_of colours_of
  line-alone pal line = refl

  pub drawn-alone : (ula tile : List ℕ) (line : LineNumber) → one_scroll_drawn moved ula tile line ≡ one_scroll_drawn s ula tile line
  unfolding one_scroll_drawn ula_palette tile_palette tile_dot_of
  drawn-alone ula tile line = ap (drawn_by s ula tile line) (line-alone (ula_palette s) line)

module _ (s : State) where
  abbrev old : State
  old = moved s s.ula.loresx s.ula.loresy

  line_same : (pal : List ℕ) (line : LineNumber) → ula_line old pal line ≡ one_scroll_line s pal line
  unfolding ula_line border_of colours_of
  line_same pal line = rw (view-same s.ula s.ports s.ulaclip (display_line line))

  pub drawn-same : (ula tile : List ℕ) (line : LineNumber) → drawn_line old ula tile line ≡ one_scroll_drawn s ula tile line
  unfolding one_scroll_drawn drawn_line line_dot composed_dot ula_dot ula_palette tile_palette tile_dot_of
  drawn-same ula tile line = ap (drawn_by s ula tile line) (line_same (ula_palette s) line)
