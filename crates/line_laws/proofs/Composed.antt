-- A dot before the fallback is at most 512, a colour or transparent: every choice that makes one keeps it so.
use Prim.Native.Nat.{ℕ, ◌+◌, ◌-◌, ◌*◌, ◌/◌, ◌%◌, ◌≤◌, ◌<◌}
use native.Mathlib.Nat.{le_trans}
use native.Mathlib.Omega.{arith}
use mathlib.Core.Path.{◌≡◌}
use mathlib.Core.List.{List}
use mathlib.Core.Bool.{Bool, true, cond, ◌&&◌, ◌||◌}
use lib.ListN.{get_or}
use lib.Bits.{bit_and, and_le_l}
use lib.Dec.{eqb}
use Rattle.lists.proofs.Cond.{either}
use Rattle.colour.specs.Bytes.{plus_colour}
use Rattle.colour.proofs.Widened.{widened-most}
use Rattle.state_bits.specs.Bits.{ula_second_shown, tile_second_shown}
use Rattle.state.specs.declared.State.{State}
use Rattle.state.specs.Lawful.{all_colours, lawful_state}
use Rattle.state.specs.Typed.{Typed}
use Rattle.state.proofs.Colours.{colour-at}
use Rattle.state.proofs.Kept.{lawful-kept}
use Rattle.surface.specs.Dots.{inside, shown, clipped, top_dot}
use Rattle.surface.specs.declared.lines.LineNumber.{LineNumber}
use Rattle.ula_mode.specs.Modes.{is_lores, is_hires}
use Rattle.ula_scheme.specs.declared.schemes.Colours.{Colours}
use Rattle.ula_scheme.specs.declared.schemes.Scheme.{Scheme}
use Rattle.ula_scheme.specs.declared.schemes.Scheme.TheVariants.{Plain, Next, Plus}
use Rattle.ula_scheme.specs.Schemes.{colours_of}
use Rattle.ula_index.specs.Index.{ink_shown, bit_index, paperless}
use Rattle.ula_attribute.specs.Colours.{colour_at, paper_colour, bit_colour, bit_dot, border_dot}
use Rattle.ula_view.specs.declared.views.View.{View}
use Rattle.ula_view.specs.declared.views.UlaLine.{UlaLine}
use Rattle.ula_view.specs.Views.{ula_palette, border_of, ula_line}
use Rattle.ula_cell.specs.Cells.{pixel_dot, hires_dot}
use Rattle.ula_display.specs.Display.{lores_dot, mode_dot, display_dot}
use Rattle.ula.specs.Lines.{in_dots, row_dot, ula_dot}
use Rattle.tilemap.specs.Dots.{TileDot, clear, shows}
use Rattle.line_dots.specs.Compose.{tile_colour, ula_upper, stencilled, composed, stencil_on}
use Rattle.line.specs.Lines.{tile_palette, tile_dot_of, composed_dot}
use Rattle.line.specs.Shown.{ShownBytes}

-- one of two that are at most n
one_of : (n : ℕ) (b : Bool) (x y : ℕ) → x ≤ n → y ≤ n → cond b x y ≤ n
one_of n = either (λ d. d ≤ n)

-- ---- colours

-- red, green, and two bits of blue with its third
three-parts : (r g b l : ℕ) → r < 8 → g < 8 → b < 4 → l < 2 → r * 64 + g * 8 + b * 2 + l ≤ 511
three-parts r g b l hr hg hb hl = omega arith

plus-colour : (b : ℕ) → b < 256 → plus_colour b ≤ 511
plus-colour b h = three-parts (b / 4 % 8) (b / 32) (b % 4) (b % 2) (omega arith) (omega arith) (omega arith) (omega arith)

-- a colour as a dot
shown-dot : (t c : ℕ) → c ≤ 511 → shown t c ≤ 512
unfolding shown
shown-dot t c h = one_of 512 (eqb (c / 2) t) 512 c (omega arith) (omega arith)

-- ---- the ULA's dots, for a palette and ULAplus registers that hold colours and bytes

module _ (l : Colours) (pal plus : List ℕ) (fallback : l.fallback ≤ 511) (colours : all_colours pal ≡ true) (bytes : (i : ℕ) → get_or plus i 0 < 256) where
  scheme-colour : (k : Scheme) (i : ℕ) → colour_at k pal plus i ≤ 511
  scheme-colour Plain i = colour-at pal i colours
  scheme-colour Next i = colour-at pal i colours
  scheme-colour Plus i = plus-colour (get_or plus i 0) (bytes i)

  paper-colour : (i : ℕ) → paper_colour l pal plus i ≤ 511
  unfolding paper_colour
  paper-colour i = one_of 511 (paperless l.scheme l.mask) l.fallback (colour_at l.scheme pal plus i) fallback (scheme-colour l.scheme i)

  bit-dot : (a bit : ℕ) → bit_dot l pal plus a bit ≤ 512
  unfolding bit_dot bit_colour
  bit-dot a bit =
      let i = bit_index l.scheme l.mask l.swap a bit in
      shown-dot l.transparent (bit_colour l pal plus a bit)
      (one_of 511 (ink_shown l.scheme l.swap a bit) (colour_at l.scheme pal plus i) (paper_colour l pal plus i) (scheme-colour l.scheme i) (paper-colour i))

  border-dot : (hires : Bool) (a border : ℕ) → border_dot l pal plus hires a border ≤ 512
  unfolding border_dot
  border-dot hires a border = shown-dot l.transparent _ (paper-colour _)

  mode-dot : (p : View) (bank : List ℕ) (d : ℕ) → mode_dot p l pal plus bank d ≤ 512
  unfolding mode_dot lores_dot hires_dot pixel_dot
  mode-dot p bank d =
      one_of 512 (is_lores p.mode) _ _ (shown-dot l.transparent _ (colour-at pal _ colours))
      (one_of 512 (is_hires p.mode) _ _ (bit-dot _ _) (bit-dot _ _))

  display-dot : (p : View) (bank : List ℕ) (d : ℕ) → display_dot p l pal plus bank d ≤ 512
  unfolding display_dot clipped
  display-dot p bank d =
      one_of 512 p.visible _ 512 (one_of 512 (inside (d / 2) p.left p.right) (mode_dot p l pal plus bank d) 512 (mode-dot p bank d) (omega arith)) (omega arith)

row-dot : (u : UlaLine) (pal plus bank : List ℕ) → u.colours.fallback ≤ 511 → u.border ≤ 512 → all_colours pal ≡ true → ((i : ℕ) → get_or plus i 0 < 256)
    → (k : ℕ) → row_dot u pal plus bank k ≤ 512
unfolding row_dot
row-dot u pal plus bank f b c p k =
    one_of 512 u.on _ 512
    (one_of 512 (u.display && in_dots k) (display_dot u.view u.colours pal plus bank (k - 64)) u.border (display-dot u.colours pal plus f c p u.view bank (k - 64)) b)
    (omega arith)

-- ---- both layers

top-dot : (u t : ℕ) → u ≤ 512 → t ≤ 512 → top_dot u t ≤ 512
unfolding top_dot
top-dot u t p q = one_of 512 (eqb u 512) t u q p

tile-colour : (pal : List ℕ) → all_colours pal ≡ true → (d : TileDot) → tile_colour pal d ≤ 512
unfolding tile_colour
tile-colour pal c clear = omega arith
tile-colour pal c (shows index above) = omega (arith, colour-at pal index c)

composed-dot : (stencil : Bool) (pal : List ℕ) (u : ℕ) (d : TileDot) → all_colours pal ≡ true → u ≤ 512 → composed stencil pal u d ≤ 512
unfolding composed stencilled
composed-dot stencil pal u d c p =
    let t = tile_colour pal d in
    let q = tile-colour pal c d in
    one_of 512 stencil _ _ (one_of 512 (eqb u 512 || eqb t 512) 512 (bit_and u t) (omega arith) (le_trans (and_le_l u t) p))
    (one_of 512 (ula_upper d) (top_dot u t) (top_dot t u) (top-dot u t p q) (top-dot t u q p))

module _ (s : State) (bytes : ShownBytes s) (lawful : lawful_state s ≡ true) where
  ula-colours : all_colours (ula_palette s) ≡ true
  unfolding ula_palette
  ula-colours =
      let k = lawful-kept s lawful in
      either (λ p. all_colours p ≡ true) (ula_second_shown s.palette) s.ulasecond s.ulafirst k.ulasecond k.ulafirst

  tile-colours : all_colours (tile_palette s) ≡ true
  unfolding tile_palette
  tile-colours =
      let k = lawful-kept s lawful in
      either (λ p. all_colours p ≡ true) (tile_second_shown s.tiles) s.tilesecond s.tilefirst k.tilesecond k.tilefirst

  fallback : (colours_of s.ula s.palette s.ports s.frame).fallback ≤ 511
  unfolding colours_of
  fallback = widened-most s.ula.fallback bytes.fallback

  ula-dot : (bank : List ℕ) (line : LineNumber) (k : ℕ) → ula_dot s bank line k ≤ 512
  unfolding ula_dot ula_line border_of
  ula-dot bank line k =
      row-dot (ula_line s (ula_palette s) line) (ula_palette s) s.plus bank fallback
      (border-dot (colours_of s.ula s.palette s.ports s.frame) (ula_palette s) s.plus fallback ula-colours bytes.plus _ _ _) ula-colours bytes.plus k

  -- a dot before the fallback is a colour or transparent
  pub composed-most : (ula tile : List ℕ) (line : LineNumber) (k : ℕ) → composed_dot s ula tile line k ≤ 512
  unfolding composed_dot
  composed-most ula tile line k = composed-dot (stencil_on s.ula s.tiles) (tile_palette s) (ula_dot s ula line k) (tile_dot_of s tile line k) tile-colours (ula-dot ula line k)

pub typed-bytes : (s : State) → Typed s → ShownBytes s
typed-bytes s typed = record { fallback = typed.ula.fallback; plus = typed.plus.below }
