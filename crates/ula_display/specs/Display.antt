-- Rules 4.12 and 4.21: LoRes, and the 512 dots of a line of the display.
use Rattle.std.specs.Prelude.{ℕ, ◌/◌, List, cond, get_or}
use Rattle.surface.specs.Dots.{shown, clipped}
use Rattle.ula_mode.specs.Modes.{is_lores, is_hires}
use Rattle.ula_scroll.specs.Scrolls.{lores_read}
use Rattle.ula_byte.specs.Bytes.{lores_address}
use Rattle.ula_scheme.specs.declared.schemes.Colours.{Colours}
use Rattle.ula_view.specs.declared.views.View.{View}
use Rattle.ula_cell.specs.Cells.{pixel_dot, hires_dot}

-- LoRes: the byte at row y' div 2, column x' div 2 is a ULA palette index, under ULAplus too
unfoldable pub lores_dot : View → Colours → List ℕ → List ℕ → ℕ → ℕ
lores_dot p l pal bank x =
    shown l.transparent (get_or pal (get_or bank (lores_address (p.row / 2) (lores_read x p.offset / 2)) 0) 0)

-- dot d of the display by its mode; a pixel is two dots
unfoldable pub mode_dot : View → Colours → List ℕ → List ℕ → List ℕ → ℕ → ℕ
mode_dot p l pal plus bank d =
    cond (is_lores p.mode) (lores_dot p l pal bank (d / 2))
    (cond (is_hires p.mode) (hires_dot p l pal plus bank d) (pixel_dot p l pal plus bank (d / 2)))

-- transparent outside the clip
unfoldable pub display_dot : View → Colours → List ℕ → List ℕ → List ℕ → ℕ → ℕ
display_dot p l pal plus bank d =
    cond p.visible (clipped (d / 2) p.left p.right (mode_dot p l pal plus bank d)) 512
