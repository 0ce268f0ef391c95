-- Rules 3.10 to 3.12 and 3.14 to 3.17: $40 to $44, by which the four palettes are written and read.
use Rattle.std.specs.Prelude.{ℕ, ◌+◌, ◌*◌, ◌/◌, ◌%◌, cond, leb}
use Rattle.register_bounds.specs.Bounds.{is_mask, is_choice}
use Rattle.state.specs.declared.State.{State}
use Rattle.state.specs.declared.Answer.{Answer}
use Rattle.state.specs.Answer.{done}
use Rattle.state.specs.Groups.{palette_with_control, palette_with_index, palette_with_mask, palette_with_half, palette_without_half}
use Rattle.state.specs.With.{with_palette}
use Rattle.colour.specs.Bytes.{widened}
use Rattle.register_answers.specs.Answers.{if_fits}
use Rattle.register_colours.specs.Colours.{colour_put, colour_at}

-- $40: palette index; writing it drops a held half
abbrev pub index_written : State → ℕ → Answer
index_written s v = done (with_palette s (palette_without_half (palette_with_index s.palette v)))

-- $41: eight-bit colour; the ninth bit is the OR of its two blue bits
abbrev pub eight_written : State → ℕ → Answer
eight_written s v = done (colour_put s (widened v))

-- $42: ink mask, one of eight
abbrev pub mask_written : State → ℕ → Answer
mask_written s v = if_fits (is_mask v) (with_palette s (palette_with_mask s.palette v)) s

-- $43: bits 6-4 choose the palette written (000, 100, 011, 111 only); writing it drops a held half
abbrev pub control_written : State → ℕ → Answer
control_written s v = if_fits (is_choice v) (with_palette s (palette_without_half (palette_with_control s.palette v))) s

-- $44: first write held
abbrev pub nine_first : State → ℕ → Answer
nine_first s v = done (with_palette s (palette_with_half s.palette v))

-- $44: second write's bit 0 completes the colour as first × 2 + bit; its bits 7-1 are zero
abbrev pub nine_second : State → ℕ → Answer
nine_second s v = if_fits (leb v 1) (colour_put s (s.palette.half * 2 + v)) s

abbrev pub nine_written : State → ℕ → Answer
nine_written s v = cond s.palette.held (nine_second s v) (nine_first s v)

-- $41 reads colour div 2, as a byte
abbrev pub eight_read : State → ℕ
eight_read s = colour_at s / 2 % 256

-- $44 reads colour mod 2
abbrev pub nine_read : State → ℕ
nine_read s = colour_at s % 2
