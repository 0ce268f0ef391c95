-- Rules 2.1 and 2.4: the lines, and which of them run through the display.
use Rattle.std.specs.Prelude.{ℕ, ◌-◌, Bool, ◌&&◌, leb}
use Rattle.surface.specs.declared.lines.LineNumber.{LineNumber}

-- the line of a number, which a call in another language gives
abbrev pub numbered : ℕ → LineNumber
numbered n = record { 0 = n }

-- one line, 0 to 255
abbrev pub is_line : LineNumber → Bool
is_line l = leb l.0 255

-- the ULA display is lines 32..223
abbrev pub in_display : LineNumber → Bool
in_display l = leb 32 l.0 && leb l.0 223

-- a line's number in the display, 0 above it
abbrev pub display_line : LineNumber → ℕ
display_line l = l.0 - 32
