-- Rules 3.6, 3.32, 4.3, 4.9 and 4.11: the byte of the bank that a pixel of the display reads, by the offsets.
use Rattle.std.specs.Prelude.{ℕ, ◌+◌, ◌*◌, ◌/◌, ◌%◌, cond}
use Rattle.state.specs.declared.Ula.{Ula}
use Rattle.ula_mode.specs.declared.modes.Mode.{Mode}
use Rattle.ula_mode.specs.Modes.{is_lores}
use Rattle.ula_scroll.specs.declared.scrolls.Scroll.{Scroll}

-- the offsets of the ULA and its Timex modes, $26 and $27
abbrev pub ula_scroll : Ula → Scroll
ula_scroll u = record { x = u.x; y = u.y }

-- LoRes's offsets, $32 and $33
abbrev pub lores_scroll : Ula → Scroll
lores_scroll u = record { x = u.loresx; y = u.loresy }

-- the offsets of a mode
unfoldable pub scroll_of : Mode → Ula → Scroll
scroll_of mode u = cond (is_lores mode) (lores_scroll u) (ula_scroll u)

-- x' of pixel x: the offset is rounded down to a multiple of 8
abbrev pub pixel_read : ℕ → ℕ → ℕ
pixel_read x offset = (x + offset / 8 * 8) % 256

-- y' of line y
abbrev pub line_read : ℕ → ℕ → ℕ
line_read y offset = (y + offset) % 192

-- mode 6: 512 dots, moved by twice the rounded offset
abbrev pub dot_read : ℕ → ℕ → ℕ
dot_read d offset = (d + 2 * (offset / 8 * 8)) % 512

-- LoRes: x' uses the whole offset
abbrev pub lores_read : ℕ → ℕ → ℕ
lores_read x offset = (x + offset) % 256
