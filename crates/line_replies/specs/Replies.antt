-- Rules 1.2, 2.5, 9.1 to 9.3, 9.5 to 9.8, 10.1 and 10.9: what a drawing is refused for, and in which order.
use Rattle.std.specs.Prelude.{ℕ, List, [], ◌∷◌, Bool, cond, ◌&&◌, eqb, leb}
use Rattle.reply.specs.Reply.{is_done}
use Rattle.reply.specs.First.{first_hit}
use Rattle.reply.specs.declared.Reply.{Reply}
use Rattle.reply.specs.declared.Reply.TheVariants.{Done, NoLine, BankLength, BufferLength, NoMode, LoresWithTiles, NextWithPlus, FarOffset}
use Rattle.state_bits.specs.Bits.{lores_on, next_on, ula_on, tilemap_on, columns80, width_of, x_offset}
use Rattle.state.specs.Lawful.{lawful_reply}
use Rattle.state.specs.declared.State.{State}
use Rattle.state.specs.declared.Ula.{Ula}
use Rattle.state.specs.declared.Tiles.{Tiles}
use Rattle.state.specs.declared.Palette.{Palette}
use Rattle.state.specs.declared.Ports.{Ports}
use Rattle.surface.specs.Lines.{is_line}
use Rattle.surface.specs.declared.lines.LineNumber.{LineNumber}
use Rattle.ula_mode.specs.Modes.{mode_of, is_missing}

-- 1: line above 255
unfoldable pub line_reply : LineNumber → Reply
line_reply line = cond (is_line line) Done NoLine

-- a bank is 16,384 bytes
abbrev pub is_bank : ℕ → Bool
is_bank n = eqb n 16384

-- 2: a bank not 16,384 long; 3: another lent buffer of the wrong length, which is the line of 640
unfoldable pub lengths_reply : ℕ → ℕ → ℕ → Reply
lengths_reply ula tile out = cond (is_bank ula && is_bank tile) (cond (eqb out 640) Done BufferLength) BankLength

-- 6: LoRes and tilemap both on
abbrev pub lores_with_tiles : Ula → Tiles → Bool
lores_with_tiles u t = lores_on u && tilemap_on t

-- 7: ULANext and ULAplus both on
abbrev pub next_with_plus : Palette → Ports → Bool
next_with_plus p ports = next_on p && ports.plus

-- 5: ULA on, LoRes off, no such mode
abbrev pub no_mode : Ula → Ports → Bool
no_mode u ports = ula_on u && is_missing (mode_of u ports)

-- 8: tilemap on, X offset at or above W
abbrev pub far_offset : Tiles → Bool
far_offset t = tilemap_on t && leb (width_of (columns80 t)) (x_offset t)

-- what the state alone is refused for: 6, 7, 5, 8
unfoldable pub state_reply : Ula → Tiles → Palette → Ports → Reply
state_reply u t p ports =
    cond (lores_with_tiles u t) LoresWithTiles
    (cond (next_with_plus p ports) NextWithPlus
    (cond (no_mode u ports) NoMode
    (cond (far_offset t) FarOffset Done)))

-- drawing: 1; 2, 3; 4; 6, 7, 5, 8
unfoldable pub draw_reply : LineNumber → ℕ → ℕ → ℕ → State → Reply
draw_reply line ula tile out s =
    first_hit (line_reply line ∷ lengths_reply ula tile out ∷ lawful_reply s ∷ state_reply s.ula s.tiles s.palette s.ports ∷ [])

-- a refused drawing leaves the line
unfoldable pub drawn_if : Reply → List ℕ → List ℕ → List ℕ
drawn_if r drawn out = cond (is_done r) drawn out
