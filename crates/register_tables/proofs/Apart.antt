-- No register but $41 and $44 touches a palette: a write to a whole state is the write to its registers, row by row.
use mathlib.Core.Path.{◌≡◌, refl, sym, ap, ◌∙◌}
use mathlib.Core.Bool.{Bool, false}
use Prim.Native.Nat.{ℕ, ◌/◌, ◌%◌}
use lib.Dec.{leb, eqb}
use Rattle.state.specs.declared.Ula.{Ula}
use Rattle.state.specs.declared.Tiles.{Tiles}
use Rattle.state.specs.declared.Palette.{Palette}
use Rattle.reply.specs.declared.Reply.TheVariants.{NoRegister}
use Rattle.state.specs.Answer.{done, refused}
use Rattle.state.specs.Groups.{ula_with_transparent, ula_with_layers, ula_with_peripheral, ula_with_fallback, ula_with_control, ula_with_x, ula_with_y, ula_with_lores_x, ula_with_lores_y, tiles_with_transparent, tiles_with_control, tiles_with_attribute, tiles_with_xhigh, tiles_with_xlow, tiles_with_y, tiles_with_map, tiles_with_definitions, palette_with_control, palette_with_index, palette_with_mask, palette_without_half, turns_with_ula, turns_with_tiles}
use Rattle.state.specs.With.{with_ula, with_tiles, with_palette, with_turns}
use Rattle.register_bounds.specs.Bounds.{offset_yfits, tile_transparent_fits, ula_control_fits, tile_control_fits, x_high_fits, is_mask, is_choice}
use Rattle.register_parts.specs.declared.Palettes.{Palettes}
use Rattle.register_parts.specs.declared.Registers.{Registers}
use Rattle.register_parts.specs.declared.Written.{Written}
use Rattle.register_parts.specs.Parts.{state_with, bare, written_of, answer_with}
use Rattle.register_answers.specs.Answers.{if_fits}
use Rattle.register_answers.specs.Rows.{write_by}
use Rattle.register_answers.proofs.Apart.{Apart, none, ◌▷◌, ◌▸◌, judged, rows_apart}
use Rattle.register_clips.specs.Clips.{ula_clip_written, tile_clip_written, restarted, turns_written}
use Rattle.register_tables.specs.Tables.{register_writes}

-- ---- effects on one group, always or where the value fits

ula : (f : Ula → ℕ → Ula) → Apart (λ s v. done (with_ula s (f s.ula v)))
ula f = record { apart = λ g pal v. refl }

tiles : (f : Tiles → ℕ → Tiles) → Apart (λ s v. done (with_tiles s (f s.tiles v)))
tiles f = record { apart = λ g pal v. refl }

palette : (f : Palette → ℕ → Palette) → Apart (λ s v. done (with_palette s (f s.palette v)))
palette f = record { apart = λ g pal v. refl }

ula-if : (fits : ℕ → Bool) (f : Ula → ℕ → Ula) → Apart (λ s v. if_fits (fits v) (with_ula s (f s.ula v)) s)
ula-if fits f = record { apart = λ g pal v. judged pal (fits v) (with_ula (bare g) (f g.ula v)) (bare g) }

tiles-if : (fits : ℕ → Bool) (f : Tiles → ℕ → Tiles) → Apart (λ s v. if_fits (fits v) (with_tiles s (f s.tiles v)) s)
tiles-if fits f = record { apart = λ g pal v. judged pal (fits v) (with_tiles (bare g) (f g.tiles v)) (bare g) }

palette-if : (fits : ℕ → Bool) (f : Palette → ℕ → Palette) → Apart (λ s v. if_fits (fits v) (with_palette s (f s.palette v)) s)
palette-if fits f = record { apart = λ g pal v. judged pal (fits v) (with_palette (bare g) (f g.palette v)) (bare g) }

-- ---- the clips and their turns

ula-clip : Apart ula_clip_written
ula-clip = record { apart = λ g pal v. refl }

tile-clip : Apart tile_clip_written
tile-clip = record { apart = λ g pal v. refl }

turns : Apart turns_written
turns = record {
  apart = λ g pal v.
      judged pal (leb v 15) (with_turns (bare g) (turns_with_tiles (turns_with_ula g.turns (restarted (v / 4 % 2) g.turns.ula)) (restarted (v / 8 % 2) g.turns.tiles))) (bare g);
}

-- ---- the table

pub registers-apart : (g : Registers) (pal : Palettes) (n v : ℕ) → eqb n 0x41 ≡ false → eqb n 0x44 ≡ false
    → write_by register_writes (state_with g pal) n v ≡ answer_with (written_of (write_by register_writes (bare g) n v)) pal
registers-apart g pal n v eight nine =
    rows_apart pal n register_writes
    (ula ula_with_peripheral
    ▷ ula ula_with_transparent
    ▷ ula ula_with_layers
    ▷ ula-clip
    ▷ tile-clip
    ▷ turns
    ▷ ula ula_with_x
    ▷ ula-if offset_yfits ula_with_y
    ▷ tiles-if x_high_fits tiles_with_xhigh
    ▷ tiles tiles_with_xlow
    ▷ tiles tiles_with_y
    ▷ ula ula_with_lores_x
    ▷ ula-if offset_yfits ula_with_lores_y
    ▷ palette (λ p w. palette_without_half (palette_with_index p w))
    ▷ eight
    ▸ palette-if is_mask palette_with_mask
    ▷ palette-if is_choice (λ p w. palette_without_half (palette_with_control p w))
    ▷ nine
    ▸ ula ula_with_fallback
    ▷ tiles-if tile_transparent_fits tiles_with_transparent
    ▷ ula-if ula_control_fits ula_with_control
    ▷ tiles-if tile_control_fits tiles_with_control
    ▷ tiles tiles_with_attribute
    ▷ tiles (λ t w. tiles_with_map t (w % 64))
    ▷ tiles (λ t w. tiles_with_definitions t (w % 64))
    ▷ none)
    g v

-- an arm of the match on numbers: a register that stores no colour
pub bare_arm : (g : Registers) (pal : Palettes) (n k v : ℕ) (w : Written) → n ≡ k → eqb k 0x41 ≡ false → eqb k 0x44 ≡ false
    → w ≡ written_of (write_by register_writes (bare g) k v) → answer_with w pal ≡ write_by register_writes (state_with g pal) n v
bare_arm g pal n k v w e eight nine made =
    ap (λ (x : Written). answer_with x pal) made ∙ sym (registers-apart g pal k v eight nine)
    ∙ ap (λ (m : ℕ). write_by register_writes (state_with g pal) m v) (sym e)

-- the last arm: a number that there is no register of
pub no_arm : (g : Registers) (pal : Palettes) (n v : ℕ) (w : Written) → w ≡ written_of (refused NoRegister (bare g))
    → write_by register_writes (state_with g pal) n v ≡ refused NoRegister (state_with g pal) → answer_with w pal ≡ write_by register_writes (state_with g pal) n v
no_arm g pal n v w made missing = ap (λ (x : Written). answer_with x pal) made ∙ sym missing
