-- Rules 3.29 and 12.2: the list of registers. What each row does stands in the definitions of `register_stored`, `register_clips` and
-- `register_palettes`.
use Rattle.std.specs.Prelude.{List, [], ◌∷◌, Ok}
use Rattle.register_answers.specs.Rows.{WriteRow, writes, ReadRow, reads}
use Rattle.register_stored.specs.Stored.{peripheral_written, transparent_written, layers_written, tile_xhigh_written, tile_xlow_written, tile_ywritten, ula_xwritten, ula_ywritten, lores_xwritten, lores_ywritten, fallback_written, tile_transparent_written, ula_control_written, tile_control_written, tile_attribute_written, map_written, definitions_written}
use Rattle.register_clips.specs.Clips.{ula_clip_written, tile_clip_written, turns_written, clip_next, turns_read}
use Rattle.register_palettes.specs.Palettes.{index_written, eight_written, mask_written, control_written, nine_written, eight_read, nine_read}

-- the registers, and what a write does to each
abbrev pub register_writes : List WriteRow
register_writes =
    writes 0x08 peripheral_written ∷
    writes 0x14 transparent_written ∷
    writes 0x15 layers_written ∷
    writes 0x1A ula_clip_written ∷
    writes 0x1B tile_clip_written ∷
    writes 0x1C turns_written ∷
    writes 0x26 ula_xwritten ∷
    writes 0x27 ula_ywritten ∷
    writes 0x2F tile_xhigh_written ∷
    writes 0x30 tile_xlow_written ∷
    writes 0x31 tile_ywritten ∷
    writes 0x32 lores_xwritten ∷
    writes 0x33 lores_ywritten ∷
    writes 0x40 index_written ∷
    writes 0x41 eight_written ∷
    writes 0x42 mask_written ∷
    writes 0x43 control_written ∷
    writes 0x44 nine_written ∷
    writes 0x4A fallback_written ∷
    writes 0x4C tile_transparent_written ∷
    writes 0x68 ula_control_written ∷
    writes 0x6B tile_control_written ∷
    writes 0x6C tile_attribute_written ∷
    writes 0x6E map_written ∷
    writes 0x6F definitions_written ∷
    []

-- what a read of each gives: the stored byte, but for the clips, their turns and the colours
abbrev pub register_reads : List ReadRow
register_reads =
    reads 0x08 (λ s. Ok s.ula.peripheral) ∷
    reads 0x14 (λ s. Ok s.ula.transparent) ∷
    reads 0x15 (λ s. Ok s.ula.layers) ∷
    reads 0x1A (λ s. Ok (clip_next s.ulaclip s.turns.ula)) ∷
    reads 0x1B (λ s. Ok (clip_next s.tileclip s.turns.tiles)) ∷
    reads 0x1C (λ s. Ok (turns_read s)) ∷
    reads 0x26 (λ s. Ok s.ula.x) ∷
    reads 0x27 (λ s. Ok s.ula.y) ∷
    reads 0x2F (λ s. Ok s.tiles.xhigh) ∷
    reads 0x30 (λ s. Ok s.tiles.xlow) ∷
    reads 0x31 (λ s. Ok s.tiles.y) ∷
    reads 0x32 (λ s. Ok s.ula.loresx) ∷
    reads 0x33 (λ s. Ok s.ula.loresy) ∷
    reads 0x40 (λ s. Ok s.palette.index) ∷
    reads 0x41 (λ s. Ok (eight_read s)) ∷
    reads 0x42 (λ s. Ok s.palette.mask) ∷
    reads 0x43 (λ s. Ok s.palette.control) ∷
    reads 0x44 (λ s. Ok (nine_read s)) ∷
    reads 0x4A (λ s. Ok s.ula.fallback) ∷
    reads 0x4C (λ s. Ok s.tiles.transparent) ∷
    reads 0x68 (λ s. Ok s.ula.control) ∷
    reads 0x6B (λ s. Ok s.tiles.control) ∷
    reads 0x6C (λ s. Ok s.tiles.attribute) ∷
    reads 0x6E (λ s. Ok s.tiles.map) ∷
    reads 0x6F (λ s. Ok s.tiles.definitions) ∷
    []
