-- Rules 3.11, 3.13 to 3.15, 3.17 and 12.4: a colour of the four palettes where $40 and $43 point, and what storing one does.
use Rattle.std.specs.Prelude.{ℕ, ◌+◌, ◌%◌, cond, List, ◌==◌, slice_index, slice_set}
use Rattle.register_bounds.specs.Bounds.{choice_of}
use Rattle.state.specs.declared.State.{State}
use Rattle.state_bits.specs.Bits.{index_stays}
use Rattle.state.specs.Groups.{palette_with_index, palette_without_half}
use Rattle.state.specs.With.{with_palette, with_ula_first, with_ula_second, with_tile_first, with_tile_second}

-- the palette of a choice: 000 ULA first, 100 ULA second, 011 tilemap first, 111 tilemap second
abbrev pub palette_at : ℕ → State → List ℕ
palette_at n s = cond (n == 0) s.ulafirst (cond (n == 4) s.ulasecond (cond (n == 3) s.tilefirst s.tilesecond))

abbrev pub with_palette_at : ℕ → State → List ℕ → State
with_palette_at n s l = cond (n == 0) (with_ula_first s l) (cond (n == 4) (with_ula_second s l) (cond (n == 3) (with_tile_first s l) (with_tile_second s l)))

-- $43: which palette is written
abbrev pub palette_choice : State → ℕ
palette_choice s = choice_of s.palette.control

abbrev pub colour_stored : State → ℕ → ℕ → ℕ → State
colour_stored s n i c = with_palette_at n s (slice_set (palette_at n s) i c)

-- the colour at the index in the palette written
abbrev pub colour_at : State → ℕ
colour_at s = slice_index (palette_at (palette_choice s) s) s.palette.index

-- add one to the index unless $43 bit 7 is set; after index 255 comes index 0
abbrev pub next_index : ℕ → ℕ → ℕ
next_index control i = cond (index_stays control) i ((i + 1) % 256)

-- a colour stored at the index in the palette written, the index moved and no half held
abbrev pub colour_put : State → ℕ → State
colour_put s c =
    let p = s.palette in
    with_palette (colour_stored s (palette_choice s) p.index c) (palette_without_half (palette_with_index p (next_index p.control p.index)))
