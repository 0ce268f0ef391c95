-- What the code tells, field by field, is the walk over the layout's parts: by computation, version by version. `n` is what the version adds, so
-- that a part after $33 stands n further than in version 1.
use mathlib.Core.Path.{◌≡◌}
use mathlib.Core.List.{List}
use mathlib.Core.Bool.{cond}
use Prim.Native.Nat.{ℕ, ◌+◌}
use lib.ListN.{length, take, drop, get_or}
use lib.Dec.{eqb, leb}
use Rattle.register_bounds.specs.Bounds.{half_fits, turn_fits, border_fits, select_fits, colour_fits}
use Rattle.record_layout.specs.declared.Version.{Version}
use Rattle.record_layout.specs.declared.Version.TheVariants.{Version1, Version2}
use Rattle.record_layout.specs.Fields.{pair}
use Rattle.record_layout.specs.Parts.{first_bad_row, first_bad_in}
use Rattle.record_layout.specs.Version.{added}
use Rattle.record_layout.specs.Layout.{before_scrolls, scrolls, after_scrolls}
use Rattle.record_layout.specs.Places.{parts_place, ula_turn_place, tile_turn_place, held_place, half_place, border_place, select_place, plus_on_place, ula_clip_place, ula_first_place, ula_second_place, tile_first_place, tile_second_place}
use Rattle.record_layout.specs.Record.{first_bad}
use Rattle.record_layout.proofs.Walk.{any-row}

module _ (b : List ℕ) (n : ℕ) where
  -- the byte and the place of a field that stands at k in version 1
  abbrev byte_at : ℕ → ℕ
  byte_at k = get_or b (k + n) 0

  abbrev colours : ℕ → ℕ → ℕ
  colours k next = first_bad_row pair 256 colour_fits b (k + n) next

  abbrev pub four_palettes : ℕ → ℕ
  four_palettes next =
      colours (ula_first_place Version1) (colours (ula_second_place Version1) (colours (tile_first_place Version1) (colours (tile_second_place Version1) next)))

  pub palettes-walk : (v : Version) (next : ℕ) → n ≡ added v → four_palettes next ≡ first_bad_in (drop 12 after_scrolls) b (ula_first_place v) next
  palettes-walk Version1 next e = rw e
  palettes-walk Version2 next e = rw e

  -- the fields after the clips, and before the tables
  abbrev pub seven_fields : ℕ → ℕ
  seven_fields next =
      cond (turn_fits (byte_at (ula_turn_place Version1)))
      (cond (turn_fits (byte_at (tile_turn_place Version1)))
      (cond (leb (byte_at (held_place Version1)) 1)
      (cond (half_fits (eqb (byte_at (held_place Version1)) 1) (byte_at (half_place Version1)))
      (cond (border_fits (byte_at (border_place Version1)))
      (cond (select_fits (byte_at (select_place Version1)))
      (cond (leb (byte_at (plus_on_place Version1)) 1) next (plus_on_place Version1 + n))
      (select_place Version1 + n)) (border_place Version1 + n)) (half_place Version1 + n)) (held_place Version1 + n)) (tile_turn_place Version1 + n)) (ula_turn_place Version1 + n)

  pub after-walk : (v : Version) (next : ℕ) → n ≡ added v → seven_fields next ≡ first_bad_in (take 9 (drop 2 after_scrolls)) b (ula_turn_place v) next
  after-walk Version1 next e = rw e
  after-walk Version2 next e = rw e

-- the whole walk: the parts up to $33, those of the version, those after the clips, and the palettes; the clips and the ULAplus registers are passed
pub whole-walk : (v : Version) (b : List ℕ)
    → first_bad_in before_scrolls b parts_place
    (first_bad_in (scrolls v) b (ula_clip_place Version1)
    (first_bad_in (take 9 (drop 2 after_scrolls)) b (ula_turn_place v) (first_bad_in (drop 12 after_scrolls) b (ula_first_place v) (length b))))
    ≡ first_bad v b
unfolding first_bad
whole-walk Version1 b = simp any-row
whole-walk Version2 b = simp any-row
