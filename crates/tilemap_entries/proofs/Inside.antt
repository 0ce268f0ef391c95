-- Below 16,384 a fetched byte is the bank's. Whoever sets a map and definitions within the bank uses `fetched` by this alone.
use Prim.Native.Nat.{ℕ, ◌<◌}
use mathlib.Core.Path.{◌≡◌, ap}
use mathlib.Core.List.{List}
use native.Mathlib.Nat.{mod-eq_of_lt}
use lib.ListN.{get_or}
use Rattle.tilemap_entries.specs.Entries.{fetched}

pub fetched-inside : (bank : List ℕ) (at : ℕ) → at < 16384 → fetched bank at ≡ get_or bank at 0
unfolding fetched
fetched-inside bank at h = ap (λ (i : ℕ). get_or bank i 0) (mod-eq_of_lt h)
