-- The claims on addresses, by cases on the flag.
use Prim.Native.Nat.{ℕ, ◌+◌, ◌*◌, ◌≤◌, ◌<◌}
use mathlib.Core.Path.{◌≡◌}
use mathlib.Core.Bool.{Bool, true, false, cond}
use native.Mathlib.Omega.{arith}
use Rattle.tilemap_entries.specs.Entries.{entry_address}
use Rattle.tilemap_laws.specs.Claims.{CellNumbers, entry_size, EntryAddresses, EntriesApart}

pub cell_numbers : CellNumbers
cell_numbers true tx ty h k = record { most = omega arith; column = omega arith; row = omega arith }
cell_numbers false tx ty h k = record { most = omega arith; column = omega arith; row = omega arith }

sized : (single : Bool) (map cell : ℕ) → cond single (map + cell) (map + cell * 2) ≡ map + cell * entry_size single
sized true map cell = omega arith
sized false map cell = omega arith

pub entry_addresses : EntryAddresses
unfolding entry_address
entry_addresses t cell = sized t.single t.map cell

apart : (single : Bool) (map cell next : ℕ) → cell < next
    → cond single (map + cell) (map + cell * 2) + entry_size single ≤ cond single (map + next) (map + next * 2)
apart true map cell next h = omega arith
apart false map cell next h = omega arith

pub entries_apart : EntriesApart
unfolding entry_address
entries_apart t cell next h = apart t.single t.map cell next h
