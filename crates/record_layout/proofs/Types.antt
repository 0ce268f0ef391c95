-- The state in bytes is of its types: each field is a byte or a pair of bytes.
use mathlib.Core.Path.{◌≡◌, refl}
use mathlib.Core.Bool.{Bool, true, false}
use mathlib.Core.List.{List}
use Prim.Native.Nat.{ℕ, ◌+◌, ◌*◌, ◌≤◌, ◌<◌}
use native.Mathlib.Omega.{arith}
use lib.Dec.{ltb}
use lib.ListN.{length, get_or, get_or-eq_default}
use borrow.Author.Tests.{ltb-true, ltb-false}
use Rattle.lists.specs.Bytes.{Bytes}
use Rattle.lists.specs.Tab.{tab}
use Rattle.lists.proofs.Tab.{length-tab, get_or-tab}
use Rattle.state.specs.Typed.{Numbers, Typed}
use Rattle.record_layout.specs.Fields.{byte, pair, field_at, row_at}
use Rattle.record_layout.specs.declared.Version.{Version}
use Rattle.record_layout.specs.declared.Version.TheVariants.{Version1, Version2}
use Rattle.record_layout.specs.Places.{lores_xplace, lores_yplace, ula_xplace, ula_yplace, ula_clip_place}
use Rattle.record_layout.specs.Record.{state_as}
use Rattle.record_layout.proofs.From.{state_from}

numbers-tab : (f : ℕ → ℕ) (n bound : ℕ) → 0 < bound → ((i : ℕ) → f i < bound) → Numbers n bound (tab f n)
numbers-tab f n bound z h = record { long = length-tab f n; below = λ i. go i (ltb i n) refl }
  where
    go : (i : ℕ) (b : Bool) → ltb i n ≡ b → get_or (tab f n) i 0 < bound
    go i true e = rw (get_or-tab f n i (ltb-true i n e)) (h i)
    go i false e =
        let l : length (tab f n) ≤ i = omega (arith, length-tab f n, ltb-false i n e) in
        rw (get_or-eq_default (tab f n) 0 l) z

module _ (b : List ℕ) (y : Bytes b) where
  row-bytes : (n at : ℕ) → Numbers n 256 (row_at byte n b at)
  row-bytes n at = numbers-tab (λ (i : ℕ). field_at byte b (at + 1 * i)) n 256 (omega arith) (λ i. y (at + 1 * i))

  row-pairs : (at : ℕ) → Numbers 256 65536 (row_at pair 256 b at)
  row-pairs at =
      numbers-tab (λ (i : ℕ). field_at pair b (at + 2 * i)) 256 65536 (omega arith) (λ i. omega (arith, y (at + 2 * i), y (at + 2 * i + 1)))

  typed-from : (x k at : ℕ) → Typed (state_from b x k at)
  typed-from x k at = record {
    ula = record { transparent = y _; layers = y _; peripheral = y _; fallback = y _; control = y _; x = y _; y = y _; loresx = y _; loresy = y _ };
    tiles = record { transparent = y _; control = y _; attribute = y _; xhigh = y _; xlow = y _; y = y _; map = y _; definitions = y _ };
    palette = record { control = y _; index = y _; mask = y _; half = y _ };
    turns = record { ula = y _; tiles = y _ };
    ports = record { border = y _; timex = y _; select = y _ };
    frame = y _;
    ulaclip = row-bytes 4 _;
    tileclip = row-bytes 4 _;
    plus = row-bytes 64 _;
    ulafirst = row-pairs _;
    ulasecond = row-pairs _;
    tilefirst = row-pairs _;
    tilesecond = row-pairs _;
  }

  pub state-typed : (v : Version) → Typed (state_as v b)
  unfolding state_as
  state-typed Version1 = typed-from lores_xplace lores_yplace (ula_clip_place Version1)
  state-typed Version2 = typed-from (ula_xplace Version2) (ula_yplace Version2) (ula_clip_place Version2)
