-- Pairs of bytes read as numbers: one more is right, and what a pair says of a colour, whose high byte is the first.
use mathlib.Core.Path.{◌≡◌, sym, ap, ◌∙◌}
use mathlib.Core.List.{List}
use mathlib.Core.Bool.{Bool, ◌&&◌}
use Prim.Native.Nat.{ℕ, ◌+◌, ◌*◌, ◌/◌, ◌%◌, ◌≤◌, ◌<◌}
use native.Mathlib.Omega.{arith}
use borrow.Author.Count.{below_more}
use lib.Dec.{leb}
use lib.ListN.{length, drop, get_or, set}
use lib.Seq.{get_or-set_same, get_or-set_other}
use Rattle.lists.proofs.Tab.{get_or-tab, length-tab}
use Rattle.state.specs.Lawful.{all_colours}
use Rattle.state.proofs.Colours.{colours-more, colours-end}
use Rattle.record_layout.specs.Fields.{pair, field_at, row_at}
use Rattle.record_layout.proofs.BadAt.{high_byte_lem}
use Rattle.record_colours.specs.LowFirst.{LowFirst, AllLowFirst}

pub pairs-more : (b ps : List ℕ) (at i x y : ℕ) → i < length ps → x ≡ get_or b (at + 2 * i) 0 → y ≡ get_or b (at + 2 * i + 1) 0 → x < 256 → y < 256
    → AllLowFirst b at ps i → AllLowFirst b at (set ps i (x + y * 256)) (i + 1)
pairs-more b ps at i x y l ex ey hx hy h =
    below_more (λ (k : ℕ). LowFirst (get_or b (at + 2 * k) 0) (get_or b (at + 2 * k + 1) 0) (get_or (set ps i (x + y * 256)) k 0)) i
    (λ k g. rw (get_or-set_other ps i k (x + y * 256) 0 (omega (arith, g))) (h k g))
    (rw (get_or-set_same ps i (x + y * 256) 0 l) (record { low = omega (arith, ex); high = omega (arith, ey); small = omega arith }))

pub colour-of : (b : List ℕ) (o v : ℕ) → LowFirst (get_or b o 0) (get_or b (o + 1) 0) v → v % 256 * 256 + v / 256 ≡ field_at pair b o
colour-of b o v p = rw (p.low, p.high)

-- the test of a palette goes on by one colour
pub palette-more : (b : List ℕ) (at i v : ℕ) (ok : Bool) → i < 256 → LowFirst (get_or b (at + 2 * i) 0) (get_or b (at + 2 * i + 1) 0) v
    → all_colours (row_at pair 256 b at) ≡ (ok && all_colours (drop i (row_at pair 256 b at)))
    → all_colours (row_at pair 256 b at) ≡ ((ok && leb (v % 256) 1) && all_colours (drop (i + 1) (row_at pair 256 b at)))
palette-more b at i v ok h p e =
    let f : ℕ → ℕ = λ (k : ℕ). field_at pair b (at + 2 * k) in
    let t : leb (get_or (row_at pair 256 b at) i 0) 511 ≡ leb (v % 256) 1 =
    ap (λ (c : ℕ). leb c 511) (get_or-tab f 256 i h ∙ sym (colour-of b (at + 2 * i) v p)) ∙ high_byte_lem (v % 256) (v / 256) (omega (arith, p.small)) in
    colours-more (row_at pair 256 b at) i ok (omega (arith, length-tab f 256, h)) e
    ∙ ap (λ (q : Bool). (ok && q) && all_colours (drop (i + 1) (row_at pair 256 b at))) t

pub palette-end : (b : List ℕ) (at i : ℕ) (ok : Bool) → 256 ≤ i
    → all_colours (row_at pair 256 b at) ≡ (ok && all_colours (drop i (row_at pair 256 b at))) → ok ≡ all_colours (row_at pair 256 b at)
palette-end b at i ok h e = colours-end (row_at pair 256 b at) i ok (omega (arith, length-tab (λ (k : ℕ). field_at pair b (at + 2 * k)) 256)) e
