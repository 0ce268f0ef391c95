-- `list` stores a cell with its transpose, its mark and its slots.
use Rattle.pack_search.proofs.Listing.{listed_more, slotted-older, slotted-more}
use native.Mathlib.Omega.{arith}
use mathlib.Core.Path.{refl, ap}
use Prim.Native.Nat.{ℕ, ◌+◌, ◌%◌}
use lib.ListN.{set, get_or, length-set}
use borrow.Author.Rules.{rules}
use Rattle.pack_search.proofs.search.Table.list.Goals as goal

pub returns : goal.returns
returns c =
    let a = c.args in
    let s = a.self.now in
    let p = c.requires in
    let m = c.mark-ours.ensures in
    let t = c.transpose.ensures in (
      refl,
      ap (set s.transposes s.count) t,
      ap (set s.marks s.count) m,
      ap (λ (k : ℕ). set (set s.slots (k % 4096 + 4096) (get_or s.slots (k % 4096) 0)) (k % 4096) (s.count + 1)) m,
      refl,
      record {
        listed = listed_more s.pixels s.transposes s.marks s.count a.cell.now _ c.mark-ours.result p.0.listed p.1 t m;
        slotted =
            slotted-more s.pixels _ s.count a.cell.now (slotted-older s.pixels s.slots s.count _ _ p.0.slotted) _ _ p.0.listed.pixels-length p.1
            (ap (λ (k : ℕ). k % 4096) m) (omega arith) p.2;
      },
    )
