-- The part from there to the file's end, in the file itself.
use Prim.Native.Nat.{ℕ, ◌+◌, ◌-◌}
use mathlib.Core.Path.{ap}
use lib.ListN.{length}
use Rattle.scr.proofs.Read.{part-told}
use borrow.Author.Rules.{rules}
use Rattle.scr.proofs.reading.part.Goals as goal

pub returns : goal.returns
returns c =
    let a = c.args in
    let k = c.colours_size in (
      part-told a.file.now a.on k.result k.ensures.0,
      ap (λ (n : ℕ). (a.file.ref_ptr.0, length a.file.now - n + a.file.ref_ptr.1)) k.ensures.0,
    )
