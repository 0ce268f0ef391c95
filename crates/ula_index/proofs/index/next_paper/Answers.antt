-- A shift by the width divides by 2 to it, which is the mask and 1.
use mathlib.Core.Path.{◌≡◌, ap}
use Prim.Native.Nat.{ℕ, ◌+◌, ◌/◌, ◌<◌}
use native.Mathlib.Omega.{arith}
use Rattle.ula_index.proofs.Past.{mask-some, past_bound}
use borrow.Author.Rules.{rules}
use Rattle.ula_index.proofs.index.next_paper.Goals as goal

pub overflow_add-result : goal.overflow_add-result
overflow_add-result c =
    let g : c.from.result / (c.args.mask + 1) < 128 = past_bound _ _ (search rules) (mask-some _ c.requires.0) in
    rw c.ink_width-n.ensures.0 (omega arith)

pub returns : goal.returns
returns c =
    let m = c.args.mask in
    let q : c.from.result / (m + 1) ≡ c.args.a / (m + 1) = ap (λ (n : ℕ). n / (m + 1)) c.from.ensures in
    let g : c.from.result / (m + 1) < 128 = past_bound _ _ (search rules) (mask-some _ c.requires.0) in
    rw c.ink_width-n.ensures.0 (omega arith, omega arith)
