-- What is counted is the mask, by arithmetic; its count of ones is its width, by the law of the masks; a byte has at most eight.
use Prim.Native.Nat.{ℕ, ◌^◌, suc-le-suc}
use mathlib.Core.Path.{ap, ◌∙◌}
use native.Mathlib.Omega.{arith}
use mir.Syntax.{w64}
use lib.Count.{ones, ones-le}
use borrow.Author.Rules.{rules, Fits-under}
use Rattle.ula_index.proofs.Masks.{mask-ones}
use Rattle.ula_index.proofs.index.ink_width.Goals as goal

pub overflow_cast-result : goal.overflow_cast-result
overflow_cast-result c = Fits-under w64 _ 9 (suc-le-suc (ones-le 8 _ (search rules))) tt

pub returns : goal.returns
returns c = (ap (λ (n : ℕ). 2 ^ ones n) (omega arith) ∙ mask-ones _ c.requires, ones-le 8 _ (search rules))
