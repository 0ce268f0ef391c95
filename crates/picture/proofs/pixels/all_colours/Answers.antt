-- The answer is yes where each dot is a colour, and only there.
use Rattle.std.proofs.Common.{◌≡◌, ◌≤◌, ◌↔◌, IsTrue, EachIndex, slice_index, arith, rules}
use borrow.Author.Tests.{le-leb, leb-true}
use Rattle.lists.proofs.Search.{all-decided}
use Rattle.picture.proofs.pixels.all_colours.Goals as goal

pub returns : goal.returns
returns c =
    let d = c.args.dots.now in
    let h : IsTrue c.all.result ↔ EachIndex d (λ k. slice_index d k ≤ 511) = search rules in
    all-decided _ 640 c.all.result (λ e k l. le-leb _ _ (h.0 e k (omega arith))) (λ f. h.1 (λ k l. leb-true _ _ (f k (omega arith))))
