-- Each field tells its place, or what those behind it tell.
use borrow.Author.Rules.{rules}
use Rattle.record_faults.proofs.faults.bad_before_scrolls.Goals as goal

pub returns : goal.returns
returns c = cc
