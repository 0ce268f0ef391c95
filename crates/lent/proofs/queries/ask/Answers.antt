-- Each question is the read of its kind.
use mathlib.Core.Path.{sym, ap, ◌∙◌}
use Rattle.lent.specs.declared.queries.Query.{Query}
use Rattle.lent.specs.Calls.{asked}
use borrow.Author.Rules.{rules}
use Rattle.lent.proofs.queries.ask.Goals as goal

pub returns-in-Register : goal.returns-in-Register
returns-in-Register c = c.read_register.ensures ∙ ap (λ (q : Query). asked q c.args.s) (sym c.in-Register.is)

pub returns-in-Port : goal.returns-in-Port
returns-in-Port c = c.read_port.ensures ∙ ap (λ (q : Query). asked q c.args.s) (sym c.in-Port.is)
