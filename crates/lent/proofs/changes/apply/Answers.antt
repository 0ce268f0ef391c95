-- Each change is the call of its kind, of a state that is lawful.
use mathlib.Core.Path.{sym, ap, ◌∙◌}
use Rattle.state.specs.Answer.{done}
use Rattle.frame.proofs.Claims.{frame-done}
use Rattle.register_laws.proofs.Calls.{write-row, port-row}
use Rattle.lent.specs.declared.changes.Change.{Change}
use Rattle.lent.specs.Calls.{changed}
use borrow.Author.Rules.{rules}
use Rattle.lent.proofs.changes.apply.Goals as goal

pub returns-in-NextFrame : goal.returns-in-NextFrame
returns-in-NextFrame c =
    c.accept.ensures ∙ ap done c.advance.ensures ∙ sym (frame-done c.args.s c.requires) ∙ ap (λ (x : Change). changed x c.args.s) (sym c.in-NextFrame.is)

pub returns-in-Register : goal.returns-in-Register
returns-in-Register c =
    c.write_numbered.ensures ∙ sym (write-row c.args.s _ _ c.requires) ∙ ap (λ (x : Change). changed x c.args.s) (sym c.in-Register.is)

pub returns-in-Port : goal.returns-in-Port
returns-in-Port c =
    c.write_at.ensures ∙ sym (port-row c.args.s _ _ c.requires) ∙ ap (λ (x : Change). changed x c.args.s) (sym c.in-Port.is)
