use Rattle.std.proofs.Common.{inl, inr, sym, ◌∙◌}
use Rattle.xdr_bounds.proofs.most.is_due.Goals as goal

pub returns-then-is_at-clause-settled : goal.returns-then-is_at-clause-settled
returns-then-is_at-clause-settled c = λ e. inl (sym c.is_at.ensures ∙ c.if-is_at.true)

pub returns-clause-waiting : goal.returns-clause-waiting
returns-clause-waiting c = λ e. sym c.is_at.ensures ∙ c.if-is_at.false

pub returns-clause-ready : goal.returns-clause-ready
returns-clause-ready c = λ e. sym c.is_ready.ensures ∙ e

pub returns-clause-settled : goal.returns-clause-settled
returns-clause-settled c = λ e. inr (sym c.is_ready.ensures ∙ e)
