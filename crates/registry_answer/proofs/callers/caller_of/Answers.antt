use Rattle.std.proofs.Common.{sym, ap, subst, arith, is_some, true≢false, ℕ}
use Rattle.rpc_message.specs.View.{lent_view}
use Rattle.registry_answer.specs.Callers.{IsCaller, Owner, owner_of, anyone, user, unreadable, other}
use Rattle.registry_answer.proofs.callers.caller_of.Goals as goal

pub returns-in-0 : goal.returns-in-0
returns-in-0 c = anyone c.in-0.is

pub returns-in-Some : goal.returns-in-Some
returns-in-Some c =
    let found = c.in-Some.ensures.found in
    subst (λ (n : ℕ). IsCaller (lent_view c.args.cred.now) (Owner (owner_of n))) found.same
    (user found.body c.in-1.is found.spelled)

pub returns-in-None : goal.returns-in-None
returns-in-None c =
    unreadable c.in-1.is (λ a h. true≢false (sym (ap is_some (c.in-None.ensures.only a h))))

pub returns-in_default : goal.returns-in_default
returns-in_default c = other (omega arith)
