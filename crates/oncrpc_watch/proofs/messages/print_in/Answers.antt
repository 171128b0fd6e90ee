use Rattle.std.proofs.Common.{inl}
use Rattle.oncrpc_watch.proofs.Errors.{err_more}
use Rattle.oncrpc_watch.proofs.messages.print_in.Goals as goal

pub returns-in-None-clause-prints : goal.returns-in-None-clause-prints
returns-in-None-clause-prints g c = rw c.in-None.is c.print_one.ensures.prints

pub returns-in-None-clause-part : goal.returns-in-None-clause-part
returns-in-None-clause-part g c = rw c.in-None.is c.print_one.ensures.part

pub returns-in-None-clause-fails : goal.returns-in-None-clause-fails
returns-in-None-clause-fails g c = rw c.in-None.is (err_more _ _ _ (λ f h. inl h) c.print_one.ensures.fails)

pub returns-in-Some-clause-prints : goal.returns-in-Some-clause-prints
returns-in-Some-clause-prints g c = rw c.in-Some.is c.print_both.ensures.prints

pub returns-in-Some-clause-part : goal.returns-in-Some-clause-part
returns-in-Some-clause-part g c = rw c.in-Some.is c.print_both.ensures.part

pub returns-in-Some-clause-fails : goal.returns-in-Some-clause-fails
returns-in-Some-clause-fails g c = rw c.in-Some.is c.print_both.ensures.fails
