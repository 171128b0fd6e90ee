-- What is reported is the reply that was read, or its fault, and the results lie behind the verifier.
use Rattle.std.proofs.Common.{Ok, Err, refl, ap, sym, subst, ◌∙◌}
use Rattle.rpc_message.specs.View.{reply_view}
use Rattle.c_messages.specs.Replies.{reported_of, results_of}
use Rattle.c_messages.specs.Parts.{LiesAt}
use Rattle.c_messages.specs.declared.replies.ReplyParts.{ReplyParts}
use Rattle.c_messages.proofs.Lying.{results_lie}
use Rattle.c_messages.proofs.replies.read_reply_parts.Goals as goal

pub returns-in-Ok-clause-found : goal.returns-in-Ok-clause-found
returns-in-Ok-clause-found c = (Ok (reply_view c.in-Ok.value), c.in-Ok.ensures.found, refl, c.reported.ensures)

pub returns-in-Ok-clause-results : goal.returns-in-Ok-clause-results
returns-in-Ok-clause-results c = λ r h e.
    let same = c.reported.ensures ∙ ap reported_of (c.in-Ok.ensures.only r h) in
    subst (λ (p : ReplyParts). LiesAt c.args.input.now p.results (results_of r)) (sym same) (results_lie r _ h)

pub returns-in-Err-clause-found : goal.returns-in-Err-clause-found
returns-in-Err-clause-found c =
    (Err c.in-Err.fault, c.in-Err.ensures.fault, c.fault_status.ensures, c.bare.ensures)
