-- The case that applies is the one that is read, and the parts of a call lie behind its front.
use Rattle.std.proofs.Common.{ap, sym, subst, ◌∙◌}
use Rattle.rpc_message.specs.Message.{Whole}
use Rattle.c_messages.specs.Calls.{reported_of, case_status}
use Rattle.c_messages.specs.Parts.{LiesAt}
use Rattle.c_messages.specs.declared.calls.CallParts.{CallParts}
use Rattle.c_messages.proofs.Lying.{credential_lies, verifier_lies, arguments_lie, short_case}
use Rattle.c_messages.proofs.calls.read_call_parts.Goals as goal

pub reported-status-requires : goal.reported-status-requires
reported-status-requires c = short_case _ _ c.read_lent_call.ensures.found

pub returns-clause-only : goal.returns-clause-only
returns-clause-only c = λ k h.
    let e = c.read_lent_call.ensures.only k h in
    (c.reported-status.ensures.status ∙ ap case_status e, c.reported-status.ensures.parts ∙ ap reported_of e)

pub returns-clause-credential : goal.returns-clause-credential
returns-clause-credential c = λ k h.
    let e = c.reported-status.ensures.parts ∙ ap reported_of (c.read_lent_call.ensures.only (Whole k) h) in
    subst (λ (p : CallParts). LiesAt c.args.input.now p.credential k.cred.body) (sym e) (credential_lies k _ h)

pub returns-clause-verifier : goal.returns-clause-verifier
returns-clause-verifier c = λ k h.
    let e = c.reported-status.ensures.parts ∙ ap reported_of (c.read_lent_call.ensures.only (Whole k) h) in
    subst (λ (p : CallParts). LiesAt c.args.input.now p.verifier k.verf.body) (sym e) (verifier_lies k _ h)

pub returns-clause-arguments : goal.returns-clause-arguments
returns-clause-arguments c = λ k h.
    let e = c.reported-status.ensures.parts ∙ ap reported_of (c.read_lent_call.ensures.only (Whole k) h) in
    subst (λ (p : CallParts). LiesAt c.args.input.now p.arguments k.args) (sym e) (arguments_lie k _ h)
