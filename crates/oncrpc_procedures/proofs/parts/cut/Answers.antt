-- The text at its dots.
use Rattle.oncrpc_procedures.proofs.Cuts.{is_cut, no_first, no_more, no_second, one_reading}
use Rattle.oncrpc_procedures.proofs.parts.cut.Goals as goal

pub returns-in_err-program-clause-only : goal.returns-in_err-program-clause-only
returns-in_err-program-clause-only c = λ p cut.
    absurd (no_first c.args.text.now c.in_err-program.ensures p cut)

pub returns-in_err-version-clause-only : goal.returns-in_err-version-clause-only
returns-in_err-version-clause-only c = λ p cut.
    absurd (no_second c.args.text.now c.in_ok-program.program.now c.in_ok-program.rest.now
    c.in_ok-program.ensures.0 c.in_ok-program.ensures.1 c.in_err-version.ensures p cut)

pub returns-in-Some-clause-only : goal.returns-in-Some-clause-only
returns-in-Some-clause-only c = λ p cut.
    absurd (no_more c.args.text.now c.in_ok-program.program.now c.in_ok-program.rest.now c.in_ok-program.ensures.0
    c.in_ok-program.ensures.1 c.in_ok-version.version.now c.in_ok-version.procedure.now c.in_ok-version.ensures.0
    c.in_ok-version.ensures.1 c.in-Some._front.now c.in-Some._behind.now c.in-Some.ensures.1 p cut)

pub returns-in-None-clause-found : goal.returns-in-None-clause-found
returns-in-None-clause-found c =
    is_cut c.args.text.now c.in_ok-program.program.now c.in_ok-program.rest.now c.in_ok-program.ensures.0
    c.in_ok-program.ensures.1 c.in_ok-version.version.now c.in_ok-version.procedure.now c.in_ok-version.ensures.0
    c.in_ok-version.ensures.1 c.in-None.ensures

pub returns-in-None-clause-only : goal.returns-in-None-clause-only
returns-in-None-clause-only c = λ p cut.
    one_reading _ p c.args.text.now
    (is_cut c.args.text.now c.in_ok-program.program.now c.in_ok-program.rest.now c.in_ok-program.ensures.0
    c.in_ok-program.ensures.1 c.in_ok-version.version.now c.in_ok-version.procedure.now c.in_ok-version.ensures.0
    c.in_ok-version.ensures.1 c.in-None.ensures) cut
