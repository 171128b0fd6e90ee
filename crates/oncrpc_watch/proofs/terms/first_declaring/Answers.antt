use Rattle.std.proofs.Common.{ap, arith, map, sym, ◌∙◌}
use Rattle.std.specs.Prelude.{◌==◌}
use Rattle.std.specs.List.{list_any}
use Rattle.xdr_lang.specs.Declarations.{Program}
use Rattle.xdr_lang.specs.Views.{declared_of, program_of}
use Rattle.oncrpc_watch.proofs.Texts.{is_first, is_later}
use Rattle.oncrpc_watch.proofs.terms.first_declaring.Goals as goal

pub returns-then-has_program : goal.returns-then-has_program
returns-then-has_program c =
    sym (is_first (declared_of c.args.declared.now) c.args.known.now c.loop-text.text-index c.text-item.result
    c.args.program (omega arith) c.text-item.is
    (sym (ap (λ k. list_any (λ (p : Program). p.number == c.args.program) (map program_of k)) c.as_slice.ensures.value)
    ∙ sym c.has_program.ensures ∙ c.if-has_program.true)) ∙ c.loop-text.invariant

pub loop-text-preserved : goal.loop-text-preserved
loop-text-preserved c =
    sym (is_later (declared_of c.args.declared.now) c.args.known.now c.loop-text.text-index c.text-item.result
    c.args.program (omega arith) c.text-item.is
    (sym (ap (λ k. list_any (λ (p : Program). p.number == c.args.program) (map program_of k)) c.as_slice.ensures.value)
    ∙ sym c.has_program.ensures ∙ c.if-has_program.false)) ∙ c.loop-text.invariant
