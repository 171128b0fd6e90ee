use Rattle.std.proofs.Common.{◌≡◌, drop, map, []}
use Rattle.xdr_lang.specs.Distinct.{repeats}
use Rattle.std.specs.Ordering.{int_eq}
use Rattle.xdr_grammar.specs.Outline as out
use Rattle.xdr_grammar.specs.View as view
use Rattle.xdr_lang.proofs.distinct.numbers_repeat.Given as goal

abbrev pub invariant-loop-procedure : goal.invariant-loop-procedure
invariant-loop-procedure l = repeats int_eq l.before.keys
    (map (λ (p : out.Procedure). p.number) (map view.procedure_of (drop l.procedure-index l.procedures))) ≡
    repeats int_eq [] (map (λ (p : out.Procedure). p.number) (map view.procedure_of l.procedures))
