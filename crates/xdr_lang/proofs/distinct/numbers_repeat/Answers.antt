use Rattle.std.proofs.Common.{rules, subst, ◌≡◌, ◌<◌, ◌+◌, ℤ, List, [], ◌∷◌, map, length, drop, drop-cons, add-one}
use Rattle.std.proofs.Common.{get_or, refl, sym, ap, ◌∙◌, arith}
use mir.Val.{to_z, of_z}
use mir.Syntax.{w128}
use Rattle.xdr_grammar.specs.declared.outline.Procedure.{Procedure}
use Rattle.std.specs.Ordering.{int_eq}
use Rattle.xdr_grammar.specs.Outline as out
use Rattle.xdr_grammar.specs.View.{procedure_of}
use Rattle.xdr_lang.specs.Distinct.{repeats}
use Rattle.xdr_lang.proofs.Sets.{was_absent, was_there, by_number, goes_on, is_twice}
use Rattle.xdr_lang.proofs.distinct.numbers_repeat.Goals as goal

abbrev numbers_of : List Procedure → List ℤ
numbers_of ps = map (λ (p : out.Procedure). p.number) (map procedure_of ps)

pub returns-then-not-branch : goal.returns-then-not-branch
returns-then-not-branch c =
    let lt : c.loop-procedure.procedure-index < length c.args.procedures.now = omega arith in
    let first : drop c.loop-procedure.procedure-index c.args.procedures.now ≡ get_or c.args.procedures.now
    c.loop-procedure.procedure-index c.procedure-item.result ∷ drop
    (c.loop-procedure.procedure-index + 1) c.args.procedures.now = rw
    (add-one, drop-cons c.args.procedures.now c.loop-procedure.procedure-index c.procedure-item.result) refl in
    let cut : drop c.loop-procedure.procedure-index c.args.procedures.now ≡ c.procedure-item.result ∷ drop
    (c.loop-procedure.procedure-index + 1) c.args.procedures.now = first
    ∙ ap (λ (p : Procedure). p ∷ drop (c.loop-procedure.procedure-index + 1) c.args.procedures.now)
    (sym c.procedure-item.is) in
    let so_far : repeats int_eq c.loop-procedure.before.keys
    (numbers_of (drop c.loop-procedure.procedure-index c.args.procedures.now)) ≡ repeats int_eq []
    (numbers_of c.args.procedures.now) = c.loop-procedure.invariant in
    let same : to_z w128 (of_z w128 c.procedure-item.result.number.value) ≡ c.procedure-item.result.number.value =
    search rules in
    is_twice by_number c.loop-procedure.before (to_z w128 (of_z w128 c.procedure-item.result.number.value))
    (numbers_of (drop (c.loop-procedure.procedure-index + 1) c.args.procedures.now))
    (repeats int_eq [] (numbers_of c.args.procedures.now))
    (was_there _ _ c.in_ok-insert.ensures.added c.if-not-branch.true)
    (subst (λ (k : ℤ). repeats int_eq c.loop-procedure.before.keys
    (k ∷ numbers_of (drop (c.loop-procedure.procedure-index + 1) c.args.procedures.now)) ≡ repeats int_eq []
    (numbers_of c.args.procedures.now)) (sym same) (rw cut at so_far))

pub loop-procedure-preserved : goal.loop-procedure-preserved
loop-procedure-preserved c =
    let lt : c.loop-procedure.procedure-index < length c.args.procedures.now = omega arith in
    let first : drop c.loop-procedure.procedure-index c.args.procedures.now ≡ get_or c.args.procedures.now
    c.loop-procedure.procedure-index c.procedure-item.result ∷ drop
    (c.loop-procedure.procedure-index + 1) c.args.procedures.now = rw
    (add-one, drop-cons c.args.procedures.now c.loop-procedure.procedure-index c.procedure-item.result) refl in
    let cut : drop c.loop-procedure.procedure-index c.args.procedures.now ≡ c.procedure-item.result ∷ drop
    (c.loop-procedure.procedure-index + 1) c.args.procedures.now = first
    ∙ ap (λ (p : Procedure). p ∷ drop (c.loop-procedure.procedure-index + 1) c.args.procedures.now)
    (sym c.procedure-item.is) in
    let so_far : repeats int_eq c.loop-procedure.before.keys
    (numbers_of (drop c.loop-procedure.procedure-index c.args.procedures.now)) ≡ repeats int_eq []
    (numbers_of c.args.procedures.now) = c.loop-procedure.invariant in
    let same : to_z w128 (of_z w128 c.procedure-item.result.number.value) ≡ c.procedure-item.result.number.value =
    search rules in
    goes_on by_number c.loop-procedure.before c.insert.new.self
    (to_z w128 (of_z w128 c.procedure-item.result.number.value))
    (numbers_of (drop (c.loop-procedure.procedure-index + 1) c.args.procedures.now))
    (repeats int_eq [] (numbers_of c.args.procedures.now))
    (was_absent _ _ c.in_ok-insert.ensures.added c.if-not-branch.false) c.in_ok-insert.ensures.updates
    (subst (λ (k : ℤ). repeats int_eq c.loop-procedure.before.keys
    (k ∷ numbers_of (drop (c.loop-procedure.procedure-index + 1) c.args.procedures.now)) ≡ repeats int_eq []
    (numbers_of c.args.procedures.now)) (sym same) (rw cut at so_far))
