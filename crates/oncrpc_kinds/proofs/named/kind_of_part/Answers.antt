use Rattle.std.proofs.Common.{rules, ap, sym, ◌∙◌, option_map, slice_get, arith}
use Rattle.std.proofs.lemmas.Option.{slice_get-map}
use Rattle.xdr_types.specs.declared.kind.KindId.{KindId}
use Rattle.xdr_lang.specs.Views.{declared_of, procedure_of}
use Rattle.oncrpc_kinds.proofs.Procedures.{argument_named, item_copied}
use Rattle.oncrpc_kinds.proofs.named.kind_of_part.Goals as goal

pub returns-in_ok-before-in-Argument : goal.returns-in_ok-before-in-Argument
returns-in_ok-before-in-Argument c =
    let before = c.in_ok-before-in-Argument.before in
    argument_named (declared_of c.args.declared.now) c.args.name
    (procedure_of c.in_ok-procedure.procedure.now) c.in-Argument.number before
    (search rules) c.in-Argument.is (search (rules, arith)) _
    (ap (option_map (λ (k : KindId). k.place))
    (c.copied.ensures ∙ item_copied c.deref.result.now before c.get.result c.get.ensures.lookup ∙ ap
    (λ xs. slice_get xs before) c.deref.ensures.value)
    ∙ sym (slice_get-map (λ (k : KindId). k.place) c.in_ok-procedure.procedure.now.arguments.items before))
