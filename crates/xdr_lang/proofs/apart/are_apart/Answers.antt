use Rattle.std.proofs.Common.{◌∷◌, [], map, refl, sym, ◌∙◌}
use Rattle.std.specs.Prelude.{codes}
use Rattle.xdr_grammar.specs.Outline as out
use Rattle.xdr_grammar.specs.View.{program_of}
use Rattle.xdr_constants.specs.Names.{names}
use Rattle.xdr_constants.specs.Views.{knowns}
use Rattle.xdr_lang.specs.Views.{types_of}
use Rattle.xdr_lang.specs.Private.Tables.{type_names}
use Rattle.xdr_lang.proofs.Sharing.{all_apart, was_not}
use Rattle.xdr_lang.proofs.apart.are_apart.Goals as goal

pub returns : goal.returns
returns c = λ yes.
    let others = c.in_ok-others.ensures in
    all_apart (codes "TRUE" ∷ codes "FALSE" ∷ []) (names (knowns c.args.known.now.list.items))
    (type_names (types_of c.args.types.now.list.items))
    (map (λ (p : out.Program). p.name) (map program_of c.args.programs.now)) (c.if-not-are_apart.ensures refl)
    (c.if-not-are_apart-2.ensures refl) (sym (rw c.deref.ensures.value at c.if-types_share.ensures))
    (sym (rw (c.deref-3.ensures.value, others) at c.in_ok-again.ensures) ∙ was_not c.in_ok-again.again yes)
    (sym (rw (c.deref-2.ensures.value, others) at c.if-constants_share.ensures))
    (sym (rw (c.deref-else-constants_share.ensures.value, others) at c.if-names_share.ensures))
