use Rattle.std.proofs.Common.{◌≡◌, List, Option, map, option_map, ap, sym, ◌∙◌, subst, ℤ, rules, to_z, of_z}
use mir.Syntax.{w128}
use Rattle.std.specs.Prelude.{IfSome}
use Rattle.xdr_types.specs.Kinds as xdr
use Rattle.xdr_types.specs.Kinds.{KindView, Part, Branch}
use Rattle.xdr_types.specs.KindViews.{kind_view, branch_of, part_of_member}
use Rattle.xdr_types.specs.declared.kind.Kind.{Kind}
use Rattle.xdr_writer.specs.Items as told
use Rattle.xdr_filling.specs.Private.Makes.{Makes}
use Rattle.xdr_filling.proofs.numbers.number_made.Goals as goal

pub returns-in-Choice : goal.returns-in-Choice
returns-in-Choice c =
    let s = c.args.schema.now.kinds in
    let arms : List Branch = map branch_of c.in-Choice.arms.items in
    let other : Option Part = option_map part_of_member c.in-Choice.other in
    let same : kind_view c.args.kind.now ≡ xdr.choice c.in-Choice.tag.place arms other =
    ap (λ (x : Kind). kind_view x) c.in-Choice.is in
    let wide : to_z w128 (of_z w128 c.args.number) ≡ c.args.number = search rules in
    subst (λ (k : KindView). IfSome c.choice_made.result (Makes s k (told.number c.args.number))) (sym same)
    (subst (λ (z : ℤ). IfSome c.choice_made.result (Makes s (xdr.choice c.in-Choice.tag.place arms other)
    (told.number z))) wide (c.choice_made.ensures arms other (sym c.requires ∙ same)))
