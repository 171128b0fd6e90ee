-- The lines of all parts.
use Rattle.std.proofs.Common.{◌≡◌, ◌++◌, List, [], ap, sym, ◌∙◌, drop, rules}
use Rattle.std.specs.List.{flat_map}
use Rattle.std.proofs.lemmas.List.{append-nil, drop_all}
use Rattle.xdr_parts.specs.declared.part.Lent.{Lent}
use Rattle.xdr_show.specs.Private.Read.{line_lent}
use Rattle.xdr_show.proofs.lent.push_parts.Goals as goal

pub returns : goal.returns
returns c =
    let kinds = c.args.schema.now.kinds in
    let left : drop c.loop-part.part-index c.args.parts.now ≡ [] = search (rules, drop_all) in
    sym (append-nil c.loop-part.out.items)
    ∙ ap (λ (z : List Lent). c.loop-part.out.items ++ flat_map (line_lent kinds) z) (sym left)
    ∙ c.loop-part.invariant.reported
