use Rattle.std.proofs.Common.{List, map, ap, subst, sym, ◌∙◌}
use Rattle.xdr_parts.specs.Lent.{entry_of, AreLentFrom}
use Rattle.xdr_parts.specs.declared.part.Lent.{Lent}
use Rattle.xdr_parts.proofs.listing.parts.Goals as goal

pub returns-clause-outcome : goal.returns-clause-outcome
returns-clause-outcome c =
    let o = c.in_ok-whole.ensures.whole in (
      o.0,
      c.in_ok-whole.whole.0,
      o.1,
      ap (λ (ls : List Lent). map entry_of ls) (o.2.taken.list c.in_ok-whole.ensures.lists) ∙ o.2.each,
    )

pub returns-clause-lent : goal.returns-clause-lent
returns-clause-lent c =
    let o = c.in_ok-whole.ensures.whole in
    subst (λ (ls : List Lent). AreLentFrom c.args.input.now ls) (sym (o.2.taken.list c.in_ok-whole.ensures.lists))
    o.2.from
