use Rattle.std.proofs.Common.{List, length, map, ap, subst, sym, ◌∙◌}
use Rattle.std.proofs.lemmas.List.{length-map}
use Rattle.xdr_types.specs.Layout.{Entry}
use Rattle.xdr_parts.specs.Counted.{capped, names_of}
use Rattle.xdr_parts.specs.Lent.{entry_of, AreLentFrom}
use Rattle.xdr_parts.specs.declared.part.Lent.{Lent}
use Rattle.xdr_parts.proofs.listing.sized_parts.Goals as goal

pub returns-clause-outcome : goal.returns-clause-outcome
returns-clause-outcome c =
    let o = c.in_ok-whole.ensures.whole in
    let list = o.2.taken.list c.in_ok-whole.ensures.lists in
    record {
      value = o.0;
      whole = o.1;
      each = ap (λ (ls : List Lent). map entry_of ls) list ∙ o.2.each;
      from = subst (λ (ls : List Lent). AreLentFrom c.args.input.now ls) (sym list) o.2.from;
      parts = o.2.taken.parts ∙ sym (length-map o.2.lent entry_of) ∙ ap (λ (es : List Entry). length es) o.2.each;
      names = o.2.taken.names ∙ ap (λ (es : List Entry). capped (length (names_of es))) o.2.each;
    }
