use Rattle.std.proofs.Common.{List, length, ap, sym, ◌∙◌}
use Rattle.std.proofs.lemmas.List.{length-map}
use Rattle.xdr_types.specs.Layout.{Entry}
use Rattle.xdr_parts.specs.Counted.{capped, names_of}
use Rattle.xdr_parts.specs.Lent.{entry_of}
use Rattle.xdr_parts.proofs.counting.count_parts.Goals as goal

pub returns-clause-outcome : goal.returns-clause-outcome
returns-clause-outcome c =
    let o = c.in_ok-whole.ensures.whole in
    record {
      value = o.0;
      whole = o.1;
      lent = o.2.lent;
      each = o.2.each;
      from = o.2.from;
      parts = o.2.taken.parts ∙ sym (length-map o.2.lent entry_of) ∙ ap (λ (es : List Entry). length es) o.2.each;
      names = o.2.taken.names ∙ ap (λ (es : List Entry). capped (length (names_of es))) o.2.each;
    }
