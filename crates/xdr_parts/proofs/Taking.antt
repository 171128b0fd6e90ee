-- One part more is taken.
use Rattle.std.proofs.Common.{◌≡◌, ◌+◌, List, [], ◌∷◌, ◌++◌, true, length, sym, ap, ◌∙◌, arith}
use Rattle.std.proofs.lemmas.List.{length-append}
use Rattle.xdr_parts.specs.Counted.{capped}
use Rattle.xdr_parts.specs.Private.Taking.{TookOne}
use Rattle.xdr_parts.specs.declared.part.Lent.{Lent}
use Rattle.xdr_parts.specs.declared.taken.Taken.{Taken}
use Rattle.xdr_parts.proofs.Amounts.{names_more}

pub took : (t t' : Taken) (l : Lent) → t'.lists ≡ t.lists → t'.parts ≡ t.parts + 1
    → t'.names ≡ capped (t.names + length l.name.now)
    → (t.lists ≡ true → t'.list.items ≡ t.list.items ++ l ∷ []) → TookOne t l t'
took t t' l lists parts names list = record {
  lists_is = lists;
  more = parts;
  taken = λ ls h. record {
    parts = omega (arith, parts, h.parts, length-append ls (l ∷ []));
    names = omega (arith, names, h.names, names_more ls l);
    list = λ yes. list (sym lists ∙ yes) ∙ ap (λ (x : List Lent). x ++ l ∷ []) (h.list (sym lists ∙ yes));
  };
}
