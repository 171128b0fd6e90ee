use Rattle.std.proofs.Common.{◌≡◌, ℕ, ℤ, ◌≤◌, ◌<◌, ◌&&◌, ◌^◌, map, length, Bool, true, false, sym, ap, ◌∙◌, subst, refl}
use Rattle.std.proofs.Common.{arith}
use Rattle.std.proofs.lemmas.Bool.{false≢true, and_parts}
use Rattle.std.proofs.lemmas.Result.{on_ok_weaker}
use Rattle.std.proofs.lemmas.List.{get_or_past}
use Rattle.xdr_types.specs.Kinds as xdr
use Rattle.xdr_types.specs.Kinds.{KindView, kind_at}
use Rattle.xdr_types.specs.KindViews.{kind_view, constant_of}
use Rattle.xdr_types.specs.Fits.{is_tag_of, is_signed, is_constant}
use Rattle.xdr_bounds.proofs.Picking.{adds_none, seen_illegal, boolean_listed}
use Rattle.xdr_bounds.proofs.unions.add_all.Goals as goal

pub returns-in-Bool : goal.returns-in-Bool
returns-in-Bool c = record {
  adds = c.add_listed.ensures.adds;
  seen = on_ok_weaker c.add_listed.result
      (λ seen z kind legal picks. seen z
      (boolean_listed z (subst (λ (k : KindView). is_tag_of k z ≡ true)
      (sym c.kind.ensures ∙ ap kind_view c.in-Bool.is) legal)) kind legal picks) c.add_listed.ensures.seen;
}

pub returns-in-Numbered-clause-seen : goal.returns-in-Numbered-clause-seen
returns-in-Numbered-clause-seen c =
    let members = c.in-Numbered.members.items in
    on_ok_weaker c.add_members.result
    (λ seen z kind legal picks.
    let numbered : is_tag_of (xdr.numbered (map constant_of members)) z ≡ true =
    subst (λ (k : KindView). is_tag_of k z ≡ true) (sym c.kind.ensures ∙ ap kind_view c.in-Numbered.is) legal in
    let listed : is_constant (map constant_of members) z ≡ true =
    (and_parts (is_signed (2 ^ 31) z) (is_constant (map constant_of members) z) numbered).1 in
    seen z (subst (λ xs. is_constant (map constant_of xs) z ≡ true) (sym c.deref.ensures.value) listed) kind legal
    picks)
    c.add_members.ensures.seen
