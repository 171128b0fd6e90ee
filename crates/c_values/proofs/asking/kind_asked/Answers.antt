-- A name names one kind at most, which the schema has.
use Rattle.std.proofs.Common.{◌≡◌, ℕ, ◌<◌, List, length, subst, sym}
use Rattle.std.proofs.lemmas.Bool.{false≢true}
use Rattle.xdr_lang.specs.Views.{declared_of}
use Rattle.oncrpc_kinds.specs.Naming as naming
use Rattle.c_values.proofs.asking.kind_asked.Goals as goal

pub returns-in_default-kind_named : goal.returns-in_default-kind_named
returns-in_default-kind_named c = record {
  none = λ text place names.
      let d = declared_of c.args.declared.now in
      let same : c.in-Some.kind.place ≡ place = c.in-Some.ensures.only place
      (subst (λ (n : List ℕ). naming.Names n d place) (sym c.in-Ok.ensures.cases.0) names.named) in
      false≢true (c.if-has.ensures.1 (subst (λ (p : ℕ). p < length d.schema.kinds) (sym same) names.known));
}

pub returns-in_default-kind_named-2 : goal.returns-in_default-kind_named-2
returns-in_default-kind_named-2 c = record {
  none = λ text place names.
      c.in_default-kind_named.ensures.only place
      (subst (λ (n : List ℕ). naming.Names n (declared_of c.args.declared.now) place) (sym c.in-Ok.ensures.cases.0)
      names.named);
}
