use Rattle.std.proofs.Common.{◌≡◌, ◌<◌, List, [], ◌∷◌, ap, ◌∙◌, sym, subst, arith, map, length, get_or}
use Rattle.std.proofs.lemmas.List.{length-append}
use Rattle.xdr_types.specs.Kinds.{KindView, kind_at}
use Rattle.xdr_types.specs.KindViews.{kind_view}
use Rattle.xdr_types.specs.Private.Sets.{IsReached}
use Rattle.xdr_types.specs.declared.kind.Kind.{Kind}
use Rattle.xdr_types.proofs.InSets.{pushed}
use Rattle.xdr_types.proofs.Marks.{kind-read}
use Rattle.xdr_types.proofs.reach.reached_defaults.Goals as goal

pub loop-kind-preserved : goal.loop-kind-preserved
loop-kind-preserved c =
    let ks = c.args.kinds.now.items in
    let all = map kind_view ks in
    let place = c.loop-kind.kind-index in
    let k = c.kind-item.result in
    let r = c.in_ok-is_default_reached.field-0 in
    let within : place < length ks = subst
    (λ (z : List Kind). place < length z) c.deref-kind-items.ensures.value c.loop-kind-test.true in
    let is : k ≡ get_or ks place k = c.kind-item.is
    ∙ ap (λ (z : List Kind). get_or z place k) c.deref-kind-items.ensures.value in
    let here : IsReached all (kind_at all place) r =
    subst (λ (f : KindView). IsReached all f r)
    (sym (kind-read ks place k within is)) c.in_ok-is_default_reached.ensures.reached in
    record {
      all = c.in_ok-is_default_reached.ensures.all;
      numbers = c.in_ok-is_default_reached.ensures.numbers;
      lengths = omega (
        arith,
        ap length c.in_ok-push.ensures.items,
        length-append c.loop-kind.reached.items
            (r ∷ []),
        c.loop-kind.invariant.lengths,
      );
      each = pushed (λ i x. IsReached all (kind_at all i) x) c.loop-kind.reached.items c.push.new.self.items r
          c.in_ok-push.ensures.items c.loop-kind.invariant.each
          (subst (λ i. IsReached all (kind_at all i) r) (sym c.loop-kind.invariant.lengths) here);
    }
