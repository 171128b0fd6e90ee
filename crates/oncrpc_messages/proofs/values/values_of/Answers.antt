-- The values that are left are those of the bytes that are left.
use Rattle.std.proofs.Common.{◌≡◌, ℕ, ◌+◌, ◌-◌, ◌<◌, true, false, List, [], ◌∷◌, ◌++◌, length, take, drop}
use Rattle.std.proofs.Common.{refl, sym, ap, ◌∙◌, subst, inl, arith, rules}
use Rattle.std.proofs.lemmas.List.{append-nil, length-drop, nil_from_length, take_rest}
use Rattle.xdr_lang.specs.Views.{places}
use Rattle.oncrpc_messages.specs.declared.refusal.Why.TheVariants as why
use Rattle.oncrpc_messages.specs.declared.values.Step.{Step}
use Rattle.oncrpc_messages.specs.Private.Kept.{kept}
use Rattle.oncrpc_messages.specs.Private.Told.{AreKinds, TakesValue}
use Rattle.oncrpc_messages.specs.Values.{AreRefused, AreShown, between, shown_in}
use Rattle.oncrpc_messages.proofs.Kept.{kept_join, kept_none}
use Rattle.oncrpc_messages.proofs.Valued.{joined_text, none_left, one_left, place_at, refused_more, shown_more}
use Rattle.oncrpc_messages.proofs.values.values_of.Goals as goal

pub values-init : goal.values-init
values-init c =
    let b : List ℕ = c.args.bytes.now in
    record {
      shown = ([], c.new-text.ensures.items ∙ kept_none c.args.terms.now.show, λ t h. h);
      refused = λ w n h.
          let none : length b - length b + n ≡ n = omega arith in
          rw none h;
      known = c.requires;
      within = omega arith;
    }

pub values-preserved : goal.values-preserved
values-preserved c =
    let t = c.args.terms.now in
    let K = t.schema.now.kinds in
    let ids = c.args.kinds.now in
    let i : ℕ = c.values.index in
    let first = c.values.first in
    let rest : List ℕ = c.values.rest.now in
    let inv = c.values.invariant in
    let k : ℕ = place_at ids i in
    let ks : List ℕ = places (drop (i + 1) ids) in
    let old : List ℕ = c.values.text.items in
    let new : List ℕ = c.push_value.new.text.items in
    let used : ℕ = c.in-Taken.used in
    let step = subst (λ (s : Step). TakesValue t.show t.form K t.limits k first rest old new s) c.in-Taken.is
    c.in_ok-used.ensures in
    let printed : List ℕ = inv.shown.0 in
    let v = step.0 in
    let a : List ℕ = between t.form first in
    let b : List ℕ = shown_in t.form K k v in
    let left : places (drop i ids) ≡ k ∷ ks = one_left ids i c.values-test.true in
    let tail : take (length rest - used) (drop used rest) ≡ drop used rest = take_rest rest used in
    let within = step.2 in
    let made : new ≡ kept t.show (printed ++ (a ++ b)) = step.4
    ∙ ap (λ (x : List ℕ). x ++ kept t.show (a ++ b)) inv.shown.1 ∙ kept_join t.show printed (a ++ b) in
    record {
      shown = (
        printed ++ (a ++ b),
        made,
        λ u h.
            let own = subst (λ (x : List ℕ). AreShown t.form K t.limits false ks x u) tail h in
            let more = shown_more t.form K t.limits k ks rest used v step.1 step.2 step.3 first u own in
            let whole = inv.shown.2 (a ++ (b ++ u))
            (subst (λ (xs : List ℕ). AreShown t.form K t.limits first xs rest (a ++ (b ++ u))) (sym left) more) in
            subst (λ (x : List ℕ). AreShown t.form K t.limits true (places ids) c.args.bytes.now x)
            (joined_text printed (printed ++ (a ++ b)) a b u refl) whole,
      );
      refused = λ w n h.
          let own = subst (λ (x : List ℕ). AreRefused K t.limits ks x w n) tail h in
          let more = refused_more t.form K t.limits k ks rest used v step.1 step.2 step.3 w n own in
          let whole = inv.refused w (used + n)
          (subst (λ (xs : List ℕ). AreRefused K t.limits xs rest w (used + n)) (sym left) more) in
          let size : length (take (length rest - used) (drop used rest)) ≡ length rest - used =
          ap (λ (x : List ℕ). length x) tail ∙ length-drop used rest in
          let low = inv.within in
          subst (λ (m : ℕ). AreRefused K t.limits (places ids) c.args.bytes.now w m) (omega (arith, size, low, within))
          whole;
      known = (subst (λ (xs : List ℕ). AreKinds K xs) left inv.known).1;
      within =
          let size : length (take (length rest - used) (drop used rest)) ≡ length rest - used =
          ap (λ (x : List ℕ). length x) tail ∙ length-drop used rest in
          let low = inv.within in
          omega (arith, size, low);
    }

pub returns-in-Refused-clause-told : goal.returns-in-Refused-clause-told
returns-in-Refused-clause-told c =
    let t = c.args.terms.now in
    let K = t.schema.now.kinds in
    let ids = c.args.kinds.now in
    let i : ℕ = c.values.index in
    let rest : List ℕ = c.values.rest.now in
    let k : ℕ = place_at ids i in
    let ks : List ℕ = places (drop (i + 1) ids) in
    let f = c.in-Refused.fault in
    let step = subst
    (λ (s : Step). TakesValue t.show t.form K t.limits k c.values.first rest c.values.text.items
    c.push_value.new.text.items s)
    c.in-Refused.is c.in_ok-used.ensures in
    let left : places (drop i ids) ≡ k ∷ ks = one_left ids i c.values-test.true in
    c.values.invariant.refused (why.Bytes f.why) f.at
    (subst (λ (xs : List ℕ). AreRefused K t.limits xs rest (why.Bytes f.why) f.at) (sym left)
    (inl (record { fault = f; known = step.0; ends = step.1; why_is = refl; at_is = refl })))

pub returns-then-is_empty-clause-told : goal.returns-then-is_empty-clause-told
returns-then-is_empty-clause-told c =
    let t = c.args.terms.now in
    let K = t.schema.now.kinds in
    let ids = c.args.kinds.now in
    let rest : List ℕ = c.values.rest.now in
    let printed : List ℕ = c.values.invariant.shown.0 in
    let none : places (drop c.values.index ids) ≡ [] = none_left ids c.values.index (omega arith) in
    let size : length rest ≡ 0 = search (rules, arith) in
    let empty : rest ≡ [] = nil_from_length rest size in
    let whole = c.values.invariant.shown.2 []
    (subst (λ (xs : List ℕ). AreShown t.form K t.limits c.values.first xs rest []) (sym none) (empty, refl)) in
    let all = subst (λ (x : List ℕ). AreShown t.form K t.limits true (places ids) c.args.bytes.now x)
    (append-nil printed) whole in (printed, all, c.values.invariant.shown.1)

pub returns-else-is_empty-clause-told : goal.returns-else-is_empty-clause-told
returns-else-is_empty-clause-told c =
    let t = c.args.terms.now in
    let K = t.schema.now.kinds in
    let ids = c.args.kinds.now in
    let b : List ℕ = c.args.bytes.now in
    let rest : List ℕ = c.values.rest.now in
    let none : places (drop c.values.index ids) ≡ [] = none_left ids c.values.index (omega arith) in
    let some : 0 < length rest = search (rules, arith) in
    let whole = c.values.invariant.refused why.MoreFollows 0
    (subst (λ (xs : List ℕ). AreRefused K t.limits xs rest why.MoreFollows 0) (sym none) (refl, refl, some)) in
    let same : length b - length rest + 0 ≡ length b - length rest = omega arith in
    subst (λ (n : ℕ). AreRefused K t.limits (places ids) b why.MoreFollows n) same whole
