use Rattle.std.proofs.Common.{◌≡◌, ◌-◌, ◌+◌, ◌++◌, ◌<◌, ◌≤◌, ℕ, ℤ, List, [], ◌∷◌, Option, Some, None, suc, map}
use Rattle.std.proofs.Common.{option_map, refl, ap, sym, subst, ◌∙◌, append_assoc, arith, lit<, rules, drop, replicate}
use Rattle.std.proofs.Common.{inl, inr, w64, to_z, of_z}
use Rattle.std.proofs.lemmas.Int.{to_z-of_z}
use Rattle.std.proofs.lemmas.List.{drop_all}
use Rattle.std.proofs.lemmas.Option.{none-some}
use Rattle.json.specs.Json.{Json, array, member, object}
use Rattle.json.specs.Token.{Token, begin_array, begin_object, end_array, end_object, key}
use Rattle.json.specs.Tree.{items_tokens, json_tokens, members_tokens}
use Rattle.json.specs.Value.{items_of}
use Rattle.xdr_types.proofs.Joining.{fields-at}
use Rattle.xdr_types.specs.declared.kind.Member.{Member}
use Rattle.xdr_types.specs.Fits.{item_part, part_in, part_of}
use Rattle.xdr_types.specs.Kinds as xdr
use Rattle.xdr_types.specs.Kinds.{KindView, Part, kind_at}
use Rattle.xdr_types.specs.KindViews.{branch_of, kind_view, part_of_member}
use Rattle.xdr_types.specs.Outcome.{number_in}
use Rattle.xdr_types.specs.Spelling.{spelling}
use Rattle.xdr_json.specs.Mapping.{arm_members, case_key, content_json, field_members, jsons, json_of, tag_json}
use Rattle.xdr_json.specs.Private.Standing.{Stands, StandEach, Says}
use Rattle.xdr_json.proofs.Fronts.{array_json, below, counted_at, many_at, node_of, optional_at, said_of, union_at}
use Rattle.xdr_laws.proofs.Numbers.{unit_of}
use Rattle.xdr_json.proofs.Going.{fields_end, fields_more, if_ok, items_begin, items_end, items_more, some_is}
use Rattle.xdr_json.proofs.Going.{union_tokens}
use Rattle.xdr_json.proofs.encoded.+push.Goals as goal

pub push_array-loop-init : goal.push_array-loop-init
push_array-loop-init t c = record {
  layout = c.in_ok-token.ensures.layout;
  going = λ vs rest d e.
      items_begin c.args.schema.now.kinds (item_part c.args.item.place) c.args.count c.args.most c.args.bytes.now vs
      rest c.token.new.self.tokens d e;
}

pub push_array-loop-preserved : goal.push_array-loop-preserved
push_array-loop-preserved t c =
    let S = c.args.schema.now.kinds in
    let next : c.args.count - c.loop.counter ≡ suc (c.args.count - (c.loop.counter + 1)) = omega
    (arith, c.loop-test.true) in
    record {
      layout = c.in_ok-rest.ensures.layout ∙ c.loop.invariant.layout;
      going = λ vs rest d e.
          items_more S (item_part c.args.item.place) (c.args.count - c.loop.counter)
          (c.args.count - (c.loop.counter + 1)) c.args.most c.loop.rest.now _ rest c.loop.out.tokens
          c.push_node.new.out.tokens _ next (c.loop.invariant.going vs rest d e) c.in_ok-rest.ensures.told;
    }

pub push_array-returns-clause-told : goal.push_array-returns-clause-told
push_array-returns-clause-told t c = λ vs rest d e.
    let S = c.args.schema.now.kinds in
    let item = item_part c.args.item.place in
    let all = items_tokens (items_of (jsons S (replicate c.args.count item) vs)) in
    let over : c.args.count - c.loop.counter ≡ 0 = omega (arith, c.loop-test.false) in
    let i = items_end S item (c.args.count - c.loop.counter) c.args.most c.loop.rest.now rest c.loop.out.tokens
    (c.token.new.self.tokens ++ all) over (c.loop.invariant.going vs rest d e) in
    record {
      left = i.0;
      told = c.in_ok-token-2.ensures.told ∙ i.1
          ∙ ap (λ (z : List Token). z ++ all) c.in_ok-token.ensures.told
          ∙ append_assoc c.args.out.now.tokens (begin_array ∷ []) all;
    }

pub push_fields-loop-field-init : goal.push_fields-loop-field-init
push_fields-loop-field-init t c = record {
  layout = c.in_ok-token.ensures.layout;
  going = λ vs rest d e. record { values = vs; deep = d; each = e; told = refl };
}

pub push_fields-loop-field-preserved : goal.push_fields-loop-field-preserved
push_fields-loop-field-preserved t c =
    let S = c.args.schema.now.kinds in
    let ms : List Member = c.deref-field-items.result.now in
    let m = c.field-item.result in
    let more = fields-at ms c.loop-field.field-index m c.loop-field-test.true c.field-item.is in
    let keyed : c.token-in-loop-field.new.self.tokens ≡ c.loop-field.out.tokens ++ key (part_of_member m).name ∷ [] =
    search rules in
    record {
      layout = c.in_ok-rest.ensures.layout ∙ c.in_ok-token-2.ensures.layout ∙ c.loop-field.invariant.layout;
      going = λ vs rest d e.
          fields_more S (part_of_member m) (map part_of_member (drop (c.loop-field.field-index + 1) ms))
          (map part_of_member (drop c.loop-field.field-index ms)) c.args.most c.loop-field.rest.now _ rest
          c.loop-field.out.tokens c.token-in-loop-field.new.self.tokens c.push_node.new.out.tokens _ more
          (c.loop-field.invariant.going vs rest d e) keyed c.in_ok-rest.ensures.told;
    }

pub push_fields-returns-clause-told : goal.push_fields-returns-clause-told
push_fields-returns-clause-told t c = λ vs rest d e.
    let S = c.args.schema.now.kinds in
    let ms : List Member = c.deref-field-items.result.now in
    let same = c.deref-field-items.ensures.value in
    let all : List Member → List Token = λ z. members_tokens (field_members (map part_of_member z)
    (jsons S (map part_of_member z) vs)) in
    let each = subst (λ (z : List Member). StandEach S (map part_of_member z) c.args.bytes.now vs rest) (sym same) e in
    let over : map part_of_member (drop c.loop-field.field-index ms) ≡ [] = ap (map part_of_member)
    (drop_all c.loop-field.field-index ms (omega (arith, c.loop-field-test.false))) in
    let i = fields_end S (map part_of_member (drop c.loop-field.field-index ms)) c.args.most c.loop-field.rest.now rest
    c.loop-field.out.tokens (c.token.new.self.tokens ++ all ms) over (c.loop-field.invariant.going vs rest d each) in
    record {
      left = i.0;
      told = c.in_ok-token-3.ensures.told ∙ i.1
          ∙ ap (λ (z : List Token). z ++ all ms) c.in_ok-token.ensures.told
          ∙ append_assoc c.args.out.now.tokens (begin_object ∷ []) (all ms)
          ∙ ap (λ (z : List Member). c.args.out.now.tokens ++ begin_object ∷ all z) same;
    }

pub push_node-returns-in-UpTo-clause-told : goal.push_node-returns-in-UpTo-clause-told
push_node-returns-in-UpTo-clause-told t c = if_ok _ _ c.push_array-in-UpTo.result c.push_array-in-UpTo.ensures.told (
    λ left told. λ v rest deep st.
    let S = c.args.schema.now.kinds in
    let item = c.in-UpTo.item.place in
    let bs = c.args.bytes.now in
    let kind = sym (ap kind_view c.in-UpTo.is) ∙ c.kind-kind.ensures in
    let n = node_of S c.args.id.place bs v rest (xdr.up_to item c.in-UpTo.max) kind st in
    let m = many_at S item c.in-UpTo.max bs v.0 v.1 rest n in
    let u = c.unit_of-count.ensures m.count m.after m.small m.spelled in
    let each = subst (λ (b : List ℕ). StandEach S (replicate c.unit_of-count.result.0 (item_part item)) b v.1 rest)
    (sym u.1) (subst (λ (k : ℕ). StandEach S (replicate k (item_part item)) m.after v.1 rest) (sym u.0) m.each) in
    let s = told v.1 rest (omega (arith, deep)) each in
    record {
      left = s.left;
      told = s.told ∙ ap (λ (j : Json). c.args.out.now.tokens ++ json_tokens j)
          (ap (λ (k : ℕ). array_json S item k v.1) u.0 ∙ sym m.is
          ∙ sym (said_of S c.args.id.place v (xdr.up_to item c.in-UpTo.max) kind));
    })

pub push_node-returns-in-Choice-clause-told : goal.push_node-returns-in-Choice-clause-told
push_node-returns-in-Choice-clause-told t c = if_ok _ _ c.push_union.result c.push_union.ensures.told (
    λ left told. λ v rest deep st.
    told (map branch_of c.in-Choice.arms.items) (option_map part_of_member c.in-Choice.other) v rest
    (sym c.kind-kind.ensures ∙ ap kind_view c.in-Choice.is) (omega (arith, deep)) st)

pub push_optional-returns-then-flag-eq0-clause-told : goal.push_optional-returns-then-flag-eq0-clause-told
push_optional-returns-then-flag-eq0-clause-told t c = λ place v rest e deep st.
    let S = c.args.schema.now.kinds in
    let item = c.args.item.place in
    let bs = c.args.bytes.now in
    let n = node_of S place bs v rest (xdr.maybe item) (sym e) st in
    elim (optional_at S item bs v.0 v.1 rest n) [
      | inl h ↦
          let u = c.unit_of-flag.ensures 0 rest (lit< tt) h.0 in
          record {
            left = u.1;
            told = c.in_ok-token.ensures.told ∙ ap (λ (j : Json). c.args.out.now.tokens ++ json_tokens j)
                (sym (said_of S place v (xdr.maybe item) (sym e) ∙ h.1));
          }
      | inr h ↦
          let u = c.unit_of-flag.ensures 1 (spelling S (item_part item ∷ []) v.1 ++ rest) (lit< tt) h.1 in
          absurd (omega (arith, u.0, c.if-flag-eq0.true))
    ]

pub push_optional-returns-clause-told : goal.push_optional-returns-clause-told
push_optional-returns-clause-told t c = if_ok _ _ c.push_present.result c.push_present.ensures.told (
    λ left told. λ place v rest e deep st.
    let S = c.args.schema.now.kinds in
    let item = c.args.item.place in
    let bs = c.args.bytes.now in
    let n = node_of S place bs v rest (xdr.maybe item) (sym e) st in
    elim (optional_at S item bs v.0 v.1 rest n) [
      | inl h ↦
          let u = c.unit_of-flag.ensures 0 rest (lit< tt) h.0 in
          absurd (omega (arith, u.0, c.if-flag-eq0.false))
      | inr h ↦
          let u = c.unit_of-flag.ensures 1 (spelling S (item_part item ∷ []) v.1 ++ rest) (lit< tt) h.1 in
          let stands = subst (λ (b : List ℕ). Stands S item b h.0.tree rest) (sym u.1) h.0.stands in
          let s = told h.0.tree rest (below v.1 h.0.tree c.args.most h.0.is deep) stands in
          record {
            left = s.left;
            told = s.told ∙ ap (λ (j : Json). c.args.out.now.tokens ++ json_tokens j)
                (sym (said_of S place v (xdr.maybe item) (sym e) ∙ h.2));
          }
    ])

pub push_union-returns-in-Some-clause-told : goal.push_union-returns-in-Some-clause-told
push_union-returns-in-Some-clause-told t c = if_ok _ _ c.push_arm.result c.push_arm.ensures.told (
    λ left told. λ arms other v rest e deep st.
    let S = c.args.schema.now.kinds in
    let tag = c.args.tag.place in
    let place = c.args.id.place in
    let f = xdr.choice tag arms other in
    let n = node_of S place c.args.bytes.now v rest f (sym e) st in
    let u = union_at S tag arms other c.args.bytes.now v.0 v.1 rest n in
    let tree = u.inside.tree in
    let number = c.number_under-number.result in
    let front = c.unit_of-unit.ensures (unit_of u.number) (spelling S (u.part ∷ []) v.1 ++ rest) u.small u.spelled in
    let is : number ≡ u.number =
    c.number_under-number.ensures ∙ ap (λ (k : KindView). number_in k c.unit_of-unit.result.0) c.kind-kind.ensures
    ∙ ap (λ (x : ℕ). number_in (kind_at S tag) x) front.0 ∙ u.back in
    let arm = part_of_member c.in-Some.arm.now in
    let picked : Some arm ≡ part_in (kind_at S place) number = grind (arith, to_z-of_z, c.in-Some.ensures) in
    let ours : Some arm ≡ Some u.part =
    picked ∙ ap (λ (k : KindView). part_in k number) e ∙ ap (λ (z : ℤ). part_of arms other z) is ∙ u.under in
    let same : arm ≡ u.part = some_is arm u.part ours in
    let at_front = subst (λ (b : List ℕ). Stands S u.part.kind b tree rest) (sym front.1) u.inside.stands in
    let stands = subst (λ (p : Part). Stands S p.kind c.unit_of-unit.result.1.now tree rest) (sym same) at_front in
    let s = told tree rest (below v.1 tree c.args.most u.inside.is deep) stands in
    let old = c.args.out.now.tokens in
    let under : Part → List Token = λ p. members_tokens (arm_members S (p ∷ []) (json_of S p.kind tree ∷ [])) in
    let tagged : ℤ → List Token = λ z. json_tokens (tag_json (kind_at S tag) z) in
    let kept : to_z w64 (of_z w64 number) ≡ number = search rules in
    let begun : c.token.new.self.tokens ≡ old ++ begin_object ∷ [] = search rules in
    let named : c.token-2.new.self.tokens ≡ c.token.new.self.tokens ++ key case_key ∷ [] = search rules in
    let whole = union_tokens old c.token.new.self.tokens c.token-2.new.self.tokens c.push_tag.new.out.tokens
    c.push_arm.new.out.tokens (tagged number) (under arm) begin_object (key case_key) begun named
    (c.in_ok-push_tag.ensures.told ∙ ap (λ (z : ℤ). c.token-2.new.self.tokens ++ tagged z) kept) s.told in
    record {
      left = s.left;
      told = whole
          ∙ ap (λ (p : Part). old ++ (begin_object ∷ key case_key ∷ (tagged number ++ under p))) same
          ∙ ap (λ (z : ℤ). old ++ (begin_object ∷ key case_key ∷ (tagged z ++ under u.part))) is
          ∙ ap (λ (j : Json). old ++ json_tokens j) (sym (said_of S place v f (sym e) ∙ u.is));
    })

pub push_union-returns-in-None-clause-told : goal.push_union-returns-in-None-clause-told
push_union-returns-in-None-clause-told t c = λ arms other v rest e deep st.
    let S = c.args.schema.now.kinds in
    let tag = c.args.tag.place in
    let place = c.args.id.place in
    let f = xdr.choice tag arms other in
    let n = node_of S place c.args.bytes.now v rest f (sym e) st in
    let u = union_at S tag arms other c.args.bytes.now v.0 v.1 rest n in
    let number = c.number_under-number.result in
    let front = c.unit_of-unit.ensures (unit_of u.number) (spelling S (u.part ∷ []) v.1 ++ rest) u.small u.spelled in
    let is : number ≡ u.number =
    c.number_under-number.ensures ∙ ap (λ (k : KindView). number_in k c.unit_of-unit.result.0) c.kind-kind.ensures
    ∙ ap (λ (x : ℕ). number_in (kind_at S tag) x) front.0 ∙ u.back in
    let missing : None ≡ part_in (kind_at S place) number = grind (arith, to_z-of_z, c.in-None.ensures) in
    let ours : None ≡ Some u.part =
    missing ∙ ap (λ (k : KindView). part_in k number) e ∙ ap (λ (z : ℤ). part_of arms other z) is ∙ u.under in
    absurd (none-some u.part ours)
