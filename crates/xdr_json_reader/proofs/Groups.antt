-- A node with parts: what is read of it, and when it stands for nothing.
use Rattle.std.proofs.Common.{◌≡◌, ℕ, ℤ, pos, ◌+◌, inl, List, [], ◌∷◌, ◌++◌}
use Rattle.std.proofs.Common.{length, map, replicate}
use Rattle.std.proofs.Common.{Bool, true, false, ◌&&◌, ◌==◌, refl, ap, sym, ◌∙◌, subst, Result, Ok, Err}
use Rattle.std.proofs.Common.{Option, Some, None, is_some, if◌then◌else◌, option_map}
use Rattle.std.proofs.lemmas.Bool.{false≢true, true≢false, and_parts as both, and_from, eqb-true}
use Rattle.std.proofs.lemmas.Bool.{eq-eqb, and_left, and_right, ne_eqb}
use Rattle.std.proofs.lemmas.List.{append-nil}
use Rattle.json.specs.Json as json
use Rattle.json.specs.Json.{Json, Items, Members, no_members}
use Rattle.json.specs.Value.{items_of}
use Rattle.xdr_types.specs.Kinds as xdr
use Rattle.xdr_types.specs.Kinds.{KindView, Part, Branch, Constant, kind_at}
use Rattle.xdr_types.specs.Tree as value
use Rattle.xdr_types.specs.Tree.{Head}
use Rattle.xdr_types.specs.Fits.{is_length, is_tag_of, part_of, optional_part, item_part}
use Rattle.xdr_units.specs.Numbers.{num4}
use Rattle.xdr_json.specs.Mapping.{case_key, arm_key}
use Rattle.xdr_types.specs.Faults.{is_void}
use Rattle.xdr_json.specs.Spelled.{is_list, list_of, is_group, is_choice, is_present, is_null, is_tag_json}
use Rattle.xdr_json.specs.Spelled.{is_empty, count, has_key, has_each, at_key}
use Rattle.xdr_json.specs.Spelled.{arm_keys, under_arm, under_present}
use Rattle.xdr_json_reader.specs.Nodes.{Due, each, ShowsNone}
use Rattle.xdr_json_reader.specs.Private.Pending.{Took}
use Rattle.xdr_json_reader.specs.Reasons.{Wrong, IsOfMembers, has_arm_alone, ChoiceTells}
use Rattle.xdr_json_reader.specs.Reasons.{list_reason, tag_reason}
use Rattle.xdr_json_reader.specs.Reasons as reasons
use Rattle.xdr_json_reader.specs.Private.Groups.{is_maybe, ReadAmong, PresentPut}
use Rattle.xdr_json.proofs.Once.{AreApart, one_tag}
use Rattle.xdr_json_reader.specs.declared.fault.JsonReason.{JsonReason}
use Rattle.xdr_json_reader.specs.declared.fault.JsonReason.TheVariants as why

pub list_is : (js : List Json) → list_of (items_of js) ≡ js
list_is [] = refl
list_is (j ∷ js) = ap (λ (ks : List Json). j ∷ ks) (list_is js)

listed : (js : List Json) → is_list (length js) (json.array (items_of js)) ≡ true
listed js = eq-eqb (length (list_of (items_of js))) (length js) (ap length (list_is js))

how_many : (n : ℕ) (js : List Json) → is_list n (json.array (items_of js)) ≡ true → length js ≡ n
how_many n js h = sym (ap length (list_is js)) ∙ eqb-true (length (list_of (items_of js))) n h

pub took_fixed : (place size : ℕ) (js : List Json) (out : List ℕ) (due next : List Due) → length js ≡ size
    → next ≡ each (replicate (length js) (item_part place)) js ++ due → (kinds : List KindView)
    → Took kinds (xdr.fixed place size) (json.array (items_of js)) out out due next
took_fixed place size js out due next long e kinds = record {
  head = value.items (length js);
  shows = record { legal = eq-eqb (length js) size long; shown = listed js };
  bytes = sym (append-nil out);
  parts = e ∙ ap (λ (ks : List Json). each (replicate (length js) (item_part place)) ks ++ due) (sym (list_is js));
}

pub no_fixed : (place size : ℕ) (js : List Json) → (length js ≡ size → ⊥) → (kinds : List KindView)
    → ShowsNone kinds (xdr.fixed place size) (json.array (items_of js))
no_fixed place size js other kinds (value.items n) s = other (how_many n js s.shown ∙ eqb-true n size s.legal)
no_fixed place size js other kinds _ s = false≢true s.legal

pub took_up_to : (place max : ℕ) (js : List Json) (out new : List ℕ) (due next : List Due)
    → is_length max (length js) ≡ true → new ≡ out ++ num4 (pos (length js))
    → next ≡ each (replicate (length js) (item_part place)) js ++ due → (kinds : List KindView)
    → Took kinds (xdr.up_to place max) (json.array (items_of js)) out new due next
took_up_to place max js out new due next long b e kinds = record {
  head = value.items (length js);
  shows = record { legal = long; shown = listed js };
  bytes = b;
  parts = e ∙ ap (λ (ks : List Json). each (replicate (length js) (item_part place)) ks ++ due) (sym (list_is js));
}

pub no_up_to : (place max : ℕ) (js : List Json) → (is_length max (length js) ≡ true → ⊥) → (kinds : List KindView)
    → ShowsNone kinds (xdr.up_to place max) (json.array (items_of js))
no_up_to place max js other kinds (value.items n) s =
    other (ap (is_length max) (how_many n js s.shown) ∙ s.legal)
no_up_to place max js other kinds _ s = false≢true s.legal

-- no array
abbrev pub NoArray : Json → Type 0
NoArray j = (n : ℕ) → is_list n j ≡ true → ⊥

pub no_array_fixed : (place size : ℕ) (j : Json) → NoArray j → (kinds : List KindView)
    → ShowsNone kinds (xdr.fixed place size) j
no_array_fixed place size j none kinds (value.items n) s = none n s.shown
no_array_fixed place size j none kinds _ s = false≢true s.legal

pub no_array_up_to : (place max : ℕ) (j : Json) → NoArray j → (kinds : List KindView)
    → ShowsNone kinds (xdr.up_to place max) j
no_array_up_to place max j none kinds (value.items n) s = none n s.shown
no_array_up_to place max j none kinds _ s = false≢true s.legal

-- ---- optional items

pub took_absent : (kinds : List KindView) (place : ℕ) (j : Json) (out new : List ℕ) (due : List Due)
    → is_null j ≡ true → new ≡ out ++ num4 (pos 0) → Took kinds (xdr.maybe place) j out new due due
took_absent kinds place j out new due h e =
    record { head = value.absent; shows = record { legal = refl; shown = h }; bytes = e; parts = refl }

took_present : (kinds : List KindView) (place : ℕ) (j k : Json) (out new : List ℕ) (due next : List Due)
    → is_present (kind_at kinds place) j ≡ true → under_present (kind_at kinds place) j ≡ k ∷ []
    → new ≡ out ++ num4 (pos 1) → next ≡ (place, k) ∷ due → Took kinds (xdr.maybe place) j out new due next
took_present kinds place j k out new due next h u e p = record {
  head = value.present;
  shows = record { legal = refl; shown = h };
  bytes = e;
  parts = p ∙ sym (ap (λ (ks : List Json). each (item_part place ∷ []) ks ++ due) u);
}

no_maybe : (kinds : List KindView) (place : ℕ) (j : Json) → (is_present (kind_at kinds place) j ≡ true → ⊥)
    → (is_null j ≡ true → ⊥) → ShowsNone kinds (xdr.maybe place) j
no_maybe kinds place j p n value.present s = p s.shown
no_maybe kinds place j p n value.absent s = n s.shown
no_maybe kinds place j p n _ s = false≢true s.legal

-- what becomes of an optional item, from what becomes of the item's first unit
pub put_plain : {A : Type 0} (kinds : List KindView) (place : ℕ) (j : Json) (out new : List ℕ) (due next : List Due)
    (r : Result A JsonReason) → is_maybe (kind_at kinds place) ≡ false → is_null j ≡ false
    → PresentPut place j out new due next r → ReadAmong kinds (xdr.maybe place) j out new due next r
put_plain kinds place j out new due next (Ok x) plain some h =
    took_present kinds place j j out new due next (present (kind_at kinds place) j plain some)
    (alone (kind_at kinds place) j plain) h.0 h.1
  where
    present : (f : KindView) (j : Json) → is_maybe f ≡ false → is_null j ≡ false → is_present f j ≡ true
    present (xdr.maybe inner) j p s = absurd (true≢false p)
    present f json.null p s = absurd (true≢false s)
    present f _ p s = refl

    alone : (f : KindView) (j : Json) → is_maybe f ≡ false → under_present f j ≡ j ∷ []
    alone (xdr.maybe inner) j p = absurd (true≢false p)
    alone f j p = refl
put_plain kinds place j out new due next (Err w) plain some h = inl h

pub put_inside : {A : Type 0} (kinds : List KindView) (place : ℕ) (j : Json) (js : List Json) (out new : List ℕ)
    (due next : List Due) (r : Result A JsonReason) → is_maybe (kind_at kinds place) ≡ true → js ≡ j ∷ []
    → PresentPut place j out new due next r
    → ReadAmong kinds (xdr.maybe place) (json.array (items_of js)) out new due next r
put_inside kinds place j js out new due next (Ok x) bracketed one h =
    took_present kinds place (json.array (items_of js)) j out new due next
    (present (kind_at kinds place) js bracketed (ap length one))
    (inside (kind_at kinds place) js bracketed ∙ one) h.0 h.1
  where
    present : (f : KindView) (js : List Json) → is_maybe f ≡ true → length js ≡ 1
        → is_present f (json.array (items_of js)) ≡ true
    present (xdr.maybe inner) js p s = eq-eqb (length (list_of (items_of js))) 1 (ap length (list_is js) ∙ s)
    present _ js p s = absurd (false≢true p)

    inside : (f : KindView) (js : List Json) → is_maybe f ≡ true → under_present f (json.array (items_of js)) ≡ js
    inside (xdr.maybe inner) js p = list_is js
    inside _ js p = absurd (false≢true p)
put_inside kinds place j js out new due next (Err w) bracketed one h = inl h

pub not_one : (kinds : List KindView) (place : ℕ) (js : List Json) → is_maybe (kind_at kinds place) ≡ true
    → (length js ≡ 1 → ⊥) → ShowsNone kinds (xdr.maybe place) (json.array (items_of js))
not_one kinds place js bracketed other =
    no_maybe kinds place (json.array (items_of js)) (λ h. other (single (kind_at kinds place) js bracketed h))
    (λ h. false≢true h)
  where
    single : (f : KindView) (js : List Json) → is_maybe f ≡ true → is_present f (json.array (items_of js)) ≡ true
        → length js ≡ 1
    single (xdr.maybe inner) js p h = how_many 1 js h
    single _ js p h = absurd (false≢true p)

pub no_brackets : (kinds : List KindView) (place : ℕ) (j : Json) → is_maybe (kind_at kinds place) ≡ true → NoArray j
    → is_null j ≡ false → ShowsNone kinds (xdr.maybe place) j
no_brackets kinds place j bracketed none some =
    no_maybe kinds place j (λ h. never (kind_at kinds place) j bracketed none h) (λ h. false≢true (sym some ∙ h))
  where
    never : (f : KindView) (j : Json) → is_maybe f ≡ true → NoArray j → is_present f j ≡ true → ⊥
    never (xdr.maybe inner) j p none h = none 1 h
    never _ j p none h = false≢true p

-- ---- void

pub took_void : (kinds : List KindView) (j : Json) (out : List ℕ) (due : List Due) → is_empty j ≡ true
    → Took kinds xdr.nothing j out out due due
took_void kinds j out due h = record {
  head = value.nothing;
  shows = record { legal = refl; shown = h };
  bytes = sym (append-nil out);
  parts = refl;
}

-- ---- structures

pub took_group : (ps : List Part) (ms : Members) (out : List ℕ) (due next : List Due) → count ms ≡ length ps
    → has_each ps ms ≡ true → next ≡ each ps (map (λ (p : Part). at_key ms p.name) ps) ++ due
    → (kinds : List KindView) → Took kinds (xdr.structure ps) (json.object ms) out out due next
took_group ps ms out due next many has e kinds = record {
  head = value.fields;
  shows = record {
    legal = refl;
    shown = and_from (count ms == length ps) (has_each ps ms) (eq-eqb (count ms) (length ps) many) has;
  };
  bytes = sym (append-nil out);
  parts = e;
}

pub no_group : (ps : List Part) (j : Json) → (is_group ps j ≡ true → ⊥) → (kinds : List KindView)
    → ShowsNone kinds (xdr.structure ps) j
no_group ps j none kinds value.fields s = none s.shown
no_group ps j none kinds _ s = false≢true s.legal

pub other_count : (ps : List Part) (ms : Members) → (count ms ≡ length ps → ⊥) → (kinds : List KindView)
    → ShowsNone kinds (xdr.structure ps) (json.object ms)
other_count ps ms other =
    no_group ps (json.object ms)
    (λ h. other (eqb-true (count ms) (length ps) (both (count ms == length ps) (has_each ps ms) h).0))

pub not_each : (ps : List Part) (ms : Members) → has_each ps ms ≡ false → (kinds : List KindView)
    → ShowsNone kinds (xdr.structure ps) (json.object ms)
not_each ps ms none =
    no_group ps (json.object ms)
    (λ h. false≢true (sym none ∙ (both (count ms == length ps) (has_each ps ms) h).1))

-- ---- unions

record Chosen (kinds : List KindView) (f : KindView) (z : ℤ) (ps : List Part) (ms : Members) : Type 0 where
  many : (count ms == 1 + length (arm_keys kinds ps)) ≡ true
  named : has_key ms case_key ≡ true
  arm : has_each (arm_keys kinds ps) ms ≡ true
  tag : is_tag_json f z (at_key ms case_key) ≡ true

chosen : (kinds : List KindView) (f : KindView) (z : ℤ) (ps : List Part) (ms : Members)
    → is_choice kinds f z ps (json.object ms) ≡ true → Chosen kinds f z ps ms
chosen kinds f z ps ms h =
    let hs = both ((count ms == 1 + length (arm_keys kinds ps) && has_key ms case_key)
    && has_each (arm_keys kinds ps) ms) (is_tag_json f z (at_key ms case_key)) h in
    let ks = both (count ms == 1 + length (arm_keys kinds ps) && has_key ms case_key) (has_each (arm_keys kinds ps) ms)
    hs.0 in
    let cs = both (count ms == 1 + length (arm_keys kinds ps)) (has_key ms case_key) ks.0 in
    record { many = cs.0; named = cs.1; arm = ks.1; tag = hs.1 }

pub took_choice : (kinds : List KindView) (tag : ℕ) (arms : List Branch) (other : Option Part) (z : ℤ) (p : Part)
    (ms : Members) (j : Json) (out new : List ℕ) (due next : List Due) → is_tag_of (kind_at kinds tag) z ≡ true
    → part_of arms other z ≡ Some p → has_key ms case_key ≡ true
    → is_tag_json (kind_at kinds tag) z (at_key ms case_key) ≡ true → has_arm_alone kinds p ms ≡ true
    → under_arm kinds (p ∷ []) (json.object ms) ≡ j ∷ [] → new ≡ out ++ num4 z → next ≡ (p.kind, j) ∷ due
    → Took kinds (xdr.choice tag arms other) (json.object ms) out new due next
took_choice kinds tag arms other z p ms j out new due next legal is named shown alone under' b e =
    let f = kind_at kinds tag in
    let hs = both (count ms == 1 + length (arm_keys kinds (p ∷ []))) (has_each (arm_keys kinds (p ∷ [])) ms) alone in
    let there : is_choice kinds f z (p ∷ []) (json.object ms) ≡ true =
    and_from ((count ms == 1 + length (arm_keys kinds (p ∷ [])) && has_key ms case_key)
    && has_each (arm_keys kinds (p ∷ [])) ms) (is_tag_json f z (at_key ms case_key))
    (and_from (count ms == 1 + length (arm_keys kinds (p ∷ [])) && has_key ms case_key)
    (has_each (arm_keys kinds (p ∷ [])) ms)
    (and_from (count ms == 1 + length (arm_keys kinds (p ∷ []))) (has_key ms case_key) hs.0 named) hs.1) shown in
    record {
      head = value.tag z;
      shows = record {
        legal = and_from (is_tag_of f z) (is_some (part_of arms other z)) legal (ap is_some is);
        shown = ap (λ (o : Option Part). is_choice kinds f z (optional_part o) (json.object ms)) is ∙ there;
      };
      bytes = b;
      parts = e ∙ sym (ap (λ (js : List Json). each (p ∷ []) js ++ due) under')
          ∙ sym (ap (λ (o : Option Part). each (optional_part o) (under_arm kinds (optional_part o) (json.object ms))
          ++ due)
          is);
    }

pub no_choice : (kinds : List KindView) (tag : ℕ) (arms : List Branch) (other : Option Part) (j : Json)
    → ((z : ℤ) → is_tag_of (kind_at kinds tag) z ≡ true → is_some (part_of arms other z) ≡ true
    → is_choice kinds (kind_at kinds tag) z (optional_part (part_of arms other z)) j ≡ true → ⊥)
    → ShowsNone kinds (xdr.choice tag arms other) j
no_choice kinds tag arms other j none (value.tag z) s =
    let hs = both (is_tag_of (kind_at kinds tag) z) (is_some (part_of arms other z)) s.legal in
    none z hs.0 hs.1 s.shown
no_choice kinds tag arms other j none _ s = false≢true s.legal

pub no_case : (kinds : List KindView) (tag : ℕ) (arms : List Branch) (other : Option Part) (ms : Members)
    → has_key ms case_key ≡ false → ShowsNone kinds (xdr.choice tag arms other) (json.object ms)
no_case kinds tag arms other ms none =
    no_choice kinds tag arms other (json.object ms)
    (λ z legal some h. false≢true (sym none ∙ (chosen kinds (kind_at kinds tag) z _ ms h).named))

pub no_tag : (kinds : List KindView) (tag : ℕ) (arms : List Branch) (other : Option Part) (ms : Members)
    → ((z : ℤ) → is_tag_of (kind_at kinds tag) z ≡ true → is_tag_json (kind_at kinds tag) z (at_key ms case_key) ≡ true
    → ⊥) → ShowsNone kinds (xdr.choice tag arms other) (json.object ms)
no_tag kinds tag arms other ms none =
    no_choice kinds tag arms other (json.object ms)
    (λ z legal some h. none z legal (chosen kinds (kind_at kinds tag) z _ ms h).tag)

pub no_arm : (kinds : List KindView) → AreApart kinds → (tag : ℕ) (arms : List Branch) (other : Option Part)
    (ms : Members) (z : ℤ) → is_tag_of (kind_at kinds tag) z ≡ true
    → is_tag_json (kind_at kinds tag) z (at_key ms case_key) ≡ true → part_of arms other z ≡ None
    → ShowsNone kinds (xdr.choice tag arms other) (json.object ms)
no_arm kinds apart tag arms other ms z legal shown none =
    no_choice kinds tag arms other (json.object ms)
    (λ y legal' some h.
    let f = kind_at kinds tag in
    let same = one_tag f z y (at_key ms case_key) (apart tag) legal legal' shown
    (chosen kinds f y (optional_part (part_of arms other y)) ms h).tag in
    false≢true (sym (ap (λ (x : ℤ). is_some (part_of arms other x)) (sym same) ∙ ap is_some none) ∙ some))

pub other_arm : (kinds : List KindView) → AreApart kinds → (tag : ℕ) (arms : List Branch) (other : Option Part)
    (ms : Members) (z : ℤ) (p : Part) → is_tag_of (kind_at kinds tag) z ≡ true
    → is_tag_json (kind_at kinds tag) z (at_key ms case_key) ≡ true → part_of arms other z ≡ Some p
    → has_arm_alone kinds p ms ≡ false → ShowsNone kinds (xdr.choice tag arms other) (json.object ms)
other_arm kinds apart tag arms other ms z p legal shown is alone =
    no_choice kinds tag arms other (json.object ms)
    (λ y legal' some h.
    let f = kind_at kinds tag in
    let c = chosen kinds f y (optional_part (part_of arms other y)) ms h in
    let same = one_tag f z y (at_key ms case_key) (apart tag) legal legal' shown c.tag in
    let at : optional_part (part_of arms other y) ≡ p ∷ [] =
    ap (λ (x : ℤ). optional_part (part_of arms other x)) (sym same) ∙ ap optional_part is in
    let all : has_arm_alone kinds p ms ≡ true =
    subst (λ (ps : List Part). (count ms == 1 + length (arm_keys kinds ps) && has_each (arm_keys kinds ps) ms) ≡ true)
    at (and_from (count ms == 1 + length (arm_keys kinds (optional_part (part_of arms other y))))
    (has_each (arm_keys kinds (optional_part (part_of arms other y))) ms) c.many c.arm) in
    false≢true (sym alone ∙ all))

-- ---- what an object has for an arm

void_keys : (kinds : List KindView) (p : Part) → is_void kinds p.kind ≡ true → arm_keys kinds (p ∷ []) ≡ []
void_keys kinds p e = ap (λ (b : Bool). if b then [] else record { name = arm_key p.name; kind = p.kind } ∷ []) e

arm_keyed : (kinds : List KindView) (p : Part) → is_void kinds p.kind ≡ false
    → arm_keys kinds (p ∷ []) ≡ record { name = arm_key p.name; kind = p.kind } ∷ []
arm_keyed kinds p e = ap (λ (b : Bool). if b then [] else record { name = arm_key p.name; kind = p.kind } ∷ []) e

abbrev Alone : Members → List Part → Bool
Alone ms qs = count ms == 1 + length qs && has_each qs ms

pub void_other : (kinds : List KindView) (p : Part) (ms : Members) → is_void kinds p.kind ≡ true
    → (count ms ≡ 1 → ⊥) → has_arm_alone kinds p ms ≡ false
void_other kinds p ms e other =
    ap (Alone ms) (void_keys kinds p e) ∙ and_left (count ms == 1) true (ne_eqb (count ms) 1 other)

pub void_alone : (kinds : List KindView) (p : Part) (ms : Members) (j : Json) → is_void kinds p.kind ≡ true
    → count ms ≡ 1 → j ≡ json.object no_members
    → (has_arm_alone kinds p ms ≡ true) × (under_arm kinds (p ∷ []) (json.object ms) ≡ j ∷ [])
void_alone kinds p ms j e one is = (
  ap (Alone ms) (void_keys kinds p e) ∙ and_from (count ms == 1) true (eq-eqb (count ms) 1 one) refl,
  ap (λ (b : Bool). (if b then json.object no_members else at_key ms (arm_key p.name)) ∷ []) e
      ∙ ap (λ (k : Json). k ∷ []) (sym is),
)

pub arm_there : (kinds : List KindView) (p : Part) (ms : Members) (j : Json) (key : List ℕ)
    → is_void kinds p.kind ≡ false → key ≡ arm_key p.name → has_key ms key ≡ true → at_key ms key ≡ j → count ms ≡ 2
    → (has_arm_alone kinds p ms ≡ true) × (under_arm kinds (p ∷ []) (json.object ms) ≡ j ∷ [])
arm_there kinds p ms j key e is named at two = (
  ap (Alone ms) (arm_keyed kinds p e)
      ∙ and_from (count ms == 2) (has_key ms (arm_key p.name) && true) (eq-eqb (count ms) 2 two)
      (and_from (has_key ms (arm_key p.name)) true (ap (has_key ms) (sym is) ∙ named) refl),
  ap (λ (b : Bool). (if b then json.object no_members else at_key ms (arm_key p.name)) ∷ []) e
      ∙ ap (λ (k : Json). k ∷ []) (ap (at_key ms) (sym is) ∙ at),
)

pub arm_extra : (kinds : List KindView) (p : Part) (ms : Members) → is_void kinds p.kind ≡ false
    → (count ms ≡ 2 → ⊥) → has_arm_alone kinds p ms ≡ false
arm_extra kinds p ms e other =
    ap (Alone ms) (arm_keyed kinds p e)
    ∙ and_left (count ms == 2) (has_key ms (arm_key p.name) && true) (ne_eqb (count ms) 2 other)

pub arm_missing : (kinds : List KindView) (p : Part) (ms : Members) (key : List ℕ) → is_void kinds p.kind ≡ false
    → key ≡ arm_key p.name → has_key ms key ≡ false → has_arm_alone kinds p ms ≡ false
arm_missing kinds p ms key e is none =
    ap (Alone ms) (arm_keyed kinds p e)
    ∙ and_right (count ms == 2) (has_key ms (arm_key p.name) && true)
    (and_left (has_key ms (arm_key p.name)) true (ap (has_key ms) (sym is) ∙ none))

pub no_choice_object : (kinds : List KindView) (tag : ℕ) (arms : List Branch) (other : Option Part) (j : Json)
    → ((z : ℤ) (ps : List Part) → is_choice kinds (kind_at kinds tag) z ps j ≡ true → ⊥)
    → ShowsNone kinds (xdr.choice tag arms other) j
no_choice_object kinds tag arms other j none =
    no_choice kinds tag arms other j (λ z legal some h. none z (optional_part (part_of arms other z)) h)

-- ---- the reasons

pub bad_fixed : (place size : ℕ) (js : List Json) → (length js ≡ size → ⊥) → (kinds : List KindView)
    → Wrong kinds (xdr.fixed place size) (json.array (items_of js)) why.WrongLength
bad_fixed place size js other kinds = record { none = no_fixed place size js other kinds; tells = refl }

pub bad_form_fixed : (place size : ℕ) (j : Json) → NoArray j → why.WrongType ≡ list_reason j → (kinds : List KindView)
    → Wrong kinds (xdr.fixed place size) j why.WrongType
bad_form_fixed place size j none is kinds = record { none = no_array_fixed place size j none kinds; tells = is }

pub bad_up_to : (place max : ℕ) (js : List Json) → (is_length max (length js) ≡ true → ⊥) → (kinds : List KindView)
    → Wrong kinds (xdr.up_to place max) (json.array (items_of js)) why.WrongLength
bad_up_to place max js other kinds = record { none = no_up_to place max js other kinds; tells = refl }

pub bad_form_up_to : (place max : ℕ) (j : Json) → NoArray j → why.WrongType ≡ list_reason j → (kinds : List KindView)
    → Wrong kinds (xdr.up_to place max) j why.WrongType
bad_form_up_to place max j none is kinds = record { none = no_array_up_to place max j none kinds; tells = is }

pub bad_brackets : (kinds : List KindView) (place : ℕ) (js : List Json) → is_maybe (kind_at kinds place) ≡ true
    → (length js ≡ 1 → ⊥) → Wrong kinds (xdr.maybe place) (json.array (items_of js)) why.WrongLength
bad_brackets kinds place js bracketed other =
    record { none = not_one kinds place js bracketed other; tells = refl }

pub bad_form_maybe : (kinds : List KindView) (place : ℕ) (j : Json) → is_maybe (kind_at kinds place) ≡ true
    → NoArray j → is_null j ≡ false → why.WrongType ≡ list_reason j → Wrong kinds (xdr.maybe place) j why.WrongType
bad_form_maybe kinds place j bracketed none some is =
    record { none = no_brackets kinds place j bracketed none some; tells = is }

pub bad_count : (ps : List Part) (ms : Members) (w : JsonReason) → (count ms ≡ length ps → ⊥) → IsOfMembers w
    → (kinds : List KindView) → Wrong kinds (xdr.structure ps) (json.object ms) w
bad_count ps ms w other tells kinds = record { none = other_count ps ms other kinds; tells = tells }

pub bad_each : (ps : List Part) (ms : Members) (w : JsonReason) → has_each ps ms ≡ false → IsOfMembers w
    → (kinds : List KindView) → Wrong kinds (xdr.structure ps) (json.object ms) w
bad_each ps ms w none tells kinds = record { none = not_each ps ms none kinds; tells = tells }

pub bad_form_group : (ps : List Part) (j : Json) → (is_group ps j ≡ true → ⊥) → (kinds : List KindView)
    → reasons.NodeTells kinds (xdr.structure ps) j why.WrongType → Wrong kinds (xdr.structure ps) j why.WrongType
bad_form_group ps j none kinds tells = record { none = no_group ps j none kinds; tells = tells }

pub bad_form_choice : (kinds : List KindView) (tag : ℕ) (arms : List Branch) (other : Option Part) (j : Json)
    → ((z : ℤ) (ps : List Part) → is_choice kinds (kind_at kinds tag) z ps j ≡ true → ⊥)
    → reasons.NodeTells kinds (xdr.choice tag arms other) j why.WrongType
    → Wrong kinds (xdr.choice tag arms other) j why.WrongType
bad_form_choice kinds tag arms other j none tells =
    record { none = no_choice_object kinds tag arms other j none; tells = tells }

pub tells_no_case : (kinds : List KindView) (tag : ℕ) (arms : List Branch) (other : Option Part) (ms : Members)
    → has_key ms case_key ≡ false → Wrong kinds (xdr.choice tag arms other) (json.object ms) why.MissingMember
tells_no_case kinds tag arms other ms none =
    record { none = no_case kinds tag arms other ms none; tells = reasons.no_case none }

pub tells_bad_case : (kinds : List KindView) (tag : ℕ) (arms : List Branch) (other : Option Part) (ms : Members)
    (w : JsonReason) → has_key ms case_key ≡ true
    → ((z : ℤ) → is_tag_of (kind_at kinds tag) z ≡ true → is_tag_json (kind_at kinds tag) z (at_key ms case_key) ≡ true
    → ⊥) → w ≡ tag_reason (kind_at kinds tag) (at_key ms case_key)
    → Wrong kinds (xdr.choice tag arms other) (json.object ms) w
tells_bad_case kinds tag arms other ms w named none is = record {
  none = no_tag kinds tag arms other ms none;
  tells = subst (λ (x : JsonReason). ChoiceTells kinds (kind_at kinds tag) arms other ms x) (sym is)
      (reasons.bad_case named (λ z t. none z t.legal t.shown));
}

pub tells_no_arm : (kinds : List KindView) → AreApart kinds → (tag : ℕ) (arms : List Branch) (other : Option Part)
    (ms : Members) (z : ℤ) → has_key ms case_key ≡ true → is_tag_of (kind_at kinds tag) z ≡ true
    → is_tag_json (kind_at kinds tag) z (at_key ms case_key) ≡ true → part_of arms other z ≡ None
    → Wrong kinds (xdr.choice tag arms other) (json.object ms) why.NoArm
tells_no_arm kinds apart tag arms other ms z named legal shown none = record {
  none = no_arm kinds apart tag arms other ms z legal shown none;
  tells = reasons.no_arm named z (record { legal = legal; shown = shown }) none;
}

pub tells_bad_arm : (kinds : List KindView) → AreApart kinds → (tag : ℕ) (arms : List Branch) (other : Option Part)
    (ms : Members) (z : ℤ) (p : Part) (w : JsonReason) → has_key ms case_key ≡ true
    → is_tag_of (kind_at kinds tag) z ≡ true → is_tag_json (kind_at kinds tag) z (at_key ms case_key) ≡ true
    → part_of arms other z ≡ Some p → has_arm_alone kinds p ms ≡ false → IsOfMembers w
    → Wrong kinds (xdr.choice tag arms other) (json.object ms) w
tells_bad_arm kinds apart tag arms other ms z p w named legal shown is alone tells = record {
  none = other_arm kinds apart tag arms other ms z p legal shown is alone;
  tells = reasons.bad_arm named z (record { legal = legal; shown = shown }) p is alone w tells;
}

pub wrong_as : (kinds : List KindView) (f g : KindView) (j k : Json) (w : JsonReason) → g ≡ f → j ≡ k
    → Wrong kinds f j w → Wrong kinds g k w
wrong_as kinds f g j k w e i h =
    subst (λ (x : Json). Wrong kinds g x w) i (subst (λ (x : KindView). Wrong kinds x j w) (sym e) h)

-- ---- the same of a kind that is known by its place

pub shown_as : (kinds : List KindView) (f g : KindView) (j : Json) → g ≡ f → ShowsNone kinds f j → ShowsNone kinds g j
shown_as kinds f g j e = subst (λ (x : KindView). ShowsNone kinds x j) (sym e)

pub mapped_some : {M : Type 0} (f : M → Part) (o : Option M) (m : M) (r : Option Part) → o ≡ Some m
    → option_map f o ≡ r → r ≡ Some (f m)
mapped_some f o m r e is = sym is ∙ ap (option_map f) e

pub mapped_none : {M : Type 0} (f : M → Part) (o : Option M) (r : Option Part) → o ≡ None → option_map f o ≡ r
    → r ≡ None
mapped_none f o r e is = sym is ∙ ap (option_map f) e

pub not_some : {M : Type 0} (o : Option M) → ((m : M) → o ≡ Some m → ⊥) → o ≡ None
not_some None none = refl
not_some (Some m) none = absurd (none m refl)
