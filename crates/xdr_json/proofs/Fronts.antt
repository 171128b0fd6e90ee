-- What the bytes of a value begin with, by its kind, and what is told of it.
use Rattle.std.proofs.Common.{◌≡◌, ℕ, ◌+◌, ◌<◌, ◌≤◌, ◌^◌, ◌⊎◌, inl, inr, ℤ, pos, List, [], ◌∷◌, ◌++◌, length, replicate}
use Rattle.std.proofs.Common.{Option, Some, None, is_some, Bool, true, false, ◌&&◌, refl, ap, sym, subst, ◌∙◌}
use Rattle.std.proofs.Common.{append_assoc, lit<, arith}
use Rattle.std.proofs.lemmas.Bool.{false≢true, and_parts as both}
use Rattle.std.proofs.lemmas.List.{append-nil}
use Rattle.std.specs.Fmt.{signed_decimal}
use Rattle.json.specs.Json as json
use Rattle.json.specs.Json.{Json, no_members, member}
use Rattle.json.specs.Value.{items_of}
use Rattle.xdr_units.specs.Numbers.{word, long_word, padded}
use Rattle.xdr_types.specs.Kinds as xdr
use Rattle.xdr_types.specs.Kinds.{KindView, Part, Branch, kind_at}
use Rattle.xdr_types.specs.Tree as value
use Rattle.xdr_types.specs.Tree.{Head, Values, Tree}
use Rattle.xdr_types.specs.Fits.{fit, fits, is_legal, is_tag_of, item_part, optional_part, part_of, parts}
use Rattle.xdr_types.specs.Spelling.{own, spelling}
use Rattle.xdr_types.specs.Outcome.{number_in}
use Rattle.xdr_laws.proofs.GoesOn.{legal_known}
use Rattle.xdr_laws.proofs.Legal.{IsLegal, legal_is, numbered_signed}
use Rattle.xdr_laws.proofs.Numbers.{unit_of, units_of, signed_back, signed8_back, number_back}
use Rattle.xdr_json.specs.Mapping.{case_key, name_json, tag_json, content_json, field_members, arm_members}
use Rattle.xdr_json.specs.Mapping.{present_json, node_json, jsons, json_of}
use Rattle.xdr_json.specs.Private.Standing.{Stands, StandEach, unit_json, units_json}
use Rattle.xdr_json.proofs.Apart.{outside}

-- a node of a kind: its head is legal, its parts fit, and their bytes begin these
pub record Node (S : List KindView) (f : KindView) (bs : List ℕ) (h : Head) (inner : Values) (rest : List ℕ) : Type 0
  where
    pub legal : IsLegal S f h
    pub inside : fit S (parts f h) inner ≡ true
    pub spelled : bs ≡ own f h ++ (spelling S (parts f h) inner ++ rest)

-- its JSON
abbrev pub said : List KindView → KindView → Head → Values → Json
said S f h inner = node_json S f h (jsons S (parts f h) inner)

pub node_of : (S : List KindView) (place : ℕ) (bs : List ℕ) (t : Tree) (rest : List ℕ) (f : KindView)
    → f ≡ kind_at S place → Stands S place bs t rest → Node S f bs t.0 t.1 rest
node_of S place bs t rest f e st =
    let g = kind_at S place in
    let b = both (is_legal S g t.0) (fit S (parts g t.0) t.1) st.fits in
    let whole : Node S g bs t.0 t.1 rest = record {
      legal = legal_is S g t.0 b.0;
      inside = b.1;
      spelled = st.spelled ∙ append_assoc (own g t.0) (spelling S (parts g t.0) t.1) rest;
    } in
    subst (λ (k : KindView). Node S k bs t.0 t.1 rest) (sym e) whole

-- the JSON of a value by its kind
pub said_of : (S : List KindView) (place : ℕ) (t : Tree) (f : KindView) → f ≡ kind_at S place
    → json_of S place t ≡ said S f t.0 t.1
said_of S place t f e = ap (λ (k : KindView). said S k t.0 t.1) (sym e)

-- ---- one unit

abbrev pub is_unit : KindView → Bool
is_unit xdr.int = true
is_unit xdr.unsigned = true
is_unit xdr.boolean = true
is_unit (xdr.numbered cs) = true
is_unit _ = false

pub record OneUnit (S : List KindView) (f : KindView) (bs : List ℕ) (h : Head) (inner : Values) (rest : List ℕ)
    : Type 0 where
  pub unit : ℕ
  pub small : unit < 2 ^ 32
  pub spelled : bs ≡ word unit ++ rest
  pub is : said S f h inner ≡ unit_json f unit

pub unit_at : (S : List KindView) (f : KindView) (bs : List ℕ) (h : Head) (inner : Values) (rest : List ℕ)
    → is_unit f ≡ true → Node S f bs h inner rest → OneUnit S f bs h inner rest
unit_at S xdr.int bs (value.int z) value.none rest u n =
    let b = signed_back z n.legal in
    record {
      unit = unit_of z;
      small = b.0;
      spelled = n.spelled;
      is = ap (λ (y : ℤ). json.number (signed_decimal y)) (sym b.1);
    }
unit_at S xdr.int bs (value.int z) (value.node g i r) rest u n = absurd (false≢true n.inside)
unit_at S xdr.int bs _ inner rest u n = absurd n.legal
unit_at S xdr.unsigned bs (value.unsigned m) value.none rest u n =
    record { unit = m; small = n.legal; spelled = n.spelled; is = refl }
unit_at S xdr.unsigned bs (value.unsigned m) (value.node g i r) rest u n = absurd (false≢true n.inside)
unit_at S xdr.unsigned bs _ inner rest u n = absurd n.legal
unit_at S xdr.boolean bs (value.boolean true) value.none rest u n =
    record { unit = 1; small = lit< tt; spelled = n.spelled; is = refl }
unit_at S xdr.boolean bs (value.boolean false) value.none rest u n =
    record { unit = 0; small = lit< tt; spelled = n.spelled; is = refl }
unit_at S xdr.boolean bs (value.boolean b) (value.node g i r) rest u n = absurd (false≢true n.inside)
unit_at S xdr.boolean bs _ inner rest u n = absurd n.legal
unit_at S (xdr.numbered cs) bs (value.numbered z) value.none rest u n =
    let b = signed_back z (numbered_signed cs z n.legal) in
    record {
      unit = unit_of z;
      small = b.0;
      spelled = n.spelled;
      is = ap (λ (y : ℤ). name_json (xdr.numbered cs) y) (sym b.1);
    }
unit_at S (xdr.numbered cs) bs (value.numbered z) (value.node g i r) rest u n = absurd (false≢true n.inside)
unit_at S (xdr.numbered cs) bs _ inner rest u n = absurd n.legal
unit_at S _ bs h inner rest u n = absurd (false≢true u)

-- ---- two units

abbrev pub is_wide : KindView → Bool
is_wide xdr.hyper = true
is_wide xdr.unsigned_hyper = true
is_wide _ = false

pub record TwoUnits (S : List KindView) (f : KindView) (bs : List ℕ) (h : Head) (inner : Values) (rest : List ℕ)
    : Type 0 where
  pub units : ℕ
  pub small : units < 2 ^ 64
  pub spelled : bs ≡ long_word units ++ rest
  pub is : said S f h inner ≡ units_json f units

pub units_at : (S : List KindView) (f : KindView) (bs : List ℕ) (h : Head) (inner : Values) (rest : List ℕ)
    → is_wide f ≡ true → Node S f bs h inner rest → TwoUnits S f bs h inner rest
units_at S xdr.hyper bs (value.hyper z) value.none rest u n =
    let b = signed8_back z n.legal in
    record {
      units = units_of z;
      small = b.0;
      spelled = n.spelled;
      is = ap (λ (y : ℤ). json.string (signed_decimal y)) (sym b.1);
    }
units_at S xdr.hyper bs (value.hyper z) (value.node g i r) rest u n = absurd (false≢true n.inside)
units_at S xdr.hyper bs _ inner rest u n = absurd n.legal
units_at S xdr.unsigned_hyper bs (value.unsigned_hyper m) value.none rest u n =
    record { units = m; small = n.legal; spelled = n.spelled; is = refl }
units_at S xdr.unsigned_hyper bs (value.unsigned_hyper m) (value.node g i r) rest u n = absurd (false≢true n.inside)
units_at S xdr.unsigned_hyper bs _ inner rest u n = absurd n.legal
units_at S _ bs h inner rest u n = absurd (false≢true u)

-- ---- content

pub record Sized (S : List KindView) (f : KindView) (size : ℕ) (bs : List ℕ) (h : Head) (inner : Values)
    (rest : List ℕ) : Type 0 where
  pub content : List ℕ
  pub long : length content ≡ size
  pub spelled : bs ≡ padded content ++ rest
  pub is : said S f h inner ≡ content_json f content

pub sized_at : (S : List KindView) (size : ℕ) (bs : List ℕ) (h : Head) (inner : Values) (rest : List ℕ)
    → Node S (xdr.opaque size) bs h inner rest → Sized S (xdr.opaque size) size bs h inner rest
sized_at S size bs (value.bytes c) value.none rest n =
    record { content = c; long = n.legal.0; spelled = n.spelled; is = refl }
sized_at S size bs (value.bytes c) (value.node g i r) rest n = absurd (false≢true n.inside)
sized_at S size bs _ inner rest n = absurd n.legal

abbrev pub is_counted : KindView → Bool
is_counted (xdr.opaque_up_to max) = true
is_counted (xdr.text max) = true
is_counted _ = false

pub record Counted (S : List KindView) (f : KindView) (bs : List ℕ) (h : Head) (inner : Values) (rest : List ℕ)
    : Type 0 where
  pub content : List ℕ
  pub small : length content < 2 ^ 32
  pub spelled : bs ≡ word (length content) ++ (padded content ++ rest)
  pub is : said S f h inner ≡ content_json f content

pub counted_at : (S : List KindView) (f : KindView) (bs : List ℕ) (h : Head) (inner : Values) (rest : List ℕ)
    → is_counted f ≡ true → Node S f bs h inner rest → Counted S f bs h inner rest
counted_at S (xdr.opaque_up_to max) bs (value.bytes c) value.none rest u n =
    record {
      content = c;
      small = n.legal.1;
      spelled = n.spelled ∙ append_assoc (word (length c)) (padded c) rest;
      is = refl;
    }
counted_at S (xdr.opaque_up_to max) bs (value.bytes c) (value.node g i r) rest u n = absurd (false≢true n.inside)
counted_at S (xdr.opaque_up_to max) bs _ inner rest u n = absurd n.legal
counted_at S (xdr.text max) bs (value.bytes c) value.none rest u n =
    record {
      content = c;
      small = n.legal.1;
      spelled = n.spelled ∙ append_assoc (word (length c)) (padded c) rest;
      is = refl;
    }
counted_at S (xdr.text max) bs (value.bytes c) (value.node g i r) rest u n = absurd (false≢true n.inside)
counted_at S (xdr.text max) bs _ inner rest u n = absurd n.legal
counted_at S _ bs h inner rest u n = absurd (false≢true u)

-- ---- groups

abbrev pub array_json : List KindView → (item count : ℕ) → Values → Json
array_json S item count vs = json.array (items_of (jsons S (replicate count (item_part item)) vs))

pub fixed_at : (S : List KindView) (item size : ℕ) (bs : List ℕ) (h : Head) (inner : Values) (rest : List ℕ)
    → Node S (xdr.fixed item size) bs h inner rest → StandEach S (replicate size (item_part item)) bs inner rest
    × (said S (xdr.fixed item size) h inner ≡ array_json S item size inner)
fixed_at S item size bs (value.items m) inner rest n =
    let each : StandEach S (replicate m (item_part item)) bs inner rest = record {
      fit = n.inside;
      spelled = n.spelled;
    } in (
      subst (λ (k : ℕ). StandEach S (replicate k (item_part item)) bs inner rest) n.legal each,
      ap (λ (k : ℕ). array_json S item k inner) n.legal,
    )
fixed_at S item size bs _ inner rest n = absurd n.legal

pub record Many (S : List KindView) (item max : ℕ) (bs : List ℕ) (h : Head) (inner : Values) (rest : List ℕ) : Type 0
  where
    pub count : ℕ
    pub small : count < 2 ^ 32
    pub after : List ℕ
    pub spelled : bs ≡ word count ++ after
    pub each : StandEach S (replicate count (item_part item)) after inner rest
    pub is : said S (xdr.up_to item max) h inner ≡ array_json S item count inner

pub many_at : (S : List KindView) (item max : ℕ) (bs : List ℕ) (h : Head) (inner : Values) (rest : List ℕ)
    → Node S (xdr.up_to item max) bs h inner rest → Many S item max bs h inner rest
many_at S item max bs (value.items m) inner rest n = record {
  count = m;
  small = n.legal.1;
  after = spelling S (replicate m (item_part item)) inner ++ rest;
  spelled = n.spelled;
  each = record { fit = n.inside; spelled = refl };
  is = refl;
}
many_at S item max bs _ inner rest n = absurd n.legal

pub fields_at : (S : List KindView) (ps : List Part) (bs : List ℕ) (h : Head) (inner : Values) (rest : List ℕ)
    → Node S (xdr.structure ps) bs h inner rest → StandEach S ps bs inner rest
    × (said S (xdr.structure ps) h inner ≡ json.object (field_members ps (jsons S ps inner)))
fields_at S ps bs value.fields inner rest n = (record { fit = n.inside; spelled = n.spelled }, refl)
fields_at S ps bs _ inner rest n = absurd n.legal

pub nothing_at : (S : List KindView) (bs : List ℕ) (h : Head) (inner : Values) (rest : List ℕ)
    → Node S xdr.nothing bs h inner rest → (bs ≡ rest) × (said S xdr.nothing h inner ≡ json.object no_members)
nothing_at S bs value.nothing value.none rest n = (n.spelled, refl)
nothing_at S bs value.nothing (value.node g i r) rest n = absurd (false≢true n.inside)
nothing_at S bs _ inner rest n = absurd n.legal

-- ---- one part

-- one value for one part
pub record Inside (S : List KindView) (p : Part) (inner : Values) (rest : List ℕ) : Type 0 where
  pub tree : Tree
  pub is : inner ≡ value.node tree.0 tree.1 value.none
  pub stands : Stands S p.kind (spelling S (p ∷ []) inner ++ rest) tree rest

pub one_inside : (S : List KindView) (p : Part) (inner : Values) (rest : List ℕ) → fit S (p ∷ []) inner ≡ true
    → Inside S p inner rest
one_inside S p value.none rest h = absurd (false≢true h)
one_inside S p (value.node g i value.none) rest h =
    let f = kind_at S p.kind in
    let b = both (is_legal S f g && fit S (parts f g) i) true h in
    let t : Tree = (g, i) in
    record {
      tree = t;
      is = refl;
      stands = record {
        fits = b.0;
        spelled = ap (λ (z : List ℕ). z ++ rest) (append-nil (own f g ++ spelling S (parts f g) i));
      };
    }
one_inside S p (value.node g i (value.node k l r)) rest h =
    let f = kind_at S p.kind in
    absurd (false≢true (both (is_legal S f g && fit S (parts f g) i) false h).1)

pub below : (inner : Values) (t : Tree) (most : ℕ) → inner ≡ value.node t.0 t.1 value.none
    → value.depth_of inner ≤ most → value.depth t ≤ most
below inner t most e h =
    let d : value.depth_of inner ≡ value.depth_of (value.node t.0 t.1 value.none) = ap value.depth_of e in
    omega (arith, d, h)

-- an optional item: absent, or present
pub optional_at : (S : List KindView) (item : ℕ) (bs : List ℕ) (h : Head) (inner : Values) (rest : List ℕ)
    → Node S (xdr.maybe item) bs h inner rest
    → ((bs ≡ word 0 ++ rest) × (said S (xdr.maybe item) h inner ≡ json.null))
    ⊎ ((i : Inside S (item_part item) inner rest)
    × (bs ≡ word 1 ++ (spelling S (item_part item ∷ []) inner ++ rest))
    × (said S (xdr.maybe item) h inner ≡ present_json (kind_at S item) (json_of S item i.tree ∷ [])))
optional_at S item bs value.absent value.none rest n = inl (n.spelled, refl)
optional_at S item bs value.absent (value.node g i r) rest n = absurd (false≢true n.inside)
optional_at S item bs value.present inner rest n =
    let i = one_inside S (item_part item) inner rest n.inside in
    inr (
      i,
      n.spelled,
      ap (λ (z : Values). present_json (kind_at S item) (jsons S (item_part item ∷ []) z)) i.is,
    )
optional_at S item bs _ inner rest n = absurd n.legal

-- a union: its discriminant, and the part under it
pub record Union (S : List KindView) (tag : ℕ) (arms : List Branch) (other : Option Part) (bs : List ℕ) (h : Head)
    (inner : Values) (rest : List ℕ) : Type 0 where
  pub number : ℤ
  pub small : unit_of number < 2 ^ 32
  pub back : number_in (kind_at S tag) (unit_of number) ≡ number
  pub legal : is_tag_of (kind_at S tag) number ≡ true
  pub part : Part
  pub under : part_of arms other number ≡ Some part
  pub inside : Inside S part inner rest
  pub spelled : bs ≡ word (unit_of number) ++ (spelling S (part ∷ []) inner ++ rest)
  pub is : said S (xdr.choice tag arms other) h inner
      ≡ json.object (member case_key (tag_json (kind_at S tag) number)
      (arm_members S (part ∷ []) (json_of S part.kind inside.tree ∷ [])))

some_part_is : (o : Option Part) → is_some o ≡ true → (p : Part) × (o ≡ Some p)
some_part_is (Some p) h = (p, refl)
some_part_is None h = absurd (false≢true h)

pub union_at : (S : List KindView) (tag : ℕ) (arms : List Branch) (other : Option Part) (bs : List ℕ) (h : Head)
    (inner : Values) (rest : List ℕ) → Node S (xdr.choice tag arms other) bs h inner rest
    → Union S tag arms other bs h inner rest
union_at S tag arms other bs (value.tag z) inner rest n =
    let b = number_back (kind_at S tag) z n.legal.0 in
    let p = some_part_is (part_of arms other z) n.legal.1 in
    let fit_one : fit S (p.0 ∷ []) inner ≡ true = subst (λ (o : Option Part). fit S (optional_part o) inner ≡ true) p.1
    n.inside in
    let i = one_inside S p.0 inner rest fit_one in
    let tagged : Option Part → Values → Json = λ o v. json.object (member case_key (tag_json (kind_at S tag) z)
    (arm_members S (optional_part o) (jsons S (optional_part o) v))) in
    record {
      number = z;
      small = b.0;
      back = b.1;
      legal = n.legal.0;
      part = p.0;
      under = p.1;
      inside = i;
      spelled = n.spelled
          ∙ ap (λ (o : Option Part). word (unit_of z) ++ (spelling S (optional_part o) inner ++ rest)) p.1;
      is = ap (λ (o : Option Part). tagged o inner) p.1 ∙ ap (λ (v : Values). tagged (Some p.0) v) i.is;
    }
union_at S tag arms other bs _ inner rest n = absurd n.legal

-- ---- what has no value

-- a kind that the list does not have has no value
pub none_outside : (S : List KindView) (place : ℕ) (bs : List ℕ) (t : Tree) (rest : List ℕ) → length S ≤ place
    → Stands S place bs t rest → ⊥
none_outside S place bs t rest past st =
    let n = node_of S place bs t rest (kind_at S place) refl st in
    omega (arith, past, legal_known S place t.0 n.legal)

-- no value has no level
pub none_flat : (t : Tree) (most : ℕ) → most ≡ 0 → value.depth t ≤ most → ⊥
none_flat t most e d = omega (arith, e, d)

-- a discriminant of a kind that the list does not have has no number
pub none_tagged : (S : List KindView) (tag : ℕ) (arms : List Branch) (other : Option Part) (bs : List ℕ) (h : Head)
    (inner : Values) (rest : List ℕ) → length S ≤ tag → Node S (xdr.choice tag arms other) bs h inner rest → ⊥
none_tagged S tag arms other bs h inner rest past n =
    let u = union_at S tag arms other bs h inner rest n in
    false≢true (subst (λ (f : KindView). is_tag_of f u.number ≡ true) (outside S tag past) u.legal)
