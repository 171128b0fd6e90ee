-- One more value is told, of those that begin the bytes.
use Rattle.std.proofs.Common.{◌≡◌, ℕ, ◌+◌, ◌-◌, ◌<◌, ◌≤◌, suc, List, [], ◌∷◌, ◌++◌, Bool, true, false, ◌&&◌, replicate}
use Rattle.std.proofs.Common.{refl, ap, sym, subst, ◌∙◌, append_assoc, arith}
use Rattle.std.specs.Prelude.{Result, Ok, Err, IfOk, Some}
use Rattle.std.proofs.lemmas.Bool.{false≢true, and_parts as both}
use Rattle.json.specs.Token.{Token, end_array, end_object}
use Rattle.json.specs.Token as token
use Rattle.json.specs.Tree.{json_tokens, items_tokens, members_tokens}
use Rattle.json.specs.Value.{items_of}
use Rattle.xdr_types.specs.Kinds.{KindView, Part, kind_at}
use Rattle.xdr_types.specs.Tree as value
use Rattle.xdr_types.specs.Tree.{Values, Tree}
use Rattle.xdr_types.specs.Fits.{fit, is_legal, parts}
use Rattle.xdr_types.specs.Spelling.{own, spelling, bytes_of}
use Rattle.xdr_json.specs.Mapping.{field_members, jsons, json_of}
use Rattle.xdr_json.specs.Private.Standing.{Stands, StandEach, Says}
use Rattle.xdr_json.proofs.Tokens.{items-step, fields-step}

-- the first of some values, and the others
pub record First (S : List KindView) (p : Part) (ps : List Part) (most : ℕ) (bs : List ℕ) (vs : Values)
    (rest : List ℕ) : Type 0 where
  pub tree : Tree
  pub more : Values
  pub is : vs ≡ value.node tree.0 tree.1 more
  pub deep : value.depth tree ≤ most
  pub lower : value.depth_of more ≤ most
  pub others : fit S ps more ≡ true
  pub stands : Stands S p.kind bs tree (spelling S ps more ++ rest)

pub first_value : (S : List KindView) (p : Part) (ps : List Part) (most : ℕ) (bs : List ℕ) (vs : Values)
    (rest : List ℕ) → value.depth_of vs ≤ most → StandEach S (p ∷ ps) bs vs rest → First S p ps most bs vs rest
first_value S p ps most bs value.none rest d e = absurd (false≢true e.fit)
first_value S p ps most bs (value.node g i r) rest d e =
    let f = kind_at S p.kind in
    let b = both (is_legal S f g && fit S (parts f g) i) (fit S ps r) e.fit in
    let t : Tree = (g, i) in
    record {
      tree = t;
      more = r;
      is = refl;
      deep = omega (arith, d);
      lower = omega (arith, d);
      others = b.1;
      stands = record {
        fits = b.0;
        spelled = e.spelled ∙ append_assoc (bytes_of S p.kind t) (spelling S ps r) rest;
      };
    }

-- what is told of the value that begins the bytes, whichever it is
abbrev pub Told : List KindView → (place most : ℕ) → (bs left : List ℕ) → (old new : List Token) → Type 0
Told S place most bs left old new = (t : Tree) (rest : List ℕ) → value.depth t ≤ most → Stands S place bs t rest
    → Says left rest old new (json_tokens (json_of S place t))

-- so many items are still to be told
pub record ItemsLeft (S : List KindView) (p : Part) (count most : ℕ) (bs rest : List ℕ) (now all : List Token) : Type 0
  where
    pub values : Values
    pub deep : value.depth_of values ≤ most
    pub each : StandEach S (replicate count p) bs values rest
    pub told : now ++ items_tokens (items_of (jsons S (replicate count p) values)) ≡ all

-- before the first item
pub items_begin : (S : List KindView) (p : Part) (count most : ℕ) (bs : List ℕ) (vs : Values) (rest : List ℕ)
    (now : List Token) → value.depth_of vs ≤ most → StandEach S (replicate count p) bs vs rest
    → ItemsLeft S p (count - 0) most bs rest now
    (now ++ items_tokens (items_of (jsons S (replicate count p) vs)))
items_begin S p count most bs vs rest now d e =
    let all = now ++ items_tokens (items_of (jsons S (replicate count p) vs)) in
    let same : count ≡ count - 0 = omega arith in
    let l : ItemsLeft S p count most bs rest now all = record { values = vs; deep = d; each = e; told = refl } in
    subst (λ (k : ℕ). ItemsLeft S p k most bs rest now all) same l

pub items_more : (S : List KindView) (p : Part) (m n most : ℕ) (bs left rest : List ℕ) (now new all : List Token)
    → m ≡ suc n → ItemsLeft S p m most bs rest now all → Told S p.kind most bs left now new
    → ItemsLeft S p n most left rest new all
items_more S p m n most bs left rest now new all e l told =
    let qe : replicate m p ≡ p ∷ replicate n p = ap (λ (k : ℕ). replicate k p) e in
    let f = first_value S p (replicate n p) most bs l.values rest l.deep
    (subst (λ (ps : List Part). StandEach S ps bs l.values rest) qe l.each) in
    let s = told f.tree (spelling S (replicate n p) f.more ++ rest) f.deep f.stands in
    record {
      values = f.more;
      deep = f.lower;
      each = record { fit = f.others; spelled = s.left };
      told = items-step S p (replicate n p) (replicate m p) f.tree f.more l.values now new all qe f.is l.told s.told;
    }

pub items_end : (S : List KindView) (p : Part) (m most : ℕ) (bs rest : List ℕ) (now all : List Token) → m ≡ 0
    → ItemsLeft S p m most bs rest now all → (bs ≡ rest) × (now ++ end_array ∷ [] ≡ all)
items_end S p m most bs rest now all e l =
    let none : replicate m p ≡ [] = ap (λ (k : ℕ). replicate k p) e in
    let each = subst (λ (ps : List Part). StandEach S ps bs l.values rest) none l.each in
    let told = subst (λ (ps : List Part). now ++ items_tokens (items_of (jsons S ps l.values)) ≡ all) none l.told in
    by_case l.values each told
  where
    by_case : (vs : Values) → StandEach S [] bs vs rest → now ++ items_tokens (items_of (jsons S [] vs)) ≡ all
        → (bs ≡ rest) × (now ++ end_array ∷ [] ≡ all)
    by_case value.none each told = (each.spelled, told)
    by_case (value.node g i r) each told = absurd (false≢true each.fit)

-- these fields are still to be told
pub record FieldsLeft (S : List KindView) (ps : List Part) (most : ℕ) (bs rest : List ℕ) (now all : List Token)
    : Type 0 where
  pub values : Values
  pub deep : value.depth_of values ≤ most
  pub each : StandEach S ps bs values rest
  pub told : now ++ members_tokens (field_members ps (jsons S ps values)) ≡ all

pub fields_more : (S : List KindView) (p : Part) (ps qs : List Part) (most : ℕ) (bs left rest : List ℕ)
    (now keyed new all : List Token) → qs ≡ p ∷ ps → FieldsLeft S qs most bs rest now all
    → keyed ≡ now ++ token.key p.name ∷ [] → Told S p.kind most bs left keyed new
    → FieldsLeft S ps most left rest new all
fields_more S p ps qs most bs left rest now keyed new all qe l ke told =
    let f = first_value S p ps most bs l.values rest l.deep
    (subst (λ (z : List Part). StandEach S z bs l.values rest) qe l.each) in
    let s = told f.tree (spelling S ps f.more ++ rest) f.deep f.stands in
    record {
      values = f.more;
      deep = f.lower;
      each = record { fit = f.others; spelled = s.left };
      told = fields-step S p ps qs f.tree f.more l.values now keyed new all qe f.is l.told ke s.told;
    }

pub fields_end : (S : List KindView) (ps : List Part) (most : ℕ) (bs rest : List ℕ) (now all : List Token) → ps ≡ []
    → FieldsLeft S ps most bs rest now all → (bs ≡ rest) × (now ++ end_object ∷ [] ≡ all)
fields_end S ps most bs rest now all none l =
    let each = subst (λ (z : List Part). StandEach S z bs l.values rest) none l.each in
    let told = subst (λ (z : List Part). now ++ members_tokens (field_members z (jsons S z l.values)) ≡ all) none l.told
    in
    by_case l.values each told
  where
    by_case : (vs : Values) → StandEach S [] bs vs rest
        → now ++ members_tokens (field_members [] (jsons S [] vs)) ≡ all
        → (bs ≡ rest) × (now ++ end_object ∷ [] ≡ all)
    by_case value.none each told = (each.spelled, told)
    by_case (value.node g i r) each told = absurd (false≢true each.fit)

-- what holds of a result that is there
pub if_ok : {A E : Type 0} (P Q : A → Type 0) (r : Result A E) → IfOk r P → ((a : A) → P a → Q a) → IfOk r Q
if_ok P Q (Ok a) h f = f a h
if_ok P Q (Err e) h f = tt

-- the tokens of a union, one after another
pub union_tokens : (old a b d new tag arm : List Token) (begun named : Token) → a ≡ old ++ begun ∷ []
    → b ≡ a ++ named ∷ []
    → d ≡ b ++ tag → new ≡ d ++ arm → new ≡ old ++ (begun ∷ named ∷ (tag ++ arm))
union_tokens old a b d new tag arm begun named e1 e2 e3 e4 =
    e4
    ∙ ap (λ (z : List Token). z ++ arm) (e3 ∙ ap (λ (z : List Token). z ++ tag)
    (e2 ∙ ap (λ (z : List Token). z ++ named ∷ []) e1))
    ∙ append_assoc ((old ++ begun ∷ []) ++ named ∷ []) tag arm
    ∙ append_assoc (old ++ begun ∷ []) (named ∷ []) (tag ++ arm)
    ∙ append_assoc old (begun ∷ []) (named ∷ (tag ++ arm))

pub some_is : {A : Type 0} (x y : A) → Some x ≡ Some y → x ≡ y
some_is x y e = cc
