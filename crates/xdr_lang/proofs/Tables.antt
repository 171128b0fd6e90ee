-- What the tables of types and places hold, as they grow and as they are asked.
use Rattle.std.proofs.Common.{◌≡◌, ◌≤◌, ◌<◌, ◌+◌, ◌-◌, ℕ, zero, suc, Bool, true, false, cond, List, [], ◌∷◌}
use Rattle.std.proofs.Common.{◌++◌, Option, Some, None, option_map, is_some, refl, sym, ap, subst, ◌∙◌}
use Rattle.std.proofs.Common.{arith}
use Rattle.std.specs.BTreeMap.{BTreeMap, Updates, IsUnchanged, IsEmpty}
use Rattle.std.specs.BTreeSet.{BTreeSet}
use Rattle.std.specs.List.{list_any}
use Rattle.std.specs.Option.{option_or}
use Rattle.std.specs.Str.{bytes_eq}
use Rattle.xdr_units.proofs.Found.{is_some-map}
use denote.Ref.{Bor}
use Rattle.xdr_grammar.specs.declared.outline.Part.{Part}
use Rattle.xdr_grammar.specs.View.{part_of}
use Rattle.xdr_grammar.specs.Outline as out
use Rattle.xdr_tokens.proofs.Options.{some_is}
use Rattle.xdr_tokens.specs.Options.{◌>>=◌}
use Rattle.xdr_constants.specs.Tables.{key_texts, at_name}
use Rattle.xdr_constants.proofs.Tables.{at_more, at_same, at_empty, none_from, picked, retained, option_or_cond}
use Rattle.xdr_constants.proofs.Tables.{restored}
use Rattle.xdr_constants.proofs.Tables.{same_text}
use Rattle.xdr_lang.specs.LookUp.{type_named, place_with, named_place}
use Rattle.xdr_lang.specs.Private.Tables.{HasParts, IsPlacedAt, HasPlaces, HasNoPlaces}
use Rattle.xdr_lang.specs.Private.Tables.{IsIn, leads_into, stays_in, all_stay, type_names}
use Rattle.xdr_lang.proofs.Sharing.{type_any}
use Rattle.xdr_lang.proofs.Sets.{names_cmp}

-- ---- types

named_more : (q : List ℕ) (ts : List out.Field) (t : out.Field)
    → type_named q (ts ++ t ∷ []) ≡ option_or (type_named q ts) (cond (bytes_eq t.name q) (Some t.part) None)
unfolding type_named
named_more q [] t = refl
named_more q (x ∷ ts) t = option_or_cond (bytes_eq x.name q) (type_named q ts) (type_named q (ts ++ t ∷ []))
    (cond (bytes_eq t.name q) (Some t.part) None) x.part (named_more q ts t)

map_cond : {A B : Type 0} (f : A → B) (b : Bool) (v : A) (o : Option A)
    → option_map f (cond b (Some v) o) ≡ cond b (Some (f v)) (option_map f o)
map_cond f true v o = refl
map_cond f false v o = refl

pub no_parts : (m : BTreeMap (Bor (List ℕ)) Part) → IsEmpty m → HasParts m []
unfolding type_named
no_parts m e = record { finds = λ q. ap (λ (o : Option Part). option_map part_of o) (at_empty m e q) }

pub new_part : (m n : BTreeMap (Bor (List ℕ)) Part) (ts : List out.Field) (t : out.Field) (key : Bor (List ℕ))
    (p : Part) → HasParts m ts → key.now ≡ t.name → part_of p ≡ t.part → is_some (at_name key.now m) ≡ false
    → Updates names_cmp m n key (Some p) → HasParts n (ts ++ t ∷ [])
new_part m n ts t key p has same is not u = record {
  finds = λ q.
      let absent : bytes_eq t.name q ≡ true → type_named q ts ≡ None = λ e.
      let there : key.now ≡ q = same ∙ same_text t.name q e in
      let none : at_name q m ≡ None = rw (← there) (none_from (at_name key.now m) not) in
      sym (has.finds q) ∙ ap (λ (o : Option Part). option_map part_of o) none in
      ap (λ (o : Option Part). option_map part_of o) (at_more m n key p u q)
      ∙ map_cond part_of (bytes_eq key.now q) p (at_name q m)
      ∙ (rw (same, is, has.finds q) (picked (bytes_eq t.name q) (type_named q ts) t.part absent))
      ∙ sym (named_more q ts t);
}

pub old_part : (m : BTreeMap (Bor (List ℕ)) Part) (ts : List out.Field) (t : out.Field) (key : Bor (List ℕ))
    → HasParts m ts → key.now ≡ t.name → is_some (at_name key.now m) ≡ true → HasParts m (ts ++ t ∷ [])
old_part m ts t key has same there = record {
  finds = λ q.
      let present : bytes_eq t.name q ≡ true → is_some (type_named q ts) ≡ true = λ e.
      let here : key.now ≡ q = same ∙ same_text t.name q e in
      let at : is_some (at_name q m) ≡ true = subst (λ (x : List ℕ). is_some (at_name x m) ≡ true) here there in
      ap (λ (o : Option out.Part). is_some o) (sym (has.finds q)) ∙ is_some-map part_of (at_name q m) ∙ at in
      has.finds q
      ∙ retained (bytes_eq t.name q) (type_named q ts) t.part present
      ∙ sym (named_more q ts t);
}

pub earlier_part : (m n o : BTreeMap (Bor (List ℕ)) Part) (ts : List out.Field) (t : out.Field) (key : Bor (List ℕ))
    (v w : Part) → HasParts m ts → key.now ≡ t.name → Updates names_cmp m n key (Some v)
    → Updates names_cmp n o key (Some w) → at_name key.now m ≡ Some w → HasParts o (ts ++ t ∷ [])
earlier_part m n o ts t key v w has same u r e =
    let all = old_part m ts t key has same (ap (λ (x : Option Part). is_some x) e) in
    record {
      finds = λ q. ap (λ (x : Option Part). option_map part_of x) (restored m n o key v w u r e q) ∙ all.finds q;
    }

-- a map that has nothing at a name, where no type has it
pub has_no_other : (m : BTreeMap (Bor (List ℕ)) Part) (ts : List out.Field) (n : List ℕ) → HasParts m ts
    → is_some (at_name n m) ≡ false → list_any (bytes_eq n) (type_names ts) ≡ false
has_no_other m ts n has not =
    sym (type_any n ts) ∙ ap (λ (o : Option out.Part). is_some o) (sym (has.finds n))
    ∙ is_some-map part_of (at_name n m) ∙ not

-- ---- places

reach : (types : List out.Field) (n : List ℕ) (part : out.Part) (place steps : ℕ) → type_named n types ≡ Some part
    → ((m : ℕ) → steps ≤ m → place_with types (named_place m types) part ≡ Some place) → (most : ℕ)
    → steps + 1 ≤ most → named_place most types n ≡ Some place
unfolding named_place
reach types n part place steps is f zero h = absurd (omega (arith, h))
reach types n part place steps is f (suc m) h = rw is (f m (omega (arith, h)))

-- a name is one step further than its part
pub one_further : (types : List out.Field) (n : List ℕ) (part : out.Part) (place steps : ℕ)
    → type_named n types ≡ Some part
    → ((m : ℕ) → steps ≤ m → place_with types (named_place m types) part ≡ Some place)
    → IsPlacedAt types n place (steps + 1)
one_further types n part place steps is f = record { reached = reach types n part place steps is f }

-- a name whose part has its place at once
pub placed_at_once : (m : BTreeMap (Bor (List ℕ)) Part) (types : List out.Field) (n : List ℕ) (p : Part)
    (part : out.Part) (place : ℕ) → HasParts m types → at_name n m ≡ Some p → part_of p ≡ part
    → ((named : List ℕ → Option ℕ) → place_with types named part ≡ Some place) → IsPlacedAt types n place 1
placed_at_once m types n p part place has at is f =
    let named : type_named n types ≡ Some part = sym (has.finds n) ∙ (rw (at, is) refl) in
    one_further types n part place 0 named (λ k h. f (named_place k types))

-- a name whose part is another name
pub placed_further : (m : BTreeMap (Bor (List ℕ)) Part) (known : BTreeMap (Bor (List ℕ)) (ℕ × ℕ))
    (types : List out.Field) (n : List ℕ) (p : Part) (next : List ℕ) (place steps : ℕ) → HasParts m types
    → HasPlaces known types → at_name n m ≡ Some p → part_of p ≡ out.IsNamed next
    → at_name next known ≡ Some (place, steps) → IsPlacedAt types n place (steps + 1)
placed_further m known types n p next place steps has places at is there =
    let named : type_named n types ≡ Some (out.IsNamed next) = sym (has.finds n) ∙ (rw (at, is) refl) in
    let right : IsPlacedAt types next place steps = places.right next place steps there in
    one_further types n (out.IsNamed next) place steps named (λ k h. right.reached k h)

pub no_places : (m : BTreeMap (Bor (List ℕ)) (ℕ × ℕ)) (types : List out.Field) → IsEmpty m → HasPlaces m types
no_places m types e = record {
  right = λ n place steps at. let no : None ≡ Some (place, steps) = sym (at_empty m e n)
      ∙ at in absurd cc;
}

pub same_places : (m n : BTreeMap (Bor (List ℕ)) (ℕ × ℕ)) (types : List out.Field) → HasPlaces m types → IsUnchanged m n
    → HasPlaces n types
same_places m n types has e =
    record { right = λ q place steps at. has.right q place steps (sym (at_same m n e q) ∙ at) }

split_place : (m : BTreeMap (Bor (List ℕ)) (ℕ × ℕ)) (types : List out.Field) (key : Bor (List ℕ)) (v : ℕ × ℕ)
    → HasPlaces m types → IsPlacedAt types key.now v.0 v.1 → (b : Bool) (q : List ℕ) (place steps : ℕ)
    → bytes_eq key.now q ≡ b → cond b (Some v) (at_name q m) ≡ Some (place, steps) → IsPlacedAt types q place steps
split_place m types key v has is true q place steps t e =
    let same : v ≡ (place, steps) = some_is v (place, steps) e in
    let there : key.now ≡ q = same_text key.now q t in
    subst (λ (w : ℕ × ℕ). IsPlacedAt types q w.0 w.1) same (subst (λ (x : List ℕ). IsPlacedAt types x v.0 v.1) there is)
split_place m types key v has is false q place steps t e = has.right q place steps e

pub new_place : (m n : BTreeMap (Bor (List ℕ)) (ℕ × ℕ)) (types : List out.Field) (key : Bor (List ℕ)) (v : ℕ × ℕ)
    → HasPlaces m types → IsPlacedAt types key.now v.0 v.1 → Updates names_cmp m n key (Some v) → HasPlaces n types
new_place m n types key v has is u =
    record {
      right = λ q place steps at. split_place m types key v has is (bytes_eq key.now q) q place steps refl
          (sym (at_more m n key v u q) ∙ at);
    }

-- ---- names that lead to one another alone

-- the part is another name, of the set
abbrev pub LeadsOn : BTreeSet (Bor (List ℕ)) → out.Part → Type 0
LeadsOn s p = (next : List ℕ) × (p ≡ out.IsNamed next) × IsIn next s

leads : (s : BTreeSet (Bor (List ℕ))) (p : out.Part) → leads_into s p ≡ true → LeadsOn s p
leads s (out.IsBasic b) e = absurd cc
leads s (out.IsNamed n) e = (n, refl, e)
leads s (out.IsStruct n) e = absurd cc
leads s (out.IsMade k) e = absurd cc
leads s (out.IsStructMade k) e = absurd cc
leads s out.IsText e = absurd cc
leads s out.IsVoid e = absurd cc

both : (b x : Bool) → cond b x false ≡ true → (b ≡ true) × (x ≡ true)
both true x e = (refl, e)
both false x e = absurd cc

pick_stay : (s : BTreeSet (Bor (List ℕ))) (ts : List out.Field) (t : out.Field) (n : List ℕ) (p : out.Part) (b : Bool)
    → bytes_eq t.name n ≡ b → stays_in s t ≡ true → IsIn n s → (type_named n ts ≡ Some p → LeadsOn s p)
    → cond b (Some t.part) (type_named n ts) ≡ Some p → LeadsOn s p
unfolding stays_in
pick_stay s ts t n p true same stays is later e =
    let there : IsIn t.name s = subst (λ (x : List ℕ). IsIn x s) (sym (same_text t.name n same)) is in
    let l = leads s t.part (rw there at stays) in
    (l.0, sym (some_is t.part p e) ∙ l.1, l.2)
pick_stay s ts t n p false other stays is later e = later e

-- what a name in the set was declared as first
stays_as : (s : BTreeSet (Bor (List ℕ))) (ts : List out.Field) (n : List ℕ) (p : out.Part) → all_stay s ts ≡ true
    → IsIn n s → type_named n ts ≡ Some p → LeadsOn s p
unfolding type_named all_stay
stays_as s [] n p all is e = absurd cc
stays_as s (t ∷ ts) n p all is e =
    let b = both (stays_in s t) (all_stay s ts) all in
    pick_stay s ts t n p (bytes_eq t.name n) refl b.0 is (λ later. stays_as s ts n p b.1 is later) e

no_place_with : (s : BTreeSet (Bor (List ℕ))) (types : List out.Field) (n : List ℕ) (named : List ℕ → Option ℕ)
    (o : Option out.Part) → type_named n types ≡ o → all_stay s types ≡ true → IsIn n s
    → ((m : List ℕ) → IsIn m s → named m ≡ None) → (o >>= place_with types named) ≡ None
no_place_with s types n named None e all is f = refl
no_place_with s types n named (Some p) e all is f =
    let on = stays_as s types n p all is e in
    ap (place_with types named) on.1 ∙ f on.0 on.2

stay_nowhere : (s : BTreeSet (Bor (List ℕ))) (types : List out.Field) → all_stay s types ≡ true → (most : ℕ)
    (n : List ℕ) → IsIn n s → named_place most types n ≡ None
unfolding named_place
stay_nowhere s types all zero n is = refl
stay_nowhere s types all (suc m) n is =
    no_place_with s types n (named_place m types) (type_named n types) refl all is (stay_nowhere s types all m)

-- what is found to stay among them denotes no place
pub found_endless : (s : BTreeSet (Bor (List ℕ))) (found types : List out.Field) (r : Bool) → r ≡ all_stay s found
    → found ≡ types → r ≡ true → HasNoPlaces s types
found_endless s found types r e same h = record {
  none = λ n is most.
      stay_nowhere s types (ap (λ (ts : List out.Field). all_stay s ts) (sym same) ∙ sym e ∙ h) most n is;
}

pub no_names : (s : BTreeSet (Bor (List ℕ))) (types : List out.Field) → s.keys ≡ [] → HasNoPlaces s types
no_names s types e = record {
  none = λ n is most.
      let no : false ≡ true = sym (ap (λ (ks : List (Bor (List ℕ))). list_any (bytes_eq n) (key_texts ks)) e) ∙ is in
      absurd cc;
}

-- ---- a walk along names

-- one step of a walk along names
pub follows : (types : List out.Field) (n : List ℕ) (p : out.Part) (i steps : ℕ) (total : Option ℕ) → i < steps
    → Some p ≡ type_named n types → named_place (steps - i) types n ≡ total
    → place_with types (named_place (steps - (i + 1)) types) p ≡ total
unfolding named_place
follows types n p i steps total lt is so_far =
    let k : steps - i ≡ suc (steps - (i + 1)) = omega arith in
    let one : named_place (steps - i) types n ≡ place_with types (named_place (steps - (i + 1)) types) p = rw
    (k, ← is) refl in
    sym one ∙ so_far
