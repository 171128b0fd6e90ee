-- A set of the names or numbers before one tells whether it is among them.
use Rattle.std.proofs.Common.{◌≡◌, Ordering, ℕ, ℤ, Bool, true, false, cond, ◌||◌, ◌&&◌, List, [], ◌∷◌, ◌++◌, refl}
use Rattle.std.proofs.Common.{sym, ap, subst, ◌∙◌}
use Rattle.std.specs.Prelude.{filter}
use Rattle.std.specs.declared.cmp.Ordering.TheVariants.{Less, Equal, Greater}
use Rattle.std.specs.BTreeSet.{BTreeSet, contains, Updates}
use Rattle.std.specs.BTreeMap.{is_at}
use Rattle.std.specs.List.{list_any}
use Rattle.std.specs.Ordering.{int_cmp, int_eq, is_eq, ordering_then}
use Rattle.std.specs.Str.{bytes_eq}
use Rattle.std.proofs.lemmas.Map.Text.{is_eq-slice_cmp}
use Rattle.std.proofs.lemmas.List.Folds.{list_any-append}
use Rattle.std.proofs.Math.Bool.{or-false}
use Rattle.std.proofs.lemmas.Bool.Decides.{same_from_decides, Decides-like, Decides-int_eq}
use denote.Ref.{Bor}
use Rattle.xdr_constants.specs.Tables.{key_texts}
use Rattle.xdr_lang.specs.Distinct.{repeats, is_name, same_pair}
pub use Rattle.xdr_types.proofs.Apart.{was_absent, was_there, bytes_eq-sym, texts_cmp as names_cmp}

-- How the keys of a set stand for names or numbers, and that its order tells which are one.
pub record Keyed (K A : Type 0) : Type 0 where
  pub compare : K → K → Ordering
  pub same : A → A → Bool
  pub seen : K → A
  pub key : A → K
  pub all : List K → List A
  pub seen_key : (a : A) → seen (key a) ≡ a
  pub all_none : all [] ≡ []
  pub all_more : (k : K) (ks : List K) → all (k ∷ ks) ≡ seen k ∷ all ks
  pub agrees : (j k : K) → is_eq (compare j k) ≡ same (seen j) (seen k)
  pub flips : (a b : A) → same a b ≡ same b a

later : (a x : Bool) → cond a true x ≡ (x || a)
later true true = refl
later true false = refl
later false true = refl
later false false = refl

module _ {K A : Type 0} (by : Keyed K A) where
  -- what is among the keys is among what they stand for
  pub among_keys : (k : K) (ks : List K)
      → list_any (by.same (by.seen k)) (by.all ks) ≡ list_any (is_at (by.compare k)) ks
  among_keys k [] = ap (list_any (by.same (by.seen k))) by.all_none
  among_keys k (j ∷ ks) = ap (list_any (by.same (by.seen k))) (by.all_more j ks)
      ∙ ap (λ (b : Bool). b || list_any (by.same (by.seen k)) (by.all ks)) (sym (by.agrees k j))
      ∙ ap (λ (b : Bool). is_eq (by.compare k j) || b) (among_keys k ks)

  one_more : (q n : A) (b : List A)
      → list_any (by.same q) (b ++ n ∷ []) ≡ (list_any (by.same q) b || by.same q n)
  one_more q n b = list_any-append (by.same q) b (n ∷ [])
      ∙ ap (λ (x : Bool). list_any (by.same q) b || x) (or-false (by.same q n))

  -- what repeats is told by what is among those before
  along : (xs a b : List A) → ((q : A) → list_any (by.same q) a ≡ list_any (by.same q) b)
      → repeats by.same a xs ≡ repeats by.same b xs
  unfolding repeats
  along [] a b h = refl
  along (x ∷ xs) a b h =
      let more : (q : A) → list_any (by.same q) (a ++ x ∷ []) ≡ list_any (by.same q) (b ++ x ∷ []) =
      λ q. one_more q x a ∙ ap (λ (t : Bool). t || by.same q x) (h q) ∙ sym (one_more q x b) in
      rw (h x, along xs (a ++ x ∷ []) (b ++ x ∷ []) more) refl

  added_key : (s n : BTreeSet K) (k : K) → Updates by.compare s n k true → (q : K)
      → list_any (by.same (by.seen q)) (by.all n.keys)
      ≡ list_any (by.same (by.seen q)) (by.all s.keys ++ by.seen k ∷ [])
  added_key s n k u q =
      let here : list_any (is_at (by.compare q)) n.keys ≡ cond (is_eq (by.compare k q)) true
      (list_any (is_at (by.compare q)) s.keys) = u.0 q in
      among_keys q n.keys ∙ here
      ∙ ap (λ (b : Bool). cond b true (list_any (is_at (by.compare q)) s.keys))
      (by.agrees k q ∙ by.flips (by.seen k) (by.seen q))
      ∙ later (by.same (by.seen q) (by.seen k)) (list_any (is_at (by.compare q)) s.keys)
      ∙ ap (λ (b : Bool). b || by.same (by.seen q) (by.seen k)) (sym (among_keys q s.keys))
      ∙ sym (one_more (by.seen q) (by.seen k) (by.all s.keys))

  added : (s n : BTreeSet K) (k : K) → Updates by.compare s n k true → (q : A)
      → list_any (by.same q) (by.all n.keys) ≡ list_any (by.same q) (by.all s.keys ++ by.seen k ∷ [])
  added s n k u q = subst
      (λ (a : A). list_any (by.same a) (by.all n.keys) ≡ list_any (by.same a) (by.all s.keys ++ by.seen k ∷ []))
      (by.seen_key q) (added_key s n k u (by.key q))

  pub goes_on : (s n : BTreeSet K) (k : K) (xs : List A) (all : Bool) → contains by.compare s k ≡ false
      → Updates by.compare s n k true → repeats by.same (by.all s.keys) (by.seen k ∷ xs) ≡ all
      → repeats by.same (by.all n.keys) xs ≡ all
  unfolding repeats
  goes_on s n k xs all not u so_far =
      let apart : list_any (by.same (by.seen k)) (by.all s.keys) ≡ false = among_keys k s.keys ∙ not in
      along xs (by.all n.keys) (by.all s.keys ++ by.seen k ∷ []) (added s n k u) ∙ (rw apart at so_far)

  pub is_twice : (s : BTreeSet K) (k : K) (xs : List A) (all : Bool) → contains by.compare s k ≡ true
      → repeats by.same (by.all s.keys) (by.seen k ∷ xs) ≡ all → true ≡ all
  unfolding repeats
  is_twice s k xs all there so_far =
      let here : list_any (by.same (by.seen k)) (by.all s.keys) ≡ true = among_keys k s.keys ∙ there in
      rw here at so_far

-- ---- names

abbrev pub by_name : Keyed (Bor (List ℕ)) (List ℕ)
by_name = record {
  compare = names_cmp;
  same = bytes_eq;
  seen = λ k. k.now;
  key = λ n. record { ref_ptr = (0, 0); now = n };
  all = key_texts;
  seen_key = λ n. refl;
  all_none = refl;
  all_more = λ k ks. refl;
  agrees = λ j k. is_eq-slice_cmp j.now k.now;
  flips = bytes_eq-sym;
}

-- a name that is no void, in front of others
pub named : (n : List ℕ) (ns : List (List ℕ)) → bytes_eq n [] ≡ false
    → filter is_name (n ∷ ns) ≡ n ∷ filter is_name ns
named n ns e = rw e refl

-- void is left out
pub unnamed : (n : List ℕ) (ns : List (List ℕ)) → bytes_eq n [] ≡ true → filter is_name (n ∷ ns) ≡ filter is_name ns
unnamed n ns e = rw e refl

-- ---- numbers

pub int_flip : (a b : ℤ) → int_eq a b ≡ int_eq b a
int_flip a b = same_from_decides _ _ (Decides-int_eq a b) (Decides-like _ sym sym (Decides-int_eq b a))

abbrev pub by_number : Keyed ℤ ℤ
by_number = record {
  compare = int_cmp;
  same = int_eq;
  seen = λ k. k;
  key = λ n. n;
  all = λ ks. ks;
  seen_key = λ n. refl;
  all_none = refl;
  all_more = λ k ks. refl;
  agrees = λ j k. refl;
  flips = int_flip;
}

-- ---- pairs of numbers

pub then_eq : (a b : Ordering) → is_eq (ordering_then a b) ≡ (is_eq a && is_eq b)
then_eq Less b = refl
then_eq Equal b = refl
then_eq Greater b = refl

pub pair_flip : (a b : ℤ × ℤ) → same_pair a b ≡ same_pair b a
pair_flip a b = ap (λ (x : Bool). x && int_eq a.1 b.1) (int_flip a.0 b.0)
    ∙ ap (λ (x : Bool). int_eq b.0 a.0 && x) (int_flip a.1 b.1)

abbrev pub by_pair : Keyed (ℤ × ℤ) (ℤ × ℤ)
by_pair = record {
  compare = λ x y. ordering_then (int_cmp x.0 y.0) (int_cmp x.1 y.1);
  same = same_pair;
  seen = λ k. k;
  key = λ n. n;
  all = λ ks. ks;
  seen_key = λ n. refl;
  all_none = refl;
  all_more = λ k ks. refl;
  agrees = λ j k. then_eq (int_cmp j.0 k.0) (int_cmp j.1 k.1);
  flips = pair_flip;
}
