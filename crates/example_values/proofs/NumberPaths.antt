-- Paths of an integer.
use Rattle.std.proofs.Common.{◌≡◌, ℕ, ℤ, ◌<◌, List, [], ◌∷◌, ◌++◌, length, refl, sym, ap, subst, ◌∙◌, arith, inl, inr}
use Rattle.std.proofs.Common.{is_some, true≢false}
use Rattle.std.proofs.lemmas.Bool.{cases_lt}
use Rattle.std.proofs.lemmas.List.{get_or_past, length-append}
use Rattle.xdr_types.specs.Kinds as xdr
use Rattle.xdr_types.specs.Kinds.{KindView, kind_at}
use Rattle.xdr_types.specs.Tree as value
use Rattle.xdr_types.specs.Tree.{Head, Tree}
use Rattle.xdr_types.specs.Fits.{Fits, fits, fit, parts, is_legal, item_part}
use Rattle.xdr_types.specs.Layout.{Entry, entry, shown, of_number}
use Rattle.xdr_laws.proofs.Legal.{IsLegal, legal_is, both}
use Rattle.std.proofs.Common.{Result, Ok, Err, IfOk}
use Rattle.xdr_types.specs.Within.{Bounds}
use Rattle.xdr_types.specs.Outcome.{Outcome, Whole}
use Rattle.xdr_parts.specs.Lent.{entry_of, IsLentFrom}
use Rattle.xdr_parts.specs.declared.part.Lent.{Lent}
use Rattle.xdr_paths.specs.declared.finding.FindFault.{FindFault}
use Rattle.xdr_paths.specs.Nodes.{Node, Step, to_field, to_item, LeadTo, IsOwn, settled, root}
use Rattle.xdr_paths.specs.Paths.{IsPath, Names}

not_unknown : xdr.unknown ≡ xdr.int → ⊥
not_unknown e = cc

-- its kind is one of the schema
pub number_known : (s : List KindView) (t : ℕ) → kind_at s t ≡ xdr.int → t < length s
number_known s t e = elim (cases_lt t (length s)) [
  | inl within ↦ within
  | inr past ↦ absurd (not_unknown (sym (get_or_past s t xdr.unknown past) ∙ e))
]

only_number : (s : List KindView) (h : Head) → IsLegal s xdr.int h → (z : ℤ) × (h ≡ value.int z)
only_number s (value.int z) l = (z, refl)
only_number s _ l = absurd l

-- the empty path has no steps
no_steps : (steps : List Step) → IsPath [] steps → steps ≡ []
no_steps [] is = refl
no_steps (to_field [] ∷ steps) is = absurd (is.0.0.0 refl)
no_steps (to_field (b ∷ bs) ∷ steps) is = let e = is.1 in absurd cc
no_steps (to_item index ∷ steps) is = let e = is.1 in absurd cc

-- a list of one, cut before its last
only_one : (x e : Entry) (before : List Entry) → x ∷ [] ≡ before ++ e ∷ [] → e ≡ x
only_one x e [] same = cc
only_one x e (b ∷ bs) same =
    absurd (omega (arith, ap (λ (es : List Entry). length es) same, length-append bs (e ∷ [])))

module _ (s : List KindView) (t : ℕ) (k : kind_at s t ≡ xdr.int) (v : Tree) (f : Fits s t v) where
  number_of_value : (z : ℤ) × (v.0 ≡ value.int z)
  number_of_value =
      only_number s v.0 (subst (λ (x : KindView). IsLegal s x v.0) k
      (legal_is s (kind_at s t) v.0 (both (is_legal s (kind_at s t) v.0) (fit s (parts (kind_at s t) v.0) v.1) f).0))

  -- it is settled, and has the one part
  alone : (h : Head) → v.0 ≡ h → (z : ℤ) → h ≡ value.int z → settled s (root t v) ≡ root t v
  alone h e z is =
      let P : Head → Type 0 = λ g. settled s (root t (g, v.1)) ≡ root t (g, v.1) in
      subst P (sym (e ∙ is)) refl

  one_part : shown 0 1 (item_part t) (kind_at s t) v.0 ≡ entry 0 4 1 (item_part t) of_number ∷ []
  one_part =
      let n = number_of_value in
      ap (λ (h : Head). shown 0 1 (item_part t) (kind_at s t) h) n.1

  -- the empty path names it
  pub named_itself : Names s t v [] (entry 0 4 1 (item_part t) of_number)
  named_itself =
      let n = number_of_value in
      let own : IsOwn s (root t v) (entry 0 4 1 (item_part t) of_number) = ([], one_part) in (
        [],
        (tt, refl),
        subst (λ (m : Node). IsOwn s m (entry 0 4 1 (item_part t) of_number))
            (sym (alone v.0 refl n.0 n.1)) own,
      )

  -- and nothing else
  pub only_itself : (e : Entry) → Names s t v [] e → e ≡ entry 0 4 1 (item_part t) of_number
  only_itself e named =
      let n = number_of_value in
      let leads : LeadTo s (settled s (root t v)) [] e =
      subst (λ (ss : List Step). LeadTo s (settled s (root t v)) ss e) (no_steps named.0 named.1) named.2 in
      let own : IsOwn s (root t v) e = subst (λ (m : Node). IsOwn s m e) (alone v.0 refl n.0 n.1) leads in
      only_one (entry 0 4 1 (item_part t) of_number) e own.0 (sym one_part ∙ own.1)

  -- no other path names anything
  pub none_inside : (b : ℕ) (bs : List ℕ) (e : Entry) → Names s t v (b ∷ bs) e → ⊥
  none_inside b bs e named = go named.0 named.1 named.2
    where
      go : (steps : List Step) → IsPath (b ∷ bs) steps → LeadTo s (settled s (root t v)) steps e → ⊥
      go [] is leads = let same = is.1 in absurd cc
      go (step ∷ steps) is leads =
          let n = number_of_value in
          let P : Head → Type 0 = λ g. LeadTo s (settled s (root t (g, v.1))) (step ∷ steps) e in
          let found = subst P n.1 leads in
          true≢false (sym (ap is_some found.1))

-- ---- of what is answered

module _ (s : List KindView) (t : ℕ) (k : kind_at s t ≡ xdr.int) (limits : Bounds) (b : List ℕ) where
  pub only_part : (r : Result Lent FindFault)
      → IfOk r (λ l. (v : Tree) × (n : ℕ) × Outcome s t limits b (Whole v n) × Names s t v [] (entry_of l)
      × IsLentFrom b l)
      → IfOk r (λ l. entry_of l ≡ entry 0 4 1 (item_part t) of_number)
  only_part (Ok l) h = only_itself s t k h.0 h.2.2.fits (entry_of l) h.3
  only_part (Err f) h = tt

  pub no_part : (c : ℕ) (cs : List ℕ) (r : Result Lent FindFault)
      → IfOk r (λ l. (v : Tree) × (n : ℕ) × Outcome s t limits b (Whole v n) × Names s t v (c ∷ cs) (entry_of l)
      × IsLentFrom b l)
      → IfOk r (λ l. ⊥)
  no_part c cs (Ok l) h = none_inside s t k h.0 h.2.2.fits c cs (entry_of l) h.3
  no_part c cs (Err f) h = tt
