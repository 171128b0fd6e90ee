-- The first names of kinds, with one name more in front.
use Rattle.std.proofs.Common.{◌≡◌, ℕ, zero, suc, ◌+◌, ◌-◌, ◌<◌, ◌≤◌, List, [], ◌∷◌, ◌++◌, length, get_or, map, drop}
use Rattle.std.proofs.Common.{Option, Some, None, option_map, Bool, true, false, eqb, eqb-true, if◌then◌else◌}
use Rattle.std.proofs.Common.{refl, sym, ap, ◌∙◌, subst, arith}
use Rattle.std.proofs.Math.ListN.{set}
use Rattle.std.proofs.lemmas.Bool.{eqb-false}
use Rattle.std.proofs.lemmas.List.{get_or-set_same, get_or-set_other, drop_all, drop_more}
use Rattle.std.specs.Prelude.{String}
use Rattle.std.specs.declared.alloc.Global.{Global}
use denote.Ref.{Bor}
use Rattle.xdr_types.specs.declared.kind.KindId.{KindId}
use Rattle.xdr_types.specs.KindViews.{name_of}
use Rattle.xdr_types.specs.Kinds.{Part}
use Rattle.xdr_listing.specs.Private.Firsts.{AreFirst}
use Rattle.xdr_listing.specs.Words.{name_of_place}

-- a list that grew by nothing has what it had
pub longer : {A : Type 0} (xs : List (Option A)) (q : ℕ) → get_or (xs ++ None ∷ []) q None ≡ get_or xs q None
longer [] zero = refl
longer [] (suc q) = refl
longer (x ∷ xs) zero = refl
longer (x ∷ xs) (suc q) = longer xs q

module _ (p : Part) (rest : List Part) (xs ys : List (Option (Bor (List ℕ)))) (s : Bor (List ℕ))
    (first : AreFirst rest xs) (same : (q : ℕ) → get_or ys q None ≡ get_or xs q None) (within : p.kind < length ys)
    (is : s.now ≡ p.name) where
  abbrev shown : Option (Bor (List ℕ)) → Option (List ℕ)
  shown o = option_map (λ (t : Bor (List ℕ)). t.now) o

  by_test : (q : ℕ) (b : Bool) → eqb p.kind q ≡ b
      → shown (get_or (set ys p.kind (Some s)) q None) ≡ (if b then Some p.name else name_of_place rest q)
  by_test q true e =
      ap shown
      (ap (λ (k : ℕ). get_or (set ys p.kind (Some s)) k None) (sym (eqb-true p.kind q e))
      ∙ get_or-set_same ys p.kind (Some s) None within)
      ∙ ap Some is
  by_test q false e =
      ap shown
      (get_or-set_other ys p.kind q (Some s) None (λ h. eqb-false p.kind q e (sym h)) ∙ same q)
      ∙ first.at q

  -- a name in front of the others takes the place of its kind
  pub in_front : AreFirst (p ∷ rest) (set ys p.kind (Some s))
  in_front = record { at = λ q. by_test q (eqb p.kind q) refl }

-- the name before those that are there
pub one_more : (names : List (String Global × KindId)) (k : ℕ) (n : String Global × KindId)
    (firsts : List (Option (Bor (List ℕ)))) → 0 < k → k ≤ length names → n ≡ get_or names (k - 1) n
    → AreFirst (name_of n ∷ map name_of (drop k names)) firsts → AreFirst (map name_of (drop (k - 1) names)) firsts
one_more names k n firsts positive inside at first =
    let next : k - 1 + 1 ≡ k = omega (arith, positive) in
    subst (λ (ns : List (String Global × KindId)). AreFirst (map name_of ns) firsts)
    (sym (drop_more names (k - 1) n (omega (arith, positive, inside))
    ∙ ap (λ (m : String Global × KindId). m ∷ drop (k - 1 + 1) names) (sym at)
    ∙ ap (λ (j : ℕ). n ∷ drop j names) next))
    first

-- behind the last name there are none
pub of_none : (names : List (String Global × KindId)) (k : ℕ) (firsts : List (Option (Bor (List ℕ))))
    → length names ≤ k → firsts ≡ [] → AreFirst (map name_of (drop k names)) firsts
of_none names k firsts h empty =
    subst (λ (fs : List (Option (Bor (List ℕ)))). AreFirst (map name_of (drop k names)) fs) (sym empty)
    (subst (λ (ns : List (String Global × KindId)). AreFirst (map name_of ns) []) (sym (drop_all k names h))
    (record { at = λ q. refl }))

-- behind no name there are all
pub of_all : (names : List (String Global × KindId)) (k : ℕ) (firsts : List (Option (Bor (List ℕ)))) → k ≤ 0
    → AreFirst (map name_of (drop k names)) firsts → AreFirst (map name_of names) firsts
of_all names zero firsts h first = first
of_all names (suc k) firsts h first = absurd (omega (arith, h))
