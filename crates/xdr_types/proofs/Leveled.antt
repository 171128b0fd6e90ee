-- How many levels the values of kinds and of parts have at most, by their parts.
use Rattle.std.proofs.Common.{◌≡◌, ℕ, zero, suc, ◌+◌, ◌<◌, ◌≤◌, ℤ, max, List, [], ◌∷◌, length, replicate, Bool, true}
use Rattle.std.proofs.Common.{false, if◌then◌else◌, Option, Some, sym, subst, arith, get_or, map, drop, ap, ◌∙◌}
use Rattle.std.proofs.Common.{◌==◌, inl, inr, eqb-true, slice_set}
use Rattle.std.proofs.lemmas.Bool.{false≢true, and_parts as both, cases_Bool as tested, eqb-false}
use Rattle.std.proofs.lemmas.List.{at_drop_more, length-set, get_or-set_other}
use Rattle.std.proofs.lemmas.Grind.{get_or-set_at}
use Rattle.xdr_types.specs.Kinds as xdr
use Rattle.xdr_types.specs.Kinds.{KindView, Part, Branch, kind_at}
use Rattle.xdr_types.specs.KindViews.{branch_of}
use Rattle.xdr_types.specs.Tree as value
use Rattle.xdr_types.specs.Tree.{Head, Values, depth_of}
use Rattle.xdr_types.specs.Fits.{fits, fit, is_legal, is_listed, parts, part_of, optional_part, item_part}
use Rattle.xdr_types.specs.Levels.{IsMostLevels}
use Rattle.xdr_types.specs.Private.Notes.{AreWithin, IsUnder, IsNoted, AreNotes}
use Rattle.xdr_types.specs.declared.kind.Arm.{Arm}
use Rattle.xdr_types.specs.declared.notes.Noted.{Noted}

-- no parts
pub none_within : (kinds : List KindView) (most : ℕ) → AreWithin kinds [] most
none_within kinds most value.none f = omega arith
none_within kinds most (value.node a b c) f = absurd (false≢true f)

-- one part before others
pub first_within : (kinds : List KindView) (p : Part) (ps : List Part) (a b r : ℕ) → IsMostLevels kinds p.kind a
    → AreWithin kinds ps b → r ≡ max b a → AreWithin kinds (p ∷ ps) r
first_within kinds p ps a b r of others by value.none f = absurd (false≢true f)
first_within kinds p ps a b r of others by (value.node h inner rest) f =
    let fs = both (fits kinds p.kind (h, inner)) (fit kinds ps rest) f in
    let one : depth_of inner + 1 ≤ a = of.levels (h, inner) fs.0 in
    let more : depth_of rest ≤ b = others rest fs.1 in
    omega (arith, one, more, by)

-- one part alone
pub one_within : (kinds : List KindView) (p : Part) (most : ℕ) → IsMostLevels kinds p.kind most
    → AreWithin kinds (p ∷ []) most
one_within kinds p most of = first_within kinds p [] most most most of (none_within kinds most) (omega arith)

-- so many parts of one kind
pub many_within : (kinds : List KindView) (p : Part) (most : ℕ) → IsMostLevels kinds p.kind most → (n : ℕ)
    → AreWithin kinds (replicate n p) most
many_within kinds p most of zero = none_within kinds most
many_within kinds p most of (suc n) =
    first_within kinds p (replicate n p) most most most of (many_within kinds p most of n) (omega arith)

-- more levels than enough
raised : (kinds : List KindView) (ps : List Part) (a b : ℕ) → AreWithin kinds ps a → a ≤ b → AreWithin kinds ps b
raised kinds ps a b of h vs f = let fs = of vs f in omega (arith, fs, h)

-- one arm before others
pub arm_within : (kinds : List KindView) (a : Branch) (arms : List Branch) (other : Option Part) (z : ℤ) (n b r : ℕ)
    → IsMostLevels kinds a.part.kind n → AreWithin kinds (optional_part (part_of arms other z)) b → r ≡ max b n
    → AreWithin kinds (optional_part (part_of (a ∷ arms) other z)) r
arm_within kinds a arms other z n b r of others by = by_case (is_listed a.cases z)
  where
    by_case : (c : Bool) → AreWithin kinds (optional_part (if c then Some a.part else part_of arms other z)) r
    by_case true = raised kinds (a.part ∷ []) n r (one_within kinds a.part n of) (omega (arith, by))
    by_case false = raised kinds (optional_part (part_of arms other z)) b r others (omega (arith, by))

pub arms-at : (ms : List Arm) (i : ℕ) (m : Arm) → i < length ms → m ≡ get_or ms i m
    → map branch_of (drop i ms) ≡ branch_of m ∷ map branch_of (drop (i + 1) ms)
arms-at ms i m h is = at_drop_more (map branch_of) ms i m h
    ∙ ap (λ w. branch_of w ∷ map branch_of (drop (i + 1) ms)) (sym is)

-- ---- what lies under a kind

pub under_fixed : (kinds : List KindView) (item size most : ℕ) → IsMostLevels kinds item most
    → IsUnder kinds (xdr.fixed item size) most
under_fixed kinds item size most of (value.items n) = many_within kinds (item_part item) most of n
under_fixed kinds item size most of _ = none_within kinds most

pub under_maybe : (kinds : List KindView) (item most : ℕ) → IsMostLevels kinds item most
    → IsUnder kinds (xdr.maybe item) most
under_maybe kinds item most of value.present = one_within kinds (item_part item) most of
under_maybe kinds item most of _ = none_within kinds most

pub under_structure : (kinds : List KindView) (ps : List Part) (most : ℕ) → AreWithin kinds ps most
    → IsUnder kinds (xdr.structure ps) most
under_structure kinds ps most of value.fields = of
under_structure kinds ps most of _ = none_within kinds most

pub under_choice : (kinds : List KindView) (tag : ℕ) (arms : List Branch) (other : Option Part) (most : ℕ)
    → ((z : ℤ) → AreWithin kinds (optional_part (part_of arms other z)) most)
    → IsUnder kinds (xdr.choice tag arms other) most
under_choice kinds tag arms other most of (value.tag z) = of z
under_choice kinds tag arms other most of _ = none_within kinds most

-- ---- a kind

-- a kind by what lies under it
pub of_under : (kinds : List KindView) (place : ℕ) (f : KindView) (under : ℕ) → place < length kinds
    → kind_at kinds place ≡ f → IsUnder kinds f under → under < 16 → IsMostLevels kinds place (under + 1)
of_under kinds place f under within is of few =
    let there : IsUnder kinds (kind_at kinds place) under = subst (λ (g : KindView). IsUnder kinds g under) (sym is) of
    in
    record {
      within = within;
      low = omega arith;
      shallow = omega (arith, few);
      levels = λ t h.
          let hs = both (is_legal kinds (kind_at kinds place) t.0)
          (fit kinds (parts (kind_at kinds place) t.0) t.1) h in
          let deep : depth_of t.1 ≤ under = there t.0 t.1 hs.1 in
          omega (arith, deep);
    }

-- ---- notes

-- a note in the place of another
pub noted_more : (kinds : List KindView) (notes : List Noted) (place : ℕ) (n : Noted) → AreNotes kinds notes
    → place < length notes → IsNoted kinds place n → AreNotes kinds (slice_set notes place n)
noted_more kinds notes place n are within of = record {
  lengths = length-set notes place n ∙ are.lengths;
  each = λ q m there is.
      elim (tested (q == place)) [
        | inl same ↦
            let at : q ≡ place = eqb-true q place same in
            let new : n ≡ m = sym (is ∙ get_or-set_at notes place q n m at within) in
            subst (λ (j : ℕ). IsNoted kinds j m) (sym at)
            (subst (λ (x : Noted). IsNoted kinds place x) new of)
        | inr differs ↦
            are.each q m (subst (λ (k : ℕ). q < k) (length-set notes place n) there)
            (is ∙ get_or-set_other notes place q n m (eqb-false q place differs))
      ];
}
