-- Lists in which no place has a flaw: place by place, and as a test.
use Rattle.std.proofs.Common.{◌≡◌, ℕ, zero, suc, ◌+◌, ◌<◌, ◌≤◌, List, [], ◌∷◌, length, map, take, get_or, Bool, true}
use Rattle.std.proofs.Common.{false, Option, None, String, slice_index_or, refl, ap, sym, ◌∙◌, subst, arith, nat_lt}
use Rattle.std.proofs.Common.{ltb-true, ltb-false, Some, is_none, ◌&&◌}
use Rattle.std.proofs.lemmas.Bool.{false≢true}
use Rattle.std.proofs.lemmas.Bool.{and_parts as both}
use Rattle.std.specs.declared.alloc.Global.{Global}
use Rattle.xdr_types.specs.Kinds.{KindView, Part}
use Rattle.xdr_types.specs.KindViews.{name_of}
use Rattle.xdr_types.specs.Faults.{AreFlawless, name_flaw, name_flaw_at}
use Rattle.xdr_types.specs.declared.fault.Flaw.{Flaw}
use Rattle.xdr_types.specs.declared.kind.KindId.{KindId}

pub one-more : (flaw_at : ℕ → Option Flaw) (n : ℕ) → AreFlawless flaw_at n → flaw_at n ≡ None
    → AreFlawless flaw_at (n + 1)
one-more flaw_at n h e place within = by_case (nat_lt place n) refl
  where
    by_case : (b : Bool) → nat_lt place n ≡ b → flaw_at place ≡ None
    by_case true is = h place (ltb-true place n is)
    by_case false is =
        let above : n ≤ place = ltb-false place n is in
        let same : n ≡ place = omega (arith, above, within) in
        subst (λ (q : ℕ). flaw_at q ≡ None) same e

-- no place below n has a flaw, as a test
abbrev pub all_flawless : (ℕ → Option Flaw) → ℕ → Bool
all_flawless flaw_at zero = true
all_flawless flaw_at (suc n) = is_none (flaw_at n) && all_flawless flaw_at n

none-is : (o : Option Flaw) → is_none o ≡ true → o ≡ None
none-is None h = refl
none-is (Some f) h = absurd (false≢true h)

pub flawless : (flaw_at : ℕ → Option Flaw) (n : ℕ) → all_flawless flaw_at n ≡ true → AreFlawless flaw_at n
flawless flaw_at zero h place within = absurd (omega (arith, within))
flawless flaw_at (suc n) h place within =
    let tests = both (is_none (flaw_at n)) (all_flawless flaw_at n) h in
    one-more flaw_at n (flawless flaw_at n tests.1) (none-is (flaw_at n) tests.0) place (omega (arith, within))

-- the name at a place, of the list of names
pub name-here : (ns : List (String Global × KindId)) (i : ℕ) (n : String Global × KindId) → i < length ns
    → n ≡ get_or ns i n → slice_index_or (map name_of ns) i (record { name = []; kind = 0 }) ≡ name_of n
name-here [] i n h is = absurd (omega arith)
name-here (j ∷ ns) zero n h is = ap name_of (sym is)
name-here (j ∷ ns) (suc i) n h is = name-here ns i n (omega arith) is

pub names-before : (ns : List (String Global × KindId)) (i : ℕ) → map name_of (take i ns) ≡ take i (map name_of ns)
names-before [] zero = refl
names-before [] (suc i) = refl
names-before (n ∷ ns) zero = refl
names-before (n ∷ ns) (suc i) = ap (λ (z : List Part). name_of n ∷ z) (names-before ns i)

-- the flaw of the name at a place
pub flaw-here : (kinds : List KindView) (ns : List (String Global × KindId)) (i : ℕ) (n : String Global × KindId)
    → i < length ns → n ≡ get_or ns i n
    → name_flaw_at kinds (map name_of ns) i ≡ name_flaw kinds (map name_of (take i ns)) (name_of n)
flaw-here kinds ns i n h is = ap (name_flaw kinds (take i (map name_of ns))) (name-here ns i n h is)
    ∙ ap (λ (z : List Part). name_flaw kinds z (name_of n)) (sym (names-before ns i))
