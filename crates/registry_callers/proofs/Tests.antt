-- Tests joined, and the tests of a call.
use Rattle.std.proofs.Common.{◌≡◌, ◌⊎◌, inl, inr, ℕ, Bool, true, false, ◌&&◌, ◌||◌, nat_eq, refl, ap, sym}
use Rattle.std.proofs.Common.{true≢false}
use Rattle.std.proofs.lemmas.Bool.Decides.{Decides-eqb}
use Rattle.rpc_message.specs.Message.{CallView}
use Rattle.registry_callers.specs.Asking.{is_registry, is_set, is_change, is_look_up}

-- the second of two that are true
pub second_true : (a b : Bool) → (a && b) ≡ true → b ≡ true
second_true true b e = e
second_true false b e = absurd (true≢false (sym e))

-- two that are true
pub both_true : (a b : Bool) → a ≡ true → b ≡ true → (a && b) ≡ true
both_true true b e f = f
both_true false b e f = absurd (true≢false (sym e))

-- and two of which the second is false
pub second_false : (a b : Bool) → b ≡ false → (a && b) ≡ false
second_false true b e = e
second_false false b e = refl

-- the first of two of which none is true
pub first_false : (a b : Bool) → (a || b) ≡ false → a ≡ false
first_false true b e = absurd (true≢false e)
first_false false b e = refl

-- one of two of which some is true
pub one_true : (a b : Bool) → (a || b) ≡ true → (a ≡ true) ⊎ (b ≡ true)
one_true true b e = inl refl
one_true false b e = inr e

-- two that are false
pub both_false : (a b : Bool) → a ≡ false → b ≡ false → (a || b) ≡ false
both_false true b e f = absurd (true≢false e)
both_false false b e f = f

-- two of which the first is true
pub first_of_two : (a b : Bool) → a ≡ true → (a || b) ≡ true
first_of_two true b e = refl
first_of_two false b e = absurd (true≢false (sym e))

-- and of which the second is
pub second_of_two : (a b : Bool) → b ≡ true → (a || b) ≡ true
second_of_two true b e = refl
second_of_two false b e = e

-- a SET is a change
set_changes : (r a b : Bool) → (r && a) ≡ true → (r && (a || b)) ≡ true
set_changes true true b e = refl
set_changes true false b e = absurd (true≢false (sym e))
set_changes false a b e = absurd (true≢false (sym e))

pub set_is_change : (c : CallView) → is_set c ≡ true → is_change c ≡ true
set_is_change c e = set_changes (is_registry c) (nat_eq c.proc 1) (nat_eq c.proc 2) e

-- which number a change has
pub proc_of_change : (c : CallView) → is_change c ≡ true → (c.proc ≡ 1) ⊎ (c.proc ≡ 2)
proc_of_change c e =
    let which = second_true (is_registry c) (nat_eq c.proc 1 || nat_eq c.proc 2) e in
    elim (one_true (nat_eq c.proc 1) (nat_eq c.proc 2) which) [
      | inl f ↦ inl ((Decides-eqb c.proc 1).0 f)
      | inr f ↦ inr ((Decides-eqb c.proc 2).0 f)
    ]

-- neither procedure 3 nor procedure 9 is looked up
no_procedure : (a b d : Bool) → (a && ((b && false) || (d && (false || false)))) ≡ false
no_procedure true true true = refl
no_procedure true true false = refl
no_procedure true false true = refl
no_procedure true false false = refl
no_procedure false b d = refl

look_up_of : (a b d : Bool) (p q : Bool) → p ≡ false → q ≡ false → (a && ((b && p) || (d && (p || q)))) ≡ false
look_up_of a b d p q e f = rw e (rw f (no_procedure a b d))

-- a change is no look-up
pub no_look_up : (c : CallView) → is_change c ≡ true → is_look_up c ≡ false
no_look_up c e = elim (proc_of_change c e) [
  | inl f ↦ look_up_of (nat_eq c.prog 100000) (nat_eq c.vers 3) (nat_eq c.vers 4) (nat_eq c.proc 3) (nat_eq c.proc 9)
      (ap (λ (n : ℕ). nat_eq n 3) f) (ap (λ (n : ℕ). nat_eq n 9) f)
  | inr f ↦ look_up_of (nat_eq c.prog 100000) (nat_eq c.vers 3) (nat_eq c.vers 4) (nat_eq c.proc 3) (nat_eq c.proc 9)
      (ap (λ (n : ℕ). nat_eq n 3) f) (ap (λ (n : ℕ). nat_eq n 9) f)
]

-- which of three a look-up is, by its version and its number
pub which_look_up : (a b d e : Bool) → ((a && b) || (d && (b || e))) ≡ true
    → ((a ≡ true) × (b ≡ true)) ⊎ (((d ≡ true) × (b ≡ true)) ⊎ ((d ≡ true) × (e ≡ true)))
which_look_up true true d e h = inl (refl, refl)
which_look_up false true true e h = inr (inl (refl, refl))
which_look_up false true false e h = absurd (true≢false (sym h))
which_look_up true false true true h = inr (inr (refl, refl))
which_look_up true false true false h = absurd (true≢false (sym h))
which_look_up true false false e h = absurd (true≢false (sym h))
which_look_up false false true true h = inr (inr (refl, refl))
which_look_up false false true false h = absurd (true≢false (sym h))
which_look_up false false false e h = absurd (true≢false (sym h))
