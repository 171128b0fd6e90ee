-- Steps that fail or do not, one after another.
use Rattle.std.proofs.Common.{◌≡◌, ℕ, Bool, true, false, cond, List, ◌++◌, Result, Ok, Err, refl, sym, ap, ◌∙◌}
use Rattle.std.proofs.Common.{append_assoc, inl, inr, ◌⊎◌}
use Rattle.rpc_message.specs.declared.fault.ReplyFault.{ReplyFault}
use Rattle.xdr_units.specs.Numbers.{AreBytes}
use Rattle.rpc_message.specs.Private.Reading.{◌>>=◌}

-- the value of a step that did not fail
pub bind_ok : {A B : Type 0} (r : Result A ReplyFault) (f : A → Result B ReplyFault) (y : B) → (r >>= f) ≡ Ok y
    → (x : A) × (r ≡ Ok x) × (f x ≡ Ok y)
bind_ok (Ok x) f y e = (x, refl, e)
bind_ok (Err d) f y e = absurd cc

abbrev pub failed : {A : Type 0} → ReplyFault → Result A ReplyFault
failed d = Err d

pub err_is : {A : Type 0} (c d : ReplyFault) → failed {A = A} c ≡ failed {A = A} d → c ≡ d
err_is c d e = cc

-- a step that failed, or the next one that did
pub bind_err : {A B : Type 0} (r : Result A ReplyFault) (f : A → Result B ReplyFault) (d : ReplyFault)
    → (r >>= f) ≡ Err d → (r ≡ Err d) ⊎ ((x : A) × (r ≡ Ok x) × (f x ≡ Err d))
bind_err (Ok x) f d e = inr (x, refl, e)
bind_err {B = B} (Err c) f d e = inl (ap (λ (x : ReplyFault). Err x) (err_is {A = B} c d e))

-- a test that did not fail
pub guard_ok : {A : Type 0} (b : Bool) (d : ReplyFault) (x : Result A ReplyFault) (y : A) → cond b (Err d) x ≡ Ok y
    → (b ≡ false) × (x ≡ Ok y)
guard_ok true d x y e = absurd cc
guard_ok false d x y e = (refl, e)

-- a test that held
pub guard_then : {A : Type 0} (b : Bool) (d : ReplyFault) (x : Result A ReplyFault) (y : A) → cond b x (Err d) ≡ Ok y
    → (b ≡ true) × (x ≡ Ok y)
guard_then true d x y e = (refl, e)
guard_then false d x y e = absurd cc

abbrev done : {A : Type 0} → A → Result A ReplyFault
done x = Ok x

pub ok_is : {A : Type 0} (x y : A) → done x ≡ done y → x ≡ y
ok_is x y e = cc

pub ok_no_err : {A : Type 0} (x : A) (d : ReplyFault) → done x ≡ failed d → ⊥
ok_no_err x d e = absurd cc

-- a test that held, and so failed
pub guard_cut : {A : Type 0} (b : Bool) (d : ReplyFault) (x : A) (f : ReplyFault) → cond b (Err d) (Ok x) ≡ Err f
    → (b ≡ true) × (f ≡ d)
guard_cut {A} true d x f e = (refl, sym (err_is {A = A} d f e))
guard_cut false d x f e = absurd (ok_no_err x f e)

-- a test that failed
pub guard_fails : {A : Type 0} (b : Bool) (d : ReplyFault) (x : A) (f : ReplyFault) → cond b (Ok x) (Err d) ≡ Err f
    → (b ≡ false) × (f ≡ d)
guard_fails true d x f e = absurd (ok_no_err x f e)
guard_fails {A} false d x f e = (refl, sym (err_is {A = A} d f e))

-- what a reader took from the front
pub record Takes (bytes text rest : List ℕ) : Type 0 where
  pub parts : bytes ≡ text ++ rest
  pub rest_fits : AreBytes rest

pub Takes-then : (a x b y c : List ℕ) → Takes a x b → Takes b y c → Takes a (x ++ y) c
Takes-then a x b y c p q = record {
  parts = p.parts ∙ ap (λ (t : List ℕ). x ++ t) q.parts ∙ sym (append_assoc x y c);
  rest_fits = q.rest_fits;
}
