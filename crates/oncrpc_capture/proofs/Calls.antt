-- Where bytes begin as a call does.
use Rattle.std.proofs.Common.{◌≡◌, ℕ, ◌^◌, ◌<◌, eqb, List, ◌++◌, ap, ◌∙◌, arith}
use Rattle.std.proofs.lemmas.Bool.{eq-eqb, eqb-true}
use Rattle.std.specs.Prelude.{◌↔◌, IsTrue}
use Rattle.xdr_units.specs.Numbers.{word}
use Rattle.oncrpc_capture.specs.Brought.{BeginsCall}

-- a word is there, and only this one
abbrev pub Begins : (bytes : List ℕ) (n : ℕ) (rest : List ℕ) → Type 0
Begins bytes n rest = (m : ℕ) (more : List ℕ) → m < 2 ^ 32 → bytes ≡ word m ++ more → (n ≡ m) × (rest ≡ more)

module _ (bytes : List ℕ) (xid : ℕ) (rest : List ℕ) (one : Begins bytes xid rest) where
  behind_xid : (b : BeginsCall bytes) → rest ≡ word 0 ++ (word 2 ++ b.rest)
  behind_xid b = (one b.xid (word 0 ++ (word 2 ++ b.rest)) b.counted b.spelled).1

  module _ (kind : ℕ) (later : List ℕ) (two : Begins rest kind later) where
    is_kind : (b : BeginsCall bytes) → (kind ≡ 0) × (later ≡ word 2 ++ b.rest)
    is_kind b = two 0 (word 2 ++ b.rest) (omega arith) (behind_xid b)

    module _ (version : ℕ) (last : List ℕ) (three : Begins later version last) where
      call_of : xid < 2 ^ 32 → bytes ≡ word xid ++ rest → rest ≡ word kind ++ later → later ≡ word version ++ last
          → kind ≡ 0 → version ≡ 2 → BeginsCall bytes
      call_of fits x k v zero_is two_is = record {
        xid = xid;
        rest = last;
        counted = fits;
        spelled = x ∙ ap (λ (y : List ℕ). word xid ++ y) (k ∙ ap (λ (n : ℕ). word n ++ later) zero_is
            ∙ ap (λ (y : List ℕ). word 0 ++ y) (v ∙ ap (λ (n : ℕ). word n ++ last) two_is));
      }

      pub is_call : xid < 2 ^ 32 → bytes ≡ word xid ++ rest → rest ≡ word kind ++ later → later ≡ word version ++ last
          → kind ≡ 0 → IsTrue (eqb version 2) ↔ BeginsCall bytes
      is_call fits x k v zero_is = (
        λ e. call_of fits x k v zero_is (eqb-true version 2 e),
        λ b. eq-eqb version 2 (three 2 b.rest (omega arith) (is_kind b).1).0,
      )
