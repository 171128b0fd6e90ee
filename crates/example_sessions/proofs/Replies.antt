-- What a call of version 3 of RPC is answered with.
use Rattle.std.proofs.Common.{◌≡◌, ◌⊎◌, inl, inr, ℕ, Bool, true, false, List, [], ◌∷◌, Option, Some, refl, arith}
use Rattle.std.proofs.Common.{nat_lt}
use Rattle.std.proofs.lemmas.Bool.{and_parts}
use Rattle.std.proofs.lemmas.Bool.Decides.{Decides-ltb}
use Rattle.xdr_types.specs.Fits.{are_bytes}
use Rattle.registry_rows.specs.Rows.{Row}
use Rattle.registry_rows.specs.Ports.{tcp}
use Rattle.rpc_message.specs.Heads.{accepted}
use Rattle.rpc_message.specs.Message.{CaseView, OtherVersion, ReplyView, Denied, RpcMismatch, SystemErr}
use Rattle.rpc_message.specs.Spelling.{reply, ReplyBytes}
use Rattle.rpc_message.specs.Cases.{IsCase}
use Rattle.registry_answer.specs.Answer.{Answers, other_version, no_memory, Answer}
use Rattle.registry_answer.specs.Laws.{OneAnswer}
use Rattle.xdr_units.specs.Numbers.{AreBytes}

abbrev pub version_3 : List ℕ
version_3 = 0 ∷ 0 ∷ 0 ∷ 2 ∷ 0 ∷ 0 ∷ 0 ∷ 0 ∷ 0 ∷ 0 ∷ 0 ∷ 3 ∷ []

abbrev pub mismatch : ReplyView
mismatch = Denied 2 (RpcMismatch 2 2)

abbrev pub refusal : ReplyView
refusal = accepted 2 SystemErr

checked : (bytes : List ℕ) → are_bytes bytes ≡ true → AreBytes bytes
checked [] e = tt
checked (b ∷ bs) e =
    let both = and_parts (nat_lt b 256) (are_bytes bs) e in
    ((Decides-ltb b 256).0 both.0, checked bs both.1)

fits : AreBytes version_3
fits = checked version_3 refl

is_version : IsCase version_3 (OtherVersion 2 3)
is_version = record {
  xid_fits = omega arith;
  version_fits = omega arith;
  other = λ (same : 3 ≡ 2). omega (arith, same);
  rest = [];
  parts = refl;
}

answer_by : (rows : List Row) (k : CaseView) (r : ReplyView) (y : Bool) → IsCase version_3 k
    → Answers rows tcp k y rows (Some r) → ReplyBytes r (reply r) → Answer rows tcp version_3 y rows (Some (reply r))
answer_by rows k r y read answers spelled = record {
  case = k;
  said = Some r;
  read = read;
  answers = answers;
  sends = spelled;
}

pub mismatched : OneAnswer → (rows new : List Row) (refused : Bool) (sent : Option (List ℕ))
    → Answer rows tcp version_3 refused new sent
    → (new ≡ rows) × ((sent ≡ Some (reply mismatch)) ⊎ (sent ≡ Some (reply refusal)))
mismatched one rows new false sent a =
    let same = one rows new rows tcp version_3 false sent (Some (reply mismatch)) fits a
    (answer_by rows (OtherVersion 2 3) mismatch false is_version (other_version 2 3)
    (record { fits = (omega arith, (omega arith, omega arith)); parts = refl })) in
    (same.0, inl same.1)
mismatched one rows new true sent a =
    let same = one rows new rows tcp version_3 true sent (Some (reply refusal)) fits a
    (answer_by rows (OtherVersion 2 3) refusal true is_version (no_memory (OtherVersion 2 3) 2 refl)
    (record { fits = (omega arith, record { flavor = omega arith; short = omega arith }, tt); parts = refl })) in
    (same.0, inr same.1)
