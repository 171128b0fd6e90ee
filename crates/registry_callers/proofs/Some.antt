-- Each record of a caller has an answer where no memory is refused.
use Rattle.std.proofs.Common.{◌≡◌, inl, inr, ℕ, ◌<◌, ◌^◌, true, false, ◌||◌, List, [], length, Option, Some}
use Rattle.std.proofs.Common.{refl, sym, subst, arith}
use Rattle.std.proofs.lemmas.Bool.{cases_Bool}
use Rattle.xdr_units.specs.Numbers.{AreBytes}
use Rattle.rpc_message.specs.Message.{AuthView, CallView}
use Rattle.rpc_message.specs.Spelling.{CallBytes, IsAuth, IsCall, call, reply}
use Rattle.registry_rows.specs.Rows.{Row}
use Rattle.registry_answer.specs.Answer.{Answer, auth_error}
use Rattle.registry_answer.specs.Laws.{SomeAnswer}
use Rattle.registry_callers.specs.declared.callers.Caller.{Caller}
use Rattle.registry_callers.specs.declared.callers.Peer.{Peer}
use Rattle.registry_callers.specs.declared.callers.Peer.TheVariants as peer
use Rattle.registry_callers.specs.Callers.{auth_tooweak, is_trusted}
use Rattle.registry_callers.specs.Asking.{is_set, is_change, is_look_up}
use Rattle.registry_callers.specs.Vouching.{Vouches, named, lowered, believed, local, IsVouched, user_cred, no_cred}
use Rattle.registry_callers.specs.Vouching.{ClaimsSuperuser, with_cred}
use Rattle.registry_callers.specs.Addresses.{Tells, address, as_it_was, told, address_reply}
use Rattle.registry_callers.specs.From.{AnswerFrom, IsTaken, is_there, too_weak, sets_again, sets, unsets, looks_up}
use Rattle.registry_callers.specs.From.{as_ever}
use Rattle.registry_callers.specs.Laws.{SomeAnswerFrom}
use Rattle.registry_callers.proofs.Tests.{both_false}
use Rattle.registry_callers.proofs.Asked.{asked_bytes}

-- ---- some credential is vouched for

no_cred_fits : IsAuth no_cred
no_cred_fits = record { flavor = omega arith; short = omega arith }

user_cred_fits : (uid : ℕ) → IsAuth (user_cred uid)
user_cred_fits uid =
    let count : length (user_cred uid).body ≡ 20 = refl in
    record { flavor = omega arith; short = omega (arith, count) }

-- the call with another credential has bytes
vouched_by : (p : Peer) (c : CallView) (cred : AuthView) → IsCall c → IsAuth cred → Vouches c.cred p cred
    → IsVouched p c (call (with_cred c cred))
vouched_by p c cred fits short vouches = record {
  cred = cred;
  vouches = vouches;
  spelled = record {
    fits = record {
      xid = fits.xid;
      prog = fits.prog;
      vers = fits.vers;
      proc = fits.proc;
      cred = short;
      verf = fits.verf;
    };
    parts = refl;
  };
}

none_vouched : (p : Peer) (c : CallView) → IsCall c → ((asked : List ℕ) → IsVouched p c asked → ⊥) → ⊥
none_vouched peer.Remote c fits none =
    let no : ClaimsSuperuser c.cred → ⊥ =
    λ h. none (call (with_cred c no_cred)) (vouched_by peer.Remote c no_cred fits no_cred_fits (lowered h)) in
    none (call (with_cred c c.cred)) (vouched_by peer.Remote c c.cred fits fits.cred (believed no))
none_vouched peer.Local c fits none =
    none (call (with_cred c c.cred)) (vouched_by peer.Local c c.cred fits fits.cred local)
none_vouched (peer.LocalUser uid) c fits none =
    none (call (with_cred c (user_cred uid)))
    (vouched_by (peer.LocalUser uid) c (user_cred uid) fits (user_cred_fits uid) (named uid))

-- ---- each record

module _ (some : SomeAnswer) (caller : Caller) (rows : List Row) (netid message : List ℕ) (fits : AreBytes message)
    (never : (new : List Row) (sent : Option (List ℕ)) → AnswerFrom caller rows netid message false new sent → ⊥) where
  no_set : (c : CallView) (asked : List ℕ) → AreBytes asked → IsTaken caller message c asked → is_set c ≡ true
      → (made : List Row) (said : Option (List ℕ)) → Answer [] netid asked false made said → ⊥
  no_set c asked are taken set made said h = elim (cases_Bool (is_there rows made)) [
    | inl there ↦ never rows said (sets_again c asked made said taken set h there)
    | inr isnt ↦ some rows netid asked are
        (λ new sent a. never new sent (sets c asked made said false new sent taken set h isnt a))
  ]

  no_taken : (c : CallView) (asked : List ℕ) → AreBytes asked → IsTaken caller message c asked → is_change c ≡ true → ⊥
  no_taken c asked are taken change = elim (cases_Bool (is_set c)) [
    | inl set ↦ some [] netid asked are (λ made said h. no_set c asked are taken set made said h)
    | inr isnt ↦ some rows netid asked are
        (λ new sent a. never new sent (unsets c asked false new sent taken change isnt a))
  ]

  no_change : (c : CallView) → CallBytes c message → is_change c ≡ true → ⊥
  no_change c read change = elim (cases_Bool (is_trusted caller)) [
    | inl trusted ↦ none_vouched caller.peer c read.fits (λ asked vouched. no_taken c asked
        (asked_bytes caller.peer c message asked fits read vouched)
        (record { read = read; trusted = trusted; vouched = vouched }) change)
    | inr weak ↦ never rows (Some (reply (auth_error c.xid auth_tooweak))) (too_weak c read change weak)
  ]

  -- what the plain registry sends for a look-up is told in some way
  no_plain : (c : CallView) → CallBytes c message → is_look_up c ≡ true → (new : List Row) (plain : Option (List ℕ))
      → Answer rows netid message false new plain → ⊥
  no_plain c read look new plain a = untold plain (as_it_was plain none)
    where
      untold : (sent : Option (List ℕ)) → Tells caller.host c.xid plain sent → ⊥
      untold sent tells = never new sent (looks_up c false new plain sent read look a tells)

      none : (text : List ℕ) → length text < 2 ^ 32 → plain ≡ Some (address_reply c.xid text) → ⊥
      none text few e =
          let sent : Option (List ℕ) = Some (address_reply c.xid (told caller.host text)) in
          untold sent (subst (λ (o : Option (List ℕ)). Tells caller.host c.xid o sent) (sym e) (address text few))

  no_look_up : (c : CallView) → CallBytes c message → is_look_up c ≡ true → ⊥
  no_look_up c read look = some rows netid message fits (λ new plain a. no_plain c read look new plain a)

  -- so it is neither a change nor a look-up
  is_neither : (c : CallView) → CallBytes c message → (is_change c || is_look_up c) ≡ false
  is_neither c read = elim (cases_Bool (is_change c)) [
    | inl change ↦ absurd (no_change c read change)
    | inr other ↦ elim (cases_Bool (is_look_up c)) [
      | inl look ↦ absurd (no_look_up c read look)
      | inr isnt ↦ both_false (is_change c) (is_look_up c) other isnt
    ]
  ]

  no_answer : ⊥
  no_answer = some rows netid message fits (λ new sent a. never new sent (as_ever false new sent is_neither a))

pub some_answer_from : SomeAnswer → SomeAnswerFrom
some_answer_from some caller rows netid message fits never = no_answer some caller rows netid message fits never
