-- A row of the superuser stays where another calls.
use Rattle.std.proofs.Common.{◌≡◌, ◌↔◌, inl, inr, ℕ, ◌<◌, ◌^◌, Bool, true, false, List, Option, refl, ap, sym}
use Rattle.std.proofs.Common.{◌∙◌, subst, arith, true≢false}
use Rattle.std.specs.List.{list_any}
use Rattle.std.proofs.lemmas.Bool.{cases_Bool}
use Rattle.rpc_message.specs.Message.{AuthView, AuthSysView, CallView}
use Rattle.rpc_message.specs.Spelling.{CallBytes, AuthSysBytes}
use Rattle.registry_rows.specs.Rows.{Row}
use Rattle.registry_answer.specs.Callers.{IsCaller, Owner}
use Rattle.registry_answer.specs.Answer.{Answer}
use Rattle.registry_callers.specs.declared.callers.Peer.{Peer}
use Rattle.registry_callers.specs.declared.callers.Peer.TheVariants as peer
use Rattle.registry_callers.specs.declared.callers.Caller.{Caller}
use Rattle.registry_callers.specs.Asking.{is_change, is_look_up}
use Rattle.registry_callers.specs.Vouching.{Vouches, named, lowered, believed, local, user_cred, ClaimsSuperuser}
use Rattle.registry_callers.specs.Vouching.{with_cred}
use Rattle.registry_callers.specs.From.{AnswerFrom, IsTaken, is_same, too_weak, sets_again, sets, unsets, looks_up}
use Rattle.registry_callers.specs.From.{as_ever, no_memory}
use Rattle.registry_callers.specs.Laws.{SuperusersRowsStay}
use Rattle.registry_callers.proofs.Tests.{first_false, no_look_up}
use Rattle.registry_callers.proofs.Written.{Exact}
use Rattle.registry_callers.proofs.Owning.{body_of, spells, not_superuser}
use Rattle.registry_callers.proofs.Kept.{AreAnothers, no_change_stays, superusers_row_stays}

-- two bodies of AUTH_SYS are equal exactly if their bytes are
abbrev pub ExactBodies : Type 0
ExactBodies = (p q : AuthSysView) (a b : List ℕ) → AuthSysBytes p a → AuthSysBytes q b → ((p ≡ q) ↔ (a ≡ b))

-- whose uid the kernel names has one of 32 bits
abbrev HasUid : Peer → Type 0
HasUid p = (uid : ℕ) → p ≡ peer.LocalUser uid → uid < 2 ^ 32

none_claims : ExactBodies → {cred : AuthView} {p : Peer} {found : AuthView} → Vouches cred p found
    → (p ≡ peer.Local → ⊥) → (p ≡ peer.LocalUser 0 → ⊥) → HasUid p → ClaimsSuperuser found → ⊥
none_claims bodies (named uid) unnamed root has k =
    let same : body_of uid ≡ k.uid_is.body =
    (bodies (body_of uid) k.uid_is.body (user_cred uid).body (user_cred uid).body (spells uid (has uid refl))
    k.uid_is.spelled).1 refl in
    let none : uid ≡ 0 = ap (λ (a : AuthSysView). a.uid) same ∙ k.uid_is.same in
    root (ap (λ (n : ℕ). peer.LocalUser n) none)
none_claims bodies (lowered h) unnamed root has k = omega (arith, k.flavor_is)
none_claims bodies (believed h) unnamed root has k = h k
none_claims bodies local unnamed root has k = unnamed refl

look_up_is_no_change : (c : CallView) → is_look_up c ≡ true → is_change c ≡ false
look_up_is_no_change c look = elim (cases_Bool (is_change c)) [
  | inl e ↦ absurd (true≢false (sym look ∙ no_look_up c e))
  | inr e ↦ e
]

module _ (exact : Exact) (bodies : ExactBodies) (caller : Caller) (unnamed : caller.peer ≡ peer.Local → ⊥)
    (root : caller.peer ≡ peer.LocalUser 0 → ⊥) (has : HasUid caller.peer) (message : List ℕ) where
  -- what is asked for a change that is taken
  taken_of_another : (c : CallView) (asked : List ℕ) → IsTaken caller message c asked → AreAnothers asked
  taken_of_another c asked taken d owner read is =
      let v = taken.vouched in
      let same : d ≡ with_cred c v.cred = (exact d (with_cred c v.cred) asked asked read v.spelled).1 refl in
      let found : IsCaller v.cred (Owner owner) =
      subst (λ (x : CallView). IsCaller x.cred (Owner owner)) same is in
      not_superuser v.cred owner (none_claims bodies v.vouches unnamed root has) found refl

  look_up_no_change : (c : CallView) → CallBytes c message → is_look_up c ≡ true → (d : CallView)
      → CallBytes d message → is_change d ≡ false
  look_up_no_change c read look d spelt =
      subst (λ (x : CallView). is_change x ≡ false) ((exact c d message message read spelt).1 refl)
      (look_up_is_no_change c look)

pub superusers_rows_stay : Exact → ExactBodies → SuperusersRowsStay
superusers_rows_stay exact bodies caller rows new netid message refused sent r unnamed root has owned there a = by a
  where
    taken_stays : (c : CallView) (asked : List ℕ) → IsTaken caller message c asked → (refused : Bool) (new : List Row)
        (sent : Option (List ℕ)) → Answer rows netid asked refused new sent → list_any (is_same r) new ≡ true
    taken_stays c asked taken refused new sent a =
        superusers_row_stays r owned rows netid asked there
        (taken_of_another exact bodies caller unnamed root has message c asked taken) refused new sent a

    other_stays : ((c : CallView) → CallBytes c message → is_change c ≡ false) → (refused : Bool) (new : List Row)
        (sent : Option (List ℕ)) → Answer rows netid message refused new sent → list_any (is_same r) new ≡ true
    other_stays none refused new sent a =
        subst (λ (rs : List Row). list_any (is_same r) rs ≡ true)
        (sym (no_change_stays rows netid message none refused new sent a)) there

    by : {refused : Bool} {new : List Row} {sent : Option (List ℕ)}
        → AnswerFrom caller rows netid message refused new sent → list_any (is_same r) new ≡ true
    by (too_weak c read change weak) = there
    by (sets_again c asked made said taken set h again) = there
    by (sets c asked made said refused new sent taken set h isnt a) = taken_stays c asked taken refused new sent a
    by (unsets c asked refused new sent taken change isnt a) = taken_stays c asked taken refused new sent a
    by (looks_up c refused new plain sent read look a m) =
        other_stays (look_up_no_change exact bodies caller unnamed root has message c read look) refused new plain a
    by (as_ever refused new sent none a) =
        other_stays (λ d spelt. first_false (is_change d) (is_look_up d) (none d spelt)) refused new sent a
    by (no_memory c read) = there
