-- A record has one answer.
use Rattle.std.proofs.Common.{◌≡◌, ◌⊎◌, ◌↔◌, ℕ, ◌<◌, Bool, true, false, List, [], Option, Some, None, option_map}
use Rattle.std.proofs.Common.{is_some, inl, inr, length}
use Rattle.std.proofs.Common.{refl, ap, sym, ◌∙◌, subst, arith, true≢false}
use Rattle.xdr_types.specs.Tree.{Tree}
use Rattle.xdr_types.specs.Spelling.{bytes_of}
use Rattle.xdr_types.specs.Outcome as decoding
use Rattle.xdr_types.specs.Outcome.{Ending}
use Rattle.xdr_laws.specs.Laws.{OneOutcome}
use Rattle.rpc_message.specs.Heads.{accepted}
use Rattle.rpc_message.specs.Message.{AuthView, AuthSysView, CallView, CaseView, Whole, OtherVersion, BadCred, BadVerf}
use Rattle.rpc_message.specs.Message.{NotACall, StatusView, Success, ReplyView}
use Rattle.rpc_message.specs.Spelling.{AuthSysBytes, reply}
use Rattle.rpc_message.specs.Cases.{NoTwoCases}
use Rattle.registry_rows.specs.Rows.{Row}
use Rattle.registry_dumps.specs.Dir.{dir_kinds}
use Rattle.registry_answer.specs.Callers.{Caller, Owner, Refused, owner_of, IsCaller, anyone, user, unreadable, other}
use Rattle.registry_answer.specs.Procedures.{Procedure}
use Rattle.registry_answer.specs.Answer.{argument_limits, AreArguments, IsVersion, IsCallOf, ComesTo}
use Rattle.registry_answer.specs.Answer.{no_program, no_version}
use Rattle.registry_answer.specs.Answer.{no_procedure, garbage, success, auth_error, AnswersCall}
use Rattle.registry_answer.specs.Answer.{denies, accepts, too_long, is_too_long}
use Rattle.registry_answer.specs.Answer.{Answers}
use Rattle.registry_answer.specs.Laws.{OneAnswer}
use Rattle.registry_answer.proofs.Cases.{sends_is, Decided, decided}

-- ---- what tells constructors apart

no_version_is_one : (vers : ℕ) → (vers < 2) ⊎ (4 < vers) → IsVersion vers → ⊥
no_version_is_one vers (inl low) is = omega (arith, low, is.0)
no_version_is_one vers (inr high) is = omega (arith, high, is.1)

no_some : {A : Type 0} (o : Option A) (x : A) → o ≡ None → o ≡ Some x → ⊥
no_some o x e f = true≢false (ap is_some (sym f ∙ e))

same_some : {A : Type 0} (o : Option A) (x y : A) → o ≡ Some x → o ≡ Some y → x ≡ y
same_some {A} o x y e f = ap from (sym e ∙ f)
  where
    from : Option A → A
    from None = x
    from (Some z) = z

abbrev stat_of : Caller → ℕ
stat_of (Owner owner) = 0
stat_of (Refused stat) = stat

abbrev text_of : Caller → List ℕ
text_of (Owner owner) = owner
text_of (Refused stat) = []

abbrev is_owner : Caller → Bool
is_owner (Owner owner) = true
is_owner (Refused stat) = false

abbrev tree_of : Tree → Ending → Tree
tree_of t (decoding.Whole v place) = v
tree_of t _ = t

module _ (cases : NoTwoCases)
    (bodies : (p q : AuthSysView) (a b : List ℕ) → AuthSysBytes p a → AuthSysBytes q b → ((p ≡ q) ↔ (a ≡ b)))
    (outcomes : OneOutcome dir_kinds) where
  -- a credential names one caller
  one_caller : (cred : AuthView) {a b : Caller} → IsCaller cred a → IsCaller cred b → a ≡ b
  one_caller cred (anyone e) (anyone f) = refl
  one_caller cred (anyone e) (user q f t) = absurd (omega (arith, e, f))
  one_caller cred (anyone e) (unreadable f n) = absurd (omega (arith, e, f))
  one_caller cred (anyone e) (other f) = absurd (omega (arith, e, f))
  one_caller cred (user p e s) (anyone f) = absurd (omega (arith, e, f))
  one_caller cred (user p e s) (user q f t) =
      ap (λ (v : AuthSysView). Owner (owner_of v.uid)) ((bodies p q cred.body cred.body s t).1 refl)
  one_caller cred (user p e s) (unreadable f n) = absurd (n p s)
  one_caller cred (user p e s) (other f) = absurd (omega (arith, e, f))
  one_caller cred (unreadable e m) (anyone f) = absurd (omega (arith, e, f))
  one_caller cred (unreadable e m) (user q f t) = absurd (m q t)
  one_caller cred (unreadable e m) (unreadable f n) = refl
  one_caller cred (unreadable e m) (other f) = absurd (omega (arith, e, f))
  one_caller cred (other e) (anyone f) = absurd (omega (arith, e, f))
  one_caller cred (other e) (user q f t) = absurd (omega (arith, e, f))
  one_caller cred (other e) (unreadable f n) = absurd (omega (arith, e, f))
  one_caller cred (other e) (other f) = refl

  -- arguments have one value
  one_value : (kind : ℕ) (args : List ℕ) (t u : Tree) → AreArguments kind args t → AreArguments kind args u → t ≡ u
  one_value kind args t u (m, x) (n, y) =
      ap (tree_of t) (outcomes kind argument_limits args (decoding.Whole t m) (decoding.Whole u n) x y)

  module _ (rows : List Row) (netid : List ℕ) (c : CallView) where
    same_procedure : (p q : Procedure) → IsCallOf c p → IsCallOf c q → p ≡ q
    same_procedure p q x y = same_some _ p q x.procedure_is y.procedure_is

    taken_by : (p q : Procedure) (t : Tree) → p ≡ q → AreArguments p.takes c.args t → AreArguments q.takes c.args t
    taken_by p q t e = subst (λ (x : Procedure). AreArguments x.takes c.args t) e

    -- an accepted call comes to one status
    one_status : (owner : List ℕ) {new also : List Row} {s t : StatusView} → ComesTo rows netid owner c new s
        → ComesTo rows netid owner c also t → (new ≡ also) × (s ≡ t)
    one_status owner (no_program h) (no_program k) = (refl, refl)
    one_status owner (no_program h) (no_version e v) = absurd (h e)
    one_status owner (no_program h) (no_procedure e v n) = absurd (h e)
    one_status owner (no_program h) (garbage p is g) = absurd (h is.program_is)
    one_status owner (no_program h) (success p t is a) = absurd (h is.program_is)
    one_status owner (no_version e v) (no_program k) = absurd (k e)
    one_status owner (no_version e v) (no_version f w) = (refl, refl)
    one_status owner (no_version e v) (no_procedure f w n) = absurd (no_version_is_one c.vers v w)
    one_status owner (no_version e v) (garbage p is g) = absurd (no_version_is_one c.vers v is.version)
    one_status owner (no_version e v) (success p t is a) = absurd (no_version_is_one c.vers v is.version)
    one_status owner (no_procedure e v n) (no_program k) = absurd (k e)
    one_status owner (no_procedure e v n) (no_version f w) = absurd (no_version_is_one c.vers w v)
    one_status owner (no_procedure e v n) (no_procedure f w m) = (refl, refl)
    one_status owner (no_procedure e v n) (garbage p is g) = absurd (no_some _ p n is.procedure_is)
    one_status owner (no_procedure e v n) (success p t is a) = absurd (no_some _ p n is.procedure_is)
    one_status owner (garbage p is g) (no_program k) = absurd (k is.program_is)
    one_status owner (garbage p is g) (no_version f w) = absurd (no_version_is_one c.vers w is.version)
    one_status owner (garbage p is g) (no_procedure f w m) = absurd (no_some _ p m is.procedure_is)
    one_status owner (garbage p is g) (garbage q so h) = (refl, refl)
    one_status owner (garbage p is g) (success q u so b) = absurd (g u (taken_by q p u (same_procedure q p so is) b))
    one_status owner (success p t is a) (no_program k) = absurd (k is.program_is)
    one_status owner (success p t is a) (no_version f w) = absurd (no_version_is_one c.vers w is.version)
    one_status owner (success p t is a) (no_procedure f w m) = absurd (no_some _ p m is.procedure_is)
    one_status owner (success p t is a) (garbage q so h) = absurd (h t (taken_by p q t (same_procedure p q is so) a))
    one_status owner (success p t is a) (success q u so b) =
        let e = same_procedure p q is so in
        let f = one_value q.takes c.args t u (taken_by p q t e a) b in (
          λ j. ((e j).step rows netid owner (f j)).0,
          λ j. Success (bytes_of dir_kinds (e j).gives ((e j).step rows netid owner (f j)).1),
        )

    -- two owners of one caller come to one status
    same_status : (owner who : List ℕ) {new also : List Row} {s t : StatusView} → IsCaller c.cred (Owner owner)
        → IsCaller c.cred (Owner who) → ComesTo rows netid owner c new s → ComesTo rows netid who c also t
        → (new ≡ also) × (s ≡ t)
    same_status owner who {new} {also} {s} {t} h k come go =
        let e : owner ≡ who = ap text_of (one_caller c.cred h k) in
        one_status who (subst (λ (x : List ℕ). ComesTo rows netid x c new s) e come) go

    -- whether the transport has no space for the reply of a status
    abbrev space_for : StatusView → Bool
    space_for status = is_too_long netid (length (reply (accepted c.xid status)))

    -- a whole call has one reply
    one_reply : {new also : List Row} {q r : ReplyView} → AnswersCall rows netid c new q
        → AnswersCall rows netid c also r → (new ≡ also) × (q ≡ r)
    one_reply (denies s h) (denies t k) = (
      refl,
      ap (λ (x : Caller). auth_error c.xid (stat_of x))
          (one_caller c.cred h k),
    )
    one_reply (denies s h) (accepts owner new status k come fits) =
        absurd (true≢false (ap is_owner (one_caller c.cred k h)))
    one_reply (denies s h) (too_long owner new status k come long) =
        absurd (true≢false (ap is_owner (one_caller c.cred k h)))
    one_reply (accepts owner new status h come fits) (denies t k) =
        absurd (true≢false (ap is_owner (one_caller c.cred h k)))
    one_reply (accepts owner new status h come fits) (accepts who next mark k go space) =
        let s = same_status owner who h k come go in
        (s.0, ap (accepted c.xid) s.1)
    one_reply (accepts owner new status h come fits) (too_long who next mark k go long) =
        let s = same_status owner who h k come go in
        absurd (true≢false (sym long ∙ sym (ap space_for s.1) ∙ fits))
    one_reply (too_long owner new status h come long) (denies t k) =
        absurd (true≢false (ap is_owner (one_caller c.cred h k)))
    one_reply (too_long owner new status h come long) (accepts who next mark k go fits) =
        let s = same_status owner who h k come go in
        absurd (true≢false (sym long ∙ ap space_for s.1 ∙ fits))
    one_reply (too_long owner new status h come long) (too_long who next mark k go also) = (refl, refl)

  module _ (rows : List Row) (netid : List ℕ) where
    both_are : {A : Type 0} (x a b : A) → a ≡ x → b ≡ x → a ≡ b
    both_are x a b e f = e ∙ sym f

    agree : (k : CaseView) (refused : Bool) (new also : List Row) (said reported : Option ReplyView)
        → Decided rows netid k refused new said → Decided rows netid k refused also reported
        → (new ≡ also) × (said ≡ reported)
    agree k true new also said reported x y = (both_are _ new also x.0 y.0, both_are _ said reported x.1 y.1)
    agree NotACall false new also said reported x y = (both_are _ new also x.0 y.0, both_are _ said reported x.1 y.1)
    agree (OtherVersion xid version) false new also said reported x y =
        (both_are _ new also x.0 y.0, both_are _ said reported x.1 y.1)
    agree (BadCred xid) false new also said reported x y =
        (both_are _ new also x.0 y.0, both_are _ said reported x.1 y.1)
    agree (BadVerf xid) false new also said reported x y =
        (both_are _ new also x.0 y.0, both_are _ said reported x.1 y.1)
    agree (Whole c) false new also said reported x y =
        let h = one_reply rows netid c x.1.0 y.1.0 in
        (h.0, x.1.1 ∙ ap Some h.1 ∙ sym y.1.1)

  pub one_answer : OneAnswer
  one_answer rows new also netid message refused sent reported fits x y =
      let same = cases message x.case y.case fits x.read y.read in
      let second : Answers rows netid x.case refused also y.said =
      subst (λ (k : CaseView). Answers rows netid k refused also y.said) (sym same) y.answers in
      let h = agree rows netid x.case refused new also x.said y.said (decided rows netid x.answers)
      (decided rows netid second) in (
        h.0,
        sends_is x.said sent x.sends ∙ ap (λ (o : Option ReplyView). option_map reply o) h.1
            ∙ sym (sends_is y.said reported y.sends),
      )
