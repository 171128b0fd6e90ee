-- Each record has an answer where no memory is refused.
use Rattle.std.proofs.Common.{◌≡◌, ◌≢◌, ◌⊎◌, inl, inr, ℕ, ◌<◌, ◌≤◌, Bool, true, false, List, []}
use Rattle.std.proofs.Common.{Option, Some, None, length}
use Rattle.std.proofs.Common.{refl, arith}
use Rattle.std.proofs.lemmas.Bool.{cases_eq, cases_lt}
use Rattle.xdr_units.specs.Numbers.{AreBytes, IsWord}
use Rattle.rpc_message.specs.Heads.{accepted}
use Rattle.rpc_message.specs.Message.{CallView, CaseView, Whole, OtherVersion, BadCred, BadVerf, NotACall, StatusView}
use Rattle.rpc_message.specs.Message.{ReplyView, Success, ProgUnavail, ProgMismatch, ProcUnavail, GarbageArgs}
use Rattle.rpc_message.specs.Message.{SystemErr}
use Rattle.rpc_message.specs.Cases.{IsCase}
use Rattle.rpc_message.specs.Spelling.{IsAuth, IsReply, IsStatus, reply}
use Rattle.registry_rows.specs.Program.{program}
use Rattle.registry_rows.specs.Rows.{Row}
use Rattle.registry_answer.specs.Callers.{Caller, Owner, Refused, owner_of, IsCaller, anyone, user, unreadable}
use Rattle.registry_answer.specs.Callers.{other, unknown}
use Rattle.registry_answer.specs.Procedures.{Procedure, procedure_at}
use Rattle.registry_answer.specs.Answer.{IsVersion, IsCallOf, ComesTo, no_program, no_version, no_procedure}
use Rattle.registry_answer.specs.Answer.{garbage, success, auth_error, is_too_long}
use Rattle.registry_answer.specs.Answer.{AnswersCall, denies, accepts}
use Rattle.registry_answer.specs.Answer.{too_long, Answers, silence, other_version, bad_cred, bad_verf, call, Answer}
use Rattle.registry_answer.specs.Laws.{SomeAnswer}

-- ---- who calls

module _ (c : CallView) (never : (k : Caller) → IsCaller c.cred k → ⊥) where
  no_caller : ⊥
  no_caller = elim (cases_eq c.cred.flavor 0) [
    | inl e ↦ never (Owner unknown) (anyone e)
    | inr n ↦ elim (cases_eq c.cred.flavor 1) [
      | inl e ↦ never (Refused 1) (unreadable e (λ a h. never (Owner (owner_of a.uid)) (user a e h)))
      | inr m ↦ never (Refused 2) (other (omega (arith, n, m)))
    ]
  ]

-- ---- what an accepted call comes to

module _ (rows : List Row) (netid owner : List ℕ) (c : CallView)
    (never : (new : List Row) (s : StatusView) → IsStatus s → ComesTo rows netid owner c new s → ⊥) where
  no_status_of : (e : c.prog ≡ program) → IsVersion c.vers → (o : Option Procedure) → procedure_at c.vers c.proc ≡ o → ⊥
  no_status_of e v None is = never rows ProcUnavail tt (no_procedure e v is)
  no_status_of e v (Some p) is =
      let of : IsCallOf c p = record { program_is = e; version = v; procedure_is = is } in
      never rows GarbageArgs tt (garbage p of (λ t h. never _ _ tt (success p t of h)))

  no_status : ⊥
  no_status = elim (cases_eq c.prog program) [
    | inr n ↦ never rows ProgUnavail tt (no_program n)
    | inl e ↦ elim (cases_lt c.vers 2) [
      | inl few ↦ never rows (ProgMismatch 2 4) (omega arith, omega arith) (no_version e (inl few))
      | inr least ↦ elim (cases_lt 4 c.vers) [
        | inl many ↦ never rows (ProgMismatch 2 4) (omega arith, omega arith) (no_version e (inr many))
        | inr most ↦ no_status_of e (least, most) (procedure_at c.vers c.proc) refl
      ]
    ]
  ]

-- ---- the answer to a call

module _ (rows : List Row) (netid : List ℕ) (c : CallView) (xid : IsWord c.xid)
    (never : (new : List Row) (r : ReplyView) → IsReply r → AnswersCall rows netid c new r → ⊥) where
  none_accepted : (owner : List ℕ) → IsCaller c.cred (Owner owner) → ⊥
  none_accepted owner is = no_status rows netid owner c
      (λ new s fits comes. by new s fits comes (is_too_long netid (length (reply (accepted c.xid s)))) refl)
    where
      empty : IsAuth (record { flavor = 0; body = [] })
      empty = record { flavor = omega arith; short = omega arith }

      by : (new : List Row) (s : StatusView) → IsStatus s → ComesTo rows netid owner c new s → (b : Bool)
          → is_too_long netid (length (reply (accepted c.xid s))) ≡ b → ⊥
      by new s fits comes true e = never rows (accepted c.xid SystemErr) (xid, empty, tt)
          (too_long owner new s is comes e)
      by new s fits comes false e = never new (accepted c.xid s) (xid, empty, fits) (accepts owner new s is comes e)

  none_called : (k : Caller) → IsCaller c.cred k → ⊥
  none_called (Owner owner) is = none_accepted owner is
  none_called (Refused stat) is = by stat is
    where
      by : (stat : ℕ) → IsCaller c.cred (Refused stat) → ⊥
      by stat (unreadable e n) = never rows (auth_error c.xid 1) (xid, omega arith) (denies 1 (unreadable e n))
      by stat (other lt) = never rows (auth_error c.xid 2) (xid, omega arith) (denies 2 (other lt))

pub some_answer : ((bytes : List ℕ) → AreBytes bytes → (k : CaseView) × IsCase bytes k) → SomeAnswer
some_answer covering rows netid message fits never = by (covering message fits).0 (covering message fits).1
  where
    said : (k : CaseView) (new : List Row) (r : ReplyView) → IsCase message k → IsReply r
        → Answers rows netid k false new (Some r) → ⊥
    said k new r read of answers = never new (Some (reply r)) (record {
      case = k;
      said = Some r;
      read = read;
      answers = answers;
      sends = record { fits = of; parts = refl };
    })

    by : (k : CaseView) → IsCase message k → ⊥
    by NotACall h = never rows None
        (record { case = NotACall; said = None; read = h; answers = silence false; sends = tt })
    by (OtherVersion xid version) h = said (OtherVersion xid version) rows _ h (h.xid_fits, (omega arith, omega arith))
        (other_version xid version)
    by (BadCred xid) h = said (BadCred xid) rows _ h (h.fits.0, omega arith) (bad_cred xid)
    by (BadVerf xid) h = said (BadVerf xid) rows _ h (h.fits.0, omega arith) (bad_verf xid)
    by (Whole c) h = no_caller c (none_called rows netid c h.fits.xid
        (λ new r of answers. said (Whole c) new r h of (call c new r answers)))
