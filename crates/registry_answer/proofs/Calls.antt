-- Whole calls and messages answered.
use Rattle.std.proofs.Common.{◌≡◌, ℕ, ◌+◌, ◌≤◌, ◌<◌, ◌^◌, Bool, true, false, List, ◌++◌, length, Option, Some, None}
use Rattle.std.proofs.Common.{refl, ap, sym, subst, arith, Result, Ok, Err, OnOk, OnErr}
use Rattle.std.proofs.lemmas.List.{length-append}
use Rattle.rpc_message.specs.Heads.{accepted}
use Rattle.rpc_message.specs.Message.{CallView, CaseView, NotACall, SystemErr, ReplyView}
use Rattle.xdr_units.specs.Numbers.{IsWord}
use Rattle.rpc_message.specs.Spelling.{reply, IsReply}
use Rattle.rpc_message.specs.Cases.{IsCase}
use Rattle.registry_rows.specs.Rows.{Row}
use Rattle.registry_answer.specs.Callers.{Owner, Refused, IsCaller, unreadable, other}
use Rattle.registry_answer.specs.Answer.{denies, accepts, too_long, is_too_long, auth_error, Answers, silence}
use Rattle.registry_answer.specs.Answer.{no_memory, xid_in, Answer}
use Rattle.registry_answer.specs.Answering.{PushesAnswer, Adds, appended_of, most}
use Rattle.registry_answer.specs.declared.answering.Appended.{Appended}
use Rattle.registry_answer.specs.Private.Pushes.{PushesStatus, PushesCall}

-- a caller who is believed, and a reply that can be sent
pub pushes_accepted : (rows : List Row) (netid owner : List ℕ) (c : CallView) (old out : List ℕ) (new : List Row)
    → IsWord c.xid → IsCaller c.cred (Owner owner) → (k : PushesStatus rows netid owner c old new out)
    → is_too_long netid (length (reply (accepted c.xid k.status))) ≡ false → PushesCall rows netid c old new out
pushes_accepted rows netid owner c old out new word is k space = record {
  said = accepted c.xid k.status;
  answers = accepts owner new k.status is k.comes space;
  fits = (word, record { flavor = omega arith; short = omega arith }, k.fits);
  added = k.added;
  short = k.short;
}

-- and one that has no space
pub pushes_too_long : (rows : List Row) (netid owner : List ℕ) (c : CallView) (old mid out : List ℕ) (new : List Row)
    → IsWord c.xid → IsCaller c.cred (Owner owner) → (k : PushesStatus rows netid owner c old new mid)
    → is_too_long netid (length (reply (accepted c.xid k.status))) ≡ true → new ≡ rows
    → out ≡ old ++ reply (accepted c.xid SystemErr) → PushesCall rows netid c old new out
pushes_too_long rows netid owner c old mid out new word is k long same e = subst
    (λ (x : List Row). PushesCall rows netid c old x out) (sym same) (record {
      said = accepted c.xid SystemErr;
      answers = too_long owner new k.status is k.comes long;
      fits = (word, record { flavor = omega arith; short = omega arith }, tt);
      added = e;
      short = omega (arith, ap length e, length-append old (reply (accepted c.xid SystemErr)));
    })

-- a caller who is not
pub pushes_auth_error : (rows : List Row) (netid : List ℕ) (c : CallView) (old out : List ℕ) (stat : ℕ) → IsWord c.xid
    → IsCaller c.cred (Refused stat) → out ≡ old ++ reply (auth_error c.xid stat)
    → PushesCall rows netid c old rows out
pushes_auth_error rows netid c old out stat word is e = record {
  said = auth_error c.xid stat;
  answers = denies stat is;
  fits = (word, small stat is);
  added = e;
  short = omega (arith, ap length e, length-append old (reply (auth_error c.xid stat)));
}
  where
    small : (stat : ℕ) → IsCaller c.cred (Refused stat) → stat < 2 ^ 32
    small stat (unreadable e n) = omega arith
    small stat (other lt) = omega arith

module _ (rows : List Row) (netid message : List ℕ) where
  -- the answer to a message of a case
  pub answers : (k : CaseView) (refused : Bool) (new : List Row) (r : ReplyView) → IsCase message k
      → Answers rows netid k refused new (Some r) → IsReply r → Answer rows netid message refused new (Some (reply r))
  answers k refused new r is h fits = record {
    case = k;
    said = Some r;
    read = is;
    answers =
        h;
    sends = record { fits = fits; parts = refl };
  }

  pub answers_silence : IsCase message NotACall → Answer rows netid message false rows None
  answers_silence is = record { case = NotACall; said = None; read = is; answers = silence false; sends = tt }

  system_error_fits : (xid : ℕ) → IsWord xid → IsReply (accepted xid SystemErr)
  system_error_fits xid word = (word, record { flavor = omega arith; short = omega arith }, tt)

  pub answers_no_memory : (k : CaseView) (xid : ℕ) → IsCase message k → xid_in k ≡ Some xid → IsWord xid
      → Answer rows netid message true rows (Some (reply (accepted xid SystemErr)))
  answers_no_memory k xid is e word = answers k true rows (accepted xid SystemErr) is (no_memory k xid e)
      (system_error_fits xid word)

  pub adds : (k : CaseView) (new : List Row) (r : ReplyView) (old out : List ℕ) → IsCase message k
      → Answers rows netid k false new (Some r) → IsReply r → out ≡ old ++ reply r → length out ≤ length old + most
      → (bytes : List ℕ) × (Answer rows netid message false new (Some bytes) × Adds old out bytes)
  adds k new r old out is h fits e short = (
    reply r,
    (
      answers k false new r is h fits,
      record {
        added = e;
        short =
            omega (arith, ap length e, length-append old (reply r), short);
      },
    ),
  )

-- what was added, where memory may have been refused
pub pushes_by : {E : Type 0} (rows : List Row) (netid message old : List ℕ) (new : List Row) (out : List ℕ)
    (r : Result (Unit {0}) E) (p : Appended) (xid : ℕ) → p ≡ appended_of xid r
    → OnOk r ((bytes : List ℕ) × (Answer rows netid message false new (Some bytes) × Adds old out bytes))
    → OnErr r (Answer rows netid message true new (Some (reply (accepted xid SystemErr))))
    → PushesAnswer rows netid message old new out p
pushes_by rows netid message old new out (Ok u) p xid e h k = subst (PushesAnswer rows netid message old new out)
    (sym e) h
pushes_by rows netid message old new out (Err f) p xid e h k = subst (PushesAnswer rows netid message old new out)
    (sym e) k

pub any_err : {A E : Type 0} (r : Result A E) (P : Type 0) → P → OnErr r P
any_err (Ok x) P h = tt
any_err (Err e) P h = h

pub on_err : {A E : Type 0} (r : Result A E) (P Q : Type 0) → (P → Q) → OnErr r P → OnErr r Q
on_err (Ok x) P Q f h = tt
on_err (Err e) P Q f h = f h

-- a short reply
pub adds_short : (rows : List Row) (netid message : List ℕ) (k : CaseView) (new : List Row) (r : ReplyView)
    (old out : List ℕ) → IsCase message k → Answers rows netid k false new (Some r) → IsReply r → out ≡ old ++ reply r
    → length (reply r) ≤ 24 → (bytes : List ℕ) × (Answer rows netid message false new (Some bytes) × Adds old out bytes)
adds_short rows netid message k new r old out is h fits e few =
    (reply r, (answers rows netid message k false new r is h fits, record { added = e; short = omega (arith, few) }))

-- rows that stay
pub unchanged : (rows new : List Row) (netid message : List ℕ) (sent : Option (List ℕ)) → new ≡ rows
    → Answer rows netid message true rows sent → Answer rows netid message true new sent
unchanged rows new netid message sent e h = subst (λ (x : List Row). Answer rows netid message true x sent) (sym e) h
