-- What a message makes where there are no rows.
use Rattle.std.proofs.Common.{◌≡◌, ℕ, Bool, true, false, List, [], length, take, Option, Some, None, refl}
use Rattle.std.proofs.Common.{ap, ◌∙◌, subst}
use Rattle.std.proofs.lemmas.List.{take_at}
use Rattle.rpc_message.specs.Message.{CaseView, ReplyView}
use Rattle.registry_rows.specs.Rows.{Row}
use Rattle.registry_answer.specs.Answer.{Answer, Sends, Answers, silence, other_version, bad_cred, bad_verf, call}
use Rattle.registry_answer.specs.Answer.{no_memory}
use Rattle.registry_answer.specs.Answering.{AppendsAnswer}
use Rattle.registry_answer.specs.declared.answering.Appended.{Appended}
use Rattle.registry_answer.specs.declared.answering.Appended.TheVariants as appended
use Rattle.registry_callers.specs.From.{is_there}
use Rattle.registry_callers.specs.Private.Registering.{AppendsAgain}
use Rattle.registry_callers.specs.declared.registering.Again.TheVariants as again

-- where nothing is said the rows stay
silent : {rows new : List Row} {netid : List ℕ} {k : CaseView} {refused : Bool} {said : Option ReplyView}
    → Answers rows netid k refused new said → said ≡ None → new ≡ rows
silent (silence r) e = refl
silent (other_version xid version) e = refl
silent (bad_cred xid) e = refl
silent (bad_verf xid) e = refl
silent (call c new r h) e = absurd cc
silent (no_memory k xid h) e = refl

unsaid : (said : Option ReplyView) → Sends said None → said ≡ None
unsaid None h = refl
unsaid (Some r) h = absurd h

-- and no row is made
pub makes_none : (rows made : List Row) (netid asked : List ℕ) → Answer [] netid asked false made None
    → is_there rows made ≡ false
makes_none rows made netid asked a = ap (is_there rows) (silent a.answers (unsaid a.said a.sends))

module _ (rows none made : List Row) (netid asked old out : List ℕ) (empty : none ≡ []) where
  -- what is answered where there are no rows
  at_none : (p : Appended) → AppendsAnswer none netid asked old made out p → AppendsAnswer [] netid asked old made out p
  at_none p h = subst (λ (r : List Row). AppendsAnswer r netid asked old made out p) empty h

  -- nothing is said, and no row is made
  pub other_silent : AppendsAnswer none netid asked old made out appended.Nothing
      → AppendsAgain rows netid asked old out again.Other
  other_silent h =
      let k = at_none appended.Nothing h in (made, (None, (k.0, makes_none rows made netid asked k.0, k.1)))

  -- a row is made that is there
  pub makes_again : AppendsAnswer none netid asked old made out appended.Reply → is_there rows made ≡ true
      → AppendsAgain rows netid asked old out again.Reply
  makes_again h there = let k = at_none appended.Reply h in (made, (k.0, (k.1.0, there, k.1.1)))

  -- and none that is, and the reply is dropped
  pub makes_other : AppendsAnswer none netid asked old made out appended.Reply → is_there rows made ≡ false
      → (n : ℕ) → length old ≡ n → (cut : List ℕ) → cut ≡ take n out → AppendsAgain rows netid asked old cut again.Other
  makes_other h isnt n len cut e =
      let k = at_none appended.Reply h in (
        made,
        (
          Some k.0,
          (k.1.0, isnt, e ∙ ap (take n) k.1.1.added ∙ take_at old k.0 n len),
        ),
      )
