-- What the case of a message makes of the rows and the reply.
use Rattle.std.proofs.Common.{◌≡◌, ℕ, Bool, true, false, List, Option, Some, None, option_map, refl, ap, sym, ◌∙◌}
use Rattle.std.proofs.Common.{subst}
use Rattle.xdr_units.specs.Numbers.{AreBytes}
use Rattle.rpc_message.specs.Heads.{accepted}
use Rattle.rpc_message.specs.Message.{CaseView, Whole, OtherVersion, BadCred, BadVerf, NotACall, SystemErr, RpcMismatch}
use Rattle.rpc_message.specs.Message.{ReplyView, Denied}
use Rattle.rpc_message.specs.Spelling.{reply}
use Rattle.rpc_message.specs.Cases.{IsCase, IsNoCall, NoTwoCases}
use Rattle.registry_rows.specs.Rows.{Row}
use Rattle.registry_answer.specs.Answer.{auth_error, AnswersCall, xid_in, Answers, silence, other_version}
use Rattle.registry_answer.specs.Answer.{bad_cred, bad_verf, call, no_memory, Sends, Answer}

-- what is sent is the bytes of what is said
pub sends_is : (said : Option ReplyView) (sent : Option (List ℕ)) → Sends said sent → sent ≡ option_map reply said
sends_is None None h = refl
sends_is (Some r) (Some bytes) h = ap Some h.parts
sends_is None (Some bytes) h = absurd h
sends_is (Some r) None h = absurd h

module _ (rows : List Row) (netid : List ℕ) where
  -- what a case and refused memory make of the rows and the reply
  abbrev pub Decided : CaseView → (refused : Bool) → List Row → Option ReplyView → Type 0
  Decided k true new said = (new ≡ rows) × (said ≡ option_map (λ xid. accepted xid SystemErr) (xid_in k))
  Decided NotACall false new said = (new ≡ rows) × (said ≡ None)
  Decided (OtherVersion xid version) false new said = (new ≡ rows) × (said ≡ Some (Denied xid (RpcMismatch 2 2)))
  Decided (BadCred xid) false new said = (new ≡ rows) × (said ≡ Some (auth_error xid 1))
  Decided (BadVerf xid) false new said = (new ≡ rows) × (said ≡ Some (auth_error xid 3))
  Decided (Whole c) false new said = (r : ReplyView) × (AnswersCall rows netid c new r × (said ≡ Some r))

  of_no_call : (refused : Bool) → Decided NotACall refused rows None
  of_no_call true = (refl, refl)
  of_no_call false = (refl, refl)

  pub decided : {k : CaseView} {refused : Bool} {new : List Row} {said : Option ReplyView}
      → Answers rows netid k refused new said → Decided k refused new said
  decided (silence refused) = of_no_call refused
  decided (other_version xid version) = (refl, refl)
  decided (bad_cred xid) = (refl, refl)
  decided (bad_verf xid) = (refl, refl)
  decided (call c new r h) = (r, (h, refl))
  decided (no_memory k xid e) =
      (refl, ap (λ (o : Option ℕ). option_map (λ n. accepted n SystemErr) o) (sym e))

  module _ (cases : NoTwoCases) (message : List ℕ) (fits : AreBytes message) (refused : Bool) (new : List Row)
      (sent : Option (List ℕ)) (a : Answer rows netid message refused new sent) where
    -- the case that the bytes are in decides the answer
    pub decided_by : (k : CaseView) → IsCase message k → Decided k refused new a.said
    decided_by k read =
        let is : a.case ≡ k = cases message a.case k fits a.read read in
        subst (λ (j : CaseView). Decided j refused new a.said) is (decided a.answers)

    -- to bytes that are no call it is silence, and the rows stay
    pub silent : IsNoCall message → (new ≡ rows) × (sent ≡ None)
    silent none =
        let h = by refused (decided_by NotACall none) in
        (h.0, sends_is a.said sent a.sends ∙ ap (λ (o : Option ReplyView). option_map reply o) h.1)
      where
        by : (y : Bool) → Decided NotACall y new a.said → (new ≡ rows) × (a.said ≡ None)
        by true h = h
        by false h = h
