-- What the inputs of the examples are to a call.
use Rattle.std.proofs.Common.{◌≡◌, ◌≢◌, ℕ, List, [], ◌∷◌, Option, Some}
use Rattle.std.proofs.Common.{Result, Ok, Err, refl, subst, arith, IsErr}
use Rattle.rpc_record.specs.Marked.{header}
use Rattle.rpc_record.specs.Reading.{WholeIsLongest, WholeHasNoLong}
use Rattle.rpc_record.proofs.Streams.{whole_none, whole_push}
use Rattle.rpc_message.specs.declared.fault.ReplyFault.{ReplyFault}
use Rattle.rpc_message.specs.declared.message.Reply.{Reply}
use Rattle.rpc_message.specs.Message.{ReplyView, Accepted, Success}
use Rattle.rpc_message.specs.Spelling.{ReplyBytes}
use Rattle.rpc_engine.specs.declared.fault.ClientFault.{ClientFault}
use Rattle.rpc_engine.specs.declared.fault.ClientFault.TheVariants as fault
use Rattle.rpc_engine.specs.Exchanged.{Replied, OtherXid, NoReply, Truncated, IsOutcome, IsExact}
use Rattle.rpc_engine.specs.Exchanged.{IsFirst, most_reply}
use Rattle.rpc_engine.specs.Laws.{OneOutcome}

-- ---- no bytes

none_case : WholeIsLongest → WholeHasNoLong → (xid : ℕ) → IsOutcome xid [] (Truncated 0)
none_case whole none xid =
    let nothing = whole_none most_reply in (refl, whole most_reply [] [] nothing, none most_reply [] [] nothing)

module _ (one : OneOutcome) (whole : WholeIsLongest) (none : WholeHasNoLong) (xid : ℕ) (left : Option (List ℕ))
    (reported : left ≡ Some []) where
  pub cut_at_once : (result : Result Reply ClientFault) → IsExact xid left result → IsErr result
  cut_at_once (Err f) h = refl
  cut_at_once (Ok reply) h = absurd (apart (one xid [] _ (Truncated 0) (h [] reported) (none_case whole none xid)))
    where
      apart : {v : ReplyView} → Replied v ≡ Truncated 0 → ⊥
      apart e = cc

  pub no_xid : (result : Result Reply ClientFault) → IsExact xid left result → (got : ℕ)
      → result ≢ Err (fault.WrongXid got)
  no_xid result h got e =
      apart (one xid [] (OtherXid got) (Truncated 0) (subst (λ r. IsExact xid left r) e h [] reported)
      (none_case whole none xid))
    where
      apart : OtherXid got ≡ Truncated 0 → ⊥
      apart e = cc

-- ---- the reply of a null call with xid 2

abbrev pub two : List ℕ
two = 0 ∷ 0 ∷ 0 ∷ 2 ∷ 0 ∷ 0 ∷ 0 ∷ 1 ∷ 0 ∷ 0 ∷ 0 ∷ 0 ∷ 0 ∷ 0 ∷ 0 ∷ 0 ∷ 0 ∷ 0 ∷ 0 ∷ 0 ∷ 0 ∷ 0 ∷ 0 ∷ 0 ∷ []

abbrev pub two_bytes : List ℕ
two_bytes = 128 ∷ 0 ∷ 0 ∷ 24 ∷ two

abbrev pub two_reply : ReplyView
two_reply = Accepted 2 (record { flavor = 0; body = [] }) (Success [])

pub two_spelled : ReplyBytes two_reply two
two_spelled = record {
  fits = (omega arith, record { flavor = omega arith; short = omega arith }, tt);
  parts = refl;
}

two_first : IsFirst two two_bytes
unfolding header
two_first =
    let w = whole_push most_reply [] [] two (whole_none most_reply) (omega arith) (omega arith) in
    record { whole = two_bytes; more = []; stream = w.stream; within = w.within; spelled = refl }

other_case : IsOutcome 1 two_bytes (OtherXid 2)
other_case = (two, (two_first, (two_reply, (two_spelled, refl)), λ e. omega (arith, e)))

own_case : IsOutcome 2 two_bytes (Replied two_reply)
own_case = (two, (two_first, two_spelled, refl))

module _ (one : OneOutcome) (left : Option (List ℕ)) (reported : left ≡ Some two_bytes) where
  pub not_handed_out : (xid : ℕ) (result : Result Reply ClientFault) → xid ≡ 1 → IsExact xid left result → IsErr result
  not_handed_out xid (Err f) x h = refl
  not_handed_out xid (Ok reply) x h =
      absurd (apart (one 1 two_bytes _ (OtherXid 2) (subst (λ n. IsExact n left (Ok reply)) x h two_bytes reported)
      other_case))
    where
      apart : {v : ReplyView} → Replied v ≡ OtherXid 2 → ⊥
      apart e = cc

  pub other_is_two : (xid : ℕ) (result : Result Reply ClientFault) → xid ≡ 1 → IsExact xid left result → (got : ℕ)
      → result ≡ Err (fault.WrongXid got) → got ≡ 2
  other_is_two xid result x h got e =
      same (one 1 two_bytes (OtherXid got) (OtherXid 2)
      (subst (λ n. IsExact n left (Err (fault.WrongXid got))) x (subst (λ r. IsExact xid left r) e h) two_bytes
      reported) other_case)
    where
      same : OtherXid got ≡ OtherXid 2 → got ≡ 2
      same e = cc

  module _ (xid : ℕ) (result : Result Reply ClientFault) (x : xid ≡ 2) (h : IsExact xid left result) where
    says : (r : Result Reply ClientFault) → result ≡ r → IsExact 2 left r
    says r e = subst (λ n. IsExact n left r) x (subst (λ k. IsExact xid left k) e h)

    pub own_xid : (got : ℕ) → result ≢ Err (fault.WrongXid got)
    own_xid got e =
        apart (one 2 two_bytes (OtherXid got) (Replied two_reply) (says (Err (fault.WrongXid got)) e two_bytes reported)
        own_case)
      where
        apart : OtherXid got ≡ Replied two_reply → ⊥
        apart e = cc

    pub own_reply : (f : ReplyFault) → result ≢ Err (fault.Reply f)
    own_reply f e =
        apart (one 2 two_bytes NoReply (Replied two_reply) (says (Err (fault.Reply f)) e two_bytes reported) own_case)
      where
        apart : NoReply ≡ Replied two_reply → ⊥
        apart e = cc
