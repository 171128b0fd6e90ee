-- Sendings one after another, by what the port tells between them.
use Rattle.std.proofs.Common.{◌≡◌, ℕ, ◌+◌, ◌≤◌, List, [], ◌∷◌, Result, Err, refl, subst, arith, inl, inr}
use Rattle.std.proofs.Common.{suc, zero}
use Rattle.xdr_io.specs.Reported.{Counts}
use Rattle.xdr_io.proofs.Chained.{Counts-trans}
use Rattle.rpc_message.specs.declared.message.Reply.{Reply}
use Rattle.rpc_engine.specs.declared.fault.ClientFault.{ClientFault}
use Rattle.rpc_engine.specs.declared.fault.ClientFault.TheVariants as fault
use Rattle.rpc_engine.specs.Exchanged.{read_failures}
use Rattle.rpc_engine.specs.Ports.{Receives, Sends}
use Rattle.rpc_engine.proofs.Ports.{Receives-none, Sends-none}
use Rattle.oncrpc_service.specs.Datagrams.{Reporting}
use Rattle.oncrpc_call.specs.Datagrams.{Answered, Sending, Sendings, Unanswered, most_passed}

-- a send, and what was received behind it
pub one_sending : {P : Type 0} (reports : P → Reporting) (xid : ℕ) (call datagram : List ℕ)
    (answer : Result Reply ClientFault) (a b c : P) → datagram ≡ call
    → Sends (reports a).sent (reports b).sent (datagram ∷ []) → Receives (reports a).left (reports b).left []
    → Counts 0 (reports a).unreceived (reports b).unreceived → Counts 0 (reports a).unsent (reports b).unsent
    → Answered xid most_passed (reports b).left (reports c).left answer
    → Sends (reports b).sent (reports c).sent []
    → Counts (read_failures answer) (reports b).unreceived (reports c).unreceived
    → Counts 0 (reports b).unsent (reports c).unsent → Sending reports xid call answer a c
one_sending reports xid call datagram answer a b c same sent quiet first second answered unsent failed none =
    record {
      behind = b;
      sent = subst (λ (d : List ℕ). Sends (reports a).sent (reports b).sent (d ∷ [])) same sent;
      none_received = quiet;
      none_sent = unsent;
      answered = answered;
      failed = Counts-trans _ _ _ 0 (read_failures answer) (read_failures answer) (omega arith) first failed;
      none_failed = Counts-trans _ _ _ 0 0 0 refl second none;
    }

-- one more sending that no reply answered
pub unanswered_more : {P : Type 0} (reports : P → Reporting) (xid : ℕ) (call : List ℕ) (n : ℕ)
    (answer : Result Reply ClientFault) (a b c : P) → Unanswered reports xid call n a b → answer ≡ Err fault.Read
    → Sending reports xid call answer b c → Unanswered reports xid call (n + 1) a c
unanswered_more reports xid call n answer a b c before none one =
    let next : suc n ≡ n + 1 = omega arith in
    subst (λ (k : ℕ). Unanswered reports xid call k a c) next (
      b,
      before,
      subst (λ (r : Result Reply ClientFault). Sending reports xid call r b c) none one,
    )

-- the last sending, behind those that no reply answered
pub answered_last : {P : Type 0} (reports : P → Reporting) (xid : ℕ) (call : List ℕ) (n : ℕ)
    (answer : Result Reply ClientFault) (a b c : P) → Unanswered reports xid call n a b
    → Sending reports xid call answer b c → Sendings reports xid call (n + 1) a c answer
answered_last reports xid call n answer a b c before one =
    record { earlier = n; before = b; unanswered = before; last = inl (refl, one) }

-- a call that could not be made
pub never_sent : {P : Type 0} (reports : P → Reporting) (xid : ℕ) (call : List ℕ) (a : P)
    → Sendings reports xid call 0 a a (Err fault.NoMemory)
never_sent reports xid call a = record {
  earlier = 0;
  before = a;
  unanswered = refl;
  last = inr (refl, record { why = inl (refl, refl); sent = Sends-none _; received = Receives-none _ });
}

-- a call that could not be sent once more
pub not_sent_again : {P : Type 0} (reports : P → Reporting) (xid : ℕ) (call : List ℕ) (n : ℕ) (a b c : P)
    → Unanswered reports xid call n a b → Sends (reports b).sent (reports c).sent []
    → Receives (reports b).left (reports c).left [] → Sendings reports xid call n a c (Err (fault.Write 0))
not_sent_again reports xid call n a b c before unsent quiet = record {
  earlier = n;
  before = b;
  unanswered = before;
  last = inr (refl, record { why = inr refl; sent = unsent; received = quiet });
}

-- a call to which nothing came: the last failed receive is what the answer speaks of
pub none_answered : {P : Type 0} (reports : P → Reporting) (xid : ℕ) (call : List ℕ) (n : ℕ) (a b : P) → 1 ≤ n
    → Unanswered reports xid call n a b → Sendings reports xid call n a b (Err fault.Read)
none_answered reports xid call zero a b some u = absurd (omega (arith, some))
none_answered reports xid call (suc n) a b some u =
    let next : suc n ≡ n + 1 = omega arith in
    record { earlier = n; before = u.0; unanswered = u.1; last = inl (next, u.2) }
