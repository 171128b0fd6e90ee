-- What the datagrams of the examples come to.
use Rattle.std.proofs.Common.{◌≡◌, ◌≢◌, ℕ, Bool, List, [], ◌∷◌, length, Some, None}
use Rattle.std.proofs.Common.{Result, Ok, Err}
use Rattle.std.proofs.Common.{refl, sym, ap, ◌∙◌, subst, arith, IfOk, IfErr, OnOk, IsOk, IsErr, take}
use Rattle.std.proofs.lemmas.List.{nil_from_length}
use Rattle.rpc_message.specs.declared.fault.ReplyFault.{ReplyFault}
use Rattle.rpc_message.specs.declared.message.Reply.{Reply}
use Rattle.rpc_message.specs.Cases.{NoTwoCases}
use Rattle.rpc_message.specs.View.{reply_view}
use Rattle.registry_rows.specs.Rows.{Row}
use Rattle.registry_rows.specs.Ports.{udp}
use Rattle.rpc_engine.specs.declared.fault.ClientFault.{ClientFault}
use Rattle.rpc_engine.specs.declared.fault.ClientFault.TheVariants as fault
use Rattle.rpc_engine.specs.declared.fault.DatagramFault.{DatagramFault}
use Rattle.rpc_engine.specs.declared.fault.DatagramFault.TheVariants as datagram_fault
use Rattle.rpc_engine.specs.declared.fault.Served.{Served}
use Rattle.rpc_engine.specs.Datagrams.{ServesDatagrams, StopsDatagrams}
use Rattle.rpc_engine.specs.DatagramExchange.{ExchangesDatagram, OwnReply, OtherReply, NotReply, IsMessageCase}
use Rattle.rpc_engine.specs.Laws.{OneCase}
use Rattle.rpc_engine.specs.Ports.{Reported, Receives, Sends, pieces, received_from}
use Rattle.rpc_engine.specs.declared.memory_port.MemoryPort.{MemoryPort}
use Rattle.rpc_engine.specs.Run.{Run}
use Rattle.rpc_engine.proofs.Runs.{run_silent}
use Rattle.example_registry.proofs.Replies.{two, two_reply, two_spelled}

-- what a port over memory tells
abbrev pub left_of : MemoryPort → Reported
left_of port = Some (received_from port.next port.waiting.now)

abbrev pub sent_of : MemoryPort → Reported
sent_of port = Some (pieces (take port.count port.sizes.now) port.buffer.now)

-- ---- no datagram

none_run : (rows new : List Row) (ys : List Bool) (replies : List (List ℕ)) → Run rows udp [] ys new replies
    → (new ≡ rows) × (replies ≡ [])
none_run rows new [] replies h = h
none_run rows new (y ∷ ys) replies h = absurd h

-- nothing was received or sent, and the rows stay
abbrev pub IsStill : List Row → List Row → Reported → Reported → Reported → Reported → Type 0
IsStill rows new l m s t = (new ≡ rows) × Receives l m [] × Sends s t []

module _ (rows new : List Row) (l m s t : Reported) where
  still : (ds replies : List (List ℕ)) (ys : List Bool) → length ds ≡ 0 → Receives l m ds
      → Run rows udp ds ys new replies → Sends s t replies → IsStill rows new l m s t
  still ds replies ys e h run k =
      let none = nil_from_length ds e in
      let r = none_run rows new ys replies (subst (λ d. Run rows udp d ys new replies) none run) in
      (r.0, subst (λ d. Receives l m d) none h, subst (λ d. Sends s t d) r.1 k)

  pub none_served : (result : Result Served DatagramFault)
      → IfOk result (λ served. ServesDatagrams 0 rows new l m s t served)
      → IfErr result (λ f. StopsDatagrams 0 rows new l m s t f)
      → IsOk result × IfOk result (λ served. (served.records ≡ 0) × (served.replies ≡ 0)) × IsStill rows new l m s t
  none_served (Ok served) h k =
      let f = h.finished in
      let ds = nil_from_length h.datagrams h.all in
      let replies = (none_run rows new f.refusals h.replies
      (subst (λ d. Run rows udp d f.refusals new h.replies) ds f.run)).1 in (
        refl,
        (omega (arith, h.counted.records, h.all), omega (arith, h.counted.answered, ap length replies)),
        still h.datagrams h.replies f.refusals h.all f.received f.run f.sends,
      )
  none_served (Err (datagram_fault.Read done)) h k = absurd (omega (arith, k.few))
  none_served (Err (datagram_fault.Write done)) h k = absurd (omega (arith, k.few))

  pub none_came : (result : Result Served DatagramFault) → IfErr result (λ f. StopsDatagrams 2 rows new l m s t f)
      → result ≡ Err (datagram_fault.Read 0) → IsStill rows new l m s t
  none_came result k e =
      let h = subst (λ r. IfErr r (λ f. StopsDatagrams 2 rows new l m s t f)) e k in
      still h.datagrams h.replies h.finished.refusals h.so_many h.finished.received h.finished.run h.finished.sends

-- ---- a datagram that is reported

reported_first : (l m : Reported) (d : List ℕ) (more ds : List (List ℕ)) → l ≡ Some (d ∷ more) → length ds ≡ 1
    → Receives l m ds → ds ≡ d ∷ []
reported_first None m d more ds e n h = absurd (apart e)
  where
    apart : ◌≡◌ {A = Reported} None (Some (d ∷ more)) → ⊥
    apart e = cc
reported_first (Some all) None d more ds e n h = absurd h
reported_first (Some all) (Some rest) d more [] e n h = absurd (omega (arith, n))
reported_first (Some all) (Some rest) d more (x ∷ y ∷ ds) e n h = absurd (omega (arith, n))
reported_first (Some all) (Some rest) d more (x ∷ []) e n h = ap (λ k. k ∷ []) (same (sym h ∙ inside e))
  where
    inside : Some all ≡ Some (d ∷ more) → all ≡ d ∷ more
    inside e = cc

    same : x ∷ rest ≡ d ∷ more → x ≡ d
    same e = cc

-- ---- an empty datagram

module _ (cases : NoTwoCases) where
  module _ (rows new : List Row) (l m s t : Reported) (reported : l ≡ Some ([] ∷ [])) where
    pub silent_served : (result : Result Served DatagramFault)
        → IfOk result (λ served. ServesDatagrams 1 rows new l m s t served)
        → IfOk result (λ served. (served.records ≡ 1) × (served.replies ≡ 0)) × OnOk result (new ≡ rows)
    silent_served (Err f) h = (tt, tt)
    silent_served (Ok served) h =
        let f = h.finished in
        let one = reported_first l m [] [] h.datagrams reported h.all f.received in
        let r = run_silent cases rows new udp f.refusals h.replies
        (subst (λ d. Run rows udp d f.refusals new h.replies) one f.run) in
        ((omega (arith, h.counted.records, h.all), omega (arith, h.counted.answered, ap length r.1)), r.0)

-- ---- the reply to a call with xid 2

other_case : IsMessageCase 1 two (OtherReply 2)
other_case = ((two_reply, (two_spelled, refl)), λ e. omega (arith, e))

module _ (one : OneCase) (call : List ℕ) (l m s t : Reported) (reported : l ≡ Some (two ∷ [])) (xid : ℕ) (is : xid ≡ 1)
    (result : Result Reply ClientFault) (h : ExchangesDatagram xid call l m s t result) where
  came : (message : List ℕ) → Receives l m (message ∷ []) → message ≡ two
  came message h = same (reported_first l m two [] (message ∷ []) reported refl h)
    where
      same : message ∷ [] ≡ two ∷ [] → message ≡ two
      same e = cc

  says : (r : Result Reply ClientFault) → result ≡ r → ExchangesDatagram 1 call l m s t r
  says r e = subst (λ n. ExchangesDatagram n call l m s t r) is (subst (λ k. ExchangesDatagram xid call l m s t k) e h)

  pub other_two : (got : ℕ) → result ≡ Err (fault.WrongXid got) → got ≡ 2
  other_two got e =
      let x = says (Err (fault.WrongXid got)) e in
      same (one 1 two (OtherReply got) (OtherReply 2)
      (subst (λ d. IsMessageCase 1 d (OtherReply got)) (came x.1.0 x.1.1.0) x.1.1.1) other_case)
    where
      same : OtherReply got ≡ OtherReply 2 → got ≡ 2
      same e = cc

  pub is_reply : (f : ReplyFault) → result ≢ Err (fault.Reply f)
  is_reply f e =
      let x = says (Err (fault.Reply f)) e in
      apart (one 1 two NotReply (OtherReply 2)
      (subst (λ d. IsMessageCase 1 d NotReply) (came x.1.0 x.1.1.0) x.1.1.1.0) other_case)
    where
      apart : NotReply ≡ OtherReply 2 → ⊥
      apart e = cc

  not_own : (reply : Reply) → result ≡ Ok reply → ⊥
  not_own reply e =
      let x = says (Ok reply) e in
      apart (one 1 two (OwnReply (reply_view reply)) (OtherReply 2)
      (subst (λ d. IsMessageCase 1 d (OwnReply (reply_view reply))) (came x.1.0 x.1.1.0) x.1.1.1) other_case)
    where
      apart : OwnReply (reply_view reply) ≡ OtherReply 2 → ⊥
      apart e = cc

  pub is_err : IsErr result
  is_err = by result refl
    where
      by : (r : Result Reply ClientFault) → result ≡ r → IsErr r
      by (Err f) e = refl
      by (Ok reply) e = absurd (not_own reply e)
