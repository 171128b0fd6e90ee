-- Datagrams that are answered where none is to be, none comes, or one that is no call; what asking by a datagram sends.
use Rattle.std.proofs.Common.{◌≡◌, ℕ, ◌≤◌, ◌⊎◌, inl, inr, List, [], ◌∷◌, ◌++◌, length, Option}
use Rattle.std.proofs.Common.{Some, None, ◌==◌, if◌then◌else◌}
use Rattle.std.proofs.Common.{Result, Ok, Err, codes, decimal, suc, get_or, refl, ap, sym, ◌∙◌, subst, arith}
use Rattle.std.proofs.lemmas.List.{nil_from_length}
use Rattle.std.specs.Fmt.{digits}
use Rattle.rpc_message.specs.declared.message.Reply.{Reply}
use Rattle.rpc_message.specs.Cases.{NoTwoCases}
use Rattle.registry_rows.specs.Rows.{Row}
use Rattle.registry_rows.specs.Ports.{udp}
use Rattle.registry_answer.specs.Answer.{Answer}
use Rattle.registry_answer.proofs.Cases.{silent}
use Rattle.rpc_engine.specs.declared.fault.ClientFault.{ClientFault}
use Rattle.rpc_engine.specs.declared.fault.ClientFault.TheVariants as fault
use Rattle.rpc_engine.specs.declared.fault.DatagramFault.TheVariants as broken
use Rattle.rpc_engine.specs.DatagramExchange.{ExchangesDatagram}
use Rattle.rpc_engine.specs.Datagrams.{ServesDatagrams, NotSent}
use Rattle.rpc_engine.specs.Ports.{Reported, Receives, Sends as IsSent}
use Rattle.rpc_engine.specs.Run.{Run}
use Rattle.rpc_engine.proofs.Runs.{run_silent}
use Rattle.rpc_engine.specs.declared.fault.Served.{Served}
use Rattle.rpc_record.specs.Reading.{capped}
use Rattle.oncrpc_service.specs.Datagrams.{Ended, FinishesEach, Reporting, datagram_lines}
use Rattle.oncrpc_service.specs.Infos.{Reports}

-- no datagram leaves all as it was
pub none_answered : (rows new : List Row) (old now : Reporting) (es : List Ended) → length es ≤ 0
    → FinishesEach rows old es new now → (new ≡ rows) × (now ≡ old)
none_answered rows new old now [] few f = f
none_answered rows new old now (e ∷ es) few f = absurd (omega (arith, few))

pub no_lines : (es : List Ended) → length es ≤ 0 → datagram_lines es ≡ []
no_lines [] few = refl
no_lines (e ∷ es) few = absurd (omega (arith, few))

-- ---- what a port gives of which nothing, or one datagram without bytes, is left

none_received : (left : Reported) (d : List ℕ) (ds : List (List ℕ)) → Receives (Some []) left (d ∷ ds) → ⊥
none_received None d ds h = h
none_received (Some rest) d ds h = let e : 0 ≡ suc (length (ds ++ rest)) = ap length h in omega (arith, e)

empty_front : (left : Reported) (ds : List (List ℕ)) → Receives (Some []) left ds → ds ≡ []
empty_front left [] h = refl
empty_front left (d ∷ ds) h = absurd (none_received left d ds h)

then_none : (mid left : Reported) (d : List ℕ) → Receives (Some []) mid [] → Receives mid left (d ∷ []) → ⊥
then_none None left d h k = h
then_none (Some rest) left d h k =
    none_received left d [] (subst (λ (r : List (List ℕ)). Receives (Some r) left (d ∷ [])) (sym h) k)

one_front : (left : Reported) (ds : List (List ℕ)) → length ds ≡ 1 → Receives (Some ([] ∷ [])) left ds → ds ≡ [] ∷ []
one_front None ds one h = absurd h
one_front (Some rest) [] one h = absurd (omega (arith, one))
one_front (Some rest) (d ∷ []) one h =
    ap (λ (x : List ℕ). x ∷ []) (sym (ap (λ (l : List (List ℕ)). get_or l 0 []) h))
one_front (Some rest) (d ∷ c ∷ ds) one h = absurd (omega (arith, one))

then_one : (mid left : Reported) (d : List ℕ) → Receives (Some ([] ∷ [])) mid [] → Receives mid left (d ∷ []) → d ≡ []
then_one None left d h k = absurd h
then_one (Some rest) left d h k =
    let front = one_front left (d ∷ []) refl
    (subst (λ (r : List (List ℕ)). Receives (Some r) left (d ∷ [])) (sym h) k) in
    ap (λ (l : List (List ℕ)). get_or l 0 []) front

not_served_none : (rows new : List Row) (left left' sent sent' : Reported) (s : Served) → left ≡ Some []
    → ServesDatagrams 1 rows new left left' sent sent' s → ⊥
not_served_none rows new left left' sent sent' s none h =
    let no = empty_front left' h.datagrams
    (subst (λ (t : Reported). Receives t left' h.datagrams) none h.finished.received) in
    let n : length h.datagrams ≡ 0 = ap length no in
    let all = h.all in
    omega (arith, n, all)

not_sent_none : (done : ℕ) (rows new : List Row) (left left' sent sent' : Reported) → left ≡ Some []
    → NotSent 1 done rows new left left' sent sent' → ⊥
not_sent_none done rows new left left' sent sent' none h =
    let first = subst (λ (t : Reported). Receives t h.waiting h.datagrams) none h.finished.received in
    let no = empty_front h.waiting h.datagrams first in
    then_none h.waiting left' h.answering
    (subst (λ (ds : List (List ℕ)). Receives (Some []) h.waiting ds) no first) h.received

-- where none is left the one that is to be answered is not received
pub one_unreceived : (rows new : List Row) (old now : Reporting) (es : List Ended) → old.left ≡ Some [] → length es ≡ 1
    → FinishesEach rows old es new now → datagram_lines es ≡ codes "datagram 1: Read\n"
unfolding digits
one_unreceived rows new old now [] none one f = absurd (omega (arith, one))
one_unreceived rows new old now (Err (broken.Read done) ∷ []) none one f = refl
one_unreceived rows new old now (Err (broken.Write done) ∷ []) none one f =
    absurd (not_sent_none done rows f.0 old.left f.1.0.left old.sent f.1.0.sent none f.1.1.0.0)
one_unreceived rows new old now (Ok s ∷ []) none one f =
    absurd (not_served_none rows f.0 old.left f.1.0.left old.sent f.1.0.sent s none f.1.1.0.0)
one_unreceived rows new old now (e ∷ d ∷ es) none one f = absurd (omega (arith, one))

-- ---- silence

abbrev HasOne : {A : Type 0} → Option A → Type 0
HasOne None = ⊥
HasOne (Some x) = Unit {0}

no_reply_line : (s : Served) → s.replies ≡ 0 → datagram_lines (Ok s ∷ []) ≡ codes "datagram 1: no reply\n"
unfolding digits
no_reply_line s zero =
    ap (λ (n : ℕ). (if n == 0 then codes "datagram " ++ decimal 1 ++ codes ": no reply\n"
    else codes "datagram " ++ decimal 1 ++ codes ": reply\n") ++ []) zero

served_silent : NoTwoCases → (rows new : List Row) (left left' sent sent' : Reported) (s : Served)
    → left ≡ Some ([] ∷ []) → ServesDatagrams 1 rows new left left' sent sent' s → s.replies ≡ 0
served_silent cases rows new left left' sent sent' s is h =
    let front = one_front left' h.datagrams h.all
    (subst (λ (t : Reported). Receives t left' h.datagrams) is h.finished.received) in
    let none = run_silent cases rows new udp h.finished.refusals h.replies
    (subst (λ (ds : List (List ℕ)). Run rows udp ds h.finished.refusals new h.replies) front h.finished.run) in
    h.counted.answered ∙ ap (λ (rs : List (List ℕ)). capped (length rs)) none.1

not_unsent_silent : NoTwoCases → (done : ℕ) (rows new : List Row) (left left' sent sent' : Reported)
    → left ≡ Some ([] ∷ []) → NotSent 1 done rows new left left' sent sent' → ⊥
not_unsent_silent cases done rows new left left' sent sent' is h =
    let few = h.few in
    let many = h.so_many in
    let no = nil_from_length h.datagrams (omega (arith, few, many)) in
    let first = subst (λ (ds : List (List ℕ)). Receives (Some ([] ∷ [])) h.waiting ds) no
    (subst (λ (t : Reported). Receives t h.waiting h.datagrams) is h.finished.received) in
    let empty = then_one h.waiting left' h.answering first h.received in
    let none = silent h.mid udp cases [] tt h.refused new (Some h.unsent)
    (subst (λ (d : List ℕ). Answer h.mid udp d h.refused new (Some h.unsent)) empty h.answer) (inl (omega arith)) in
    subst (λ (o : Option (List ℕ)). HasOne o) none.1 tt

-- where one that is no call is left, its line says that there is no reply, or that it was not received
pub one_silent : NoTwoCases → (rows new : List Row) (old now : Reporting) (es : List Ended)
    → old.left ≡ Some ([] ∷ []) → length es ≡ 1 → FinishesEach rows old es new now
    → (datagram_lines es ≡ codes "datagram 1: no reply\n") ⊎ (datagram_lines es ≡ codes "datagram 1: Read\n")
unfolding digits
one_silent cases rows new old now [] is one f = absurd (omega (arith, one))
one_silent cases rows new old now (Err (broken.Read done) ∷ []) is one f = inr refl
one_silent cases rows new old now (Err (broken.Write done) ∷ []) is one f =
    absurd (not_unsent_silent cases done rows f.0 old.left f.1.0.left old.sent f.1.0.sent is f.1.1.0.0)
one_silent cases rows new old now (Ok s ∷ []) is one f =
    inl (no_reply_line s (served_silent cases rows f.0 old.left f.1.0.left old.sent f.1.0.sent s is f.1.1.0.0))
one_silent cases rows new old now (e ∷ d ∷ es) is one f = absurd (omega (arith, one))

-- ---- asking by a datagram

-- where an answer is printed the call was sent
pub whole_datagram : (vers status : ℕ) (text bytes : List ℕ) (left left' sent sent' : Reported)
    (answer : Result Reply ClientFault) → Reports vers answer status text
    → ExchangesDatagram 1 bytes left left' sent sent' answer → IsSent sent sent' (bytes ∷ [])
whole_datagram vers status text bytes left left' sent sent' (Ok reply) t h = h.0
whole_datagram vers status text bytes left left' sent sent' (Err (fault.Record f)) t h = h.0
whole_datagram vers status text bytes left left' sent sent' (Err fault.Read) t h = absurd t.1
whole_datagram vers status text bytes left left' sent sent' (Err (fault.Write written)) t h = absurd t.1
whole_datagram vers status text bytes left left' sent sent' (Err (fault.Reply f)) t h = h.0
whole_datagram vers status text bytes left left' sent sent' (Err (fault.WrongXid got)) t h = h.0
whole_datagram vers status text bytes left left' sent sent' (Err fault.TooManyReads) t h = absurd t.1
whole_datagram vers status text bytes left left' sent sent' (Err fault.NoMemory) t h = absurd t.1

pub all_sent : (d : List ℕ) (sent sent' : Reported) → sent ≡ Some [] → IsSent sent sent' (d ∷ [])
    → sent' ≡ Some (d ∷ [])
all_sent d sent None e h = absurd (subst (λ (t : Reported). IsSent t None (d ∷ [])) e h)
all_sent d sent (Some all) e h = ap Some (subst (λ (t : Reported). IsSent t (Some all) (d ∷ [])) e h)

-- where none is left no answer is printed
pub not_reported : (vers status : ℕ) (text bytes : List ℕ) (left left' sent sent' : Reported)
    (answer : Result Reply ClientFault) → left ≡ Some [] → Reports vers answer status text
    → ExchangesDatagram 1 bytes left left' sent sent' answer → ⊥
not_reported vers status text bytes left left' sent sent' (Ok reply) none t h =
    none_received left' h.1.0 [] (subst (λ (l : Reported). Receives l left' (h.1.0 ∷ [])) none h.1.1.0)
not_reported vers status text bytes left left' sent sent' (Err (fault.Record f)) none t h = h.1.1.1
not_reported vers status text bytes left left' sent sent' (Err fault.Read) none t h = t.1
not_reported vers status text bytes left left' sent sent' (Err (fault.Write written)) none t h = t.1
not_reported vers status text bytes left left' sent sent' (Err (fault.Reply f)) none t h =
    none_received left' h.1.0 [] (subst (λ (l : Reported). Receives l left' (h.1.0 ∷ [])) none h.1.1.0)
not_reported vers status text bytes left left' sent sent' (Err (fault.WrongXid got)) none t h =
    none_received left' h.1.0 [] (subst (λ (l : Reported). Receives l left' (h.1.0 ∷ [])) none h.1.1.0)
not_reported vers status text bytes left left' sent sent' (Err fault.TooManyReads) none t h = t.1
not_reported vers status text bytes left left' sent sent' (Err fault.NoMemory) none t h = t.1
