-- Connections one after another, and their lines.
use Rattle.std.proofs.Common.{◌≡◌, ℕ, ◌+◌, ◌<◌, List, [], ◌∷◌, ◌++◌, length, Option}
use Rattle.std.proofs.Common.{codes, decimal, Result, Ok, Err, IfOk, IfErr, OnOk, refl, ap, sym, ◌∙◌, subst, arith}
use Rattle.std.proofs.Common.{append_assoc, length-append}
use Rattle.std.proofs.lemmas.List.{append-nil}
use Rattle.std.specs.Io.KnownBytes.{Appends}
use Rattle.xdr_io.specs.Reported.{Counts}
use Rattle.xdr_io.proofs.Chained.{Appends-trans, Counts-trans, Counts-none}
use Rattle.rpc_record.specs.declared.fault.RecordFault.TheVariants as flaw
use Rattle.registry_rows.specs.Rows.{Row}
use Rattle.registry_rows.specs.Ports.{tcp}
use Rattle.rpc_engine.specs.declared.fault.ServeFault.TheVariants as fault
use Rattle.rpc_engine.specs.Served.{Serves, Stops}
use Rattle.oncrpc_service.specs.Listening.{Clients, clients_of, Arrives, IsFresh, Leaves}
use Rattle.oncrpc_answers.specs.declared.failure.Failure.TheVariants as failure
use Rattle.oncrpc_service.specs.declared.serving.Stop.{Stop}
use Rattle.oncrpc_service.specs.declared.serving.Stop.TheVariants as stop
use Rattle.oncrpc_service.specs.Connections.{Outcome, Answers, ServesEach, ServesNext, connection_line}
use Rattle.oncrpc_service.specs.Connections.{connection_lines, listening_line, printed}
use Rattle.oncrpc_service.specs.ServeEnds.{Post, clients, HasServed, HasStopped, HasServedOne, LinePrints}
use Rattle.oncrpc_service.specs.ServeEnds.{StopsOne}
use Rattle.oncrpc_service.specs.Written.{InPart}
use Rattle.oncrpc_service.proofs.Texts.{begun, in_part_then, numbered_then}

-- ---- texts

-- the lines of one more connection
printed_then : (port n : ℕ) (os : List Outcome) (o : Outcome) → length os ≡ n
    → printed port os ++ connection_line (n + 1) o ≡ printed port (os ++ o ∷ [])
printed_then port n os o e =
    let number : n + 1 ≡ 1 + length os = omega (arith, e) in
    append_assoc (listening_line port) (connection_lines 1 os) _
    ∙ ap (λ (k : ℕ). listening_line port ++ (connection_lines 1 os ++ connection_line k o)) number
    ∙ ap (λ (z : List ℕ). listening_line port ++ z) (numbered_then connection_line 1 os o)

-- ---- connections

each_then : {W : Type 0} (went : W → Option (List ℕ)) (rows mid new : List Row) (a b c : Clients)
    (os : List Outcome) (o : Outcome)
    → ServesEach went rows a os mid b → ServesNext went mid new b c o → ServesEach went rows a (os ++ o ∷ []) new c
each_then went rows mid new a b c [] o each next =
    let first = subst (λ (r : List Row). ServesNext went r new b c o) each.0 next in
    (new, (c, (subst (λ (w : Clients). ServesNext went rows new w c o) each.1 first, (refl, refl))))
each_then went rows mid new a b c (p ∷ os) o each next =
    (each.0, (each.1.0, (each.1.1.0, each_then went each.0 mid new each.1.0 b c os o each.1.1.1 next)))

-- where what waits and what was sent stay, so do the clients
same_clients : {L W O : Type 0} (post : Post L W O) (m k : L) → post.waiting k ≡ post.waiting m
    → post.sent k ≡ post.sent m → clients post k ≡ clients post m
same_clients post m k waits sends =
    ap (λ (w : Option (List (List ℕ))). clients_of w (post.sent k)) waits
    ∙ ap (λ (s : Option (List (List ℕ))). clients_of (post.waiting m) s) sends

pub begins : {L W O : Type 0} (post : Post L W O) (rows : List Row) (l : L) (o o' : O)
    → Appends (post.taken o) (post.taken o') (listening_line (post.port l)) → Counts 0 (post.lost o) (post.lost o')
    → HasServed 0 post rows rows l l o o'
begins post rows l o o' line unlost = record {
  outcomes = [];
  served = (refl, refl);
  counted = refl;
  lines = subst (Appends (post.taken o) (post.taken o')) (sym (append-nil (listening_line (post.port l)))) line;
  unlost = unlost;
  unrefused = Counts-none (post.refused l);
}

pub begins_not : {L W O : Type 0} (post : Post L W O) (rows : List Row) (l : L) (o o' : O) (count : ℕ) (why : Stop)
    → LinePrints (listening_line (post.port l)) (post.taken o) (post.taken o') (post.lost o) (post.lost o') (Err why)
    → HasStopped count post rows rows l l o o' why
begins_not post rows l o o' count stop.NoConnection p = absurd p
begins_not post rows l o o' count (stop.Failed failure.Read) p = absurd p
begins_not post rows l o o' count (stop.Failed failure.TooManyReads) p = absurd p
begins_not post rows l o o' count (stop.Failed failure.Write) p = record {
  outcomes = [];
  served = (refl, refl);
  few = omega arith;
  stops = (
    subst (λ (z : List ℕ). InPart z (post.taken o) (post.taken o'))
        (sym (append-nil (listening_line (post.port l)))) p.0,
    p.1,
  );
}
begins_not post rows l o o' count (stop.Failed failure.NoMemory) p = record {
  outcomes = [];
  served = (refl, refl);
  few = omega arith;
  stops = subst (λ (z : List ℕ). InPart z (post.taken o) (post.taken o'))
      (sym (append-nil (listening_line (post.port l)))) p;
}

pub goes_on : {L W O : Type 0} (post : Post L W O) (rows mid new : List Row) (l m k : L) (o p q : O) (n : ℕ)
    → HasServed n post rows mid l m o p → HasServedOne (n + 1) post mid new m k p q
    → HasServed (n + 1) post rows new l k o q
goes_on post rows mid new l m k o p q n done one =
    let counted = done.counted in
    let longer : length (done.outcomes ++ one.outcome ∷ []) ≡ length done.outcomes + 1 =
    length-append done.outcomes (one.outcome ∷ []) in
    record {
      outcomes = done.outcomes ++ one.outcome ∷ [];
      served = each_then post.went rows mid new _ _ _ done.outcomes one.outcome done.served one.served;
      counted = omega (arith, longer, counted);
      lines = Appends-trans _ _ _ _ _ _ (printed_then (post.port l) n done.outcomes one.outcome counted)
          done.lines one.line;
      unlost = Counts-trans _ _ _ 0 0 0 refl done.unlost one.unlost;
      unrefused = Counts-trans _ _ _ 0 0 0 refl done.unrefused one.unrefused;
    }

pub stops_on : {L W O : Type 0} (post : Post L W O) (rows mid new : List Row) (l m k : L) (o p q : O) (n count : ℕ)
    (why : Stop) → n < count → HasServed n post rows mid l m o p → StopsOne (n + 1) post mid new m k p q why
    → HasStopped count post rows new l k o q why
stops_on {O = O} post rows mid new l m k o p q n count stop.NoConnection few done one =
    let counted = done.counted in
    record {
      outcomes = done.outcomes;
      served = subst (λ (r : List Row). ServesEach post.went rows (clients post l) done.outcomes r (clients post k))
          (sym one.same)
          (subst (λ (w : Clients). ServesEach post.went rows (clients post l) done.outcomes mid w)
          (sym (same_clients post m k one.waiting one.sent)) done.served);
      few = omega (arith, counted, few);
      stops = (
        omega (arith, counted, few),
        Counts-trans _ _ _ 0 1 1 refl done.unrefused one.refused,
        subst (λ (x : O). Appends (post.taken o) (post.taken x) (printed (post.port l) done.outcomes))
            (sym one.unprinted) done.lines,
      );
    }
stops_on post rows mid new l m k o p q n count (stop.Failed failure.Read) few done one = absurd one.stops
stops_on post rows mid new l m k o p q n count (stop.Failed failure.TooManyReads) few done one = absurd one.stops
stops_on post rows mid new l m k o p q n count (stop.Failed failure.Write) few done one =
    let counted = done.counted in
    let longer : length (done.outcomes ++ one.outcome ∷ []) ≡ length done.outcomes + 1 =
    length-append done.outcomes (one.outcome ∷ []) in
    record {
      outcomes = done.outcomes ++ one.outcome ∷ [];
      served = each_then post.went rows mid new _ _ _ done.outcomes one.outcome done.served one.served;
      few = omega (arith, longer, counted, few);
      stops = (
        subst (λ (z : List ℕ). InPart z (post.taken o) (post.taken q))
            (printed_then (post.port l) n done.outcomes one.outcome counted)
            (in_part_then _ _ _ _ _ done.lines one.stops.0),
        Counts-trans _ _ _ 0 1 1 refl done.unlost one.stops.1,
      );
    }
stops_on post rows mid new l m k o p q n count (stop.Failed failure.NoMemory) few done one =
    let counted = done.counted in
    let longer : length (done.outcomes ++ one.outcome ∷ []) ≡ length done.outcomes + 1 =
    length-append done.outcomes (one.outcome ∷ []) in
    record {
      outcomes = done.outcomes ++ one.outcome ∷ [];
      served = each_then post.went rows mid new _ _ _ done.outcomes one.outcome done.served one.served;
      few = omega (arith, longer, counted, few);
      stops = subst (λ (z : List ℕ). InPart z (post.taken o) (post.taken q))
          (printed_then (post.port l) n done.outcomes one.outcome counted)
          (in_part_then _ _ _ _ _ done.lines one.stops);
    }

-- ---- one connection

pub next_served : {W : Type 0} (went : W → Option (List ℕ)) (rows new : List Row)
    (waiting came waiting' sent began sent' : Option (List (List ℕ))) (left left' : Option (List ℕ))
    (writer writer' : W) (o : Outcome) → Arrives waiting came left → IsFresh sent (went writer) → began ≡ sent
    → waiting' ≡ came → Leaves began sent' (went writer')
    → IfOk o (λ s. Serves tcp rows new left left' (went writer) (went writer') s)
    → IfErr o (λ f. Stops tcp rows new left left' (went writer) (went writer') f)
    → ServesNext went rows new (clients_of waiting sent) (clients_of waiting' sent') o
next_served went rows new waiting came waiting' sent began sent' left left' writer writer' o arrived fresh same stays
    leaves served stopped =
    by o served stopped
  where
    next : (o : Outcome) → Answers rows new left left' (went writer) (went writer') o
        → ServesNext went rows new (clients_of waiting sent) (clients_of waiting' sent') o
    next o answered = record {
      left = left;
      left' = left';
      writer = writer;
      writer' = writer';
      arrived = subst (λ (w : Option (List (List ℕ))). Arrives waiting w left) (sym stays) arrived;
      fresh = fresh;
      answered = answered;
      ended = subst (λ (s : Option (List (List ℕ))). Leaves s sent' (went writer')) same leaves;
    }

    by : (o : Outcome) → IfOk o (λ s. Serves tcp rows new left left' (went writer) (went writer') s)
        → IfErr o (λ f. Stops tcp rows new left left' (went writer) (went writer') f)
        → ServesNext went rows new (clients_of waiting sent) (clients_of waiting' sent') o
    by (Ok s) served stopped = next (Ok s) served
    by (Err f) served stopped = next (Err f) stopped

pub one_served : {L W O : Type 0} (post : Post L W O) (n : ℕ) (rows new : List Row) (l m : L) (o p : O) (x : Outcome)
    (r : Result (Unit {0}) Stop) → ServesNext post.went rows new (clients post l) (clients post m) x
    → Counts 0 (post.refused l) (post.refused m)
    → LinePrints (connection_line n x) (post.taken o) (post.taken p) (post.lost o) (post.lost p) r
    → OnOk r (HasServedOne n post rows new l m o p)
one_served post n rows new l m o p x (Ok u) next unrefused line =
    record { outcome = x; served = next; line = line.0; unlost = line.1; unrefused = unrefused }
one_served post n rows new l m o p x (Err why) next unrefused line = tt

pub one_stopped : {L W O : Type 0} (post : Post L W O) (n : ℕ) (rows new : List Row) (l m : L) (o p : O) (x : Outcome)
    (r : Result (Unit {0}) Stop) → ServesNext post.went rows new (clients post l) (clients post m) x
    → LinePrints (connection_line n x) (post.taken o) (post.taken p) (post.lost o) (post.lost p) r
    → IfErr r (λ why. StopsOne n post rows new l m o p why)
one_stopped post n rows new l m o p x (Ok u) next line = tt
one_stopped post n rows new l m o p x (Err stop.NoConnection) next line = absurd line
one_stopped post n rows new l m o p x (Err (stop.Failed f)) next line =
    record { outcome = x; served = next; stops = line }

-- a line has some bytes
pub line_is_some : (n : ℕ) (o : Outcome) → 0 < length (connection_line n o)
line_is_some n (Ok s) = omega arith
line_is_some n (Err (fault.Record (flaw.TooLong at))) = omega arith
line_is_some n (Err (fault.Record (flaw.Truncated at))) = omega arith
line_is_some n (Err (fault.Record flaw.Read)) = omega arith
line_is_some n (Err (fault.Record (flaw.Write w))) = omega arith
line_is_some n (Err (fault.Record flaw.TooManyReads)) = omega arith
line_is_some n (Err (fault.Record flaw.NoMemory)) = omega arith
line_is_some n (Err fault.Read) = omega arith
line_is_some n (Err (fault.Write w)) = omega arith
line_is_some n (Err fault.TooManyReads) = omega arith
line_is_some n (Err fault.NoMemory) = omega arith

pub listening_is_some : (port : ℕ) → 0 < length (listening_line port)
listening_is_some port = begun (codes "listening on 127.0.0.1 ") (decimal port ++ codes "\n") (omega arith)
