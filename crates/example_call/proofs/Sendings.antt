-- What a call by datagrams sends and receives.
use Rattle.std.proofs.Common.{◌≡◌, ℕ, ◌≤◌, ◌⊎◌, inl, inr, List, [], ◌∷◌, ◌++◌, Some, None}
use Rattle.std.proofs.Common.{Result, Ok, Err, ap, refl, sym, subst, arith, suc, zero}
use Rattle.rpc_message.specs.declared.message.Reply.{Reply}
use Rattle.rpc_engine.specs.declared.fault.ClientFault.{ClientFault}
use Rattle.rpc_engine.specs.declared.fault.ClientFault.TheVariants as fault
use Rattle.rpc_engine.specs.Ports.{Reported, Receives, Sends}
use Rattle.oncrpc_call.specs.Asked.{Wanted}
use Rattle.oncrpc_call.specs.Datagrams.{Answered, IsAnswer, IsOther}
use Rattle.oncrpc_call.specs.Replies.{Refuses, Shows}

-- where none is left none is received
none_left : (left' : Reported) (m : List ℕ) (ms : List (List ℕ)) → Receives (Some []) left' (m ∷ ms) → ⊥
none_left None m ms r = r
none_left (Some rest) m ms r = absurd (apart r)
  where
    apart : [] ≡ m ∷ ms ++ rest → ⊥
    apart e = cc

still : (left : Reported) (ms : List (List ℕ)) → Receives (Some []) left ms → left ≡ Some []
still None ms r = absurd r
still (Some rest) [] r = ap Some (rest_none rest r)
  where
    rest_none : (k : List (List ℕ)) → [] ≡ [] ++ k → k ≡ []
    rest_none k e = cc
still (Some rest) (m ∷ ms) r = absurd (none_left (Some rest) m ms r)

answer_none : (xid : ℕ) (left' : Reported) (w : Wanted) (answer : Result Reply ClientFault) (text : List ℕ)
    → IsAnswer xid (Some []) left' answer → Shows w answer text ⊎ Refuses w answer text → ⊥
answer_none xid left' w (Ok reply) text (m, r, says) t = none_left left' m [] r.0
answer_none xid left' w (Err (fault.Reply f)) text (m, r, says) t = none_left left' m [] r.0
answer_none xid left' w (Err (fault.Record f)) text (m, r, says) t = none_left left' m [] r.0
answer_none xid left' w (Err (fault.WrongXid got)) text h t = h
answer_none xid left' w (Err fault.Read) text h (inl s) = s
answer_none xid left' w (Err fault.Read) text h (inr s) = s
answer_none xid left' w (Err (fault.Write written)) text h (inl s) = s
answer_none xid left' w (Err (fault.Write written)) text h (inr s) = s
answer_none xid left' w (Err fault.TooManyReads) text h (inl s) = s
answer_none xid left' w (Err fault.TooManyReads) text h (inr s) = s
answer_none xid left' w (Err fault.NoMemory) text h (inl s) = s
answer_none xid left' w (Err fault.NoMemory) text h (inr s) = s

pub nothing_answered : {most : ℕ} (xid : ℕ) (left left' : Reported) (w : Wanted) (answer : Result Reply ClientFault)
    (text : List ℕ) → left ≡ Some [] → Answered xid most left left' answer
    → Shows w answer text ⊎ Refuses w answer text → ⊥
nothing_answered xid left left' w answer text none a t =
    let before = still a.before a.passed
    (subst (λ (l : Reported). Receives l a.before a.passed) none a.over.received) in
    answer_none xid left' w answer text (subst (λ (l : Reported). IsAnswer xid l left' answer) before a.answered) t

-- what is received of one datagram is that one
first_left : (left' : Reported) (m n : List ℕ) (ns : List (List ℕ)) → Receives (Some (m ∷ [])) left' (n ∷ ns) → m ≡ n
first_left None m n ns r = absurd r
first_left (Some rest) m n ns r = head_of r
  where
    head_of : m ∷ [] ≡ n ∷ ns ++ rest → m ≡ n
    head_of e = cc

one_left : (left' : Reported) (m : List ℕ) → Receives (Some (m ∷ [])) left' [] → left' ≡ Some (m ∷ [])
one_left None m r = absurd r
one_left (Some rest) m r = ap Some (sym r)

then_none : (left' : Reported) (m n : List ℕ) → Receives (Some (m ∷ [])) left' (n ∷ []) → left' ≡ Some []
then_none None m n r = absurd r
then_none (Some rest) m n r = ap Some (rest_none rest r)
  where
    rest_none : (k : List (List ℕ)) → m ∷ [] ≡ n ∷ k → k ≡ []
    rest_none k e = cc

not_two : (left' : Reported) (m n o : List ℕ) (ns : List (List ℕ)) → Receives (Some (m ∷ [])) left' (n ∷ o ∷ ns) → ⊥
not_two None m n o ns r = r
not_two (Some rest) m n o ns r = apart r
  where
    apart : m ∷ [] ≡ n ∷ o ∷ ns ++ rest → ⊥
    apart e = cc

-- one that begins with another xid is what no answer speaks of
answer_other : (xid : ℕ) (left' : Reported) (m : List ℕ) (w : Wanted) (answer : Result Reply ClientFault)
    (text : List ℕ) → IsOther xid m → IsAnswer xid (Some (m ∷ [])) left' answer
    → Shows w answer text ⊎ Refuses w answer text → ⊥
answer_other xid left' m w (Ok reply) text o (n, r, says) t =
    r.1 (subst (λ (k : List ℕ). IsOther xid k) (first_left left' m n [] r.0) o)
answer_other xid left' m w (Err (fault.Reply f)) text o (n, r, says) t =
    r.1 (subst (λ (k : List ℕ). IsOther xid k) (first_left left' m n [] r.0) o)
answer_other xid left' m w (Err (fault.Record f)) text o (n, r, says) t =
    r.1 (subst (λ (k : List ℕ). IsOther xid k) (first_left left' m n [] r.0) o)
answer_other xid left' m w (Err (fault.WrongXid got)) text o h t = h
answer_other xid left' m w (Err fault.Read) text o h (inl s) = s
answer_other xid left' m w (Err fault.Read) text o h (inr s) = s
answer_other xid left' m w (Err (fault.Write written)) text o h (inl s) = s
answer_other xid left' m w (Err (fault.Write written)) text o h (inr s) = s
answer_other xid left' m w (Err fault.TooManyReads) text o h (inl s) = s
answer_other xid left' m w (Err fault.TooManyReads) text o h (inr s) = s
answer_other xid left' m w (Err fault.NoMemory) text o h (inl s) = s
answer_other xid left' m w (Err fault.NoMemory) text o h (inr s) = s

pub other_answered : {most : ℕ} (xid : ℕ) (left left' : Reported) (m : List ℕ) (w : Wanted)
    (answer : Result Reply ClientFault) (text : List ℕ) → IsOther xid m → left ≡ Some (m ∷ [])
    → Answered xid most left left' answer
    → Shows w answer text ⊎ Refuses w answer text → ⊥
other_answered xid left left' m w answer text o one a t =
    by a.passed (subst (λ (l : Reported). Receives l a.before a.passed) one a.over.received)
  where
    by : (passed : List (List ℕ)) → Receives (Some (m ∷ [])) a.before passed → ⊥
    by [] r = answer_other xid left' m w answer text o
        (subst (λ (l : Reported). IsAnswer xid l left' answer) (one_left a.before m r) a.answered) t
    by (n ∷ []) r = answer_none xid left' w answer text
        (subst (λ (l : Reported). IsAnswer xid l left' answer) (then_none a.before m n r) a.answered) t
    by (n ∷ p ∷ ps) r = not_two a.before m n p ps r

-- what was sent after nothing is all that was sent
of_known : (sent : Reported) (ds : List (List ℕ)) → Sends (Some []) sent ds → sent ≡ Some ds
of_known None ds s = absurd s
of_known (Some all) ds s = ap Some s

pub all_sent : (sent sent' : Reported) (ds : List (List ℕ)) → sent ≡ Some [] → Sends sent sent' ds → sent' ≡ Some ds
all_sent sent sent' ds e s = of_known sent' ds (subst (λ (k : Reported). Sends k sent' ds) e s)

-- an answer of which something is shown was asked for
unasked_none : (w : Wanted) (answer : Result Reply ClientFault) (text : List ℕ) → Shows w answer text
    → (answer ≡ Err fault.NoMemory) ⊎ (answer ≡ Err (fault.Write 0)) → ⊥
unasked_none w answer text s (inl e) = subst (λ (a : Result Reply ClientFault). Shows w a text) e s
unasked_none w answer text s (inr e) = subst (λ (a : Result Reply ClientFault). Shows w a text) e s

pub asked_once : (w : Wanted) (answer : Result Reply ClientFault) (text : List ℕ) (times : ℕ) → Shows w answer text
    → (times ≡ 0 → (answer ≡ Err fault.NoMemory) ⊎ (answer ≡ Err (fault.Write 0))) → 1 ≤ times
asked_once w answer text times s none = some times none
  where
    some : (n : ℕ) → (n ≡ 0 → (answer ≡ Err fault.NoMemory) ⊎ (answer ≡ Err (fault.Write 0))) → 1 ≤ n
    some zero h = absurd (unasked_none w answer text s (h refl))
    some (suc n) h = omega arith
