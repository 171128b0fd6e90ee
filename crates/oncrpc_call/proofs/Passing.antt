-- Datagrams that are passed over, one after another.
use Rattle.std.proofs.Common.{◌≡◌, ℕ, ◌+◌, ◌≤◌, List, [], ◌∷◌, ◌++◌, length, replicate, Result, Ok, Err, refl}
use Rattle.std.proofs.Common.{◌≢◌, ap, sym}
use Rattle.std.proofs.Common.{◌∙◌, arith, inl, inr, length-append}
use Rattle.std.proofs.Common.{suc, zero}
use Rattle.std.proofs.lemmas.List.{append-nil}
use Rattle.std.specs.List.{AllByRecursion}
use Rattle.rpc_message.specs.declared.message.Reply.{Reply}
use Rattle.rpc_message.specs.Message.{Accepted, Denied, ReplyView}
use Rattle.rpc_message.specs.Spelling.{ReplyBytes}
use Rattle.rpc_engine.specs.declared.fault.ClientFault.{ClientFault}
use Rattle.rpc_engine.specs.declared.fault.ClientFault.TheVariants as fault
use Rattle.rpc_engine.specs.DatagramExchange.{Replies}
use Rattle.rpc_engine.specs.Exchanged.{read_failures, write_failures, xid_of}
use Rattle.rpc_engine.specs.Ports.{Reported, Receives, Sends}
use Rattle.rpc_engine.proofs.Ports.{Receives-none, Receives-trans, Sends-trans}
use Rattle.oncrpc_call.specs.Datagrams.{Answered, IsAnswer, IsOther, PassesOver, most_passed, unanswered}

all_others : (xid : ℕ) (ps qs : List (List ℕ)) → AllByRecursion (IsOther xid) ps → AllByRecursion (IsOther xid) qs
    → AllByRecursion (IsOther xid) (ps ++ qs)
all_others xid [] qs a b = b
all_others xid (p ∷ ps) qs a b = (a.0, all_others xid ps qs a.1 b)

pub over_none : (xid : ℕ) (a : Reported) → PassesOver xid a a []
over_none xid a = record { others = tt; received = Receives-none a }

pub over_then : (xid : ℕ) (a b c : Reported) (ps qs : List (List ℕ)) → PassesOver xid a b ps → PassesOver xid b c qs
    → PassesOver xid a c (ps ++ qs)
over_then xid a b c ps qs p q = record {
  others = all_others xid ps qs p.others q.others;
  received = Receives-trans a b c ps qs (ps ++ qs) refl p.received q.received;
}

-- nothing is received while a call is sent
pub over_sending : (xid : ℕ) (a b c : Reported) (ps : List (List ℕ)) → PassesOver xid a b ps → Receives b c []
    → PassesOver xid a c ps
over_sending xid a b c ps p none = record {
  others = p.others;
  received = Receives-trans a b c ps [] ps (append-nil ps) p.received none;
}

-- one more datagram of another call
pub over_more : (xid : ℕ) (a b c : Reported) (ps : List (List ℕ)) (m : List ℕ) → PassesOver xid a b ps
    → Receives b c (m ∷ []) → IsOther xid m → PassesOver xid a c (ps ++ m ∷ [])
over_more xid a b c ps m p r other =
    over_then xid a b c ps (m ∷ []) p (record { others = (other, tt); received = r })

-- a reply begins with its xid
begins_other : (xid got : ℕ) (m : List ℕ) (v : ReplyView) → ReplyBytes v m → xid_of v ≡ got → got ≢ xid → IsOther xid m
begins_other xid got m (Accepted x verf s) p e ne =
    record { got = x; rest = _; fits = p.fits.0; begins = p.parts; other = λ f. ne (sym e ∙ f) }
begins_other xid got m (Denied x w) p e ne =
    record { got = x; rest = _; fits = p.fits.0; begins = p.parts; other = λ f. ne (sym e ∙ f) }

-- a message that begins with no other xid is what the answer speaks of
pub spoken_of : (xid : ℕ) (a b : Reported) (m : List ℕ) (answer : Result Reply ClientFault) → (IsOther xid m → ⊥)
    → Receives a b (m ∷ []) → Replies xid m answer → IsAnswer xid a b answer
spoken_of xid a b m (Ok reply) own r says = (m, (r, own), says)
spoken_of xid a b m (Err (fault.Reply f)) own r says = (m, (r, own), says)
spoken_of xid a b m (Err fault.NoMemory) own r says = inr (m, (r, own))
spoken_of xid a b m (Err (fault.WrongXid got)) own r ((v, (p, e)), ne) = absurd (own (begins_other xid got m v p e ne))
spoken_of xid a b m (Err fault.Read) own r says = absurd says
spoken_of xid a b m (Err (fault.Write written)) own r says = absurd says
spoken_of xid a b m (Err fault.TooManyReads) own r says = absurd says
spoken_of xid a b m (Err (fault.Record f)) own r says = absurd says

-- the answer of a message is neither of a device nor of too many
pub no_device : (xid : ℕ) (m : List ℕ) (answer : Result Reply ClientFault) → Replies xid m answer
    → (read_failures answer ≡ 0) × (write_failures answer ≡ 0) × (answer ≡ Err fault.TooManyReads → ⊥)
no_device xid m (Ok reply) says = (refl, refl, λ e. cc)
no_device xid m (Err (fault.Reply f)) says = (refl, refl, λ e. cc)
no_device xid m (Err fault.NoMemory) says = (refl, refl, λ e. cc)
no_device xid m (Err (fault.WrongXid got)) says = (refl, refl, λ e. cc)
no_device xid m (Err fault.Read) says = absurd says
no_device xid m (Err (fault.Write written)) says = absurd says
no_device xid m (Err fault.TooManyReads) says = absurd says
no_device xid m (Err (fault.Record f)) says = absurd says

-- datagrams that are passed over before others are
pub answered_then : (xid few more most : ℕ) (a b c : Reported) (ps : List (List ℕ)) (answer : Result Reply ClientFault)
    → length ps ≤ few → few + more ≤ most → PassesOver xid a b ps → Answered xid more b c answer
    → Answered xid most a c answer
answered_then xid few more most a b c ps answer short enough p h =
    let longer = length-append ps h.passed in
    let own = h.few in
    record {
      passed = ps ++ h.passed;
      few = omega (arith, longer, own, short, enough);
      before = h.before;
      over = over_then xid a b h.before ps h.passed p h.over;
      answered = h.answered;
      many = λ e. let most = h.many e in omega (arith, longer, most);
    }

-- where a receive failed, all that was received was passed over
pub unanswered_over : (xid few more most : ℕ) (a b c : Reported) (ps : List (List ℕ)) → length ps ≤ few
    → few + more ≤ most → PassesOver xid a b ps → Answered xid more b c (Err fault.Read)
    → (qs : List (List ℕ)) × PassesOver xid a c qs × (length qs ≤ most)
unanswered_over xid few more most a b c ps short enough p h =
    let longer = length-append ps h.passed in
    let own = h.few in (
      ps ++ h.passed,
      over_sending xid a h.before c (ps ++ h.passed) (over_then xid a b h.before ps h.passed p h.over) h.answered,
      omega (arith, longer, own, short, enough),
    )

-- the failed receives of an answer that no failed send has
pub unanswered_by : (n : ℕ) (answer : Result Reply ClientFault) → write_failures answer ≡ 0
    → n + read_failures answer ≡ unanswered (n + 1) answer
unanswered_by n (Ok reply) none = omega arith
unanswered_by n (Err (fault.Reply f)) none = omega arith
unanswered_by n (Err fault.NoMemory) none = omega arith
unanswered_by n (Err (fault.WrongXid got)) none = omega arith
unanswered_by n (Err fault.Read) none = omega arith
unanswered_by n (Err (fault.Write written)) none = absurd (omega (arith, none))
unanswered_by n (Err fault.TooManyReads) none = omega arith
unanswered_by n (Err (fault.Record f)) none = omega arith

-- one more sending
sent_more : (n : ℕ) (call : List ℕ) → replicate n call ++ call ∷ [] ≡ replicate (suc n) call
sent_more zero call = refl
sent_more (suc n) call = ap (λ (z : List (List ℕ)). call ∷ z) (sent_more n call)

-- the call is sent once more, and then nothing is
pub sent_again : (a b c d : Reported) (n : ℕ) (call datagram : List ℕ) → Sends a b (replicate n call)
    → Sends b c (datagram ∷ []) → Sends c d [] → datagram ≡ call → Sends a d (replicate (n + 1) call)
sent_again a b c d n call datagram before one none same =
    let next : suc n ≡ n + 1 = omega arith in
    let joined : replicate n call ++ datagram ∷ [] ≡ replicate (n + 1) call =
    ap (λ (z : List ℕ). replicate n call ++ z ∷ []) same ∙ sent_more n call
    ∙ ap (λ (k : ℕ). replicate k call) next in
    Sends-trans a c d (replicate (n + 1) call) [] (replicate (n + 1) call) (append-nil (replicate (n + 1) call))
    (Sends-trans a b c (replicate n call) (datagram ∷ []) (replicate (n + 1) call) joined before one) none

-- a call that could not be made
pub nothing_asked : (xid most : ℕ) (a : Reported) → Answered xid most a a (Err fault.NoMemory)
nothing_asked xid most a = record {
  passed = [];
  few = omega arith;
  before = a;
  over = over_none xid a;
  answered = inl (Receives-none a);
  many = λ e. cc;
}

-- what was sent, and then nothing
pub sent_then : (a b c : Reported) (ds : List (List ℕ)) → Sends a b ds → Sends b c [] → Sends a c ds
sent_then a b c ds before none = Sends-trans a b c ds [] ds (append-nil ds) before none

-- a call that could not be sent once more
pub unsent_at : (xid most : ℕ) (a b : Reported) (ps : List (List ℕ)) → length ps ≤ most → PassesOver xid a b ps
    → Answered xid most a b (Err (fault.Write 0))
unsent_at xid most a b ps short p = record {
  passed = ps;
  few = short;
  before = b;
  over = p;
  answered = (refl, Receives-none b);
  many = λ e. cc;
}

-- a call to which nothing came
pub unread_at : (xid most : ℕ) (a b : Reported) (ps : List (List ℕ)) → length ps ≤ most → PassesOver xid a b ps
    → Answered xid most a b (Err fault.Read)
unread_at xid most a b ps short p =
    record { passed = ps; few = short; before = b; over = p; answered = Receives-none b; many = λ e. cc }

-- the receive that fails behind datagrams of other calls
pub failed_at : (xid most : ℕ) (a b c : Reported) (ps : List (List ℕ)) → length ps ≤ most → PassesOver xid a b ps
    → Receives b c [] → Answered xid most a c (Err fault.Read)
failed_at xid most a b c ps short p none =
    record { passed = ps; few = short; before = b; over = p; answered = none; many = λ e. cc }

-- too many datagrams of other calls
pub too_many_at : (xid most : ℕ) (a b : Reported) (ps : List (List ℕ)) → length ps ≤ most → PassesOver xid a b ps
    → most_passed ≤ length ps → Answered xid most a b (Err fault.TooManyReads)
too_many_at xid most a b ps short p many =
    record { passed = ps; few = short; before = b; over = p; answered = Receives-none b; many = λ e. many }

-- the message that is of no other call
pub spoken_at : (xid most : ℕ) (a b c : Reported) (ps : List (List ℕ)) (m : List ℕ)
    (answer : Result Reply ClientFault) → length ps ≤ most → (IsOther xid m → ⊥) → PassesOver xid a b ps
    → Receives b c (m ∷ []) → Replies xid m answer → Answered xid most a c answer
spoken_at xid most a b c ps m answer short own p r says = record {
  passed = ps;
  few = short;
  before = b;
  over = p;
  answered = spoken_of xid b c m answer own r says;
  many = λ e. absurd ((no_device xid m answer says).2 e);
}
