-- What is passed over after one sending of a call by datagrams.
use Rattle.std.proofs.Common.{◌≡◌, ◌≢◌, ℕ, ◌+◌, ◌≤◌, ◌<◌, ◌⊎◌, inl, inr, List, [], ◌∷◌, ◌++◌, length, replicate}
use Rattle.std.proofs.Common.{Some, None, Result, Ok, Err, ap, refl, sym, ◌∙◌, subst, arith, suc, zero}
use Rattle.std.proofs.lemmas.List.{append-nil}
use Rattle.std.specs.Prelude.{IfOk}
use Rattle.std.specs.List.{AllByRecursion}
use Rattle.rpc_message.specs.declared.message.Reply.{Reply}
use Rattle.rpc_engine.specs.declared.fault.ClientFault.{ClientFault}
use Rattle.rpc_engine.specs.declared.fault.ClientFault.TheVariants as fault
use Rattle.rpc_engine.specs.Ports.{Reported, Receives, Sends}
use Rattle.rpc_engine.proofs.Ports.{Receives-trans}
use Rattle.oncrpc_service.specs.Datagrams.{Reporting}
use Rattle.oncrpc_call.specs.Datagrams.{Answered, AsksByDatagrams, IsOther, NotSent, Sending, Unanswered, most_passed}

-- ---- what was sent so far

of_known : (sent : Reported) (xs ds : List (List ℕ)) → Sends (Some xs) sent ds → sent ≡ Some (xs ++ ds)
of_known None xs ds s = absurd s
of_known (Some all) xs ds s = ap Some s

sent_on : (sent sent' : Reported) (xs ds : List (List ℕ)) → sent ≡ Some xs → Sends sent sent' ds
    → sent' ≡ Some (xs ++ ds)
sent_on sent sent' xs ds e s = of_known sent' xs ds (subst (λ (k : Reported). Sends k sent' ds) e s)

-- nothing more was sent
sent_still : (sent sent' : Reported) (xs : List (List ℕ)) → sent ≡ Some xs → Sends sent sent' [] → sent' ≡ Some xs
sent_still sent sent' xs e s = sent_on sent sent' xs [] e s ∙ ap Some (append-nil xs)

one_more : (n : ℕ) (call : List ℕ) → replicate n call ++ call ∷ [] ≡ replicate (suc n) call
one_more zero call = refl
one_more (suc n) call = ap (λ (z : List (List ℕ)). call ∷ z) (one_more n call)

sent_once : (sent sent' : Reported) (n : ℕ) (call : List ℕ) → sent ≡ Some (replicate n call)
    → Sends sent sent' (call ∷ []) → sent' ≡ Some (replicate (suc n) call)
sent_once sent sent' n call e s = sent_on sent sent' (replicate n call) (call ∷ []) e s ∙ ap Some (one_more n call)

sent_so_far : {P : Type 0} (reports : P → Reporting) (xid : ℕ) (call : List ℕ) (n : ℕ) (old new : P)
    → (reports old).sent ≡ Some [] → Unanswered reports xid call n old new
    → (reports new).sent ≡ Some (replicate n call)
sent_so_far {P} reports xid call zero old new fresh u =
    subst (λ (p : P). (reports p).sent ≡ Some []) (sym u) fresh
sent_so_far reports xid call (suc n) old new fresh u =
    let before = sent_so_far reports xid call n old u.0 fresh u.1 in
    let s = u.2 in
    sent_still _ _ (replicate (suc n) call) (sent_once _ _ n call before s.sent) s.none_sent

-- ---- each sending has its own count

last_few : {P : Type 0} (reports : P → Reporting) (xid : ℕ) (call : List ℕ) (n : ℕ) (before new : P)
    (answer : Result Reply ClientFault) → (reports before).sent ≡ Some (replicate n call)
    → ((behind next : P) (times : ℕ) (received : List (List ℕ)) → (reports behind).sent ≡ Some (replicate times call)
    → (reports next).sent ≡ (reports behind).sent → Receives (reports behind).left (reports next).left received
    → length received < most_passed)
    → Sending reports xid call answer before new → answer ≡ Err fault.TooManyReads → ⊥
last_few reports xid call n before new answer known few s e =
    let sent = sent_once _ _ n call known s.sent in
    let same = sent_still _ _ (replicate (suc n) call) sent s.none_sent ∙ sym sent in
    let a : Answered xid most_passed (reports s.behind).left (reports new).left (Err fault.TooManyReads) =
    subst (λ (r : Result Reply ClientFault). Answered xid most_passed (reports s.behind).left (reports new).left r) e
    s.answered in
    let all = Receives-trans _ _ _ a.passed [] a.passed (append-nil a.passed) a.over.received a.answered in
    let fewer = few s.behind new (suc n) a.passed sent same all in
    let as_many = a.many refl in
    absurd (omega (arith, fewer, as_many))

never_many : (n : ℕ) (answer : Result Reply ClientFault)
    → ((n ≡ 0) × (answer ≡ Err fault.NoMemory)) ⊎ (answer ≡ Err (fault.Write 0)) → answer ≡ Err fault.TooManyReads → ⊥
never_many n answer (inl (z, e)) many = cc
never_many n answer (inr e) many = cc

pub counted_for_each : {P : Type 0} (reports : P → Reporting) (xid : ℕ) (call : List ℕ) (most : ℕ) (old new : P)
    (answer : Result Reply ClientFault) → (reports old).sent ≡ Some []
    → ((behind next : P) (times : ℕ) (received : List (List ℕ)) → (reports behind).sent ≡ Some (replicate times call)
    → (reports next).sent ≡ (reports behind).sent → Receives (reports behind).left (reports next).left received
    → length received < most_passed)
    → AsksByDatagrams reports xid call most old new answer → answer ≢ Err fault.TooManyReads
counted_for_each {P} reports xid call most old new answer fresh few asks many = by asks.each.last
  where
    n : ℕ
    n = asks.each.earlier

    before : P
    before = asks.each.before

    by : ((asks.times ≡ n + 1) × Sending reports xid call answer before new)
        ⊎ ((asks.times ≡ n) × NotSent reports n answer before new) → ⊥
    by (inl (e, s)) = last_few reports xid call n before new answer
        (sent_so_far reports xid call n old before fresh asks.each.unanswered) few s many
    by (inr (e, u)) = never_many n answer u.why many

-- ---- nothing is kept for a later sending

heads : (d m : List ℕ) (xs ys : List (List ℕ)) → d ∷ xs ≡ m ∷ ys → d ≡ m
heads d m xs ys e = cc

tails : (d m : List ℕ) (xs ys : List (List ℕ)) → d ∷ xs ≡ m ∷ ys → xs ≡ ys
tails d m xs ys e = cc

-- behind fewer datagrams than these is one of these
among : (xid : ℕ) (ds rest passed : List (List ℕ)) (m : List ℕ) (t : List (List ℕ)) → AllByRecursion (IsOther xid) ds
    → length passed < length ds → ds ++ rest ≡ (passed ++ m ∷ []) ++ t → IsOther xid m
among xid [] rest passed m t a few e = absurd (omega (arith, few))
among xid (d ∷ ds) rest [] m t a few e = subst (λ (k : List ℕ). IsOther xid k) (heads d m (ds ++ rest) t e) a.0
among xid (d ∷ ds) rest (p ∷ ps) m t a few e =
    among xid ds rest ps m t a.1 (omega (arith, few)) (tails d p (ds ++ rest) ((ps ++ m ∷ []) ++ t) e)

other_behind : (xid : ℕ) (left' : Reported) (ds rest passed : List (List ℕ)) (m : List ℕ)
    → AllByRecursion (IsOther xid) ds → length passed < length ds
    → Receives (Some (ds ++ rest)) left' (passed ++ m ∷ []) → IsOther xid m
other_behind xid None ds rest passed m a few r = absurd r
other_behind xid (Some t) ds rest passed m a few r = among xid ds rest passed m t a few r

left_still : (left' : Reported) (xs : List (List ℕ)) → Receives (Some xs) left' [] → left' ≡ Some xs
left_still None xs r = absurd r
left_still (Some ys) xs r = ap Some (sym r)

-- behind so many datagrams of other calls no reply is found
not_reached : {P : Type 0} (reports : P → Reporting) (xid : ℕ) (call : List ℕ) (before new : P)
    (answer : Result Reply ClientFault) (ds rest : List (List ℕ)) → (reports before).left ≡ Some (ds ++ rest)
    → AllByRecursion (IsOther xid) ds → most_passed < length ds → Sending reports xid call answer before new
    → IfOk answer (λ r. ⊥)
not_reached reports xid call before new (Err f) ds rest left others many s = tt
not_reached reports xid call before new (Ok reply) ds rest left others many s =
    let a = s.answered in
    let m = a.answered.0 in
    let brings = a.answered.1 in
    let still = left_still (reports s.behind).left (ds ++ rest)
    (subst (λ (l : Reported). Receives l (reports s.behind).left []) left s.none_received) in
    let got = Receives-trans _ _ _ a.passed (m ∷ []) (a.passed ++ m ∷ []) refl a.over.received brings.0 in
    let few = a.few in
    absurd (brings.1 (other_behind xid (reports new).left ds rest a.passed m others (omega (arith, few, many))
    (subst (λ (l : Reported). Receives l (reports new).left (a.passed ++ m ∷ [])) still got)))

no_reply : (reply : Reply) (f : ClientFault) (answer : Result Reply ClientFault) → answer ≡ Ok reply → answer ≡ Err f
    → ⊥
no_reply reply f answer ok e = cc

never_answered : (n : ℕ) (answer : Result Reply ClientFault)
    → ((n ≡ 0) × (answer ≡ Err fault.NoMemory)) ⊎ (answer ≡ Err (fault.Write 0)) → IfOk answer (λ r. ⊥)
never_answered n (Err f) why = tt
never_answered n (Ok reply) (inl (z, e)) = absurd (no_reply reply fault.NoMemory (Ok reply) refl e)
never_answered n (Ok reply) (inr e) = absurd (no_reply reply (fault.Write 0) (Ok reply) refl e)

pub kept_for_none : {P : Type 0} (reports : P → Reporting) (xid : ℕ) (call : List ℕ) (old new : P)
    (answer : Result Reply ClientFault) (ds rest : List (List ℕ)) → (reports old).sent ≡ Some []
    → ((before : P) (times : ℕ) → times ≤ 9 → (reports before).sent ≡ Some (replicate times call)
    → (reports before).left ≡ (reports old).left)
    → (reports old).left ≡ Some (ds ++ rest) → AllByRecursion (IsOther xid) ds → most_passed < length ds
    → AsksByDatagrams reports xid call 10 old new answer → IfOk answer (λ r. ⊥)
kept_for_none {P} reports xid call old new answer ds rest fresh late left others many asks = by asks.each.last
  where
    n : ℕ
    n = asks.each.earlier

    before : P
    before = asks.each.before

    by : ((asks.times ≡ n + 1) × Sending reports xid call answer before new)
        ⊎ ((asks.times ≡ n) × NotSent reports n answer before new) → IfOk answer (λ r. ⊥)
    by (inl (e, s)) =
        let few = asks.few in
        let sent = sent_so_far reports xid call n old before fresh asks.each.unanswered in
        not_reached reports xid call before new answer ds rest (late before n (omega (arith, few, e)) sent ∙ left)
        others many s
    by (inr (e, u)) = never_answered n answer u.why
