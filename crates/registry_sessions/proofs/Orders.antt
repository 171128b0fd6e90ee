-- One event more: the order of arrivals, the run along them, and what is a connection's own.
use Rattle.std.proofs.Common.{nat_eq, true, false, if◌then◌else◌}
use Rattle.std.proofs.Common.{◌≡◌, ◌⊎◌, inl, inr, ℕ, ◌+◌, Bool, List, [], ◌∷◌, ◌++◌, length, drop, get_or}
use Rattle.std.proofs.Common.{Option, refl, sym, ap, ◌∙◌, subst, append_assoc, arith}
use Rattle.std.proofs.lemmas.List.{append-nil}
use Rattle.std.proofs.lemmas.Grind.{flat_map-append}
use Rattle.std.specs.List.{flat_map}
use Rattle.registry_rows.specs.Rows.{Row}
use Rattle.registry_sessions.specs.declared.origin.Origin.{Origin}
use Rattle.registry_answer.specs.Views.{netid_of}
use Rattle.registry_callers.specs.From.{AnswerFrom}
use Rattle.registry_sessions.specs.Events.{Event, Opens, Brings, Drops, Took, Ends, Came, Arrival, Record, Datagram}
use Rattle.registry_sessions.specs.Events.{HaveArrived, InOrder, AreOriginsOf, NeverOpened, caller_in, record_in}
use Rattle.registry_sessions.specs.Events.{records_of}
use Rattle.registry_sessions.specs.Events.{netid_in, message_of, written, count_in, open_after, opened_by}
use Rattle.registry_sessions.specs.Interleaved.{MergedRun, replies_of, reply_in, sent_of, sent_in}

pub nil_right : {A : Type 0} (xs rest : List A) → xs ++ rest ≡ [] → rest ≡ []
nil_right [] rest e = e
nil_right (x ∷ xs) rest e = absurd (omega (arith, ap length e))

-- a list with one more behind, cut in two
pub split_more : {A : Type 0} (xs : List A) (x : A) (front rest : List A) → xs ++ x ∷ [] ≡ front ++ rest
    → (rest ≡ []) ⊎ ((more : List A) × (xs ≡ front ++ more))
split_more xs x [] rest e = inr (xs, refl)
split_more [] x (f ∷ fs) rest e = inl (nil_right fs rest (sym (ap (drop 1) e)))
split_more {A} (y ∷ ys) x (f ∷ fs) rest e = by (split_more ys x fs rest (ap (drop 1) e))
  where
    by : (rest ≡ []) ⊎ ((more : List A) × (ys ≡ fs ++ more))
        → (rest ≡ []) ⊎ ((more : List A) × (y ∷ ys ≡ f ∷ (fs ++ more)))
    by (inl k) = inl k
    by (inr (more, q)) =
        inr (more, ap (λ l. y ∷ l) q ∙ ap (λ z. z ∷ (fs ++ more)) (ap (λ l. get_or l 0 y) e))

pub one_more : {A B : Type 0} (f : A → List B) (xs : List A) (x : A)
    → flat_map f (xs ++ x ∷ []) ≡ flat_map f xs ++ f x
one_more f xs x = flat_map-append f xs (x ∷ []) ∙ ap (λ l. flat_map f xs ++ l) (append-nil (f x))

-- an event with which these arrived
pub order_more : (events : List Event) (e : Event) (arrivals more : List Arrival) → InOrder events arrivals
    → HaveArrived (events ++ e ∷ []) (arrivals ++ more) → InOrder (events ++ e ∷ []) (arrivals ++ more)
order_more events e arrivals more o h = record {
  all = h;
  each = λ front rest eq. by front rest eq (split_more events e front rest eq);
}
  where
    by : (front rest : List Event) → events ++ e ∷ [] ≡ front ++ rest
        → (rest ≡ []) ⊎ ((tail : List Event) × (events ≡ front ++ tail))
        → (first : List Arrival)
        × ((others : List Arrival) × ((arrivals ++ more ≡ first ++ others) × HaveArrived front first))
    by front rest eq (inl k) = (
      arrivals ++ more,
      (
        [],
        (
          sym (append-nil (arrivals ++ more)),
          subst (λ x. HaveArrived x (arrivals ++ more)) (eq ∙ ap (λ r. front ++ r) k ∙ append-nil front) h,
        ),
      ),
    )
    by front rest eq (inr (tail, q)) =
        let w = o.each front tail q in
        (w.0, (w.1.0 ++ more, (ap (λ x. x ++ more) w.1.1.0 ∙ append_assoc w.0 w.1.0 more, w.1.1.1)))

-- an event with which nothing arrived
pub order_same : (events : List Event) (e : Event) (arrivals : List Arrival) → InOrder events arrivals
    → HaveArrived (events ++ e ∷ []) arrivals → InOrder (events ++ e ∷ []) arrivals
order_same events e arrivals o h = subst (λ x. InOrder (events ++ e ∷ []) x) (append-nil arrivals)
    (order_more events e arrivals [] o (subst (λ x. HaveArrived (events ++ e ∷ []) x) (sym (append-nil arrivals)) h))

-- one arrival more is answered
pub merged_more : (whence : ℕ → Origin) (rows mid new : List Row) (arrivals : List Arrival) (a : Arrival)
    (ys : List Bool) (y : Bool)
    (ss : List (Option (List ℕ))) (s : Option (List ℕ)) → MergedRun whence rows arrivals ys mid ss
    → AnswerFrom (caller_in whence a) mid (netid_in whence a) (message_of a) y new s
    → MergedRun whence rows (arrivals ++ a ∷ []) (ys ++ y ∷ []) new (ss ++ s ∷ [])
merged_more whence rows mid new [] a [] y [] s same h =
    (new, (subst (λ x. AnswerFrom (caller_in whence a) x (netid_in whence a) (message_of a) y new s) same h, refl))
merged_more whence rows mid new (b ∷ rest) a (z ∷ zs) y (t ∷ ts) s (first, (answer, run)) h =
    (first, (answer, merged_more whence first mid new rest a zs y ts s run h))
merged_more whence rows mid new [] a (z ∷ zs) y ss s p h = absurd p
merged_more whence rows mid new [] a [] y (t ∷ ts) s p h = absurd p
merged_more whence rows mid new (b ∷ rest) a [] y ss s p h = absurd p
merged_more whence rows mid new (b ∷ rest) a (z ∷ zs) y [] s p h = absurd p

-- and a connection's replies are those before and perhaps that one
pub replies_one : (whence : ℕ → Origin) (i : ℕ) (rows new : List Row) (arrivals : List Arrival) (a : Arrival)
    (ys : List Bool)
    (ss : List (Option (List ℕ))) (s : Option (List ℕ)) → MergedRun whence rows arrivals ys new ss
    → replies_of i (arrivals ++ a ∷ []) (ss ++ s ∷ []) ≡ replies_of i arrivals ss ++ reply_in i a s
replies_one whence i rows new [] a [] [] s p = append-nil (reply_in i a s)
replies_one whence i rows new (b ∷ rest) a (z ∷ zs) (t ∷ ts) s (first, (answer, run)) =
    ap (λ x. reply_in i b t ++ x) (replies_one whence i first new rest a zs ts s run)
    ∙ sym (append_assoc (reply_in i b t) (replies_of i rest ts) (reply_in i a s))
replies_one whence i rows new [] a (z ∷ zs) ss s p = absurd p
replies_one whence i rows new [] a [] (t ∷ ts) s p = absurd p
replies_one whence i rows new (b ∷ rest) a [] ss s p = absurd p
replies_one whence i rows new (b ∷ rest) a (z ∷ zs) [] s p = absurd p

pub sent_one : (whence : ℕ → Origin) (rows new : List Row) (arrivals : List Arrival) (a : Arrival) (ys : List Bool)
    (ss : List (Option (List ℕ))) (s : Option (List ℕ)) → MergedRun whence rows arrivals ys new ss
    → sent_of (arrivals ++ a ∷ []) (ss ++ s ∷ []) ≡ sent_of arrivals ss ++ sent_in a s
sent_one whence rows new [] a [] [] s p = append-nil (sent_in a s)
sent_one whence rows new (b ∷ rest) a (z ∷ zs) (t ∷ ts) s (first, (answer, run)) =
    ap (λ x. sent_in b t ++ x) (sent_one whence first new rest a zs ts s run)
    ∙ sym (append_assoc (sent_in b t) (sent_of rest ts) (sent_in a s))
sent_one whence rows new [] a (z ∷ zs) ss s p = absurd p
sent_one whence rows new [] a [] (t ∷ ts) s p = absurd p
sent_one whence rows new (b ∷ rest) a [] ss s p = absurd p
sent_one whence rows new (b ∷ rest) a (z ∷ zs) [] s p = absurd p

pub written_one : (j : ℕ) (events : List Event) (e : Event)
    → written j (events ++ e ∷ []) ≡ written j events + count_in j e
written_one j [] e = omega arith
written_one j (f ∷ fs) e =
    let all : written j ((f ∷ fs) ++ e ∷ []) ≡ count_in j f + written j (fs ++ e ∷ []) = refl in
    let before : written j (f ∷ fs) ≡ count_in j f + written j fs = refl in
    omega (arith, all, before, written_one j fs e)

pub open_more : (j : ℕ) (was : Bool) (events : List Event) (e : Event)
    → open_after j was (events ++ e ∷ []) ≡ opened_by j (open_after j was events) e
open_more j was [] e = refl
open_more j was (f ∷ fs) e = open_more j (opened_by j was f) fs e

-- ---- the origins of connections

-- one event more, of a connection that began before or of none
pub origins_more : (whence : ℕ → Origin) (events : List Event) (e : Event) → AreOriginsOf whence events
    → AreOriginsOf whence (e ∷ []) → AreOriginsOf whence (events ++ e ∷ [])
origins_more whence [] e h k = k
origins_more whence (Opens i origin ∷ events) e h k = (h.0, origins_more whence events e h.1 k)
origins_more whence (Brings i bytes ∷ events) e h k = origins_more whence events e h k
origins_more whence (Drops i bytes ∷ events) e h k = origins_more whence events e h k
origins_more whence (Took i n ∷ events) e h k = origins_more whence events e h k
origins_more whence (Ends i ∷ events) e h k = origins_more whence events e h k
origins_more whence (Came caller bytes ∷ events) e h k = origins_more whence events e h k

-- the origins with this one at this number
abbrev pub named : (ℕ → Origin) → ℕ → Origin → ℕ → Origin
named whence i origin = λ j. if nat_eq i j then origin else whence j

-- a number with which no connection began may have any origin
pub origins_named : (whence : ℕ → Origin) (i : ℕ) (o : Origin) (events : List Event) → NeverOpened i events
    → AreOriginsOf whence events → AreOriginsOf (named whence i o) events
origins_named whence i o [] never h = h
origins_named whence i o (Opens j origin ∷ events) never h = (
  ap (λ (b : Bool). if b then o else whence j) never.0 ∙ h.0,
  origins_named whence i o events never.1 h.1,
)
origins_named whence i o (Brings j bytes ∷ events) never h = origins_named whence i o events never h
origins_named whence i o (Drops j bytes ∷ events) never h = origins_named whence i o events never h
origins_named whence i o (Took j n ∷ events) never h = origins_named whence i o events never h
origins_named whence i o (Ends j ∷ events) never h = origins_named whence i o events never h
origins_named whence i o (Came caller bytes ∷ events) never h = origins_named whence i o events never h

-- one event more, with which it does not begin
pub never_more : (i : ℕ) (events : List Event) (e : Event) → NeverOpened i events → NeverOpened i (e ∷ [])
    → NeverOpened i (events ++ e ∷ [])
never_more i [] e h k = k
never_more i (Opens j origin ∷ events) e h k = (h.0, never_more i events e h.1 k)
never_more i (Brings j bytes ∷ events) e h k = never_more i events e h k
never_more i (Drops j bytes ∷ events) e h k = never_more i events e h k
never_more i (Took j n ∷ events) e h k = never_more i events e h k
never_more i (Ends j ∷ events) e h k = never_more i events e h k
never_more i (Came caller bytes ∷ events) e h k = never_more i events e h k

-- and where a connection has no records, the run does not ask whence it came
pub merged_same : (whence other : ℕ → Origin) (i : ℕ) → ((j : ℕ) → (nat_eq i j ≡ false) → other j ≡ whence j)
    → (rows new : List Row) (arrivals : List Arrival) (ys : List Bool) (ss : List (Option (List ℕ)))
    → records_of i arrivals ≡ [] → MergedRun whence rows arrivals ys new ss → MergedRun other rows arrivals ys new ss
merged_same whence other i same rows new [] [] [] none p = p
merged_same whence other i same rows new (Datagram caller message ∷ rest) (y ∷ ys) (s ∷ ss) none (mid, (a, run)) =
    (mid, (a, merged_same whence other i same mid new rest ys ss none run))
merged_same whence other i same rows new (Record j message ∷ rest) (y ∷ ys) (s ∷ ss) none (mid, (a, run)) = (
  mid,
  (
    subst (λ (x : Origin). AnswerFrom x.caller rows (netid_of x.transport) message y mid s)
        (sym (same j (apart (nat_eq i j) none))) a,
    merged_same whence other i same mid new rest ys ss
        (nil_right (record_in i (Record j message)) (records_of i rest) none) run,
  ),
)
  where
    apart : (b : Bool) → (if b then message ∷ [] else []) ++ records_of i rest ≡ [] → b ≡ false
    apart true e = absurd (omega (arith, ap length e))
    apart false e = refl
merged_same whence other i same rows new [] (z ∷ zs) ss none p = absurd p
merged_same whence other i same rows new [] [] (t ∷ ts) none p = absurd p
merged_same whence other i same rows new (b ∷ rest) [] ss none p = absurd p
merged_same whence other i same rows new (b ∷ rest) (z ∷ zs) [] none p = absurd p
