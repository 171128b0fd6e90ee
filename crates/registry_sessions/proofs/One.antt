-- Events have one order of arrivals.
use Rattle.std.proofs.Common.{◌≡◌, ◌≢◌, ◌⊎◌, inl, inr, ℕ, nat_eq, Bool, true, false, if◌then◌else◌, List, []}
use Rattle.std.proofs.Common.{◌∷◌, ◌++◌}
use Rattle.std.proofs.Common.{length, length-append, drop, get_or, map, refl, sym, ap, ◌∙◌, subst, append_assoc, arith}
use Rattle.std.proofs.lemmas.List.{append-nil}
use Rattle.std.proofs.lemmas.Grind.{flat_map-append}
use Rattle.std.proofs.lemmas.Bool.{eqb-true, eqb-false, eq-eqb}
use Rattle.std.specs.List.{flat_map}
use Rattle.rpc_record.specs.Marked.{Longest}
use Rattle.rpc_record.proofs.Exact.{Longest-same}
use Rattle.rpc_record.proofs.Places.{Longest-whole}
use Rattle.rpc_engine.specs.Served.{most_record}
use Rattle.registry_callers.specs.declared.callers.Caller.{Caller}
use Rattle.registry_sessions.specs.Events.{Event, Opens, Brings, Drops, Took, Ends, Came, Arrival, Record, Datagram}
use Rattle.registry_sessions.specs.Events.{HaveArrived, InOrder, OneOrder, brought, bytes_in, records_of, record_in}
use Rattle.registry_sessions.specs.Events.{arrived_in, datagram_in}
use Rattle.registry_sessions.proofs.Orders.{nil_right, one_more}

-- ---- lists

empty_list : {A : Type 0} (xs : List A) → length xs ≡ 0 → xs ≡ []
empty_list [] e = refl
empty_list (x ∷ xs) e = absurd (omega (arith, e))

same_rest : {A : Type 0} (xs ys zs : List A) → xs ++ ys ≡ xs ++ zs → ys ≡ zs
same_rest [] ys zs e = e
same_rest (x ∷ xs) ys zs e = same_rest xs ys zs (ap (drop 1) e)

no_rest : {A : Type 0} (xs ys : List A) → xs ++ ys ≡ xs → ys ≡ []
no_rest xs ys e = same_rest xs ys [] (e ∙ sym (append-nil xs))

two_fronts : {A : Type 0} (f a g b : List A) → f ++ a ≡ g ++ b
    → ((x : List A) × (g ≡ f ++ x)) ⊎ ((x : List A) × (f ≡ g ++ x))
two_fronts [] a g b e = inl (g, refl)
two_fronts (z ∷ f) a [] b e = inr (z ∷ f, refl)
two_fronts {A} (z ∷ f) a (w ∷ g) b e = by (two_fronts f a g b (ap (drop 1) e))
  where
    head : z ≡ w
    head = ap (λ l. get_or l 0 z) e

    by : ((x : List A) × (g ≡ f ++ x)) ⊎ ((x : List A) × (f ≡ g ++ x))
        → ((x : List A) × (w ∷ g ≡ z ∷ (f ++ x))) ⊎ ((x : List A) × (z ∷ f ≡ w ∷ (g ++ x)))
    by (inl (x, q)) = inl (x, ap (λ l. w ∷ l) q ∙ ap (λ y. y ∷ (f ++ x)) (sym head))
    by (inr (x, q)) = inr (x, ap (λ l. z ∷ l) q ∙ ap (λ y. y ∷ (g ++ x)) head)

-- ---- arrivals by their records and datagrams

own_first : (j : ℕ) (m : List ℕ) (xs : List Arrival) → records_of j (Record j m ∷ xs) ≡ m ∷ records_of j xs
own_first j m xs = ap (λ b. (if b then m ∷ [] else []) ++ records_of j xs) (eq-eqb j j refl)

not_none : (j : ℕ) (m : List ℕ) (xs : List Arrival) → records_of j (Record j m ∷ xs) ≡ [] → ⊥
not_none j m xs e = absurd (omega (arith, ap length (own_first j m xs), ap length e))

-- no records and no datagrams
empty : (xs : List Arrival) → ((j : ℕ) → records_of j xs ≡ []) → flat_map arrived_in xs ≡ [] → xs ≡ []
empty [] r d = refl
empty (Record j m ∷ xs) r d = absurd (not_none j m xs (r j))
empty (Datagram c m ∷ xs) r d = absurd (omega (arith, ap length d))

-- records of one connection
pub all_of : (i : ℕ) (xs : List Arrival) → ((j : ℕ) → j ≢ i → records_of j xs ≡ []) → flat_map arrived_in xs ≡ []
    → xs ≡ map (Record i) (records_of i xs)
all_of i [] r d = refl
all_of i (Datagram c m ∷ xs) r d = absurd (omega (arith, ap length d))
all_of i (Record j m ∷ xs) r d = by (all_of i xs rest d) (nat_eq i j) (eqb-true i j) (eqb-false i j)
  where
    rest : (k : ℕ) → k ≢ i → records_of k xs ≡ []
    rest k apart = nil_right (record_in k (Record j m)) (records_of k xs) (r k apart)

    by : xs ≡ map (Record i) (records_of i xs) → (b : Bool) → (b ≡ true → i ≡ j) → (b ≡ false → i ≡ j → ⊥)
        → Record j m ∷ xs ≡ map (Record i) ((if b then m ∷ [] else []) ++ records_of i xs)
    by all true same apart = ap (λ k. Record k m ∷ xs) (sym (same refl)) ∙ ap (λ l. Record i m ∷ l) all
    by all false same apart = absurd (not_none j m xs (r j (λ e. apart refl (sym e))))

-- a caller and what it sent
abbrev sent_by : Caller × List ℕ → Arrival
sent_by d = Datagram d.0 d.1

-- datagrams alone
all_datagrams : (xs : List Arrival) → ((j : ℕ) → records_of j xs ≡ []) → xs ≡ map sent_by (flat_map arrived_in xs)
all_datagrams [] r = refl
all_datagrams (Record j m ∷ xs) r = absurd (not_none j m xs (r j))
all_datagrams (Datagram c m ∷ xs) r = ap (λ l. Datagram c m ∷ l) (all_datagrams xs r)

records_join : (j : ℕ) (xs ys : List Arrival) → records_of j (xs ++ ys) ≡ records_of j xs ++ records_of j ys
records_join j xs ys = flat_map-append (record_in j) xs ys

arrived_join : (xs ys : List Arrival)
    → flat_map arrived_in (xs ++ ys) ≡ flat_map arrived_in xs ++ flat_map arrived_in ys
arrived_join xs ys = flat_map-append arrived_in xs ys

-- nothing has arrived twice
none_behind : (events : List Event) (f x : List Arrival) → HaveArrived events f → HaveArrived events (f ++ x) → x ≡ []
none_behind events f x h k = empty x
    (λ j. no_rest (records_of j f) (records_of j x) (sym (records_join j f x)
    ∙ Longest-same most_record (records_of j (f ++ x)) (records_of j f) (brought j events) (k.records j) (h.records j)))
    (no_rest (flat_map arrived_in f) (flat_map arrived_in x) (sym (arrived_join f x) ∙ k.datagrams ∙ sym h.datagrams))

-- ---- one event more

module _ (front : List Event) (e : Event) (f : List Arrival) (h : HaveArrived front f) where
  no_new_records : (x : List Arrival) → HaveArrived (front ++ e ∷ []) (f ++ x) → (j : ℕ) → bytes_in j e ≡ []
      → records_of j x ≡ []
  no_new_records x k j none = no_rest (records_of j f) (records_of j x) (sym (records_join j f x)
      ∙ Longest-same most_record (records_of j (f ++ x)) (records_of j f) (brought j front)
      (subst (λ b. Longest most_record (records_of j (f ++ x)) b)
      (one_more (bytes_in j) front e ∙ ap (λ b. brought j front ++ b) none ∙ append-nil (brought j front))
      (k.records j))
      (h.records j))

  new_datagrams : (x : List Arrival) → HaveArrived (front ++ e ∷ []) (f ++ x) → flat_map arrived_in x ≡ datagram_in e
  new_datagrams x k = same_rest (flat_map arrived_in f) (flat_map arrived_in x) (datagram_in e)
      (sym (arrived_join f x) ∙ k.datagrams ∙ one_more datagram_in front e
      ∙ ap (λ l. l ++ datagram_in e) (sym h.datagrams))

  -- what arrives goes on from what had arrived
  goes_on : (g a b : List Arrival) → HaveArrived (front ++ e ∷ []) g → f ++ a ≡ g ++ b
      → (x : List Arrival) × (g ≡ f ++ x)
  goes_on g a b k q = by (two_fronts f a g b q)
    where
      more_of : (j : ℕ) → (more : List (List ℕ)) × (records_of j g ≡ records_of j f ++ more)
      more_of j =
          let l = h.records j in
          (k.records j).only (records_of j f) l.whole (l.part ++ bytes_in j e) l.within l.stream
          (one_more (bytes_in j) front e ∙ ap (λ b. b ++ bytes_in j e) l.spelled
          ∙ append_assoc l.whole l.part (bytes_in j e))

      none_of : (x : List Arrival) → f ≡ g ++ x → (j : ℕ) → records_of j x ≡ []
      none_of x s j =
          let more = more_of j in
          empty_list (records_of j x) (omega (
            arith,
            ap length more.1,
            length-append (records_of j f) more.0,
            ap (λ l. length (records_of j l)) s,
            ap length (records_join j g x),
            length-append (records_of j g) (records_of j x),
          ))

      no_datagrams : (x : List Arrival) → f ≡ g ++ x → flat_map arrived_in x ≡ []
      no_datagrams x s = empty_list (flat_map arrived_in x) (omega (
        arith,
        ap length (k.datagrams ∙ one_more datagram_in front e ∙ ap (λ l. l ++ datagram_in e) (sym h.datagrams)),
        length-append (flat_map arrived_in f) (datagram_in e),
        ap (λ l. length (flat_map arrived_in l)) s,
        ap length (arrived_join g x),
        length-append (flat_map arrived_in g) (flat_map arrived_in x),
      ))

      by : ((x : List Arrival) × (g ≡ f ++ x)) ⊎ ((x : List Arrival) × (f ≡ g ++ x))
          → (x : List Arrival) × (g ≡ f ++ x)
      by (inl w) = w
      by (inr (x, s)) = (
        [],
        sym (s ∙ ap (λ l. g ++ l) (empty x (none_of x s) (no_datagrams x s)) ∙ append-nil g)
            ∙ sym (append-nil f),
      )

-- what arrives with one event is one
one_arrival : (front : List Event) (e : Event) (f : List Arrival) → HaveArrived front f → (x y : List Arrival)
    → HaveArrived (front ++ e ∷ []) (f ++ x) → HaveArrived (front ++ e ∷ []) (f ++ y) → x ≡ y
one_arrival front (Brings i bytes) f h x y k l =
    all_of i x (others x k) (new_datagrams front (Brings i bytes) f h x k)
    ∙ ap (map (Record i)) own ∙ sym (all_of i y (others y l) (new_datagrams front (Brings i bytes) f h y l))
  where
    others : (z : List Arrival) → HaveArrived (front ++ Brings i bytes ∷ []) (f ++ z) → (j : ℕ) → j ≢ i
        → records_of j z ≡ []
    others z w j apart = no_new_records front (Brings i bytes) f h z w j (by (nat_eq j i) (eqb-true j i))
      where
        by : (b : Bool) → (b ≡ true → j ≡ i) → (if b then bytes else []) ≡ []
        by true same = absurd (apart (same refl))
        by false same = refl

    own : records_of i x ≡ records_of i y
    own = same_rest (records_of i f) (records_of i x) (records_of i y) (sym (records_join i f x)
        ∙ Longest-same most_record (records_of i (f ++ x)) (records_of i (f ++ y))
        (brought i (front ++ Brings i bytes ∷ [])) (k.records i) (l.records i) ∙ records_join i f y)
one_arrival front (Came caller bytes) f h x y k l =
    all_datagrams x (λ j. no_new_records front (Came caller bytes) f h x k j refl)
    ∙ ap (map sent_by) (new_datagrams front (Came caller bytes) f h x k ∙ sym (new_datagrams front
    (Came caller bytes) f h y l))
    ∙ sym (all_datagrams y (λ j. no_new_records front (Came caller bytes) f h y l j refl))
one_arrival front (Opens i origin) f h x y k l =
    empty x (λ j. no_new_records front (Opens i origin) f h x k j refl) (new_datagrams front (Opens i origin) f h x k)
    ∙ sym (empty y (λ j. no_new_records front (Opens i origin) f h y l j refl) (new_datagrams front
    (Opens i origin) f h y l))
one_arrival front (Drops i bytes) f h x y k l =
    empty x (λ j. no_new_records front (Drops i bytes) f h x k j refl) (new_datagrams front (Drops i bytes) f h x k)
    ∙ sym (empty y (λ j. no_new_records front (Drops i bytes) f h y l j refl)
    (new_datagrams front (Drops i bytes) f h y l))
one_arrival front (Took i n) f h x y k l =
    empty x (λ j. no_new_records front (Took i n) f h x k j refl) (new_datagrams front (Took i n) f h x k)
    ∙ sym (empty y (λ j. no_new_records front (Took i n) f h y l j refl) (new_datagrams front (Took i n) f h y l))
one_arrival front (Ends i) f h x y k l =
    empty x (λ j. no_new_records front (Ends i) f h x k j refl) (new_datagrams front (Ends i) f h x k)
    ∙ sym (empty y (λ j. no_new_records front (Ends i) f h y l j refl) (new_datagrams front (Ends i) f h y l))

-- ---- all events

module _ (events : List Event) (a b : List Arrival) (o : InOrder events a) (q : InOrder events b) where
  walk : (rest done : List Event) (f x y : List Arrival) → events ≡ done ++ rest → a ≡ f ++ x → b ≡ f ++ y
      → HaveArrived done f → a ≡ b
  walk [] done f x y cut left right h =
      let all : events ≡ done = cut ∙ append-nil done in
      let none_left = none_behind done f x h
      (subst (λ z. HaveArrived done z) left (subst (λ z. HaveArrived z a) all o.all)) in
      let none_right = none_behind done f y h
      (subst (λ z. HaveArrived done z) right (subst (λ z. HaveArrived z b) all q.all)) in
      left ∙ ap (λ z. f ++ z) (none_left ∙ sym none_right) ∙ sym right
  walk (e ∷ rest) done f x y cut left right h =
      let here : events ≡ (done ++ e ∷ []) ++ rest = cut ∙ sym (append_assoc done (e ∷ []) rest) in
      let first = o.each (done ++ e ∷ []) rest here in
      let second = q.each (done ++ e ∷ []) rest here in
      let from = goes_on done e f h first.0 x first.1.0 first.1.1.1 (sym left ∙ first.1.1.0) in
      let too = goes_on done e f h second.0 y second.1.0 second.1.1.1 (sym right ∙ second.1.1.0) in
      let same = one_arrival done e f h from.0 too.0
      (subst (λ z. HaveArrived (done ++ e ∷ []) z) from.1 first.1.1.1)
      (subst (λ z. HaveArrived (done ++ e ∷ []) z) too.1 second.1.1.1) in
      let alike : second.0 ≡ first.0 = too.1 ∙ ap (λ z. f ++ z) (sym same) ∙ sym from.1 in
      walk rest (done ++ e ∷ []) first.0 first.1.0 second.1.0 here first.1.1.0
      (second.1.1.0 ∙ ap (λ z. z ++ second.1.0) alike) first.1.1.1

pub one_order : OneOrder
one_order events a b o q = walk events a b o q events [] [] a b refl refl refl record {
  records = λ j. Longest-whole most_record [] [] record {
    stream = refl;
    within = λ k d lt. absurd (omega (arith, lt));
  };
  datagrams = refl;
}
