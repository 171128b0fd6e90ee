-- What a table of sessions has done, one event more.
use Rattle.std.proofs.Common.{◌≡◌, ℕ, ◌+◌, ◌≤◌, ◌<◌, nat_eq, Bool, true, false, if◌then◌else◌, List, [], ◌∷◌, ◌++◌}
use Rattle.std.proofs.Common.{length}
use Rattle.std.proofs.Common.{Option, Some, refl, sym, ap, ◌∙◌, subst, arith, is_some}
use Rattle.std.proofs.lemmas.List.{append-nil}
use Rattle.std.proofs.lemmas.Bool.{eqb-true, eqb-false}
use Rattle.std.specs.List.{flat_map}
use Rattle.registry_rows.specs.Rows.{Row}
use Rattle.rpc_record.specs.Marked.{normal, Longest}
use Rattle.rpc_record.proofs.Readers.{Longest-taking}
use Rattle.rpc_engine.specs.Served.{most_record}
use Rattle.registry_sessions.specs.declared.session.Session.{Session}
use Rattle.registry_sessions.specs.declared.origin.Origin.{Origin}
use Rattle.registry_sessions.specs.Represents.{HasRead, origin_of}
use Rattle.registry_sessions.specs.Events.{Event, Arrival, HaveArrived, InOrder, brought, written, bytes_in, count_in}
use Rattle.registry_sessions.specs.Events.{AreOriginsOf, NeverOpened, records_of, arrived_in, datagram_in, opened_by}
use Rattle.registry_sessions.specs.Interleaved.{MergedRun, replies_of, sent_of}
use Rattle.registry_sessions.specs.Progress.{Sessions, put, Progress, StandsFor}
use Rattle.registry_sessions.proofs.Orders.{one_more, written_one, open_more, never_more}

-- the records of a session are those of the longest front
pub longest : (s : Session) (bytes : List ℕ) (rs : List (List ℕ)) → HasRead s bytes rs → Longest most_record rs bytes
longest s bytes rs h = Longest-taking most_record s.records bytes rs h.limit h.taking h.represents

pub zero_if : (b : Bool) → ◌≡◌ {A = ℕ} (if b then 0 else 0) 0
zero_if true = refl
zero_if false = refl

pub none_if : {A : Type 0} (b : Bool) → ◌≡◌ {A = List A} (if b then [] else []) []
none_if true = refl
none_if false = refl

pub none_more : {A : Type 0} (b : Bool) (xs : List A) → xs ++ (if b then [] else []) ≡ xs
none_more true xs = append-nil xs
none_more false xs = append-nil xs

pub stands_same : (s : Session) (a b : List ℕ) (c d e f : List (List ℕ)) (m n : ℕ) → a ≡ b → c ≡ d → e ≡ f → m ≡ n
    → StandsFor s a c e m → StandsFor s b d f n
stands_same s a b c d e f m n p q r t h =
    subst (λ x. StandsFor s x d f n) p (subst (λ x. StandsFor s a x f n) q
    (subst (λ x. StandsFor s a c x n) r (subst (λ x. StandsFor s a c e x) t h)))

-- the same sessions
pub same_sessions : (rows new : List Row) (events : List Event) (open_at other : Sessions) (next : ℕ)
    (sent : List (List ℕ)) → ((j : ℕ) → other j ≡ open_at j) → Progress rows events new open_at next sent
    → Progress rows events new other next sent
same_sessions rows new events open_at other next sent same p = record {
  arrivals = p.arrivals;
  refusals = p.refusals;
  answers = p.answers;
  whence = p.whence;
  origins = p.origins;
  order = p.order;
  run = p.run;
  opened = λ j. ap is_some (same j) ∙ p.opened j;
  few = p.few;
  each = λ j s at. p.each j s (sym (same j) ∙ at);
  came = λ j s at. p.came j s (sym (same j) ∙ at);
  below = λ j s at. p.below j s (sym (same j) ∙ at);
  fresh = p.fresh;
  unopened = p.unopened;
  datagrams = p.datagrams;
}

-- ---- one event of a connection

module _ (rows mid : List Row) (events : List Event) (open_at : Sessions) (next : ℕ) (sent : List (List ℕ))
    (p : Progress rows events mid open_at next sent) (i : ℕ) (o : Option Session) (e : Event) (bytes : List ℕ)
    (count : ℕ) (rs more : List (List ℕ)) (later : ℕ) where
  -- what it brings and takes is of that connection
  pub record IsOf : Type 0 where
    pub bytes_is : (j : ℕ) → bytes_in j e ≡ (if nat_eq j i then bytes else [])
    pub count_is : (j : ℕ) → count_in j e ≡ (if nat_eq j i then count else 0)
    pub no_datagram : datagram_in e ≡ []
    pub open_is : (j : ℕ) → is_some (put open_at i o j) ≡ opened_by j (is_some (open_at j)) e
    pub within : i < later
    pub grows : next ≤ later
    pub not_begun : (j : ℕ) → later ≤ j → NeverOpened j (e ∷ [])

  -- what is then the connection's own
  pub record Becomes : Type 0 where
    pub longest : Longest most_record (records_of i p.arrivals ++ rs) (brought i events ++ bytes)
    pub few : written i events + count ≤ length (normal (replies_of i p.arrivals p.answers ++ more))
    pub stands : (s : Session) → o ≡ Some s
        → StandsFor s (brought i events ++ bytes) (records_of i p.arrivals ++ rs)
        (replies_of i p.arrivals p.answers ++ more) (written i events + count)

  brought_more : IsOf → (j : ℕ) → brought j events ++ (if nat_eq j i then bytes else []) ≡ brought j (events ++ e ∷ [])
  brought_more h j = sym (one_more (bytes_in j) events e ∙ ap (λ x. brought j events ++ x) (h.bytes_is j))

  written_more : IsOf → (j : ℕ) → written j events + (if nat_eq j i then count else 0) ≡ written j (events ++ e ∷ [])
  written_more h j = sym (written_one j events e ∙ ap (λ n. written j events + n) (h.count_is j))

  longest_by : Becomes → (j : ℕ) (b : Bool) → (b ≡ true → j ≡ i)
      → Longest most_record (records_of j p.arrivals ++ (if b then rs else []))
      (brought j events ++ (if b then bytes else []))
  longest_by k j true is =
      subst (λ x. Longest most_record (records_of x p.arrivals ++ rs) (brought x events ++ bytes)) (sym (is refl))
      k.longest
  longest_by k j false is =
      subst (λ x. Longest most_record x (brought j events ++ [])) (sym (append-nil (records_of j p.arrivals)))
      (subst (λ x. Longest most_record (records_of j p.arrivals) x) (sym (append-nil (brought j events)))
      (p.order.all.records j))

  few_by : Becomes → (j : ℕ) (b : Bool) → (b ≡ true → j ≡ i)
      → written j events + (if b then count else 0)
      ≤ length (normal (replies_of j p.arrivals p.answers ++ (if b then more else [])))
  few_by k j true is =
      subst (λ x. written x events + count ≤ length (normal (replies_of x p.arrivals p.answers ++ more)))
      (sym (is refl)) k.few
  few_by k j false is =
      omega (arith, p.few j, ap (λ x. length (normal x)) (append-nil (replies_of j p.arrivals p.answers)))

  stands_by : Becomes → (j : ℕ) (s : Session) (b : Bool) → (b ≡ true → j ≡ i)
      → (if b then o else open_at j) ≡ Some s
      → StandsFor s (brought j events ++ (if b then bytes else [])) (records_of j p.arrivals ++ (if b then rs else []))
      (replies_of j p.arrivals p.answers ++ (if b then more else [])) (written j events + (if b then count else 0))
  stands_by k j s true is at =
      subst (λ x. StandsFor s (brought x events ++ bytes) (records_of x p.arrivals ++ rs)
      (replies_of x p.arrivals p.answers ++ more) (written x events + count)) (sym (is refl)) (k.stands s at)
  stands_by k j s false is at =
      let none : written j events ≡ written j events + 0 = omega arith in
      stands_same s (brought j events) (brought j events ++ []) (records_of j p.arrivals)
      (records_of j p.arrivals ++ []) (replies_of j p.arrivals p.answers) (replies_of j p.arrivals p.answers ++ [])
      (written j events)
      (written j events + 0) (sym (append-nil (brought j events))) (sym (append-nil (records_of j p.arrivals)))
      (sym (append-nil (replies_of j p.arrivals p.answers))) none (p.each j s at)

  below_by : IsOf → (j : ℕ) (s : Session) (b : Bool) → (b ≡ true → j ≡ i) → (if b then o else open_at j) ≡ Some s
      → j < later
  below_by h j s true is at = omega (arith, is refl, h.within)
  below_by h j s false is at = omega (arith, p.below j s at, h.grows)

  fresh_by : IsOf → (j : ℕ) (b : Bool) → (b ≡ true → j ≡ i) → later ≤ j
      → (brought j events ++ (if b then bytes else []) ≡ []) × (written j events + (if b then count else 0) ≡ 0)
  fresh_by h j true is late = absurd (omega (arith, is refl, h.within, late))
  fresh_by h j false is late =
      let f = p.fresh j (omega (arith, h.grows, late)) in
      (append-nil (brought j events) ∙ f.0, omega (arith, f.1))

  came_by : (whence : ℕ → Origin) → ((j : ℕ) → (j ≡ i → ⊥) → whence j ≡ p.whence j)
      → ((s : Session) → o ≡ Some s → origin_of s ≡ whence i) → (j : ℕ) (s : Session) (b : Bool) → (b ≡ true → j ≡ i)
      → (b ≡ false → j ≡ i → ⊥) → (if b then o else open_at j) ≡ Some s → origin_of s ≡ whence j
  came_by whence same here j s true is apart at = here s at ∙ ap whence (sym (is refl))
  came_by whence same here j s false is apart at = p.came j s at ∙ sym (same j (apart refl))

  pub advance : IsOf → Becomes → (whence : ℕ → Origin) → AreOriginsOf whence (events ++ e ∷ [])
      → ((j : ℕ) → (j ≡ i → ⊥) → whence j ≡ p.whence j) → ((s : Session) → o ≡ Some s → origin_of s ≡ whence i)
      → (new : List Row) (arrivals : List Arrival) (refusals : List Bool)
      (answers : List (Option (List ℕ)))
      → ((j : ℕ) → records_of j arrivals ≡ records_of j p.arrivals ++ (if nat_eq j i then rs else []))
      → ((j : ℕ)
      → replies_of j arrivals answers ≡ replies_of j p.arrivals p.answers ++ (if nat_eq j i then more else []))
      → flat_map arrived_in arrivals ≡ flat_map arrived_in p.arrivals
      → sent_of arrivals answers ≡ sent_of p.arrivals p.answers
      → (HaveArrived (events ++ e ∷ []) arrivals → InOrder (events ++ e ∷ []) arrivals)
      → MergedRun whence rows arrivals refusals new answers
      → Progress rows (events ++ e ∷ []) new (put open_at i o) later sent
  advance h k whence origins same here new arrivals refusals answers records_are replies_are arrived_are sent_are
      ordered run = record {
        arrivals = arrivals;
        refusals = refusals;
        answers = answers;
        whence = whence;
        origins = origins;
        order = ordered record {
          records = λ j. subst (λ x. Longest most_record (records_of j arrivals) x) (brought_more h j)
              (subst (λ x. Longest most_record x (brought j events ++ (if nat_eq j i then bytes else [])))
              (sym (records_are j)) (longest_by k j (nat_eq j i) (eqb-true j i)));
          datagrams = arrived_are ∙ p.order.all.datagrams
              ∙ sym (one_more datagram_in events e ∙ ap (λ x. flat_map datagram_in events ++ x) h.no_datagram
              ∙ append-nil (flat_map datagram_in events));
        };
        run = run;
        opened = λ j. h.open_is j ∙ ap (λ b. opened_by j b e) (p.opened j) ∙ sym (open_more j false events e);
        few = λ j. subst (λ n. n ≤ length (normal (replies_of j arrivals answers))) (written_more h j)
            (subst (λ x. written j events + (if nat_eq j i then count else 0) ≤ length (normal x)) (sym (replies_are j))
            (few_by k j (nat_eq j i) (eqb-true j i)));
        each = λ j s at. stands_same s (brought j events ++ (if nat_eq j i then bytes else []))
            (brought j (events ++ e ∷ []))
            (records_of j p.arrivals ++ (if nat_eq j i then rs else [])) (records_of j arrivals)
            (replies_of j p.arrivals p.answers ++ (if nat_eq j i then more else [])) (replies_of j arrivals answers)
            (written j events + (if nat_eq j i then count else 0)) (written j (events ++ e ∷ []))
            (brought_more h j) (sym (records_are j)) (sym (replies_are j)) (written_more h j)
            (stands_by k j s (nat_eq j i) (eqb-true j i) at);
        came = λ j s at. came_by whence same here j s (nat_eq j i) (eqb-true j i) (eqb-false j i) at;
        below = λ j s at. below_by h j s (nat_eq j i) (eqb-true j i) at;
        fresh = λ j late.
            let f = fresh_by h j (nat_eq j i) (eqb-true j i) late in
            (sym (brought_more h j) ∙ f.0, sym (written_more h j) ∙ f.1);
        unopened = λ j late.
            never_more j events e (p.unopened j (omega (arith, h.grows, late))) (h.not_begun j late);
        datagrams = p.datagrams ∙ sym sent_are;
      }
