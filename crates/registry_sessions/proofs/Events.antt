-- The law of each event at a table of sessions.
use Rattle.std.proofs.Common.{◌≡◌, ℕ, ◌+◌, ◌≤◌, ◌<◌, nat_eq, Bool, true, false, if◌then◌else◌, List, [], ◌∷◌, ◌++◌}
use Rattle.std.proofs.Common.{length}
use Rattle.std.proofs.Common.{Option, Some, None, refl, sym, ap, ◌∙◌, subst, arith, true≢false, is_some}
use Rattle.std.proofs.Common.{length-append}
use Rattle.std.proofs.lemmas.List.{append-nil}
use Rattle.std.proofs.lemmas.Bool.{eqb-true, eq-eqb}
use Rattle.std.specs.List.{flat_map}
use Rattle.registry_rows.specs.Rows.{Row}
use Rattle.registry_rows.specs.Ports.{udp}
use Rattle.rpc_record.specs.Marked.{normal, Longest}
use Rattle.rpc_record.proofs.Counting.{normal-append}
use Rattle.rpc_record.proofs.Exact.{Longest-same}
use Rattle.rpc_record.proofs.Places.{Longest-whole}
use Rattle.registry_callers.specs.declared.callers.Caller.{Caller}
use Rattle.registry_answer.specs.Views.{netid_of}
use Rattle.registry_sessions.specs.declared.origin.Origin.{Origin}
use Rattle.registry_callers.specs.From.{AnswerFrom}
use Rattle.rpc_engine.specs.Run.{listed}
use Rattle.rpc_engine.specs.Served.{most_record}
use Rattle.registry_sessions.specs.declared.fault.SessionFault.{SessionFault}
use Rattle.registry_sessions.specs.declared.session.Session.{Session}
use Rattle.registry_sessions.specs.Represents as session
use Rattle.registry_sessions.specs.Represents.{HasRead, Holds, output_of, origin_of}
use Rattle.registry_sessions.specs.Events.{Event, Opens, Brings, Drops, Took, Ends, Came, Arrival, Record, Datagram}
use Rattle.registry_sessions.specs.Events.{HaveArrived, AreOriginsOf, NeverOpened, brought, written, bytes_in}
use Rattle.registry_sessions.specs.Events.{count_in, records_of}
use Rattle.registry_sessions.specs.Events.{record_in, arrived_in, datagram_in, opened_by}
use Rattle.registry_sessions.specs.Interleaved.{FlawedIn, replies_of, sent_of}
use Rattle.registry_sessions.specs.Progress.{Sessions, put, Progress, StandsFor}
use Rattle.registry_sessions.proofs.Orders.{one_more, order_more, order_same, merged_more, replies_one, sent_one}
use Rattle.registry_sessions.proofs.Orders.{written_one, open_more, origins_more, origins_named, named, merged_same}
use Rattle.registry_sessions.proofs.Orders.{never_more}
use Rattle.registry_sessions.proofs.Tables.{IsOf, Becomes, advance, longest, none_if, none_more, stands_same, zero_if}

-- no bytes have no records
pub nothing : Longest most_record [] []
nothing = Longest-whole most_record [] [] record { stream = refl; within = λ k d h. absurd (omega (arith, h)) }

longer : (n : ℕ) (xs ys : List (List ℕ)) → n ≤ length (normal xs) → n + 0 ≤ length (normal (xs ++ ys))
longer n xs ys h = omega (arith, h, ap length (normal-append xs ys), length-append (normal xs) (normal ys))

-- a connection none of whose bytes came has no records
pub no_records : (i : ℕ) (events : List Event) (arrivals : List Arrival) → HaveArrived events arrivals
    → brought i events ≡ [] → records_of i arrivals ≡ []
no_records i events arrivals h none = Longest-same most_record (records_of i arrivals) [] []
    (subst (λ x. Longest most_record (records_of i arrivals) x) none (h.records i)) nothing

-- and no replies
pub no_replies : (i : ℕ) (arrivals : List Arrival) (answers : List (Option (List ℕ))) → records_of i arrivals ≡ []
    → replies_of i arrivals answers ≡ []
no_replies i [] answers e = refl
no_replies i (a ∷ rest) [] e = refl
no_replies i (Datagram caller message ∷ rest) (s ∷ more) e = no_replies i rest more e
no_replies i (Record j message ∷ rest) (s ∷ more) e = by (λ k. no_replies i rest more k) (nat_eq i j) e
  where
    by : (records_of i rest ≡ [] → replies_of i rest more ≡ []) → (b : Bool)
        → (if b then message ∷ [] else []) ++ records_of i rest ≡ []
        → (if b then listed s else []) ++ replies_of i rest more ≡ []
    by next true k = absurd (omega (arith, ap length k))
    by next false k = next k

abbrev session_or : Session → Option Session → Session
session_or other (Some s) = s
session_or other None = other

some_session : (s t : Session) → Some s ≡ Some t → s ≡ t
some_session s t e = ap (session_or s) e

abbrev fault_or : SessionFault → Option SessionFault → SessionFault
fault_or other (Some f) = f
fault_or other None = other

pub some_fault : (f g : SessionFault) → Some f ≡ Some g → f ≡ g
some_fault f g e = ap (fault_or f) e

-- a session that has read stands for what it has read
pub stands_read : (s : Session) (bytes : List ℕ) (rs replies : List (List ℕ)) (count : ℕ) → HasRead s bytes rs
    → Holds s replies count → StandsFor s bytes rs replies count
stands_read s bytes rs replies count h k = record {
  reads = λ e. h;
  flawed = λ f e. absurd (true≢false (ap is_some (sym e ∙ h.sound)));
  holds = k;
}

-- and one with a fault for what it says
pub stands_broken : (s : Session) (f : SessionFault) (bytes : List ℕ) (rs replies : List (List ℕ)) (count : ℕ)
    → session.IsBroken s f → FlawedIn rs f bytes → Holds s replies count → StandsFor s bytes rs replies count
stands_broken s f bytes rs replies count broken h k = record {
  reads = λ e. absurd (true≢false (ap is_some (sym broken ∙ e)));
  flawed = λ g e. subst (λ x. FlawedIn rs x bytes) (some_fault f g (sym broken ∙ e)) h;
  holds = k;
}

-- ---- at a connection that is open

same_open : (b : Bool) (s old : Session) (o : Option Session) → (b ≡ true → o ≡ Some old)
    → is_some (if b then Some s else o) ≡ is_some o
same_open true s old o at = sym (ap is_some (at refl))
same_open false s old o at = refl

opened_if : (b : Bool) (s : Session) (o : Option Session)
    → is_some (if b then Some s else o) ≡ (if b then true else is_some o)
opened_if true s o = refl
opened_if false s o = refl

closed_if : (b : Bool) (o : Option Session) → is_some (if b then None else o) ≡ (if b then false else is_some o)
closed_if true o = refl
closed_if false o = refl

module _ (rows mid : List Row) (events : List Event) (open_at : Sessions) (next : ℕ) (sent : List (List ℕ))
    (p : Progress rows events mid open_at next sent) (i : ℕ) where
  -- an event with which nothing arrives
  silent : (o : Option Session) (e : Event) (bytes : List ℕ) (count later : ℕ)
      → IsOf rows mid events open_at next sent p i o e bytes count [] [] later
      → Becomes rows mid events open_at next sent p i o e bytes count [] [] later
      → AreOriginsOf p.whence (e ∷ []) → ((s : Session) → o ≡ Some s → origin_of s ≡ p.whence i)
      → Progress rows (events ++ e ∷ []) mid (put open_at i o) later sent
  silent o e bytes count later h k began here =
      advance rows mid events open_at next sent p i o e bytes count [] [] later h k p.whence
      (origins_more p.whence events e p.origins began) (λ j apart. refl) here mid p.arrivals p.refusals p.answers
      (λ j. sym (none_more (nat_eq j i) (records_of j p.arrivals)))
      (λ j. sym (none_more (nat_eq j i) (replies_of j p.arrivals p.answers)))
      refl refl (order_same events e p.arrivals p.order) p.run

  -- what a connection brought, with its records, is as before
  own : Longest most_record (records_of i p.arrivals ++ []) (brought i events ++ [])
  own = subst (λ x. Longest most_record x (brought i events ++ [])) (sym (append-nil (records_of i p.arrivals)))
      (subst (λ x. Longest most_record (records_of i p.arrivals) x) (sym (append-nil (brought i events)))
      (p.order.all.records i))

  few_same : written i events + 0 ≤ length (normal (replies_of i p.arrivals p.answers ++ []))
  few_same = longer (written i events) (replies_of i p.arrivals p.answers) [] (p.few i)

  -- a session that stands for the same stands for no more
  stands_same_more : (s : Session) (bytes : List ℕ)
      → StandsFor s (brought i events ++ bytes) (records_of i p.arrivals) (replies_of i p.arrivals p.answers)
      (written i events)
      → StandsFor s (brought i events ++ bytes) (records_of i p.arrivals ++ [])
      (replies_of i p.arrivals p.answers ++ []) (written i events + 0)
  stands_same_more s bytes h =
      let none : written i events ≡ written i events + 0 = omega arith in
      stands_same s (brought i events ++ bytes) (brought i events ++ bytes) (records_of i p.arrivals)
      (records_of i p.arrivals ++ []) (replies_of i p.arrivals p.answers) (replies_of i p.arrivals p.answers ++ [])
      (written i events) (written i events + 0) refl (sym (append-nil (records_of i p.arrivals)))
      (sym (append-nil (replies_of i p.arrivals p.answers))) none h

  -- the session that is there now is of the origin of its connection
  pub here : (old s t : Session) → open_at i ≡ Some old → origin_of s ≡ origin_of old → Some s ≡ Some t
      → origin_of t ≡ p.whence i
  here old s t at same is = subst (λ x. origin_of x ≡ p.whence i) (some_session s t is) (same ∙ p.came i old at)

  -- an event of an open connection that brings these bytes, and with which nothing arrives
  pub still : (old s : Session) (e : Event) (bytes : List ℕ) → open_at i ≡ Some old
      → ((j : ℕ) → bytes_in j e ≡ (if nat_eq j i then bytes else [])) → ((j : ℕ) → count_in j e ≡ 0)
      → datagram_in e ≡ [] → ((j : ℕ) (was : Bool) → opened_by j was e ≡ was)
      → ((j : ℕ) → NeverOpened j (e ∷ [])) → AreOriginsOf p.whence (e ∷ []) → origin_of s ≡ origin_of old
      → Longest most_record (records_of i p.arrivals) (brought i events ++ bytes)
      → StandsFor s (brought i events ++ bytes) (records_of i p.arrivals) (replies_of i p.arrivals p.answers)
      (written i events)
      → Progress rows (events ++ e ∷ []) mid (put open_at i (Some s)) next sent
  still old s e bytes at brings counts none same_is never began same long stands =
      silent (Some s) e bytes 0 next
      record {
        bytes_is = brings;
        count_is = λ j. counts j ∙ sym (zero_if (nat_eq j i));
        no_datagram = none;
        open_is = λ j. same_open (nat_eq j i) s old (open_at j) (λ b. ap open_at (eqb-true j i b) ∙ at)
            ∙ sym (same_is j (is_some (open_at j)));
        within = p.below i old at;
        grows = omega arith;
        not_begun = λ j late. never j;
      }
      record {
        longest = subst (λ x. Longest most_record x (brought i events ++ bytes))
            (sym (append-nil (records_of i p.arrivals))) long;
        few = few_same;
        stands = λ t is. subst (λ x. StandsFor x (brought i events ++ bytes) (records_of i p.arrivals ++ [])
            (replies_of i p.arrivals p.answers ++ []) (written i events + 0)) (some_session s t is)
            (stands_same_more s bytes stands);
      }
      began (λ t is. here old s t at same is)

  -- a connection brings bytes with which a record is whole, and it is answered
  pub progress_answers : (new : List Row) (old s : Session) (bytes : List ℕ) → open_at i ≡ Some old → old.fault ≡ None
      → origin_of s ≡ origin_of old → session.Answers old s mid new bytes
      → Progress rows (events ++ Brings i bytes ∷ []) new (put open_at i (Some s)) next sent
  progress_answers new old s bytes at sound same a =
      let event = Brings i bytes in
      let arrival = Record i a.message in
      let before = p.each i old at in
      let read : HasRead s (brought i events ++ bytes) (records_of i p.arrivals ++ a.message ∷ []) =
      a.reads (brought i events) (records_of i p.arrivals) (before.reads sound) in
      let held : Holds s (replies_of i p.arrivals p.answers ++ listed a.sent) (written i events + 0) =
      a.replies (replies_of i p.arrivals p.answers) (written i events + 0)
      (subst (λ n. Holds old (replies_of i p.arrivals p.answers) n) (plus_none (written i events)) before.holds) in
      advance rows mid events open_at next sent p i (Some s) event bytes 0 (a.message ∷ []) (listed a.sent) next
      record {
        bytes_is = λ j. refl;
        count_is = λ j. sym (zero_if (nat_eq j i));
        no_datagram = refl;
        open_is = λ j. same_open (nat_eq j i) s old (open_at j) (λ b. ap open_at (eqb-true j i b) ∙ at);
        within = p.below i old at;
        grows = omega arith;
        not_begun = λ j late. tt;
      }
      record {
        longest = longest s (brought i events ++ bytes) (records_of i p.arrivals ++ a.message ∷ []) read;
        few = held.few;
        stands = λ t is. subst (λ x. StandsFor x (brought i events ++ bytes) (records_of i p.arrivals ++ a.message ∷ [])
            (replies_of i p.arrivals p.answers ++ listed a.sent) (written i events + 0)) (some_session s t is)
            (stands_read s (brought i events ++ bytes) (records_of i p.arrivals ++ a.message ∷ [])
            (replies_of i p.arrivals p.answers ++ listed a.sent) (written i events + 0) read held);
      }
      p.whence (origins_more p.whence events event p.origins tt) (λ j apart. refl) (λ t is. here old s t at same is)
      new (p.arrivals ++ arrival ∷ []) (p.refusals ++ a.refused ∷ []) (p.answers ++ a.sent ∷ [])
      (λ j. one_more (record_in j) p.arrivals arrival)
      (λ j. replies_one p.whence j rows mid p.arrivals arrival p.refusals p.answers a.sent p.run)
      (one_more arrived_in p.arrivals arrival ∙ append-nil (flat_map arrived_in p.arrivals))
      (sent_one p.whence rows mid p.arrivals arrival p.refusals p.answers a.sent p.run
      ∙ append-nil (sent_of p.arrivals p.answers))
      (order_more events event p.arrivals (arrival ∷ []) p.order)
      (merged_more p.whence rows mid new p.arrivals arrival p.refusals a.refused p.answers a.sent p.run
      (subst (λ (x : Origin). AnswerFrom x.caller mid (netid_of x.transport) a.message a.refused new a.sent)
      (p.came i old at) a.answer))
    where
      plus_none : (n : ℕ) → n ≡ n + 0
      plus_none n = omega arith

  -- a connection brings bytes with which no record is whole
  pub progress_takes : (old s : Session) (bytes : List ℕ) → open_at i ≡ Some old → old.fault ≡ None
      → origin_of s ≡ origin_of old → session.Reads old s bytes [] → session.Replies old s []
      → Progress rows (events ++ Brings i bytes ∷ []) mid (put open_at i (Some s)) next sent
  progress_takes old s bytes at sound same reads replies =
      let before = p.each i old at in
      let read : HasRead s (brought i events ++ bytes) (records_of i p.arrivals) =
      subst (λ x. HasRead s (brought i events ++ bytes) x) (append-nil (records_of i p.arrivals))
      (reads (brought i events) (records_of i p.arrivals) (before.reads sound)) in
      let held : Holds s (replies_of i p.arrivals p.answers) (written i events) =
      subst (λ x. Holds s x (written i events)) (append-nil (replies_of i p.arrivals p.answers))
      (replies (replies_of i p.arrivals p.answers) (written i events) before.holds) in
      still old s (Brings i bytes) bytes at (λ j. refl) (λ j. refl) refl (λ j was. refl) (λ j. tt) tt same
      (longest s (brought i events ++ bytes) (records_of i p.arrivals) read)
      (stands_read s (brought i events ++ bytes) (records_of i p.arrivals) (replies_of i p.arrivals p.answers)
      (written i events) read held)

  -- a header passes the limit in the bytes that a connection brings
  pub progress_flawed : (old s : Session) (f : SessionFault) (bytes : List ℕ) → open_at i ≡ Some old
      → session.IsBroken s f → output_of s ≡ output_of old → origin_of s ≡ origin_of old
      → Longest most_record (records_of i p.arrivals) (brought i events ++ bytes)
      → FlawedIn (records_of i p.arrivals) f (brought i events ++ bytes)
      → Progress rows (events ++ Brings i bytes ∷ []) mid (put open_at i (Some s)) next sent
  progress_flawed old s f bytes at broken out same long flawed =
      let before = (p.each i old at).holds in
      still old s (Brings i bytes) bytes at (λ j. refl) (λ j. refl) refl (λ j was. refl) (λ j. tt) tt same long
      (stands_broken s f (brought i events ++ bytes) (records_of i p.arrivals) (replies_of i p.arrivals p.answers)
      (written i events) broken flawed record { few = before.few; waits = out ∙ before.waits })

  -- the bytes of a connection are dropped
  pub progress_drops : (old s : Session) (f : SessionFault) (bytes : List ℕ) → open_at i ≡ Some old
      → session.IsBroken s f → output_of s ≡ output_of old → origin_of s ≡ origin_of old
      → FlawedIn (records_of i p.arrivals) f (brought i events)
      → Progress rows (events ++ Drops i bytes ∷ []) mid (put open_at i (Some s)) next sent
  progress_drops old s f bytes at broken out same flawed =
      let before = (p.each i old at).holds in
      let none = sym (append-nil (brought i events)) in
      still old s (Drops i bytes) [] at (λ j. sym (none_if (nat_eq j i))) (λ j. refl) refl (λ j was. refl) (λ j. tt)
      tt same
      (subst (λ x. Longest most_record (records_of i p.arrivals) x) none (p.order.all.records i))
      (stands_broken s f (brought i events ++ []) (records_of i p.arrivals) (replies_of i p.arrivals p.answers)
      (written i events) broken (subst (λ x. FlawedIn (records_of i p.arrivals) f x) none flawed)
      record { few = before.few; waits = out ∙ before.waits })

  -- a write of a connection takes bytes of its output
  pub progress_writes : (n : ℕ) (old s : Session) → open_at i ≡ Some old → session.Took old s n
      → Progress rows (events ++ Took i n ∷ []) mid (put open_at i (Some s)) next sent
  progress_writes n old s at took =
      let before = p.each i old at in
      let held : Holds s (replies_of i p.arrivals p.answers) (written i events + n) =
      took.replies (replies_of i p.arrivals p.answers) (written i events) before.holds in
      let stands : StandsFor s (brought i events) (records_of i p.arrivals) (replies_of i p.arrivals p.answers)
      (written i events + n) = record {
        reads = λ e. took.reads (brought i events) (records_of i p.arrivals) (before.reads (sym took.same_fault ∙ e));
        flawed = λ f e. before.flawed f (sym took.same_fault ∙ e);
        holds = held;
      } in
      let now : StandsFor s (brought i events ++ []) (records_of i p.arrivals ++ [])
      (replies_of i p.arrivals p.answers ++ []) (written i events + n) =
      stands_same s (brought i events) (brought i events ++ []) (records_of i p.arrivals)
      (records_of i p.arrivals ++ []) (replies_of i p.arrivals p.answers) (replies_of i p.arrivals p.answers ++ [])
      (written i events + n) (written i events + n) (sym (append-nil (brought i events)))
      (sym (append-nil (records_of i p.arrivals))) (sym (append-nil (replies_of i p.arrivals p.answers))) refl stands in
      silent (Some s) (Took i n) [] n next
      record {
        bytes_is = λ j. sym (none_if (nat_eq j i));
        count_is = λ j. refl;
        no_datagram = refl;
        open_is = λ j. same_open (nat_eq j i) s old (open_at j) (λ b. ap open_at (eqb-true j i b) ∙ at);
        within = p.below i old at;
        grows = omega arith;
        not_begun = λ j late. tt;
      }
      record {
        longest = own;
        few = now.holds.few;
        stands = λ t is. subst (λ x. StandsFor x (brought i events ++ []) (records_of i p.arrivals ++ [])
            (replies_of i p.arrivals p.answers ++ []) (written i events + n)) (some_session s t is) now;
      }
      tt (λ t is. here old s t at took.same_origin is)

  -- a connection ends
  pub progress_ends : (old : Session) → open_at i ≡ Some old
      → Progress rows (events ++ Ends i ∷ []) mid (put open_at i None) next sent
  progress_ends old at =
      silent None (Ends i) [] 0 next
      record {
        bytes_is = λ j. sym (none_if (nat_eq j i));
        count_is = λ j. sym (zero_if (nat_eq j i));
        no_datagram = refl;
        open_is = λ j. closed_if (nat_eq j i) (open_at j);
        within = p.below i old at;
        grows = omega arith;
        not_begun = λ j late. tt;
      }
      record {
        longest = own;
        few = few_same;
        stands = λ t is. absurd (true≢false (sym (ap is_some is)));
      }
      tt (λ t is. absurd (true≢false (sym (ap is_some is))))

-- a connection begins, with the number to come
pub progress_opens : (rows mid : List Row) (events : List Event) (open_at : Sessions) (next : ℕ) (sent : List (List ℕ))
    (s : Session) (origin : Origin) → Progress rows events mid open_at next sent → origin_of s ≡ origin
    → HasRead s [] []
    → Holds s [] 0 → Progress rows (events ++ Opens next origin ∷ []) mid (put open_at next (Some s)) (next + 1) sent
progress_opens rows mid events open_at next sent s origin p of read held =
    let f = p.fresh next (omega arith) in
    let records = no_records next events p.arrivals p.order.all f.0 in
    let replies = no_replies next p.arrivals p.answers records in
    let stands = stands_same s [] (brought next events) [] (records_of next p.arrivals) []
    (replies_of next p.arrivals p.answers) 0 (written next events) (sym f.0) (sym records) (sym replies) (sym f.1)
    (stands_read s [] [] [] 0 read held) in
    let now : StandsFor s (brought next events ++ []) (records_of next p.arrivals ++ [])
    (replies_of next p.arrivals p.answers ++ []) (written next events + 0) =
    stands_same_more rows mid events open_at next sent p next s []
    (subst (λ x. StandsFor s x (records_of next p.arrivals) (replies_of next p.arrivals p.answers)
    (written next events)) (sym (append-nil (brought next events))) stands) in
    advance rows mid events open_at next sent p next (Some s) event [] 0 [] [] (next + 1)
    record {
      bytes_is = λ j. sym (none_if (nat_eq j next));
      count_is = λ j. sym (zero_if (nat_eq j next));
      no_datagram = refl;
      open_is = λ j. opened_if (nat_eq j next) s (open_at j);
      within = omega arith;
      grows = omega arith;
      not_begun = λ j late. (apart_later j late, tt);
    }
    record {
      longest = own rows mid events open_at next sent p next;
      few = few_same rows mid events open_at next sent p next;
      stands = λ t is. subst (λ x. StandsFor x (brought next events ++ []) (records_of next p.arrivals ++ [])
          (replies_of next p.arrivals p.answers ++ []) (written next events + 0)) (some_session s t is) now;
    }
    whence
    (origins_more whence events event
    (origins_named p.whence next origin events (p.unopened next (omega arith)) p.origins)
    (at_next, tt))
    elsewhere
    (λ t is. subst (λ x. origin_of x ≡ whence next) (some_session s t is) (of ∙ sym at_next))
    mid p.arrivals p.refusals p.answers
    (λ j. sym (none_more (nat_eq j next) (records_of j p.arrivals)))
    (λ j. sym (none_more (nat_eq j next) (replies_of j p.arrivals p.answers)))
    refl refl (order_same events event p.arrivals p.order)
    (merged_same p.whence whence next (λ j apart. ap (λ b. if b then origin else p.whence j) apart) rows mid p.arrivals
    p.refusals
    p.answers records p.run)
  where
    event : Event
    event = Opens next origin

    whence : ℕ → Origin
    whence = named p.whence next origin

    at_next : whence next ≡ origin
    at_next = ap (λ b. if b then origin else p.whence next) (eq-eqb next next refl)

    elsewhere : (j : ℕ) → (j ≡ next → ⊥) → whence j ≡ p.whence j
    elsewhere j apart = by (nat_eq next j) (eqb-true next j)
      where
        by : (b : Bool) → (b ≡ true → next ≡ j) → (if b then origin else p.whence j) ≡ p.whence j
        by true same = absurd (apart (sym (same refl)))
        by false same = refl

    apart_later : (j : ℕ) → next + 1 ≤ j → nat_eq j next ≡ false
    apart_later j late = by (nat_eq j next) (eqb-true j next)
      where
        by : (b : Bool) → (b ≡ true → j ≡ next) → b ≡ false
        by true same = absurd (omega (arith, same refl, late))
        by false same = refl

-- nothing came: the session that is there now stands for what the one before did
pub progress_same : (rows mid : List Row) (events : List Event) (open_at : Sessions) (next : ℕ) (sent : List (List ℕ))
    (i : ℕ) (old s : Session) (p : Progress rows events mid open_at next sent) → open_at i ≡ Some old
    → origin_of s ≡ origin_of old → StandsFor s (brought i events) (records_of i p.arrivals)
    (replies_of i p.arrivals p.answers) (written i events)
    → Progress rows events mid (put open_at i (Some s)) next sent
progress_same rows mid events open_at next sent i old s p at same_one stands = record {
  arrivals = p.arrivals;
  refusals = p.refusals;
  answers = p.answers;
  whence = p.whence;
  origins = p.origins;
  order = p.order;
  run = p.run;
  opened = λ j. same_open (nat_eq j i) s old (open_at j) (λ b. ap open_at (eqb-true j i b) ∙ at) ∙ p.opened j;
  few = p.few;
  each = λ j t is. each_by j t (nat_eq j i) (eqb-true j i) is;
  came = λ j t is. called_by j t (nat_eq j i) (eqb-true j i) is;
  below = λ j t is. below_by j t (nat_eq j i) (eqb-true j i) is;
  fresh = p.fresh;
  unopened = p.unopened;
  datagrams = p.datagrams;
}
  where
    called_by : (j : ℕ) (t : Session) (b : Bool) → (b ≡ true → j ≡ i) → (if b then Some s else open_at j) ≡ Some t
        → origin_of t ≡ p.whence j
    called_by j t true same is =
        subst (λ x. origin_of x ≡ p.whence j) (some_session s t is)
        (same_one ∙ p.came i old at ∙ ap p.whence (sym (same refl)))
    called_by j t false same is = p.came j t is

    each_by : (j : ℕ) (t : Session) (b : Bool) → (b ≡ true → j ≡ i) → (if b then Some s else open_at j) ≡ Some t
        → StandsFor t (brought j events) (records_of j p.arrivals) (replies_of j p.arrivals p.answers)
        (written j events)
    each_by j t true same is =
        subst (λ k. StandsFor t (brought k events) (records_of k p.arrivals) (replies_of k p.arrivals p.answers)
        (written k events)) (sym (same refl))
        (subst (λ x. StandsFor x (brought i events) (records_of i p.arrivals) (replies_of i p.arrivals p.answers)
        (written i events)) (some_session s t is) stands)
    each_by j t false same is = p.each j t is

    below_by : (j : ℕ) (t : Session) (b : Bool) → (b ≡ true → j ≡ i) → (if b then Some s else open_at j) ≡ Some t
        → j < next
    below_by j t true same is = omega (arith, same refl, p.below i old at)
    below_by j t false same is = p.below j t is

-- a datagram comes, and it is answered
pub progress_receives : (rows mid new : List Row) (events : List Event) (open_at : Sessions) (next : ℕ)
    (sent : List (List ℕ)) (caller : Caller) (datagram : List ℕ) (refused : Bool) (reply : Option (List ℕ))
    → Progress rows events mid open_at next sent → AnswerFrom caller mid udp datagram refused new reply
    → Progress rows (events ++ Came caller datagram ∷ []) new open_at next (sent ++ listed reply)
progress_receives rows mid new events open_at next sent caller datagram refused reply p answer = record {
  arrivals = p.arrivals ++ arrival ∷ [];
  refusals = p.refusals ++ refused ∷ [];
  answers = p.answers ++ reply ∷ [];
  whence = p.whence;
  origins = origins_more p.whence events event p.origins tt;
  order = order_more events event p.arrivals (arrival ∷ []) p.order record {
    records = λ j. subst (λ x. Longest most_record (records_of j (p.arrivals ++ arrival ∷ [])) x) (same_brought j)
        (subst (λ x. Longest most_record x (brought j events)) (same_records j) (p.order.all.records j));
    datagrams = one_more arrived_in p.arrivals arrival ∙ ap (λ x. x ++ (caller, datagram) ∷ []) p.order.all.datagrams
        ∙ sym (one_more datagram_in events event);
  };
  run = merged_more p.whence rows mid new p.arrivals arrival p.refusals refused p.answers reply p.run answer;
  opened = λ j. p.opened j ∙ sym (open_more j false events event);
  few = λ j. subst (λ n. n ≤ length (normal (replies_of j (p.arrivals ++ arrival ∷ []) (p.answers ++ reply ∷ []))))
      (same_written j) (subst (λ x. written j events ≤ length (normal x)) (same_replies j) (p.few j));
  each = λ j t at. stands_same t (brought j events) (brought j (events ++ event ∷ [])) (records_of j p.arrivals)
      (records_of j (p.arrivals ++ arrival ∷ [])) (replies_of j p.arrivals p.answers)
      (replies_of j (p.arrivals ++ arrival ∷ []) (p.answers ++ reply ∷ [])) (written j events)
      (written j (events ++ event ∷ [])) (same_brought j) (same_records j) (same_replies j) (same_written j)
      (p.each j t at);
  came = p.came;
  below = p.below;
  unopened = λ j late. never_more j events event (p.unopened j late) tt;
  fresh = λ j late. (sym (same_brought j) ∙ (p.fresh j late).0, sym (same_written j) ∙ (p.fresh j late).1);
  datagrams = ap (λ x. x ++ listed reply) p.datagrams
      ∙ sym (sent_one p.whence rows mid p.arrivals arrival p.refusals p.answers reply p.run);
}
  where
    event : Event
    event = Came caller datagram

    arrival : Arrival
    arrival = Datagram caller datagram

    same_brought : (j : ℕ) → brought j events ≡ brought j (events ++ event ∷ [])
    same_brought j = sym (one_more (bytes_in j) events event ∙ append-nil (brought j events))

    same_records : (j : ℕ) → records_of j p.arrivals ≡ records_of j (p.arrivals ++ arrival ∷ [])
    same_records j = sym (one_more (record_in j) p.arrivals arrival ∙ append-nil (records_of j p.arrivals))

    same_replies : (j : ℕ) → replies_of j p.arrivals p.answers
        ≡ replies_of j (p.arrivals ++ arrival ∷ []) (p.answers ++ reply ∷ [])
    same_replies j = sym (replies_one p.whence j rows mid p.arrivals arrival p.refusals p.answers reply p.run
        ∙ append-nil (replies_of j p.arrivals p.answers))

    same_written : (j : ℕ) → written j events ≡ written j (events ++ event ∷ [])
    same_written j = let more = written_one j events event in omega (arith, more)
