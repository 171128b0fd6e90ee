-- A table, one call on.
use Rattle.std.proofs.Common.{◌≡◌, ℕ, nat_eq, Bool, true, false, List, [], ◌∷◌, ◌++◌}
use Rattle.std.proofs.Common.{take}
use Rattle.std.proofs.Common.{Option, Some, None, Result, Ok, Err, refl, sym, ap, ◌∙◌, subst}
use Rattle.std.proofs.Common.{true≢false}
use Rattle.std.proofs.Common.{cond, length}
use Rattle.std.proofs.lemmas.List.{append-nil}
use Rattle.std.proofs.lemmas.Bool.{eqb-true, eq-eqb}
use Rattle.std.specs.Cmp.{nat_eq_equiv}
use Rattle.registry_rows.specs.Rows.{Row}
use Rattle.rpc_record.specs.declared.fault.RecordFault.{RecordFault}
use Rattle.rpc_record.specs.declared.fault.RecordFault.TheVariants as flaw
use Rattle.rpc_record.proofs.Places.{Longest-long}
use Rattle.rpc_record.proofs.Readers.{TooLongAt-more}
use Rattle.rpc_engine.specs.Served.{most_record}
use Rattle.registry_sessions.specs.declared.fault.SessionFault.{SessionFault}
use Rattle.registry_sessions.specs.declared.fault.SessionFault.TheVariants as fault
use Rattle.registry_sessions.specs.declared.fault.Taken.{Taken}
use Rattle.registry_sessions.specs.declared.fault.Taken.TheVariants as taken
use Rattle.registry_sessions.specs.declared.session.Session.{Session}
use Rattle.registry_sessions.specs.Represents as session
use Rattle.registry_sessions.specs.Represents.{HasRead, Holds, origin_of, output_of, TakesIn}
use Rattle.registry_sessions.specs.Events.{Event, Brings, Drops, brought, written, records_of}
use Rattle.registry_sessions.specs.Interleaved.{FlawedIn, replies_of}
use Rattle.registry_sessions.specs.Progress.{Sessions, put, Progress, StandsFor, happened}
use Rattle.registry_sessions.proofs.Events.{progress_answers, progress_takes, progress_flawed, progress_drops}
use Rattle.registry_sessions.proofs.Events.{progress_same, stands_broken}

abbrev is_fine : {A E : Type 0} → Result A E → Bool
is_fine (Ok a) = true
is_fine (Err e) = false

abbrev error_or : {A : Type 0} → SessionFault → Result A SessionFault → SessionFault
error_or other (Ok a) = other
error_or other (Err f) = f

-- no fault had come where bytes were taken
sound : {A : Type 0} (r : A) (result : Result A SessionFault) (o : Option SessionFault) → result ≡ Ok r
    → ((f : SessionFault) → o ≡ Some f → result ≡ Err f) → o ≡ None
sound r result None e stays = refl
sound r result (Some f) e stays = absurd (true≢false (ap is_fine (sym e ∙ stays f refl)))

module _ (rows mid : List Row) (events : List Event) (open_at : Sessions) (next : ℕ) (sent : List (List ℕ))
    (p : Progress rows events mid open_at next sent) (i : ℕ) (old s : Session) (at : open_at i ≡ Some old) where
  same_after : (new : List Row) → new ≡ mid → Progress rows events mid (put open_at i (Some s)) next sent
      → Progress rows (events ++ []) new (put open_at i (Some s)) next (sent ++ [])
  same_after new e q = subst (λ x. Progress rows x new (put open_at i (Some s)) next (sent ++ []))
      (sym (append-nil events))
      (subst (λ x. Progress rows events new (put open_at i (Some s)) next x) (sym (append-nil sent))
      (subst (λ x. Progress rows events x (put open_at i (Some s)) next sent) (sym e) q))

  none_sent : (new : List Row) (more : List Event)
      → Progress rows (events ++ more) new (put open_at i (Some s)) next sent
      → Progress rows (events ++ more) new (put open_at i (Some s)) next (sent ++ [])
  none_sent new more q =
      subst (λ x. Progress rows (events ++ more) new (put open_at i (Some s)) next x) (sym (append-nil sent)) q

  -- where a fault had come before, it is answered, and nothing changes
  module _ (after : List Row) (piece : List ℕ) (result : Result Taken SessionFault) (f : SessionFault)
      (is : result ≡ Err f) (breaks : session.Breaks old s mid after piece f) (stays : session.Stays old s result) where
    same_fault : (g : SessionFault) → old.fault ≡ Some g → f ≡ g
    same_fault g e = ap (error_or f) (sym is ∙ (stays.broken g e).0)

    flawed_before : (rs : List (List ℕ)) (bytes : List ℕ)
        → ((g : SessionFault) → old.fault ≡ Some g → FlawedIn rs g bytes)
        → (g : SessionFault) → old.fault ≡ Some g → FlawedIn rs f bytes
    flawed_before rs bytes before g e = subst (λ x. FlawedIn rs x bytes) (sym (same_fault g e)) (before g e)

    changed : (more : List Event) → Progress rows (events ++ more) mid (put open_at i (Some s)) next sent
        → Progress rows (events ++ more) after (put open_at i (Some s)) next (sent ++ [])
    changed more q = none_sent after more
        (subst (λ x. Progress rows (events ++ more) x (put open_at i (Some s)) next sent) (sym breaks.same_rows) q)

  -- no other fault comes
  other : (after : List Row) (piece : List ℕ) (g : RecordFault) → TakesIn old s mid after piece (Err (fault.Record g))
      → ((rs : List (List ℕ)) (n : ℕ) (bytes : List ℕ) → session.Flawed rs (fault.Record g) n bytes → ⊥)
      → ((rs : List (List ℕ)) (bytes : List ℕ) → FlawedIn rs (fault.Record g) bytes → ⊥) → ⊥
  other after piece g h none nowhere = by old.fault refl
    where
      by : (o : Option SessionFault) → old.fault ≡ o → ⊥
      by None e = none (records_of i p.arrivals) (length piece) (brought i events ++ piece)
          (h.fault.flawed (brought i events) (records_of i p.arrivals) ((p.each i old at).reads e))
      by (Some k) e = nowhere (records_of i p.arrivals) (brought i events)
          (flawed_before after piece (Err (fault.Record g)) (fault.Record g) refl h.fault h.stays
          (records_of i p.arrivals) (brought i events) (p.each i old at).flawed k e)

  pub take_proceeds : (after : List Row) (piece : List ℕ) (result : Result Taken SessionFault)
      → TakesIn old s mid after piece result
      → Progress rows (events ++ happened i piece result) after (put open_at i (Some s)) next (sent ++ [])
  take_proceeds after piece (Ok taken.More) h =
      none_sent after (Brings i piece ∷ [])
      (subst (λ x. Progress rows (events ++ Brings i piece ∷ []) x (put open_at i (Some s)) next sent) (sym h.taken.0)
      (progress_takes rows mid events open_at next sent p i old s piece at
      (sound taken.More (Ok taken.More) old.fault refl (λ f e. (h.stays.broken f e).0)) h.same_origin h.taken.1
      h.taken.2))
  take_proceeds after piece (Ok (taken.Answered used)) h =
      none_sent after (Brings i (take used piece) ∷ [])
      (progress_answers rows mid events open_at next sent p i after old s (take used piece) at
      (sound (taken.Answered used) (Ok (taken.Answered used)) old.fault refl (λ f e.
      (h.stays.broken f e).0)) h.same_origin h.taken.2)
  take_proceeds after piece (Ok taken.Full) h =
      same_after after h.taken.0 (progress_same rows mid events open_at next sent i old s p at h.same_origin
      (subst (λ x. StandsFor x (brought i events) (records_of i p.arrivals) (replies_of i p.arrivals p.answers)
      (written i events)) (sym h.taken.1) (p.each i old at)))
  take_proceeds after piece (Err (fault.Record (flaw.TooLong place))) h =
      let f = fault.Record (flaw.TooLong place) in
      let q = long_by old.fault refl in
      changed after piece (Err f) f refl h.fault h.stays (Brings i piece ∷ [])
      (progress_flawed rows mid events open_at next sent p i old s f piece at h.fault.broken h.fault.same_output
      h.same_origin
      (Longest-long most_record place (records_of i p.arrivals) (brought i events ++ piece) q) q)
    where
      long_by : (o : Option SessionFault) → old.fault ≡ o
          → FlawedIn (records_of i p.arrivals) (fault.Record (flaw.TooLong place)) (brought i events ++ piece)
      long_by None e = (h.fault.flawed (brought i events) (records_of i p.arrivals) ((p.each i old at).reads e)).0
      long_by (Some g) e = TooLongAt-more most_record place (records_of i p.arrivals) (brought i events) piece
          (flawed_before after piece (Err (fault.Record (flaw.TooLong place))) (fault.Record (flaw.TooLong place)) refl
          h.fault h.stays (records_of i p.arrivals) (brought i events) (p.each i old at).flawed g e)
  take_proceeds after piece (Err (fault.Record (flaw.Truncated place))) h =
      let f = fault.Record (flaw.Truncated place) in
      changed after piece (Err f) f refl h.fault h.stays (Drops i piece ∷ [])
      (progress_drops rows mid events open_at next sent p i old s f piece at h.fault.broken h.fault.same_output
      h.same_origin
      (cut_by old.fault refl))
    where
      cut_by : (o : Option SessionFault) → old.fault ≡ o
          → FlawedIn (records_of i p.arrivals) (fault.Record (flaw.Truncated place)) (brought i events)
      cut_by None e =
          absurd (h.fault.flawed (brought i events) (records_of i p.arrivals) ((p.each i old at).reads e))
      cut_by (Some g) e =
          flawed_before after piece (Err (fault.Record (flaw.Truncated place)))
          (fault.Record (flaw.Truncated place)) refl h.fault h.stays (records_of i p.arrivals) (brought i events)
          (p.each i old at).flawed g e
  take_proceeds after piece (Err fault.NoMemory) h =
      changed after piece (Err fault.NoMemory) fault.NoMemory refl h.fault h.stays (Drops i piece ∷ [])
      (progress_drops rows mid events open_at next sent p i old s fault.NoMemory piece at h.fault.broken
      h.fault.same_output h.same_origin tt)
  take_proceeds after piece (Err (fault.Record flaw.Read)) h =
      absurd (other after piece flaw.Read h (λ rs n bytes k. k) (λ rs bytes k. k))
  take_proceeds after piece (Err (fault.Record (flaw.Write w))) h =
      absurd (other after piece (flaw.Write w) h (λ rs n bytes k. k) (λ rs bytes k. k))
  take_proceeds after piece (Err (fault.Record flaw.TooManyReads)) h =
      absurd (other after piece flaw.TooManyReads h (λ rs n bytes k. k) (λ rs bytes k. k))
  take_proceeds after piece (Err (fault.Record flaw.NoMemory)) h =
      absurd (other after piece flaw.NoMemory h (λ rs n bytes k. k) (λ rs bytes k. k))

-- what the end of its input does to a session
pub end_proceeds : (rows mid : List Row) (events : List Event) (open_at : Sessions) (next : ℕ) (sent : List (List ℕ))
    (p : Progress rows events mid open_at next sent) (i : ℕ) (old s : Session) → open_at i ≡ Some old
    → (result : Result (Unit {0}) SessionFault) → session.Concludes old s result → output_of s ≡ output_of old
    → Progress rows (events ++ []) mid (put open_at i (Some s)) next (sent ++ [])
end_proceeds rows mid events open_at next sent p i old s at result h out =
    same_after rows mid events open_at next sent p i old s at mid refl
    (progress_same rows mid events open_at next sent i old s p at (called_by result h) (by result h))
  where
    called_by : (r : Result (Unit {0}) SessionFault) → session.Concludes old s r → origin_of s ≡ origin_of old
    called_by (Ok u) c = ap origin_of c.0
    called_by (Err f) c = c.1

    before : StandsFor old (brought i events) (records_of i p.arrivals) (replies_of i p.arrivals p.answers)
        (written i events)
    before = p.each i old at

    broken_by : (f : SessionFault) → session.Concludes old s (Err f) → (o : Option SessionFault) → old.fault ≡ o
        → StandsFor s (brought i events) (records_of i p.arrivals) (replies_of i p.arrivals p.answers)
        (written i events)
    broken_by f c None e =
        let told = c.3 (brought i events) (records_of i p.arrivals) (before.reads e) in
        stands_broken s f (brought i events) (records_of i p.arrivals) (replies_of i p.arrivals p.answers)
        (written i events) c.0
        (subst (λ x. FlawedIn (records_of i p.arrivals) x (brought i events)) (sym told.0) (refl, told.1))
        record { few = before.holds.few; waits = out ∙ before.holds.waits }
    broken_by f c (Some g) e =
        subst (λ x. StandsFor x (brought i events) (records_of i p.arrivals) (replies_of i p.arrivals p.answers)
        (written i events)) (sym (c.2 g e)) before

    by : (r : Result (Unit {0}) SessionFault) → session.Concludes old s r
        → StandsFor s (brought i events) (records_of i p.arrivals) (replies_of i p.arrivals p.answers)
        (written i events)
    by (Ok u) c = subst (λ x. StandsFor x (brought i events) (records_of i p.arrivals)
        (replies_of i p.arrivals p.answers) (written i events)) (sym c.0) before
    by (Err f) c = broken_by f c old.fault refl

-- ---- the map of sessions

-- the sessions with one changed in the map
pub put_is : (f g : Sessions) (i : ℕ) (w : Option Session) → ((q : ℕ) → g q ≡ cond (nat_eq i q) w (f q)) → (j : ℕ)
    → g j ≡ put f i w j
put_is f g i w h j = h j ∙ ap (λ b. cond b w (f j)) (nat_eq_equiv.symm i j)

pub put_here : (f g : Sessions) (i : ℕ) (w : Option Session) → ((q : ℕ) → g q ≡ cond (nat_eq i q) w (f q)) → g i ≡ w
put_here f g i w h = h i ∙ ap (λ b. cond b w (f i)) (eq-eqb i i refl)

pub put_others : (f g : Sessions) (i : ℕ) (w : Option Session) → ((q : ℕ) → g q ≡ cond (nat_eq i q) w (f q)) → (j : ℕ)
    → (j ≡ i → ⊥) → g j ≡ f j
put_others f g i w h j apart = by (nat_eq i j) (eqb-true i j) (h j)
  where
    by : (b : Bool) → (b ≡ true → i ≡ j) → g j ≡ cond b w (f j) → g j ≡ f j
    by true same e = absurd (apart (sym (same refl)))
    by false same e = e
