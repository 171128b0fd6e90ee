-- Steps of a loop, one after the other.
use Rattle.std.proofs.Common.{◌≡◌, List, ℕ, [], ◌∷◌, ◌++◌, Option, Some, None, Result, Ok, Err}
use Rattle.std.proofs.Common.{IfSome, IfNone, IfOk, OnErr, sym, subst}
use Rattle.std.proofs.lemmas.List.{append-nil}
use Rattle.registry_rows.specs.Rows.{Row}
use Rattle.registry_sessions.specs.declared.table.SessionTable.{SessionTable}
use Rattle.registry_sessions.specs.declared.origin.Origin.{Origin}
use Rattle.registry_sessions.specs.Events.{Event, Opens}
use Rattle.registry_sessions.specs.Progress.{HasDone, Proceeds, happened}
use Rattle.registry_sessions.specs.declared.fault.OpenFault.{OpenFault}
use Rattle.registry_sessions.specs.declared.fault.SessionFault.{SessionFault}
use Rattle.registry_sessions.specs.declared.fault.Taken.{Taken}
use Rattle.registry_sessions.proofs.Alone.{steps_join}
use Rattle.oncrpc_sessions.specs.Loops.{Goes}

pub goes_none : (table : SessionTable) (rows : List Row) → Goes table table rows rows
goes_none table rows = record {
  events = [];
  said = [];
  proceeds = λ all events sent p. subst (λ x. HasDone all x rows table (sent ++ [])) (sym (append-nil events))
      (subst (λ x. HasDone all events rows table x) (sym (append-nil sent)) p);
}

pub goes_by : (old new : SessionTable) (mid after : List Row) (events : List Event) (said : List (List ℕ))
    → Proceeds old new mid after events said → Goes old new mid after
goes_by old new mid after events said p = record { events = events; said = said; proceeds = p }

pub goes_then : (a b c : SessionTable) (rows mid new : List Row) → Goes a b rows mid → Goes b c mid new
    → Goes a c rows new
goes_then a b c rows mid new first second = record {
  events = first.events ++ second.events;
  said = first.said ++ second.said;
  proceeds = steps_join a b c rows mid new first.events second.events first.said second.said first.proceeds
      second.proceeds;
}

-- the same where a call says what was done of what it found, and that else nothing was
pub goes_if : {A : Type 0} (old new : SessionTable) (o : Option A) (events : List Event)
    → IfSome o (λ a. (rows : List Row) → Proceeds old new rows rows events [])
    → IfNone o ((rows : List Row) → Proceeds old new rows rows [] []) → (rows : List Row) → Goes old new rows rows
goes_if old new (Some a) events some none rows = goes_by old new rows rows events [] (some rows)
goes_if old new None events some none rows = goes_by old new rows rows [] [] (none rows)

pub goes_same : {A : Type 0} (old new : SessionTable) (o : Option A) (events : List Event)
    → IfSome o (λ a. (rows : List Row) → Proceeds old new rows rows events []) → IfNone o (new ≡ old)
    → (rows : List Row) → Goes old new rows rows
goes_same old new (Some a) events some none rows = goes_by old new rows rows events [] (some rows)
goes_same old new None events some none rows = subst (λ x. Goes old x rows rows) (sym none) (goes_none old rows)

-- bytes that a session was given
pub goes_taken : (old new : SessionTable) (mid after : List Row) (number : ℕ) (piece : List ℕ)
    (o : Option (Result Taken SessionFault))
    → IfSome o (λ r. Proceeds old new mid after (happened number piece r) [])
    → IfNone o ((new ≡ old) × (after ≡ mid)) → Goes old new mid after
goes_taken old new mid after number piece (Some r) some none =
    goes_by old new mid after (happened number piece r) [] some
goes_taken old new mid after number piece None some none =
    subst (λ x. Goes old x mid after) (sym none.0) (subst (λ x. Goes old old mid x) (sym none.1) (goes_none old mid))

-- a session that was begun, or could not be
pub goes_open : (origin : Origin) (old new : SessionTable) (r : Result ℕ OpenFault)
    → IfOk r (λ i. (rows : List Row) → Proceeds old new rows rows (Opens i origin ∷ []) [])
    → OnErr r ((rows : List Row) → Proceeds old new rows rows [] []) → (rows : List Row) → Goes old new rows rows
goes_open origin old new (Ok i) ok err rows = goes_by old new rows rows (Opens i origin ∷ []) [] (ok rows)
goes_open origin old new (Err f) ok err rows = goes_by old new rows rows [] [] (err rows)
