-- What a stream of records comes to (RFC 5531 section 11).
use Rattle.std.specs.Prelude.{◌≡◌, ℕ, List, [], ◌∷◌, ◌++◌, map, Option, None, Some}
use Rattle.rpc_record.specs.Streamed.{Fails, IsRead}
use Rattle.rpc_record.specs.declared.fault.RecordFault.{RecordFault}
use Rattle.rpc_record.specs.declared.fault.RecordFault.TheVariants as fault
use Rattle.oncrpc_watch.specs.declared.ending.Ending.{Ending}
use Rattle.oncrpc_watch.specs.declared.ending.Ending.TheVariants as ending
use Rattle.oncrpc_watch.specs.declared.stream.TheConstants.{MOST_RECORD}
use Rattle.oncrpc_watch.specs.Events.{Ends, Event, Record}

-- the fault of the records of a stream that is refused
abbrev pub fault_of : Ending → RecordFault
fault_of (ending.TooLong at) = fault.TooLong at
fault_of (ending.Truncated at) = fault.Truncated at

-- each record
abbrev pub records : List (List ℕ) → List Event
records rs = map (λ (r : List ℕ). Record r) rs

-- What a source with these bytes left comes to, read to its end or to what is refused of it: its records, and why it is
-- refused, where it is.
abbrev pub AreEvents : (name : List ℕ) → (left left' : Option (List ℕ)) → (rs : List (List ℕ)) → Option Ending
    → List Event → Type 0
AreEvents name left left' rs None events = IsRead MOST_RECORD rs left left' × (events ≡ records rs)
AreEvents name left left' rs (Some e) events =
    Fails MOST_RECORD rs left left' (fault_of e) × (events ≡ records rs ++ Ends name e ∷ [])
