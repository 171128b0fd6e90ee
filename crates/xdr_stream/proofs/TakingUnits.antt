-- What a unit that was taken or refused says, from its parts.
use Rattle.std.proofs.Common.{ℕ, List}
use Rattle.std.specs.Prelude.{Result, Ok, Err, IfOk, IfErr}
use Rattle.xdr_types.specs.Kinds.{KindView, Part}
use Rattle.xdr_types.specs.Within.{Bounds}
use Rattle.xdr_stream.specs.Trace.{Trace}
use Rattle.xdr_stream.specs.Private.Live.{IsLive}
use Rattle.xdr_stream.specs.Private.Moves.{TakesUnit, RefusesUnit, SparesSeen, TookUnit, RefusedUnit}
use Rattle.xdr_stream.specs.declared.fault.Reason.{Reason}
use Rattle.xdr_stream.specs.declared.machine.Awaits.{Awaits}

pub took : (s : List KindView) (H : Trace → Type 0) (a : Awaits) (fs : List (List Part)) (I : Trace → Type 0)
    (gs : List (List Part)) (u : List ℕ) (r : Result Awaits Reason)
    → IfOk r IsLive → IfOk r (λ (b : Awaits). TakesUnit s H a fs I b gs u) → IfOk r (TookUnit s H a fs I gs u)
took s H a fs I gs u (Ok b) live taken = record { live = live; taken = taken }
took s H a fs I gs u (Err e) live taken = tt

pub refused : (z : Type 0) (s : List KindView) (H : Trace → Type 0) (a : Awaits) (fs : List (List Part)) (u : List ℕ)
    (r : Result Awaits Reason) → IfErr r (RefusesUnit s H a fs u)
    → IfErr r (λ (e : Reason). (l : Bounds) → SparesSeen z s l H a fs e) → IfErr r (RefusedUnit z s H a fs u)
refused z s H a fs u (Ok b) not_taken spared = tt
refused z s H a fs u (Err e) not_taken spared = record { refused = not_taken; spared = spared }
