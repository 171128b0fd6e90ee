-- How a reply is counted.
use Rattle.std.specs.Prelude.{◌≡◌, ℕ, ◌+◌, Result, Ok, Err}
use Rattle.xdr_io.specs.declared.whole.Cut.{Cut}
use Rattle.rpc_record.specs.Reading.{capped}
use Rattle.rpc_engine.specs.declared.fault.ServeFault.{ServeFault}
use Rattle.rpc_engine.specs.declared.fault.ServeFault.TheVariants as fault
use Rattle.rpc_engine.specs.declared.session.Session.{Session}

-- what counting a reply does and answers
abbrev pub Counted : Session → Session → Result ℕ Cut → Result (Unit {0}) ServeFault → Type 0
Counted old new (Ok size) (Ok _) =
    (new.served.records ≡ old.served.records) × (new.served.replies ≡ capped (old.served.replies + 1))
    × (new.written ≡ capped (old.written + size))
Counted old new (Err cut) (Err (fault.Write written)) = (new ≡ old) × (written ≡ capped (old.written + cut.written))
Counted old new _ _ = ⊥

-- what counting a record does
pub record HasBegun (old new : Session) : Type 0 where
  pub records : new.served.records ≡ capped (old.served.records + 1)
  pub answered : new.served.replies ≡ old.served.replies
  pub bytes : new.written ≡ old.written
