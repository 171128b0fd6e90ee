-- Looking for the first record of an input.
use Rattle.std.specs.Prelude.{◌≡◌, ℕ, List, [], length, Option, Result, Ok, Err}
use Rattle.std.specs.declared.vec.Vec.{Vec}
use Rattle.std.specs.declared.alloc.Global.{Global}
use Rattle.std.specs.Io.KnownBytes.{Consumes, IsAtEnd}
use Rattle.rpc_record.specs.declared.fault.RecordFault.{RecordFault}
use Rattle.rpc_record.specs.declared.fault.RecordFault.TheVariants as flaw
use Rattle.rpc_record.specs.Marked.{Longest}
use Rattle.rpc_record.specs.Reading.{TooLongAt, HasNoLong, capped}
use Rattle.rpc_engine.specs.declared.fault.ClientFault.{ClientFault}
use Rattle.rpc_engine.specs.declared.fault.ClientFault.TheVariants as fault
use Rattle.rpc_engine.specs.Exchanged.{most_reply, IsFirst}

-- what a fault of the record reader is to the client
abbrev pub client_fault_of : RecordFault → ClientFault
client_fault_of flaw.Read = fault.Read
client_fault_of flaw.TooManyReads = fault.TooManyReads
client_fault_of flaw.NoMemory = fault.NoMemory
client_fault_of f = fault.Record f

-- what looking for the first record says of the input that was read
abbrev pub FirstReads : (input : List ℕ) → Option (List ℕ) → Result (Vec ℕ Global) ClientFault → Type 0
FirstReads input left' (Ok v) = IsFirst v.items input
FirstReads input left' (Err (fault.Record (flaw.TooLong at))) = TooLongAt most_reply [] at input
FirstReads input left' (Err (fault.Record (flaw.Truncated at))) =
    ((at ≡ capped (length input)) × Longest most_reply [] input × HasNoLong most_reply input) × IsAtEnd left'
FirstReads input left' (Err fault.Read) = Longest most_reply [] input × HasNoLong most_reply input
FirstReads input left' (Err fault.TooManyReads) = Longest most_reply [] input × HasNoLong most_reply input
FirstReads input left' (Err fault.NoMemory) = Unit {0}
FirstReads input left' (Err _) = ⊥

pub record FirstRead (left left' : Option (List ℕ)) (result : Result (Vec ℕ Global) ClientFault) : Type 0 where
  pub input : List ℕ
  pub read : Consumes left left' input
  pub reads : FirstReads input left' result
