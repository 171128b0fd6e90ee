-- What an outbox was handed, and what of it went out.
use Rattle.std.specs.Prelude.{◌≡◌, ℕ, ◌+◌, ◌<◌, List, ◌++◌, length, take, Option}
use Rattle.std.specs.Io.KnownBytes.{Appends}
use Rattle.rpc_record.specs.declared.fault.RecordFault.{RecordFault}
use Rattle.rpc_record.specs.declared.fault.RecordFault.TheVariants as fault
use Rattle.rpc_record.specs.declared.outbox.Outbox.{Outbox}
use Rattle.rpc_record.specs.Reading.{capped}

-- the bytes that wait
abbrev pub waiting : Outbox → List ℕ
waiting box = take box.used box.buffer

-- These bytes were handed over, after those that waited. Some of all these went out in order and were counted, and the
-- rest waits.
pub record Sends (old new : Outbox) (taken taken' : Option (List ℕ)) (bytes : List ℕ) : Type 0 where
  pub out : List ℕ
  pub joined : waiting old ++ bytes ≡ out ++ waiting new
  pub wrote : Appends taken taken' out
  pub counted : (n : ℕ) → old.count.bytes ≡ capped n → new.count.bytes ≡ capped (n + length out)

-- A write failed while these bytes were handed over: only a front of what waited and of these bytes went out, and the
-- fault says where it ends.
abbrev pub SendingCut : Outbox → Option (List ℕ) → Option (List ℕ) → List ℕ → RecordFault → Type 0
SendingCut old taken taken' bytes (fault.Write written) =
    (w : ℕ) × ((w < length (waiting old ++ bytes)) × ((n : ℕ) → old.count.bytes ≡ capped n → written ≡ capped (n + w))
    × Appends taken taken' (take w (waiting old ++ bytes)))
SendingCut old taken taken' bytes _ = ⊥
