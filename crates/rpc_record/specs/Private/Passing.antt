-- Where handing on the records of a stream begins, and what it reads.
use Rattle.std.specs.Prelude.{◌≡◌, ℕ, ◌≤◌, List, [], Option, Result, IsErrOf}
use Rattle.xdr_io.specs.Reported.{Counts, CountsAtMost}
use Rattle.xdr_io.specs.declared.input.TheConstants.{MOST_READS}
use Rattle.rpc_record.specs.declared.fault.RecordFault.{RecordFault}
use Rattle.rpc_record.specs.declared.fault.RecordFault.TheVariants as fault
use Rattle.rpc_record.specs.declared.fault.Count.{Count}
use Rattle.rpc_record.specs.declared.outbox.Outbox.{Outbox}
use Rattle.rpc_record.specs.declared.stream.RecordStream.{RecordStream}
use Rattle.rpc_record.specs.Streamed.{HasRead, IsOpen, reads_of}

-- the stream has read nothing and handed out no record, and the outbox was handed nothing
pub record IsStarted (stream : RecordStream) (box : Outbox) : Type 0 where
  pub limit : stream.records.limit ≤ 2147483647
  pub opened : IsOpen stream
  pub unread : reads_of stream ≡ 0
  pub read : (left : Option (List ℕ)) → HasRead stream.records.limit stream [] left left
  pub empty : box.used ≡ 0
  pub records : box.count.records ≡ 0
  pub bytes : box.count.bytes ≡ 0

-- so many reads are made at most, and all of them where there were too many
pub record ReadsAtMost (reads reads' : Option ℕ) (result : Result Count RecordFault) : Type 0 where
  pub most : CountsAtMost MOST_READS reads reads'
  pub many : IsErrOf result fault.TooManyReads → Counts MOST_READS reads reads'
