use Rattle.rpc_record.proofs.stream.RecordStream.next_record.Goals as goal

pub returns-in-Ok-false-clause-next : goal.returns-in-Ok-false-clause-next
returns-in-Ok-false-clause-next g c = rw c.in-Ok-false.field-0-test at c.in-Ok-false.ensures.next
