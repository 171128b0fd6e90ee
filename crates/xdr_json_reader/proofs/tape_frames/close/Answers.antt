use Rattle.xdr_json_reader.proofs.Parsing.{closed_array, closed_object}
use Rattle.xdr_json_reader.proofs.tape_frames.close.Goals as goal

pub returns-in-Array-clause-value : goal.returns-in-Array-clause-value
returns-in-Array-clause-value c = rw c.in-Array.is (closed_array c.in-Array.items c.in-Array.key c.in-Array.at)

pub returns-in-Object-clause-value : goal.returns-in-Object-clause-value
returns-in-Object-clause-value c = rw c.in-Object.is (closed_object c.in-Object.members c.in-Object.key c.in-Object.at)
