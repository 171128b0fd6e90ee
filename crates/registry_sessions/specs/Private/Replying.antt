-- What answering one record does to the bytes of the replies.
use Rattle.std.specs.Prelude.{◌≡◌, ℕ, ◌≤◌, Bool, List, [], ◌∷◌, ◌++◌, length, Option}
use Rattle.rpc_record.specs.declared.fault.RecordFault.{RecordFault}
use Rattle.rpc_record.specs.declared.fault.RecordFault.TheVariants as flaw
use Rattle.rpc_record.specs.declared.reader.RecordReader.{RecordReader}
use Rattle.rpc_record.specs.Marked.{normal}
use Rattle.rpc_record.specs.Reading.{IsWhole}
use Rattle.rpc_record.specs.Represents.{Always, IsBetween, Moves, limit_of}
use Rattle.registry_rows.specs.Rows.{Row}
use Rattle.registry_answer.specs.Views.{netid_of}
use Rattle.registry_sessions.specs.declared.origin.Origin.{Origin}
use Rattle.registry_callers.specs.From.{AnswerFrom}
use Rattle.rpc_engine.specs.Run.{listed}
use Rattle.registry_sessions.specs.Bounds.{most_marked}
use Rattle.registry_sessions.specs.declared.fault.SessionFault.{SessionFault}
use Rattle.registry_sessions.specs.declared.fault.SessionFault.TheVariants as fault

-- The record was answered, and its reply, if it wants one, is one last fragment behind the old bytes.
pub record PushesReply (origin : Origin) (rows : List Row) (message : List ℕ) (new : List Row) (old out : List ℕ)
    : Type 0 where
  pub refused : Bool
  pub sent : Option (List ℕ)
  pub answer : AnswerFrom origin.caller rows (netid_of origin.transport) message refused new sent
  pub added : out ≡ old ++ normal (listed sent)
  pub short : length (normal (listed sent)) ≤ most_marked

-- The record that waited was handed out and answered. The bytes taken end with it.
pub record AnswersNext (origin : Origin) (rows : List Row) (before after : RecordReader) (new : List Row)
    (old out : List ℕ) : Type 0 where
  pub message : List ℕ
  pub between : IsBetween after
  pub handed : Always before (λ rs bytes. IsWhole (limit_of before) (rs ++ message ∷ []) bytes)
  pub limit : limit_of after ≡ limit_of before
  pub moves : Moves before after [] (message ∷ [])
  pub pushes : PushesReply origin rows message new old out

-- what a fault of the record reader is to the session
abbrev pub fault_of : RecordFault → SessionFault
fault_of flaw.NoMemory = fault.NoMemory
fault_of f = fault.Record f
