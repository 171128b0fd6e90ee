-- How the failure of a device is reported.
use Rattle.std.proofs.Common.{◌≡◌, ℕ, Bool, List, Option, Result, Err, arith}
use Rattle.oncrpc_answers.specs.declared.answer.Answer.{Answer}
use Rattle.oncrpc_answers.specs.declared.failure.Failure.{Failure}
use Rattle.oncrpc_answers.specs.declared.failure.Failure.TheVariants as failure
use Rattle.oncrpc_tasks.specs.declared.records.Marking.{Marking}
use Rattle.oncrpc_tasks.specs.Devices.{Reports, Fails}
use Rattle.oncrpc_tasks.specs.Private.Reading.{EndsByDevice}
use Rattle.oncrpc_tasks.specs.Checked.{AnswersInPart, printed_in}
use Rattle.oncrpc_tasks.specs.Private.Printed.{IsCut}
use Rattle.oncrpc_tasks.specs.Right.{Question, IsRightFor}
use Rattle.oncrpc_answers.specs.Status.{failure_status}

pub failed_by : {I O : Type 0} (reports : Reports I O) (i i' : I) (o o' : O) (r : Result Marking Failure) (f : Failure)
    → r ≡ Err f → EndsByDevice reports i i' o o' r → failure_status f ≡ 3 → Fails reports i i' o o' f
failed_by reports i i' o o' r failure.Read is ends three = ends.read is
failed_by reports i i' o o' r failure.TooManyReads is ends three = ends.many is
failed_by reports i i' o o' r failure.Write is ends three = ends.write is
failed_by reports i i' o o' r failure.NoMemory is ends three = omega (arith, three)

-- the beginning of what is printed of a right answer
pub cut_by : (q : Question) (hex : Bool) (left taken taken' : Option (List ℕ)) (a : Answer) (shown : List ℕ)
    → IsRightFor q hex left a shown → IsCut (printed_in q.form shown a) taken taken'
    → AnswersInPart q hex left taken taken'
cut_by q hex left taken taken' a shown right part = record {
  answer = a;
  count = part.count;
  shown = shown;
  right = right;
  cut = part.cut;
  written = part.written;
}
