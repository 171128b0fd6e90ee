-- How a reader answers a fault: it stays, and no call has another's reasons.
use Rattle.std.specs.Prelude.{◌≡◌, ◌≢◌, ◌⊎◌, ℕ, List, [], Result, Err, IfErr}
use Rattle.capture_files.specs.declared.fault.CaptureFault.{CaptureFault}
use Rattle.capture_files.specs.declared.fault.CaptureStep.{CaptureStep}
use Rattle.capture_files.specs.declared.progress.Progress.TheVariants.{Broken}
use Rattle.capture_files.specs.declared.reader.CaptureReader.{CaptureReader}
use Rattle.capture_files.specs.declared.reason.CaptureReason.TheVariants.{Truncated}
use Rattle.capture_files.specs.Represents.{Represents}
use Rattle.capture_files.specs.Runs.{PacketView, CutAt}

-- the reader has answered this fault
abbrev pub IsRefused : CaptureReader → CaptureFault → Type 0
IsRefused r fault = r.progress ≡ Broken fault

-- A fault that was answered before is answered again, and from then on.
abbrev pub AnswersAgain : {T : Type 0} → (old new : CaptureReader) → Result T CaptureFault → Type 0
AnswersAgain old new result =
    (fault : CaptureFault) → IsRefused old fault → (result ≡ Err fault) × IsRefused new fault

-- How a piece is refused: by the fault that was answered before, or by one that is not the end of the file.
pub record RefusesPiece (old new : CaptureReader) (result : Result CaptureStep CaptureFault) : Type 0 where
  pub again : AnswersAgain old new result
  pub inside : IfErr result (λ fault. IsRefused old fault ⊎ (fault.reason ≢ Truncated))

-- The file is cut at this place: all bytes that were taken end inside of the unit there.
abbrev pub EndsInside : CaptureReader → CaptureFault → Type 0
EndsInside r fault = (fault.reason ≡ Truncated) × ((bytes : List ℕ) (ps : List PacketView)
    → Represents r bytes ps → (cut : CutAt fault.at bytes ps) × (cut.more ≡ []))

-- How the end of a file is refused: by the fault that was answered before, or since the file is cut. No memory is
-- taken.
pub record RefusesEnd (old new : CaptureReader) (result : Result (Unit {0}) CaptureFault) : Type 0 where
  pub again : AnswersAgain old new result
  pub cut : IfErr result (λ fault. IsRefused old fault ⊎ EndsInside old fault)
