-- What a reader keeps of the bytes that it has taken.
use Rattle.std.proofs.Common.{ℕ, List}
use Rattle.capture_files.specs.declared.progress.Progress.{Progress}
use Rattle.capture_files.specs.declared.progress.Progress.TheVariants.{Gathering, Waiting, Broken}
use Rattle.capture_files.specs.declared.reader.CaptureReader.{CaptureReader}
use Rattle.capture_files.specs.Represents.{state_of, RepresentsAt, KeptAt, Keeps}
use Rattle.capture_files.specs.Runs.{PacketView, StateView}

kept_at : (p : Progress) (need at : ℕ) (unit : List ℕ) (s : StateView) (bytes : List ℕ) (ps : List PacketView)
    → RepresentsAt p need at unit s bytes ps → KeptAt p unit bytes ps
kept_at Gathering need at unit s bytes ps h = (h.whole, s, h.front, h.spelled)
kept_at (Waiting found) need at unit s bytes ps h = (h.before, h.spelled)
kept_at (Broken fault) need at unit s bytes ps h = tt

pub keeps : (r : CaptureReader) → Keeps r
keeps r = λ bytes ps h. kept_at r.progress r.need r.at r.unit.items (state_of r) bytes ps h
