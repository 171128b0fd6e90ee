-- Faults that were answered before, and new ones.
use Rattle.std.proofs.Common.{◌≡◌, ◌≢◌, ◌⊎◌, ℕ, List, inl, inr, Result, Ok, Err, sym, ap, subst}
use Rattle.capture_files.specs.declared.captured.Found.{Found}
use Rattle.capture_files.specs.declared.fault.CaptureFault.{CaptureFault}
use Rattle.capture_files.specs.declared.fault.CaptureStep.{CaptureStep}
use Rattle.capture_files.specs.declared.place.Step.{Step}
use Rattle.capture_files.specs.declared.place.Step.TheVariants.{Need, Moved, Section, Described, Packet, Refused}
use Rattle.capture_files.specs.declared.progress.Progress.TheVariants.{Gathering, Waiting, Broken}
use Rattle.capture_files.specs.declared.reader.CaptureReader.{CaptureReader}
use Rattle.capture_files.specs.declared.reason.CaptureReason.{CaptureReason}
use Rattle.capture_files.specs.declared.reason.CaptureReason.TheVariants.{NoMemory, Truncated}
use Rattle.capture_files.specs.Faults.{IsRefused, RefusesPiece, RefusesEnd}
use Rattle.capture_files.specs.Gathers.{TellsOfBytes, Gathers}
use Rattle.capture_files.specs.Private.Moves.{Breaks, Goes, IsUncut, LetsGo}

-- a reader that gathers, or whose packet waits, has answered no fault
pub not_gathering : {P : Type 0} (r : CaptureReader) (fault : CaptureFault) → r.progress ≡ Gathering
    → IsRefused r fault → P
not_gathering r fault e h = absurd cc

pub not_waiting : {P : Type 0} (r : CaptureReader) (found : Found) (fault : CaptureFault)
    → r.progress ≡ Waiting found → IsRefused r fault → P
not_waiting r found fault e h = absurd cc

-- a fault stays, and a new one does not say that the file is cut
pub record Follows (old new : CaptureReader) : Type 0 where
  pub still : (fault : CaptureFault) → IsRefused old fault → IsRefused new fault
  pub fresh : (fault : CaptureFault) → IsRefused new fault → IsRefused old fault ⊎ (fault.reason ≢ Truncated)

pub follows_let_go : (old new : CaptureReader) → LetsGo old new → Follows old new
follows_let_go old new h = record { still = h.still; fresh = λ fault e. inl (h.before fault e) }

pub follows_take : (old mid new : CaptureReader) → Follows old mid → mid.progress ≡ Gathering → IsUncut new.progress
    → Follows old new
follows_take old mid new h e uncut = record {
  still = λ fault k. not_gathering mid fault e (h.still fault k);
  fresh = λ fault k. inr (subst IsUncut k uncut);
}

-- ---- a piece

pub piece_gathers : (old new : CaptureReader) (step : CaptureStep) → Follows old new → new.progress ≡ Gathering
    → RefusesPiece old new (Ok step)
piece_gathers old new step h e =
    record { again = λ fault k. not_gathering new fault e (h.still fault k); inside = tt }

pub piece_waits : (old new : CaptureReader) (step : CaptureStep) (found : Found) → Follows old new
    → new.progress ≡ Waiting found → RefusesPiece old new (Ok step)
piece_waits old new step found h e =
    record { again = λ fault k. not_waiting new found fault e (h.still fault k); inside = tt }

-- a reader answers one fault
one_fault : (r : CaptureReader) (fault other : CaptureFault) → IsRefused r fault → IsRefused r other → fault ≡ other
one_fault r fault other e h = cc

pub piece_broken : (old new : CaptureReader) (fault : CaptureFault) → Follows old new → new.progress ≡ Broken fault
    → RefusesPiece old new (Err fault)
piece_broken old new fault h e =
    let refusal : CaptureFault → Result CaptureStep CaptureFault = λ x. Err x in
    record {
      again = λ other k. (ap refusal (one_fault new fault other e (h.still other k)), h.still other k);
      inside = h.fresh fault e;
    }

-- ---- the end

pub end_gathers : (old new : CaptureReader) (result : Result (Unit {0}) CaptureFault) → LetsGo old new
    → (mid : CaptureReader) → new.progress ≡ Gathering → RefusesEnd new mid result → RefusesEnd old mid result
end_gathers old new (Ok done) go mid e h =
    record { again = λ fault k. not_gathering new fault e (go.still fault k); cut = tt }
end_gathers old new (Err fault) go mid e h = record {
  again = λ other k. not_gathering new other e (go.still other k);
  cut = elim h.cut [
    | inl k ↦ inl (go.before fault k)
    | inr k ↦ inr (k.0, λ bytes ps r. k.1 bytes ps (go.represents bytes ps r))
  ];
}

-- ---- what a unit leads to

tells_uncut : (x : CaptureReason) → TellsOfBytes x → x ≢ Truncated
tells_uncut x told = λ e. subst TellsOfBytes e told

broken_uncut : (new : CaptureReader) (x : CaptureReason) (at : ℕ) → Breaks new x at → x ≢ Truncated
    → IsUncut new.progress
broken_uncut new x at b h =
    subst IsUncut (sym b.broken) (subst (λ (y : CaptureReason). y ≢ Truncated) (sym b.reason_is) h)

open_uncut : (new : CaptureReader) → new.progress ≡ Gathering → IsUncut new.progress
open_uncut new e = subst IsUncut (sym e) tt

pub went_uncut : (old new : CaptureReader) (unit : List ℕ) (next : Step) → Goes old new unit next
    → Gathers unit next → IsUncut new.progress
went_uncut old new unit (Need n) g told = open_uncut new g.open_is
went_uncut old new unit (Moved place) g told = open_uncut new g.open_is
went_uncut old new unit (Section place) g told = open_uncut new g.open_is
went_uncut old new unit (Described place interface) (inl g) told = open_uncut new g.open_is
went_uncut old new unit (Described place interface) (inr b) told =
    broken_uncut new NoMemory old.at b (λ e. absurd cc)
went_uncut old new unit (Packet place found) g told = subst IsUncut (sym g.waits) tt
went_uncut old new unit (Refused x) b told = broken_uncut new x old.at b (tells_uncut x told)
