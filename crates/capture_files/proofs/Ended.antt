-- The end of a file.
use Rattle.std.proofs.Common.{◌≡◌, ℕ, ◌<◌, List, [], ◌++◌, length, Result, Ok, Err, inr, refl, sym, ap, subst, ◌∙◌}
use Rattle.std.proofs.lemmas.List.{append-nil}
use Rattle.capture_files.specs.declared.fault.CaptureFault.{CaptureFault}
use Rattle.capture_files.specs.declared.progress.Progress.{Progress}
use Rattle.capture_files.specs.declared.progress.Progress.TheVariants.{Gathering, Broken}
use Rattle.capture_files.specs.declared.reader.CaptureReader.{CaptureReader}
use Rattle.capture_files.specs.declared.reason.CaptureReason.{CaptureReason}
use Rattle.capture_files.specs.declared.reason.CaptureReason.TheVariants.{Truncated}
use Rattle.capture_files.specs.Faults.{RefusesEnd}
use Rattle.capture_files.specs.Private.Moves.{IsBetween, IsInside, LetsGo}
use Rattle.capture_files.specs.Represents.{state_of, Faulty, RepresentsAt, Represents, Ends}
use Rattle.capture_files.specs.Runs.{PacketView, Front, IsCapture, CutAt}
use Rattle.capture_files.proofs.Faults.{not_gathering}
use Rattle.capture_files.proofs.Taking.{holds_of}

-- between two units a file ends well
pub capture_is : (r : CaptureReader) (bytes : List ℕ) (ps : List PacketView) → r.progress ≡ Gathering → IsBetween r
    → Represents r bytes ps → IsCapture bytes ps
capture_is r bytes ps e between h =
    let held = holds_of r bytes ps e h in
    let whole : held.whole ≡ bytes =
    sym (held.spelled ∙ ap (λ (x : List ℕ). held.whole ++ x) between.empty ∙ append-nil held.whole) in
    record {
      state = state_of r;
      front = subst (λ (x : List ℕ). Front x ps (state_of r)) whole held.front;
      ends = between.may_end;
    }

-- inside of one it is cut
cut_at : (r : CaptureReader) (at : ℕ) (bytes : List ℕ) (ps : List PacketView) → r.progress ≡ Gathering → IsInside r
    → length r.unit.items < r.need → at ≡ r.at → Represents r bytes ps
    → (cut : CutAt at bytes ps) × (cut.more ≡ [])
cut_at r at bytes ps e inside short here h =
    let held = holds_of r bytes ps e h in
    let cut : CutAt at bytes ps =
    record {
      whole = held.whole;
      unit = r.unit.items;
      more = [];
      state = state_of r;
      front = held.front;
      spelled = held.spelled ∙ ap (λ (x : List ℕ). held.whole ++ x) (sym (append-nil r.unit.items));
      need = r.need;
      asked = held.asked;
      asks = held.asks;
      place = here ∙ held.place;
      short = short;
      inside = inside;
    } in
    (cut, refl)

pub refuses_cut : (r new : CaptureReader) (fault : CaptureFault) → r.progress ≡ Gathering → IsInside r
    → length r.unit.items < r.need → fault.reason ≡ Truncated → fault.at ≡ r.at → RefusesEnd r new (Err fault)
refuses_cut r new fault e inside short why at = record {
  again = λ other k. not_gathering r other e k;
  cut = inr (why, λ bytes ps h. cut_at r fault.at bytes ps e inside short at h);
}

pub cut_is : (r new : CaptureReader) (fault : CaptureFault) (bytes : List ℕ) (ps : List PacketView)
    → r.progress ≡ Gathering → IsInside r → length r.unit.items < r.need → new.progress ≡ Broken fault
    → fault.reason ≡ Truncated → fault.at ≡ r.at
    → Represents r bytes ps → Represents new bytes ps
cut_is r new fault bytes ps e inside short broken why at h =
    let cut : CutAt fault.at bytes ps = (cut_at r fault.at bytes ps e inside short at h).0 in
    subst (λ (p : Progress). RepresentsAt p new.need new.at new.unit.items (state_of new) bytes ps) (sym broken)
    (subst (λ (x : CaptureReason). Faulty x fault.at bytes ps) (sym why) cut)

pub ends_after : (old mid new : CaptureReader) (result : Result (Unit {0}) CaptureFault) → LetsGo old mid
    → Ends mid new result → Ends old new result
ends_after old mid new (Ok done) go h = λ bytes ps represents. h bytes ps (go.represents bytes ps represents)
ends_after old mid new (Err fault) go h =
    (h.0, λ bytes ps represents. h.1 bytes ps (go.represents bytes ps represents))
