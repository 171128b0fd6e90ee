-- What a reader stands for behind bytes that it took.
use Rattle.std.proofs.Common.{◌≡◌, ℕ, ◌+◌, List, [], ◌++◌, length, take, drop, refl, sym, ap, subst, ◌∙◌}
use Rattle.std.proofs.Common.{append_assoc, arith}
use Rattle.std.proofs.lemmas.List.{append-nil, take-append-drop, take-take, drop-take, take_all}
use Rattle.capture_files.specs.declared.captured.Found.{Found}
use Rattle.capture_files.specs.declared.fault.CaptureFault.{CaptureFault}
use Rattle.capture_files.specs.declared.place.Step.TheVariants.{Refused}
use Rattle.capture_files.specs.declared.progress.Progress.{Progress}
use Rattle.capture_files.specs.declared.progress.Progress.TheVariants.{Gathering, Waiting, Broken}
use Rattle.capture_files.specs.declared.reader.CaptureReader.{CaptureReader}
use Rattle.capture_files.specs.declared.reason.CaptureReason.{CaptureReason}
use Rattle.capture_files.specs.declared.reason.CaptureReason.TheVariants as reason
use Rattle.capture_files.specs.Private.Moves.{Enters, Looks, IsSettled, LetsGo}
use Rattle.capture_files.specs.Represents.{state_of, waits_at, Holds, Waits, Faulty, RepresentsAt, Represents}
use Rattle.capture_files.specs.Represents.{Takes}
use Rattle.capture_files.specs.Runs.{PacketView, least_unit, capped, RefusedAt, CutAt}
use Rattle.capture_files.proofs.Faults.{not_waiting, not_gathering}
use Rattle.capture_files.proofs.Fronts.{asks_longer}
use Rattle.capture_files.proofs.Represented.{entered, further}

pub holds_of : (r : CaptureReader) (bytes : List ℕ) (ps : List PacketView) → r.progress ≡ Gathering
    → Represents r bytes ps → Holds r.need r.at r.unit.items (state_of r) bytes ps
holds_of r bytes ps e h =
    subst (λ (p : Progress). RepresentsAt p r.need r.at r.unit.items (state_of r) bytes ps) e h

-- a reader that gathers takes bytes, and looks what its unit is then
pub looked : (old new : CaptureReader) (taken : List ℕ) → old.progress ≡ Gathering
    → Looks old new (old.unit.items ++ taken) → Takes old new taken
looked old new taken e looks = λ bytes ps h.
    let held = holds_of old bytes ps e h in
    let all : held.whole ++ (old.unit.items ++ taken) ≡ bytes ++ taken =
    sym (append_assoc held.whole old.unit.items taken) ∙ ap (λ (x : List ℕ). x ++ taken) (sym held.spelled) in
    subst (λ (x : List ℕ). Represents new x (ps ++ waits_at new.progress new.unit.items)) all
    (looks held.whole ps held.asked held.front
    (asks_longer (state_of old) least_unit held.asked old.need old.unit.items taken held.asks) held.place)

pub settled_none : (p : Progress) (unit : List ℕ) → IsSettled p → waits_at p unit ≡ []
settled_none Gathering unit h = refl
settled_none (Waiting found) unit h = absurd h
settled_none (Broken fault) unit h = refl

-- a packet is let go
pub let_go_is : (old new : CaptureReader) (found : Found) → old.progress ≡ Waiting found
    → Enters new old.place old.interfaces.items (capped (old.at + length old.unit.items)) → LetsGo old new
let_go_is old new found wait e = record {
  settled = subst IsSettled (sym e.open_is) tt;
  still = λ fault h. not_waiting old found fault wait h;
  before = λ fault h. not_gathering new fault e.open_is h;
  represents = λ bytes ps h.
      let waits : Waits old.at old.unit.items (state_of old) bytes ps =
      subst (λ (p : Progress). RepresentsAt p old.need old.at old.unit.items (state_of old) bytes ps) wait h in
      let behind = capped (old.at + length old.unit.items) in
      let at : behind ≡ capped (length bytes) =
      further old.at waits.before old.unit.items waits.place
      ∙ ap (λ (x : List ℕ). capped (length x)) (sym waits.spelled) in
      let none : ps ++ waits_at new.progress new.unit.items ≡ ps =
      ap (λ (p : Progress). ps ++ waits_at p new.unit.items) e.open_is ∙ append-nil ps in
      subst (Represents new bytes) none
      (entered new old.place old.interfaces.items behind bytes ps e waits.front at);
}

-- a packet is let go, and nothing is taken
pub let_go_takes : (old new : CaptureReader) → LetsGo old new → Takes old new []
let_go_takes old new h = λ bytes ps represents.
    let none : ps ≡ ps ++ waits_at new.progress new.unit.items =
    sym (append-nil ps)
    ∙ ap (λ (x : List PacketView). ps ++ x) (sym (settled_none new.progress new.unit.items h.settled)) in
    subst (λ (x : List ℕ). Represents new x (ps ++ waits_at new.progress new.unit.items)) (sym (append-nil bytes))
    (subst (Represents new bytes) none (h.represents bytes ps represents))

take-plus : (n m : ℕ) (xs : List ℕ) → take n xs ++ take m (drop n xs) ≡ take (n + m) xs
take-plus n m xs =
    ap (λ (x : List ℕ). x ++ take m (drop n xs)) (sym (take-take n (n + m) xs (omega arith)))
    ∙ ap (λ (x : List ℕ). take n (take (n + m) xs) ++ x) (sym (drop-take n m xs))
    ∙ take-append-drop n (take (n + m) xs)

-- bytes are taken, and then more
pub takes_then : (first mid new : CaptureReader) (n m : ℕ) (piece : List ℕ) → mid.progress ≡ Gathering
    → Takes first mid (take n piece) → Takes mid new (take m (drop n piece)) → Takes first new (take (n + m) piece)
takes_then first mid new n m piece e one two = λ bytes ps h.
    let none : ps ++ waits_at mid.progress mid.unit.items ≡ ps =
    ap (λ (p : Progress). ps ++ waits_at p mid.unit.items) e ∙ append-nil ps in
    let both : (bytes ++ take n piece) ++ take m (drop n piece) ≡ bytes ++ take (n + m) piece =
    append_assoc bytes (take n piece) (take m (drop n piece))
    ∙ ap (λ (x : List ℕ). bytes ++ x) (take-plus n m piece) in
    let held = subst (Represents mid (bytes ++ take n piece)) none (one bytes ps h) in
    subst (λ (x : List ℕ). Represents new x (ps ++ waits_at new.progress new.unit.items)) both
    (two (bytes ++ take n piece) ps held)

pub refused_more : (at : ℕ) (bytes more : List ℕ) (ps : List PacketView) (x : CaptureReason)
    → RefusedAt at bytes ps (Refused x) → RefusedAt at (bytes ++ more) ps (Refused x)
refused_more at bytes more ps x h = record {
  whole = h.whole;
  unit = h.unit;
  more = h.more ++ more;
  state = h.state;
  front = h.front;
  spelled = ap (λ (y : List ℕ). y ++ more) h.spelled ∙ append_assoc h.whole (h.unit ++ h.more) more
      ∙ ap (λ (y : List ℕ). h.whole ++ y) (append_assoc h.unit h.more more);
  asked = h.asked;
  asks = h.asks;
  place = h.place;
  refused = h.refused;
}

cut_more : (at : ℕ) (bytes more : List ℕ) (ps : List PacketView) → CutAt at bytes ps → CutAt at (bytes ++ more) ps
cut_more at bytes more ps h = record {
  whole = h.whole;
  unit = h.unit;
  more = h.more ++ more;
  state = h.state;
  front = h.front;
  spelled = ap (λ (y : List ℕ). y ++ more) h.spelled ∙ append_assoc h.whole (h.unit ++ h.more) more
      ∙ ap (λ (y : List ℕ). h.whole ++ y) (append_assoc h.unit h.more more);
  need = h.need;
  asked = h.asked;
  asks = h.asks;
  place = h.place;
  short = h.short;
  inside = h.inside;
}

faulty_more : (x : CaptureReason) (at : ℕ) (bytes more : List ℕ) (ps : List PacketView) → Faulty x at bytes ps
    → Faulty x at (bytes ++ more) ps
faulty_more reason.NotACapture at bytes more ps h = refused_more at bytes more ps reason.NotACapture h
faulty_more reason.UnknownVersion at bytes more ps h = refused_more at bytes more ps reason.UnknownVersion h
faulty_more reason.Truncated at bytes more ps h = cut_more at bytes more ps h
faulty_more reason.BadLength at bytes more ps h = refused_more at bytes more ps reason.BadLength h
faulty_more reason.PacketTooLong at bytes more ps h = refused_more at bytes more ps reason.PacketTooLong h
faulty_more reason.UnknownInterface at bytes more ps h = refused_more at bytes more ps reason.UnknownInterface h
faulty_more reason.TooManyInterfaces at bytes more ps h = refused_more at bytes more ps reason.TooManyInterfaces h
faulty_more reason.NoMemory at bytes more ps h = tt

-- after a fault the whole piece counts as taken
pub takes_broken : (old new : CaptureReader) (n : ℕ) (piece : List ℕ) (fault : CaptureFault)
    → new.progress ≡ Broken fault → Takes old new (take n piece) → Takes old new (take (length piece) piece)
takes_broken old new n piece fault e h = λ bytes ps represents.
    let all : (bytes ++ take n piece) ++ drop n piece ≡ bytes ++ take (length piece) piece =
    append_assoc bytes (take n piece) (drop n piece)
    ∙ ap (λ (x : List ℕ). bytes ++ x)
    (take-append-drop n piece ∙ sym (take_all (length piece) piece (omega arith))) in
    let qs = ps ++ waits_at new.progress new.unit.items in
    let stands : List ℕ → Progress → Type 0 =
    λ (x : List ℕ) (p : Progress). RepresentsAt p new.need new.at new.unit.items (state_of new) x qs in
    let faulty : Faulty fault.reason fault.at (bytes ++ take n piece) qs = subst (stands (bytes ++ take n piece)) e
    (h bytes ps represents) in
    subst (stands (bytes ++ take (length piece) piece)) (sym e)
    (subst (λ (x : List ℕ). Faulty fault.reason fault.at x qs) all
    (faulty_more fault.reason fault.at (bytes ++ take n piece) (drop n piece) qs faulty))
