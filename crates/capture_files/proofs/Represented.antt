-- What the fields of a reader stand for behind each step.
use Rattle.std.proofs.Common.{◌≡◌, ℕ, zero, suc, ◌+◌, List, [], ◌∷◌, ◌++◌, length, sym, ap, subst, ◌∙◌, inl}
use Rattle.std.proofs.Common.{inr, arith}
use Rattle.std.proofs.lemmas.List.{append-nil, length-append}
use Rattle.capture_files.specs.declared.captured.Found.{Found}
use Rattle.capture_files.specs.declared.captured.Interface.{Interface}
use Rattle.capture_files.specs.declared.fault.CaptureFault.{CaptureFault}
use Rattle.capture_files.specs.declared.place.Place.{Place}
use Rattle.capture_files.specs.declared.place.Step.{Step}
use Rattle.capture_files.specs.declared.place.Step.TheVariants.{Need, Moved, Section, Described, Packet, Refused}
use Rattle.capture_files.specs.declared.progress.Progress.{Progress}
use Rattle.capture_files.specs.declared.progress.Progress.TheVariants.{Gathering, Waiting, Broken}
use Rattle.capture_files.specs.declared.reader.CaptureReader.{CaptureReader}
use Rattle.capture_files.specs.declared.reason.CaptureReason.{CaptureReason}
use Rattle.capture_files.specs.declared.reason.CaptureReason.TheVariants as reason
use Rattle.capture_files.specs.Gathers.{TellsOfBytes, Gathers}
use Rattle.capture_files.specs.Private.Moves.{Enters, Breaks, Goes}
use Rattle.capture_files.specs.Represents.{state_of, waits_at, IsIdle, Holds, Waits, Faulty, RepresentsAt}
use Rattle.capture_files.specs.Represents.{Represents}
use Rattle.capture_files.specs.Runs.{PacketView, StateView, packet_in, step_at, least_unit, Asks}
use Rattle.capture_files.specs.Runs.{left_of, capped, Front, RefusedAt}
use Rattle.capture_files.proofs.Fronts.{front_next, asks_next, unit_is}

abbrev pub made : Place → List Interface → StateView
made place interfaces = record { place = place; interfaces = interfaces }

state_is : (r : CaptureReader) (place : Place) (interfaces : List Interface) → r.place ≡ place
    → r.interfaces.items ≡ interfaces → made place interfaces ≡ state_of r
state_is r place interfaces p q =
    sym (ap (λ (x : Place). made x r.interfaces.items) p ∙ ap (λ (x : List Interface). made place x) q)

-- what stands for bytes, with the packet that may wait
abbrev standing : (need at : ℕ) → List ℕ → StateView → List ℕ → List PacketView → Progress → Type 0
standing need at unit s bytes ps p = RepresentsAt p need at unit s bytes (ps ++ waits_at p unit)

-- a unit is gathered
pub opens_at : (p : Progress) (need at : ℕ) (unit : List ℕ) (s : StateView) (bytes whole : List ℕ)
    (ps : List PacketView) (asked : List ℕ) → p ≡ Gathering → Front whole ps s → bytes ≡ whole ++ unit
    → Asks s least_unit asked need unit → IsIdle (left_of s.place) unit → at ≡ capped (length whole)
    → RepresentsAt p need at unit s bytes (ps ++ waits_at p unit)
opens_at p need at unit s bytes whole ps asked e front spelled asks idle place =
    subst (standing need at unit s bytes ps) (sym e)
    (subst (λ (qs : List PacketView). Holds need at unit s bytes qs) (sym (append-nil ps)) (record {
      whole = whole;
      front = front;
      spelled = spelled;
      asked = asked;
      asks = asks;
      idle = idle;
      place = place;
    }))

-- a packet waits
waiting_is : (r : CaptureReader) (bytes : List ℕ) (found : Found) (ps : List PacketView) → r.progress ≡ Waiting found
    → Waits r.at r.unit.items (state_of r) bytes (ps ++ packet_in found r.unit.items ∷ [])
    → Represents r bytes (ps ++ waits_at r.progress r.unit.items)
waiting_is r bytes found ps e waits = subst (standing r.need r.at r.unit.items (state_of r) bytes ps) (sym e) waits

-- a fault is answered
pub breaks : (r : CaptureReader) (bytes : List ℕ) (ps : List PacketView) (fault : CaptureFault)
    → r.progress ≡ Broken fault → Faulty fault.reason fault.at bytes ps
    → Represents r bytes (ps ++ waits_at r.progress r.unit.items)
breaks r bytes ps fault e faulty =
    subst (standing r.need r.at r.unit.items (state_of r) bytes ps) (sym e)
    (subst (Faulty fault.reason fault.at bytes) (sym (append-nil ps)) faulty)

pub out_of_memory : (r : CaptureReader) (bytes : List ℕ) (ps : List PacketView) (at : ℕ)
    → Breaks r reason.NoMemory at → Represents r bytes (ps ++ waits_at r.progress r.unit.items)
out_of_memory r bytes ps at b =
    breaks r bytes ps b.fault b.broken
    (subst (λ (x : CaptureReason). Faulty x b.fault.at bytes ps) (sym b.reason_is) tt)

faulty_of : (x : CaptureReason) (at : ℕ) (bytes : List ℕ) (ps : List PacketView) → TellsOfBytes x
    → RefusedAt at bytes ps (Refused x) → Faulty x at bytes ps
faulty_of reason.NotACapture at bytes ps t h = h
faulty_of reason.UnknownVersion at bytes ps t h = h
faulty_of reason.Truncated at bytes ps t h = absurd t
faulty_of reason.BadLength at bytes ps t h = h
faulty_of reason.PacketTooLong at bytes ps t h = h
faulty_of reason.UnknownInterface at bytes ps t h = h
faulty_of reason.TooManyInterfaces at bytes ps t h = h
faulty_of reason.NoMemory at bytes ps t h = absurd t

pub idle_empty : (left : ℕ) (unit : List ℕ) → unit ≡ [] → IsIdle left unit
idle_empty zero unit e = tt
idle_empty (suc left) unit e = e

pub idle_here : (left : ℕ) (unit : List ℕ) → left ≡ 0 → IsIdle left unit
idle_here left unit e = subst (λ (x : ℕ). IsIdle x unit) (sym e) tt

-- behind a unit
pub entered : (r : CaptureReader) (place : Place) (interfaces : List Interface) (at : ℕ) (bytes : List ℕ)
    (ps : List PacketView) → Enters r place interfaces at → Front bytes ps (made place interfaces)
    → at ≡ capped (length bytes) → Represents r bytes (ps ++ waits_at r.progress r.unit.items)
entered r place interfaces at bytes ps e front here =
    opens_at r.progress r.need r.at r.unit.items (state_of r) bytes bytes ps [] e.open_is
    (subst (Front bytes ps) (state_is r place interfaces e.place_is e.interfaces_are) front)
    (sym (append-nil bytes) ∙ ap (λ (x : List ℕ). bytes ++ x) (sym e.empty)) (sym e.need_is)
    (idle_empty (left_of r.place) r.unit.items e.empty) (e.at_is ∙ here)

-- a place some bytes further on
pub capped_more : (at n k : ℕ) → at ≡ capped n → capped (at + k) ≡ capped (n + k)
capped_more at n k e = omega (arith, e)

pub further : (at : ℕ) (whole unit : List ℕ) → at ≡ capped (length whole)
    → capped (at + length unit) ≡ capped (length (whole ++ unit))
further at whole unit e =
    capped_more at (length whole) (length unit) e ∙ sym (ap (λ (n : ℕ). capped n) (length-append whole unit))

entered_behind : (r : CaptureReader) (place : Place) (interfaces : List Interface) (at : ℕ) (whole unit : List ℕ)
    (ps : List PacketView) → Enters r place interfaces (capped (at + length unit))
    → Front (whole ++ unit) (ps ++ []) (made place interfaces) → at ≡ capped (length whole)
    → Represents r (whole ++ unit) (ps ++ waits_at r.progress r.unit.items)
entered_behind r place interfaces at whole unit ps e front here =
    entered r place interfaces (capped (at + length unit)) (whole ++ unit) ps e
    (subst (λ (qs : List PacketView). Front (whole ++ unit) qs (made place interfaces)) (append-nil ps) front)
    (further at whole unit here)

-- what a step makes of a reader that gathered this unit
pub went : (old new : CaptureReader) (unit : List ℕ) (next : Step) (whole : List ℕ) (ps : List PacketView)
    (asked : List ℕ) → left_of old.place ≡ 0 → length unit ≡ old.need → next ≡ step_at (state_of old) unit
    → Goes old new unit next → Gathers unit next → Front whole ps (state_of old)
    → Asks (state_of old) least_unit asked old.need unit → old.at ≡ capped (length whole)
    → Represents new (whole ++ unit) (ps ++ waits_at new.progress new.unit.items)
went old new unit (Need n) whole ps asked here len e g told front asks at =
    let s = state_is new old.place old.interfaces.items g.place_is g.interfaces_are in
    let more : Asks (state_of old) least_unit (asked ++ n ∷ []) n unit =
    asks_next (state_of old) asked old.need n unit asks len e in
    let asks_unit : Asks (state_of new) least_unit (asked ++ n ∷ []) n unit =
    subst (λ (x : StateView). Asks x least_unit (asked ++ n ∷ []) n unit) s more in
    let asks_now : Asks (state_of new) least_unit (asked ++ n ∷ []) new.need new.unit.items =
    subst (λ (x : ℕ). Asks (state_of new) least_unit (asked ++ n ∷ []) x new.unit.items) (sym g.need_is)
    (subst (λ (x : List ℕ). Asks (state_of new) least_unit (asked ++ n ∷ []) n x) (sym g.unit_is) asks_unit) in
    opens_at new.progress new.need new.at new.unit.items (state_of new) (whole ++ unit) whole ps (asked ++ n ∷ [])
    g.open_is
    (subst (Front whole ps) s front) (ap (λ (x : List ℕ). whole ++ x) (sym g.unit_is)) asks_now
    (idle_here (left_of new.place) new.unit.items (ap left_of g.place_is ∙ here)) (g.at_is ∙ at)
went old new unit (Moved place) whole ps asked here len e g told front asks at =
    entered_behind new place old.interfaces.items old.at whole unit ps g
    (front_next whole unit ps (state_of old) (Moved place) front e
    (unit_is (state_of old) asked old.need unit (Moved place) here asks len e tt)) at
went old new unit (Section place) whole ps asked here len e g told front asks at =
    entered_behind new place [] old.at whole unit ps g
    (front_next whole unit ps (state_of old) (Section place) front e
    (unit_is (state_of old) asked old.need unit (Section place) here asks len e tt)) at
went old new unit (Described place interface) whole ps asked here len e (inl g) told front asks at =
    entered_behind new place (old.interfaces.items ++ interface ∷ []) old.at whole unit ps g
    (front_next whole unit ps (state_of old) (Described place interface) front e
    (unit_is (state_of old) asked old.need unit (Described place interface) here asks len e tt)) at
went old new unit (Described place interface) whole ps asked here len e (inr b) told front asks at =
    out_of_memory new (whole ++ unit) ps old.at b
went old new unit (Packet place found) whole ps asked here len e g told front asks at =
    let packets : ps ++ packet_in found unit ∷ [] ≡ ps ++ packet_in found new.unit.items ∷ [] =
    ap (λ (x : List ℕ). ps ++ packet_in found x ∷ []) (sym g.unit_is) in
    let front_now : Front (whole ++ unit) (ps ++ packet_in found new.unit.items ∷ []) (state_of new) =
    subst (λ (qs : List PacketView). Front (whole ++ unit) qs (state_of new)) packets
    (subst (Front (whole ++ unit) (ps ++ packet_in found unit ∷ []))
    (state_is new place old.interfaces.items g.place_is g.interfaces_are)
    (front_next whole unit ps (state_of old) (Packet place found) front e
    (unit_is (state_of old) asked old.need unit (Packet place found) here asks len e tt))) in
    waiting_is new (whole ++ unit) found ps g.waits (record {
      before = whole;
      front = front_now;
      spelled = ap (λ (x : List ℕ). whole ++ x) (sym g.unit_is);
      place = g.at_is ∙ at;
    })
went old new unit (Refused x) whole ps asked here len e b told front asks at =
    let refused : RefusedAt b.fault.at (whole ++ unit) ps (Refused x) =
    record {
      whole = whole;
      unit = unit;
      more = [];
      state = state_of old;
      front = front;
      spelled = ap (λ (y : List ℕ). whole ++ y) (sym (append-nil unit));
      asked = asked;
      asks = subst (λ (x : ℕ). Asks (state_of old) least_unit asked x unit) (sym len) asks;
      place = b.at_is ∙ at;
      refused = sym e;
    } in
    breaks new (whole ++ unit) ps b.fault b.broken
    (subst (λ (y : CaptureReason). Faulty y b.fault.at (whole ++ unit) ps) (sym b.reason_is)
    (faulty_of x b.fault.at (whole ++ unit) ps told refused))
