-- What packets bring, one more after another, and what was printed of them.
use Rattle.std.proofs.Common.{◌≡◌, ℕ, suc, ◌+◌, ◌-◌, ◌^◌, min, List, [], ◌∷◌, ◌++◌, length, Option, Some, None}
use Rattle.std.proofs.Common.{refl, sym, ap, ◌∙◌, subst, arith, append_assoc, length-append}
use Rattle.std.proofs.lemmas.List.{append-nil}
use Rattle.capture_files.specs.declared.fault.CaptureFault.{CaptureFault}
use Rattle.capture_files.specs.declared.progress.Progress.{Progress}
use Rattle.capture_files.specs.declared.progress.Progress.TheVariants.{Gathering, Waiting, Broken}
use Rattle.capture_files.specs.declared.reader.CaptureReader.{CaptureReader}
use Rattle.capture_files.specs.declared.reason.CaptureReason.{CaptureReason}
use Rattle.capture_files.specs.declared.reason.CaptureReason.TheVariants as reason
use Rattle.capture_files.specs.Faults.{IsRefused}
use Rattle.capture_files.specs.Represents.{Faulty, Represents, Takes, waiting, waiting_at, waits_at}
use Rattle.capture_files.specs.Runs.{PacketView, capped}
use Rattle.capture_packets.specs.Packet.{SegmentView}
use Rattle.capture_packets.specs.Packets.{packet_of}
use Rattle.oncrpc_capture.specs.declared.flows.Flows.{Flows}
use Rattle.oncrpc_capture.specs.declared.printing.Printing.{Printing}
use Rattle.oncrpc_capture.specs.Brought.{Brings, BringAll}
use Rattle.oncrpc_capture.specs.Connections.{segments_in, segments_of}
use Rattle.oncrpc_capture.specs.Entries.{Entry, FileRefused}
use Rattle.oncrpc_capture.specs.Files.{CeasesAt, reason_name}
use Rattle.oncrpc_capture.specs.Private.Follows.{Begun, Follow}
use Rattle.oncrpc_capture.specs.Private.Steps.{GoesFrom, IsBrokenOff, IsThrough, Prints}
use Rattle.oncrpc_capture.proofs.Printed.{prints_join, prints_none}

-- the segments of packets, and of one more
pub segments_more : (ps : List PacketView) (p : PacketView)
    → segments_in (ps ++ p ∷ []) ≡ segments_in ps ++ segments_of (packet_of p.link p.content)
segments_more [] p = append-nil (segments_of (packet_of p.link p.content))
segments_more (q ∷ ps) p =
    ap (λ (k : List SegmentView). segments_of (packet_of q.link q.content) ++ k) (segments_more ps p)
    ∙ sym (append_assoc (segments_of (packet_of q.link q.content)) (segments_in ps)
    (segments_of (packet_of p.link p.content)))

pub brings_more : (ports : List ℕ) (earlier : List SegmentView) (number : ℕ) (ps : List PacketView) (p : PacketView)
    (xs ys : List Entry) → BringAll ports earlier number ps xs
    → Brings ports (earlier ++ segments_in ps) (capped (number + length ps)) p ys
    → BringAll ports earlier number (ps ++ p ∷ []) (xs ++ ys)
unfolding BringAll
brings_more ports earlier number [] p xs ys none one = (
  ys,
  [],
  subst (λ (n : ℕ). Brings ports earlier (capped n) p ys) (omega arith)
      (subst (λ (k : List SegmentView). Brings ports k (capped (number + 0)) p ys) (append-nil earlier) one),
  refl,
  ap (λ (k : List Entry). k ++ ys) none ∙ sym (append-nil ys),
)
brings_more ports earlier number (q ∷ ps) p xs ys (first, rest, here, more, is) one =
    let later = earlier ++ segments_of (packet_of q.link q.content) in (
      first,
      rest ++ ys,
      here,
      brings_more ports later (suc number) ps p rest ys more
          (subst (λ (n : ℕ). Brings ports (later ++ segments_in ps) (capped n) p ys) (omega arith)
          (subst (λ (k : List SegmentView). Brings ports k (capped (number + suc (length ps))) p ys)
          (sym (append_assoc earlier (segments_of (packet_of q.link q.content)) (segments_in ps))) one)),
      ap (λ (k : List Entry). k ++ ys) is ∙ append_assoc first rest ys,
    )

-- ---- the packet that waits

listed : Option PacketView → List PacketView
listed None = []
listed (Some v) = v ∷ []

waits_listed : (g : Progress) (unit : List ℕ) → waits_at g unit ≡ listed (waiting_at g unit)
unfolding listed
waits_listed Gathering unit = refl
waits_listed (Waiting found) unit = refl
waits_listed (Broken fault) unit = refl

-- ---- a reader goes on

-- a reader that gathers, or whose packet waits, has answered no fault
not_gathering : (r : CaptureReader) (fault : CaptureFault) → r.progress ≡ Gathering → IsRefused r fault → ⊥
not_gathering r fault e h = absurd cc

not_waiting : (r : CaptureReader) (fault : CaptureFault) (v : PacketView) → Some v ≡ waiting r → IsRefused r fault → ⊥
not_waiting r fault v waits h =
    let none : Some v ≡ None = waits ∙ ap (λ (g : Progress). waiting_at g r.unit.items) h in
    absurd cc

pub through_start : (r : CaptureReader) (ports : List ℕ) (f : Flows) (p : Printing) (a : Option (List ℕ))
    → Represents r [] [] → r.progress ≡ Gathering → Begun f → IsThrough r [] ports 0 f p p a a
unfolding BringAll
through_start r ports f p a h open_is begun = record {
  packets = [];
  entries = [];
  represents = h;
  open_is = λ fault k. not_gathering r fault open_is k;
  brings = refl;
  frame_is = omega arith;
  follow = begun.follow [];
  prints = prints_none p a;
}

-- bytes were taken that end no packet
pub through_more : (r new : CaptureReader) (bytes taken ports : List ℕ) (frame : ℕ) (f : Flows) (p q : Printing)
    (a b : Option (List ℕ)) → IsThrough r bytes ports frame f p q a b → Takes r new taken → new.progress ≡ Gathering
    → IsThrough new (bytes ++ taken) ports frame f p q a b
through_more r new bytes taken ports frame f p q a b h takes open_is = record {
  packets = h.packets;
  entries = h.entries;
  represents = subst (λ (ps : List PacketView). Represents new (bytes ++ taken) ps)
      (ap (λ (g : Progress). h.packets ++ waits_at g new.unit.items) open_is ∙ append-nil h.packets)
      (takes bytes h.packets h.represents);
  open_is = λ fault k. not_gathering new fault open_is k;
  brings = h.brings;
  frame_is = h.frame_is;
  follow = h.follow;
  prints = h.prints;
}

-- bytes were taken that end a packet, and what it brings was printed
pub through_packet : (r new : CaptureReader) (bytes taken ports : List ℕ) (frame frame' : ℕ) (f g : Flows)
    (p mid q : Printing) (a b c : Option (List ℕ)) (v : PacketView) → IsThrough r bytes ports frame f p mid a b
    → Takes r new taken → Some v ≡ waiting new → frame' ≡ min (frame + 1) (2 ^ 64 - 1)
    → GoesFrom ports frame' (packet_of v.link v.content) f g mid q b c
    → IsThrough new (bytes ++ taken) ports frame' g p q a c
unfolding listed
through_packet r new bytes taken ports frame frame' f g p mid q a b c v h takes waits next goes =
    let number : frame' ≡ capped (1 + length h.packets) = omega (arith, next, h.frame_is) in
    let one = goes.goes (segments_in h.packets) h.follow in
    record {
      packets = h.packets ++ v ∷ [];
      entries = h.entries ++ one.0.entries;
      represents = subst (λ (ps : List PacketView). Represents new (bytes ++ taken) (h.packets ++ ps))
          (waits_listed new.progress new.unit.items ∙ ap listed (sym waits)) (takes bytes h.packets h.represents);
      open_is = λ fault k. not_waiting new fault v waits k;
      brings = brings_more ports [] 1 h.packets v h.entries one.0.entries h.brings
          (subst (λ (n : ℕ). Brings ports (segments_in h.packets) n v one.0.entries) number one.0.those);
      frame_is = omega (arith, number, length-append h.packets (v ∷ []));
      follow = subst (λ (k : List SegmentView). Follow k g) (sym (segments_more h.packets v)) one.1;
      prints = prints_join p mid q h.entries one.0.entries a b c h.prints one.0.prints;
    }

-- what a fault says of bytes, where memory was not refused
pub ceases : (why : CaptureReason) (at : ℕ) (bytes : List ℕ) (ps : List PacketView) → (why ≡ reason.NoMemory → ⊥)
    → Faulty why at bytes ps → CeasesAt why at bytes ps
ceases reason.NotACapture at bytes ps other h = h
ceases reason.UnknownVersion at bytes ps other h = h
ceases reason.Truncated at bytes ps other h = h
ceases reason.BadLength at bytes ps other h = h
ceases reason.PacketTooLong at bytes ps other h = h
ceases reason.UnknownInterface at bytes ps other h = h
ceases reason.TooManyInterfaces at bytes ps other h = h
ceases reason.NoMemory at bytes ps other h = absurd (other refl)

-- bytes were taken that are refused, and that was printed
pub broken_off : (r new : CaptureReader) (bytes taken ports : List ℕ) (frame : ℕ) (f : Flows) (p mid q : Printing)
    (a b c : Option (List ℕ)) (why : CaptureReason) (at : ℕ) → IsThrough r bytes ports frame f p mid a b
    → ((ps : List PacketView) → Represents r bytes ps → Faulty why at (bytes ++ taken) ps)
    → (why ≡ reason.NoMemory → ⊥) → (why ≡ reason.Truncated → ⊥)
    → Prints mid q (FileRefused (reason_name why) at ∷ []) b c → IsBrokenOff (bytes ++ taken) ports f p q a c
broken_off r new bytes taken ports frame f p mid q a b c why at h says memory more one = record {
  packets = h.packets;
  entries = h.entries;
  why = why;
  at = at;
  ceases = ceases why at (bytes ++ taken) h.packets memory (says h.packets h.represents);
  more = more;
  brings = h.brings;
  follow = h.follow;
  prints = prints_join p mid q h.entries (FileRefused (reason_name why) at ∷ []) a b c h.prints one;
}
