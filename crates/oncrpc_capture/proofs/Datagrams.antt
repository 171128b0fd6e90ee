-- What a packet brings.
use Rattle.std.proofs.Common.{◌≡◌, ◌⊎◌, ℕ, zero, suc, Bool, true, false, List, [], ◌∷◌, ◌++◌, Option}
use Rattle.std.proofs.Common.{inl, inr, refl, sym}
use Rattle.std.proofs.Common.{◌∙◌, subst, arith}
use Rattle.std.proofs.lemmas.Bool.{false≢true}
use Rattle.std.proofs.lemmas.List.{append-nil}
use Rattle.std.specs.Prelude.{◌↔◌, IsTrue, OnOk, Result}
use Rattle.oncrpc_answers.specs.declared.failure.Failure.{Failure}
use Rattle.capture_packets.specs.declared.reason.Reason.{Reason}
use Rattle.capture_packets.specs.Packet.{DatagramView, PacketView, SegmentView, Datagram, Other, Segment}
use Rattle.oncrpc_capture.specs.declared.flows.Flows.{Flows}
use Rattle.oncrpc_capture.specs.declared.printing.Printing.{Printing}
use Rattle.oncrpc_capture.specs.declared.seen.Seen.{Seen}
use Rattle.capture_records.specs.declared.told.Told.TheVariants.{Missing}
use Rattle.oncrpc_capture.specs.Brought.{BringsDatagram, BringsOther, IsMessage}
use Rattle.oncrpc_capture.specs.Brought.{IsToldBy, SaysSome, is_wanted}
use Rattle.oncrpc_capture.specs.Entries.{Entry, Message, Note}
use Rattle.oncrpc_capture.specs.Nodes.{IsSeen}
use Rattle.oncrpc_capture.specs.Notes.{is_unread, told_name}
use Rattle.oncrpc_capture.specs.Private.Follows.{Follow}
use Rattle.oncrpc_capture.specs.Private.Steps.{GoesBy, GoesFrom, MayTell, Prints, PrintsOf}
use Rattle.oncrpc_capture.proofs.Printed.{on_ok, prints_none}

pub both : (b : Bool) → b ≡ true → b ≡ false → ⊥
both b t f = false≢true (sym f ∙ t)

-- ---- a datagram

pub told_note : (missing : ℕ) (seen : Seen) (content : List ℕ) (p q : Printing) (a b : Option (List ℕ))
    → (missing ≡ 0 → ⊥) → Prints p q (Note seen (told_name Missing) missing ∷ []) a b
    → PrintsOf (λ es. IsToldBy missing seen content es) p q a b
told_note zero seen content p q a b some h = absurd (some refl)
told_note (suc m) seen content p q a b some h =
    record { entries = Note seen (told_name Missing) (suc m) ∷ []; those = refl; prints = h }

pub told_whole : (missing way : ℕ) (seen : Seen) (content : List ℕ) (p q : Printing) (a b : Option (List ℕ))
    → missing ≡ 0 → Prints p q (Message seen way content ∷ []) a b
    → PrintsOf (λ es. IsToldBy missing seen content es) p q a b
told_whole zero way seen content p q a b none h =
    record { entries = Message seen way content ∷ []; those = (way, refl); prints = h }
told_whole (suc m) way seen content p q a b none h = absurd (omega (arith, none))

pub datagram_unwanted : (ports : List ℕ) (frame : ℕ) (d : DatagramView) (p : Printing) (a : Option (List ℕ))
    → is_wanted ports d.from.port d.to.port ≡ false → PrintsOf (λ es. BringsDatagram ports frame d es) p p a a
datagram_unwanted ports frame d p a e = record {
  entries = [];
  those = record {
    unwanted = λ _. refl;
    message = λ w m. absurd (both (is_wanted ports d.from.port d.to.port) w e);
    other = inl refl;
  };
  prints = prints_none p a;
}

-- a datagram that is told or not
pub untold : (frame : ℕ) (d : DatagramView) (p : Printing) (a : Option (List ℕ)) (is_message : Bool)
    → is_message ≡ false → PrintsOf (λ es. MayTell is_message frame d es) p p a a
untold frame d p a is_message e = record { entries = []; those = inl (refl, e); prints = prints_none p a }

pub told : (frame : ℕ) (d : DatagramView) (p q : Printing) (a b : Option (List ℕ)) (is_message : Bool) (seen : Seen)
    → IsSeen frame d.from d.to seen → (is_message ≡ true) ⊎ SaysSome d.content
    → PrintsOf (λ es. IsToldBy d.missing seen d.content es) p q a b
    → PrintsOf (λ es. MayTell is_message frame d es) p q a b
told frame d p q a b is_message seen is why h =
    record { entries = h.entries; those = inr ((seen, is, h.those), why); prints = h.prints }

why_told : (ports : List ℕ) (d : DatagramView) (b : Bool) → (IsTrue b ↔ IsMessage ports d)
    → (b ≡ true) ⊎ SaysSome d.content → IsMessage ports d ⊎ SaysSome d.content
why_told ports d b is (inl e) = inl (is.0 e)
why_told ports d b is (inr some) = inr some

may_bring : (ports : List ℕ) (frame : ℕ) (d : DatagramView) (b : Bool) (es : List Entry)
    → is_wanted ports d.from.port d.to.port ≡ true → (IsTrue b ↔ IsMessage ports d) → MayTell b frame d es
    → BringsDatagram ports frame d es
may_bring ports frame d b es w is (inl (none, other)) =
    record { unwanted = λ _. none; message = λ _ m. absurd (both b (is.1 m) other); other = inl none }
may_bring ports frame d b es w is (inr (told, why)) = record {
  unwanted = λ f. absurd (both (is_wanted ports d.from.port d.to.port) w f);
  message = λ _ m. told;
  other = inr (told, why_told ports d b is why);
}

pub datagram_brings : (ports : List ℕ) (frame : ℕ) (d : DatagramView) (p q : Printing) (a b : Option (List ℕ))
    (is_message : Bool) → is_wanted ports d.from.port d.to.port ≡ true → (IsTrue is_message ↔ IsMessage ports d)
    → PrintsOf (λ es. MayTell is_message frame d es) p q a b
    → PrintsOf (λ es. BringsDatagram ports frame d es) p q a b
datagram_brings ports frame d p q a b is_message w is h = record {
  entries = h.entries;
  those = may_bring ports frame d is_message h.entries w is h.those;
  prints = h.prints;
}

-- ---- a packet that carries neither

pub other_untold : (frame : ℕ) (why : Reason) (p : Printing) (a : Option (List ℕ)) → is_unread why ≡ false
    → PrintsOf (λ es. BringsOther (is_unread why) frame why es) p p a a
other_untold frame why p a e = record {
  entries = [];
  those = subst (λ (x : Bool). BringsOther x frame why []) (sym e) refl;
  prints = prints_none p a;
}

-- ---- what a packet brings, by what it carries

-- by an equal view of it
goes_as : (ports : List ℕ) (frame : ℕ) (f g : Flows) (p q : Printing) (a b : Option (List ℕ))
    (r : Result (Unit {0}) Failure) (v w : PacketView) → v ≡ w → OnOk r (GoesFrom ports frame v f g p q a b)
    → OnOk r (GoesFrom ports frame w f g p q a b)
goes_as ports frame f g p q a b r v w e h =
    subst (λ (x : PacketView). OnOk r (GoesFrom ports frame x f g p q a b)) e h

-- a packet without a segment
module _ (ports : List ℕ) (frame : ℕ) (f g : Flows) (p q : Printing) (a b : Option (List ℕ)) (same : g ≡ f) where
  follow_same : (earlier : List SegmentView) → Follow earlier f → Follow (earlier ++ []) g
  follow_same earlier h =
      subst (λ (x : Flows). Follow (earlier ++ []) x) (sym same)
      (subst (λ (x : List SegmentView). Follow x f) (sym (append-nil earlier)) h)

  from_datagram : (d : DatagramView) → PrintsOf (λ es. BringsDatagram ports frame d es) p q a b
      → GoesFrom ports frame (Datagram d) f g p q a b
  from_datagram d h = record {
    goes = λ earlier k.
        (record { entries = h.entries; those = h.those; prints = h.prints }, follow_same earlier k);
  }

  from_other : (why : Reason) → PrintsOf (λ es. BringsOther (is_unread why) frame why es) p q a b
      → GoesFrom ports frame (Other why) f g p q a b
  from_other why h = record {
    goes = λ earlier k.
        (record { entries = h.entries; those = h.those; prints = h.prints }, follow_same earlier k);
  }

  pub datagram_goes : (r : Result (Unit {0}) Failure) (d : DatagramView) (w : PacketView) → Datagram d ≡ w
      → OnOk r (PrintsOf (λ es. BringsDatagram ports frame d es) p q a b)
      → OnOk r (GoesFrom ports frame w f g p q a b)
  datagram_goes r d w e h = goes_as ports frame f g p q a b r (Datagram d) w e (on_ok r (from_datagram d) h)

  pub other_goes : (r : Result (Unit {0}) Failure) (why : Reason) (w : PacketView) → Other why ≡ w
      → OnOk r (PrintsOf (λ es. BringsOther (is_unread why) frame why es) p q a b)
      → OnOk r (GoesFrom ports frame w f g p q a b)
  other_goes r why w e h = goes_as ports frame f g p q a b r (Other why) w e (on_ok r (from_other why) h)

from_segment : (ports : List ℕ) (frame : ℕ) (f g : Flows) (p q : Printing) (a b : Option (List ℕ)) (s : SegmentView)
    → GoesBy ports s f g p q a b → GoesFrom ports frame (Segment s) f g p q a b
from_segment ports frame f g p q a b s h = record { goes = h.goes }

pub segment_goes : (ports : List ℕ) (frame : ℕ) (f g : Flows) (p q : Printing) (a b : Option (List ℕ))
    (r : Result (Unit {0}) Failure) (s : SegmentView) (w : PacketView) → Segment s ≡ w
    → OnOk r (GoesBy ports s f g p q a b) → OnOk r (GoesFrom ports frame w f g p q a b)
segment_goes ports frame f g p q a b r s w e h =
    goes_as ports frame f g p q a b r (Segment s) w e (on_ok r (from_segment ports frame f g p q a b s) h)
