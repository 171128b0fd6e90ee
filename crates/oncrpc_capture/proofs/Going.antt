-- What is printed of connections, one more after another.
use Rattle.std.proofs.Common.{◌≡◌, ℕ, Bool, true, List, [], ◌∷◌, ◌++◌, Option, Some, refl, sym, subst}
use Rattle.capture_packets.specs.Packet.{SegmentView}
use Rattle.oncrpc_capture.specs.declared.flow.Found.{Found}
use Rattle.oncrpc_capture.specs.declared.flows.Flows.{Flows}
use Rattle.oncrpc_capture.specs.declared.pairs.Pair.{Pair}
use Rattle.capture_records.specs.declared.told.Told.{Told}
use Rattle.oncrpc_capture.specs.declared.printing.Printing.{Printing}
use Rattle.oncrpc_capture.specs.declared.seen.Seen.{Seen}
use Rattle.oncrpc_capture.specs.Brought.{is_wanted}
use Rattle.oncrpc_capture.specs.Connections.{AreHeard, IsHeard}
use Rattle.oncrpc_capture.specs.Entries.{Entry, Note}
use Rattle.oncrpc_capture.specs.Notes.{told_name}
use Rattle.oncrpc_capture.specs.Private.Follows.{ArePart, FindAt, Includes, KeepAll, TakeAt, from_of, to_of}
use Rattle.oncrpc_capture.specs.Private.Steps.{Goes, GoesBy, GoesOn, Prints, PrintsFound, PrintsHeard, PrintsOf}
use Rattle.oncrpc_capture.proofs.Datagrams.{both}
use Rattle.oncrpc_capture.proofs.Followed.{each_join, follow_more, includes_last}
use Rattle.oncrpc_capture.proofs.Printed.{prints_join, prints_none}

-- ---- what is printed

pub heard_none : (p : Printing) (a : Option (List ℕ)) → PrintsHeard p p a a
heard_none p a = record { heard = λ ss. record { entries = []; those = tt; prints = prints_none p a } }

pub heard_one : (p q : Printing) (e : Entry) (a b : Option (List ℕ)) → ((ss : List SegmentView) → IsHeard ss e)
    → Prints p q (e ∷ []) a b → PrintsHeard p q a b
heard_one p q e a b said h =
    record { heard = λ ss. record { entries = e ∷ []; those = (said ss, tt); prints = h } }

pub heard_note : (p q : Printing) (seen : Seen) (t : Told) (count : ℕ) (a b : Option (List ℕ))
    → Prints p q (Note seen (told_name t) count ∷ []) a b → PrintsHeard p q a b
heard_note p q seen t count a b h = heard_one p q (Note seen (told_name t) count) a b (λ ss. (t, refl)) h

heard_join : (ss : List SegmentView) (p q r : Printing) (a b c : Option (List ℕ)) → PrintsOf (AreHeard ss) p q a b
    → PrintsOf (AreHeard ss) q r b c → PrintsOf (AreHeard ss) p r a c
heard_join ss p q r a b c x y = record {
  entries = x.entries ++ y.entries;
  those = each_join (IsHeard ss) x.entries y.entries x.those y.those;
  prints = prints_join p q r x.entries y.entries a b c x.prints y.prints;
}

pub found_heard : (found : Found) (r : List ℕ) (p q : Printing) (a b : Option (List ℕ)) → PrintsHeard p q a b
    → PrintsFound found r p q a b
found_heard found r p q a b h = record { prints = λ ss k. h.heard ss }

pub heard_more : (p q r : Printing) (a b c : Option (List ℕ)) → PrintsHeard p q a b → PrintsHeard q r b c
    → PrintsHeard p r a c
heard_more p q r a b c x y = record { heard = λ ss. heard_join ss p q r a b c (x.heard ss) (y.heard ss) }

-- ---- connections

pub goes_none : (f : Flows) (p : Printing) (a : Option (List ℕ)) → Goes f f p p a a
goes_none f p a = record { goes = λ ss h. ((heard_none p a).heard ss, h) }

pub goes_join : (f g h : Flows) (p q r : Printing) (a b c : Option (List ℕ)) → Goes f g p q a b → Goes g h q r b c
    → Goes f h p r a c
goes_join f g h p q r a b c x y = record {
  goes = λ ss k.
      let first = x.goes ss k in
      let second = y.goes ss first.1 in
      (heard_join ss p q r a b c first.0 second.0, second.1);
}

pub goes_heard : (f g : Flows) (p q : Printing) (a b : Option (List ℕ)) → KeepAll f g → PrintsHeard p q a b
    → Goes f g p q a b
goes_heard f g p q a b keeps h = record { goes = λ ss k. (h.heard ss, keeps.keep ss k) }

pub goes_kept : (f g : Flows) (p : Printing) (a : Option (List ℕ)) → KeepAll f g → Goes f g p p a a
goes_kept f g p a keeps = goes_heard f g p p a a keeps (heard_none p a)

pub goes_as : (f g h : Flows) (p q : Printing) (a b : Option (List ℕ)) → h ≡ g → Goes f g p q a b → Goes f h p q a b
goes_as f g h p q a b e x = subst (λ (k : Flows). Goes f k p q a b) (sym e) x

pub goes_found : (f g : Flows) (p q : Printing) (a b : Option (List ℕ)) (found : Found) (r : List ℕ)
    → FindAt f g (Some found) r → PrintsFound found r p q a b → Goes f g p q a b
goes_found f g p q a b found r finds prints = record {
  goes = λ ss k.
      let x = finds.find ss k in
      (prints.prints ss x.1, x.0);
}

-- ---- a segment that is taken

pub on_none : (s : SegmentView) (f : Flows) (p : Printing) (a : Option (List ℕ)) → GoesOn s f f p p a a
on_none s f p a = record { goes = λ ss i h. ((heard_none p a).heard ss, h) }

pub on_goes : (s : SegmentView) (f g h : Flows) (p q r : Printing) (a b c : Option (List ℕ)) → GoesOn s f g p q a b
    → Goes g h q r b c → GoesOn s f h p r a c
on_goes s f g h p q r a b c x y = record {
  goes = λ ss i k.
      let first = x.goes ss i k in
      let second = y.goes ss first.1 in
      (heard_join ss p q r a b c first.0 second.0, second.1);
}

pub on_takes : (s : SegmentView) (f g h : Flows) (p q : Printing) (a b : Option (List ℕ)) (pair : Pair) (up : Bool)
    (sequence : ℕ) (bytes : List ℕ)
    → ((ss : List SegmentView) → Includes s ss → ArePart (from_of pair up) (to_of pair up) ss sequence bytes)
    → GoesOn s f g p q a b → TakeAt g h pair up sequence bytes → GoesOn s f h p q a b
on_takes s f g h p q a b pair up sequence bytes part x takes = record {
  goes = λ ss i k.
      let first = x.goes ss i k in
      (first.0, takes.take ss (part ss i) first.1);
}

pub by_unwanted : (ports : List ℕ) (s : SegmentView) (f : Flows) (p : Printing) (a : Option (List ℕ))
    → GoesBy ports s f f p p a a
by_unwanted ports s f p a = record {
  goes = λ earlier h. (
    record {
      entries = [];
      those = record { unwanted = λ e. refl; heard = tt };
      prints = prints_none p a;
    },
    follow_more earlier (s ∷ []) f h,
  );
}

pub by_wanted : (ports : List ℕ) (s : SegmentView) (f g h i : Flows) (p q r t : Printing) (a b c d : Option (List ℕ))
    → is_wanted ports s.from.port s.to.port ≡ true → Goes f g p q a b → GoesOn s g h q r b c → Goes h i r t c d
    → GoesBy ports s f i p t a d
by_wanted ports s f g h i p q r t a b c d w x y z = record {
  goes = λ earlier k.
      let ss = earlier ++ s ∷ [] in
      let first = x.goes ss (follow_more earlier (s ∷ []) f k) in
      let second = y.goes ss (includes_last earlier s) first.1 in
      let third = z.goes ss second.1 in
      let all = heard_join ss p r t a c d (heard_join ss p q r a b c first.0 second.0) third.0 in (
        record {
          entries = all.entries;
          those = record {
            unwanted = λ e. absurd (both (is_wanted ports s.from.port s.to.port) w e);
            heard = all.those;
          };
          prints = all.prints;
        },
        third.1,
      );
}
