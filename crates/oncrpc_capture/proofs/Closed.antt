-- A file was read and printed to its end.
use Rattle.std.proofs.Common.{◌≡◌, ℕ, List, [], ◌∷◌, ◌++◌, Option, None, Some, refl, subst, append_assoc}
use Rattle.std.specs.Prelude.{Bool, IfOk, Result, is_some, string_bytes}
use Rattle.oncrpc_answers.specs.declared.failure.Failure.{Failure}
use Rattle.std.specs.Io.KnownBytes.{Consumes, IsAtEnd}
use Rattle.capture_files.specs.declared.reason.CaptureReason.{CaptureReason}
use Rattle.capture_files.specs.declared.reason.CaptureReason.TheVariants as reason
use Rattle.capture_files.specs.Runs.{PacketView, IsCapture}
use Rattle.xdr_lang.specs.Declarations.{Declared}
use Rattle.oncrpc_messages.specs.Heads.{heads_of}
use Rattle.oncrpc_tasks.specs.Sources.{Declares}
use Rattle.oncrpc_watch.specs.MessagesEnd.{status_of, terms_in}
use Rattle.oncrpc_watch.specs.Represents.{IsAt}
use Rattle.oncrpc_watch.specs.Run.{nothing}
use Rattle.oncrpc_watch.specs.Terms.{Terms, terms_of}
use Rattle.oncrpc_capture.specs.declared.flows.Flows.{Flows}
use Rattle.oncrpc_capture.specs.declared.printing.Printing.{Printing}
use Rattle.oncrpc_capture.specs.declared.task.CaptureTask.{CaptureTask}
use Rattle.oncrpc_capture.specs.Brought.{BringAll, of_ending}
use Rattle.oncrpc_capture.specs.CaptureEnd.{PrintsCapture, PrintsNamed, PrintsPackets}
use Rattle.oncrpc_capture.specs.Connections.{AreHeard, segments_in}
use Rattle.oncrpc_capture.specs.Entries.{Entry, FileRefused}
use Rattle.oncrpc_capture.specs.Files.{Ceases, CeasesAt, IsReadOut, Whole, reason_name}
use Rattle.oncrpc_capture.specs.Private.Steps.{Closes, Goes, HasRead, IsBrokenOff, IsOpened, Prints, PrintsBy}
use Rattle.oncrpc_capture.specs.Private.Steps.{PrintsOf, given_of}
use Rattle.oncrpc_capture.proofs.Printed.{prints_all, prints_join}

-- ---- the end of a file

-- where a source has nothing left, it is read out however the file ends
at_end : (why : CaptureReason) (at : ℕ) (left : Option (List ℕ)) → IsAtEnd left → IsReadOut (Ceases why at) left
at_end reason.Truncated at left e = e
at_end reason.NotACapture at left e = tt
at_end reason.UnknownVersion at left e = tt
at_end reason.BadLength at left e = tt
at_end reason.PacketTooLong at left e = tt
at_end reason.UnknownInterface at left e = tt
at_end reason.TooManyInterfaces at left e = tt
at_end reason.NoMemory at left e = tt

-- a file that is refused for what stands in it
refused_inside : (why : CaptureReason) (at : ℕ) (left : Option (List ℕ)) → (why ≡ reason.Truncated → ⊥)
    → IsReadOut (Ceases why at) left
refused_inside reason.Truncated at left more = absurd (more refl)
refused_inside reason.NotACapture at left more = tt
refused_inside reason.UnknownVersion at left more = tt
refused_inside reason.BadLength at left more = tt
refused_inside reason.PacketTooLong at left more = tt
refused_inside reason.UnknownInterface at left more = tt
refused_inside reason.TooManyInterfaces at left more = tt
refused_inside reason.NoMemory at left more = tt

-- a whole file, and what is printed last
pub read_whole : (ports bytes : List ℕ) (p mid q : Printing) (left rest a b c : Option (List ℕ))
    (packets : List PacketView) (entries : List Entry) → Consumes left rest bytes → IsCapture bytes packets
    → IsAtEnd rest → BringAll ports [] 1 packets entries → Prints p mid entries a b
    → PrintsOf (AreHeard (segments_in packets)) mid q b c → HasRead p q ports left a c
read_whole ports bytes p mid q left rest a b c packets entries read file out brings prints last = record {
  packets = packets;
  ending = Whole;
  brought = entries;
  last = last.entries;
  file = record { bytes = bytes; rest = rest; read = read; file = file; out = out };
  brings = brings;
  heard = last.those;
  prints = prints_join p mid q entries last.entries a b c prints last.prints;
}

-- one that ends inside a record or a block, which is printed, and what is printed last
pub read_cut : (ports bytes : List ℕ) (p mid end q : Printing) (left rest a b c d : Option (List ℕ))
    (packets : List PacketView) (entries : List Entry) (why : CaptureReason) (at : ℕ) → Consumes left rest bytes
    → CeasesAt why at bytes packets → IsAtEnd rest → BringAll ports [] 1 packets entries
    → Prints p mid entries a b → Prints mid end (FileRefused (reason_name why) at ∷ []) b c
    → PrintsOf (AreHeard (segments_in packets)) end q c d → HasRead p q ports left a d
read_cut ports bytes p mid end q left rest a b c d packets entries why at read file out brings prints one last =
    record {
      packets = packets;
      ending = Ceases why at;
      brought = entries;
      last = last.entries;
      file = record { bytes = bytes; rest = rest; read = read; file = file; out = at_end why at rest out };
      brings = brings;
      heard = last.those;
      prints = prints_join p mid q entries (FileRefused (reason_name why) at ∷ [] ++ last.entries) a b d prints
          (prints_join mid end q (FileRefused (reason_name why) at ∷ []) last.entries b c d one last.prints);
    }

-- one that ceases to be a capture inside of it, and what is printed last
pub read_broken : (ports bytes : List ℕ) (f g : Flows) (p mid q : Printing) (left rest a b c : Option (List ℕ))
    → Consumes left rest bytes → IsBrokenOff bytes ports f p mid a b → Goes f g mid q b c → HasRead p q ports left a c
read_broken ports bytes f g p mid q left rest a b c read h goes =
    let last = (goes.goes (segments_in h.packets) h.follow).0 in
    record {
      packets = h.packets;
      ending = Ceases h.why h.at;
      brought = h.entries;
      last = last.entries;
      heard = last.those;
      file = record {
        bytes = bytes;
        rest = rest;
        read = read;
        file = h.ceases;
        out = refused_inside h.why h.at rest h.more;
      };
      brings = h.brings;
      prints = subst (λ (es : List Entry). Prints p q es a c)
          (append_assoc h.entries (FileRefused (reason_name h.why) h.at ∷ []) last.entries)
          (prints_join p mid q (h.entries ++ FileRefused (reason_name h.why) h.at ∷ []) last.entries a b c h.prints
          last.prints);
    }

-- ---- the whole

pub prints_packets : (p q : Printing) (ports : List ℕ) (left a b c : Option (List ℕ)) (status : ℕ)
    → IsAt p.watch nothing → HasRead p q ports left a b → Closes q b c → status ≡ status_of q.watch.counts.refused
    → PrintsPackets (terms_of p.watch.terms) ports (is_some p.stats) left a c status
prints_packets p q ports left a b c status begun r y is = record {
  packets = r.packets;
  ending = r.ending;
  brought = r.brought;
  last = r.last;
  file = r.file;
  brings = r.brings;
  heard = r.heard;
  prints = prints_all p q (r.brought ++ (of_ending r.ending ++ r.last)) a b c status begun r.prints y is;
}

pub packets_in : (t t' : Terms) (ports : List ℕ) (stats : Bool) (left a b : Option (List ℕ)) (status : ℕ) → t ≡ t'
    → PrintsPackets t ports stats left a b status → PrintsPackets t' ports stats left a b status
packets_in t t' ports stats left a b status e h =
    subst (λ (k : Terms). PrintsPackets k ports stats left a b status) e h

-- the same where terms, ports and what is asked for are equal
pub packets_same : (t t' : Terms) (ports ports' : List ℕ) (stats stats' : Bool) (left a b : Option (List ℕ))
    (r : Result ℕ Failure) → t ≡ t' → ports ≡ ports' → stats ≡ stats'
    → IfOk r (λ status. PrintsPackets t ports stats left a b status)
    → IfOk r (λ status. PrintsPackets t' ports' stats' left a b status)
packets_same t t' ports ports' stats stats' left a b r x y z h =
    subst (λ (k : Terms). IfOk r (λ status. PrintsPackets k ports' stats' left a b status)) x
    (subst (λ (k : List ℕ). IfOk r (λ status. PrintsPackets t k stats' left a b status)) y
    (subst (λ (k : Bool). IfOk r (λ status. PrintsPackets t ports k left a b status)) z h))

-- what was opened is what is reported
prints_named : {T : Type 0} (left_of : T → Option (List ℕ)) (reported : List ℕ → Option (List ℕ)) (t : Terms)
    (what : CaptureTask) (file : Option T) (left taken taken' : Option (List ℕ)) (status : ℕ)
    → IsOpened left_of reported (string_bytes what.file) file
    → PrintsPackets t what.ports.items what.stats (given_of left_of file left) taken taken' status
    → PrintsNamed t reported what left taken taken' status
prints_named left_of reported t what None left taken taken' status opened p = record {
  given = left;
  is_input = λ e. refl;
  is_file = λ other. absurd (other opened);
  prints = p;
}
prints_named left_of reported t what (Some file) left taken taken' status opened p = record {
  given = left_of file;
  is_input = λ e. absurd (opened.0 e);
  is_file = λ other. opened.1;
  prints = p;
}

pub prints_capture : {T : Type 0} (left_of : T → Option (List ℕ)) (known : List Declared)
    (reported : List ℕ → Option (List ℕ)) (what : CaptureTask) (declared : Declared) (file : Option T)
    (left taken taken' : Option (List ℕ)) (status : ℕ) → Declares reported what.types declared
    → IsOpened left_of reported (string_bytes what.file) file
    → PrintsBy left_of known declared what file left taken taken' status
    → PrintsCapture known reported what left taken taken' status
prints_capture left_of known reported what declared file left taken taken' status d opened p = record {
  declared = declared;
  heads = p.heads;
  declares = d;
  are_heads = p.are_heads;
  prints = prints_named left_of reported (terms_in known declared (heads_of p.heads) what.style) what file left taken
      taken' status opened p.prints;
}
