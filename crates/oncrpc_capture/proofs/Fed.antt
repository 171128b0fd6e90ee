-- What taking pieces of a file does, one after another.
use Rattle.std.proofs.Common.{◌≡◌, ◌≢◌, ◌⊎◌, inl, inr, ℕ, ◌+◌, ◌-◌, ◌^◌, min, true, false, List, [], ◌∷◌, ◌++◌, length}
use Rattle.std.proofs.Common.{take, drop, Option, Some, Ok}
use Rattle.std.proofs.Common.{Bool, refl, sym, ap, ◌∙◌, subst, arith, append_assoc, length-drop}
use Rattle.std.proofs.lemmas.List.{append-nil, take-append-drop, take_all}
use Rattle.std.specs.Io.KnownBytes.{Consumes, IsAtEnd}
use Rattle.xdr_io.proofs.Chained.{Consumes-trans}
use Rattle.capture_files.specs.declared.fault.CaptureFault.{CaptureFault}
use Rattle.capture_files.specs.declared.progress.Progress.{Progress}
use Rattle.capture_files.specs.declared.progress.Progress.TheVariants.{Gathering, Broken}
use Rattle.capture_files.specs.declared.reader.CaptureReader.{CaptureReader}
use Rattle.capture_files.specs.declared.reason.CaptureReason.TheVariants as reason
use Rattle.capture_files.specs.declared.fault.CaptureStep.{CaptureStep}
use Rattle.capture_files.specs.declared.fault.CaptureStep.TheVariants.{More, Packet}
use Rattle.capture_files.specs.Faults.{IsRefused}
use Rattle.capture_files.specs.Represents.{Faulty, Represents, RepresentsAt, Reports, Takes, state_of, used_of, waiting}
use Rattle.capture_files.specs.Represents.{waits_at}
use Rattle.capture_files.specs.Runs.{PacketView, IsCapture}
use Rattle.capture_packets.specs.Packets.{packet_of}
use Rattle.oncrpc_capture.specs.declared.flows.Flows.{Flows}
use Rattle.oncrpc_capture.specs.declared.printing.Printing.{Printing}
use Rattle.oncrpc_capture.specs.Connections.{segments_in}
use Rattle.oncrpc_capture.specs.Entries.{FileRefused}
use Rattle.oncrpc_capture.specs.Files.{reason_name}
use Rattle.oncrpc_capture.specs.Private.Steps.{EndsFile, Feeds, HasRead, IsBrokenOff, IsThrough, Prints, PrintsNext}
use Rattle.oncrpc_capture.specs.Private.Steps.{Goes, GoesFrom, IsFed}
use Rattle.oncrpc_capture.specs.Private.Follows.{Follow}
use Rattle.oncrpc_capture.proofs.Closed.{read_broken, read_cut, read_whole}
use Rattle.oncrpc_capture.proofs.Through.{broken_off, ceases, through_more, through_packet}

-- ---- what a reader answers

module _ (s new : CaptureReader) (rest : List ℕ) (step : CaptureStep) where
  pub takes_packet : (used : ℕ) → step ≡ Packet used → Takes s new (take (used_of (Ok step) (length rest)) rest)
      → Takes s new (take used rest)
  takes_packet used e h =
      subst (λ (x : CaptureStep). Takes s new (take (used_of (Ok x) (length rest)) rest)) e h

  pub takes_more : step ≡ More → Takes s new (take (used_of (Ok step) (length rest)) rest)
      → Takes s new (take (length rest) rest)
  takes_more e h = subst (λ (x : CaptureStep). Takes s new (take (used_of (Ok x) (length rest)) rest)) e h

  pub reports_more : step ≡ More → Reports (Ok step) new.progress → new.progress ≡ Gathering
  reports_more e h = subst (λ (x : CaptureStep). Reports (Ok x) new.progress) e h

pub next_is : (reader : CaptureReader) (ports : List ℕ) (frame frame' mid : ℕ) (f g : Flows) (p new : Printing)
    (a b : Option (List ℕ)) (v : PacketView) → Some v ≡ waiting reader → frame' ≡ mid
    → mid ≡ min (frame + 1) (2 ^ 64 - 1) → GoesFrom ports mid (packet_of v.link v.content) f g p new a b
    → PrintsNext reader ports frame frame' f g p new a b
next_is reader ports frame frame' mid f g p new a b v waits same next prints = record {
  packet = v;
  waits = waits;
  next = same ∙ next;
  prints = subst (λ (n : ℕ). GoesFrom ports n (packet_of v.link v.content) f g p new a b) (sym same) prints;
}

-- ---- a piece

pub fed_none : (p : Printing) (ports : List ℕ) (frame : ℕ) (k : Flows) (r : CaptureReader) (t : Option (List ℕ))
    → Feeds true p p ports frame frame k k r r [] t t
fed_none p ports frame k r t = λ first begun bytes h.
    subst (λ (x : List ℕ). IsThrough r x ports frame k first p begun t) (sym (append-nil bytes)) h

-- what is known of the bytes of a piece behind some of it
rest_is : (bytes done rest piece : List ℕ) → piece ≡ done ++ rest
    → (bytes ++ done) ++ take (length rest) rest ≡ bytes ++ piece
rest_is bytes done rest piece is =
    let all : take (length rest) rest ≡ rest = take_all (length rest) rest (omega arith) in
    ap (λ (x : List ℕ). (bytes ++ done) ++ x) all ∙ append_assoc bytes done rest
    ∙ ap (λ (x : List ℕ). bytes ++ x) (sym is)

pub parts_of : (piece done rest : List ℕ) (used : ℕ) → piece ≡ done ++ rest
    → piece ≡ (done ++ take used rest) ++ take (length rest - used) (drop used rest)
parts_of piece done rest used is =
    let all : take (length rest - used) (drop used rest) ≡ drop used rest =
    take_all (length rest - used) (drop used rest) (omega (arith, length-drop used rest)) in
    is ∙ ap (λ (x : List ℕ). done ++ x) (sym (take-append-drop used rest))
    ∙ sym (append_assoc done (take used rest) (drop used rest))
    ∙ ap (λ (x : List ℕ). (done ++ take used rest) ++ x) (sym all)

module _ (p q : Printing) (ports : List ℕ) (f g : ℕ) (k l : Flows) (r s new : CaptureReader) (done rest : List ℕ)
    (a b : Option (List ℕ)) (h : Feeds true p q ports f g k l r s done a b) where
  -- the whole piece was taken
  pub fed_more : (piece : List ℕ) → piece ≡ done ++ rest → Takes s new (take (length rest) rest)
      → new.progress ≡ Gathering → Feeds true p q ports f g k l r new piece a b
  fed_more piece is takes open_is = λ first begun bytes x.
      subst (λ (y : List ℕ). IsThrough new y ports g l first q begun b) (rest_is bytes done rest piece is)
      (through_more s new (bytes ++ done) (take (length rest) rest) ports g l first q begun b (h first begun bytes x)
      takes open_is)

  -- some of it up to the end of a packet
  pub fed_packet : (q' : Printing) (ports' : List ℕ) (g' used : ℕ) (m : Flows) (c : Option (List ℕ)) → ports' ≡ ports
      → Takes s new (take used rest) → PrintsNext new ports' g g' l m q q' b c
      → Feeds true p q' ports f g' k m r new (done ++ take used rest) a c
  fed_packet q' ports' g' used m c same takes next = λ first begun bytes x.
      let n : PrintsNext new ports g g' l m q q' b c =
      subst (λ (y : List ℕ). PrintsNext new y g g' l m q q' b c) same next in
      subst (λ (y : List ℕ). IsThrough new y ports g' m first q' begun c) (append_assoc bytes done (take used rest))
      (through_packet s new (bytes ++ done) (take used rest) ports g g' l m first q q' begun b c n.packet
      (h first begun bytes x) takes n.waits n.next n.prints)

  -- the piece is refused
  pub fed_broken : (piece : List ℕ) (q' : Printing) (g' : ℕ) (m : Flows) (c : Option (List ℕ)) (fault : CaptureFault)
      → piece ≡ done ++ rest → Takes s new (take (length rest) rest) → new.progress ≡ Broken fault
      → (fault.reason ≡ reason.NoMemory → ⊥) → IsRefused s fault ⊎ (fault.reason ≢ reason.Truncated)
      → Prints q q' (FileRefused (reason_name fault.reason) fault.at ∷ []) b c
      → m ≡ l → Feeds false p q' ports f g' k m r new piece a c
  fed_broken piece q' g' m c fault is takes broken memory inside one kept = λ first begun bytes x.
      let through = h first begun bytes x in
      let more : fault.reason ≢ reason.Truncated =
      elim inside [ inl before ↦ absurd (through.open_is fault before) | inr other ↦ other ] in
      subst (λ (y : Flows). IsBrokenOff (bytes ++ piece) ports y first q' begun c) (sym kept)
      (subst (λ (y : List ℕ). IsBrokenOff y ports l first q' begun c) (rest_is bytes done rest piece is)
      (broken_off s new (bytes ++ done) (take (length rest) rest) ports g l first q q' begun b c fault.reason fault.at
      through (says (bytes ++ done)) memory more one))
    where
      says : (bytes : List ℕ) (ps : List PacketView) → Represents s bytes ps
          → Faulty fault.reason fault.at (bytes ++ take (length rest) rest) ps
      says bytes ps k = subst (λ (qs : List PacketView). Faulty fault.reason fault.at
          (bytes ++ take (length rest) rest) qs) (append-nil ps)
          (subst (λ (x : Progress). RepresentsAt x new.need new.at new.unit.items (state_of new)
          (bytes ++ take (length rest) rest) (ps ++ waits_at x new.unit.items)) broken (takes bytes ps k))

-- ---- the reads of a file

module _ (p q s : Printing) (ports ports' : List ℕ) (f : ℕ) (k : Flows) (r : CaptureReader)
    (left mid rest a b c : Option (List ℕ)) (bytes array : List ℕ) (n : ℕ) (same : ports' ≡ ports)
    (read : Consumes left mid bytes) (through : IsThrough r bytes ports f k p q a b)
    (took : Consumes mid rest (take n array)) where
  read_more : Consumes left rest (bytes ++ take n array)
  read_more = Consumes-trans left mid rest bytes (take n array) (bytes ++ take n array) refl read took

  here : IsThrough r bytes ports' f k p q a b
  here = subst (λ (x : List ℕ). IsThrough r bytes x f k p q a b) (sym same) through

  -- they go on
  pub goes_on : (more : Bool) (g : ℕ) (l : Flows) (new : CaptureReader) → more ≡ true
      → Feeds more q s ports' f g k l r new (take n array) b c
      → (input : List ℕ) × Consumes left rest input × IsThrough new input ports g l p s a c
  goes_on more g l new e h =
      let fed : IsFed true new (bytes ++ take n array) ports' g l p s a c =
      subst (λ (x : Bool). IsFed x new (bytes ++ take n array) ports' g l p s a c) e (h p a bytes here) in (
        bytes ++ take n array,
        read_more,
        subst (λ (x : List ℕ). IsThrough new (bytes ++ take n array) x g l p s a c) same fed,
      )

  -- they cease to be a capture
  pub breaks_off : (more : Bool) (g : ℕ) (l m : Flows) (new : CaptureReader) (t : Printing) (d : Option (List ℕ))
      → more ≡ false → Feeds more q s ports' f g k l r new (take n array) b c → Goes l m s t c d
      → HasRead p t ports left a d
  breaks_off more g l m new t d e h last =
      let fed : IsFed false new (bytes ++ take n array) ports' g l p s a c =
      subst (λ (x : Bool). IsFed x new (bytes ++ take n array) ports' g l p s a c) e (h p a bytes here) in
      read_broken ports (bytes ++ take n array) l m p s t left rest a c d read_more
      (subst (λ (x : List ℕ). IsBrokenOff (bytes ++ take n array) x l p s a c) same fed) last

  -- nothing is left
  pub ends_there : (n ≡ 0 → IsAtEnd rest) → n ≡ 0 → EndsFile q s ports' f k r b c → HasRead p s ports left a c
  ends_there out none h =
      let all : Consumes left rest bytes =
      Consumes-trans left mid rest bytes (take n array) bytes
      (ap (λ (k : ℕ). bytes ++ take k array) none ∙ append-nil bytes) read took in
      subst (λ (x : List ℕ). HasRead p s x left a c) same (h p a left rest bytes here all (out none))

-- ---- the end of a file

pub ends_whole : (p q : Printing) (ports : List ℕ) (frame : ℕ) (k l : Flows) (r new : CaptureReader)
    (a b : Option (List ℕ)) → ((bytes : List ℕ) (ps : List PacketView) → Represents r bytes ps → IsCapture bytes ps)
    → Goes k l p q a b → EndsFile p q ports frame k r a b
ends_whole p q ports frame k l r new a b is last = λ first begun left rest bytes h read out.
    read_whole ports bytes first p q left rest begun a b h.packets h.entries read (is bytes h.packets h.represents)
    out h.brings h.prints (last.goes (segments_in h.packets) h.follow).0

pub ends_cut : (p mid q : Printing) (ports : List ℕ) (frame : ℕ) (k l m : Flows) (r new : CaptureReader)
    (a b c : Option (List ℕ)) (fault : CaptureFault) → new.progress ≡ Broken fault
    → ((bytes : List ℕ) (ps : List PacketView) → Represents r bytes ps → Represents new bytes ps)
    → (fault.reason ≡ reason.NoMemory → ⊥)
    → Prints p mid (FileRefused (reason_name fault.reason) fault.at ∷ []) a b → l ≡ k → Goes l m mid q b c
    → EndsFile p q ports frame k r a c
ends_cut p mid q ports frame k l m r new a b c fault broken is memory one kept last =
    λ first begun left rest bytes h read out.
    read_cut ports bytes first p mid q left rest begun a b c h.packets h.entries fault.reason fault.at read
    (ceases fault.reason fault.at bytes h.packets memory
    (subst (λ (x : Progress). RepresentsAt x new.need new.at new.unit.items (state_of new) bytes h.packets) broken
    (is bytes h.packets h.represents)))
    out h.brings h.prints one
    (last.goes (segments_in h.packets) (subst (λ (y : Flows). Follow (segments_in h.packets) y) (sym kept) h.follow)).0
