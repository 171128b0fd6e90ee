-- What comes of a read of a stream, and what is printed of that.
use Rattle.std.proofs.Common.{◌≡◌, ℕ, Bool, true, false, List, [], ◌∷◌, ◌++◌, Option, None, Some, Result, Ok, Err, refl}
use Rattle.std.proofs.Common.{sym, ap, ◌∙◌, subst, take, drop}
use Rattle.std.proofs.lemmas.List.{append-nil, map-append, take-append-drop}
use Rattle.std.specs.declared.alloc.Global.{Global}
use Rattle.std.specs.declared.vec.Vec.{Vec}
use Rattle.std.specs.Io.KnownBytes.{Appends}
use Rattle.xdr_io.proofs.Chained.{Appends-none, Counts-none, Counts-trans}
use Rattle.xdr_io.specs.Reported.{Counts}
use Rattle.xdr_io.specs.declared.input.TheConstants.{MOST_READS}
use Rattle.rpc_record.specs.Failures.{reads_failed}
use Rattle.rpc_record.specs.Streamed.{Fails, HandsNext, HasRead, IsOpen, reads_of}
use Rattle.rpc_record.specs.declared.fault.RecordFault.{RecordFault}
use Rattle.rpc_record.specs.declared.fault.RecordFault.TheVariants as faults
use Rattle.rpc_record.specs.declared.stream.RecordStream.{RecordStream}
use Rattle.oncrpc_answers.specs.declared.failure.Failure.{Failure}
use Rattle.oncrpc_answers.specs.declared.failure.Failure.TheVariants as failure
use Rattle.oncrpc_messages.specs.Closing.{closed}
use Rattle.oncrpc_watch.specs.declared.ending.Ending.{Ending}
use Rattle.oncrpc_watch.specs.declared.ending.Ending.TheVariants as endings
use Rattle.oncrpc_watch.specs.declared.stream.TheConstants.{MOST_RECORD}
use Rattle.oncrpc_watch.specs.declared.watch.Told.{Told}
use Rattle.oncrpc_watch.specs.declared.watch.Watch.{Watch}
use Rattle.oncrpc_watch.specs.Counted.{refused}
use Rattle.oncrpc_watch.specs.Events.{Ends, Event, Record, TellsEvent, TellsEvents, ending_line}
use Rattle.oncrpc_watch.specs.Private.Steps.{FailsFrom, GoesOn, IsSound, IsStanding, Prints, ReadFails}
use Rattle.oncrpc_watch.specs.Private.Steps.{Reached, Reads, StandsBy, StopsTelling, Sunk, TellFails}
use Rattle.oncrpc_watch.specs.Represents.{IsAt, Recalls}
use Rattle.oncrpc_watch.specs.Run.{State, TellsRecord, heard}
use Rattle.oncrpc_watch.specs.Streams.{fault_of, records}
use Rattle.oncrpc_watch.specs.Terms.{Terms, terms_of}
use Rattle.oncrpc_watch.proofs.Joined.{goes_none, prints_none}

-- ---- what comes of a read

-- where a stream is
abbrev at : (ended : Bool) → RecordStream → (name : List ℕ) → (left : Option (List ℕ)) → (failures reads : Option ℕ)
    → Reached
at ended stream name left failures reads = record {
  ended = ended;
  stream = stream;
  name = name;
  left = left;
  failures = failures;
  reads = reads;
}

-- a stream that has not ended has read records
pub standing_read : (b : Bool) (stream : RecordStream) (name : List ℕ) (l : Option (List ℕ)) (f n : Option ℕ)
    → b ≡ false → IsStanding (at b stream name l f n)
    → (rs : List (List ℕ)) × (left : Option (List ℕ)) × HasRead MOST_RECORD stream rs left l
standing_read b stream name l f n e (left, events, h) =
    let old = subst (λ (x : Bool). StandsBy x (at b stream name l f n) left events) e h in (old.0, left, old.1)

-- and is open
pub standing_open : (b : Bool) (stream : RecordStream) (name : List ℕ) (l : Option (List ℕ)) (f n : Option ℕ)
    → b ≡ false → IsStanding (at b stream name l f n) → IsOpen stream
standing_open b stream name l f n e h = (standing_read b stream name l f n e h).2.taking

-- counts that a read which did not fail leaves
sound_read : (p q : Reached) → Counts 0 p.failures q.failures
    → ((start : Option ℕ) → Counts (reads_of p.stream) start p.reads → Counts (reads_of q.stream) start q.reads)
    → (failures reads : Option ℕ) → IsSound failures reads p → IsSound failures reads q
sound_read p q unfailed counted failures reads s = record {
  unfailed = Counts-trans failures p.failures q.failures 0 0 0 refl s.unfailed unfailed;
  counted = counted reads s.counted;
}

module _ (b : Bool) (stream new : RecordStream) (name : List ℕ) (l m : Option (List ℕ)) (f n g o : Option ℕ)
    (e : b ≡ false)
    (counted : (start : Option ℕ) → Counts (reads_of stream) start n → Counts (reads_of new) start o) where
  pub read_record : (bytes : Vec ℕ Global)
      → ((limit : ℕ) (rs : List (List ℕ)) (left : Option (List ℕ)) → HasRead limit stream rs left l
      → HandsNext limit new rs left m (Ok (Some bytes))) → Counts 0 f g
      → GoesOn (at b stream name l f n) (at b new name m g o) (Record bytes.items ∷ [])
  read_record bytes next unfailed = record {
    name = refl;
    on = λ left events h.
        let old = subst (λ (x : Bool). StandsBy x (at b stream name l f n) left events) e h in
        subst (λ (x : Bool). StandsBy x (at b new name m g o) left (events ++ Record bytes.items ∷ [])) (sym e) (
          old.0 ++ bytes.items ∷ [],
          next MOST_RECORD old.0 left old.1,
          ap (λ (k : List Event). k ++ Record bytes.items ∷ []) old.2
              ∙ sym (map-append (λ (r : List ℕ). Record r) old.0 (bytes.items ∷ [])),
        );
    sound = sound_read (at b stream name l f n) (at b new name m g o) unfailed counted;
  }

  pub read_end : ((limit : ℕ) (rs : List (List ℕ)) (left : Option (List ℕ)) → HasRead limit stream rs left l
      → HandsNext limit new rs left m (Ok None)) → Counts 0 f g
      → GoesOn (at b stream name l f n) (at true new name m g o) []
  read_end next unfailed = record {
    name = refl;
    on = λ left events h.
        let old = subst (λ (x : Bool). StandsBy x (at b stream name l f n) left events) e h in
        (old.0, None, (next MOST_RECORD old.0 left old.1, append-nil events ∙ old.2));
    sound = sound_read (at b stream name l f n) (at true new name m g o) unfailed counted;
  }

  pub read_refused : (fault : RecordFault) (ending : Ending) → fault ≡ fault_of ending
      → ((limit : ℕ) (rs : List (List ℕ)) (left : Option (List ℕ)) → HasRead limit stream rs left l
      → HandsNext limit new rs left m (Err fault)) → Counts (reads_failed fault) f g
      → GoesOn (at b stream name l f n) (at true new name m g o) (Ends name ending ∷ [])
  read_refused fault ending is next failed = record {
    name = refl;
    on = λ left events h.
        let old = subst (λ (x : Bool). StandsBy x (at b stream name l f n) left events) e h in (
          old.0,
          Some ending,
          (
            subst (λ (x : RecordFault). Fails MOST_RECORD old.0 left m x) is (next MOST_RECORD old.0 left old.1),
            ap (λ (k : List Event). k ++ Ends name ending ∷ []) old.2,
          ),
        );
    sound = sound_read (at b stream name l f n) (at true new name m g o) (none_failed ending
        (subst (λ (x : RecordFault). Counts (reads_failed x) f g) is failed)) counted;
  }
    where
      none_failed : (e : Ending) → Counts (reads_failed (fault_of e)) f g → Counts 0 f g
      none_failed (endings.TooLong place) h = h
      none_failed (endings.Truncated place) h = h

  -- a read that failed, or one too many
  pub read_failed : (fault : RecordFault) (why : Failure) → FailsFrom fault why
      → IsStanding (at b stream name l f n)
      → ((limit : ℕ) (rs : List (List ℕ)) (left : Option (List ℕ)) → HasRead limit stream rs left l
      → HandsNext limit new rs left m (Err fault)) → Counts (reads_failed fault) f g
      → (fault ≡ faults.TooManyReads → reads_of new ≡ MOST_READS) → (failures reads : Option ℕ)
      → IsSound failures reads (at b stream name l f n) → ReadFails failures reads (at true new name m g o) why
  read_failed faults.Read why is h next failed many failures reads s =
      subst (λ (x : Failure). ReadFails failures reads (at true new name m g o) x) (sym is)
      (Counts-trans failures f g 0 1 1 refl s.unfailed failed)
  read_failed faults.TooManyReads why is h next failed many failures reads s =
      subst (λ (x : Failure). ReadFails failures reads (at true new name m g o) x) (sym is)
      (subst (λ (k : ℕ). Counts k reads o) (many refl) (counted reads s.counted))
  read_failed faults.NoMemory why is h next failed many failures reads s =
      subst (λ (x : Failure). ReadFails failures reads (at true new name m g o) x) (sym is) tt
  read_failed (faults.Write written) why is h next failed many failures reads s =
      let old = standing_read b stream name l f n e h in
      absurd (next MOST_RECORD old.0 old.1 old.2).fails
  read_failed (faults.TooLong place) why is h next failed many failures reads s = absurd is
  read_failed (faults.Truncated place) why is h next failed many failures reads s = absurd is

-- ---- what is printed of that

pub reads_already : (p : Reached) (bytes : List ℕ) (w : Watch) (t : Sunk) → p.ended ≡ true
    → Reads false p p bytes w w t t
reads_already p bytes w t e = record { events = []; on = goes_none p; prints = prints_none w t; ended = λ x. e }

module _ (p q : Reached) (bytes : List ℕ) (w : Watch) (t : Sunk) where
  pub reads_record : GoesOn p q (Record bytes ∷ []) → Reads true p q bytes w w t t
  reads_record h = record { events = []; on = h; prints = prints_none w t; ended = λ x. cc }

  pub reads_end : GoesOn p q [] → q.ended ≡ true → Reads false p q bytes w w t t
  reads_end h e = record { events = []; on = h; prints = prints_none w t; ended = λ x. e }

pub reads_refused : (p q : Reached) (bytes : List ℕ) (ending : Ending) (w v : Watch) (a b : Sunk)
    → GoesOn p q (Ends p.name ending ∷ []) → q.ended ≡ true → Prints w v (Ends q.name ending ∷ []) a b
    → Reads false p q bytes w v a b
reads_refused p q bytes ending w v a b h e k = record {
  events = Ends q.name ending ∷ [];
  on = subst (λ (n : List ℕ). GoesOn p q (Ends n ending ∷ [])) (sym h.name) h;
  prints = k;
  ended = λ x. e;
}

-- ---- one event

tells_one : (t : Terms) (s : State) (e : Event) (new : State) (text : List ℕ) → TellsEvent t s e new text
    → TellsEvents t s (e ∷ []) new text
tells_one t s e new text h = (new, text, [], h, (refl, refl), sym (append-nil text))

-- the text of a record that was told
record_told : (w v : Watch) (bytes given text : List ℕ) (told : Told) (place : ℕ) → given ≡ bytes
    → ((s : State) → IsAt w s → TellsRecord (terms_of w.terms) s.history 0 given told.page told.asked)
    → text ≡ closed w.terms.form told.page.text.items told.page.verdict place
    → (s : State) → IsAt w s
    → TellsEvents (terms_of w.terms) s (Record bytes ∷ []) (heard s 0 0 told.page told.asked) text
record_told w v bytes given text told place same tells is s h =
    tells_one (terms_of w.terms) s (Record bytes) _ text (record {
      page = told.page;
      asked = told.asked;
      place = place;
      told = subst (λ (x : List ℕ). TellsRecord (terms_of w.terms) s.history 0 x told.page told.asked) same (tells s h);
      new_is = refl;
      text_is = is;
    })

pub record_printed : (w v : Watch) (bytes given text : List ℕ) (told : Told) (place : ℕ) (a b : Sunk)
    → given ≡ bytes
    → ((s : State) → IsAt w s → TellsRecord (terms_of w.terms) s.history 0 given told.page told.asked)
    → ((s : State) → IsAt w s → IsAt v (heard s 0 0 told.page told.asked)) → v.terms ≡ w.terms
    → text ≡ closed w.terms.form told.page.text.items told.page.verdict place → Appends a.taken b.taken text
    → Counts 0 a.lost b.lost → Prints w v (Record bytes ∷ []) a b
record_printed w v bytes given text told place a b same tells is_heard terms is written unlost = record {
  same = terms;
  prints = λ s h. record {
    state = heard s 0 0 told.page told.asked;
    text = text;
    tells = record_told w v bytes given text told place same tells is s h;
    is_at = is_heard s h;
    written = written;
  };
  unlost = unlost;
}

pub ending_printed : (w v : Watch) (name line : List ℕ) (ending : Ending) (a b : Sunk) → v.terms ≡ w.terms
    → v.table ≡ w.table → v.counts ≡ refused w.counts → line ≡ ending_line w.terms.form name ending
    → Appends a.taken b.taken line → Counts 0 a.lost b.lost → Prints w v (Ends name ending ∷ []) a b
ending_printed w v name line ending a b terms table counts is written unlost = record {
  same = terms;
  prints = λ s h. record {
    state = record { history = s.history; counts = refused s.counts };
    text = line;
    tells = tells_one (terms_of w.terms) s (Ends name ending) _ line (refl, is);
    is_at = (
      subst (λ k. Recalls k s.history) (sym table) h.0,
      counts ∙ ap (λ k. refused k) h.1,
    );
    written = written;
  };
  unlost = unlost;
}

-- ---- what is not printed of that

-- nothing was written
pub untold : (w : Watch) (events : List Event) (a : Sunk) (f : Failure) → f ≡ failure.NoMemory
    → StopsTelling w events a a f
untold w events a f is = record {
  stops = record {
    part = λ s h. record {
      told = [];
      untold = events;
      state = s;
      text = [];
      written = [];
      unwritten = [];
      first = refl;
      tells = (refl, refl);
      front = refl;
      appended = Appends-none a.taken;
    };
  };
  fails = subst (λ (x : Failure). TellFails a a x) (sym is) (Counts-none a.lost);
}

-- a front of the text was
told_in_part : (w : Watch) (events : List Event) (text : List ℕ) (n : ℕ) (a b : Sunk) (f : Failure)
    → f ≡ failure.Write
    → ((s : State) → IsAt w s → (new : State) × TellsEvents (terms_of w.terms) s events new text)
    → Appends a.taken b.taken (take n text) → Counts 1 a.lost b.lost → StopsTelling w events a b f
told_in_part w events text n a b f is tells written lost = record {
  stops = record {
    part = λ s h. record {
      told = events;
      untold = [];
      state = (tells s h).0;
      text = text;
      written = take n text;
      unwritten = drop n text;
      first = sym (append-nil events);
      tells = (tells s h).1;
      front = sym (take-append-drop n text);
      appended = written;
    };
  };
  fails = subst (λ (x : Failure). TellFails a b x) (sym is) lost;
}

pub record_cut : (w v : Watch) (bytes given text : List ℕ) (told : Told) (place n : ℕ) (a b : Sunk) (f : Failure)
    → f ≡ failure.Write → given ≡ bytes
    → ((s : State) → IsAt w s → TellsRecord (terms_of w.terms) s.history 0 given told.page told.asked)
    → text ≡ closed w.terms.form told.page.text.items told.page.verdict place
    → Appends a.taken b.taken (take n text) → Counts 1 a.lost b.lost → StopsTelling w (Record bytes ∷ []) a b f
record_cut w v bytes given text told place n a b f why same tells is written lost =
    told_in_part w (Record bytes ∷ []) text n a b f why
    (λ s h. (heard s 0 0 told.page told.asked, record_told w v bytes given text told place same tells is s h))
    written lost

pub ending_cut : (w : Watch) (name line : List ℕ) (ending : Ending) (n : ℕ) (a b : Sunk) (f : Failure)
    → f ≡ failure.Write → line ≡ ending_line w.terms.form name ending → Appends a.taken b.taken (take n line)
    → Counts 1 a.lost b.lost → StopsTelling w (Ends name ending ∷ []) a b f
ending_cut w name line ending n a b f why is written lost = told_in_part w (Ends name ending ∷ []) line n a b f why
    (λ s h. (
      record { history = s.history; counts = refused s.counts },
      tells_one (terms_of w.terms) s (Ends name ending) _ line (refl, is),
    )) written lost
