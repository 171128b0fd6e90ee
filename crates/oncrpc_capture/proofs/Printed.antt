-- What is printed of a capture, one after another.
use Rattle.std.proofs.Common.{◌≡◌, ℕ, Bool, true, false, List, [], ◌∷◌, ◌++◌, Option, refl, sym, ap, ◌∙◌, subst}
use Rattle.std.proofs.Common.{append_assoc}
use Rattle.std.proofs.lemmas.Bool.{false≢true}
use Rattle.std.proofs.lemmas.List.{append-nil}
use Rattle.std.specs.Prelude.{OnOk, Result, Ok, Err, codes, is_some}
use Rattle.oncrpc_answers.specs.declared.failure.Failure.{Failure}
use Rattle.std.specs.Io.KnownBytes.{Appends}
use Rattle.xdr_io.proofs.Chained.{Appends-none, Appends-trans}
use Rattle.oncrpc_messages.specs.Closing.{closed}
use Rattle.oncrpc_messages.specs.declared.asked.Asked.{Asked}
use Rattle.oncrpc_messages.specs.declared.page.Found.{Found}
use Rattle.oncrpc_messages.specs.declared.page.Page.{Page}
use Rattle.oncrpc_watch.specs.Counted.{refused}
use Rattle.oncrpc_watch.specs.Events.{stream_line}
use Rattle.oncrpc_watch.specs.Lines.{counts_line}
use Rattle.oncrpc_watch.specs.MessagesEnd.{status_of}
use Rattle.oncrpc_watch.specs.Represents.{IsAt, Recalls}
use Rattle.oncrpc_watch.specs.Run.{FindsRecord, State, TellsRecord, heard, heard_of, nothing}
use Rattle.oncrpc_watch.specs.Terms.{Terms, terms_of}
use Rattle.oncrpc_capture.specs.declared.printing.Printing.{Printing}
use Rattle.oncrpc_capture.specs.declared.seen.Seen.{Seen}
use Rattle.oncrpc_capture.specs.CaptureEnd.{PrintsAll}
use Rattle.oncrpc_capture.specs.Entries.{Entry, FileRefused, Message, Note, TooLong, Unread, TellsEntries, TellsEntry}
use Rattle.oncrpc_capture.specs.Entries.{TellsMessage, place_of, refused_too}
use Rattle.oncrpc_capture.specs.Private.Steps.{Closes, Prints, PutsTables}
use Rattle.oncrpc_capture.specs.Texts.{behind, front_text, note_text, unread_text}

tells_join : (t : Terms) (b : Bool) (s mid new : State) (xs ys : List Entry) (u v : List ℕ)
    → TellsEntries t b s xs mid u → TellsEntries t b mid ys new v → TellsEntries t b s (xs ++ ys) new (u ++ v)
unfolding TellsEntries
tells_join t b s mid new [] ys u v (same, none) q =
    subst (λ (x : List ℕ). TellsEntries t b s ys new (x ++ v)) (sym none)
    (subst (λ (x : State). TellsEntries t b x ys new v) same q)
tells_join t b s mid new (e ∷ es) ys u v (m, first, rest, one, more, is) q = (
  m,
  first,
  rest ++ v,
  one,
  tells_join t b m mid new es ys rest v more q,
  ap (λ (x : List ℕ). x ++ v) is ∙ append_assoc first rest v,
)

pub prints_none : (p : Printing) (t : Option (List ℕ)) → Prints p p [] t t
unfolding TellsEntries
prints_none p t = record {
  terms = refl;
  stats = refl;
  prints = λ s h. record {
    state = s;
    text = [];
    tells = (refl, refl);
    is_at = h;
    written = Appends-none t;
  };
}

pub prints_join : (p q r : Printing) (xs ys : List Entry) (a b c : Option (List ℕ)) → Prints p q xs a b
    → Prints q r ys b c → Prints p r (xs ++ ys) a c
prints_join p q r xs ys a b c x y = record {
  terms = y.terms ∙ x.terms;
  stats = y.stats ∙ x.stats;
  prints = λ s h.
      let one = x.prints s h in
      let two = y.prints one.state one.is_at in
      record {
        state = two.state;
        text = one.text ++ two.text;
        tells = tells_join (terms_of p.watch.terms) (is_some p.stats) s one.state two.state xs ys one.text two.text
            one.tells
            (subst (λ k. TellsEntries (terms_of k) (is_some p.stats) one.state ys two.state two.text) x.terms
            (subst (λ k. TellsEntries (terms_of q.watch.terms) k one.state ys two.state two.text) x.stats two.tells));
        is_at = two.is_at;
        written = Appends-trans a b c one.text two.text (one.text ++ two.text) refl one.written two.written;
      };
}

-- what holds of a call that answers well
pub on_ok : {A B : Type 0} (r : Result (Unit {0}) Failure) → (A → B) → OnOk r A → OnOk r B
on_ok (Ok done) f h = f h
on_ok (Err failure) f h = h

-- ---- one entry

tells_one : (t : Terms) (b : Bool) (s : State) (e : Entry) (new : State) (text : List ℕ) → TellsEntry t b s e new text
    → TellsEntries t b s (e ∷ []) new text
unfolding TellsEntries
tells_one t b s e new text h = (new, text, [], h, (refl, refl), sym (append-nil text))

-- an entry of which nothing is heard, and whose text was written or is none
said_alone : (p q : Printing) (e : Entry) (text : List ℕ) (a b : Option (List ℕ)) → q.watch ≡ p.watch
    → is_some q.stats ≡ is_some p.stats
    → ((s : State) → TellsEntry (terms_of p.watch.terms) (is_some p.stats) s e s text) → Appends a b text
    → Prints p q (e ∷ []) a b
said_alone p q e text a b same stats tells w = record {
  terms = ap (λ k. k.terms) same;
  stats = stats;
  prints = λ s h. record {
    state = s;
    text = text;
    tells = tells_one (terms_of p.watch.terms) (is_some p.stats) s e s text (tells s);
    is_at = subst (λ k. IsAt k s) (sym same) h;
    written = w;
  };
}

-- a note where counts are asked for
pub note_unsaid : (p q : Printing) (seen : Seen) (what : List ℕ) (count : ℕ) (a : Option (List ℕ))
    → is_some p.stats ≡ true → q.watch ≡ p.watch → is_some q.stats ≡ is_some p.stats
    → Prints p q (Note seen what count ∷ []) a a
note_unsaid p q seen what count a e same stats = said_alone p q (Note seen what count) [] a a same stats
    (λ s. subst (λ (b : Bool). TellsEntry (terms_of p.watch.terms) b s (Note seen what count) s []) (sym e)
    (refl, refl)) (Appends-none a)

-- a note that is printed
pub note_said : (p : Printing) (seen : Seen) (what line : List ℕ) (count : ℕ) (a b : Option (List ℕ))
    → is_some p.stats ≡ false
    → line ≡ behind p.watch.terms.form (front_text p.watch.terms.form seen) (note_text p.watch.terms.form what count)
    → Appends a b line → Prints p p (Note seen what count ∷ []) a b
note_said p seen what line count a b e is w = said_alone p p (Note seen what count) line a b refl refl
    (λ s. subst (λ (x : Bool). TellsEntry (terms_of p.watch.terms) x s (Note seen what count) s line) (sym e)
    (refl, is)) w

-- a packet that is not read, where counts are asked for
pub unread_unsaid : (p q : Printing) (frame time : ℕ) (why : List ℕ) (a : Option (List ℕ)) → is_some p.stats ≡ true
    → q.watch ≡ p.watch → is_some q.stats ≡ is_some p.stats → Prints p q (Unread frame time why ∷ []) a a
unread_unsaid p q frame time why a e same stats = said_alone p q (Unread frame time why) [] a a same stats
    (λ s. subst (λ (b : Bool). TellsEntry (terms_of p.watch.terms) b s (Unread frame time why) s []) (sym e)
    (refl, refl)) (Appends-none a)

-- one that is printed
pub unread_said : (p : Printing) (frame time : ℕ) (why line : List ℕ) (a b : Option (List ℕ)) → is_some p.stats ≡ false
    → line ≡ unread_text p.watch.terms.form frame time why → Appends a b line
    → Prints p p (Unread frame time why ∷ []) a b
unread_said p frame time why line a b e is w = said_alone p p (Unread frame time why) line a b refl refl
    (λ s. subst (λ (x : Bool). TellsEntry (terms_of p.watch.terms) x s (Unread frame time why) s line) (sym e)
    (refl, is)) w

-- an entry that is refused and is no message
refused_alone : (p q : Printing) (e : Entry) (text : List ℕ) (a b : Option (List ℕ))
    → q.watch.terms ≡ p.watch.terms → is_some q.stats ≡ is_some p.stats → q.watch.table ≡ p.watch.table
    → q.watch.counts ≡ refused p.watch.counts
    → ((s : State) → TellsEntry (terms_of p.watch.terms) (is_some p.stats) s e (refused_too s) text)
    → Appends a b text → Prints p q (e ∷ []) a b
refused_alone p q e text a b terms stats table counts tells w = record {
  terms = terms;
  stats = stats;
  prints = λ s h. record {
    state = refused_too s;
    text = text;
    tells = tells_one (terms_of p.watch.terms) (is_some p.stats) s e _ text (tells s);
    is_at = (
      subst (λ k. Recalls k s.history) (sym table) h.0,
      counts ∙ ap (λ k. refused k) h.1,
    );
    written = w;
  };
}

-- why a file is refused
pub file_said : (p q : Printing) (why line : List ℕ) (at : ℕ) (a b : Option (List ℕ)) → q.watch.terms ≡ p.watch.terms
    → is_some q.stats ≡ is_some p.stats → q.watch.table ≡ p.watch.table → q.watch.counts ≡ refused p.watch.counts
    → line ≡ stream_line p.watch.terms.form (codes "file") why at → Appends a b line
    → Prints p q (FileRefused why at ∷ []) a b
file_said p q why line at a b terms stats table counts is w =
    refused_alone p q (FileRefused why at) line a b terms stats table counts (λ s. said s (is_some p.stats)) w
  where
    said : (s : State) (x : Bool) → TellsEntry (terms_of p.watch.terms) x s (FileRefused why at) (refused_too s) line
    said s true = (refl, is)
    said s false = (refl, is)

-- a header that no record has, where counts are asked for
pub too_long_unsaid : (p q : Printing) (seen : Seen) (a : Option (List ℕ)) → is_some p.stats ≡ true
    → q.watch.terms ≡ p.watch.terms → is_some q.stats ≡ is_some p.stats → q.watch.table ≡ p.watch.table
    → q.watch.counts ≡ refused p.watch.counts → Prints p q (TooLong seen ∷ []) a a
too_long_unsaid p q seen a e terms stats table counts = refused_alone p q (TooLong seen) [] a a terms stats table counts
    (λ s. subst (λ (b : Bool). TellsEntry (terms_of p.watch.terms) b s (TooLong seen) (refused_too s) []) (sym e)
    (refl, refl)) (Appends-none a)

-- one that is printed
pub too_long_said : (p q : Printing) (seen : Seen) (line : List ℕ) (a b : Option (List ℕ)) → is_some p.stats ≡ false
    → q.watch.terms ≡ p.watch.terms → is_some q.stats ≡ is_some p.stats → q.watch.table ≡ p.watch.table
    → q.watch.counts ≡ refused p.watch.counts
    → line ≡ behind p.watch.terms.form (front_text p.watch.terms.form seen)
    (stream_line p.watch.terms.form (codes "record") (codes "TooLong") 0)
    → Appends a b line → Prints p q (TooLong seen ∷ []) a b
too_long_said p q seen line a b e terms stats table counts is w = refused_alone p q (TooLong seen) line a b terms stats
    table counts (λ s. subst (λ (x : Bool). TellsEntry (terms_of p.watch.terms) x s (TooLong seen) (refused_too s) line)
    (sym e) (refl, is)) w

-- a message that was counted
pub message_counted : (p q : Printing) (seen : Seen) (way : ℕ) (bytes : List ℕ) (found : Found) (asked : Option Asked)
    → ((s : State) → IsAt p.watch s → FindsRecord (terms_of p.watch.terms) s.history way bytes found asked)
    → ((s : State) → IsAt p.watch s → IsAt q.watch (heard_of s way seen.time found asked))
    → q.watch.terms ≡ p.watch.terms → is_some q.stats ≡ is_some p.stats → (a : Option (List ℕ))
    → is_some p.stats ≡ true → Prints p q (Message seen way bytes ∷ []) a a
message_counted p q seen way bytes found asked finds is_heard terms stats a e = record {
  terms = terms;
  stats = stats;
  prints = λ s h.
      let new = heard_of s way seen.time found asked in
      record {
        state = new;
        text = [];
        tells = tells_one (terms_of p.watch.terms) (is_some p.stats) s (Message seen way bytes) new []
            (subst (λ (x : Bool). TellsEntry (terms_of p.watch.terms) x s (Message seen way bytes) new []) (sym e)
            (record { found = found; asked = asked; finds = finds s h; new_is = refl }, refl));
        is_at = is_heard s h;
        written = Appends-none a;
      };
}

-- a message that was told
module _ (p q : Printing) (seen : Seen) (way : ℕ) (bytes : List ℕ) (page : Page) (asked : Option Asked)
    (told : (s : State) → IsAt p.watch s
    → TellsRecord (terms_of p.watch.terms) s.history way bytes page asked)
    (is_heard : (s : State) → IsAt p.watch s → IsAt q.watch (heard s way seen.time page asked))
    (terms : q.watch.terms ≡ p.watch.terms) (stats : is_some q.stats ≡ is_some p.stats) where
  abbrev line : List ℕ
  line = closed p.watch.terms.form page.text.items page.verdict (place_of page.verdict)

  message_told : (s : State) → IsAt p.watch s
      → TellsMessage (terms_of p.watch.terms) s way seen.time bytes (heard s way seen.time page asked) line
  message_told s h = record { page = page; asked = asked; told = told s h; new_is = refl; text_is = refl }

  pub message_said : (text : List ℕ) (a b : Option (List ℕ)) → is_some p.stats ≡ false
      → text ≡ behind p.watch.terms.form (front_text p.watch.terms.form seen) line → Appends a b text
      → Prints p q (Message seen way bytes ∷ []) a b
  message_said text a b e is w = record {
    terms = terms;
    stats = stats;
    prints = λ s h. record {
      state = heard s way seen.time page asked;
      text = text;
      tells = tells_one (terms_of p.watch.terms) (is_some p.stats) s (Message seen way bytes) _ text
          (subst (λ (x : Bool). TellsEntry (terms_of p.watch.terms) x s (Message seen way bytes)
          (heard s way seen.time page asked) text) (sym e) (line, message_told s h, is));
      is_at = is_heard s h;
      written = w;
    };
  }

-- ---- the whole

pub no_tables : (stats : Bool) (a : Option (List ℕ)) → PutsTables stats a a
no_tables stats a = record { tables = []; none = λ e. refl; written = Appends-none a }

pub some_tables : (text : List ℕ) (stats : Bool) (a b : Option (List ℕ)) → stats ≡ true → Appends a b text
    → PutsTables stats a b
some_tables text stats a b e w =
    record { tables = text; none = λ f. absurd (false≢true (sym f ∙ e)); written = w }

-- the counts behind the tables
pub closes_with : (p : Printing) (line : List ℕ) (a b c : Option (List ℕ)) → PutsTables (is_some p.stats) a b
    → line ≡ counts_line p.watch.terms.form p.watch.counts → Appends b c line → Closes p a c
closes_with p line a b c t is w = record {
  tables = t.tables;
  none = t.none;
  written = Appends-trans a b c t.tables line (t.tables ++ counts_line p.watch.terms.form p.watch.counts)
      (ap (λ (k : List ℕ). t.tables ++ k) is) t.written w;
}

-- entries from the first on, and the counts
pub prints_all : (p q : Printing) (entries : List Entry) (a b c : Option (List ℕ)) (status : ℕ) → IsAt p.watch nothing
    → Prints p q entries a b → Closes q b c → status ≡ status_of q.watch.counts.refused
    → PrintsAll (terms_of p.watch.terms) (is_some p.stats) entries a c status
prints_all p q entries a b c status begun x y is =
    let from = x.prints nothing begun in
    record {
      state = from.state;
      text = from.text;
      tables = y.tables;
      tells = from.tells;
      none = λ e. y.none (x.stats ∙ e);
      written = Appends-trans a b c from.text (y.tables ++ counts_line q.watch.terms.form q.watch.counts) _
          (ap (λ (k : List ℕ). from.text ++ (y.tables ++ k))
          (ap (λ t. counts_line t.form q.watch.counts) x.terms
          ∙ ap (λ k. counts_line p.watch.terms.form k) from.is_at.1)) from.written y.written;
      status_is = is ∙ ap (λ k. status_of k.refused) from.is_at.1;
    }
