-- What was written where something failed, from the start of the streams on; and how the failure is reported.
use Rattle.std.proofs.Common.{◌≡◌, ◌⊎◌, ℕ, List, [], ◌++◌, Option, None, Some, String, refl, sym, ap, ◌∙◌, subst}
use Rattle.std.proofs.Common.{inl, inr, append_assoc, true, take, drop}
use Rattle.std.proofs.lemmas.List.{take-append-drop}
use Rattle.std.specs.Prelude.{codes}
use Rattle.std.specs.declared.alloc.Global.{Global}
use Rattle.std.specs.Io.KnownBytes.{Appends, Keeps}
use Rattle.xdr_io.proofs.Chained.{Appends-none, Appends-trans, Counts-none, Counts-trans}
use Rattle.xdr_io.specs.Reported.{Counts}
use Rattle.xdr_io.specs.declared.input.TheConstants.{MOST_READS}
use Rattle.xdr_lang.specs.Declarations.{Declared}
use Rattle.oncrpc_answers.specs.declared.failure.Failure.{Failure}
use Rattle.oncrpc_answers.specs.declared.failure.Failure.TheVariants as failure
use Rattle.oncrpc_messages.specs.Heads.{heads_of}
use Rattle.oncrpc_tasks.specs.Sources.{Declares}
use Rattle.oncrpc_watch.specs.declared.task.MessagesTask.{MessagesTask}
use Rattle.oncrpc_watch.specs.declared.watch.Watch.{Watch}
use Rattle.oncrpc_watch.specs.Events.{Event}
use Rattle.oncrpc_watch.specs.Lines.{counts_line}
use Rattle.oncrpc_watch.specs.MessagesEnd.{terms_in}
use Rattle.oncrpc_watch.specs.Private.Steps.{CloseFails, FailsBy, IsOpened, Prints, PrintsPartBy, PrintsPartIn, Reached}
use Rattle.oncrpc_watch.specs.Private.Steps.{Reports, Stands, StopsBoth, StopsOn, Sunk, TellFails, TellsBoth, TellsOn}
use Rattle.oncrpc_watch.specs.Represents.{IsAt}
use Rattle.oncrpc_watch.specs.Run.{nothing}
use Rattle.oncrpc_watch.specs.Stopped.{AreFirst, ClosesPart, PrintsBothPart, PrintsInputPart, PrintsMessagesPart}
use Rattle.oncrpc_watch.specs.Stopped.{PrintsPartOf}
use Rattle.oncrpc_watch.specs.Terms.{Terms, terms_of}
use Rattle.oncrpc_watch.proofs.Closed.{ended_events}

-- ---- what was written

-- some of the closing line
closes_part : (w new : Watch) (events : List Event) (a b c : Sunk) (f : Failure) → IsAt w nothing
    → Prints w new events a b → CloseFails new b c f → ClosesPart (terms_of w.terms) events a.taken c.taken
closes_part w new events a b c f begun p k =
    let from = p.prints nothing begun in
    record {
      state = from.state;
      text = from.text;
      written = from.text ++ k.written;
      unwritten = k.unwritten;
      tells = from.tells;
      front = ap (λ (x : List ℕ). from.text ++ x)
          (sym (ap (λ t. counts_line t.form new.counts) p.same
          ∙ ap (λ n. counts_line w.terms.form n) from.is_at.1) ∙ k.front)
          ∙ sym (append_assoc from.text k.written k.unwritten);
      appended = Appends-trans a.taken b.taken c.taken from.text k.written (from.text ++ k.written) refl from.written
          k.appended;
    }

-- none of it
pub close_untold : (w : Watch) (a : Sunk) (f : Failure) → f ≡ failure.NoMemory → CloseFails w a a f
close_untold w a f is = record {
  written = [];
  unwritten = counts_line w.terms.form w.counts;
  front = refl;
  appended = Appends-none a.taken;
  fails = subst (λ (x : Failure). TellFails a a x) (sym is) (Counts-none a.lost);
}

-- a front of it
pub close_cut : (w : Watch) (line : List ℕ) (n : ℕ) (a b : Sunk) (f : Failure) → f ≡ failure.Write
    → line ≡ counts_line w.terms.form w.counts → Appends a.taken b.taken (take n line) → Counts 1 a.lost b.lost
    → CloseFails w a b f
close_cut w line n a b f is same written lost = record {
  written = take n line;
  unwritten = drop n line;
  front = sym same ∙ sym (take-append-drop n line);
  appended = written;
  fails = subst (λ (x : Failure). TellFails a b x) (sym is) lost;
}

first_named : (p : Reached) (name : List ℕ) (left : Option (List ℕ)) (events : List Event) → p.name ≡ name
    → AreFirst p.name left events → AreFirst name left events
first_named p name left events is h = subst (λ (n : List ℕ). AreFirst n left events) is h

-- of the input
pub input_stops : (p q : Reached) (w : Watch) (left : Option (List ℕ)) (a b : Sunk) (f : Failure) → IsAt w nothing
    → Stands p left [] → p.name ≡ codes "input" → StopsOn p q w a b f
    → PrintsInputPart (terms_of w.terms) left a.taken b.taken
input_stops p q w left a b f begun h is t = inl (
  t.events,
  first_named p (codes "input") left t.events is (t.first left [] h),
  t.stops.part nothing begun,
)

pub input_closes : (p q : Reached) (w new : Watch) (left : Option (List ℕ)) (a b c : Sunk) (f : Failure)
    → IsAt w nothing → Stands p left [] → p.name ≡ codes "input" → TellsOn p q w new a b → q.ended ≡ true
    → CloseFails new b c f → PrintsInputPart (terms_of w.terms) left a.taken c.taken
input_closes p q w new left a b c f begun h is t e k =
    let all = ended_events p q (codes "input") left t.events h is t.on e in inr (
      t.events,
      (q.left, all.0, all.1, all.2),
      closes_part w new t.events a b c f begun t.prints k,
    )

-- of both
pub both_stop : (p q r s : Reached) (w : Watch) (left other : Option (List ℕ)) (a b : Sunk) (f : Failure)
    → IsAt w nothing → Stands p left [] → p.name ≡ codes "input" → Stands r other [] → r.name ≡ codes "replies"
    → StopsBoth p q r s w a b f → PrintsBothPart (terms_of w.terms) left other a.taken b.taken
both_stop p q r s w left other a b f begun h is k name t = inl (
  t.events,
  (
    t.of_calls,
    t.of_replies,
    first_named p (codes "input") left t.of_calls is (t.first_calls left [] h),
    first_named r (codes "replies") other t.of_replies name (t.first_replies other [] k),
    t.joins,
  ),
  t.stops.part nothing begun,
)

pub both_close : (p q r s : Reached) (w new : Watch) (left other : Option (List ℕ)) (a b c : Sunk) (f : Failure)
    → IsAt w nothing → Stands p left [] → p.name ≡ codes "input" → Stands r other [] → r.name ≡ codes "replies"
    → TellsBoth p q r s w new a b → q.ended ≡ true → s.ended ≡ true → CloseFails new b c f
    → PrintsBothPart (terms_of w.terms) left other a.taken c.taken
both_close p q r s w new left other a b c f begun h is k name t e g z =
    let one = ended_events p q (codes "input") left t.of_calls h is t.on_calls e in
    let two = ended_events r s (codes "replies") other t.of_replies k name t.on_replies g in inr (
      t.events,
      (
        t.of_calls,
        t.of_replies,
        (q.left, one.0, one.1, one.2),
        (s.left, two.0, two.1, two.2),
        t.joins,
      ),
      closes_part w new t.events a b c f begun t.prints z,
    )

-- what was opened is what is reported
part_of : {T : Type 0} (left_of : T → Option (List ℕ)) (reported : List ℕ → Option (List ℕ)) (t : Terms)
    (name : Option (String Global)) (text : Option T) (left taken taken' : Option (List ℕ))
    → IsOpened left_of reported name text → PrintsPartIn left_of t text left taken taken'
    → PrintsPartOf t reported name left taken taken'
part_of left_of reported t None None left taken taken' opened p = p
part_of left_of reported t (Some name) (Some text) left taken taken' opened p = (left_of text, opened, p)
part_of left_of reported t None (Some text) left taken taken' opened p = absurd opened
part_of left_of reported t (Some name) None left taken taken' opened p = absurd opened

pub messages_part : {T : Type 0} (left_of : T → Option (List ℕ)) (known : List Declared)
    (reported : List ℕ → Option (List ℕ)) (what : MessagesTask) (declared : Declared) (text : Option T)
    (left taken taken' : Option (List ℕ)) → Declares reported what.types declared
    → IsOpened left_of reported what.replies text
    → PrintsPartBy left_of known declared what.style text left taken taken'
    → PrintsMessagesPart known reported what left taken taken'
messages_part left_of known reported what declared text left taken taken' d opened p = record {
  declared = declared;
  heads = p.heads;
  declares = d;
  are_heads = p.are_heads;
  prints = part_of left_of reported (terms_in known declared (heads_of p.heads) what.style) what.replies text
      left taken taken' opened p.prints;
}

-- ---- what failed

module _ {R : Type 0} (failures reads : R → Option ℕ) (source later : R) where
  pub reports_of : (r : Reached) → r.failures ≡ failures later → r.reads ≡ reads later → (a b : Sunk) (f : Failure)
      → FailsBy (failures source) (reads source) r a b f → Reports failures reads source a b f
  reports_of r is_failures is_reads a b failure.Read h =
      (later, subst (λ (n : Option ℕ). Counts 1 (failures source) n) is_failures h)
  reports_of r is_failures is_reads a b failure.TooManyReads h =
      (later, subst (λ (n : Option ℕ). Counts MOST_READS (reads source) n) is_reads h)
  reports_of r is_failures is_reads a b failure.Write h = h
  reports_of r is_failures is_reads a b failure.NoMemory h = h

module _ {R : Type 0} (failures reads : R → Option ℕ) (source : R) where
  pub reports_close : (a b c : Sunk) (f : Failure) → Counts 0 a.lost b.lost → TellFails b c f
      → Reports failures reads source a c f
  reports_close a b c failure.Read unlost h = absurd h
  reports_close a b c failure.TooManyReads unlost h = absurd h
  reports_close a b c failure.Write unlost h = Counts-trans a.lost b.lost c.lost 0 1 1 refl unlost h
  reports_close a b c failure.NoMemory unlost h = Counts-trans a.lost b.lost c.lost 0 0 0 refl unlost h
