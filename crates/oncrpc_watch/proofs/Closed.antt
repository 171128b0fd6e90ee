-- All that came was printed.
use Rattle.std.proofs.Common.{◌≡◌, ◌⊎◌, ℕ, ◌≤◌, Bool, List, [], ◌++◌, Option, None, Some, String, refl, sym, ap, ◌∙◌}
use Rattle.std.proofs.Common.{subst, true}
use Rattle.std.specs.Prelude.{codes}
use Rattle.std.specs.declared.alloc.Global.{Global}
use Rattle.xdr_io.proofs.Chained.{Appends-trans}
use Rattle.xdr_lang.specs.Declarations.{Declared}
use Rattle.oncrpc_tasks.specs.Sources.{Declares}
use Rattle.oncrpc_watch.specs.declared.task.MessagesTask.{MessagesTask}
use Rattle.oncrpc_watch.specs.declared.watch.Watch.{Watch}
use Rattle.oncrpc_watch.specs.Events.{Event}
use Rattle.oncrpc_watch.specs.Lines.{counts_line}
use Rattle.oncrpc_watch.specs.MessagesEnd.{PrintsAll, PrintsBoth, PrintsInput, PrintsMessages, PrintsOf}
use Rattle.oncrpc_watch.specs.MessagesEnd.{status_of, terms_in}
use Rattle.oncrpc_messages.specs.Heads.{heads_of}
use Rattle.oncrpc_watch.specs.Private.Steps.{Closes, GoesOn, IsOpened, Prints, PrintsBy, PrintsIn, Reached}
use Rattle.oncrpc_watch.specs.Private.Steps.{Stands, StandsBy, Sunk, TellsBoth, TellsOn}
use Rattle.oncrpc_watch.specs.Streams.{AreEvents}
use Rattle.oncrpc_watch.specs.declared.ending.Ending.{Ending}
use Rattle.oncrpc_watch.specs.Represents.{IsAt}
use Rattle.oncrpc_watch.specs.Run.{nothing}
use Rattle.oncrpc_watch.specs.Terms.{Terms, terms_of}

pub prints_all : (w new : Watch) (events : List Event) (a b : Sunk) (c : Option (List ℕ)) (status : ℕ)
    → IsAt w nothing → Prints w new events a b → Closes new b.taken c status
    → PrintsAll (terms_of w.terms) events a.taken c status
prints_all w new events a b c status begun p (written, is) =
    let from = p.prints nothing begun in
    record {
      state = from.state;
      text = from.text;
      tells = from.tells;
      written = Appends-trans a.taken b.taken c from.text (counts_line new.terms.form new.counts) _
          (ap (λ (x : List ℕ). from.text ++ x)
          (ap (λ t. counts_line t.form new.counts) p.same ∙ ap (λ k. counts_line w.terms.form k) from.is_at.1))
          from.written written;
      status_is = is ∙ ap (λ k. status_of k.refused) from.is_at.1;
    }

-- what was opened is what is reported
prints_of : {T : Type 0} (left_of : T → Option (List ℕ)) (reported : List ℕ → Option (List ℕ)) (t : Terms)
    (name : Option (String Global)) (text : Option T) (left taken taken' : Option (List ℕ)) (status : ℕ)
    → IsOpened left_of reported name text → PrintsIn left_of t text left taken taken' status
    → PrintsOf t reported name left taken taken' status
prints_of left_of reported t None None left taken taken' status opened p = p
prints_of left_of reported t (Some name) (Some text) left taken taken' status opened p = (left_of text, opened, p)
prints_of left_of reported t None (Some text) left taken taken' status opened p = absurd opened
prints_of left_of reported t (Some name) None left taken taken' status opened p = absurd opened

pub prints_messages : {T : Type 0} (left_of : T → Option (List ℕ)) (known : List Declared)
    (reported : List ℕ → Option (List ℕ)) (what : MessagesTask) (declared : Declared) (text : Option T)
    (left taken taken' : Option (List ℕ)) (status : ℕ) → Declares reported what.types declared
    → IsOpened left_of reported what.replies text
    → PrintsBy left_of known declared what.style text left taken taken' status
    → PrintsMessages known reported what left taken taken' status
prints_messages left_of known reported what declared text left taken taken' status d opened p = record {
  declared = declared;
  heads = p.heads;
  declares = d;
  are_heads = p.are_heads;
  prints = prints_of left_of reported (terms_in known declared (heads_of p.heads) what.style) what.replies text
      left taken taken' status opened p.prints;
}

-- ---- the streams

-- what has come of a stream from its start, where it has ended
pub ended_events : (p q : Reached) (name : List ℕ) (left : Option (List ℕ)) (events : List Event) → Stands p left []
    → p.name ≡ name → GoesOn p q events → q.ended ≡ true
    → (rs : List (List ℕ)) × (e : Option Ending) × AreEvents name left q.left rs e events
ended_events p q name left events h is g e =
    subst (λ (n : List ℕ). (rs : List (List ℕ)) × (k : Option Ending) × AreEvents n left q.left rs k events)
    (g.name ∙ is) (subst (λ (b : Bool). StandsBy b q left events) e (g.on left [] h))

pub prints_input : (p q : Reached) (w new : Watch) (left c : Option (List ℕ)) (a b : Sunk) (status : ℕ)
    → IsAt w nothing → Stands p left [] → p.name ≡ codes "input" → TellsOn p q w new a b → q.ended ≡ true
    → Closes new b.taken c status → PrintsInput (terms_of w.terms) left a.taken c status
prints_input p q w new left c a b status begun h is t e k =
    let came = ended_events p q (codes "input") left t.events h is t.on e in
    record {
      rest = q.left;
      records = came.0;
      ending = came.1;
      events = t.events;
      input = came.2;
      prints = prints_all w new t.events a b c status begun t.prints k;
    }

pub prints_both : (p q r s : Reached) (w new : Watch) (left other c : Option (List ℕ)) (a b : Sunk) (status : ℕ)
    → IsAt w nothing → Stands p left [] → p.name ≡ codes "input" → Stands r other [] → r.name ≡ codes "replies"
    → TellsBoth p q r s w new a b → q.ended ≡ true → s.ended ≡ true → Closes new b.taken c status
    → PrintsBoth (terms_of w.terms) left other a.taken c status
prints_both p q r s w new left other c a b status begun h is k name t e f z =
    let came = ended_events p q (codes "input") left t.of_calls h is t.on_calls e in
    let others = ended_events r s (codes "replies") other t.of_replies k name t.on_replies f in
    record {
      rest = q.left;
      records = came.0;
      ending = came.1;
      of_input = t.of_calls;
      other_rest = s.left;
      replies = others.0;
      last = others.1;
      of_other = t.of_replies;
      events = t.events;
      input = came.2;
      others = others.2;
      joins = t.joins;
      prints = prints_all w new t.events a b c status begun t.prints z;
    }
