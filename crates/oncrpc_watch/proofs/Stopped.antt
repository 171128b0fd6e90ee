-- What was written where reading or telling failed begins what would be.
use Rattle.std.proofs.Common.{◌≡◌, ◌⊎◌, ℕ, Bool, true, false, List, [], ◌∷◌, ◌++◌, Option, refl, sym, ap, ◌∙◌, subst}
use Rattle.std.proofs.Common.{inl, inr, append_assoc}
use Rattle.std.proofs.lemmas.List.{append-nil}
use Rattle.std.specs.Prelude.{codes}
use Rattle.xdr_io.proofs.Chained.{Appends-none, Appends-trans, Counts-none, Counts-trans}
use Rattle.xdr_io.specs.Reported.{Counts}
use Rattle.oncrpc_answers.specs.declared.failure.Failure.{Failure}
use Rattle.oncrpc_answers.specs.declared.failure.Failure.TheVariants as failure
use Rattle.oncrpc_watch.specs.declared.ending.Ending.{Ending}
use Rattle.oncrpc_watch.specs.declared.watch.Watch.{Watch}
use Rattle.oncrpc_watch.specs.Events.{Ends, Event, Joins, Record, TellsEvents}
use Rattle.oncrpc_watch.specs.Private.Steps.{ComesNext, FailsBy, GoesOn, IsSound, Prints, ReadFails, Reached, Reads}
use Rattle.oncrpc_watch.specs.Private.Steps.{Stands, StandsBy, Stops, StopsBoth, StopsOn, StopsTelling, Sunk, TellFails}
use Rattle.oncrpc_watch.specs.Private.Steps.{TellsBoth, TellsOn}
use Rattle.oncrpc_watch.specs.Stopped.{AreFirst}
use Rattle.oncrpc_watch.specs.Terms.{terms_of}
use Rattle.oncrpc_watch.proofs.Joined.{goes_join, joins_first, joins_second, prints_join, tells_join}

-- ---- what comes first

-- what came of a stream so far comes first of it
stands_first : (r : Reached) (left : Option (List ℕ)) (events : List Event) → Stands r left events
    → AreFirst r.name left events
stands_first r left events h = by_end r.ended h
  where
    by_end : (b : Bool) → StandsBy b r left events → AreFirst r.name left events
    by_end false (rs, has, is) =
        inl (rs, record { input = has.input; rest = r.left; read = has.read; begins = has.begins }, is)
    by_end true (rs, e, are) = inr (r.left, rs, e, are)

goes_first : (p q : Reached) (events : List Event) → GoesOn p q events → ComesNext p events
goes_first p q events g = λ left before h. subst (λ (n : List ℕ). AreFirst n left (before ++ events)) g.name
    (stands_first q left (before ++ events) (g.on left before h))

comes_join : (p q : Reached) (xs ys : List Event) → GoesOn p q xs → ComesNext q ys → ComesNext p (xs ++ ys)
comes_join p q xs ys g next = λ left before h. subst (λ (n : List ℕ). AreFirst n left (before ++ (xs ++ ys))) g.name
    (subst (λ (es : List Event). AreFirst q.name left es) (append_assoc before xs ys)
    (next left (before ++ xs) (g.on left before h)))

-- ---- what was written

stops_join : (u v : Watch) (xs ys : List Event) (a b c : Sunk) → Prints u v xs a b → Stops v ys b c
    → Stops u (xs ++ ys) a c
stops_join u v xs ys a b c p q = record {
  part = λ s h.
      let one = p.prints s h in
      let two = q.part one.state one.is_at in
      record {
        told = xs ++ two.told;
        untold = two.untold;
        state = two.state;
        text = one.text ++ two.text;
        written = one.text ++ two.written;
        unwritten = two.unwritten;
        first = ap (λ (k : List Event). xs ++ k) two.first ∙ sym (append_assoc xs two.told two.untold);
        tells = tells_join (terms_of u.terms) s one.state two.state xs two.told one.text two.text one.tells
            (subst (λ x. TellsEvents (terms_of x) one.state two.told two.state two.text) p.same two.tells);
        front = ap (λ (k : List ℕ). one.text ++ k) two.front
            ∙ sym (append_assoc one.text two.written two.unwritten);
        appended = Appends-trans a.taken b.taken c.taken one.text two.written (one.text ++ two.written) refl
            one.written two.appended;
      };
}

-- more that was not told
stops_longer : (w : Watch) (xs more : List Event) (a b : Sunk) → Stops w xs a b → Stops w (xs ++ more) a b
stops_longer w xs more a b p = record {
  part = λ s h.
      let one = p.part s h in
      record {
        told = one.told;
        untold = one.untold ++ more;
        state = one.state;
        text = one.text;
        written = one.written;
        unwritten = one.unwritten;
        first = ap (λ (k : List Event). k ++ more) one.first ∙ append_assoc one.told one.untold more;
        tells = one.tells;
        front = one.front;
        appended = one.appended;
      };
}

stops_none : (w : Watch) (a : Sunk) → Stops w [] a a
stops_none w a = record {
  part = λ s h. record {
    told = [];
    untold = [];
    state = s;
    text = [];
    written = [];
    unwritten = [];
    first = refl;
    tells = (refl, refl);
    front = refl;
    appended = Appends-none a.taken;
  };
}

-- ---- what failed

module _ (failures reads : Option ℕ) (r : Reached) where
  read_fails : (a : Sunk) (f : Failure) → ReadFails failures reads r f → FailsBy failures reads r a a f
  read_fails a failure.Read h = h
  read_fails a failure.TooManyReads h = h
  read_fails a failure.Write h = absurd h
  read_fails a failure.NoMemory h = Counts-none a.lost

  tell_fails : (a b : Sunk) (f : Failure) → TellFails a b f → FailsBy failures reads r a b f
  tell_fails a b failure.Read h = absurd h
  tell_fails a b failure.TooManyReads h = absurd h
  tell_fails a b failure.Write h = h
  tell_fails a b failure.NoMemory h = h

  fails_more : (a b c : Sunk) (f : Failure) → Counts 0 a.lost b.lost → FailsBy failures reads r b c f
      → FailsBy failures reads r a c f
  fails_more a b c failure.Read unlost h = h
  fails_more a b c failure.TooManyReads unlost h = h
  fails_more a b c failure.Write unlost h = Counts-trans a.lost b.lost c.lost 0 1 1 refl unlost h
  fails_more a b c failure.NoMemory unlost h = Counts-trans a.lost b.lost c.lost 0 0 0 refl unlost h

-- ---- a stream

-- reading failed
pub on_read : (p q : Reached) (w : Watch) (a : Sunk) (f : Failure)
    → ((failures reads : Option ℕ) → IsSound failures reads p → ReadFails failures reads q f) → StopsOn p q w a a f
on_read p q w a f fails = record {
  events = [];
  first = λ left before h. subst (λ (es : List Event). AreFirst p.name left es) (sym (append-nil before))
      (stands_first p left before h);
  stops = stops_none w a;
  fails = λ failures reads s. read_fails failures reads q a f (fails failures reads s);
}

-- telling that the stream is refused failed
pub on_refused : (p q : Reached) (w : Watch) (ending : Ending) (a b : Sunk) (f : Failure)
    → GoesOn p q (Ends p.name ending ∷ []) → StopsTelling w (Ends q.name ending ∷ []) a b f → StopsOn p q w a b f
on_refused p q w ending a b f g t = record {
  events = Ends q.name ending ∷ [];
  first = goes_first p q (Ends q.name ending ∷ [])
      (subst (λ (n : List ℕ). GoesOn p q (Ends n ending ∷ [])) (sym g.name) g);
  stops = t.stops;
  fails = λ failures reads s. tell_fails failures reads q a b f t.fails;
}

-- telling the record that was read failed
pub on_record : (p q r : Reached) (bytes : List ℕ) (u v : Watch) (a b c : Sunk) (f : Failure)
    → Reads true p q bytes u v a b → StopsTelling v (Record bytes ∷ []) b c f → StopsOn p r u a c f
on_record p q r bytes u v a b c f x t = record {
  events = x.events ++ Record bytes ∷ [];
  first = goes_first p q (x.events ++ Record bytes ∷ []) x.on;
  stops = stops_join u v x.events (Record bytes ∷ []) a b c x.prints t.stops;
  fails = λ failures reads s. fails_more failures reads r a b c f x.prints.unlost
      (tell_fails failures reads r b c f t.fails);
}

-- something failed behind what was told
pub on_more : (p q r : Reached) (u v : Watch) (a b c : Sunk) (f : Failure) → TellsOn p q u v a b
    → StopsOn q r v b c f → StopsOn p r u a c f
on_more p q r u v a b c f x y = record {
  events = x.events ++ y.events;
  first = comes_join p q x.events y.events x.on y.first;
  stops = stops_join u v x.events y.events a b c x.prints y.stops;
  fails = λ failures reads s. fails_more failures reads r a b c f x.prints.unlost
      (y.fails failures reads (x.on.sound failures reads s));
}

-- ---- two streams

-- the first
pub both_stops_first : (c d e p q : Reached) (u v : Watch) (x y z : Sunk) (f : Failure) → TellsBoth c d p q u v x y
    → StopsOn d e v y z f → StopsBoth c e p q u x z f
both_stops_first c d e p q u v x y z f h k = record {
  of_calls = h.of_calls ++ k.events;
  of_replies = h.of_replies;
  events = h.events ++ k.events;
  first_calls = comes_join c d h.of_calls k.events h.on_calls k.first;
  first_replies = goes_first p q h.of_replies h.on_replies;
  joins = joins_first h.of_calls h.of_replies h.events k.events h.joins;
  stops = stops_join u v h.events k.events x y z h.prints k.stops;
  fails = λ failures reads failures' reads' s t. inl (fails_more failures reads e x y z f h.prints.unlost
      (k.fails failures reads (h.on_calls.sound failures reads s)));
}

-- the second
pub both_stops_second : (c d p q r : Reached) (u v : Watch) (x y z : Sunk) (f : Failure) → TellsBoth c d p q u v x y
    → StopsOn q r v y z f → StopsBoth c d p r u x z f
both_stops_second c d p q r u v x y z f h k = record {
  of_calls = h.of_calls;
  of_replies = h.of_replies ++ k.events;
  events = h.events ++ k.events;
  first_calls = goes_first c d h.of_calls h.on_calls;
  first_replies = comes_join p q h.of_replies k.events h.on_replies k.first;
  joins = joins_second h.of_calls h.of_replies h.events k.events h.joins;
  stops = stops_join u v h.events k.events x y z h.prints k.stops;
  fails = λ failures reads failures' reads' s t. inr (fails_more failures' reads' r x y z f h.prints.unlost
      (k.fails failures' reads' (h.on_replies.sound failures' reads' t)));
}

-- more of the second, more of the first, and a record of the second
joins_all : (xs ys zs more calls reply : List Event) → Joins xs ys zs
    → Joins (xs ++ calls) (ys ++ (more ++ reply)) (((zs ++ more) ++ calls) ++ reply)
joins_all xs ys zs more calls reply j = subst (λ (t : List Event). Joins (xs ++ calls) t
    (((zs ++ more) ++ calls) ++ reply)) (append_assoc ys more reply)
    (joins_second (xs ++ calls) (ys ++ more) ((zs ++ more) ++ calls) reply
    (joins_first xs (ys ++ more) (zs ++ more) calls (joins_second xs ys zs more j)))

-- of the second a record was read, and then the first failed
pub both_stops_read : (c d e p q r : Reached) (bytes : List ℕ) (u v w : Watch) (x y y' z : Sunk) (f : Failure)
    → TellsBoth c d p q u v x y → Reads true q r bytes v w y y' → StopsOn d e w y' z f → StopsBoth c e p r u x z f
both_stops_read c d e p q r bytes u v w x y y' z f h read k =
    let reply = Record bytes ∷ [] in
    let told = prints_join u v w h.events read.events x y y' h.prints read.prints in
    record {
      of_calls = h.of_calls ++ k.events;
      of_replies = h.of_replies ++ (read.events ++ reply);
      events = ((h.events ++ read.events) ++ k.events) ++ reply;
      first_calls = comes_join c d h.of_calls k.events h.on_calls k.first;
      first_replies = goes_first p r (h.of_replies ++ (read.events ++ reply))
          (goes_join p q r h.of_replies (read.events ++ reply) h.on_replies read.on);
      joins = joins_all h.of_calls h.of_replies h.events read.events k.events reply h.joins;
      stops = stops_longer u ((h.events ++ read.events) ++ k.events) reply x z
          (stops_join u w (h.events ++ read.events) k.events x y' z told k.stops);
      fails = λ failures reads failures' reads' s t. inl (fails_more failures reads e x y' z f told.unlost
          (k.fails failures reads (h.on_calls.sound failures reads s)));
    }

-- and then telling it
pub both_stops_reply : (c d e p q r s : Reached) (bytes : List ℕ) (u v w w' : Watch) (x y y' y'' z : Sunk)
    (f : Failure) → TellsBoth c d p q u v x y → Reads true q r bytes v w y y' → TellsOn d e w w' y' y''
    → StopsTelling w' (Record bytes ∷ []) y'' z f → StopsBoth c e p s u x z f
both_stops_reply c d e p q r s bytes u v w w' x y y' y'' z f h read k t =
    let reply = Record bytes ∷ [] in
    let told = prints_join u w w' (h.events ++ read.events) k.events x y' y''
    (prints_join u v w h.events read.events x y y' h.prints read.prints) k.prints in
    record {
      of_calls = h.of_calls ++ k.events;
      of_replies = h.of_replies ++ (read.events ++ reply);
      events = ((h.events ++ read.events) ++ k.events) ++ reply;
      first_calls = goes_first c e (h.of_calls ++ k.events) (goes_join c d e h.of_calls k.events h.on_calls k.on);
      first_replies = goes_first p r (h.of_replies ++ (read.events ++ reply))
          (goes_join p q r h.of_replies (read.events ++ reply) h.on_replies read.on);
      joins = joins_all h.of_calls h.of_replies h.events read.events k.events reply h.joins;
      stops = stops_join u w' ((h.events ++ read.events) ++ k.events) reply x y'' z told t.stops;
      fails = λ failures reads failures' reads' i j. inr (fails_more failures' reads' s x y'' z f told.unlost
          (tell_fails failures' reads' s y'' z f t.fails));
    }
