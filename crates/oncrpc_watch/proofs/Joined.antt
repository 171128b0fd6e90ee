-- What comes and is printed, one after another.
use Rattle.std.proofs.Common.{◌≡◌, ◌⊎◌, ℕ, Bool, true, false, List, [], ◌∷◌, ◌++◌, refl, sym, ap, ◌∙◌, subst}
use Rattle.std.proofs.Common.{inl, inr, append_assoc}
use Rattle.std.proofs.lemmas.List.{append-nil}
use Rattle.xdr_io.proofs.Chained.{Appends-none, Appends-trans, Counts-none, Counts-trans}
use Rattle.oncrpc_watch.specs.declared.watch.Watch.{Watch}
use Rattle.oncrpc_watch.specs.Events.{Event, Joins, Record, TellsEvents}
use Rattle.oncrpc_watch.specs.Private.Steps.{GoesOn, IsStanding, Prints, Reached, Reads, Stands, Sunk, TellsBoth}
use Rattle.oncrpc_watch.specs.Private.Steps.{TellsOn, unprinted}
use Rattle.oncrpc_watch.specs.Represents.{IsAt}
use Rattle.oncrpc_watch.specs.Run.{State}
use Rattle.oncrpc_watch.specs.Terms.{Terms, terms_of}

-- ---- what is printed

pub tells_join : (t : Terms) (s mid new : State) (xs ys : List Event) (a b : List ℕ) → TellsEvents t s xs mid a
    → TellsEvents t mid ys new b → TellsEvents t s (xs ++ ys) new (a ++ b)
tells_join t s mid new [] ys a b (same, none) q =
    subst (λ (x : List ℕ). TellsEvents t s ys new (x ++ b)) (sym none)
    (subst (λ (x : State). TellsEvents t x ys new b) same q)
tells_join t s mid new (e ∷ es) ys a b (m, first, rest, one, more, is) q = (
  m,
  first,
  rest ++ b,
  one,
  tells_join t m mid new es ys rest b more q,
  ap (λ (x : List ℕ). x ++ b) is ∙ append_assoc first rest b,
)

pub prints_none : (w : Watch) (t : Sunk) → Prints w w [] t t
prints_none w t = record {
  same = refl;
  prints = λ s h. record {
    state = s;
    text = [];
    tells = (refl, refl);
    is_at = h;
    written = Appends-none t.taken;
  };
  unlost = Counts-none t.lost;
}

pub prints_join : (u v w : Watch) (xs ys : List Event) (a b c : Sunk) → Prints u v xs a b
    → Prints v w ys b c → Prints u w (xs ++ ys) a c
prints_join u v w xs ys a b c p q = record {
  same = q.same ∙ p.same;
  prints = λ s h.
      let one = p.prints s h in
      let two = q.prints one.state one.is_at in
      record {
        state = two.state;
        text = one.text ++ two.text;
        tells = tells_join (terms_of u.terms) s one.state two.state xs ys one.text two.text one.tells
            (subst (λ x. TellsEvents (terms_of x) one.state ys two.state two.text) p.same two.tells);
        is_at = two.is_at;
        written = Appends-trans a.taken b.taken c.taken one.text two.text (one.text ++ two.text) refl one.written
            two.written;
      };
  unlost = Counts-trans a.lost b.lost c.lost 0 0 0 refl p.unlost q.unlost;
}

-- ---- where streams are

pub goes_none : (r : Reached) → GoesOn r r []
goes_none r = record {
  name = refl;
  on = λ left events h. subst (λ (x : List Event). Stands r left x) (sym (append-nil events)) h;
  sound = λ failures reads s. s;
}

pub goes_join : (p q r : Reached) (xs ys : List Event) → GoesOn p q xs → GoesOn q r ys → GoesOn p r (xs ++ ys)
goes_join p q r xs ys a b = record {
  name = b.name ∙ a.name;
  on = λ left events h. subst (λ (x : List Event). Stands r left x) (append_assoc events xs ys)
      (b.on left (events ++ xs) (a.on left events h));
  sound = λ failures reads s. b.sound failures reads (a.sound failures reads s);
}

pub goes_standing : (p q : Reached) (xs : List Event) → GoesOn p q xs → IsStanding p → IsStanding q
goes_standing p q xs a (left, events, h) = (left, events ++ xs, a.on left events h)

-- ---- two streams

pub joins_none : Joins [] [] []
joins_none = (refl, refl)

-- more of the first
pub joins_first : (xs ys zs more : List Event) → Joins xs ys zs → Joins (xs ++ more) ys (zs ++ more)
joins_first xs ys [] more (a, b) = joins_of xs ys more a b
  where
    joins_all : (xs : List Event) → Joins xs [] xs
    joins_all [] = (refl, refl)
    joins_all (x ∷ xs) = inl (xs, refl, joins_all xs)

    joins_of : (xs ys more : List Event) → xs ≡ [] → ys ≡ [] → Joins (xs ++ more) ys more
    joins_of xs ys more a b = subst (λ (x : List Event). Joins (x ++ more) ys more) (sym a)
        (subst (λ (y : List Event). Joins more y more) (sym b) (joins_all more))
joins_first xs ys (z ∷ zs) more (inl (rest, is, j)) =
    inl (rest ++ more, ap (λ (x : List Event). x ++ more) is, joins_first rest ys zs more j)
joins_first xs ys (z ∷ zs) more (inr (rest, is, j)) = inr (rest, is, joins_first xs rest zs more j)

-- more of the second
pub joins_second : (xs ys zs more : List Event) → Joins xs ys zs → Joins xs (ys ++ more) (zs ++ more)
joins_second xs ys [] more (a, b) = joins_of xs ys more a b
  where
    joins_all : (xs : List Event) → Joins [] xs xs
    joins_all [] = (refl, refl)
    joins_all (x ∷ xs) = inr (xs, refl, joins_all xs)

    joins_of : (xs ys more : List Event) → xs ≡ [] → ys ≡ [] → Joins xs (ys ++ more) more
    joins_of xs ys more a b = subst (λ (x : List Event). Joins x (ys ++ more) more) (sym a)
        (subst (λ (y : List Event). Joins [] (y ++ more) more) (sym b) (joins_all more))
joins_second xs ys (z ∷ zs) more (inl (rest, is, j)) = inl (rest, is, joins_second rest ys zs more j)
joins_second xs ys (z ∷ zs) more (inr (rest, is, j)) =
    inr (rest ++ more, ap (λ (x : List Event). x ++ more) is, joins_second xs rest zs more j)

-- ---- what came of a stream and was printed

pub tells_none : (r : Reached) (w : Watch) (t : Sunk) → TellsOn r r w w t t
tells_none r w t = record { events = []; on = goes_none r; prints = prints_none w t }

pub tells_more : (p q r : Reached) (u v w : Watch) (a b c : Sunk) → TellsOn p q u v a b
    → TellsOn q r v w b c → TellsOn p r u w a c
tells_more p q r u v w a b c x y = record {
  events = x.events ++ y.events;
  on = goes_join p q r x.events y.events x.on y.on;
  prints = prints_join u v w x.events y.events a b c x.prints y.prints;
}

-- what was read, and then the record that was there
pub reads_told : (p q r : Reached) (bytes : List ℕ) (u v w : Watch) (a b c : Sunk)
    → Reads true p q bytes u v a b → r ≡ q → Prints v w (Record bytes ∷ []) b c → TellsOn p r u w a c
reads_told p q r bytes u v w a b c x same y = record {
  events = x.events ++ Record bytes ∷ [];
  on = subst (λ (k : Reached). GoesOn p k (x.events ++ Record bytes ∷ [])) (sym same) x.on;
  prints = prints_join u v w x.events (Record bytes ∷ []) a b c x.prints y;
}

-- nothing more was there
pub reads_ended : (p q : Reached) (bytes : List ℕ) (u v : Watch) (a b : Sunk)
    → Reads false p q bytes u v a b → TellsOn p q u v a b
reads_ended p q bytes u v a b x = record {
  events = x.events;
  on = subst (λ (k : List Event). GoesOn p q k) (append-nil x.events) x.on;
  prints = x.prints;
}

pub reads_standing : (more : Bool) (p q : Reached) (bytes : List ℕ) (u v : Watch) (a b : Sunk)
    → Reads more p q bytes u v a b → IsStanding p → IsStanding q
reads_standing more p q bytes u v a b x h = goes_standing p q (x.events ++ unprinted more bytes) x.on h

-- ---- what came of two streams and was printed

pub both_none : (p q : Reached) (w : Watch) (t : Sunk) → TellsBoth p p q q w w t t
both_none p q w t = record {
  of_calls = [];
  of_replies = [];
  events = [];
  on_calls = goes_none p;
  on_replies = goes_none q;
  joins = joins_none;
  prints = prints_none w t;
}

-- more of the first
pub both_first : (c d e p q : Reached) (u v w : Watch) (x y z : Sunk) → TellsBoth c d p q u v x y
    → TellsOn d e v w y z → TellsBoth c e p q u w x z
both_first c d e p q u v w x y z h k = record {
  of_calls = h.of_calls ++ k.events;
  of_replies = h.of_replies;
  events = h.events ++ k.events;
  on_calls = goes_join c d e h.of_calls k.events h.on_calls k.on;
  on_replies = h.on_replies;
  joins = joins_first h.of_calls h.of_replies h.events k.events h.joins;
  prints = prints_join u v w h.events k.events x y z h.prints k.prints;
}

-- more of the second
pub both_second : (c d p q r : Reached) (u v w : Watch) (x y z : Sunk) → TellsBoth c d p q u v x y
    → TellsOn q r v w y z → TellsBoth c d p r u w x z
both_second c d p q r u v w x y z h k = record {
  of_calls = h.of_calls;
  of_replies = h.of_replies ++ k.events;
  events = h.events ++ k.events;
  on_calls = h.on_calls;
  on_replies = goes_join p q r h.of_replies k.events h.on_replies k.on;
  joins = joins_second h.of_calls h.of_replies h.events k.events h.joins;
  prints = prints_join u v w h.events k.events x y z h.prints k.prints;
}

-- a reply that was read, more of the calls, and then that reply
pub both_reply : (c d e p q r s : Reached) (bytes : List ℕ) (u v v' v'' w : Watch) (a b b' b'' z : Sunk)
    → TellsBoth c d p q u v a b → Reads true q r bytes v v' b b' → TellsOn d e v' v'' b' b'' → s ≡ r
    → Prints v'' w (Record bytes ∷ []) b'' z → TellsBoth c e p s u w a z
both_reply c d e p q r s bytes u v v' v'' w a b b' b'' z h x k same y =
    let reply = Record bytes ∷ [] in
    record {
      of_calls = h.of_calls ++ k.events;
      of_replies = h.of_replies ++ (x.events ++ reply);
      events = ((h.events ++ x.events) ++ k.events) ++ reply;
      on_calls = goes_join c d e h.of_calls k.events h.on_calls k.on;
      on_replies = subst (λ (t : Reached). GoesOn p t (h.of_replies ++ (x.events ++ reply))) (sym same)
          (goes_join p q r h.of_replies (x.events ++ reply) h.on_replies x.on);
      joins = subst (λ (t : List Event). Joins (h.of_calls ++ k.events) t
          (((h.events ++ x.events) ++ k.events) ++ reply)) (append_assoc h.of_replies x.events reply)
          (joins_second (h.of_calls ++ k.events) (h.of_replies ++ x.events) ((h.events ++ x.events) ++ k.events) reply
          (joins_first h.of_calls (h.of_replies ++ x.events) (h.events ++ x.events) k.events
          (joins_second h.of_calls h.of_replies h.events x.events h.joins)));
      prints = prints_join u v'' w ((h.events ++ x.events) ++ k.events) reply a b'' z
          (prints_join u v' v'' (h.events ++ x.events) k.events a b' b''
          (prints_join u v v' h.events x.events a b b' h.prints x.prints) k.prints) y;
    }
