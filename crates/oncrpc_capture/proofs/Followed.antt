-- What connections have taken of segments, and one segment more.
use Rattle.std.proofs.Common.{◌≡◌, ℕ, ◌+◌, ◌%◌, ◌^◌, ◌<◌, Bool, true, false, List, [], ◌∷◌, ◌++◌, length, take}
use Rattle.std.proofs.Common.{drop, get_or, set, All}
use Rattle.std.proofs.Common.{Option, Some, None, inl, inr, sym, ap, ◌∙◌, subst, arith}
use Rattle.std.proofs.lemmas.List.{drop-drop}
use Rattle.std.proofs.lemmas.List.Elements.{All-get_or, All-push, All-set, All-weaker}
use Rattle.std.specs.List.{AllByRecursion}
use Rattle.std.specs.declared.net.socket_addr.SocketAddr.{SocketAddr}
use Rattle.capture_packets.specs.Packet.{SegmentView}
use Rattle.capture_records.specs.Carried.{bytes_of, first_of}
use Rattle.capture_records.specs.Follows as side
use Rattle.capture_records.specs.Follows.{Has, IsPart}
use Rattle.capture_records.specs.declared.side.Side.{Side}
use Rattle.capture_records.specs.declared.step.Step.{Step}
use Rattle.capture_records.specs.declared.step.Step.TheVariants as step
use Rattle.capture_streams.specs.Segments.{Arrival}
use Rattle.oncrpc_capture.specs.declared.flow.Flow.{Flow}
use Rattle.oncrpc_capture.specs.declared.flow.Found.{Found}
use Rattle.oncrpc_capture.specs.declared.flows.Flows.{Flows}
use Rattle.oncrpc_capture.specs.declared.pairs.Pair.{Pair}
use Rattle.oncrpc_capture.specs.Connections.{IsOneOf, IsPieceOf}
use Rattle.oncrpc_capture.specs.declared.seen.Seen.{Seen}
use Rattle.oncrpc_capture.specs.Nodes.{IsNode, IsSeen}
use Rattle.oncrpc_capture.specs.Private.Follows.{ArePart, Finds, FlowFollows, Follow, Includes, IsNew, IsStep, Keeps}
use Rattle.oncrpc_capture.specs.Private.Follows.{FindAt, KeepAll, SideFollows, Steps, TakeAt, Takes, from_of}
use Rattle.oncrpc_capture.specs.Private.Follows.{to_of}

-- ---- lists

pub each_weaker : {X : Type 0} (P Q : X → Type 0) → ((x : X) → P x → Q x) → (xs : List X) → AllByRecursion P xs
    → AllByRecursion Q xs
each_weaker P Q f [] h = tt
each_weaker P Q f (x ∷ xs) h = (f x h.0, each_weaker P Q f xs h.1)

pub each_join : {X : Type 0} (P : X → Type 0) (xs ys : List X) → AllByRecursion P xs → AllByRecursion P ys
    → AllByRecursion P (xs ++ ys)
each_join P [] ys h k = k
each_join P (x ∷ xs) ys h k = (h.0, each_join P xs ys h.1 k)

-- ---- one segment more

is_more : (from to : SocketAddr) (ss more : List SegmentView) (a : Arrival) → IsOneOf from to ss a
    → IsOneOf from to (ss ++ more) a
is_more from to [] more a h = absurd h
is_more from to (s ∷ ss) more a (inl h) = inl h
is_more from to (s ∷ ss) more a (inr h) = inr (is_more from to ss more a h)

is_last : (from to : SocketAddr) (ss : List SegmentView) (s : SegmentView) (a : Arrival) → IsPieceOf from to s a
    → IsOneOf from to (ss ++ s ∷ []) a
is_last from to [] s a h = inl h
is_last from to (t ∷ ss) s a h = inr (is_last from to ss s a h)

pub includes_last : (ss : List SegmentView) (s : SegmentView) → Includes s (ss ++ s ∷ [])
includes_last ss s = λ from to a h. is_last from to ss s a h

side_more : (from to : SocketAddr) (ss more : List SegmentView) (x : Side) → SideFollows from to ss x
    → SideFollows from to (ss ++ more) x
side_more from to ss more x h = record {
  arrivals = h.arrivals;
  each = each_weaker (IsOneOf from to ss) (IsOneOf from to (ss ++ more)) (is_more from to ss more) h.arrivals h.each;
  has = h.has;
}

pub follow_more : (ss more : List SegmentView) (flows : Flows) → Follow ss flows → Follow (ss ++ more) flows
follow_more ss more flows h = All-weaker (FlowFollows ss) (FlowFollows (ss ++ more)) (λ f k. record {
  up = side_more f.pair.low f.pair.high ss more f.up k.up;
  down = side_more f.pair.high f.pair.low ss more f.down k.down;
}) flows.flows.items h

-- ---- one direction

module _ (from to : SocketAddr) (ss : List SegmentView) (old new : Side) where
  pub side_keeps : side.Keeps old new → SideFollows from to ss old → SideFollows from to ss new
  side_keeps keeps h = record { arrivals = h.arrivals; each = h.each; has = keeps.keeps h.arrivals h.has }

  pub side_comes : (sequence : ℕ) (bytes : List ℕ) → side.Comes old new sequence bytes
      → ArePart from to ss sequence bytes → SideFollows from to ss old → SideFollows from to ss new
  side_comes sequence bytes comes part h =
      let k = comes.comes h.arrivals h.has in
      record {
        arrivals = h.arrivals ++ k.0;
        each = each_join (IsOneOf from to ss) h.arrivals k.0 h.each
            (each_weaker (IsPart sequence bytes) (IsOneOf from to ss) part k.0 k.1);
        has = k.2;
      }

  is_step : (s : Step) (arrivals : List Arrival) (r : List ℕ) → AllByRecursion (IsOneOf from to ss) arrivals
      → side.Finds s arrivals r → IsStep s from to ss r
  is_step step.Record arrivals r each h = record { arrivals = arrivals; each = each; carries = h }
  is_step (step.Tells told count) arrivals r each h = tt
  is_step step.TooLong arrivals r each h = tt
  is_step step.Waits arrivals r each h = tt

  pub side_steps : (s : Step) (r : List ℕ) → side.Steps old new s r → SideFollows from to ss old
      → SideFollows from to ss new × IsStep s from to ss r
  side_steps s r steps h =
      let k = steps.steps h.arrivals h.has in (
        record { arrivals = h.arrivals; each = h.each; has = k.0 },
        is_step s h.arrivals r h.each k.1,
      )

pub side_fresh : (from to : SocketAddr) (ss : List SegmentView) (x : Side) → Has x [] → SideFollows from to ss x
side_fresh from to ss x h = record { arrivals = []; each = tt; has = h }

-- ---- the bytes of a segment

pub are_part : (from to : SocketAddr) (s : SegmentView) (ss : List SegmentView) (before sequence : ℕ) (bytes : List ℕ)
    → IsNode s.from from → IsNode s.to to → sequence ≡ (first_of s + before) % 2 ^ 32 → bytes ≡ drop before (bytes_of s)
    → Includes s ss → ArePart from to ss sequence bytes
are_part from to s ss before sequence bytes f t e b includes = λ a p. includes from to a (record {
  from_is = f;
  to_is = t;
  piece = record {
    before = before;
    count = p.1.0;
    number = p.0 ∙ e;
    bytes = p.1.1 ∙ ap (λ (k : List ℕ). take p.1.0 k) b;
  };
})

-- the same by the nodes that are told
pub seen_part : (s : SegmentView) (frame : ℕ) (seen : Seen) (pair : Pair) (up : Bool) (before sequence : ℕ)
    (bytes : List ℕ) → IsSeen frame s.from s.to seen → from_of pair up ≡ seen.from → to_of pair up ≡ seen.to
    → sequence ≡ (first_of s + before) % 2 ^ 32 → bytes ≡ drop before (bytes_of s)
    → (ss : List SegmentView) → Includes s ss → ArePart (from_of pair up) (to_of pair up) ss sequence bytes
seen_part s frame seen pair up before sequence bytes is from to e b ss includes =
    are_part (from_of pair up) (to_of pair up) s ss before sequence bytes
    (subst (λ (x : SocketAddr). IsNode s.from x) (sym from) is.from_is)
    (subst (λ (x : SocketAddr). IsNode s.to x) (sym to) is.to_is) e b includes

pub next_number : (first before count sequence next : ℕ) → sequence ≡ (first + before) % 2 ^ 32
    → next ≡ (sequence + count) % 2 ^ 32 → next ≡ (first + (before + count)) % 2 ^ 32
next_number first before count sequence next e n = omega (arith, e, n)

pub first_number : (first sequence : ℕ) → sequence ≡ first → sequence < 2 ^ 32 → sequence ≡ (first + 0) % 2 ^ 32
first_number first sequence e small = omega (arith, e, small)

pub next_bytes : (before count : ℕ) (all bytes next : List ℕ) → bytes ≡ drop before all → next ≡ drop count bytes
    → next ≡ drop (before + count) all
next_bytes before count all bytes next e n = n ∙ ap (λ (k : List ℕ). drop count k) e ∙ drop-drop count before all

-- ---- one connection

-- what the lower node sends, and the other one stays
module _ (old new : Flow) (pair : new.pair ≡ old.pair) (down : new.down ≡ old.down) where
  up_so : (ss : List SegmentView) → FlowFollows ss old → SideFollows old.pair.low old.pair.high ss new.up
      → FlowFollows ss new
  up_so ss h k = record {
    up = subst (λ (p : Pair). SideFollows p.low p.high ss new.up) (sym pair) k;
    down = subst (λ (p : Pair). SideFollows p.high p.low ss new.down) (sym pair)
        (subst (λ (x : Side). SideFollows old.pair.high old.pair.low ss x) (sym down) h.down);
  }

  pub up_keeps : side.Keeps old.up new.up → Keeps old new
  up_keeps keeps = record {
    keeps = λ ss h. up_so ss h (side_keeps old.pair.low old.pair.high ss old.up new.up keeps h.up);
  }

  pub up_ends : Has new.up [] → Keeps old new
  up_ends fresh = record {
    keeps = λ ss h. up_so ss h (side_fresh old.pair.low old.pair.high ss new.up fresh);
  }

  pub up_takes : (theirs : Pair) (up : Bool) (sequence : ℕ) (bytes : List ℕ) → up ≡ true → old.pair ≡ theirs
      → side.Comes old.up new.up sequence bytes → Takes old new theirs up sequence bytes
  up_takes theirs up sequence bytes e is comes = record {
    takes = λ ss part h. up_so ss h (side_comes old.pair.low old.pair.high ss old.up new.up sequence bytes comes
        (subst (λ (p : Pair). ArePart p.low p.high ss sequence bytes) (sym is)
        (subst (λ (x : Bool). ArePart (from_of theirs x) (to_of theirs x) ss sequence bytes) e part)) h.up);
  }

  pub up_steps : (up : Bool) (s : Step) (r : List ℕ) → up ≡ true → side.Steps old.up new.up s r
      → Steps old new up s r
  up_steps up s r e steps = record {
    pair = pair;
    steps = λ ss h.
        let k = side_steps old.pair.low old.pair.high ss old.up new.up s r steps h.up in (
          up_so ss h k.0,
          subst (λ (x : Bool). IsStep s (from_of old.pair x) (to_of old.pair x) ss r) (sym e) k.1,
        );
  }

-- what the higher node sends
module _ (old new : Flow) (pair : new.pair ≡ old.pair) (up : new.up ≡ old.up) where
  down_so : (ss : List SegmentView) → FlowFollows ss old → SideFollows old.pair.high old.pair.low ss new.down
      → FlowFollows ss new
  down_so ss h k = record {
    up = subst (λ (p : Pair). SideFollows p.low p.high ss new.up) (sym pair)
        (subst (λ (x : Side). SideFollows old.pair.low old.pair.high ss x) (sym up) h.up);
    down = subst (λ (p : Pair). SideFollows p.high p.low ss new.down) (sym pair) k;
  }

  pub down_keeps : side.Keeps old.down new.down → Keeps old new
  down_keeps keeps = record {
    keeps = λ ss h. down_so ss h (side_keeps old.pair.high old.pair.low ss old.down new.down keeps h.down);
  }

  pub down_ends : Has new.down [] → Keeps old new
  down_ends fresh = record {
    keeps = λ ss h. down_so ss h (side_fresh old.pair.high old.pair.low ss new.down fresh);
  }

  pub down_takes : (theirs : Pair) (b : Bool) (sequence : ℕ) (bytes : List ℕ) → b ≡ false → old.pair ≡ theirs
      → side.Comes old.down new.down sequence bytes → Takes old new theirs b sequence bytes
  down_takes theirs b sequence bytes e is comes = record {
    takes = λ ss part h. down_so ss h (side_comes old.pair.high old.pair.low ss old.down new.down sequence bytes comes
        (subst (λ (p : Pair). ArePart p.high p.low ss sequence bytes) (sym is)
        (subst (λ (x : Bool). ArePart (from_of theirs x) (to_of theirs x) ss sequence bytes) e part)) h.down);
  }

  pub down_steps : (b : Bool) (s : Step) (r : List ℕ) → b ≡ false → side.Steps old.down new.down s r
      → Steps old new b s r
  down_steps b s r e steps = record {
    pair = pair;
    steps = λ ss h.
        let k = side_steps old.pair.high old.pair.low ss old.down new.down s r steps h.down in (
          down_so ss h k.0,
          subst (λ (x : Bool). IsStep s (from_of old.pair x) (to_of old.pair x) ss r) (sym e) k.1,
        );
  }

pub takes_none : (f : Flow) (pair : Pair) (up : Bool) (sequence : ℕ) (bytes : List ℕ) → Takes f f pair up sequence bytes
takes_none f pair up sequence bytes = record { takes = λ ss part h. h }

pub is_new : (f : Flow) → Has f.up [] → Has f.down [] → IsNew f
is_new f up down = record {
  follows = λ ss. record {
    up = side_fresh f.pair.low f.pair.high ss f.up up;
    down = side_fresh f.pair.high f.pair.low ss f.down down;
  };
}

-- ---- what came of one connection

pub found_none : (old new : Flow) (up : Bool) (s : Step) (r : List ℕ) → Steps old new up s r → Finds old new None r
found_none old new up s r steps = record { finds = λ ss h. ((steps.steps ss h).0, tt) }

pub found_some : (old mid new : Flow) (up : Bool) (found : Found) (r : List ℕ) → Steps old mid up found.step r
    → new.pair ≡ mid.pair → new.up ≡ mid.up → new.down ≡ mid.down → found.from ≡ from_of new.pair up
    → found.to ≡ to_of new.pair up → Finds old new (Some found) r
found_some old mid new up found r steps pair same_up same_down from to = record {
  finds = λ ss h.
      let k = steps.steps ss h in
      let all : new.pair ≡ old.pair = pair ∙ steps.pair in (
        record {
          up = subst (λ (p : Pair). SideFollows p.low p.high ss new.up) (sym pair)
              (subst (λ (x : Side). SideFollows mid.pair.low mid.pair.high ss x) (sym same_up) k.0.up);
          down = subst (λ (p : Pair). SideFollows p.high p.low ss new.down) (sym pair)
              (subst (λ (x : Side). SideFollows mid.pair.high mid.pair.low ss x) (sym same_down) k.0.down);
        },
        subst (λ (x : SocketAddr). IsStep found.step x found.to ss r)
            (sym (from ∙ ap (λ (p : Pair). from_of p up) all))
            (subst (λ (x : SocketAddr). IsStep found.step (from_of old.pair up) x ss r)
            (sym (to ∙ ap (λ (p : Pair). to_of p up) all)) k.1),
      );
}

-- ---- all connections, of which the one at a place changes

module _ (old new : Flows) (at : ℕ) (f g : Flow) (low : at < length old.flows.items)
    (was : f ≡ get_or old.flows.items at f) (is : new.flows.items ≡ set old.flows.items at g) where
  follows_there : (ss : List SegmentView) → Follow ss old → FlowFollows ss f
  follows_there ss h = subst (λ (x : Flow). FlowFollows ss x) (sym was)
      (All-get_or (FlowFollows ss) old.flows.items at f low h)

  follows_then : (ss : List SegmentView) → Follow ss old → FlowFollows ss g → Follow ss new
  follows_then ss h k = subst (λ (xs : List Flow). All (FlowFollows ss) xs) (sym is)
      (All-set (FlowFollows ss) old.flows.items at g k h)

  pub keep_at : Keeps f g → KeepAll old new
  keep_at keeps = record { keep = λ ss h. follows_then ss h (keeps.keeps ss (follows_there ss h)) }

  pub take_at : (pair : Pair) (up : Bool) (sequence : ℕ) (bytes : List ℕ) → Takes f g pair up sequence bytes
      → TakeAt old new pair up sequence bytes
  take_at pair up sequence bytes takes = record {
    take = λ ss part h. follows_then ss h (takes.takes ss part (follows_there ss h));
  }

  pub find_at : (found : Option Found) (r : List ℕ) → Finds f g found r → FindAt old new found r
  find_at found r finds = record {
    find = λ ss h.
        let k = finds.finds ss (follows_there ss h) in
        (follows_then ss h k.0, k.1);
  }

  pub put_at : IsNew g → KeepAll old new
  put_at fresh = record { keep = λ ss h. follows_then ss h (fresh.follows ss) }

-- none changes
pub keep_all : (old new : Flows) → new.flows.items ≡ old.flows.items → KeepAll old new
keep_all old new e =
    record { keep = λ ss h. subst (λ (xs : List Flow). All (FlowFollows ss) xs) (sym e) h }

-- a new one is put behind the others
pub put_behind : (old new : Flows) (g : Flow) → new.flows.items ≡ old.flows.items ++ g ∷ [] → IsNew g
    → KeepAll old new
put_behind old new g e fresh = record {
  keep = λ ss h. subst (λ (xs : List Flow). All (FlowFollows ss) xs) (sym e)
      (All-push (FlowFollows ss) old.flows.items g h (fresh.follows ss));
}

pub keep_join : (a b c : Flows) → KeepAll a b → KeepAll b c → KeepAll a c
keep_join a b c x y = record { keep = λ ss h. y.keep ss (x.keep ss h) }

pub take_none :
    (f : Flows) (pair : Pair) (up : Bool) (sequence : ℕ) (bytes : List ℕ) → TakeAt f f pair up sequence bytes
take_none f pair up sequence bytes = record { take = λ ss part h. h }

pub find_none : (f : Flows) (r : List ℕ) → FindAt f f None r
find_none f r = record { find = λ ss h. (h, tt) }

pub find_keeps : (old new : Flows) (found : Option Found) (r : List ℕ) → FindAt old new found r → KeepAll old new
find_keeps old new found r x = record { keep = λ ss h. (x.find ss h).0 }
