-- What a reader that stands for some bytes holds.
use Rattle.std.proofs.Common.{◌≡◌, ℕ, ◌+◌, ◌*◌, ◌/◌, ◌%◌, ◌<◌, ◌≤◌, ◌^◌, List, [], ◌∷◌, length}
use Rattle.std.proofs.Common.{take, refl, sym, ap, subst, ◌∙◌, append-nil, arith}
use Rattle.std.proofs.lemmas.List.{length-append, length-take}
use Rattle.std.proofs.lemmas.Nat.{mul-le}
use Rattle.std.proofs.Math.Nat.{one-le-mul}
use Rattle.xdr_types.specs.Kinds.{KindView, Part, Lists}
use Rattle.xdr_types.specs.Tree as value
use Rattle.xdr_types.specs.Tree.{Tree}
use Rattle.xdr_types.specs.Fits.{Fits}
use Rattle.xdr_types.specs.Faults.{IsWellFormed}
use Rattle.xdr_types.specs.Sound as sound
use Rattle.xdr_types.specs.Spelling.{bytes_of}
use Rattle.xdr_types.specs.Layout.{entries}
use Rattle.xdr_types.specs.Within.{Bounds, AreBounds}
use Rattle.xdr_types.specs.Outcome as outcome
use Rattle.xdr_types.specs.Outcome.{Outcome}
use Rattle.xdr_laws.specs.Held.{Holds, node_count, byte_count, content_before}
use Rattle.xdr_laws.specs.Parts.{nodes, up_to}
use Rattle.xdr_laws.proofs.Holding.{held_whole}
use Rattle.xdr_laws.proofs.FewNodes.{held_bounds}
use Rattle.xdr_stream.specs.Trace.{Level, Trace, level, at_start}
use Rattle.xdr_stream.specs.Retained.{nodes_in, bytes_in_parts, bytes_retained}
use Rattle.xdr_stream.specs.Held.{GoesOn, frames_at, nodes_at, pending_at, IsDue}
use Rattle.xdr_stream.specs.Frames.{stack_of}
use Rattle.xdr_stream.specs.declared.machine.frame.Frame.{Frame}
use Rattle.xdr_stream.specs.declared.holding.Held.{Held}
use Rattle.xdr_stream.specs.Sees.{Built}
use Rattle.xdr_stream.specs.Represents.{RepresentsAs, IsWaiting}
use Rattle.xdr_stream.specs.declared.reader.State.{State}
use Rattle.xdr_stream.specs.declared.reader.State.TheVariants.{Fresh, Reading, Finished, Failed}
use Rattle.xdr_stream.proofs.Built.{built_whole}
use Rattle.xdr_stream.proofs.Frames.{onto_length}
use Rattle.xdr_stream.proofs.Bounds.{bounded, holds}
use Rattle.xdr_stream.proofs.Standing.{sees_whole, within_limit}

-- what a builder was reported is within bounds, after the bytes b
pub record IsStored (most depth : ℕ) (b : List ℕ) (st : State) (pending frames : ℕ) (x : Trace) : Type 0 where
  pub nodes : nodes_at st (nodes_in x.levels) ≤ (most + 1) * (length b / 4 + 1)
  pub few : nodes_in x.levels < 2 ^ 64
  pub bytes : bytes_retained x ≤ length b
  pub short : bytes_retained x < 2 ^ 64
  pub frames_are : GoesOn st → frames ≤ depth + 1
  pub pending_is : pending_at st pending ≤ 3
  pub exact : GoesOn st → pending_at st pending ≡ length b % 4

-- where the value is whole it is all that is held
pub whole_stored : (s : List KindView) (t : ℕ) (l : Bounds) (H : Trace → Type 0) (fs : List (List Part)) (read : ℕ)
    (space : List ℕ) (pending : ℕ) (b : List ℕ) (r : RepresentsAs ⊥ s t l H fs read space pending Finished b)
    → (v : Tree) × Outcome s t l b (outcome.Whole v (length b)) × Fits s t v × (bytes_of s t v ≡ b)
    × (nodes_in r.2.trace.levels ≡ 1 + node_count v) × (bytes_retained r.2.trace ≡ byte_count v)
whole_stored s t l H fs read space pending b r =
    let x : Trace = r.2.trace in
    let at : Built s t x.levels ([] ∷ []) b =
    subst (λ (y : List (List Part)). Built s t x.levels y b) r.1 r.2.built.1 in
    let w = built_whole s t x.levels b at in
    let v = sees_whole s t l H b fs [] r.1 r.2 in
    let same : v.0 ≡ w.0 = only v.0 w.0 (sym v.1 ∙ w.1) in
    let o : Outcome s t l b (outcome.Whole v.0 (length b)) =
    subst (λ (y : List ℕ). Outcome s t l y (outcome.Whole v.0 (length b))) (append-nil b) v.2 in
    let none : length x.content ≡ 0 = ap (λ (y : List ℕ). length y) r.2.built.0 in (
      w.0,
      subst (λ (y : Tree). Outcome s t l b (outcome.Whole y (length b))) same o,
      w.2,
      w.3,
      ap (λ (ls : List Level). nodes_in ls) w.1 ∙ omega arith,
      omega (arith, ap (λ (ls : List Level). bytes_in_parts ls) w.1, none),
    )
  where
    first_done : List Level → List Tree
    first_done [] = []
    first_done (m ∷ ls) = m.done

    head_tree : List Tree → Tree → Tree
    head_tree [] d = d
    head_tree (u ∷ us) d = u

    only : (u w : Tree) → level value.nothing (u ∷ []) ∷ [] ≡ level value.nothing (w ∷ []) ∷ [] → u ≡ w
    only u w e = ap (λ (ls : List Level). head_tree (first_done ls) u) e

module _ (x : Lists) (well : IsWellFormed x) (sure : sound.IsSound x.kinds) (t : ℕ) (l : Bounds)
    (are : AreBounds l.depth l.bytes) where
  -- no more than fits
  small : (n m : ℕ) → m ≤ l.bytes → n ≤ (length x.kinds + 1) * (m / 4 + 1) → n + 1 < 2 ^ 64
  small n m less e =
      let all = mul-le (length x.kinds + 1) (m / 4 + 1) 1025 4194305 (omega (arith, well.few))
      (omega (arith, less, are.most_bytes)) in
      omega (arith, all, e)

  start_stored : (st : State) (b : List ℕ) (pending frames : ℕ) → (GoesOn st → frames ≡ 1)
      → pending_at st pending ≤ 3 → (GoesOn st → pending_at st pending ≡ length b % 4)
      → nodes_at st 1 ≤ 1 → IsStored (length x.kinds) l.depth b st pending frames at_start
  start_stored st b pending frames one few exact least = record {
    nodes = (let more = one-le-mul {a = length x.kinds + 1} {b = length b / 4 + 1} (omega arith) (omega arith) in
        omega (arith, more, least));
    few = omega arith;
    bytes = omega arith;
    short = omega arith;
    frames_are = λ g. omega (arith, one g);
    pending_is = few;
    exact = exact;
  }

  pub stored : (spares : Type 0) (H : Trace → Type 0) (fs : List (List Part)) (read : ℕ) (space : List ℕ) (pending : ℕ)
      (st : State) (b : List ℕ) → length space ≡ 4 → RepresentsAs spares x.kinds t l H fs read space pending st b
      → (y : Trace) × H y × IsStored (length x.kinds) l.depth b st pending (length fs) y
  stored spares H fs read space pending Fresh b four r =
      let none : length b ≡ 0 = ap (λ (y : List ℕ). length y) r.0 in (
        at_start,
        r.4,
        start_stored Fresh b pending (length fs) (λ g. r.5) (omega (arith, r.2)) (λ g. omega (arith, r.2, none))
            (omega arith),
      )
  stored spares H fs read space pending (Failed f) b four r = (
    at_start,
    r.1,
    start_stored (Failed f) b pending (length fs) (λ g. absurd g) (omega arith) (λ g. absurd g) (omega arith),
  )
  stored spares H fs read space pending (Reading a) b four r =
      let q : List ℕ = r.0 in
      let m = bounded x well sure t l H q a fs r.5 r.4 in
      let len : length b ≡ length q + pending =
      omega (
        arith,
        ap (λ (y : List ℕ). length y) r.1,
        length-append q (take pending space),
        length-take pending space,
        four,
        r.3,
      ) in
      let less : length q ≤ l.bytes = within_limit x.kinds t l _ q are.units r.4.reading in
      let units : length q / 4 ≡ length b / 4 = omega (arith, len, m.3, r.3) in (
        r.4.trace,
        r.4.reported,
        record {
          nodes = subst (λ (n : ℕ). nodes_in r.4.trace.levels ≤ (length x.kinds + 1) * (n + 1)) units m.0;
          few = (let e = small (nodes_in r.4.trace.levels) (length q) less m.0 in omega (arith, e));
          bytes = omega (arith, m.1, len);
          short = omega (arith, m.1, less, are.most_bytes);
          frames_are = λ g. omega (arith, m.2);
          pending_is = omega (arith, r.3);
          exact = λ g. omega (arith, len, m.3, r.3);
        },
      )
  stored spares H fs read space pending Finished b four r =
      let w = whole_stored x.kinds t l H fs read space pending b r in
      let v : Tree = w.0 in
      let less : length b ≤ l.bytes = within_limit x.kinds t l _ b are.units r.2.reading in
      let units : length b % 4 ≡ 0 = (r.2.reading.reached []).units in
      let n : ℕ = nodes x.kinds (up_to (length b) (entries x.kinds t v)) in
      let j : ℕ = content_before (length b) (entries x.kinds t v) in
      let h : Holds x.kinds t b n j =
      record { value = v; begins = (w.2, [], w.3 ∙ sym (append-nil b)); nodes = refl; content = refl } in
      let count = held_whole x.kinds t v n j w.2 (subst (λ (y : List ℕ). Holds x.kinds t y n j) (sym w.3) h) in
      let most = held_bounds x well sure t b (length b / 4) n j (omega (arith, units)) h in (
        r.2.trace,
        r.2.reported,
        record {
          nodes = omega (arith, w.4, count.0, most.0);
          few = (let e = small n (length b) less most.0 in omega (arith, e, w.4, count.0));
          bytes = omega (arith, w.5, count.1, most.1);
          short = omega (arith, w.5, count.1, most.1, less, are.most_bytes);
          frames_are = λ g. absurd g;
          pending_is = omega arith;
          exact = λ g. absurd g;
        },
      )

-- ---- what the counts say

pub frames_few : (st : State) (work : Frame) (parents : List Frame) (depth : ℕ)
    → (GoesOn st → length (stack_of work parents) ≤ depth + 1) → frames_at st parents ≤ depth + 1
frames_few Fresh work parents depth h = omega (arith, h tt, onto_length [] parents)
frames_few (Reading a) work parents depth h = omega (arith, h tt, onto_length [] parents)
frames_few Finished work parents depth h = omega arith
frames_few (Failed f) work parents depth h = omega arith

-- so that a machine counts the parents
pub parents_few : (st : State) (work : Frame) (parents : List Frame) (l : Bounds) → AreBounds l.depth l.bytes
    → (GoesOn st → length (stack_of work parents) ≤ l.depth + 1) → GoesOn st → length parents ≤ 4096
parents_few st work parents l bounds h goes =
    omega (arith, h goes, onto_length [] parents, bounds.most_depth)

-- the nodes after the whole units are those of the law, where a unit is needed
pub due_stored : (spares : Type 0) (s : List KindView) (t : ℕ) (l : Bounds) (H : Trace → Type 0)
    (fs : List (List Part)) (read : ℕ) (space : List ℕ) (pending : ℕ) (st : State) (b : List ℕ) → length space ≡ 4
    → IsWaiting st → RepresentsAs spares s t l H fs read space pending st b
    → (y : Trace) × H y × ((h : Held) → h.nodes ≡ nodes_at st (nodes_in y.levels)
    → h.pending ≡ pending_at st pending → IsDue s t b h)
due_stored spares s t l H fs read space pending Fresh b four w r = absurd w
due_stored spares s t l H fs read space pending Finished b four w r = absurd w
due_stored spares s t l H fs read space pending (Failed f) b four w r = absurd w
due_stored spares s t l H fs read space pending (Reading a) b four w r =
    let m = holds s t l H r.0 a fs r.5 r.4 in (
      r.4.trace,
      r.4.reported,
      λ h nodes_are pending_are. record {
        whole = r.0;
        rest = take pending space;
        parts = r.1;
        units = (r.4.reading.reached []).units;
        pending = omega (arith, length-take pending space, four, r.3, pending_are);
        content = m.0.0;
        holds = subst (λ (n : ℕ). Holds s t r.0 n m.0.0) (sym nodes_are) m.0.1;
      },
    )
