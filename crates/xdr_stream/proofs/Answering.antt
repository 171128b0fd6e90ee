-- What a reader that stands for some bytes answers.
use Rattle.std.proofs.Common.{◌≡◌, ℕ, ◌+◌, ◌≤◌, List, ◌++◌, length, take, drop, sym, ap, subst, ◌∙◌}
use Rattle.std.proofs.Common.{append_assoc, arith}
use Rattle.std.specs.Prelude.{Ok, Err}
use Rattle.std.proofs.lemmas.List.{length-append, length-take, take-append-drop, take_all}
use Rattle.xdr_types.specs.Kinds.{KindView, Part, Lists}
use Rattle.xdr_types.specs.Tree.{Tree}
use Rattle.xdr_types.specs.Within.{Bounds}
use Rattle.xdr_types.specs.declared.kind.KindId.{KindId}
use Rattle.xdr_types.specs.Outcome.{Outcome, Pending, Whole}
use Rattle.xdr_stream.specs.Trace.{Trace}
use Rattle.xdr_stream.specs.Frames.{stack_of}
use Rattle.xdr_stream.specs.Sees.{Ends}
use Rattle.xdr_stream.specs.Represents.{Fails, RepresentsAs, RepresentsBytes, IsSame, Answers}
use Rattle.xdr_stream.specs.declared.fault.DecodeFault.{DecodeFault}
use Rattle.xdr_stream.specs.declared.machine.Awaits.{Awaits}
use Rattle.xdr_stream.specs.declared.reader.State.{State}
use Rattle.xdr_stream.specs.declared.reader.State.TheVariants.{Reading, Finished, Failed}
use Rattle.xdr_stream.specs.declared.reader.Progress.TheVariants.{More, Done}
use Rattle.xdr_stream.specs.declared.reader.Reader.{Reader}
use Rattle.xdr_stream.proofs.Standing.{sees_pending, sees_whole}

-- a fault stays, however the bytes go on
pub fails_on : (s : List KindView) (t : ℕ) (l : Bounds) (f : DecodeFault) (b more : List ℕ) → Fails s t l f b
    → Fails s t l f (b ++ more)
fails_on s t l f b more e = (
  (λ rest. subst (λ (x : List ℕ). Ends s t l f.why x f.at) (sym (append_assoc b more rest)) (e.0 (more ++ rest))),
  omega (arith, e.1, length-append b more),
)

module _ (s : List KindView) (t : ℕ) (l : Bounds) (H : Trace → Type 0) (fs : List (List Part)) (read : ℕ)
    (space : List ℕ) (pending : ℕ) where
  -- a unit is needed
  pub pending_on : (a : Awaits) (b : List ℕ) → RepresentsAs ⊥ s t l H fs read space pending (Reading a) b
      → Outcome s t l b Pending
  pending_on a b r =
      subst (λ (x : List ℕ). Outcome s t l x Pending) (sym r.1)
      (sees_pending s t l H r.0 a fs (take pending space) r.5 r.6 (omega (arith, length-take pending space, r.3)) r.4)

  -- the value is whole
  whole_on : (b more : List ℕ) → RepresentsAs ⊥ s t l H fs read space pending Finished b
      → (v : Tree) × Outcome s t l (b ++ more) (Whole v (length b))
  whole_on b more r = let w = sees_whole s t l H b fs more r.1 r.2 in (w.0, w.2)

module _ {B : Type 0} (spares : Type 0) (reports : B → Trace → Type 0) (old new : Reader B)
    (same : IsSame old new) (b : List ℕ) where
  kinds_are : new.schema.now.kinds ≡ old.schema.now.kinds
  kinds_are = ap (λ (x : Lists). x.kinds) same.schema_is

  place_is : new.kind.place ≡ old.kind.place
  place_is = ap (λ (x : KindId). x.place) same.kind_is

  represents_as : (st : State) → new.state ≡ st → RepresentsBytes spares reports new b
      → RepresentsAs spares old.schema.now.kinds old.kind.place old.limits (reports new.built)
      (stack_of new.work new.parents.items) new.read new.unit new.pending st b
  represents_as st is r =
      let H : Trace → Type 0 = reports new.built in
      let fs : List (List Part) = stack_of new.work new.parents.items in
      subst (λ (x : List KindView). RepresentsAs spares x old.kind.place old.limits H fs new.read new.unit new.pending
      st b) kinds_are
      (subst (λ (x : ℕ). RepresentsAs spares new.schema.now.kinds x old.limits H fs new.read new.unit new.pending st b)
      place_is
      (subst (λ (x : Bounds). RepresentsAs spares new.schema.now.kinds new.kind.place x H fs new.read new.unit
      new.pending st b)
      same.limits_are
      (subst (λ (x : State). RepresentsAs spares new.schema.now.kinds new.kind.place new.limits H fs new.read new.unit
      new.pending
      x b) is r)))

-- the answers of a reader that stands for the bytes before a piece and those that were taken of it
module _ {B : Type 0} (spares : Type 0) (reports : B → Trace → Type 0) (old new : Reader B)
    (same : IsSame old new) (b piece : List ℕ)
    (used : ℕ)
    (within : used ≤ length piece) (r : RepresentsBytes spares reports new (b ++ take used piece)) where
  cut : (b ++ take used piece) ++ drop used piece ≡ b ++ piece
  cut = append_assoc b (take used piece) (drop used piece) ∙ ap (λ (x : List ℕ). b ++ x) (take-append-drop used piece)

  pub answers_more : (a : Awaits) → new.state ≡ Reading a → used ≡ length piece
      → Answers old.schema.now.kinds old.kind.place old.limits b piece (Ok More)
  answers_more a is whole =
      let all : take used piece ≡ piece = take_all used piece (omega (arith, whole)) in
      subst (λ (x : List ℕ). Outcome old.schema.now.kinds old.kind.place old.limits (b ++ x) Pending) all
      (pending_on old.schema.now.kinds old.kind.place old.limits (reports new.built)
      (stack_of new.work new.parents.items) new.read new.unit new.pending a (b ++ take used piece)
      (represents_as spares reports old new same (b ++ take used piece) (Reading a) is r))

  pub answers_done : new.state ≡ Finished
      → Answers old.schema.now.kinds old.kind.place old.limits b piece (Ok (Done used))
  answers_done is =
      let w = whole_on old.schema.now.kinds old.kind.place old.limits (reports new.built)
      (stack_of new.work new.parents.items) new.read new.unit new.pending (b ++ take used piece) (drop used piece)
      (represents_as spares reports old new same (b ++ take used piece) Finished is r) in
      let far : length (b ++ take used piece) ≡ length b + used =
      omega (arith, length-append b (take used piece), length-take used piece, within) in (
        w.0,
        subst (λ (x : List ℕ). Outcome old.schema.now.kinds old.kind.place old.limits x (Whole w.0 (length b + used)))
            cut
            (subst (λ (n : ℕ). Outcome old.schema.now.kinds old.kind.place old.limits
            ((b ++ take used piece) ++ drop used piece) (Whole w.0 n)) far w.1),
      )

  pub answers_fault : (f : DecodeFault) → new.state ≡ Failed f
      → Answers old.schema.now.kinds old.kind.place old.limits b piece (Err f)
  answers_fault f is =
      subst (λ (x : List ℕ). Fails old.schema.now.kinds old.kind.place old.limits f x) cut
      (fails_on old.schema.now.kinds old.kind.place old.limits f (b ++ take used piece) (drop used piece)
      (represents_as spares reports old new same (b ++ take used piece) (Failed f) is r).0)

  -- after a fault the whole piece is taken
  pub represents_failed : (f : DecodeFault) → new.state ≡ Failed f → RepresentsBytes spares reports new (b ++ piece)
  represents_failed f is =
      let K : List KindView = new.schema.now.kinds in
      let H : Trace → Type 0 = reports new.built in
      let fs : List (List Part) = stack_of new.work new.parents.items in
      let before = subst (λ (x : State). RepresentsAs spares K new.kind.place new.limits H fs new.read new.unit
      new.pending x
      (b ++ take used piece)) is r in
      subst (λ (x : State). RepresentsAs spares K new.kind.place new.limits H fs new.read new.unit new.pending x (b ++
      piece))
      (sym is) (
        subst (λ (x : List ℕ). Fails K new.kind.place new.limits f x) cut
            (fails_on K new.kind.place new.limits f (b ++ take used piece) (drop used piece) before.0),
        before.1,
        before.2,
        before.3,
      )

-- what is the same twice is the same
pub same_then : {B : Type 0} (a b c : Reader B) → IsSame a b → IsSame b c → IsSame a c
same_then a b c x y = record {
  schema_is = y.schema_is ∙ x.schema_is;
  kind_is = y.kind_is ∙ x.kind_is;
  limits_are = y.limits_are ∙ x.limits_are;
}
