-- A decoder that is new, and one whose value is whole.
use Rattle.std.proofs.Common.{◌≡◌, ℕ, ◌+◌, ◌%◌, ◌<◌, ◌≤◌, List, [], ◌∷◌, ◌++◌, length, take, refl, sym, ap, subst, ◌∙◌}
use Rattle.std.proofs.Common.{append-nil, arith}
use Rattle.std.proofs.Math.Logic.{∥∥₁_elim}
use Rattle.std.proofs.Math.Nat.{lt_of_not-le}
use Rattle.std.proofs.lemmas.List.{length-append}
use Rattle.xdr_types.specs.Kinds.{KindView, Part, kind_at}
use Rattle.xdr_types.specs.Tree as value
use Rattle.xdr_types.specs.Tree.{Head, Tree}
use Rattle.xdr_types.specs.Fits.{item_part, fit, is_legal, parts}
use Rattle.xdr_types.specs.Front.{Front}
use Rattle.std.specs.Prelude.{Err}
use Rattle.xdr_types.specs.Outcome.{Outcome, Pending, Whole, TooDeep}
use Rattle.xdr_laws.proofs.Longer.{stays}
use Rattle.xdr_laws.proofs.Legal.{both, legal_is}
use Rattle.xdr_laws.proofs.GoesOn.{legal_known}
use Rattle.xdr_types.specs.View.{tree}
use Rattle.xdr_types.specs.Within.{Bounds}
use Rattle.xdr_types.specs.Laws.{EachKindHasAValue}
use Rattle.xdr_types.specs.declared.value.Value.{Value}
use Rattle.xdr_stream.specs.Trace as trace
use Rattle.xdr_stream.specs.Trace.{Trace, level, at_start}
use Rattle.xdr_stream.specs.Sees.{Sees, Ends}
use Rattle.xdr_stream.specs.Values.{level_of, levels_onto, Reports}
use Rattle.xdr_stream.specs.Represents.{RepresentsAs, Fails}
use Rattle.xdr_stream.specs.Finish.{Finishes}
use Rattle.xdr_stream.specs.declared.fault.Reason.{Reason}
use Rattle.xdr_stream.specs.declared.fault.Reason.TheVariants as reason
use Rattle.xdr_stream.specs.declared.fault.Reason.TheVariants.{Truncated}
use Rattle.xdr_stream.specs.declared.fault.DecodeFault.{DecodeFault}
use Rattle.xdr_stream.specs.declared.machine.Awaits.{Awaits}
use Rattle.xdr_stream.specs.declared.reader.State.{State}
use Rattle.xdr_stream.specs.declared.reader.State.TheVariants.{Fresh, Reading, Finished}
use Rattle.xdr_stream.specs.declared.builder.level.Level.{Level}
use Rattle.xdr_stream.specs.declared.builder.values.Values.{Values}
use Rattle.xdr_stream.proofs.Standing.{sees_whole, within_limit}
use Rattle.xdr_stream.proofs.Answering.{pending_on}
use Rattle.xdr_stream.specs.declared.machine.Awaits.TheVariants.{Next}
use Rattle.xdr_stream.proofs.Built.{built_start}
use Rattle.xdr_stream.proofs.Reading.{reading_start}

abbrev pub trace_at : List trace.Level → List ℕ → Trace
trace_at levels content = record { levels = levels; content = content }

pub reported_start : (ls : List Level) (content : List ℕ) → ls ≡ [] → content ≡ []
    → ◌≡◌ {A = Trace} (record { levels = level value.nothing [] ∷ levels_onto [] ls; content = content }) at_start
reported_start ls content none empty =
    ap (λ (xs : List Level). trace_at (level value.nothing [] ∷ levels_onto [] xs) content) none
    ∙ ap (λ (bs : List ℕ). trace_at (level value.nothing [] ∷ []) bs) empty

pub sees_start : (s : List KindView) (t : ℕ) (l : Bounds) (H : Trace → Type 0) → EachKindHasAValue s → t < length s
    → H at_start → Sees s t l H Next ((item_part t ∷ []) ∷ []) []
sees_start s t l H has known reported = record {
  reading = reading_start s t l has known;
  trace = at_start;
  reported = reported;
  built = (refl, built_start s t);
}

-- the first of some values
abbrev first_tree : List Tree → Tree → Tree
first_tree [] v = v
first_tree (w ∷ ws) v = w

abbrev first_level : List trace.Level → trace.Level → trace.Level
first_level [] l = l
first_level (m ∷ ms) l = m

module _ (s : List KindView) (t : ℕ) (l : Bounds) (built : Values) (fs : List (List Part)) (read : ℕ) (space : List ℕ)
    (pending : ℕ) (b : List ℕ)
    (r : RepresentsAs ⊥ s t l (λ (x : Trace). Reports built x) fs read space pending Finished b) where
  -- the root has its value
  rooted : (v : Tree) × (level_of built.work ≡ level value.nothing (v ∷ [])) × Outcome s t l b (Whole v (length b))
  rooted =
      let w = sees_whole s t l (λ (x : Trace). Reports built x) b fs [] r.1 r.2 in
      let all : level_of built.work ∷ levels_onto [] built.parents.items ≡ level value.nothing (w.0 ∷ []) ∷ [] =
      ap (λ (x : Trace). x.levels) r.2.reported.trace ∙ w.1 in (
        w.0,
        ap (λ (ls : List trace.Level). first_level ls (level_of built.work)) all,
        subst (λ (x : List ℕ). Outcome s t l x (Whole w.0 (length b))) (append-nil b) w.2,
      )

  pub root_whole : (x : Value) → level_of built.work ≡ level value.nothing (tree x ∷ [])
      → Outcome s t l b (Whole (tree x) (length b))
  root_whole x is =
      let same : rooted.0 ≡ tree x = ap (λ (m : trace.Level). first_tree m.done (tree x)) (sym rooted.1 ∙ is) in
      subst (λ (v : Tree). Outcome s t l b (Whole v (length b))) same rooted.2

  pub root_not_none : ((v : Tree) → level_of built.work ≡ level value.nothing (v ∷ []) → ⊥) → ⊥
  root_not_none none = none rooted.0 rooted.1

-- a unit is unfinished, or none is there
pub still_open : (s : List KindView) (t : ℕ) (l : Bounds) (H : Trace → Type 0) (fs : List (List Part)) (read : ℕ)
    (space : List ℕ) (pending : ℕ) (a : Awaits) (b : List ℕ)
    → RepresentsAs ⊥ s t l H fs read space pending (Reading a) b → l.bytes % 4 ≡ 0
    → Outcome s t l b Pending × (length b ≡ read + length (take pending space)) × (read ≤ l.bytes)
still_open s t l H fs read space pending a b r units = (
  pending_on s t l H fs read space pending a b r,
  omega (arith, ap (λ (x : List ℕ). length x) r.1, length-append r.0 (take pending space), r.2),
  omega (arith, r.2, within_limit s t l _ r.0 units r.4.reading),
)

-- the kind at which a reader begins is one of the list
pub front_known : (s : List KindView) (t : ℕ) (q : List ℕ) → Front s t q → t < length s
front_known s t q f =
    let v : Tree = f.0 in
    let fitting = f.1.0 in
    legal_known s t v.0
    (legal_is s (kind_at s t) v.0 (both (is_legal s (kind_at s t) v.0) (fit s (parts (kind_at s t) v.0) v.1) fitting).0)

-- what no bytes allow is so of none
pub ruled_out : {S : Type 0} → ∥ S ∥₁ → (S → ⊥) → ⊥
ruled_out some each = ∥∥₁_elim some (λ x y. absurd x) each

-- where nothing has begun, the kind is one of the list
fresh_known : (s : List KindView) (t : ℕ) (l : Bounds) (H : Trace → Type 0) (fs : List (List Part)) (read : ℕ)
    (space : List ℕ) (pending : ℕ) (b : List ℕ) → RepresentsAs ⊥ s t l H fs read space pending Fresh b → t < length s
fresh_known s t l H fs read space pending b r = front_known s t [] r.3.reading.front

pub kind_known : (spares : Type 0) (s : List KindView) (t : ℕ) (l : Bounds) (H : Trace → Type 0)
    (fs : List (List Part)) (read : ℕ) (space : List ℕ) (pending : ℕ) (state : State) → state ≡ Fresh
    → ∥ ((b : List ℕ) × RepresentsAs spares s t l H fs read space pending state b) ∥₁ → t < length s
kind_known spares s t l H fs read space pending state is given = lt_of_not-le (λ more. ruled_out given (λ g.
    omega (
      arith,
      more,
      fresh_known s t l H fs read space pending g.0
          (subst (λ (x : State). RepresentsAs spares s t l H fs read space pending x g.0) is g.1),
    )))

-- ---- what the end answers

-- a fault comes again
pub finish_failed : (s : List KindView) (t : ℕ) (l : Bounds) (f : DecodeFault) (b : List ℕ) → Fails s t l f b
    → Finishes s t l b (Err f)
finish_failed s t l f b e = (
  (λ is. absurd (subst (λ (w : Reason). Ends s t l w (b ++ []) f.at) is (e.0 []))),
  λ other. e,
)

-- the bytes end inside the value
pub finish_open : (s : List KindView) (t : ℕ) (l : Bounds) (f : DecodeFault) (at : ℕ) (b : List ℕ)
    → f ≡ record { why = Truncated; at = at } → at ≡ length b → Outcome s t l b Pending → Finishes s t l b (Err f)
finish_open s t l f at b is here o = (
  (λ why. (o, ap (λ (g : DecodeFault). g.at) is ∙ here)),
  λ other. absurd (other (ap (λ (g : DecodeFault). g.why) is)),
)

-- what an empty list of bytes answers
pub finish_deep : (s : List KindView) (t : ℕ) (l : Bounds) → Outcome s t l [] (TooDeep 0)
    → Finishes s t l [] (Err (record { why = reason.TooDeep; at = 0 }))
finish_deep s t l o = (
  (λ is. absurd (deep_not is)),
  λ other. ((λ rest. stays s t l [] rest (TooDeep 0) tt o), omega arith),
)
  where
    deep_not : reason.TooDeep ≡ Truncated → ⊥
    deep_not e = cc
