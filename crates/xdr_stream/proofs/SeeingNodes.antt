-- What is seen of the nodes at work in code.
use Rattle.std.proofs.Common.{◌≡◌, ℕ, zero, suc, ◌+◌, ◌<◌, ◌≤◌, Bool, true, false, List, [], ◌∷◌, ◌++◌, length, sym, ap}
use Rattle.std.proofs.Common.{subst, ◌∙◌, arith, replicate}
use Rattle.xdr_types.specs.Kinds as xdr
use Rattle.xdr_types.specs.Kinds.{KindView, Part, kind_at}
use Rattle.xdr_types.specs.Tree as value
use Rattle.xdr_types.specs.Tree.{Head}
use Rattle.xdr_types.specs.Height.{height, AreHigher, IsHigher}
use Rattle.xdr_types.specs.Fits.{parts, item_part}
use Rattle.xdr_types.specs.Spelling.{own}
use Rattle.xdr_types.specs.Within.{Bounds}
use Rattle.xdr_types.specs.Outcome.{Outcome, TooDeep}
use Rattle.xdr_laws.specs.Owed.{lead_of, HasUnit, IsSilent, silent_head}
use Rattle.xdr_stream.specs.Frames.{left_of, rest_of, Begins, onto, stack_of}
use Rattle.xdr_stream.specs.Trace.{Trace, IsOpen}
use Rattle.xdr_stream.specs.Private.Reported.{leaf_in, open_in, HasSpace}
use Rattle.xdr_stream.specs.Sees.{Sees, IsReady}
use Rattle.xdr_stream.proofs.Heights.{next_height}
use Rattle.xdr_stream.specs.Private.Moves.{GoesDeep}
use Rattle.xdr_stream.specs.Steps.{IsStep}
use Rattle.xdr_stream.specs.declared.machine.step.Step.TheVariants as step
use Rattle.xdr_stream.specs.declared.machine.frame.Frame.{Frame}
use Rattle.xdr_stream.specs.declared.machine.Trouble.{Trouble}
use Rattle.xdr_stream.specs.declared.machine.Trouble.TheVariants as trouble
use Rattle.xdr_stream.specs.declared.machine.Awaits.TheVariants.{Next, Content, Wide}
use Rattle.xdr_stream.proofs.Frames.{onto_length}
use Rattle.xdr_stream.proofs.BuiltContent.{With, Gives, seen_space}
use Rattle.xdr_stream.proofs.Seeing.{sees_silent, sees_void, sees_deep, sees_wide, sees_unsigned, sees_opaque}

-- the next part, of a kind that was looked up, and how deep it lies
pub record IsNext (s : List KindView) (l : Bounds) (work : Frame) (parents : List Frame) (k : KindView) : Type 0 where
  pub part : Part
  pub first : left_of work ≡ part ∷ rest_of (left_of work)
  pub kind : kind_at s part.kind ≡ k
  pub deep : length (onto [] parents) + 1 ≤ l.depth

pub is_next : (s : List KindView) (l : Bounds) (work : Frame) (parents : List Frame) (place : ℕ) (k : KindView)
    → Begins (left_of work) place → k ≡ kind_at s place → length parents < l.depth → IsNext s l work parents k
is_next s l work parents place k b is deep =
    record {
      part = b.0;
      first = b.1;
      kind = ap (λ (n : ℕ). kind_at s n) b.2 ∙ sym is;
      deep = omega (arith, onto_length [] parents);
    }

module _ (s : List KindView) (t : ℕ) (l : Bounds) (H I : Trace → Type 0) (work : Frame) (parents : List Frame)
    (q : List ℕ) where
  opened_stack : (k : KindView) (n : IsNext s l work parents k) → Sees s t l H Next (stack_of work parents) q
      → Sees s t l H Next ((n.part ∷ rest_of (left_of work)) ∷ onto [] parents) q
  opened_stack k n r = subst (λ (ps : List Part). Sees s t l H Next (ps ∷ onto [] parents) q) n.first r

  pub code_silent : (k : KindView) (h : Head) → IsNext s l work parents k → IsSilent (lead_of k) → IsOpen h
      → silent_head k ≡ h → own k h ≡ [] → ((a : Trace) → H a → I (open_in h a))
      → Sees s t l H Next (stack_of work parents) q
      → Sees s t l I Next (parts k h ∷ rest_of (left_of work) ∷ onto [] parents) q
  code_silent k h n silent open_head head none reports r =
      sees_silent s t l H I n.part (rest_of (left_of work))
      (onto [] parents) q k h n.kind silent open_head head none n.deep reports (opened_stack k n r)

  pub code_void : IsNext s l work parents xdr.nothing → ((a : Trace) → H a → I (leaf_in value.nothing a))
      → Sees s t l H Next (stack_of work parents) q → Sees s t l I Next (rest_of (left_of work) ∷ onto [] parents) q
  code_void n reports r = sees_void s t l H I n.part (rest_of (left_of work)) (onto [] parents) q n.kind n.deep reports
      (opened_stack xdr.nothing n r)

  pub code_wide : IsNext s l work parents xdr.hyper → Sees s t l H Next (stack_of work parents) q
      → Sees s t l H (Wide true) (rest_of (left_of work) ∷ onto [] parents) q
  code_wide n r = sees_wide s t l H n.part (rest_of (left_of work)) (onto [] parents) q n.kind n.deep
      (opened_stack xdr.hyper n r)

  pub code_unsigned : IsNext s l work parents xdr.unsigned_hyper → Sees s t l H Next (stack_of work parents) q
      → Sees s t l H (Wide false) (rest_of (left_of work) ∷ onto [] parents) q
  code_unsigned n r = sees_unsigned s t l H n.part (rest_of (left_of work)) (onto [] parents) q n.kind n.deep
      (opened_stack xdr.unsigned_hyper n r)

  pub code_free : (k : KindView) (signed : Bool) → IsStep k (step.Wide signed) → IsNext s l work parents k
      → Sees s t l H Next (stack_of work parents) q
      → Sees s t l H (Wide signed) (rest_of (left_of work) ∷ onto [] parents) q
  code_free k true is n r = code_wide (subst (λ (f : KindView). IsNext s l work parents f) is n) r
  code_free k false is n r = code_unsigned (subst (λ (f : KindView). IsNext s l work parents f) is n) r

  pub code_opaque : (size : ℕ) → IsNext s l work parents (xdr.opaque size) → Sees s t l H Next (stack_of work parents) q
      → Sees s t l H (Content size) (rest_of (left_of work) ∷ onto [] parents) q
  code_opaque size n r = sees_opaque s t l H n.part (rest_of (left_of work)) (onto [] parents) q size n.kind n.deep
      (opened_stack (xdr.opaque size) n r)

  pub code_deep : (place : ℕ) (rest : List ℕ) → Begins (left_of work) place → l.depth ≤ length parents
      → Sees s t l H Next (stack_of work parents) q → Outcome s t l (q ++ rest) (TooDeep (length q))
  code_deep place rest b deep r =
      sees_deep s t l H H b.0 (rest_of (left_of work)) (onto [] parents) q rest (omega (arith, onto_length [] parents))
      (subst (λ (ps : List Part). Sees s t l H Next (ps ∷ onto [] parents) q) b.1 r)

-- the innermost node has space for the part that comes next
pub space_next : (s : List KindView) (t : ℕ) (l : Bounds) (H : Trace → Type 0) (work : Frame) (parents : List Frame)
    (q : List ℕ) (k : KindView) → IsNext s l work parents k → Sees s t l H Next (stack_of work parents) q
    → Sees s t l (With H HasSpace) Next (stack_of work parents) q
space_next s t l H work parents q k n r =
    seen_space s t l H Next (stack_of work parents) q
    (subst (λ (ps : List Part). Gives Next (ps ∷ onto [] parents)) (sym n.first) tt) r

-- ---- what comes next stands lower

first_same : (a b : List Part) (x y : List (List Part)) → a ∷ x ≡ b ∷ y → a ≡ b
first_same a b x y e = cc

pub smaller_fixed : (s : List KindView) (work new : List Part) (place item size : ℕ) (x y : List (List Part))
    → AreHigher s → place < length s → xdr.fixed item size ≡ kind_at s place → Begins work place
    → new ∷ x ≡ replicate size (item_part item) ∷ y → next_height s new < next_height s work
smaller_fixed s work new place item size x y higher within is b e =
    let low : height s item < height s place =
    subst (λ (f : KindView). IsHigher (height s) f (height s place)) (sym is) (higher place within) in
    let top : next_height s work ≡ height s place + 1 = ap (λ (ps : List Part). next_height s ps) b.1
    ∙ ap (λ (n : ℕ). height s n + 1) b.2 in
    let items : next_height s new ≤ height s item + 1 =
    subst (λ (ps : List Part). next_height s ps ≤ height s item + 1)
    (sym (first_same new (replicate size (item_part item)) x y e)) (of_items size) in
    omega arith
  where
    of_items : (n : ℕ) → next_height s (replicate n (item_part item)) ≤ height s item + 1
    of_items zero = omega arith
    of_items (suc n) = omega arith

-- a unit is needed there
pub ready_next : (s : List KindView) (l : Bounds) (work : Frame) (parents : List Frame) (k : KindView)
    → IsNext s l work parents k → HasUnit (lead_of k) → IsReady s l Next (stack_of work parents)
ready_next s l work parents k n unit =
    subst (λ (ps : List Part). IsReady s l Next (ps ∷ onto [] parents)) (sym n.first)
    (subst (λ (f : KindView). HasUnit (lead_of f)) (sym n.kind) unit, n.deep)

pub next_ready : (s : List KindView) (l : Bounds) (work : Frame) (parents : List Frame) (place : ℕ) (k : KindView)
    → Begins (left_of work) place → k ≡ kind_at s place → IsReady s l Next (stack_of work parents)
    → IsNext s l work parents k
next_ready s l work parents place k b is ready =
    record {
      part = b.0;
      first = b.1;
      kind = ap (λ (n : ℕ). kind_at s n) b.2 ∙ sym is;
      deep = (subst (λ (ps : List Part). IsReady s l Next (ps ∷ onto [] parents)) b.1 ready).1;
    }

-- too deep after, and so before
pub goes_deep : (s : List KindView) (l : Bounds) (H I : Trace → Type 0) (fs gs : List (List Part)) (e : Trouble)
    → ((kind : ℕ) (q : List ℕ) → Sees s kind l H Next fs q → Sees s kind l I Next gs q)
    → GoesDeep s l I gs e → GoesDeep s l H fs e
goes_deep s l H I fs gs trouble.TooDeep f d = λ kind q rest h. d kind q rest (f kind q h)
goes_deep s l H I fs gs trouble.NoMemory f d = tt
