-- The nodes at work of a builder of values.
use Rattle.std.proofs.Common.{◌≡◌, ℕ, List, [], ◌∷◌, ◌++◌, length, refl, sym, ap, subst, ◌∙◌, arith}
use Rattle.xdr_types.specs.Tree as trees
use Rattle.xdr_types.specs.Tree.{Head, Tree}
use Rattle.xdr_types.specs.View.{tree}
use Rattle.xdr_types.specs.declared.value.Value.{Value}
use Rattle.xdr_stream.specs.Trace as trace
use Rattle.xdr_stream.specs.Trace.{Trace, level, IsOpen}
use Rattle.xdr_stream.specs.Private.Reported.{added, open_in, close_in, close_levels, CanClose, CanCloseLevels}
use Rattle.xdr_stream.specs.Private.Reported.{IsFilled, closed_tree}
use Rattle.xdr_stream.specs.Values.{level_of, levels_onto}
use Rattle.xdr_stream.specs.Private.Alone.{IsAlone, IsAloneIn, IsRoot}
use Rattle.xdr_stream.specs.declared.builder.level.Level.{Level}
use Rattle.xdr_stream.specs.declared.builder.level.Level.TheVariants.{Root, Items, Fields, Choice, Maybe}

-- the innermost parent stands last in the list
pub levels_last : (outer : List trace.Level) (ls : List Level) (l : Level)
    → levels_onto outer (ls ++ l ∷ []) ≡ level_of l ∷ levels_onto outer ls
levels_last outer [] l = refl
levels_last outer (m ∷ ls) l = levels_last (level_of m ∷ outer) ls l

abbrev pub reported : List ℕ → Level → List Level → Trace
reported content work parents = record { levels = level_of work ∷ levels_onto [] parents; content = content }

pub opened : (content : List ℕ) (work new parent : Level) (parents pushed : List Level) (h : Head) (t : Trace)
    → level_of new ≡ level h [] → parent ≡ work → pushed ≡ parents ++ parent ∷ []
    → reported content work parents ≡ t → reported content new pushed ≡ open_in h t
opened content work new parent parents pushed h t begun same last e =
    let inner : levels_onto [] pushed ≡ level_of work ∷ levels_onto [] parents =
    ap (λ (ls : List Level). levels_onto [] ls) last ∙ levels_last [] parents parent
    ∙ ap (λ (l : Level). level_of l ∷ levels_onto [] parents) same in
    let first : reported content new pushed ≡ open_in h (reported content work parents) =
    ap (λ (l : trace.Level). let r : Trace = record { levels = l ∷ levels_onto [] pushed; content = content } in r)
    begun
    ∙ ap (λ (ls : List trace.Level). let r : Trace = record { levels = level h [] ∷ ls; content = content } in r)
    inner in
    first ∙ ap (λ (r : Trace). open_in h r) e

pub closed : (content : List ℕ) (work new parent taken : Level) (parents rest : List Level) (v : Value) (t : Trace)
    → parents ≡ rest ++ parent ∷ [] → taken ≡ work
    → (IsOpen (level_of taken).head → IsFilled (level_of taken).head (level_of taken).done
    → tree v ≡ closed_tree (level_of taken))
    → level_of new ≡ level (level_of parent).head (added (level_of parent).head (level_of parent).done (tree v))
    → reported content work parents ≡ t → CanClose t → reported content new rest ≡ close_in t
closed content work new parent taken parents rest v t last same makes grown e can =
    let inner : levels_onto [] parents ≡ level_of parent ∷ levels_onto [] rest =
    ap (λ (ls : List Level). levels_onto [] ls) last ∙ levels_last [] rest parent in
    let fine : CanCloseLevels (level_of work ∷ level_of parent ∷ levels_onto [] rest) =
    subst (λ (ls : List trace.Level). CanCloseLevels (level_of work ∷ ls)) inner
    (subst (λ (r : Trace). CanClose r) (sym e) can) in
    let value : tree v ≡ closed_tree (level_of work) =
    subst (λ (l : Level). IsOpen (level_of l).head → IsFilled (level_of l).head (level_of l).done
    → tree v ≡ closed_tree (level_of l)) same makes fine.0 fine.1 in
    let made : level_of new ≡ level (level_of parent).head
    (added (level_of parent).head (level_of parent).done (closed_tree (level_of work))) =
    grown ∙ ap (λ (w : Tree). level (level_of parent).head (added (level_of parent).head (level_of parent).done w))
    value in
    let first : reported content new rest ≡ close_in (reported content work parents) =
    ap (λ (l : trace.Level). let r : Trace = record { levels = l ∷ levels_onto [] rest; content = content } in r) made
    ∙ ap (λ (ls : List trace.Level). let r : Trace = record {
      levels = close_levels (level_of work ∷ ls);
      content = content;
    } in r) (sym inner) in
    first ∙ ap (λ (r : Trace). close_in r) e

-- the outermost stays
pub not_closed : (content : List ℕ) (work : Level) (parents : List Level) (t : Trace) → length parents ≡ 0
    → reported content work parents ≡ t → CanClose t → ⊥
not_closed content work [] t n e can = subst (λ (r : Trace). CanClose r) (sym e) can
not_closed content work (l ∷ ls) t n e can = absurd (omega arith)

-- where no node is at work, what stands around the root is
head_root : (l : Level) → (level_of l).head ≡ trees.nothing → IsRoot l
head_root (Root part) e = tt
head_root (Items count items) e = cc
head_root (Fields items) e = cc
head_root (Choice tag part) e = cc
head_root (Maybe part) e = cc

first_alone : (l : trace.Level) (ls : List trace.Level) → IsAloneIn (l ∷ ls) → l.head ≡ trees.nothing
first_alone l [] a = a
first_alone l (m ∷ ls) a = absurd a

pub alone_root : (content : List ℕ) (work : Level) (parents : List Level) (t : Trace)
    → reported content work parents ≡ t
    → IsAlone t → IsRoot work
alone_root content work parents t e alone =
    head_root work (first_alone (level_of work) (levels_onto [] parents)
    (subst (λ (r : Trace). IsAlone r) (sym e) alone))
