-- What a checker's answer to the whole input says of it.
use Rattle.std.proofs.Common.{◌≡◌, ℕ, ◌+◌, List, [], ◌++◌, length, sym, ap, subst, ◌∙◌, zero-add, Result, Ok, Err, ◌≤◌}
use Rattle.std.proofs.Common.{◌∷◌, take, drop, arith, inl, inr}
use Rattle.std.specs.List.{AllByRecursion}
use Rattle.std.proofs.lemmas.List.{length-drop, length-take, take-append-drop, take-append-le, drop-append-le}
use Rattle.xdr_types.specs.Kinds.{KindView, Lists}
use Rattle.xdr_types.specs.Layout.{Entry, entries}
use Rattle.xdr_types.specs.Tree.{Tree}
use Rattle.xdr_types.specs.Spelling.{bytes_of}
use Rattle.xdr_types.specs.Within.{Bounds, AreBounds, FitsWithin}
use Rattle.xdr_types.specs.Faults.{IsWellFormed}
use Rattle.xdr_types.specs.Sound.{IsSound}
use Rattle.xdr_types.specs.Outcome as outcome
use Rattle.xdr_types.specs.Outcome.{Outcome}
use Rattle.xdr_types.specs.declared.kind.KindId.{KindId}
use Rattle.xdr_stream.specs.Finish.{IsStarted, EndsWith}
use Rattle.xdr_stream.specs.Sees.{Ends}
use Rattle.xdr_stream.specs.Represents.{Answers}
use Rattle.xdr_stream.specs.declared.builder.nothing.Nothing.{Nothing}
use Rattle.xdr_stream.specs.declared.fault.DecodeFault.{DecodeFault}
use Rattle.xdr_stream.specs.declared.fault.Reason.{Reason}
use Rattle.xdr_stream.specs.declared.reader.Progress.{Progress}
use Rattle.xdr_stream.specs.declared.reader.Progress.TheVariants.{More, Done}
use Rattle.xdr_stream.specs.declared.reader.Reader.{Reader}
use Rattle.xdr_laws.proofs.SomeOutcome.{deep_or}
use Rattle.xdr_laws.proofs.Whole.{whole_exactly, entries_low}
use Rattle.xdr_parts.specs.Lent.{AreLentFrom}
use Rattle.xdr_parts.specs.Private.Taking.{HasAll}
use Rattle.xdr_parts.specs.Private.Walking.{IsSpelled}
use Rattle.xdr_parts.specs.declared.part.Lent.{Lent}
use Rattle.xdr_parts.specs.declared.taken.Taken.{Taken}
use Rattle.xdr_parts.proofs.Amounts.{parts_few}

module _ (schema : Lists) (kind : KindId) (limits : Bounds) (r : Reader Nothing) (is : IsStarted r schema kind limits)
    (input : List ℕ) where
  -- the answer is one for the settings that the checker was given
  answered : (x : Result Progress DecodeFault) → Answers r.schema.now.kinds r.kind.place r.limits [] input x
      → Answers schema.kinds kind.place limits [] input x
  answered x a =
      subst (λ (l : Bounds). Answers schema.kinds kind.place l [] input x) is.limits_are
      (subst (λ (k : KindId). Answers schema.kinds k.place r.limits [] input x) is.kind_is
      (subst (λ (s : Lists). Answers s.kinds r.kind.place r.limits [] input x) is.schema_is a))

  pub done : (used : ℕ) → Answers r.schema.now.kinds r.kind.place r.limits [] input (Ok (Done used))
      → (v : Tree) × Outcome schema.kinds kind.place limits input (outcome.Whole v used)
  done used a =
      let o = answered (Ok (Done used)) a in
      (o.0, subst (λ (n : ℕ). Outcome schema.kinds kind.place limits input (outcome.Whole o.0 n)) (zero-add used) o.1)

  pub more : Answers r.schema.now.kinds r.kind.place r.limits [] input (Ok More)
      → Outcome schema.kinds kind.place limits input outcome.Pending
  more a = answered (Ok More) a

  pub failed : (f : DecodeFault) → Answers r.schema.now.kinds r.kind.place r.limits [] input (Err f)
      → EndsWith schema.kinds kind.place limits input f
  failed f a =
      let o = answered (Err f) a in (
        λ cut. absurd (subst (λ (w : Reason). Ends schema.kinds kind.place limits w (input ++ []) f.at) cut (o.0 [])),
        λ other. o,
      )

-- ---- the value that is whole

lower : (low high : ℕ) (es : List Entry) → low ≤ high → AllByRecursion (λ (e : Entry). e.depth ≤ low) es
    → AllByRecursion (λ (e : Entry). e.depth ≤ high) es
lower low high [] h a = tt
lower low high (e ∷ es) h a = (omega (arith, a.0), lower low high es h a.1)

-- a value within the limits is not too deep, and its parts can be counted
pub spelled_within : (schema : Lists) → IsWellFormed schema → IsSound schema.kinds → (t : ℕ) (l : Bounds) (b : List ℕ)
    (v : Tree) → AreBounds l.depth l.bytes → FitsWithin schema.kinds t l v → bytes_of schema.kinds t v ≡ b
    → IsSpelled schema.kinds t b v
spelled_within schema well sound t l b v range within represents =
    let s : List KindView = schema.kinds in
    record {
      fits = within.0;
      spelled = represents;
      low = elim (deep_or l (entries s t v)) [
        | inl low ↦ lower l.depth 4096 (entries s t v) range.most_depth low
        | inr d ↦ absurd (omega (arith, entries_low s t v d.0 d.1, d.2, within.1.0))
      ];
      few = omega (arith, parts_few schema well sound t v within.0 (omega (arith, within.1.1, range.most_bytes)));
    }

-- its bytes spell it, it is not too deep, and its parts can be counted
pub spelled : (schema : Lists) → IsWellFormed schema → IsSound schema.kinds → (t : ℕ) (l : Bounds) (b : List ℕ)
    (v : Tree) (p : ℕ) → AreBounds l.depth l.bytes
    → Outcome schema.kinds t l b (outcome.Whole v p) → IsSpelled schema.kinds t (take p b) v
spelled schema well sound t l b v p range o =
    spelled_within schema well sound t l (take p b) v range
    ((whole_exactly schema.kinds t l b v p range.units).0 o).0 o.2.spelled

-- what is lent from the first bytes is lent from all
pub lent_of_first : (p : ℕ) (b : List ℕ) (ls : List Lent) → AreLentFrom (take p b) ls → AreLentFrom b ls
lent_of_first p b [] a = tt
lent_of_first p b (l ∷ ls) a =
    let n : ℕ = length l.bytes.now in
    let short : l.at + n ≤ length (take p b) = a.0.0 in
    let same : drop l.at b ≡ drop l.at (take p b) ++ drop p b =
    ap (λ (x : List ℕ). drop l.at x) (sym (take-append-drop p b)) ∙ drop-append-le l.at (take p b) (drop p b)
    (omega (arith, short)) in
    let cut : take n (drop l.at b) ≡ take n (drop l.at (take p b)) =
    ap (λ (x : List ℕ). take n x) same
    ∙ take-append-le n (drop l.at (take p b)) (drop p b) (omega (arith, short, length-drop l.at (take p b))) in
    ((omega (arith, short, length-take p b), a.0.1 ∙ sym cut), lent_of_first p b ls a.1)

pub all_of_first : (p : ℕ) (b : List ℕ) (es : List Entry) (t : Taken) → HasAll (take p b) es t → HasAll b es t
all_of_first p b es t h = record {
  lent = h.lent;
  each = h.each;
  from = lent_of_first p b h.lent h.from;
  taken = h.taken;
}
