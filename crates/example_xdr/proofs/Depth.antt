-- What a writer of the pair says where its fields lie too deep.
use Rattle.std.proofs.Common.{◌≡◌, ℕ, ◌%◌, List, [], ◌∷◌, ◌++◌, codes, refl, ap, sym, ◌∙◌, arith}
use Rattle.std.proofs.Common.{append-nil, inl, inr}
use Rattle.std.specs.Prelude.{Result, Ok, Err, IfOk, IsErr, OnErr}
use Rattle.xdr_types.specs.Kinds.{KindView}
use Rattle.xdr_types.specs.Spelling.{bytes_of}
use Rattle.xdr_types.specs.Within.{Bounds}
use Rattle.xdr_types.specs.Layout.{entry, of_number}
use Rattle.xdr_types.specs.Outcome as outcome
use Rattle.xdr_types.specs.Outcome.{Ending, Outcome}
use Rattle.xdr_laws.proofs.OneOutcome.{one_outcome}
use Rattle.xdr_laws.proofs.Refused.{refused_for_good}
use Rattle.xdr_stream.specs.Sees.{Ends}
use Rattle.xdr_stream.specs.Represents as reported
use Rattle.xdr_stream.specs.declared.fault.DecodeFault.{DecodeFault}
use Rattle.xdr_stream.specs.declared.fault.Reason.{Reason}
use Rattle.xdr_stream.specs.declared.fault.Reason.TheVariants as reason
use Rattle.xdr_writer.specs.Items.{ItemView, NodeItem, of_node, all_spelled}
use Rattle.xdr_writer.specs.Answers.{Took, Takes, IsEncoding, Refuses, IsKnown, IsOfBytes}
use Rattle.xdr_writer.specs.Represents.{RepresentsItems, kinds_of, kind_of}
use Rattle.xdr_writer.specs.declared.refusal.Why.{Why}
use Rattle.xdr_writer.specs.declared.refusal.Why.TheVariants as why
use Rattle.xdr_writer.specs.declared.refusal.WriteRefusal.{WriteRefusal}
use Rattle.xdr_writer.specs.declared.item.Step.{Step}
use Rattle.xdr_writer.specs.declared.item.Step.TheVariants as step
use Rattle.xdr_writer.specs.declared.writer.Writer.{Writer}
use Rattle.example_xdr.proofs.Putting.{moved}
use Rattle.example_xdr.specs.Rfc.{part}
use Rattle.example_xdr.specs.Pair.{pair_kinds, pair, pair_bytes, too_deep}

module _ (l : Bounds) (one : l.depth ≡ 1) where
  deep : (b : List ℕ) → Outcome pair_kinds 2 l b (outcome.TooDeep 0)
  deep b = (
    record { units = refl; within = omega arith; before = λ r less each. absurd (omega (arith, less)) },
    (
      pair,
      (refl, pair_bytes, refl),
      entry 0 4 2 (part (codes "number") 0) of_number,
      (1, omega arith, refl),
      omega arith,
      omega (arith, one),
    ),
  )

  same : (b : List ℕ) (e : Ending) → Outcome pair_kinds 2 l b e → outcome.TooDeep 0 ≡ e
  same b e o = one_outcome pair_kinds 2 l b (outcome.TooDeep 0) e (deep b) o

  never_pending : (b : List ℕ) → Outcome pair_kinds 2 l b outcome.Pending → ⊥
  never_pending b o = let e = same b outcome.Pending o in cc e

  never_broken : {A : Type 0} → (b : List ℕ) (w : outcome.Why) (p : ℕ) → Outcome pair_kinds 2 l b (outcome.Broken w p)
      → A
  never_broken b w p o = let e = same b (outcome.Broken w p) o in absurd (cc e)

  abbrev place_of : Ending → ℕ
  place_of (outcome.TooDeep p) = p
  place_of _ = 0

  as_deep : (y : Reason) (p : ℕ) → y ≡ reason.TooDeep → p ≡ 0 → too_deep ≡ record { why = y; at = p }
  as_deep y p e z =
      ap (λ (n : ℕ). record { why = reason.TooDeep; at = n }) (sym z)
      ∙ ap (λ (x : Reason). record { why = x; at = p }) (sym e)

  deep_at : (b : List ℕ) (y : Reason) (p : ℕ) → Ends pair_kinds 2 l y b p → (y ≡ reason.NoMemory → ⊥)
      → too_deep ≡ record { why = y; at = p }
  deep_at b reason.TooDeep p o known = as_deep reason.TooDeep p refl (sym (ap place_of (same b (outcome.TooDeep p) o)))
  deep_at b reason.TooLarge p o known = let e = same b (outcome.TooLarge p) o in absurd (cc e)
  deep_at b reason.BadBool p o known = never_broken b outcome.bad_bool p o
  deep_at b reason.BadNumbered p o known = never_broken b outcome.bad_numbered p o
  deep_at b reason.BadCase p o known = never_broken b outcome.bad_case p o
  deep_at b reason.TooLong p o known = never_broken b outcome.too_long p o
  deep_at b reason.BadPadding p o known = never_broken b outcome.bad_padding p o
  deep_at b reason.Truncated p o known = absurd o
  deep_at b reason.NoMemory p o known = absurd (known refl)

  of_fault : (b : List ℕ) (f : DecodeFault) → IsOfBytes f → reported.Fails pair_kinds 2 l f b
      → why.Refused f ≡ why.Refused too_deep
  of_fault b f known h = ap why.Refused (sym (deep_at (b ++ []) f.why f.at (h.0 []) known))

  module _ (units : l.bytes % 4 ≡ 0) where
    never_whole : (b : List ℕ) → IsEncoding pair_kinds 2 l b → ⊥
    never_whole b w =
        refused_for_good pair_kinds 2 l b (outcome.TooDeep 0) units tt (deep b) w.0 [] [] w.1
        (append-nil b ∙ sym w.2 ∙ sym (append-nil (bytes_of pair_kinds 2 w.0)))

    -- a refusal of the first item is for the depth
    pub names_depth : (i : ItemView) (y : Why) → Refuses pair_kinds 2 l [] i y → IsKnown y → y ≡ why.Refused too_deep
    names_depth i why.WrongItem h known = absurd (never_pending [] h.0)
    names_depth i why.NotInRange h known = absurd (never_pending [] h.0)
    names_depth i why.PastLimit h known = absurd (never_pending [] h.0)
    names_depth i (why.Refused f) h known = elim h.1 [
      | inl before ↦ of_fault [] f h.0 before
      | inr there ↦ of_fault _ f h.0 there.4.1
    ]
    names_depth i why.PastEnd h known = elim h [
      | inl before ↦ absurd (never_whole [] before)
      | inr there ↦ absurd (never_whole _ there.4.3)
    ]
    names_depth i why.Unfinished h known = absurd h
    names_depth i why.NoMemory h known = absurd known

    -- and it is not taken
    pub never_takes : (is : List NodeItem) (s : Step) → Takes pair_kinds 2 l is s → ⊥
    never_takes is step.More t = never_pending (all_spelled is) t.outcome
    never_takes is step.Done t = never_whole (all_spelled is) (t.0, t.1, t.3)

pub is_error : (r : Result Step WriteRefusal) → IfOk r (λ (s : Step). ⊥) → IsErr r
is_error (Ok s) h = absurd h
is_error (Err f) h = refl

pub on_error : (r : Result Step WriteRefusal) (P : Type 0) → IfOk r (λ (s : Step). ⊥) → OnErr r P → P
on_error (Ok s) P none h = absurd none
on_error (Err f) P none h = h

of_taken : (r : Result Step WriteRefusal) (P : Step → Type 0) → ((s : Step) → P s → ⊥) → IfOk r P
    → IfOk r (λ (s : Step). ⊥)
of_taken (Ok s) P none h = none s h
of_taken (Err f) P none h = tt

-- a writer of the pair that has taken nothing takes nothing
pub none_taken : (w b : Writer) → kinds_of w ≡ pair_kinds → kind_of w ≡ 2 → w.limits.depth ≡ 1
    → w.limits.bytes % 4 ≡ 0 → RepresentsItems w [] → (i : ItemView) (before after : List ℕ)
    → (r : Result Step WriteRefusal)
    → IfOk r (λ (s : Step). (is : List NodeItem) → RepresentsItems w is → Took w b is i before after s)
    → IfOk r (λ (s : Step). ⊥)
none_taken w b is at one units begun i before after r took =
    of_taken r (λ (s : Step). (is : List NodeItem) → RepresentsItems w is → Took w b is i before after s)
    (λ s h.
    let t = h [] begun in
    never_takes w.limits one units (of_node t.kind i ∷ []) s
    (moved (λ (k : List KindView) (n : ℕ). Takes k n w.limits (of_node t.kind i ∷ []) s) (kinds_of w) (kind_of w) is at
    t.takes)) took
