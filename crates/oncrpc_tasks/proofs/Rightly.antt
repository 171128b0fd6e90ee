-- From the outcome of the bytes to the right answer.
use Rattle.std.proofs.Common.{◌≡◌, ◌⊎◌, inl, inr, ℕ, ◌+◌, ◌%◌, ◌<◌, ◌≤◌, List, [], ◌++◌, length, refl, sym, ap, subst}
use Rattle.std.proofs.Common.{arith, append_assoc, length-append}
use Rattle.std.proofs.lemmas.List.{nil_from_length, append-nil}
use Rattle.std.proofs.Math.Nat.{lt_of_not-le}
use Rattle.xdr_types.specs.Tree.{Tree}
use Rattle.xdr_types.specs.Spelling.{bytes_of}
use Rattle.xdr_types.specs.Outcome.{Pending, Whole}
use Rattle.xdr_laws.proofs.Longer.{stays}
use Rattle.xdr_laws.proofs.Whole.{whole_exactly}
use Rattle.xdr_stream.specs.Sees.{Ends}
use Rattle.xdr_stream.specs.Finish.{EndsWith}
use Rattle.xdr_stream.specs.Reasons.{reason_number}
use Rattle.xdr_stream.specs.Represents as reported
use Rattle.xdr_stream.specs.declared.fault.DecodeFault.{DecodeFault}
use Rattle.xdr_stream.specs.declared.fault.Reason.{Reason}
use Rattle.xdr_stream.specs.declared.fault.Reason.TheVariants as reason
use Rattle.xdr_codec.specs.Refused.{HasNoneWithin}
use Rattle.xdr_codec.proofs.Outcomes.{pending_none, fails}
use Rattle.oncrpc_answers.specs.declared.answer.Answer.TheVariants as answer
use Rattle.oncrpc_tasks.specs.Right.{Question, HasOutcome, HasNoValue, IsWhole, IsRefusal, IsRight, shown_of}
use Rattle.oncrpc_tasks.specs.Stopping.{IsUnsettled}

-- a refusal by its reason, where that is neither an allocation failure nor that the bytes end
refusal_by : (q : Question) (b : List ℕ) (why : Reason) (at : ℕ) → (why ≡ reason.NoMemory → ⊥)
    → ((more : List ℕ) → Ends q.kinds q.place q.limits why (b ++ more) at × HasNoValue q (b ++ more))
    → IsRefusal q b why at
refusal_by q b reason.BadBool at known each = each
refusal_by q b reason.BadNumbered at known each = each
refusal_by q b reason.BadCase at known each = each
refusal_by q b reason.TooLong at known each = each
refusal_by q b reason.BadPadding at known each = each
refusal_by q b reason.TooDeep at known each = each
refusal_by q b reason.TooLarge at known each = each
refusal_by q b reason.Truncated at known each = absurd (each []).0
refusal_by q b reason.NoMemory at known each = absurd (known refl)

-- the reason is that the bytes end, or another one
cut_or : (why : Reason) → (why ≡ reason.Truncated) ⊎ (why ≡ reason.Truncated → ⊥)
cut_or reason.Truncated = inl refl
cut_or reason.BadBool = inr (λ e. omega (arith, ap reason_number e))
cut_or reason.BadNumbered = inr (λ e. omega (arith, ap reason_number e))
cut_or reason.BadCase = inr (λ e. omega (arith, ap reason_number e))
cut_or reason.TooLong = inr (λ e. omega (arith, ap reason_number e))
cut_or reason.BadPadding = inr (λ e. omega (arith, ap reason_number e))
cut_or reason.TooDeep = inr (λ e. omega (arith, ap reason_number e))
cut_or reason.TooLarge = inr (λ e. omega (arith, ap reason_number e))
cut_or reason.NoMemory = inr (λ e. omega (arith, ap reason_number e))

no_value : (q : Question) (b : List ℕ) → HasNoneWithin q.kinds q.place q.limits b → HasNoValue q b
no_value q b none used more shown h = none h.value more h.fits (sym h.joined)

module _ (q : Question) (units : q.limits.bytes % 4 ≡ 0) where
  -- a whole value, and the bytes after it
  whole_and_more : (b shown : List ℕ) (v : Tree) (used : ℕ) → HasOutcome q b (Whole v used) → shown ≡ shown_of q v
      → (more : List ℕ) × (length b ≡ used + length more) × IsWhole q b used more shown
  whole_and_more b shown v used o lines =
      let exact = (whole_exactly q.kinds q.place q.limits b v used units).0 o in (
        exact.1,
        omega (
          arith,
          ap (λ (x : List ℕ). length x) exact.2,
          length-append (bytes_of q.kinds q.place v) exact.1,
          exact.3,
        ),
        (
          record { value = v; fits = exact.0; joined = exact.2; counted = exact.3; lines = lines },
          o,
        ),
      )

  -- a value that takes all bytes
  pub whole_at_end : (b shown : List ℕ) (v : Tree) (used : ℕ) → HasOutcome q b (Whole v used) → shown ≡ shown_of q v
      → length b ≤ used → IsRight q b (answer.Whole used) shown
  whole_at_end b shown v used o lines all =
      let w = whole_and_more b shown v used o lines in
      let none : w.0 ≡ [] = nil_from_length w.0 (omega (arith, w.1, all)) in
      subst (λ (more : List ℕ). IsWhole q b used more shown) none w.2

  -- a value after which there are bytes
  pub more_there : (b shown : List ℕ) (v : Tree) (used : ℕ) → HasOutcome q b (Whole v used) → shown ≡ shown_of q v
      → used < length b → IsRight q b (answer.MoreFollows used) shown
  more_there b shown v used o lines some =
      let w = whole_and_more b shown v used o lines in (w.0, omega (arith, w.1, some), w.2)

  -- and then more of them
  pub more_follows : (b rest shown : List ℕ) (v : Tree) (used : ℕ) → HasOutcome q b (Whole v used)
      → shown ≡ shown_of q v → used < length b → IsRight q (b ++ rest) (answer.MoreFollows used) shown
  more_follows b rest shown v used o lines some =
      more_there (b ++ rest) shown v used (stays q.kinds q.place q.limits b rest (Whole v used) tt o) lines
      (omega (arith, some, length-append b rest))

  -- bytes that end inside a value
  pub cut_at_end : (b : List ℕ) (at : ℕ) → HasOutcome q b Pending → at ≡ length b
      → IsRight q b (answer.Refused (record { why = reason.Truncated; at = at })) []
  cut_at_end b at o count =
      ((o, count, no_value q b (pending_none q.kinds q.place q.limits units b o)), refl)

  -- bytes that are refused, and then more of them
  pub refused_for_all : (b rest : List ℕ) (f : DecodeFault) → reported.Fails q.kinds q.place q.limits f b
      → (f.why ≡ reason.NoMemory → ⊥) → IsRight q (b ++ rest) (answer.Refused f) []
  refused_for_all b rest f e known =
      let none = fails q.kinds q.place q.limits units f b e in (
        refusal_by q (b ++ rest) f.why f.at known
            (λ more. subst
            (λ (x : List ℕ). Ends q.kinds q.place q.limits f.why x f.at × HasNoValue q x)
            (sym (append_assoc b rest more))
            (e.0 (rest ++ more), no_value q (b ++ (rest ++ more)) (none.1 known (rest ++ more)))),
        refl,
      )

  -- what the end of the bytes says
  pub refused_at_end : (b : List ℕ) (f : DecodeFault) → EndsWith q.kinds q.place q.limits b f
      → (f.why ≡ reason.NoMemory → ⊥) → IsRight q b (answer.Refused f) []
  refused_at_end b f e known = elim (cut_or f.why) [
    | inl cut ↦
        (let h = cut_at_end b f.at (e.0 cut).0 (e.0 cut).1 in
        (subst (λ (w : Reason). IsRefusal q b w f.at) (sym cut) h.0, refl))
    | inr other ↦
        subst (λ (x : List ℕ). IsRight q x (answer.Refused f) []) (append-nil b)
        (refused_for_all b [] f (e.1 other) known)
  ]

  -- Bytes that settle no answer are within the limit.
  pub cut_below : (b : List ℕ) → HasOutcome q b Pending → length b < q.limits.bytes
  cut_below b o = lt_of_not-le (λ far. (o q.limits.bytes units far).small refl)

  pub whole_within : (b : List ℕ) (v : Tree) (used : ℕ) → HasOutcome q b (Whole v used) → used ≤ q.limits.bytes
  whole_within b v used o =
      let exact = (whole_exactly q.kinds q.place q.limits b v used units).0 o in
      omega (arith, exact.0.1.1, exact.3)

  pub unsettled_within : (b : List ℕ) → IsUnsettled q b → length b ≤ q.limits.bytes
  unsettled_within b (inl o) = omega (arith, cut_below b o)
  unsettled_within b (inr w) = whole_within b w.0 (length b) w.1
