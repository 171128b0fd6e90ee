-- What a checker's answer to all bytes says of them.
use Rattle.std.proofs.Common.{◌≡◌, ℕ, ◌+◌, ◌%◌, List, [], length, refl, ap, subst, ◌∙◌, arith, Result, Ok, Err}
use Rattle.xdr_types.specs.Kinds.{KindView, Lists}
use Rattle.xdr_types.specs.Tree.{Tree}
use Rattle.xdr_types.specs.Within.{Bounds}
use Rattle.xdr_types.specs.Outcome.{Outcome, Whole}
use Rattle.xdr_types.specs.declared.kind.KindId.{KindId}
use Rattle.xdr_stream.specs.Finish.{EndsWith}
use Rattle.xdr_stream.specs.Reasons.{reason_number}
use Rattle.xdr_stream.specs.Represents.{Answers}
use Rattle.xdr_stream.specs.declared.fault.DecodeFault.{DecodeFault}
use Rattle.xdr_stream.specs.declared.fault.Reason.TheVariants as reason
use Rattle.xdr_stream.specs.declared.reader.Progress.{Progress}
use Rattle.xdr_stream.specs.declared.reader.Progress.TheVariants.{More, Done}
use Rattle.xdr_codec.specs.Checks.{HasOutcome, IsStarted}
use Rattle.xdr_codec.specs.declared.checker.Checker.{Checker}
use Rattle.xdr_codec.proofs.Outcomes.{whole, refused, fails}
use Rattle.c_values.specs.Answers.{Question, BeginsWithValue, IsRefusal}

-- a value that is the outcome of an input begins it
pub begins_of : (q : Question) → q.limits.bytes % 4 ≡ 0 → (b : List ℕ) (v : Tree) (used : ℕ)
    → Outcome q.kinds q.place q.limits b (Whole v used) → BeginsWithValue q b used
begins_of q units b v used o =
    let w = whole q.kinds q.place q.limits units b v used o in
    record { value = v; outcome = o; fits = w.0; within = w.1; spelled = w.2 }

-- a fault that is not an allocation failure refuses the input
pub refusal_of : (q : Question) → q.limits.bytes % 4 ≡ 0 → (b : List ℕ) (f : DecodeFault)
    → (f.why ≡ reason.NoMemory → ⊥) → EndsWith q.kinds q.place q.limits b f → IsRefusal q b f
refusal_of q units b f known e =
    let w = refused q.kinds q.place q.limits units f b e in
    record { known = known; outcome = e; none = w.0; within = w.1 }

abbrev question : Lists → KindId → Bounds → Question
question s k l = record { kinds = s.kinds; place = k.place; limits = l }

module _ (s : Lists) (k : KindId) (l : Bounds) (c : Checker) (set : IsStarted c s k l) (units : l.bytes % 4 ≡ 0)
    (b : List ℕ) where
  -- what is said of the checker's settings is said of those that it was started with
  asked : (Said : List KindView → ℕ → Bounds → Type 0)
      → Said c.reader.schema.now.kinds c.reader.kind.place c.reader.limits → Said s.kinds k.place l
  asked Said h =
      subst (λ (x : Bounds). Said s.kinds k.place x) set.limits_are
      (subst (λ (x : KindId). Said s.kinds x.place c.reader.limits) set.kind_is
      (subst (λ (x : Lists). Said x.kinds c.reader.kind.place c.reader.limits) set.schema_is h))

  outcome_of : (r x : Result Progress DecodeFault) → r ≡ x → HasOutcome c [] b r
      → Answers s.kinds k.place l [] b x
  outcome_of r x is h =
      asked (λ (ks : List KindView) (p : ℕ) (m : Bounds). Answers ks p m [] b x)
      (subst (λ (y : Result Progress DecodeFault). HasOutcome c [] b y) is h)

  pub begins : (r : Result Progress DecodeFault) (p : Progress) (used : ℕ) → r ≡ Ok p → p ≡ Done used
      → HasOutcome c [] b r → BeginsWithValue (question s k l) b used
  begins r p used ok is h =
      let o = outcome_of r (Ok (Done used)) (ok ∙ ap (λ (x : Progress). Ok x) is) h in
      let count : length {A = ℕ} [] + used ≡ used = omega arith in
      let there : Outcome s.kinds k.place l b (Whole o.0 used) =
      subst (λ (n : ℕ). Outcome s.kinds k.place l b (Whole o.0 n)) count o.1 in
      begins_of (question s k l) units b o.0 used there

  refusal : (f : DecodeFault) → (f.why ≡ reason.NoMemory → ⊥) → EndsWith s.kinds k.place l b f
      → IsRefusal (question s k l) b f
  refusal f known e = refusal_of (question s k l) units b f known e

  pub cut : (r : Result Progress DecodeFault) (p : Progress) → r ≡ Ok p → p ≡ More → HasOutcome c [] b r
      → IsRefusal (question s k l) b (record { why = reason.Truncated; at = length b })
  cut r p ok is h =
      let o = outcome_of r (Ok More) (ok ∙ ap (λ (x : Progress). Ok x) is) h in
      refusal (record { why = reason.Truncated; at = length b }) (λ e. omega (arith, ap reason_number e))
      ((λ same. (o, refl)), (λ other. absurd (other refl)))

  pub broken : (f : DecodeFault) → (f.why ≡ reason.NoMemory → ⊥) → HasOutcome c [] b (Err f)
      → IsRefusal (question s k l) b f
  broken f known h =
      let e = outcome_of (Err f) (Err f) refl h in
      refusal f known
      ((λ is. absurd ((fails s.kinds k.place l units f b e).0 is)), (λ other. e))
