-- What the refusal of arguments tells.
use Rattle.std.proofs.Common.{◌≡◌, ℕ, ◌+◌, ◌≤◌, List, [], ◌∷◌, ◌++◌, length, Result, Ok, Err, IfErr, MatchResult}
use Rattle.std.proofs.Common.{OnOk, refl, ap, sym, ◌∙◌, arith, length-append}
use Rattle.xdr_types.specs.Kinds.{KindView}
use Rattle.xdr_types.specs.Within.{Bounds}
use Rattle.oncrpc_call.specs.Asking.{AreArguments, AreRefused}
use Rattle.oncrpc_call.specs.declared.unasked.Unasked.{Unasked}
use Rattle.oncrpc_call.specs.declared.unasked.Unasked.TheVariants as unasked
use Rattle.example_call.specs.Refused.{IsFirst}

module _ (kinds : List KindView) (limits : Bounds) (bytes : List ℕ) where
  none_refused : length bytes ≡ 4 → (why : Unasked) → AreRefused kinds [] limits bytes why
      → why ≡ unasked.Follows 4
  none_refused four (unasked.Follows count) h =
      let joined : bytes ≡ h.0.rest = h.0.behind.joined ∙ ap (λ (x : List ℕ). x ++ h.0.rest) h.0.behind.judged in
      let same : count ≡ 4 = h.0.many ∙ ap length (sym joined) ∙ four in
      ap (λ (n : ℕ). unasked.Follows n) same
  none_refused four (unasked.Argument at f) h = let within = h.0.reached.within in absurd (omega (arith, within))
  none_refused four unasked.Kind h = let within = h.reached.within in absurd (omega (arith, within))
  none_refused four unasked.NoMemory h = let within = h.reached.within in absurd (omega (arith, within))
  none_refused four unasked.TooLong h = absurd h
  none_refused four (unasked.Name why) h = absurd h

  -- four bytes where there are no arguments
  pub follows_four : {X : Type 0} (r : Result X Unasked) → length bytes ≡ 4
      → OnOk r (AreArguments kinds [] limits bytes) → IfErr r (λ why. AreRefused kinds [] limits bytes why)
      → MatchResult r (λ _. ⊥) (λ why. why ≡ unasked.Follows 4)
  follows_four (Ok x) four judged refused =
      let none : length bytes ≡ 0 = ap length judged in absurd (omega (arith, four, none))
  follows_four (Err why) four judged refused = none_refused four why refused

  -- the refusal of a single argument
  pub first_refused : (k : ℕ) (why : Unasked) → AreRefused kinds (k ∷ []) limits bytes why
      → IsFirst (length bytes) why
  first_refused k (unasked.Argument at f) h =
      let within = h.0.reached.within in
      let place = h.0.place in
      let whole : length bytes ≡ length h.0.reached.behind.before + length h.0.rest =
      ap length h.0.reached.behind.joined ∙ length-append h.0.reached.behind.before h.0.rest in
      (omega (arith, within), omega (arith, place, whole))
  first_refused k (unasked.Follows count) h = tt
  first_refused k unasked.Kind h = tt
  first_refused k unasked.NoMemory h = tt
  first_refused k unasked.TooLong h = tt
  first_refused k (unasked.Name why) h = tt
