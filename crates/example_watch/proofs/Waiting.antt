-- Where no call waits their count is 0.
use Rattle.std.proofs.Common.{◌≡◌, ℕ, ◌+◌, ◌*◌, ◌/◌, ◌%◌, ◌<◌, ◌^◌, List, [], ◌∷◌, None, refl, sym, ap, ◌∙◌}
use Rattle.std.proofs.Common.{arith, subst}
use Rattle.std.proofs.lemmas.Bool.{false≢true}
use Rattle.std.proofs.lemmas.List.Elements.{Contains-append_left, Contains-push}
use Rattle.std.specs.Prelude.{Contains, is_some, length}
use Rattle.oncrpc_watch.specs.declared.table.CallTable.{CallTable}
use Rattle.oncrpc_watch.specs.Waiting.{HasCalls, key, waiting}

pub none_waits : (t : CallTable) (count : ℕ) → ((way xid : ℕ) → waiting t way xid ≡ None) → HasCalls t count
    → count ≡ 0
none_waits t count empty h = h.count_is ∙ no_number h.numbers
    (λ n has. false≢true (ap (λ o. is_some o) (sym (empty (n / 2 ^ 32) (n % 2 ^ 32)))
    ∙ (h.each (n / 2 ^ 32) (n % 2 ^ 32) (omega arith)).0 (subst (λ k. Contains h.numbers k) (is_key n) has)))
  where
    is_key : (n : ℕ) → n ≡ key (n / 2 ^ 32) (n % 2 ^ 32)
    is_key n = omega arith

    no_number : (numbers : List ℕ) → ((n : ℕ) → Contains numbers n → ⊥) → length numbers ≡ 0
    no_number [] none = refl
    no_number (n ∷ ns) none = absurd (none n (Contains-append_left (n ∷ []) ns n (Contains-push [] n)))
