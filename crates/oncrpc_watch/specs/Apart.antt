-- Two maps of calls with no number in common.
use Rattle.std.specs.Prelude.{◌≡◌, ℕ, true, false, is_some}
use Rattle.std.specs.BTreeMap.{BTreeMap, get}
use Rattle.std.specs.Ordering.{nat_cmp}
use Rattle.oncrpc_messages.specs.declared.asked.Asked.{Asked}

-- no number has a call in both
abbrev pub AreApart : (newer older : BTreeMap ℕ Asked) → Type 0
AreApart newer older = (at : ℕ) → is_some (get nat_cmp newer at) ≡ true → is_some (get nat_cmp older at) ≡ false
