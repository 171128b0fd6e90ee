use Rattle.std.proofs.Common.{◌≡◌, ℕ, ◌+◌, ◌-◌, ◌≤◌, true, List, ◌++◌, length, drop}
use Rattle.xdr_lang.specs.Views.{places}
use Rattle.oncrpc_messages.specs.declared.refusal.Why.{Why}
use Rattle.oncrpc_messages.specs.Private.Kept.{kept}
use Rattle.oncrpc_messages.specs.Private.Told.{AreKinds}
use Rattle.oncrpc_messages.specs.Values.{AreRefused, AreShown}
use Rattle.oncrpc_messages.proofs.values.values_of.Given as goal

abbrev pub invariant-values : goal.invariant-values
invariant-values l = record {
  shown : (printed : List ℕ) × (l.text.items ≡ kept l.terms.show printed)
      × ((t : List ℕ)
      → AreShown l.terms.form l.terms.schema.now.kinds l.terms.limits l.first (places (drop l.index l.kinds)) l.rest t
      → AreShown l.terms.form l.terms.schema.now.kinds l.terms.limits true (places l.kinds) l.bytes (printed ++ t));
  refused : (w : Why) (n : ℕ)
      → AreRefused l.terms.schema.now.kinds l.terms.limits (places (drop l.index l.kinds)) l.rest w n
      → AreRefused l.terms.schema.now.kinds l.terms.limits (places l.kinds) l.bytes w
      (length l.bytes - length l.rest + n);
  known : AreKinds l.terms.schema.now.kinds (places (drop l.index l.kinds));
  within : length l.rest ≤ length l.bytes;
}
