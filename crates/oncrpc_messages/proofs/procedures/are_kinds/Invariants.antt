use Rattle.std.proofs.Common.{◌≡◌, drop, length}
use Rattle.std.specs.Prelude.{ℕ, nat_lt}
use Rattle.std.specs.List.{list_all}
use Rattle.xdr_lang.specs.Views.{places}
use Rattle.oncrpc_messages.proofs.procedures.are_kinds.Given as goal

abbrev pub invariant-loop-kind : goal.invariant-loop-kind
invariant-loop-kind l = list_all (λ (k : ℕ). nat_lt k (length l.schema.kinds)) (places (drop l.kind-index l.kinds))
    ≡ list_all (λ (k : ℕ). nat_lt k (length l.schema.kinds)) (places l.kinds)
