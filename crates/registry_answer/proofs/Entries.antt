-- The code's table is that of the definitions.
use Rattle.std.proofs.Common.{◌≡◌, ℕ, zero, suc, ◌≤◌, ◌<◌, ◌⊎◌, inl, inr, Bool, true, false, ◌&&◌}
use Rattle.std.proofs.Common.{[], ◌∷◌, None, refl, sym, ◌∙◌, arith, slice_get, nat_le, true≢false}
use Rattle.std.proofs.lemmas.Bool.{and_parts, cases_lt, le-leb}
use Rattle.registry_dumps.specs.Dir.{mapping_kind, rpcb_kind}
use Rattle.registry_answer.specs.Answer.{IsVersion}
use Rattle.registry_answer.specs.Procedures.{Procedure}
use Rattle.registry_answer.specs.Private.Table.{of_mapping, of_rpcb}
use Rattle.registry_answer.specs.declared.table.OnMapping.{OnMapping}
use Rattle.registry_answer.specs.declared.table.OnMapping.TheVariants as mapping
use Rattle.registry_answer.specs.declared.table.OnRpcb.{OnRpcb}
use Rattle.registry_answer.specs.declared.table.OnRpcb.TheVariants as rpcb

-- a table of five has nothing past it
pub none_past_5 : (a b c d e : Procedure) (n : ℕ) → 5 ≤ n → None ≡ slice_get (a ∷ b ∷ c ∷ d ∷ e ∷ []) n
none_past_5 a b c d e zero h = absurd (omega (arith, h))
none_past_5 a b c d e (suc zero) h = absurd (omega (arith, h))
none_past_5 a b c d e (suc (suc zero)) h = absurd (omega (arith, h))
none_past_5 a b c d e (suc (suc (suc zero))) h = absurd (omega (arith, h))
none_past_5 a b c d e (suc (suc (suc (suc zero)))) h = absurd (omega (arith, h))
none_past_5 a b c d e (suc (suc (suc (suc (suc n))))) h = refl

-- what each takes
pub takes_mapping : (step : OnMapping) → mapping_kind ≡ (of_mapping step).takes
takes_mapping mapping.Set = refl
takes_mapping mapping.Unset = refl
takes_mapping mapping.GetPort = refl

pub takes_rpcb : (step : OnRpcb) → rpcb_kind ≡ (of_rpcb step).takes
takes_rpcb rpcb.Set = refl
takes_rpcb rpcb.Unset = refl
takes_rpcb rpcb.GetAddr = refl
takes_rpcb rpcb.GetVersAddr = refl

-- ---- versions

le_true : (a b : ℕ) → nat_le a b ≡ true → a ≤ b
le_true a b e = grind (arith, e)

pub version_is : (b : Bool) (v : ℕ) → b ≡ (nat_le 2 v && nat_le v 4) → b ≡ true → IsVersion v
version_is b v e f =
    let t = and_parts (nat_le 2 v) (nat_le v 4) (sym e ∙ f) in (le_true 2 v t.0, le_true v 4 t.1)

pub no_version_is : (b : Bool) (v : ℕ) → b ≡ (nat_le 2 v && nat_le v 4) → b ≡ false → (v < 2) ⊎ (4 < v)
no_version_is b v e f = elim (cases_lt v 2) [
  | inl low ↦ inl low
  | inr least ↦ elim (cases_lt 4 v) [
    | inl high ↦ inr high
    | inr most ↦ absurd (true≢false (sym (both least most) ∙ sym e ∙ f))
  ]
]
  where
    both : 2 ≤ v → v ≤ 4 → (nat_le 2 v && nat_le v 4) ≡ true
    both h k = λ j. le-leb 2 v h j && le-leb v 4 k j
