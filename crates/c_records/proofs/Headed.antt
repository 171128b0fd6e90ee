-- What the status of a header says.
use Rattle.std.proofs.Common.{◌≡◌, ℕ, ◌<◌, ◌≤◌, ◌^◌, Bool, List, inl, inr, arith}
use Rattle.rpc_record.specs.Marked.{header}
use Rattle.c_records.specs.Headed.{IsHeaded}

-- a fragment can have so many bytes
pub headed : (count : ℕ) (is_last : Bool) (old new : List ℕ) (status : ℕ) → count < 2 ^ 31
    → IsHeaded count is_last old new status → (status ≡ 0) × (new ≡ header is_last count)
headed count is_last old new status few (inl h) = (h.0, h.2)
headed count is_last old new status few (inr h) = absurd (omega (arith, few, h.1))

-- none can
pub not_headed : (count : ℕ) (is_last : Bool) (old new : List ℕ) (status : ℕ) → 2 ^ 31 ≤ count
    → IsHeaded count is_last old new status → (status ≡ 5) × (new ≡ old)
not_headed count is_last old new status many (inl h) = absurd (omega (arith, many, h.1))
not_headed count is_last old new status many (inr h) = (h.0, h.2)
