-- What writing the header of a fragment does (RFC 5531 section 11).
use Rattle.std.specs.Prelude.{◌≡◌, ◌⊎◌, ◌<◌, ◌≤◌, ◌^◌, ℕ, Bool, List}
use Rattle.rpc_record.specs.Marked.{header}

-- It is the header of a fragment of so many bytes; or no fragment has so many, and nothing is written.
abbrev pub IsHeaded : (count : ℕ) → (is_last : Bool) → (old new : List ℕ) → (status : ℕ) → Type 0
IsHeaded count is_last old new status =
    ((status ≡ 0) × (count < 2 ^ 31) × (new ≡ header is_last count))
    ⊎ ((status ≡ 5) × (2 ^ 31 ≤ count) × (new ≡ old))
