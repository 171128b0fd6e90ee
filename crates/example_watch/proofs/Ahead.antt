-- Segments that begin at the due place, and ahead of it.
use Rattle.std.proofs.Common.{◌≡◌, ℕ, ◌^◌, ◌<◌, List, length, sym, subst, arith}
use Rattle.capture_streams.specs.declared.direction.Direction.{Direction}
use Rattle.capture_streams.specs.declared.refusal.Refusal.TheVariants.{NoMemory}
use Rattle.capture_streams.specs.Segments.{lead_of}
use Rattle.capture_streams.specs.Represents.{first_of, due_of, limit_of}
use Rattle.capture_streams.specs.Taking.{IsAhead, RefusedFor}

pub not_ahead : (d : Direction) → first_of d ≡ 1000 → due_of d ≡ 0 → IsAhead d 1000 → ⊥
not_ahead d first due ahead =
    let here : 2 ^ 31 < lead_of 1000 0 1000 =
    subst (λ (x : ℕ). 2 ^ 31 < lead_of x 0 1000) first
    (subst (λ (y : ℕ). 2 ^ 31 < lead_of d.first y 1000) due ahead) in
    omega arith

-- one that begins four places ahead does
pub is_ahead : (d : Direction) → first_of d ≡ 1000 → due_of d ≡ 0 → IsAhead d 1004
is_ahead d first due =
    let here : 2 ^ 31 < lead_of 1000 0 1004 = omega arith in
    subst (λ (x : ℕ). 2 ^ 31 < lead_of x d.due 1004) (sym first)
    (subst (λ (y : ℕ). 2 ^ 31 < lead_of 1000 y 1004) (sym due) here)

-- where nothing may be held, memory is not what such a segment wants
pub no_space : (old new : Direction) (bytes : List ℕ) (taken : ℕ) → first_of old ≡ 1000 → due_of old ≡ 0
    → limit_of new ≡ 0 → RefusedFor old new 1004 bytes (NoMemory taken) → taken < length bytes → ⊥
no_space old new bytes taken first due none h less =
    let next = h.1 less (is_ahead old first due) in
    omega (arith, next.2, none)
