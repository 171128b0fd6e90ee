-- What a status says of rows that were listed and of an address that was written.
use Rattle.std.proofs.Common.{◌≡◌, ℕ, ◌<◌, ◌⊎◌, List, ◌++◌, length, take, drop, ap, ◌∙◌, arith, Option, Some, None}
use Rattle.std.proofs.Math.Seq.{take-append_seam}
use Rattle.registry_uaddr.specs.declared.address.Uaddr.{Uaddr}
use Rattle.registry_uaddr.specs.Uaddrs.{uaddr_text}
use Rattle.c_registry.specs.declared.answer.Answer.{Answer}
use Rattle.c_registry.specs.declared.answer.Answer.TheVariants as answer
use Rattle.c_registry.specs.declared.listed.Listed.{Listed}
use Rattle.c_registry.specs.declared.listed.Listed.TheVariants as listed
use Rattle.c_registry.specs.Addresses.{IsAddressWritten}
use Rattle.c_registry.specs.Held.{Held}
use Rattle.c_registry.specs.Listed.{Buffers, rows_at, IsListedBy, counts_of, listed_status, listed_counts}
use Rattle.c_registry.specs.Statuses.{status_of, count_of}

-- the rows of a registry are counted
pub counted : (h : Held) (old new : Buffers) (a : Listed) → IsListedBy (Some h) old new a → 0 ≡ listed_status a
    → listed_counts a ≡ counts_of h.rows
counted h old new (listed.Whole c) l e = l.2
counted h old new listed.NoMemory l e = absurd (omega (arith, e))
counted h old new (listed.NoRoom c) l e = absurd (omega (arith, e))
counted h old new listed.NoRegistry l e = absurd (omega (arith, e))

-- and stand at the front
pub in_front : (h : Held) (old new : Buffers) (a : Listed) → IsListedBy (Some h) old new a → 0 ≡ listed_status a
    → new.rows ≡ rows_at 0 h.rows ++ drop (length (rows_at 0 h.rows)) old.rows
in_front h old new (listed.Whole c) l e = l.1.0
in_front h old new listed.NoMemory l e = absurd (omega (arith, e))
in_front h old new (listed.NoRoom c) l e = absurd (omega (arith, e))
in_front h old new listed.NoRegistry l e = absurd (omega (arith, e))

-- buffers that are too small
pub short : (held : Option Held) (old new : Buffers) (a : Listed) → IsListedBy held old new a → 8 ≡ listed_status a
    → (new ≡ old) × ((length old.rows < (listed_counts a).rows) ⊎ (length old.bytes < (listed_counts a).bytes))
short None old new a l e = absurd (omega (arith, e ∙ ap listed_status l.0))
short (Some h) old new (listed.Whole c) l e = absurd (omega (arith, e))
short (Some h) old new listed.NoMemory l e = absurd (omega (arith, e))
short (Some h) old new (listed.NoRoom c) l e = (l.1, l.0)
short (Some h) old new listed.NoRegistry l e = absurd (omega (arith, e))

-- the text of an address
pub written : (u : Uaddr) (old new : List ℕ) (a : Answer) → IsAddressWritten u old new a → 0 ≡ status_of a
    → (count_of a ≡ length (uaddr_text u)) × (take (length (uaddr_text u)) new ≡ uaddr_text u)
written u old new (answer.Whole count) w e =
    (w.0, rw w.1 (take-append_seam (uaddr_text u) (drop (length (uaddr_text u)) old)))
written u old new answer.NoMemory w e = absurd (omega (arith, e))
written u old new (answer.NoRoom needed) w e = absurd (omega (arith, e))
written u old new answer.NoRegistry w e = absurd w
written u old new answer.Silence w e = absurd w
written u old new answer.NoTransport w e = absurd w
written u old new answer.Unchanged w e = absurd w
written u old new answer.NoCaller w e = absurd w
