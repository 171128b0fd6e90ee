-- What a list of bytes is, by index and by recursion.
use Rattle.std.proofs.Common.{◌≡◌, ℕ, suc, ◌<◌, List, [], ◌∷◌, length, get_or, true, refl, arith, nat_lt, lt-ltb}
use Rattle.xdr_units.specs.Numbers.{AreBytes}
use Rattle.xdr_types.specs.Fits.{are_bytes}

-- a list whose numbers are below 256 by index
pub bytes-by-index : (bs : List ℕ) → ((i : ℕ) → i < length bs → get_or bs i 0 < 256) → are_bytes bs ≡ true
bytes-by-index [] h = refl
bytes-by-index (b ∷ bs) h =
    let first : nat_lt b 256 ≡ true = lt-ltb b 256 (h 0 (omega arith)) in
    rw first (bytes-by-index bs (λ i within. h (suc i) (omega arith)))

-- bytes are tested to be bytes
pub are_bytes_of : (bs : List ℕ) → AreBytes bs → are_bytes bs ≡ true
are_bytes_of [] a = refl
are_bytes_of (b ∷ bs) a =
    let first : nat_lt b 256 ≡ true = lt-ltb b 256 a.0 in
    rw first (are_bytes_of bs a.1)
