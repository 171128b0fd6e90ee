-- What stands at the front of bytes where no padded content does (RFC 4506 section 3).
use Rattle.std.specs.Prelude.{◌≡◌, ◌≢◌, ℕ, ◌+◌, ◌<◌, List, ◌++◌, length}
use Rattle.xdr_units.specs.Numbers.{gap, pad}
use Rattle.xdr_units.specs.declared.units.NoContent.{NoContent}
use Rattle.xdr_units.specs.declared.units.NoContent.TheVariants as no

-- So many bytes, and where their padding stands as many bytes that are not all zero.
pub record HasBadPadding (size : ℕ) (bytes : List ℕ) : Type 0 where
  pub content : List ℕ
  pub filling : List ℕ
  pub rest : List ℕ
  pub sized : length content ≡ size
  pub filled : length filling ≡ gap size
  pub other : filling ≢ pad size
  pub parts : bytes ≡ content ++ (filling ++ rest)

-- why so many bytes do not stand there with their padding
abbrev pub IsNoContent : NoContent → ℕ → List ℕ → Type 0
IsNoContent no.Truncated size bytes = length bytes < size + gap size
IsNoContent no.BadPadding size bytes = HasBadPadding size bytes
