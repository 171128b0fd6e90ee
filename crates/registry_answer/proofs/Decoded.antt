-- Arguments that decode are those that begin with a value within the limits.
use Rattle.std.proofs.Common.{◌≡◌, ℕ, List, ◌++◌, length, refl}
use Rattle.xdr_types.specs.Tree.{Tree}
use Rattle.xdr_types.specs.Spelling.{bytes_of}
use Rattle.xdr_types.specs.Within.{FitsWithin}
use Rattle.xdr_laws.specs.Laws.{WholeExactly}
use Rattle.registry_dumps.specs.Dir.{dir_kinds}
use Rattle.registry_answer.specs.Answer.{argument_limits, AreArguments}

-- A value within the limits, and what follows its bytes.
pub record BeginsWith (kind : ℕ) (args : List ℕ) (t : Tree) : Type 0 where
  pub fits : FitsWithin dir_kinds kind argument_limits t
  pub rest : List ℕ
  pub is : args ≡ bytes_of dir_kinds kind t ++ rest

module _ (exact : WholeExactly dir_kinds) (kind : ℕ) (args : List ℕ) (t : Tree) where
  pub begins : AreArguments kind args t → BeginsWith kind args t
  begins (place, o) =
      let w = (exact kind argument_limits args t place refl).0 o in
      record { fits = w.0; rest = w.1; is = w.2 }

  pub decoded : BeginsWith kind args t → AreArguments kind args t
  decoded b = (
    length (bytes_of dir_kinds kind t),
    (exact kind argument_limits args t (length (bytes_of dir_kinds kind t)) refl).1
        (b.fits, b.rest, b.is, refl),
  )
