-- What decides whether bytes are those of parts, one after another.
use Rattle.std.specs.Prelude.{◌≡◌, ℕ, ◌+◌, ◌<◌, ◌≤◌, ◌%◌, List, length, take, drop, true, IsTrue, ⊤}
use Rattle.xdr_types.specs.Kinds.{KindView, Part}
use Rattle.xdr_types.specs.Tree.{Values}
use Rattle.xdr_types.specs.Fits.{fit, are_bytes}
use Rattle.xdr_types.specs.Spelling.{spelling}
use Rattle.xdr_types.specs.Decided.{IsSpelled}
use Rattle.xdr_types.specs.declared.decided.Decided.{Decided}
use Rattle.xdr_types.specs.declared.decided.Deciding.{Deciding}
use Rattle.xdr_types.specs.declared.decided.Deciding.TheVariants.{Free, Unit}

-- these are the bytes of values of the parts (RFC 4506 section 4.14)
abbrev pub AreSpelled : List KindView → List Part → List ℕ → Type 0
AreSpelled kinds ps bs = (vs : Values) × (fit kinds ps vs ≡ true) × (spelling kinds ps vs ≡ bs)

-- as many bytes as values of the parts have are theirs, where something is so of them (RFC 4506 section 4.14)
abbrev pub Suffices : List KindView → List Part → (List ℕ → Type 0) → Type 0
Suffices kinds ps so =
    (vs : Values) → fit kinds ps vs ≡ true → (bs : List ℕ) → length bs ≡ length (spelling kinds ps vs)
    → IsTrue (are_bytes bs) → so bs → AreSpelled kinds ps bs

-- the unit is among the bytes of all values of the parts, and it suffices (RFC 4506 section 4.14)
pub record AreDecidedBy (kinds : List KindView) (ps : List Part) (d : Decided) : Type 0 where
  pub known : d.kind.place < length kinds
  pub units : d.at % 4 ≡ 0
  pub inside : (vs : Values) → fit kinds ps vs ≡ true → d.at + 4 ≤ length (spelling kinds ps vs)
  pub decides : Suffices kinds ps (λ bs. IsSpelled kinds d.kind.place (take 4 (drop d.at bs)))

-- nothing has to be so, or one unit suffices (RFC 4506 section 4.14)
abbrev pub AreDecided : List KindView → List Part → Deciding → Type 0
AreDecided kinds ps Free = Suffices kinds ps (λ bs. ⊤)
AreDecided kinds ps (Unit d) = AreDecidedBy kinds ps d
