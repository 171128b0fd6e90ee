-- What has been taken of the parts of a value.
use Rattle.std.specs.Prelude.{◌≡◌, ℕ, ◌+◌, List, [], ◌∷◌, ◌++◌, true, length, map}
use Rattle.xdr_types.specs.Layout.{Entry}
use Rattle.xdr_parts.specs.Lent.{entry_of, AreLentFrom}
use Rattle.xdr_parts.specs.Counted.{names_of, capped}
use Rattle.xdr_parts.specs.declared.part.Lent.{Lent}
use Rattle.xdr_parts.specs.declared.taken.Taken.{Taken}

-- these parts have been taken: they are counted with the bytes of their names, and listed where parts are listed
pub record HasTaken (t : Taken) (ls : List Lent) : Type 0 where
  pub parts : t.parts ≡ length ls
  pub names : t.names ≡ capped (length (names_of (map entry_of ls)))
  pub list : t.lists ≡ true → t.list.items ≡ ls

-- one part more has been taken
pub record TookOne (t : Taken) (l : Lent) (t' : Taken) : Type 0 where
  pub lists_is : t'.lists ≡ t.lists
  pub more : t'.parts ≡ t.parts + 1
  pub taken : (ls : List Lent) → HasTaken t ls → HasTaken t' (ls ++ l ∷ [])

-- all these parts have been taken, lent from the bytes
pub record HasAll (bytes : List ℕ) (es : List Entry) (t : Taken) : Type 0 where
  pub lent : List Lent
  pub each : map entry_of lent ≡ es
  pub from : AreLentFrom bytes lent
  pub taken : HasTaken t lent
