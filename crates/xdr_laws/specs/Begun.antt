-- The part that a unit begins.
use Rattle.std.specs.Prelude.{ℕ, List, [], ◌∷◌}
use Rattle.xdr_types.specs.Kinds.{KindView, Part, kind_at}
use Rattle.xdr_types.specs.Layout.{Entry, entry}
use Rattle.xdr_laws.specs.Owed.{Due, Frame, role_of}

-- the part that a unit begins, where a value is due
abbrev pub first : (place depth : ℕ) → Part → KindView → Entry
first place depth p f = entry place 4 depth p (role_of f)

-- what begins here where it is settled what is owed
abbrev pub begins_here : List KindView → (place : ℕ) → List Due → List Entry
begins_here kinds place (Frame depth (p ∷ ps) ∷ ds) = first place depth p (kind_at kinds p.kind) ∷ []
begins_here kinds place _ = []
