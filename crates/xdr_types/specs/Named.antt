-- Look-ups of names, and the basic schema.
use Rattle.std.specs.Prelude.{ℕ, ◌^◌, ◌-◌, List, [], ◌∷◌, Option, Some, None, if◌then◌else◌, codes}
use Rattle.std.specs.Str.{bytes_eq}
use Rattle.xdr_types.specs.Kinds as xdr
use Rattle.xdr_types.specs.Kinds.{KindView, Part, Lists}

-- the place that a name names: that of the first entry with the name
abbrev pub place_named : List Part → List ℕ → Option ℕ
place_named [] name = None
place_named (p ∷ ps) name = if bytes_eq p.name name then Some p.kind else place_named ps name

-- a name for a place
abbrev pub named : List ℕ → ℕ → Part
named name place = record { name = name; kind = place }

-- the basic schema: eight kinds, seven of them named (RFC 4506 sections 4.1, 4.2, 4.4, 4.5, 4.10, 4.11, 4.16)
abbrev pub basic : Lists
basic = record {
  kinds = xdr.int ∷ xdr.unsigned ∷ xdr.hyper ∷ xdr.unsigned_hyper ∷ xdr.boolean ∷ xdr.nothing
      ∷ xdr.opaque_up_to (2 ^ 32 - 1) ∷ xdr.text (2 ^ 32 - 1) ∷ [];
  names = named (codes "int") 0 ∷ named (codes "unsigned") 1 ∷ named (codes "hyper") 2 ∷ named
      (codes "unsigned-hyper") 3 ∷ named (codes "bool") 4 ∷ named (codes "opaque") 6 ∷ named (codes "string") 7 ∷ [];
}
