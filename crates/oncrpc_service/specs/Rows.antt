-- The lines of a registry's rows (RFC 1833 sections 2.1 and 3.1).
use Rattle.std.specs.Prelude.{ℕ, List, [], ◌∷◌, ◌++◌, ◌==◌, map, flat_map, codes, decimal, if◌then◌else◌}
use Rattle.xdr_types.specs.Tree.{Tree}
use Rattle.xdr_show.specs.Line.{escaped}
use Rattle.registry_rows.specs.Rows.{Row}
use Rattle.registry_dumps.specs.Dumps.{mapping_of, linked}

-- a row of version 2 (RFC 1833 section 3.1)
pub record Mapping : Type 0 where
  pub prog : ℕ
  pub vers : ℕ
  pub prot : ℕ
  pub port : ℕ

-- the same as a value
abbrev pub mapping_tree : Mapping → Tree
mapping_tree m = mapping_of m.prog m.vers m.prot m.port

-- all of them in order, as a `pmaplist` (RFC 1833 section 3.1)
abbrev pub pmap_list : List Mapping → Tree
pmap_list ms = linked (map mapping_tree ms)

-- words on a line, a space between two of them
abbrev pub words : List (List ℕ) → List ℕ
words [] = codes "\n"
words (w ∷ []) = w ++ codes "\n"
words (w ∷ v ∷ vs) = w ++ 32 ∷ words (v ∷ vs)

-- the bytes of a text, each that is not plain escaped
abbrev pub escaped_text : List ℕ → List ℕ
escaped_text bs = flat_map escaped bs

-- the line of a row of versions 3 and 4
abbrev pub row_line : Row → List ℕ
row_line r =
    words (decimal r.prog ∷ decimal r.vers ∷ escaped_text r.netid ∷ escaped_text r.address ∷ escaped_text r.owner ∷ [])

-- the line of a row of version 2
abbrev pub mapping_line : Mapping → List ℕ
mapping_line m = words (decimal m.prog ∷ decimal m.vers ∷ decimal m.prot ∷ decimal m.port ∷ [])

-- the line above the rows
abbrev pub header : (vers : ℕ) → List ℕ
header vers = if vers == 2 then codes "program vers prot port\n" else codes "program vers netid address owner\n"
