-- A constant and the file of RFC 4506 section 7, as a text declares them.
use Rattle.std.specs.Prelude.{ℕ, List, [], ◌∷◌, ◌++◌, pos, negsuc, codes}
use Rattle.xdr_types.specs.Named.{basic, named}
use Rattle.xdr_lang.specs.Declarations.{Declared, Constant}
use Rattle.example_values.specs.Rfc.{file_kinds}

-- TRUE and FALSE, and one constant more (RFC 4506 sections 4.4, 4.17)
abbrev pub constants : List Constant
constants =
    record { name = codes "TRUE"; value = pos 1 } ∷ record { name = codes "FALSE"; value = pos 0 }
    ∷ record { name = codes "LEAST"; value = negsuc 6 }
    ∷ []

-- the basic names, and one more (RFC 4506 section 6.3)
abbrev pub file_declared : Declared
file_declared = record {
  schema = record { kinds = file_kinds; names = basic.names ++ named (codes "file") 6 ∷ [] };
  constants = constants;
  programs = [];
}

-- the JSON that is printed of them (own)
abbrev pub file_json : List ℕ
file_json =
    codes "{\"constants\":[{\"name\":\"LEAST\",\"value\":-7}],"
    ++ codes "\"types\":[{\"name\":\"file\",\"kind\":\"struct\",\"least\":16,\"greatest\":66100}],\"programs\":[]}\n"
