-- The first row of a registry at port 111, as C sees it (RFC 1833 section 3).
use Rattle.c_registry.specs.declared.row.RowParts.{RowParts}

-- version 2 of program 100000 over `tcp`, at `0.0.0.0.0.111`, of `superuser`
abbrev pub first_own_row : RowParts
first_own_row = record {
  program = 100000;
  version = 2;
  netid = record { at = 0; count = 3 };
  address = record { at = 3; count = 13 };
  owner = record { at = 16; count = 9 };
}
