-- The plain rows that a directory stands for.
use Rattle.std.specs.Prelude.{◌≡◌, List, ◌≤◌, length, map}
use Rattle.std.specs.List.{AllByRecursion}
use Rattle.registry_rows.specs.declared.key.Key.{Key}
use Rattle.registry_rows.specs.declared.row.Row.{Row}
use Rattle.registry_rows.specs.Rows as plain
use Rattle.registry_rows.specs.Keys.{key_of}

abbrev pub plain_row : Row → plain.Row
plain_row r = record {
  prog = r.prog;
  vers = r.vers;
  netid = r.netid.items;
  address = r.address.items;
  owner =
      r.owner.items;
}

abbrev pub plain_rows : List (Key × Row) → List plain.Row
plain_rows es = map (λ e. plain_row e.1) es

-- The key of an entry is that of its row.
pub record IsKeyed (e : Key × Row) : Type 0 where
  pub key : e.0 ≡ key_of e.1.prog e.1.vers e.1.netid.items
  pub row : plain.IsRow (plain_row e.1)

abbrev pub AreKeyed : List (Key × Row) → Type 0
AreKeyed es = AllByRecursion IsKeyed es

-- what the entries keep to
pub record AreEntries (es : List (Key × Row)) : Type 0 where
  pub keyed : AreKeyed es
  pub none_twice : plain.NoneTwice (plain_rows es)
  pub few : length es ≤ 1024
