-- When two values are the same tree: the test that `==` makes.
use Rattle.std.specs.Prelude.{Bool, true, false, ◌&&◌, ◌==◌}
use Rattle.std.specs.Ordering.{int_eq}
use Rattle.std.specs.Str.{bytes_eq}
use Rattle.xdr_types.specs.Tree.{Head, int, unsigned, hyper, unsigned_hyper, boolean, numbered, bytes, items, fields}
use Rattle.xdr_types.specs.Tree.{tag, present, absent, nothing, Values, none, node, Tree}

-- both true or both false
abbrev pub same_flag : Bool → Bool → Bool
same_flag true b = b
same_flag false true = false
same_flag false false = true

-- heads are the same where they show the same
abbrev pub same_head : Head → Head → Bool
same_head (int m) (int n) = int_eq m n
same_head (unsigned m) (unsigned n) = m == n
same_head (hyper m) (hyper n) = int_eq m n
same_head (unsigned_hyper m) (unsigned_hyper n) = m == n
same_head (boolean a) (boolean b) = same_flag a b
same_head (numbered m) (numbered n) = int_eq m n
same_head (bytes bs) (bytes cs) = bytes_eq bs cs
same_head (items m) (items n) = m == n
same_head fields fields = true
same_head (tag m) (tag n) = int_eq m n
same_head present present = true
same_head absent absent = true
same_head nothing nothing = true
same_head _ _ = false

-- values one after another are the same where each is
abbrev pub same_values : Values → Values → Bool
same_values none none = true
same_values (node h ps rest) (node i qs more) = (same_head h i && same_values ps qs) && same_values rest more
same_values _ _ = false

-- trees are the same where their heads and their parts are
abbrev pub same : Tree → Tree → Bool
same t u = same_head t.0 u.0 && same_values t.1 u.1
