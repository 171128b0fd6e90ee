-- When two kinds, members or schemas are the same: the tests that `==` makes.
use Rattle.std.specs.Prelude.{Bool, true, false, ◌&&◌, ◌==◌, Option, Some, None}
use Rattle.std.specs.Ordering.{int_eq}
use Rattle.std.specs.Str.{bytes_eq}
use Rattle.std.specs.Cmp.Lexicographic.{pointwise}
use Rattle.xdr_types.specs.Kinds as xdr
use Rattle.xdr_types.specs.Kinds.{KindView, Part, Branch, Constant, Lists}

-- one name and one kind (RFC 4506 section 4.14)
abbrev pub same_part : Part → Part → Bool
same_part p q = bytes_eq p.name q.name && p.kind == q.kind

-- one name and one number (RFC 4506 section 4.3)
abbrev pub same_constant : Constant → Constant → Bool
same_constant c d = bytes_eq c.name d.name && int_eq c.number d.number

-- the same cases in the same order, and one part (RFC 4506 section 4.15)
abbrev pub same_branch : Branch → Branch → Bool
same_branch a b = pointwise int_eq a.cases b.cases && same_part a.part b.part

-- no default part on either side, or the same one (RFC 4506 section 4.15)
abbrev pub same_other : Option Part → Option Part → Bool
same_other None None = true
same_other (Some p) (Some q) = same_part p q
same_other _ _ = false

-- kinds are the same where all that they are made of is
abbrev pub same_kind : KindView → KindView → Bool
same_kind xdr.int xdr.int = true
same_kind xdr.unsigned xdr.unsigned = true
same_kind xdr.hyper xdr.hyper = true
same_kind xdr.unsigned_hyper xdr.unsigned_hyper = true
same_kind xdr.boolean xdr.boolean = true
same_kind (xdr.numbered cs) (xdr.numbered ds) = pointwise same_constant cs ds
same_kind (xdr.opaque m) (xdr.opaque n) = m == n
same_kind (xdr.opaque_up_to m) (xdr.opaque_up_to n) = m == n
same_kind (xdr.text m) (xdr.text n) = m == n
same_kind (xdr.fixed i m) (xdr.fixed j n) = i == j && m == n
same_kind (xdr.up_to i m) (xdr.up_to j n) = i == j && m == n
same_kind (xdr.structure ps) (xdr.structure qs) = pointwise same_part ps qs
same_kind (xdr.choice t as' o) (xdr.choice u bs p) = (t == u && pointwise same_branch as' bs) && same_other o p
same_kind (xdr.maybe i) (xdr.maybe j) = i == j
same_kind xdr.nothing xdr.nothing = true
same_kind xdr.unknown xdr.unknown = true
same_kind _ _ = false

-- schemas are the same where their kinds and their names are
abbrev pub same_lists : Lists → Lists → Bool
same_lists s t = pointwise same_kind s.kinds t.kinds && pointwise same_part s.names t.names
