-- The kind that a `Kind` represents, and the lists of a schema.
use Rattle.std.specs.Prelude.{ℤ, List, map, option_map, String, string_bytes}
use Rattle.std.specs.declared.alloc.Global.{Global}
use Rattle.xdr_types.specs.Kinds as xdr
use Rattle.xdr_types.specs.Kinds.{KindView, Part, Branch, Constant, Lists}
use Rattle.xdr_types.specs.declared.kind.Kind.{Kind}
use Rattle.xdr_types.specs.declared.kind.Kind.TheVariants as kinds
use Rattle.xdr_types.specs.declared.kind.Member.{Member}
use Rattle.xdr_types.specs.declared.kind.Arm.{Arm}
use Rattle.xdr_types.specs.declared.kind.KindId.{KindId}

-- a member of an enumeration: its name and its number
abbrev pub constant_of : String Global × ℤ → Constant
constant_of member = record { name = string_bytes member.0; number = member.1 }

-- a field or a part: its name and the place of its kind
abbrev pub part_of_member : Member → Part
part_of_member member = record { name = string_bytes member.name; kind = member.kind.place }

-- an arm: its cases and its part
abbrev pub branch_of : Arm → Branch
branch_of arm = record { cases = arm.cases.items; part = part_of_member arm.member }

-- a name of the schema: the name and the place that it names
abbrev pub name_of : String Global × KindId → Part
name_of entry = record { name = string_bytes entry.0; kind = entry.1.place }

-- a kind, case by case
abbrev pub kind_view : Kind → KindView
kind_view kinds.Int = xdr.int
kind_view kinds.Unsigned = xdr.unsigned
kind_view kinds.Hyper = xdr.hyper
kind_view kinds.UnsignedHyper = xdr.unsigned_hyper
kind_view kinds.Bool = xdr.boolean
kind_view (kinds.Numbered members) = xdr.numbered (map constant_of members.items)
kind_view (kinds.Opaque size) = xdr.opaque size
kind_view (kinds.OpaqueUpTo max) = xdr.opaque_up_to max
kind_view (kinds.Text max) = xdr.text max
kind_view (kinds.Fixed item size) = xdr.fixed item.place size
kind_view (kinds.UpTo item max) = xdr.up_to item.place max
kind_view (kinds.Structure fields) = xdr.structure (map part_of_member fields.items)
kind_view (kinds.Choice tag arms other) =
    xdr.choice tag.place (map branch_of arms.items) (option_map part_of_member other)
kind_view (kinds.Maybe item) = xdr.maybe item.place
kind_view kinds.Nothing = xdr.nothing

-- the lists that a schema was made of
abbrev pub lists_of : List Kind → List (String Global × KindId) → Lists
lists_of ks names = record { kinds = map kind_view ks; names = map name_of names }
