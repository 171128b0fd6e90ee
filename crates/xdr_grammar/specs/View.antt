-- What the parser makes, without where it lies in memory and in the text.
use Rattle.std.specs.Prelude.{ℕ, List, map, option_map}
use Rattle.xdr_grammar.specs.declared.outline.Late.{Late}
use Rattle.xdr_grammar.specs.declared.outline.Late.TheVariants as late
use Rattle.xdr_grammar.specs.declared.outline.Part.{Part}
use Rattle.xdr_grammar.specs.declared.outline.Part.TheVariants as part
use Rattle.xdr_grammar.specs.declared.outline.Field.{Field}
use Rattle.xdr_grammar.specs.declared.outline.Member.{Member}
use Rattle.xdr_grammar.specs.declared.outline.Entry.{Entry}
use Rattle.xdr_grammar.specs.declared.outline.Arm.{Arm}
use Rattle.xdr_grammar.specs.declared.outline.Draft.{Draft}
use Rattle.xdr_grammar.specs.declared.outline.Shape.{Shape}
use Rattle.xdr_grammar.specs.declared.outline.Shape.TheVariants as shape
use Rattle.xdr_grammar.specs.declared.outline.Procedure.{Procedure}
use Rattle.xdr_grammar.specs.declared.outline.Version.{Version}
use Rattle.xdr_grammar.specs.declared.outline.Program.{Program}
use Rattle.xdr_grammar.specs.declared.outline.Outline.{Outline}
use Rattle.xdr_grammar.specs.Outline as out

abbrev pub late_of : Late → out.Late
late_of (late.Given n) = out.Given n.value
late_of (late.Earlier n before) = out.Earlier n.text.now before

abbrev pub part_of : Part → out.Part
part_of (part.Basic b) = out.IsBasic b
part_of (part.Named n) = out.IsNamed n.text.now
part_of (part.Struct n) = out.IsStruct n.text.now
part_of (part.Made n) = out.IsMade n
part_of (part.StructMade n) = out.IsStructMade n
part_of part.Text = out.IsText
part_of part.Void = out.IsVoid

abbrev pub field_of : Field → out.Field
field_of f = record { name = f.name.text.now; part = part_of f.part }

abbrev pub member_of : Member → List ℕ × out.Late
member_of m = (m.name.text.now, late_of m.value)

abbrev pub entry_of : Entry → out.Entry
entry_of e = record { name = e.name.text.now; value = late_of e.value; by_const = e.by_const }

abbrev pub arm_of : Arm → out.Arm
arm_of a = record { cases = map late_of a.cases.items; member = field_of a.member }

abbrev pub shape_of : Shape → out.Draft
shape_of (shape.Numbered ms) = out.DNumbered (map member_of ms.items)
shape_of (shape.Opaque v) = out.DOpaque (late_of v)
shape_of (shape.OpaqueUpTo v) = out.DOpaqueUpTo (option_map late_of v)
shape_of (shape.Text v) = out.DText (option_map late_of v)
shape_of (shape.Fixed p v) = out.DFixed (part_of p) (late_of v)
shape_of (shape.UpTo p v) = out.DUpTo (part_of p) (option_map late_of v)
shape_of (shape.Structure fs) = out.DStructure (map field_of fs.items)
shape_of (shape.Choice t cs d) = out.DChoice (part_of t) (map arm_of cs.items) (option_map field_of d)
shape_of (shape.Maybe p) = out.DMaybe (part_of p)

abbrev pub draft_of : Draft → out.Draft
draft_of d = shape_of d.shape

abbrev pub procedure_of : Procedure → out.Procedure
procedure_of p = record {
  name = p.name.text.now;
  number = p.number.value;
  arguments = map part_of p.arguments.items;
  result = option_map part_of p.result;
}

abbrev pub version_of : Version → out.Version
version_of v = record {
  name = v.name.text.now;
  number = v.number.value;
  procedures = map procedure_of v.procedures.items;
}

abbrev pub program_of : Program → out.Program
program_of p = record { name = p.name.text.now; number = p.number.value; versions = map version_of p.versions.items }

abbrev pub outline_of : Outline → out.Outline
outline_of o = record {
  constants = map entry_of o.constants.items;
  drafts = map draft_of o.drafts.items;
  types = map field_of o.types.items;
  programs = map program_of o.programs.items;
}
