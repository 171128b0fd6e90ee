use Rattle.std.proofs.Common.{ℕ, Some, refl, sym, ap}
use Rattle.xdr_grammar.specs.Outline as out
use Rattle.xdr_lang.specs.Views.{types_of}
use Rattle.xdr_lang.proofs.Tables.{placed_at_once, placed_further}
use Rattle.xdr_lang.proofs.type_table.TypeTable.one_step.Goals as goal

pub returns-in-Some-Basic : goal.returns-in-Some-Basic
returns-in-Some-Basic c = placed_at_once c.args.self.now.parts
    (types_of c.args.self.now.list.items) c.args.name.now c.in-Some-Basic.field-0.now
    (out.IsBasic c.in-Some-Basic.basic) c.basic_place.result c.args.self.now.has_parts
    (sym c.in-Some-Basic.ensures.value) (rw c.in-Some-Basic.field-0-is refl)
    (λ f. ap (λ (x : ℕ). Some x) (sym c.basic_place.ensures))

pub returns-in-Some-Text : goal.returns-in-Some-Text
returns-in-Some-Text c = placed_at_once c.args.self.now.parts
    (types_of c.args.self.now.list.items) c.args.name.now c.in-Some-Text.field-0.now out.IsText 7
    c.args.self.now.has_parts (sym c.in-Some-Text.ensures.value) (rw c.in-Some-Text.field-0-is refl) (λ f. refl)

pub returns-in-Some-Void : goal.returns-in-Some-Void
returns-in-Some-Void c = placed_at_once c.args.self.now.parts
    (types_of c.args.self.now.list.items) c.args.name.now c.in-Some-Void.field-0.now out.IsVoid 5
    c.args.self.now.has_parts (sym c.in-Some-Void.ensures.value) (rw c.in-Some-Void.field-0-is refl) (λ f. refl)

pub returns-in-Ok : goal.returns-in-Ok
returns-in-Ok c = placed_at_once c.args.self.now.parts
    (types_of c.args.self.now.list.items) c.args.name.now c.in-Some-Made.field-0.now
    (out.IsMade c.in-Some-Made.made) c.in-Ok.place c.args.self.now.has_parts (sym c.in-Some-Made.ensures.value)
    (rw c.in-Some-Made.field-0-is refl) (λ f. c.in-Ok.ensures)

pub returns-in-Ok-own_place : goal.returns-in-Ok-own_place
returns-in-Ok-own_place c = placed_at_once c.args.self.now.parts (types_of c.args.self.now.list.items) c.args.name.now
    c.in-Some-StructMade.field-0.now (out.IsStructMade c.in-Some-StructMade.made) c.in-Ok-own_place.place
    c.args.self.now.has_parts (sym c.in-Some-StructMade.ensures.value) (rw c.in-Some-StructMade.field-0-is refl)
    (λ f. c.in-Ok-own_place.ensures)

pub returns-in-Ok-struct_place : goal.returns-in-Ok-struct_place
returns-in-Ok-struct_place c = placed_at_once c.args.self.now.parts (types_of c.args.self.now.list.items)
    c.args.name.now c.in-Some-Struct.field-0.now (out.IsStruct c.in-Some-Struct.named.text.now)
    c.in-Ok-struct_place.place c.args.self.now.has_parts (sym c.in-Some-Struct.ensures.value)
    (rw c.in-Some-Struct.field-0-is refl) (λ f. c.in-Ok-struct_place.ensures)

pub returns-in-Some : goal.returns-in-Some
returns-in-Some c = placed_further c.args.self.now.parts c.args.self.now.places
    (types_of c.args.self.now.list.items) c.args.name.now c.in-Some-Named.field-0.now c.in-Some-Named.next.text.now
    c.in-Some.field-0.now.0 c.in-Some.field-0.now.1 c.args.self.now.has_parts c.args.self.now.has_places
    (sym c.in-Some-Named.ensures.value) (rw c.in-Some-Named.field-0-is refl) (sym c.in-Some.ensures.value)
