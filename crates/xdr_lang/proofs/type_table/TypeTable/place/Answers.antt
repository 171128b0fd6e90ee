use Rattle.std.proofs.Common.{◌≡◌, ◌≤◌, length, sym, arith}
use Rattle.std.proofs.lemmas.List.{length-map}
use Rattle.xdr_grammar.specs.View.{field_of}
use Rattle.xdr_lang.specs.Views.{types_of}
use Rattle.xdr_lang.specs.Private.Tables.{IsPlacedAt}
use Rattle.xdr_lang.proofs.type_table.TypeTable.place.Goals as goal

pub returns-in-Some : goal.returns-in-Some
returns-in-Some c =
    let all : length (types_of c.args.self.now.list.items) ≡ length c.args.self.now.list.items =
    length-map c.args.self.now.list.items field_of in
    let few : c.in-Some.field-0.now.1 ≤ length (types_of c.args.self.now.list.items) = omega
    (arith, all, c.if-steps-len.true, c.len.ensures) in
    let right : IsPlacedAt
    (types_of c.args.self.now.list.items) c.args.name.now c.in-Some.field-0.now.0 c.in-Some.field-0.now.1 =
    c.args.self.now.has_places.right c.args.name.now c.in-Some.field-0.now.0 c.in-Some.field-0.now.1
    (sym c.in-Some.ensures.value) in
    right.reached (length (types_of c.args.self.now.list.items)) few
