use Rattle.std.proofs.Common.{is_some, refl, sym, ap}
use Rattle.xdr_grammar.specs.View.{field_of}
use Rattle.xdr_lang.proofs.Tables.{new_part, earlier_part, has_no_other}
use Rattle.xdr_lang.proofs.type_table.keep_part.Goals as goal

pub returns-in-Some-clause-retained : goal.returns-in-Some-clause-retained
returns-in-Some-clause-retained c = λ ts has.
    let old = rw c.in-Some.is at c.in_ok-earlier.ensures.old in
    earlier_part c.args.parts.now c.insert.new.self c.insert-in-Some.new.self ts
    (field_of c.args.field.now) c.args.field.now.name.text _ _ has refl c.in_ok-earlier.ensures.updates
    c.in_ok-insert.ensures.updates (sym old)

pub returns-clause-retained : goal.returns-clause-retained
returns-clause-retained c = λ ts has.
    let old = rw c.in_default.is at c.in_ok-earlier.ensures.old in
    new_part c.args.parts.now c.insert.new.self ts
    (field_of c.args.field.now) c.args.field.now.name.text c.args.field.now.part has refl refl
    (ap is_some (sym old)) c.in_ok-earlier.ensures.updates

pub returns-clause-alone : goal.returns-clause-alone
returns-clause-alone c = λ ts has yes.
    let old = rw c.in_default.is at c.in_ok-earlier.ensures.old in
    has_no_other c.args.parts.now ts c.args.field.now.name.text.now has (ap is_some (sym old))
