use Rattle.xdr_lang.proofs.Tables.{new_place, same_places}
use Rattle.xdr_lang.proofs.type_table.keep_place.Goals as goal

pub returns : goal.returns
returns c = λ types has is. new_place c.args.places.now c.insert.new.self types c.args.name
    (c.args.found.0, c.args.found.1) has is c.in_ok-insert.ensures.updates

pub returns-in_err-insert : goal.returns-in_err-insert
returns-in_err-insert c =
    λ types has is. same_places c.args.places.now c.insert.new.self types has c.in_err-insert.ensures.err
