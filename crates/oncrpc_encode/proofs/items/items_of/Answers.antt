-- What is found are the items, and the items of an array are found.
use Rattle.oncrpc_encode.proofs.Answering.{found_answered, none_answered, unopened}
use Rattle.oncrpc_encode.proofs.items.items_of.Goals as goal

pub returns-in-Some-clause-found : goal.returns-in-Some-clause-found
returns-in-Some-clause-found c =
    found_answered c.args.text.now c.args.count c.if-count-eq0.false c.in-Some.begin c.in-Some.ensures.found
    c.items_from.result c.items_from.ensures

pub returns-in-Some-clause-none : goal.returns-in-Some-clause-none
returns-in-Some-clause-none c =
    none_answered c.args.text.now c.args.count c.if-count-eq0.false c.in-Some.begin c.in-Some.ensures.found
    c.items_from.result c.items_from.ensures

pub returns-in-None-clause-none : goal.returns-in-None-clause-none
returns-in-None-clause-none c =
    unopened c.args.text.now c.args.count c.if-count-eq0.false c.in-None.ensures.found
