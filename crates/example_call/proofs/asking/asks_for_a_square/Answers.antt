use Rattle.std.proofs.lemmas.Result.{IfOk-weaker}
use Rattle.xdr_lang.specs.Views.{declared_of}
use Rattle.oncrpc_call.specs.Asking.{terms_of}
use Rattle.example_call.proofs.Squares.{asked_well, is_answered}
use Rattle.example_call.proofs.asking.asks_for_a_square.Goals as goal

pub returns-clause-asked : goal.returns-clause-asked
returns-clause-asked c =
    asked_well c.names_have_one_reading.ensures (declared_of c.args.declared) c.requires.declares
    c.args.arguments.items c.requires.seven c.requires.kinds c.args.terms.limits
    c.depth-in_range.ensures.range.least_depth c.depth-in_range.ensures.range.least_bytes (terms_of c.args.terms)
    c.ask.result c.ask.ensures.asked c.ask.ensures.refused

pub returns-clause-answered : goal.returns-clause-answered
returns-clause-answered c =
    IfOk-weaker c.ask.result _ _
    (is_answered c.names_have_one_reading.ensures (declared_of c.args.declared) c.requires.declares
    c.args.arguments.items c.requires.seven (terms_of c.args.terms)) c.ask.ensures.asked
