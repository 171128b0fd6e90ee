use Rattle.xdr_lang.specs.Views.{declared_of}
use Rattle.oncrpc_call.specs.Asking.{terms_of}
use Rattle.example_call.proofs.Squares.{named_well}
use Rattle.example_call.proofs.asking.tells_the_name_first.Goals as goal

pub returns : goal.returns
returns c =
    named_well c.names_have_one_reading.ensures (declared_of c.args.declared) c.requires.declares
    c.args.arguments.items (terms_of c.args.terms) c.requires.short c.ask.result c.ask.ensures.asked
    c.ask.ensures.refused
