use Rattle.std.proofs.Common.{◌≡◌, ℕ, List, Some, true, codes, refl}
use Rattle.std.specs.Char.{encode_utf8}
use Rattle.std.specs.Str.{chars, is_utf8}
use Rattle.json.proofs.OnLiterals.{json_on_literals}
use Rattle.json.specs.Json as json
use Rattle.xdr_types.specs.View.{tree}
use Rattle.xdr_json.specs.Text.{json_text}
use Rattle.example_json.proofs.Told.{int_told, no_int, no_flag}
use Rattle.example_json.proofs.reading.refuses_a_flag.Goals as goal

abbrev text : List ℕ
text = codes " true"

text_utf8 : is_utf8 text ≡ true
unfolding is_utf8 chars encode_utf8
text_utf8 = refl

text_json : json_text text ≡ Some (json.boolean true)
unfolding json_on_literals
text_json = refl

pub returns-in-Ok-clause-refused : goal.returns-in-Ok-clause-refused
returns-in-Ok-clause-refused c =
    absurd (no_int c.args.schema.now.kinds c.args.limits c.args.text.now text (json.boolean true) c.requires.kinds
    c.requires.text text_utf8 text_json no_flag (tree c.in-Ok.value) c.in-Ok.ensures.value)

pub returns-in-Err-clause-why : goal.returns-in-Err-clause-why
returns-in-Err-clause-why c =
    int_told c.args.schema.now.kinds c.args.limits c.args.text.now text (json.boolean true) c.requires.kinds
    c.requires.text text_utf8 text_json no_flag c.in-Err.fault.why c.in-Err.ensures.why
