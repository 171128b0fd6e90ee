use Rattle.std.proofs.Common.{◌≡◌, ◌⊎◌, ℕ, List, Some, true, codes, refl}
use Rattle.std.specs.Char.{encode_utf8}
use Rattle.std.specs.Str.{chars, is_utf8}
use Rattle.json.proofs.OnLiterals.{json_on_literals}
use Rattle.json.specs.Json as json
use Rattle.json.specs.Json.{Json}
use Rattle.xdr_types.specs.Tree.{Tree}
use Rattle.xdr_json.specs.Text.{IsSpelling, json_text}
use Rattle.xdr_json_reader.specs.Reasons.{Tells}
use Rattle.xdr_json_reader.specs.declared.fault.JsonReason.{JsonReason}
use Rattle.xdr_json_reader.specs.declared.fault.JsonReason.TheVariants.{NoMemory, NotWhole}
use Rattle.example_json.proofs.Told.{int_told, no_int, no_fraction, is_refused, why_of}
use Rattle.example_json.proofs.reading.refuses_a_fraction.Goals as goal

abbrev text : List ℕ
text = codes "1.5"

abbrev said : Json
said = json.number text

text_utf8 : is_utf8 text ≡ true
unfolding is_utf8 chars encode_utf8
text_utf8 = refl

text_said : json_text text ≡ Some said
unfolding json_on_literals
text_said = refl

pub returns-clause-refused : goal.returns-clause-refused
returns-clause-refused c =
    let kinds = c.args.schema.now.kinds in
    is_refused (λ (t : Tree). IsSpelling kinds 0 c.args.limits c.args.text.now t) c.read_json.result
    (no_int kinds c.args.limits c.args.text.now text said c.requires.kinds c.requires.text text_utf8 text_said
    no_fraction) c.read_json.ensures.value

pub returns-clause-why : goal.returns-clause-why
returns-clause-why c =
    let kinds = c.args.schema.now.kinds in
    why_of (λ (w : JsonReason). Tells kinds 0 c.args.limits c.args.text.now w)
    (λ (w : JsonReason). (w ≡ NotWhole) ⊎ (w ≡ NoMemory)) c.read_json.result
    (int_told kinds c.args.limits c.args.text.now text said c.requires.kinds c.requires.text text_utf8 text_said
    no_fraction) c.read_json.ensures.why
