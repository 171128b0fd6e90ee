use Rattle.std.proofs.Common.{◌≡◌, ℕ, List, [], ◌∷◌, Some, codes, true, refl, rules}
use Rattle.std.specs.Char.{encode_utf8}
use Rattle.std.specs.Str.{chars, is_utf8}
use Rattle.json.proofs.OnLiterals.{json_on_literals}
use Rattle.json.specs.Json as json
use Rattle.json.specs.Json.{Json, no_items, item}
use Rattle.xdr_types.specs.Kinds as xdr
use Rattle.xdr_types.specs.Kinds.{KindView}
use Rattle.xdr_types.specs.Tree as value
use Rattle.xdr_types.specs.Tree.{Tree, from_list}
use Rattle.xdr_types.specs.Within.{FitsWithin}
use Rattle.xdr_json.specs.Text.{json_text}
use Rattle.example_json.proofs.Read.{read_as, spelled}
use Rattle.example_json.proofs.reading.reads_an_optional_of_an_optional.Goals as goal

abbrev kinds : List KindView
kinds = xdr.int ∷ xdr.maybe 0 ∷ xdr.maybe 1 ∷ []

abbrev text : List ℕ
text = codes "[null]"

abbrev said : Json
said = json.array (item json.null no_items)

abbrev meant : Tree
meant = (value.present, from_list ((value.absent, value.none) ∷ []))

text_utf8 : is_utf8 text ≡ true
unfolding is_utf8 chars encode_utf8
text_utf8 = refl

text_said : json_text text ≡ Some said
unfolding json_on_literals
text_said = refl

pub returns : goal.returns
returns c =
    let within : FitsWithin kinds 2 c.args.limits meant = search rules in
    let spelling = spelled c.args.schema.now.kinds kinds 2 c.args.limits c.args.text.now text said meant
    c.requires.kinds c.requires.text text_utf8 text_said refl within in
    read_as c.args.schema.now.kinds 2 c.args.limits c.args.text.now meant c.read_json.result spelling
    c.read_json.ensures.only c.read_json.ensures.refused
