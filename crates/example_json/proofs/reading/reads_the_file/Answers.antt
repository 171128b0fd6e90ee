use Rattle.std.proofs.Common.{◌≡◌, Some, true, refl, rules}
use Rattle.std.specs.Char.{encode_utf8}
use Rattle.std.specs.Str.{chars, is_utf8}
use Rattle.hex.specs.Hex.{encode_with, decode_pairs}
use Rattle.json.proofs.OnLiterals.{json_on_literals}
use Rattle.xdr_types.specs.Within.{FitsWithin}
use Rattle.xdr_json.specs.Mapping.{json_of}
use Rattle.xdr_json.specs.Spelled.{spells}
use Rattle.xdr_json.specs.Text.{json_text}
use Rattle.example_json.specs.Files.{file_kinds, sillyprog, sillyprog_text}
use Rattle.example_json.proofs.Read.{read_as, spelled}
use Rattle.example_json.proofs.reading.reads_the_file.Goals as goal

file_utf8 : is_utf8 sillyprog_text ≡ true
unfolding is_utf8 chars encode_utf8
file_utf8 = refl

file_json : json_text sillyprog_text ≡ Some (json_of file_kinds 5 sillyprog)
unfolding json_on_literals is_utf8 chars encode_utf8 encode_with
file_json = refl

file_spelled : spells file_kinds 5 (json_of file_kinds 5 sillyprog) sillyprog ≡ true
unfolding is_utf8 chars encode_utf8 encode_with decode_pairs
file_spelled = refl

pub returns : goal.returns
returns c =
    let within : FitsWithin file_kinds 5 c.args.limits sillyprog = search rules in
    read_as c.args.schema.now.kinds 5 c.args.limits c.args.text.now sillyprog c.read_json.result
    (spelled c.args.schema.now.kinds file_kinds 5 c.args.limits c.args.text.now sillyprog_text
    (json_of file_kinds 5 sillyprog) sillyprog c.requires.kinds c.requires.text file_utf8 file_json file_spelled
    within) c.read_json.ensures.only c.read_json.ensures.refused
