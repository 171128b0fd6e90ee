use Rattle.std.proofs.Common.{◌≡◌, refl, rules}
use Rattle.std.specs.Char.{encode_utf8}
use Rattle.std.specs.Str.{chars, is_utf8}
use Rattle.hex.specs.Hex.{encode_with}
use Rattle.json.specs.Print.{print, print_from, escape_byte}
use Rattle.json.specs.Tree.{json_tokens}
use Rattle.xdr_json.specs.Mapping.{json_of}
use Rattle.example_json.specs.Files.{file_kinds, sillyprog, sillyprog_text}
use Rattle.example_json.proofs.writing.writes_the_file.Goals as goal

file_text : print (json_tokens (json_of file_kinds 5 sillyprog)) ≡ sillyprog_text
unfolding chars encode_utf8 is_utf8 encode_with print_from escape_byte
file_text = refl

pub returns : goal.returns
returns c = search (rules, file_text)
