use Rattle.std.proofs.Common.{rules}
use Rattle.std.specs.Char.{encode_utf8}
use Rattle.std.specs.Str.{chars, is_utf8}
use Rattle.json.specs.Print.{print_from, escape_byte}
use Rattle.example_json.proofs.writing.writes_a_string.Goals as goal

pub returns : goal.returns
unfolding chars encode_utf8 is_utf8 print_from escape_byte
returns c = search rules
