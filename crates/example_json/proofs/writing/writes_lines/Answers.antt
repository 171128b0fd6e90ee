use Rattle.std.proofs.Common.{rules}
use Rattle.std.specs.Char.{encode_utf8}
use Rattle.std.specs.Str.{chars, is_utf8}
use Rattle.hex.specs.Hex.{encode_with}
use Rattle.json.specs.Print.{escape_byte}
use Rattle.json.specs.Layout.{pretty_from}
use Rattle.example_json.proofs.writing.writes_lines.Goals as goal

pub returns : goal.returns
unfolding chars encode_utf8 is_utf8 encode_with pretty_from escape_byte
returns c = search rules
