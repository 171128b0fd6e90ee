use Rattle.std.proofs.Common.{rules}
use Rattle.json.specs.Print.{print_from, escape_byte}
use Rattle.example_json.proofs.writing.writes_a_member.Goals as goal

pub returns : goal.returns
unfolding print_from escape_byte
returns c = search rules
