use Rattle.std.proofs.Common.{◌≡◌, ◌≤◌, ◌+◌, ◌==◌, length, take}
use Rattle.std.specs.Prelude.{count_by}
use Rattle.xdr_json_reader.specs.Places.{last_line}
use Rattle.xdr_json_reader.proofs.reading_place.line_and_column.Given as goal

abbrev pub invariant-loop-i : goal.invariant-loop-i
invariant-loop-i l =
    (l.line ≡ 1 + count_by (λ b. b == 10) (take l.i l.text))
    × (l.column ≡ 1 + length (last_line (take l.i l.text)))
    × (l.line ≤ l.i + 1) × (l.column ≤ l.i + 1)
