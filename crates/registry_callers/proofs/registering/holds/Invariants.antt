use Rattle.std.proofs.Common.{◌≡◌, take, false}
use Rattle.std.specs.List.{list_any}
use Rattle.registry_rows.specs.Views.{plain_row}
use Rattle.registry_callers.specs.From.{is_same}
use Rattle.registry_callers.proofs.registering.holds.Given as goal

abbrev pub invariant-loop-index : goal.invariant-loop-index
invariant-loop-index g l = list_any (is_same (plain_row l.row)) (take l.index l.directory) ≡ false
