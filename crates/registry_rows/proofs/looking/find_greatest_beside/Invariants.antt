use Rattle.std.proofs.Common.{option_map, filter, take, length, ◌-◌}
use Rattle.registry_rows.specs.LookUp.{is_over}
use Rattle.registry_rows.specs.Views.{plain_row, plain_rows}
use Rattle.registry_rows.proofs.Greatest.{IsGreatest}
use Rattle.registry_rows.proofs.looking.find_greatest_beside.Given as goal

-- the greatest of the rows before the place
abbrev pub invariant-loop-key : goal.invariant-loop-key
invariant-loop-key g l =
    IsGreatest (filter (is_over l.prog l.netid) (take l.at (plain_rows l.rows.entries)))
    (option_map (λ r. plain_row r.now) l.greatest)

abbrev pub decreases-loop-key : goal.decreases-loop-key
decreases-loop-key g l = length l.rows.entries - l.at
