use Rattle.std.proofs.Common.{◌≡◌, ◌+◌, option_map, filter, map, MatchOption}
use Rattle.registry_rows.specs.LookUp.{is_over}
use Rattle.registry_rows.specs.Views.{plain_row}
use Rattle.registry_rows.proofs.Greatest.{IsGreatest}
use Rattle.registry_rows.proofs.looking.find_greatest.Given as goal

-- the greatest of the rows so far
abbrev pub invariant-loop-row : goal.invariant-loop-row
invariant-loop-row g l =
    IsGreatest (filter (is_over l.prog l.netid) (map (λ r. plain_row r.now) l.yielded))
    (option_map (λ r. plain_row r.now) l.greatest)
    × MatchOption l.greatest (l.above ≡ 0) (λ r. l.above ≡ r.now.vers + 1)
