use Rattle.std.proofs.Common.{◌≡◌, Some, None, option_map, is_some, filter, ap, sym, ◌∙◌}
use Rattle.std.specs.Option.{option_or}
use Rattle.registry_rows.specs.Steps.{row_at}
use Rattle.registry_rows.specs.LookUp.{is_over, greatest}
use Rattle.registry_rows.specs.Views.{plain_row, plain_rows}
use Rattle.registry_rows.proofs.Greatest.{some_looked_up}
use Rattle.registry_rows.proofs.Keyed.{is_some-seen}
use Rattle.registry_rows.proofs.looking.look_up_beside.Goals as goal

pub returns-in-Some-clause-some : goal.returns-in-Some-clause-some
returns-in-Some-clause-some g c =
    let rows = plain_rows c.args.rows.now.entries in
    let own : Some (plain_row c.in-Some.row.now) ≡ row_at rows c.args.prog c.args.vers c.args.netid.now =
    sym (ap (option_map (λ r. plain_row r.now)) c.in-Some.is) ∙ c.find.ensures.value in
    ap (λ o. is_some (option_or o (greatest (filter (is_over c.args.prog c.args.netid.now) rows)))) own
    ∙ some_looked_up rows c.args.prog c.args.vers c.args.netid.now

pub returns-in-None-clause-some : goal.returns-in-None-clause-some
returns-in-None-clause-some g c =
    let rows = plain_rows c.args.rows.now.entries in
    let over = greatest (filter (is_over c.args.prog c.args.netid.now) rows) in
    let none : None ≡ row_at rows c.args.prog c.args.vers c.args.netid.now =
    sym (ap (option_map (λ r. plain_row r.now)) c.in-None.is) ∙ c.find.ensures.value in
    is_some-seen (λ r. plain_row r.now) c.find_greatest_beside.result ∙ ap is_some c.find_greatest_beside.ensures.value
    ∙ ap (λ o. is_some (option_or o over)) none
    ∙ some_looked_up rows c.args.prog c.args.vers c.args.netid.now
