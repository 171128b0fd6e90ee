use Rattle.std.proofs.Common.{rules, ℕ, ◌≡◌, IfNone, nat_eq}
use Rattle.std.specs.HashMap.{get}
use Rattle.registry_sessions.proofs.Calls.{closes, closes_none}
use Rattle.registry_sessions.proofs.table.SessionTable.close.Goals as goal

pub returns-clause-proceeds : goal.returns-clause-proceeds
returns-clause-proceeds c =
    closes c.args.self.now _ c.args.number c.remove.result c.remove.ensures.value c.remove.ensures.updates.0

pub returns-clause-stays : goal.returns-clause-stays
returns-clause-stays c =
    let same : IfNone c.remove.result
    ((j : ℕ) → get nat_eq c.remove.new.self j ≡ get nat_eq c.args.self.now.sessions j) = search rules in
    closes_none c.args.self.now _ c.remove.result same
