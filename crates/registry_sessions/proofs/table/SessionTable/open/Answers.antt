use Rattle.std.proofs.Common.{rules, refl, ℕ, ◌≡◌, nat_eq}
use Rattle.std.specs.HashMap.{get}
use Rattle.registry_sessions.proofs.Calls.{opens, starts, stays}
use Rattle.registry_sessions.proofs.table.SessionTable.open.Goals as goal

pub returns-in-Ok-clause-opened : goal.returns-in-Ok-clause-opened
returns-in-Ok-clause-opened c =
    starts c.args.self.now _ c.args.self.now.next c.start-session.result c.args.origin refl c.in-Ok.ensures.updates.0
    (refl, refl) c.start-session.ensures.origin c.start-session.ensures.reads c.start-session.ensures.replies

pub returns-in-Ok-clause-proceeds : goal.returns-in-Ok-clause-proceeds
returns-in-Ok-clause-proceeds c =
    opens c.args.self.now _ c.start-session.result c.args.origin c.in-Ok.ensures.updates.0
    c.start-session.ensures.origin c.start-session.ensures.reads
    c.start-session.ensures.replies

pub returns-clause-stays : goal.returns-clause-stays
returns-clause-stays c =
    let same : (j : ℕ) → get nat_eq c.insert.new.self j ≡ get nat_eq c.args.self.now.sessions j = search rules in
    stays c.args.self.now _ same
