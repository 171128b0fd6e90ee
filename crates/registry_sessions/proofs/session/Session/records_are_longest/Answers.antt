use Rattle.registry_sessions.proofs.Tables.{longest}
use Rattle.registry_sessions.proofs.session.Session.records_are_longest.Goals as goal

pub returns : goal.returns
returns c = λ bytes rs h. longest c.args.self.now bytes rs h
