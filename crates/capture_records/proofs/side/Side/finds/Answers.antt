use Rattle.capture_records.proofs.Telling.{told_all, told_lost}
use Rattle.std.proofs.Common.{subst}
use Rattle.capture_records.specs.Exact.{IsSynced}
use Rattle.capture_records.proofs.side.Side.finds.Goals as goal

pub returns-in-Here-clause-told : goal.returns-in-Here-clause-told
returns-in-Here-clause-told c = λ known. told_all c.args.self.now

pub returns-in-Lost-clause-told : goal.returns-in-Lost-clause-told
returns-in-Lost-clause-told c = λ known. told_lost c.args.self.now _ (λ s. subst IsSynced c.in-Lost.is s)

pub returns-in-Lost-clause-synced : goal.returns-in-Lost-clause-synced
returns-in-Lost-clause-synced c = λ known s. absurd (subst IsSynced c.in-Lost.is s)

pub returns-in-Refused-clause-told : goal.returns-in-Refused-clause-told
returns-in-Refused-clause-told c = λ known. told_lost c.args.self.now _ (λ s. subst IsSynced c.in-Refused.is s)

pub returns-in-Refused-clause-synced : goal.returns-in-Refused-clause-synced
returns-in-Refused-clause-synced c = λ known s. absurd (subst IsSynced c.in-Refused.is s)
