use Rattle.capture_records.proofs.Reading.{side_begun}
use Rattle.capture_records.proofs.Telling.{told_all, told_begun, told_none}
use Rattle.std.proofs.Common.{refl, sym, ◌∙◌}
use Rattle.std.proofs.lemmas.Bool.{false≢true}
use Rattle.capture_records.proofs.side.Side.begin.Goals as goal

pub returns-then-not-is_begun_by-clause-told : goal.returns-then-not-is_begun_by-clause-told
returns-then-not-is_begun_by-clause-told c = λ fresh syn.
    absurd (false≢true (sym c.if-not-is_begun_by.true ∙ c.is_begun_by.ensures.begins fresh.none syn))

pub returns-then-not-is_begun_by-clause-begun : goal.returns-then-not-is_begun_by-clause-begun
returns-then-not-is_begun_by-clause-begun c = told_all _

pub returns-clause-keeps : goal.returns-clause-keeps
returns-clause-keeps c =
    side_begun c.args.self.now _ c.start.result (c.is_begun_by.ensures.none c.if-not-is_begun_by.false) refl
    c.start.ensures.stands refl refl

pub returns-clause-told : goal.returns-clause-told
returns-clause-told c = λ fresh syn.
    told_begun c.args.self.now _ c.start.result _ refl (c.start.ensures.first ∙ c.first_of-first.ensures.number)
    c.start.ensures.stands (c.first_place-self.ensures syn) refl refl refl refl refl fresh

pub returns-clause-begun : goal.returns-clause-begun
returns-clause-begun c = told_none c.args.self.now _ (c.is_begun_by.ensures.none c.if-not-is_begun_by.false)
