use Rattle.capture_records.proofs.Reading.{comes_after, drops_keeps, first_after, side_came, side_took}
use Rattle.capture_records.proofs.Telling.{takes_all, takes_never, takes_past}
use Rattle.std.proofs.Common.{refl, ap, ◌∙◌, take}
use Rattle.capture_streams.specs.Taking.{taken_of, taken_part}
use Rattle.capture_records.proofs.side.Side.take.Goals as goal

pub returns-in_default-clause-told : goal.returns-in_default-clause-told
returns-in_default-clause-told c = λ none.
    takes_never c.args.self.now c.drop_taken.new.self _ c.in_ok-drop_taken.ensures c.args.sequence c.args.bytes.now
    c.in_default.is

pub returns-in-Ok-clause-comes : goal.returns-in-Ok-clause-comes
returns-in-Ok-clause-comes c =
    let mid = c.drop_taken.new.self in
    let drops = c.in_ok-drop_taken.ensures in
    comes_after c.args.self.now mid _ c.args.sequence c.args.bytes.now (drops_keeps c.args.self.now mid drops)
    (side_took mid _ c.in-Some.direction c.take.new.self c.args.sequence c.args.bytes.now c.take.result c.in-Some.is
    refl refl refl drops.at drops.at c.take.ensures.takes)

pub returns-in-Ok-clause-told : goal.returns-in-Ok-clause-told
returns-in-Ok-clause-told c = λ none.
    let drops = c.in_ok-drop_taken.ensures in
    takes_all c.args.self.now c.drop_taken.new.self _ drops c.args.sequence c.args.bytes.now c.in-Some.direction
    c.take.new.self c.in-Some.is refl refl refl refl refl refl drops.at c.take.ensures.same c.in-Ok.ensures.takes
    c.in-Ok.ensures.whole

pub returns-in-Err-PlacesEnd-clause-comes : goal.returns-in-Err-PlacesEnd-clause-comes
returns-in-Err-PlacesEnd-clause-comes c =
    let mid = c.drop_taken.new.self in
    let drops = c.in_ok-drop_taken.ensures in
    comes_after c.args.self.now mid _ c.args.sequence c.args.bytes.now (drops_keeps c.args.self.now mid drops)
    (side_took mid _ c.in-Some.direction c.take.new.self c.args.sequence c.args.bytes.now c.take.result c.in-Some.is
    refl refl refl drops.at drops.at c.take.ensures.takes)

pub returns-in-Err-PlacesEnd-clause-told : goal.returns-in-Err-PlacesEnd-clause-told
returns-in-Err-PlacesEnd-clause-told c = λ none.
    let refused = rw c.in-Err-PlacesEnd.field-0-is at c.in-Err-PlacesEnd.ensures.refused in
    takes_past c.args.self.now c.drop_taken.new.self _ c.in_ok-drop_taken.ensures c.args.sequence c.args.bytes.now
    c.in-Some.direction c.in-Some.is refused.0

pub returns-in-Err-Full-clause-comes : goal.returns-in-Err-Full-clause-comes
returns-in-Err-Full-clause-comes c =
    let mid = c.drop_taken.new.self in
    let drops = c.in_ok-drop_taken.ensures in
    comes_after c.args.self.now mid _ c.args.sequence c.args.bytes.now (drops_keeps c.args.self.now mid drops)
    (side_took mid _ c.in-Some.direction c.take.new.self c.args.sequence c.args.bytes.now c.take.result c.in-Some.is
    refl refl refl drops.at drops.at c.take.ensures.takes)

pub returns-in-Err-Full-clause-first : goal.returns-in-Err-Full-clause-first
returns-in-Err-Full-clause-first c =
    let mid = c.drop_taken.new.self in
    let drops = c.in_ok-drop_taken.ensures in
    let bytes = c.args.bytes.now in
    first_after c.args.self.now mid _ c.args.sequence bytes c.in-Err-Full.taken (drops_keeps c.args.self.now mid drops)
    (side_came mid _ c.in-Some.direction c.take.new.self c.args.sequence bytes c.in-Err-Full.taken c.take.result
    c.in-Some.is refl refl refl drops.at drops.at
    (ap (λ r. taken_part r bytes) c.in-Err-Full.is ∙ ap (λ r. take (taken_of r) bytes) c.in-Err-Full.field-0-is)
    c.take.ensures.takes)
