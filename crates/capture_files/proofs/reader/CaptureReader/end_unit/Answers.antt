use Rattle.std.proofs.Common.{◌<◌, length, rules, arith}
use Rattle.capture_files.proofs.Ended.{capture_is, cut_is, refuses_cut}
use Rattle.capture_files.proofs.reader.CaptureReader.end_unit.Goals as goal

pub returns-then-is_between-clause-ends : goal.returns-then-is_between-clause-ends
returns-then-is_between-clause-ends c = λ bytes ps h.
    capture_is c.args.self.now bytes ps c.requires (c.is_between.ensures.between (search rules)) h

pub returns-clause-ends : goal.returns-clause-ends
returns-clause-ends c =
    let self = c.args.self.now in
    let short : length self.unit.items < self.need = first_of (search rules, omega (arith, self.unit.ok.0)) in (
      c.refuse.ensures.broken,
      λ bytes ps h. cut_is self c.refuse.new.self c.refuse.result bytes ps c.requires
          (c.is_between.ensures.inside (search rules)) short c.refuse.ensures.broken c.refuse.ensures.reason
          c.refuse.ensures.at h,
    )

pub returns-clause-refused : goal.returns-clause-refused
returns-clause-refused c =
    let self = c.args.self.now in
    let short : length self.unit.items < self.need = first_of (search rules, omega (arith, self.unit.ok.0)) in
    refuses_cut self c.refuse.new.self c.refuse.result c.requires (c.is_between.ensures.inside (search rules)) short
    c.refuse.ensures.reason c.refuse.ensures.at
