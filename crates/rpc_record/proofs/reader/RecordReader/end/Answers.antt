use Rattle.std.proofs.Common.{refl, inr, rules}
use Rattle.rpc_record.proofs.Places.{IsInsideAt}
use Rattle.rpc_record.specs.Represents.{IsTaking}
use Rattle.rpc_record.proofs.Places.{IsInside-at}
use Rattle.rpc_record.proofs.Readers.{CutAt-end}
use Rattle.rpc_record.proofs.Reported.{Concludes-inside}
use Rattle.rpc_record.proofs.reader.RecordReader.end.Goals as goal

pub returns-in-Header-clause-ends : goal.returns-in-Header-clause-ends
returns-in-Header-clause-ends c =
    let self = c.args.self.now in
    let inside : IsInsideAt self.place = search rules in
    let taking : IsTaking self = search rules in (
      refl,
      λ bytes rs h. let i = IsInside-at self.limit self.taken self.place self.content.items bytes rs inside h in
          CutAt-end self.limit self.taken rs bytes i.0 i.1,
      inr (taking, λ bytes rs h. IsInside-at self.limit self.taken self.place self.content.items bytes rs inside h),
    )

pub returns-in-Header-clause-concludes : goal.returns-in-Header-clause-concludes
returns-in-Header-clause-concludes c =
    let self = c.args.self.now in
    let inside : IsInsideAt self.place = search rules in
    Concludes-inside self
    (λ bytes rs h. IsInside-at self.limit self.taken self.place self.content.items bytes rs inside h)
