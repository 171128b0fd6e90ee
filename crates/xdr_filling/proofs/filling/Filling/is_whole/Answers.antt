-- All is filled where nothing is due.
use Rattle.std.proofs.Common.{◌≡◌, []}
use Rattle.xdr_filling.specs.Filled.{holes_of, root}
use Rattle.xdr_filling.proofs.Going.{goes_by, whole}
use Rattle.xdr_filling.proofs.Opening.{is_off}
use Rattle.xdr_filling.proofs.filling.Filling.is_whole.Goals as goal

pub returns-in-None : goal.returns-in-None
returns-in-None c = record {
  whole = λ yes place depth is bytes h.
      (let k = c.args.self.now.schema.now.kinds in
      whole k place depth is bytes (holes_of c.settle.new.self)
      (goes_by k (root place depth) (holes_of c.args.self.now) (holes_of c.settle.new.self) is bytes h
      (goes_by k (holes_of c.args.self.now) (holes_of c.due.new.self) (holes_of c.settle.new.self) [] []
      c.in_ok-due.ensures.moves (c.settle.ensures.moves k)))
      (c.settle.ensures.whole (is_off c.settle.result yes) k));
}
