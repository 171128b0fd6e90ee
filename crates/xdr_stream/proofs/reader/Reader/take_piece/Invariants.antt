use Rattle.std.proofs.Common.{◌-◌, ◌≤◌, ℕ, List, ◌++◌, length, take}
use Rattle.xdr_stream.specs.Represents.{RepresentsBytes, IsAwake, IsSame}
use Rattle.xdr_stream.proofs.reader.Reader.take_piece.Given as goal

abbrev pub invariant-loop-at : goal.invariant-loop-at
invariant-loop-at g l =
    (l.at ≤ length l.piece) × IsAwake l.self.state × IsSame l.fn.self l.self
    × ((b : List ℕ) → RepresentsBytes g.B.Build.spares g.B.Build.reports l.fn.self b
    → RepresentsBytes g.B.Build.spares g.B.Build.reports l.self (b ++ take l.at l.piece))

abbrev pub decreases-loop-at : goal.decreases-loop-at
decreases-loop-at g l = length l.piece - l.at
