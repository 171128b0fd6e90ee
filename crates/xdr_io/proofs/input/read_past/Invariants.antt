use Rattle.std.specs.Prelude.{◌≤◌, vec_len}
use Rattle.std.specs.Io.KnownBytes.{Consumes}
use Rattle.xdr_io.specs.Reported.{Counts}
use Rattle.xdr_io.proofs.input.read_past.Given as goal

abbrev pub invariant-loop-turn : goal.invariant-loop-turn
invariant-loop-turn g l = record {
  bytes : Consumes (g.R.Source.left l.fn.source) (g.R.Source.left l.source) l.bytes.items;
  some : l._turn ≤ vec_len l.bytes;
  few : vec_len l.bytes ≤ l.enough;
  count : Counts l._turn (g.R.Source.reads l.fn.source) (g.R.Source.reads l.source);
  none_failed : Counts 0 (g.R.Source.failures l.fn.source) (g.R.Source.failures l.source);
}
