use Rattle.std.proofs.Common.{refl}
use Rattle.xdr_stream.proofs.Finishing.{reported_start}
use Rattle.xdr_stream.proofs.builder.values.Values.new.Goals as goal

pub returns : goal.returns
returns c = record {
  trace = reported_start c.new.result.items c.new-2.result.items c.new.ensures c.new-2.ensures.items;
  nodes = λ few. refl;
  retained = λ few. refl;
}
