use Rattle.std.proofs.Common.{List, ap, ◌∙◌}
use Rattle.xdr_stream.specs.Values.{level_of, levels_onto}
use Rattle.xdr_stream.specs.declared.builder.level.Level.{Level}
use Rattle.xdr_stream.proofs.Finishing.{trace_at}
use Rattle.std.proofs.Common.{[], ◌∷◌}
use Rattle.xdr_stream.proofs.builder.values.ValuesBuild.trim.Goals as goal

pub returns : goal.returns
returns c = λ t reported. record {
  trace = ap (λ (ls : List Level). trace_at (level_of c.args.self.now.work ∷ levels_onto [] ls)
      c.args.self.now.content.items) c.trim.ensures ∙ reported.trace;
  nodes = reported.nodes;
  retained = reported.retained;
}
