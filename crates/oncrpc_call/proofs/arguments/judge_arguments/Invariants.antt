use Rattle.std.proofs.Common.{drop}
use Rattle.xdr_lang.specs.Views.{places}
use Rattle.oncrpc_call.specs.Asking.{AreArguments, Leaves}
use Rattle.oncrpc_call.proofs.arguments.judge_arguments.Given as goal

abbrev pub invariant-arguments : goal.invariant-arguments
invariant-arguments l = record {
  on : AreArguments l.schema.kinds (places (drop l.at l.kinds)) l.limits l.rest
      → AreArguments l.schema.kinds (places l.kinds) l.limits l.bytes;
  back : AreArguments l.schema.kinds (places l.kinds) l.limits l.bytes
      → AreArguments l.schema.kinds (places (drop l.at l.kinds)) l.limits l.rest;
  begun : Leaves l.schema.kinds (places l.kinds) l.limits l.bytes l.at l.rest;
}
