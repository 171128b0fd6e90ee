use Rattle.std.proofs.Common.{subst}
use Rattle.xdr_types.specs.Kinds.{KindView}
use Rattle.xdr_laws.specs.Owed.{lead_of, HasUnit}
use Rattle.xdr_stream.specs.Frames.{left_of}
use Rattle.xdr_stream.proofs.Sounding.{first_known, starts_first}
use Rattle.xdr_stream.proofs.machine.coming.is_due.Goals as goal

pub kind-kind-requires : goal.kind-kind-requires
kind-kind-requires c = record {
  has = first_known c.args.schema.now.kinds (left_of c.args.work.now) c.in-Some.id.place c.requires.0 c.in-Some.ensures;
}

pub returns-clause-starts : goal.returns-clause-starts
returns-clause-starts c = λ due.
    starts_first c.args.schema.now.kinds (left_of c.args.work.now) c.in-Some.id.place
    (subst (λ (k : KindView). HasUnit (lead_of k)) c.kind-kind.ensures (c.is_unit_due.ensures.unit due))
    c.in-Some.ensures
