use Rattle.xdr_types.proofs.Refusing.{refused}
use Rattle.xdr_types.proofs.laws.no_schema_has_a_fault.Goals as goal

pub returns : goal.returns
returns c = λ s e first well sound. refused s e first well sound
