use Rattle.registry_callers.proofs.Told.{refused_rows_stay}
use Rattle.registry_callers.proofs.laws.refused_rows_stay.Goals as goal

pub returns : goal.returns
returns c = refused_rows_stay
