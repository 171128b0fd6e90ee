use Rattle.registry_callers.proofs.Superusers.{superusers_rows_stay}
use Rattle.registry_callers.proofs.laws.superusers_rows_stay.Goals as goal

pub returns : goal.returns
returns c = superusers_rows_stay c.call_bytes_are_exact.ensures c.auth_sys_bytes_are_exact.ensures
