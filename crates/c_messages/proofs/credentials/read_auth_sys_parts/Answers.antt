-- What is reported is the body that was read.
use Rattle.std.proofs.Common.{refl}
use Rattle.rpc_message.specs.View.{auth_sys_view}
use Rattle.c_messages.specs.Credentials.{Whole}
use Rattle.c_messages.proofs.credentials.read_auth_sys_parts.Goals as goal

pub returns-in-Ok-Some-clause-found : goal.returns-in-Ok-Some-clause-found
returns-in-Ok-Some-clause-found c = (
  Whole (auth_sys_view c.in-Ok-Some.body),
  rw c.in-Ok-Some.field-0-is at c.in-Ok-Some.ensures.found,
  refl,
  c.reported.ensures,
)
