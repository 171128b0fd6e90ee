use Rattle.std.proofs.Common.{ap}
use Rattle.std.specs.Prelude.{is_some}
use Rattle.oncrpc_capture.proofs.Printed.{no_tables, some_tables}
use Rattle.oncrpc_capture.proofs.printing.Printing.put_tables.Goals as goal

pub returns-in_ok-write_whole-in-Some : goal.returns-in_ok-write_whole-in-Some
returns-in_ok-write_whole-in-Some g c =
    some_tables _ _ _ _ (ap (λ o. is_some o) c.in-Some.is) c.in_ok-write_whole-in-Some.ensures.ok

pub returns-in-None : goal.returns-in-None
returns-in-None g c = no_tables _ _
