use Rattle.example_registry.proofs.Waiting.{none_came}
use Rattle.example_registry.proofs.datagrams.keeps_the_rows_where_none_comes.Goals as goal

pub returns : goal.returns
returns g c = none_came _ _ _ _ _ _ c.serve_datagrams.result c.serve_datagrams.ensures.fault
