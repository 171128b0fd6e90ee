use Rattle.std.proofs.Common.{subst}
use Rattle.registry_rows.specs.Rows.{IsRegistry}
use Rattle.rpc_directory.proofs.Fitting.{dump_fits, dump_ports_fits}
use Rattle.rpc_directory.proofs.directory.Directory.rows.Goals as goal

pub returns-clause-dump : goal.returns-clause-dump
returns-clause-dump g c =
    dump_fits c.args.self.now (subst IsRegistry c.self.view_is c.count.ensures.registry)

pub returns-clause-dump_ports : goal.returns-clause-dump_ports
returns-clause-dump_ports g c =
    dump_ports_fits c.args.self.now (subst IsRegistry c.self.view_is c.count.ensures.registry)
