use Rattle.std.proofs.Common.{subst, sym}
use Rattle.xdr_types.specs.Within.{FitsWithin}
use Rattle.registry_dumps.specs.Dir.{dir_kinds}
use Rattle.registry_dumps.specs.Dumps.{dump_limits}
use Rattle.rpc_directory.proofs.Fitting.{dump_ports_fits}
use Rattle.rpc_directory.proofs.directory.Directory.dump_ports.Goals as goal

pub returns-clause-fits : goal.returns-clause-fits
returns-clause-fits g c =
    subst (FitsWithin dir_kinds 18 dump_limits) (sym c.in_ok-list.ensures.all)
    (dump_ports_fits c.args.self.now c.list.ensures.registry)
