-- The code's table of procedures.
use Rattle.registry_answer.specs.Procedures as plain
use Rattle.registry_answer.specs.declared.table.OnMapping.{OnMapping}
use Rattle.registry_answer.specs.declared.table.OnMapping.TheVariants as mapping
use Rattle.registry_answer.specs.declared.table.OnRpcb.{OnRpcb}
use Rattle.registry_answer.specs.declared.table.OnRpcb.TheVariants as rpcb
use Rattle.registry_answer.specs.declared.table.Procedure.{Procedure}
use Rattle.registry_answer.specs.declared.table.Procedure.TheVariants as procedure

-- the procedure of version 2 that takes a `mapping`
abbrev pub of_mapping : OnMapping → plain.Procedure
of_mapping mapping.Set = plain.set_2
of_mapping mapping.Unset = plain.unset_2
of_mapping mapping.GetPort = plain.getport_2

-- the procedure of versions 3 and 4 that takes an `rpcb`
abbrev pub of_rpcb : OnRpcb → plain.Procedure
of_rpcb rpcb.Set = plain.set_3
of_rpcb rpcb.Unset = plain.unset_3
of_rpcb rpcb.GetAddr = plain.getaddr_3
of_rpcb rpcb.GetVersAddr = plain.getversaddr_4

-- any procedure
abbrev pub procedure_of : Procedure → plain.Procedure
procedure_of procedure.Null = plain.null
procedure_of procedure.DumpPorts = plain.dump_2
procedure_of procedure.Dump = plain.dump_3
procedure_of (procedure.OnMapping step) = of_mapping step
procedure_of (procedure.OnRpcb step) = of_rpcb step
