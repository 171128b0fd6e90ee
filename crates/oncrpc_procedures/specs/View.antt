-- The view of an answer, without where its procedure lies.
use Rattle.xdr_lang.specs.Views.{procedure_of}
use Rattle.oncrpc_procedures.specs.declared.named.Named.{Named}
use Rattle.oncrpc_procedures.specs.Meant.{Target}

abbrev pub target_of : Named → Target
target_of n = record { program = n.program; version = n.version; procedure = procedure_of n.procedure.now }
