-- The parts mean one procedure.
use Rattle.std.proofs.Common.{codes, refl}
use Rattle.oncrpc_procedures.specs.Meant.{Parts}
use Rattle.oncrpc_procedures.specs.Names.{IsCut}
use Rattle.example_procedures.specs.Mount.{export, programs}
use Rattle.example_procedures.proofs.Texts.{a_name, all_read, has_no_dot}
use Rattle.example_procedures.proofs.Worked.{is_named}
use Rattle.example_procedures.proofs.mount.export_by_names.Goals as goal

abbrev parts : Parts
parts = record { program = codes "MOUNT_PROGRAM"; version = codes "MOUNT_V3"; procedure = codes "MOUNTPROC3_EXPORT" }

cut : IsCut parts (codes "MOUNT_PROGRAM.MOUNT_V3.MOUNTPROC3_EXPORT")
cut = record {
  program = has_no_dot (codes "MOUNT_PROGRAM") refl;
  version = has_no_dot (codes "MOUNT_V3") refl;
  procedure = has_no_dot (codes "MOUNTPROC3_EXPORT") refl;
  joined = refl;
}

pub returns : goal.returns
returns c =
    is_named c.names_have_one_reading.ensures parts
    (codes "MOUNT_PROGRAM.MOUNT_V3.MOUNTPROC3_EXPORT") cut programs export refl (λ e. cc)
    (λ e. cc)
    (all_read parts (a_name (codes "MOUNT_PROGRAM") refl) (a_name (codes "MOUNT_V3") refl)
    (a_name (codes "MOUNTPROC3_EXPORT") refl))
    c.procedure_named.result (rw c.requires at c.procedure_named.ensures.found)
    (rw c.requires at c.procedure_named.ensures.refused)
