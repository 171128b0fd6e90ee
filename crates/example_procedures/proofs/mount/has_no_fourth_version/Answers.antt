-- The parts mean the program alone.
use Rattle.std.proofs.Common.{◌≡◌, [], codes, refl, sym, lit<}
use Rattle.std.proofs.lemmas.Fmt.{decimal_digit}
use Rattle.oncrpc_procedures.specs.Meant.{Parts, procedures_meant, versions_meant}
use Rattle.oncrpc_procedures.specs.Names.{IsCut}
use Rattle.example_procedures.specs.Mount.{programs}
use Rattle.example_procedures.proofs.Decimals.{three_text}
use Rattle.example_procedures.proofs.Texts.{a_name, a_number, all_read, has_no_dot}
use Rattle.example_procedures.proofs.Worked.{has_no_version}
use Rattle.example_procedures.proofs.mount.has_no_fourth_version.Goals as goal

abbrev parts : Parts
parts = record { program = codes "MOUNT_PROGRAM"; version = codes "4"; procedure = codes "MOUNTPROC3_EXPORT" }

cut : IsCut parts (codes "MOUNT_PROGRAM.4.MOUNTPROC3_EXPORT")
cut = record {
  program = has_no_dot (codes "MOUNT_PROGRAM") refl;
  version = has_no_dot (codes "4") refl;
  procedure = has_no_dot (codes "MOUNTPROC3_EXPORT") refl;
  joined = refl;
}

versionless : versions_meant parts programs ≡ []
versionless = rw three_text refl

nothing : procedures_meant parts programs ≡ []
nothing = rw three_text refl

pub returns : goal.returns
returns c =
    has_no_version c.names_have_one_reading.ensures parts
    (codes "MOUNT_PROGRAM.4.MOUNTPROC3_EXPORT") cut programs (λ e. cc) versionless nothing
    (all_read parts (a_name (codes "MOUNT_PROGRAM") refl)
    (a_number (codes "4") 4 (lit< tt) (sym (decimal_digit 4 (lit< tt))))
    (a_name (codes "MOUNTPROC3_EXPORT") refl))
    c.procedure_named.result (rw c.requires at c.procedure_named.ensures.found)
    (rw c.requires at c.procedure_named.ensures.refused)
