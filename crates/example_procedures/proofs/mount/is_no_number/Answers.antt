-- The second part is no number, whatever is declared.
use Rattle.std.proofs.Common.{codes, refl, sym, lit<}
use Rattle.oncrpc_procedures.specs.Meant.{Parts}
use Rattle.oncrpc_procedures.specs.Names.{IsCut}
use Rattle.xdr_lang.specs.Views.{declared_of}
use Rattle.example_procedures.proofs.Decimals.{mount_text}
use Rattle.example_procedures.proofs.Texts.{a_number, has_no_dot, leading_zero}
use Rattle.example_procedures.proofs.Worked.{is_no_number}
use Rattle.example_procedures.proofs.mount.is_no_number.Goals as goal

abbrev parts : Parts
parts = record { program = codes "100005"; version = codes "03"; procedure = codes "5" }

cut : IsCut parts (codes "100005.03.5")
cut = record {
  program = has_no_dot (codes "100005") refl;
  version = has_no_dot (codes "03") refl;
  procedure = has_no_dot (codes "5") refl;
  joined = refl;
}

pub returns : goal.returns
returns c =
    is_no_number c.names_have_one_reading.ensures parts (codes "100005.03.5") cut
    (declared_of c.args.declared.now).programs (a_number (codes "100005") 100005 (lit< tt) (sym mount_text))
    leading_zero
    c.procedure_named.result c.procedure_named.ensures.found c.procedure_named.ensures.refused
