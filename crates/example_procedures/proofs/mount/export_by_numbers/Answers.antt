-- The parts mean one procedure.
use Rattle.std.proofs.Common.{◌≡◌, [], ◌∷◌, codes, refl, sym, ◌∙◌, lit<}
use Rattle.oncrpc_procedures.specs.Meant.{Parts, procedures_meant, programs_meant, versions_meant}
use Rattle.oncrpc_procedures.specs.Names.{IsCut}
use Rattle.example_procedures.specs.Mount.{export, programs, third}
use Rattle.example_procedures.proofs.Decimals.{five_text, mount_text, three_text, zero_text}
use Rattle.example_procedures.proofs.Texts.{a_number, all_read, has_no_dot}
use Rattle.example_procedures.proofs.Worked.{is_named}
use Rattle.example_procedures.proofs.mount.export_by_numbers.Goals as goal

abbrev parts : Parts
parts = record { program = codes "100005"; version = codes "3"; procedure = codes "5" }

cut : IsCut parts (codes "100005.3.5")
cut = record {
  program = has_no_dot (codes "100005") refl;
  version = has_no_dot (codes "3") refl;
  procedure = has_no_dot (codes "5") refl;
  joined = refl;
}

known : programs_meant parts programs ≡ programs
known = rw mount_text refl

versioned : versions_meant parts programs ≡ third ∷ []
versioned = rw (mount_text, three_text) refl

meant : procedures_meant parts programs ≡ export ∷ []
meant = rw (mount_text, three_text, zero_text, five_text) refl

pub returns : goal.returns
returns c =
    is_named c.names_have_one_reading.ensures parts
    (codes "100005.3.5") cut programs export meant
    (λ e. let both : programs ≡ [] = sym known ∙ e in cc)
    (λ e. let both : third ∷ [] ≡ [] = sym versioned ∙ e in cc)
    (all_read parts (a_number (codes "100005") 100005 (lit< tt) (sym mount_text))
    (a_number (codes "3") 3 (lit< tt) (sym three_text)) (a_number (codes "5") 5 (lit< tt) (sym five_text)))
    c.procedure_named.result (rw c.requires at c.procedure_named.ensures.found)
    (rw c.requires at c.procedure_named.ensures.refused)
