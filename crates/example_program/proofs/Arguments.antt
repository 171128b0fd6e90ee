-- An argument that is there is asked for by its number.
use Rattle.std.proofs.Common.{◌≡◌, ◌<◌, ℕ, List, [], ◌∷◌, length, Option, Some, None, inr, refl, sym, subst, ap}
use Rattle.std.specs.Prelude.{String, string_bytes}
use Rattle.std.specs.declared.alloc.Global.{Global}
use Rattle.xdr_types.specs.Named.{place_named}
use Rattle.xdr_types.specs.Within.{AreBounds}
use Rattle.xdr_lang.specs.Declarations.{Declared, Procedure, procedure_of_program}
use Rattle.xdr_lang.specs.Means.{Means}
use Rattle.oncrpc_names.specs.Names.{IsPartName, name_text}
use Rattle.oncrpc_names.specs.declared.reading.Part.{Part}
use Rattle.oncrpc_names.specs.declared.reading.Part.TheVariants.{Argument}
use Rattle.oncrpc_names.specs.declared.reading.PartName.{PartName}
use Rattle.oncrpc_kinds.specs.Naming.{part_named, place_of_part}
use Rattle.oncrpc_tasks.specs.declared.question.Form.TheVariants.{Outcome}
use Rattle.oncrpc_tasks.specs.Right.{Question}
use Rattle.oncrpc_tasks.specs.Sources.{AreReported, IsDeclared, IsReported, MeansIn}
use Rattle.oncrpc_tasks.specs.Tasks.{Asks, AsksNothing}
use Rattle.oncrpc_answers.specs.declared.task.Dialect.{Dialect}
use Rattle.oncrpc_answers.specs.declared.task.Dialect.TheVariants.{Rfc}
use Rattle.oncrpc_answers.specs.declared.task.ValueTask.{ValueTask}
use Rattle.xdr_rpcgen.specs.Files.{joined}
use Rattle.example_program.proofs.Sourced.{joined_one}

-- the only argument is found under the number 1
found : (p : Procedure) (part : Part) (place : ℕ) → part ≡ Argument 1 → p.arguments ≡ place ∷ []
    → place_of_part p part ≡ Some place
found p part place one only = rw one (rw only refl)

in_programs : (d : Declared) (name : PartName) (p : Procedure) (place : ℕ)
    → procedure_of_program name.program name.version name.procedure d.programs ≡ Some p
    → place_of_part p name.part ≡ Some place → part_named d name ≡ Some place
in_programs d name p place there is = rw there is

-- the only text is the one that is reported of the only file
only_text : (reported : List ℕ → Option (List ℕ)) (f : String Global) (texts : List (List ℕ)) (text : List ℕ)
    → reported (string_bytes f) ≡ Some text → AreReported reported (f ∷ []) texts → texts ≡ text ∷ []
only_text reported f [] text is are = absurd are
only_text reported f (t ∷ []) text is are =
    ap (λ (x : List ℕ). x ∷ []) (subst (λ (r : Option (List ℕ)). IsReported r t) is are.0)
only_text reported f (t ∷ u ∷ ts) text is are = absurd are.1

pub one_is_asked : (reported : List ℕ → Option (List ℕ)) (what : ValueTask) (file : String Global)
    → (what.types.files.items ≡ file ∷ []) × (what.types.dialect ≡ Rfc) → AreBounds what.depth what.bytes
    → (text : List ℕ) × (d : Declared) × (name : PartName) × (p : Procedure) × (place : ℕ)
    × (reported (string_bytes file) ≡ Some text) × Means text d
    × IsPartName name × (name.part ≡ Argument 1) × (string_bytes what.name ≡ name_text name)
    × (place_named d.schema.names (string_bytes what.name) ≡ None)
    × (procedure_of_program name.program name.version name.procedure d.programs ≡ Some p)
    × (p.arguments ≡ place ∷ []) × (place < length d.schema.kinds)
    → AsksNothing reported what → ⊥
one_is_asked reported what file types limits
    (text, d, name, p, place, is_reported, means, unsigned, one, spelled, none, there, only, known) nothing =
    let are : AreReported reported (file ∷ []) nothing.texts =
    subst (λ (fs : List (String Global)). AreReported reported fs nothing.texts) types.0 nothing.are_reported in
    let same : nothing.texts ≡ text ∷ [] = only_text reported file nothing.texts text is_reported are in
    let question : Question = record {
      kinds = d.schema.kinds;
      place = place;
      limits = record { depth = what.depth; bytes = what.bytes };
      form = Outcome;
    } in
    let meant : MeansIn what.types.dialect (joined (text ∷ [])) d =
    subst (λ (k : Dialect). MeansIn k (joined (text ∷ [])) d) (sym types.1)
    (subst (λ (t : List ℕ). Means t d) (sym (joined_one text)) means) in
    let declared : IsDeclared what.types.dialect nothing.texts d =
    subst (λ (ts : List (List ℕ)). IsDeclared what.types.dialect ts d) (sym same) meant in
    let asks : Asks nothing.texts what Outcome question = record {
      declared = d;
      source = declared;
      kinds = refl;
      named = inr (
        none,
        record {
          name = name;
          unsigned = unsigned;
          spelled = spelled;
          found = in_programs d name p place there (found p name.part place one only);
        },
      );
      known = known;
      in_range = limits;
      limits = refl;
      lines = refl;
    } in
    nothing.none Outcome question asks
