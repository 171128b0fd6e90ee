-- The arguments of a procedure are counted from 1.
use Rattle.std.proofs.Common.{◌≡◌, ℕ, suc, ◌+◌, List, length, Option, None, Some, Bor, option_and_then, slice_get, refl}
use Rattle.std.proofs.Common.{ap, sym, ◌∙◌, arith}
use Rattle.std.specs.Option.{option_copied}
use Rattle.std.specs.Slice.{IsItemAt}
use Rattle.std.proofs.lemmas.Option.{slice_get_past, slice_get_read}
use Rattle.xdr_lang.specs.Declarations.{Declared, Procedure, procedure_of_program}
use Rattle.oncrpc_names.specs.declared.reading.Part.TheVariants as part
use Rattle.oncrpc_names.specs.declared.reading.PartName.{PartName}
use Rattle.oncrpc_kinds.specs.Naming.{place_of_part, part_named}

pub argument_named : (d : Declared) (n : PartName) (p : Procedure) (k b : ℕ)
    → Some p ≡ procedure_of_program n.program n.version n.procedure d.programs
    → n.part ≡ part.Argument k → k ≡ b + 1 → (o : Option ℕ) → o ≡ slice_get p.arguments b → o ≡ part_named d n
argument_named d n p k b found is from_one o same =
    let next : k ≡ suc b = omega arith in
    let argument : n.part ≡ part.Argument (suc b) = is ∙ ap part.Argument next in
    same ∙ ap (place_of_part p) (sym argument) ∙ ap (option_and_then (λ q. place_of_part q n.part)) found

-- the item that is lent, where there is one
pub item_copied : {X : Type 0} (xs : List X) (i : ℕ) (o : Option (Bor X)) → IsItemAt xs i o
    → option_copied o ≡ slice_get xs i
item_copied xs i None h = sym (slice_get_past xs i h.3)
item_copied xs i (Some x) h = sym (slice_get_read xs (length xs) i x.now refl h.3.0 h.1)
