-- What is listed of no text.
use Rattle.std.proofs.Common.{◌≡◌, ℕ, false, Bool, List, [], Option, ap, ◌∙◌, subst}
use Rattle.std.specs.Prelude.{map}
use Rattle.xdr_lang.specs.Declarations.{Declared}
use Rattle.xdr_listing.specs.Listing.{listing}
use Rattle.xdr_listing.specs.Words.{Types}
use Rattle.oncrpc_answers.specs.declared.task.TypesTask.{TypesTask}
use Rattle.oncrpc_tasks.specs.Sources.{bare}
use Rattle.oncrpc_types.specs.TypesEnd.{ListsTexts, listing_in}
use Rattle.example_program.proofs.Sourced.{no_file}

pub no_line : (reported : List ℕ → Option (List ℕ)) (what : TypesTask) (text : List ℕ)
    → what.types.files.items ≡ [] → what.json ≡ false → ListsTexts reported what text
    → text ≡ []
no_line reported what text none lines w =
    let t : Types = record { schema = w.declared.schema; ranges = w.lists.ranges } in
    let is : w.declared ≡ bare =
    no_file reported _ _ w.declares.texts w.declared none w.declares.are_reported w.declares.declared in
    w.lists.printed ∙ ap (λ (j : Bool). listing_in j w.declared t) lines ∙ ap (λ (d : Declared). listing d t) is
