use Rattle.std.proofs.Common.{◌≡◌, ℕ, List, [], ◌∷◌, pos, negsuc, codes, None}
use Rattle.std.proofs.lemmas.Bool.{false≢true}
use Rattle.xdr_types.specs.Kinds as xdr
use Rattle.xdr_writer.specs.Items.{ItemView, number, content}
use Rattle.xdr_filling.specs.Filled.{IsValue, spelled_bytes}
use Rattle.xdr_filling.specs.declared.spelled.Spelled.{Spelled}
use Rattle.example_values.specs.Pair.{lone_arm}
use Rattle.example_values.proofs.Single.{choice_of, known, none_is}
use Rattle.example_values.proofs.filling.fills_no_missing_arm.Goals as goal

pub returns : goal.returns
returns c =
    let kinds = c.args.schema.now.kinds in
    let at : ℕ = c.args.kind.place in
    let most : ℕ = c.args.limits.depth in
    let is : List ItemView = number (pos 2) ∷ [] in
    none_is c.alone.result (λ (s : Spelled). IsValue kinds at most is (spelled_bytes s))
    (λ s v. absurd (false≢true (choice_of kinds 0 _ (pos 2) (spelled_bytes s) v.0.0 v.0.1
    (known kinds at most lone_arm is (spelled_bytes s) c.requires v)))) c.alone.ensures
