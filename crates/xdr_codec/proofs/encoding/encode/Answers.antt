use Rattle.std.proofs.Common.{◌≡◌, ap, ◌∙◌, List, ℕ, rules, ◌++◌, []}
use Rattle.xdr_types.specs.Spelling.{bytes_of}
use Rattle.xdr_types.specs.View.{tree}
use Rattle.xdr_types.proofs.Unique.{one}
use Rattle.xdr_codec.proofs.encoding.encode.Goals as goal

pub returns-in-Ok-clause-only : goal.returns-in-Ok-clause-only
returns-in-Ok-clause-only c = λ t h e.
    let S = c.args.schema.now.kinds in
    let place = c.args.kind.place in
    let reported : c.push_value.new.out.items ≡ bytes_of S place (tree c.args.value.now) =
    search (rules, c.in-Ok.ensures) in
    let same : bytes_of S place t ≡ bytes_of S place (tree c.args.value.now) = e ∙ reported in
    (one S place t (tree c.args.value.now) [] [] h c.requires.0 (ap (λ (z : List ℕ). z ++ []) same)).0
