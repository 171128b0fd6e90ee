use Rattle.std.proofs.Common.{◌≡◌, ℕ, List, [], ◌∷◌, pos, negsuc, codes, None}
use Rattle.std.proofs.lemmas.Bool.{false≢true}
use Rattle.xdr_types.specs.Kinds as xdr
use Rattle.xdr_writer.specs.Items.{ItemView, number, content}
use Rattle.xdr_filling.specs.Filled.{IsValue, spelled_bytes}
use Rattle.xdr_filling.specs.declared.spelled.Spelled.{Spelled}
use Rattle.example_values.specs.Pair.{lone_arm}
use Rattle.example_values.proofs.Single.{opaque_of, known, each}
use Rattle.example_values.proofs.filling.pads_with_zeros.Goals as goal

pub returns : goal.returns
returns c =
    let kinds = c.args.schema.now.kinds in
    let at : ℕ = c.args.kind.place in
    let most : ℕ = c.args.limits.depth in
    let is : List ItemView = content (codes "abc") ∷ [] in
    each c.alone.result (λ (s : Spelled). IsValue kinds at most is (spelled_bytes s))
    (λ (s : Spelled). spelled_bytes s ≡ 97 ∷ 98 ∷ 99 ∷ 0 ∷ [])
    (λ s v. opaque_of kinds 3 (codes "abc") (spelled_bytes s) v.0.0 v.0.1
    (known kinds at most (xdr.opaque 3) is (spelled_bytes s) c.requires v)) c.alone.ensures
