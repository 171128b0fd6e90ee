use Rattle.std.proofs.Common.{ℕ, List, sym, subst}
use Rattle.xdr_types.specs.View.{tree}
use Rattle.xdr_json.specs.Text.{IsSpelling}
use Rattle.example_json.proofs.Read.{read_as}
use Rattle.example_json.proofs.reading.reads_what_was_written.Goals as goal

pub returns-in-Ok : goal.returns-in-Ok
returns-in-Ok c =
    let s = c.args.schema.now.kinds in
    let place = c.args.kind.place in
    let t = tree c.args.value.now in
    read_as s place c.args.limits c.as_slice.result.now t c.read_json.result
    (subst (λ (text : List ℕ). IsSpelling s place c.args.limits text t) (sym c.as_slice.ensures.value)
    c.in-Ok.ensures.spells) c.read_json.ensures.only c.read_json.ensures.refused
