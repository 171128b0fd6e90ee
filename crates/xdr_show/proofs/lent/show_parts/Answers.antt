-- The lines of all parts are those of the value.
use Rattle.std.proofs.Common.{◌++◌, List, ℕ, ap, ◌∙◌}
use Rattle.std.specs.List.{flat_map}
use Rattle.xdr_show.specs.Private.Read.{line_lent}
use Rattle.xdr_show.proofs.Parts.{says_value}
use Rattle.xdr_show.proofs.lent.show_parts.Goals as goal

pub push_parts-requires : goal.push_parts-requires
push_parts-requires c =
    let r = c.requires in (says_value c.args.schema.now.kinds r.0 r.1 r.2 c.args.parts.now r.3).0

pub returns : goal.returns
returns c = λ kind v input are.
    let kinds = c.args.schema.now.kinds in
    c.in_ok-push_parts.ensures
    ∙ ap (λ (z : List ℕ). z ++ flat_map (line_lent kinds) c.args.parts.now) c.new-out.ensures.items
    ∙ (says_value kinds kind v input c.args.parts.now are).1
