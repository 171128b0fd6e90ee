-- The field at the index, and those behind it.
use Rattle.std.proofs.Common.{◌+◌, List, ◌∷◌, map, drop, ap, sym, ◌∙◌, arith}
use Rattle.xdr_types.specs.Kinds.{Part}
use Rattle.xdr_types.specs.KindViews.{part_of_member}
use Rattle.xdr_cursor.specs.Private.Showing.{part_of}
use Rattle.xdr_cursor.proofs.Onto.{fields_from}
use Rattle.xdr_cursor.proofs.frame.next_field.Goals as goal

pub returns : goal.returns
returns c =
    let ms = c.fields_of-fields.result.now in
    let i = c.args.from in
    let same = c.fields_of-fields.ensures in
    ap (λ (ps : List Part). drop i ps) (sym same)
    ∙ fields_from ms i c.index-fields-from.result (omega arith) c.index-fields-from.is
    ∙ ap (λ (p : Part). p ∷ drop (i + 1) (map part_of_member ms)) (sym c.next_of.ensures)
    ∙ ap (λ (ps : List Part). part_of c.next_of.result ∷ drop (i + 1) ps) same
