use Rattle.std.proofs.Common.{◌≡◌, List, map, [], ◌∷◌, ap, sym, subst, ◌∙◌, codes}
use Rattle.xdr_types.specs.Kinds as xdr
use Rattle.xdr_types.specs.Kinds.{KindView, Part}
use Rattle.xdr_types.specs.KindViews.{kind_view, part_of_member}
use Rattle.xdr_types.specs.Sound.{IsSound}
use Rattle.example_xdr.specs.Rfc.{part}
use Rattle.example_xdr.proofs.Sound.{two, sound}
use Rattle.example_xdr.proofs.schemas.structure_of_an_int.Goals as goal

pub only_memory-requires-clause-sound : goal.only_memory-requires-clause-sound
only_memory-requires-clause-sound c =
    let field : part_of_member c.in_ok-field.field ≡ part (codes "x") 0 = c.in_ok-field.ensures in
    let fields : map part_of_member c.in_ok-fields.fields.items ≡ part (codes "x") 0 ∷ [] =
    ap (map part_of_member) c.in_ok-fields.ensures.items ∙ ap (λ (p : Part). p ∷ []) field in
    let all : map kind_view c.in_ok-kinds.kinds.items ≡ two (codes "x") =
    ap (map kind_view) c.in_ok-kinds.ensures.items ∙ ap (λ (z : List Part). xdr.int ∷ xdr.structure z ∷ []) fields in
    subst IsSound (sym all) (sound (codes "x"))
