-- An item fills the part that is due.
use Rattle.std.proofs.Common.{◌≡◌, ◌++◌, List, [], ◌∷◌, sym, subst}
use Rattle.xdr_types.specs.Kinds.{KindView, kind_at}
use Rattle.xdr_types.specs.KindViews.{kind_view}
use Rattle.xdr_writer.specs.Items.{item_view}
use Rattle.xdr_filling.specs.Filled.{holes_of, root, spelled_bytes}
use Rattle.xdr_filling.specs.Holes.{Goes}
use Rattle.xdr_filling.specs.Private.Makes.{IsNode, IsDue, inside_of}
use Rattle.xdr_filling.proofs.Opening.{item_goes}
use Rattle.xdr_filling.proofs.filling.Filling.take.Goals as goal

pub returns-then-branch-clause-filled : goal.returns-then-branch-clause-filled
returns-then-branch-clause-filled c = λ place depth is bytes h.
    let k = c.args.self.now.schema.now.kinds in
    let m = c.in-Some-made_of.made in
    let t : c.due.new.self.schema.now.kinds ≡ k = (cc) in
    let u : c.fill.new.self.schema.now.kinds ≡ k = (cc) in
    let d : IsDue c.due.new.self c.in-Some.id c.in-Some.kind.now = rw c.in-Some.is at c.in_ok-id.ensures.due in
    let made : IsNode c.due.new.self.schema.now.kinds (kind_view c.in-Some.kind.now) (item_view c.args.item ∷ [])
    (spelled_bytes m.bytes) (inside_of m.inside) = c.in-Some-made_of.ensures in
    let named : IsNode c.due.new.self.schema.now.kinds (kind_at c.due.new.self.schema.now.kinds c.in-Some.id.place)
    (item_view c.args.item ∷ []) (spelled_bytes m.bytes) (inside_of m.inside) =
    subst (λ (x : KindView). IsNode c.due.new.self.schema.now.kinds x (item_view c.args.item ∷ [])
    (spelled_bytes m.bytes) (inside_of m.inside)) d.kind_is made in
    let node : IsNode k (kind_at k c.in-Some.id.place) (item_view c.args.item ∷ []) (spelled_bytes m.bytes)
    (inside_of m.inside) =
    subst (λ (s : List KindView). IsNode s (kind_at s c.in-Some.id.place) (item_view c.args.item ∷ [])
    (spelled_bytes m.bytes) (inside_of m.inside)) t named in
    subst (λ (s : List KindView). Goes s (root place depth) (holes_of c.fill.new.self)
    (is ++ item_view c.args.item ∷ [])
    (bytes ++ spelled_bytes m.bytes)) (sym u)
    (item_goes k (root place depth) (holes_of c.args.self.now) (holes_of c.due.new.self) (holes_of c.fill.new.self) is
    (item_view c.args.item ∷ []) bytes (spelled_bytes m.bytes) h c.in_ok-id.ensures.moves
    (c.in_ok-fill.ensures.moves (cc) k (item_view c.args.item ∷ []) (spelled_bytes m.bytes) node))
