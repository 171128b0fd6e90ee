use Rattle.std.proofs.Common.{List, map, sym, subst}
use Rattle.xdr_types.specs.KindViews.{kind_view, part_of_member}
use Rattle.xdr_types.specs.Fits.{parts}
use Rattle.xdr_types.specs.declared.kind.Kind.{Kind}
use Rattle.xdr_types.specs.declared.kind.Member.{Member}
use Rattle.xdr_laws.specs.Owed.{lead_of, IsSilent, silent_head}
use Rattle.xdr_stream.specs.Frames.{Begins}
use Rattle.xdr_stream.proofs.Frames.{begins_map, begins_items}
use Rattle.xdr_stream.proofs.reader.due.first_part.Goals as goal

pub returns-in-len1-up : goal.returns-in-len1-up
returns-in-len1-up c =
    subst (λ (k : Kind). IsSilent (lead_of (kind_view k))
    × Begins (parts (kind_view k) (silent_head (kind_view k))) c.first-item.result.kind.place)
    (sym c.in-Structure.is) (
      tt,
      subst (λ (ms : List Member). Begins (map part_of_member ms) c.first-item.result.kind.place)
          c.as_slice.ensures.value
          (begins_map c.as_slice.result.now c.first-item.result c.in-len1-up.len_at_least c.first-item.is),
    )

pub returns-else-size-eq0 : goal.returns-else-size-eq0
returns-else-size-eq0 c =
    subst (λ (k : Kind). IsSilent (lead_of (kind_view k))
    × Begins (parts (kind_view k) (silent_head (kind_view k))) c.in-Fixed.item.place)
    (sym c.in-Fixed.is)
    (tt, begins_items c.in-Fixed.item.place c.in-Fixed.size (λ e. c.if-size-eq0.false e))
