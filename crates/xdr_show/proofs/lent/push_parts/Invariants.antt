use Rattle.std.proofs.Common.{◌≡◌, ◌++◌, drop}
use Rattle.std.specs.List.{AllByRecursion, flat_map}
use Rattle.xdr_show.specs.Private.Read.{line_lent, IsReadable}
use Rattle.xdr_show.proofs.lent.push_parts.Given as goal

abbrev pub invariant-loop-part : goal.invariant-loop-part
invariant-loop-part l = record {
  ready : AllByRecursion (IsReadable l.schema.kinds) (drop l.part-index l.parts);
  reported : l.out.items ++ flat_map (line_lent l.schema.kinds) (drop l.part-index l.parts)
      ≡ l.initial.out.items ++ flat_map (line_lent l.schema.kinds) l.parts;
}
