use Rattle.std.proofs.Common.{◌≡◌, ◌++◌, drop, length, map}
use Rattle.xdr_parts.specs.Lent.{entry_of}
use Rattle.xdr_parts.specs.Counted.{names_of}
use Rattle.c_values.specs.Private.Parting.{parts_from, AreKnown}
use Rattle.c_values.proofs.listing.listing_of.Given as goal

abbrev pub invariant-loop-part : goal.invariant-loop-part
invariant-loop-part l = record {
  known : AreKnown l.schema.kinds (drop l.part-index l.lent);
  parts : l.parts.items
      ++ parts_from l.schema.kinds (length l.names.items) (map entry_of (drop l.part-index l.lent))
      ≡ parts_from l.schema.kinds 0 (map entry_of l.lent);
  names : l.names.items ++ names_of (map entry_of (drop l.part-index l.lent)) ≡ names_of (map entry_of l.lent);
}
