use Rattle.xdr_lang.specs.Views.{types_of}
use Rattle.xdr_lang.proofs.type_table.TypeTable.learn.Goals as goal

pub invariant_of-self : goal.invariant_of-self
invariant_of-self c = record {
  has_parts = c.args.self.now.has_parts;
  are_apart = c.args.self.now.are_apart;
  has_none = c.args.self.now.has_none;
  has_places = c.keep_place.ensures (types_of c.args.self.now.list.items) c.args.self.now.has_places c.in-Some.ensures;
}
