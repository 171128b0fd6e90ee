use Rattle.std.proofs.Common.{ap}
use Rattle.xdr_lang.specs.Views.{types_of}
use Rattle.xdr_lang.proofs.Tables.{found_endless}
use Rattle.xdr_lang.proofs.type_table.TypeTable.keep_endless.Goals as goal

pub invariant_of-self : goal.invariant_of-self
invariant_of-self c = record {
  has_parts = c.args.self.now.has_parts;
  are_apart = c.args.self.now.are_apart;
  has_places = c.args.self.now.has_places;
  has_none = found_endless c.args.names _ (types_of c.args.self.now.list.items) c.all_stay.result c.all_stay.ensures
      (ap types_of c.deref.ensures.value) c.if-all_stay.true;
}
