-- The listing is that of what the texts declare.
use Rattle.xdr_lang.specs.Views.{declared_of}
use Rattle.oncrpc_types.proofs.printing.listing_of.Goals as goal

pub returns-clause-lists : goal.returns-clause-lists
returns-clause-lists g c = record {
  declared = declared_of c.in_ok-declared.declared;
  declares = c.in_ok-declared.ensures.declares;
  lists = c.in_ok-text.ensures;
}
