use Rattle.std.proofs.Common.{List, ap, map}
use Rattle.xdr_lang.specs.Views.{declared_of, program_of}
use Rattle.xdr_lang.specs.declared.declarations.Program.{Program}
use Rattle.xdr_listing.proofs.Tokens.{told}
use Rattle.xdr_listing.proofs.listing.list_json.Goals as goal

pub returns : goal.returns
returns c = record {
  ranges = c.in_ok-bounds.bounds;
  right = c.in_ok-bounds.ensures;
  printed = told (declared_of c.args.declared.now)
      (record { schema = c.args.declared.now.schema; ranges = c.in_ok-bounds.bounds }) _ _ _ _ c.in_ok-text.ensures
      c.own_constants-constants.ensures c.own_types-names.ensures
      (ap (λ (ps : List Program). map program_of ps) c.deref-2.ensures.value);
}
