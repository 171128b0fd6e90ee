-- The kinds and their counts, as the code holds them.
use Rattle.xdr_listing.specs.declared.types.Types as declared
use Rattle.xdr_listing.specs.Words.{Types}

-- without where they lie in memory
abbrev pub types_of : declared.Types → Types
types_of t = record { schema = t.schema.now; ranges = t.bounds.now }
