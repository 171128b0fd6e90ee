-- How a kind begins, as the code tells it.
use Rattle.std.specs.Prelude.{◌≡◌, true, false, map}
use Rattle.xdr_types.specs.Kinds as xdr
use Rattle.xdr_types.specs.Kinds.{KindView}
use Rattle.xdr_types.specs.KindViews.{part_of_member}
use Rattle.xdr_laws.specs.Owed.{lead_of, HasUnit}
use Rattle.xdr_stream.specs.declared.machine.step.Step.{Step}
use Rattle.xdr_stream.specs.declared.machine.step.Step.TheVariants.{Unit, Fields, Items, Wide, Content, Void}

-- a kind begins with a unit, with its parts, with free bytes or with nothing (RFC 4506 sections 4.1 to 4.19)
abbrev pub IsStep : KindView → Step → Type 0
IsStep k Unit = HasUnit (lead_of k)
IsStep k (Fields fields) = k ≡ xdr.structure (map part_of_member fields.now)
IsStep k (Items item size) = k ≡ xdr.fixed item.place size
IsStep k (Wide true) = k ≡ xdr.hyper
IsStep k (Wide false) = k ≡ xdr.unsigned_hyper
IsStep k (Content size) = k ≡ xdr.opaque size
IsStep k Void = k ≡ xdr.nothing
