use Rattle.std.proofs.Common.{refl}
use Rattle.example_xdr.proofs.values.optional_data_is_a_union_and_an_array.Goals as goal

pub returns : goal.returns
returns c = λ element v. record {
  union_bytes = refl;
  union_fits = refl;
  array_bytes = refl;
  array_fits = refl;
  no_union = refl;
  no_array = refl;
}
