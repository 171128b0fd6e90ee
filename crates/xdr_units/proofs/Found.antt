-- What is found, whatever is made of it.
use Rattle.std.proofs.Common.{◌≡◌, Option, None, Some, is_some, option_map, refl}

pub is_some-map : {X Y : Type 0} (f : X → Y) (x : Option X) → is_some (option_map f x) ≡ is_some x
is_some-map f None = refl
is_some-map f (Some x) = refl
