-- What the handle's type is made of.
use Rattle.std.proofs.Common.{refl}
use Rattle.c_handles.proofs.Slots.{Slot}
use Rattle.c_cursors.specs.contracts.state.State as state
use Rattle.c_cursors.specs.contracts.handle.PartsCursor as handle

abbrev pub slot : Slot state.the_row
slot = record {
  name = handle.struct.name;
  row = handle.the_row;
  at = λ d. d.at;
  live = λ d. d.live;
  held = λ d. d.held;
  make = λ p l x. record { at = p; live = l; held = x };
  holds = λ p l x. refl;
  owns = λ d vs. refl;
  owns_made = λ p l x vs. refl;
  silent = λ d f. refl;
}
