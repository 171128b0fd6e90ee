-- What the type of a session's handle is made of.
use Rattle.std.proofs.Common.{refl}
use Rattle.c_handles.proofs.Slots.{Slot}
use Rattle.c_registry.specs.contracts.connected.Connected as connected
use Rattle.c_registry.specs.contracts.connection.Connection as handle

abbrev pub slot : Slot connected.the_row
slot = record {
  name = handle.struct.name;
  row = handle.the_row;
  at = λ d. d.at;
  live = λ d. d.live;
  held = λ d. d.held;
  make = λ p l x. record { at = p; live = l; held = x };
  holds = λ p l x. refl;
  owns = λ d vs. refl;
  owns_made = λ p l x vs. refl;
  silent = λ d f. refl;
}
