-- `of` keeps what the box owned.
use Rattle.c_handles.proofs.Slots.Of.{of_meets}
use Rattle.c_cursors.specs.contracts.handle.PartsCursorKeeperState.of.Key as key
use Rattle.c_cursors.proofs.Slot.{slot}
use Rattle.c_cursors.proofs.handle.PartsCursorKeeperState.of.Statement.{statement}
use Rattle.c_cursors.proofs.handle.PartsCursorKeeperState.of.Code as code

pub of_spec : {M : Type 1} → statement M
of_spec 𝓤 𝓛 𝓜 𝓡 wired = of_meets _ slot 𝓤 𝓛 𝓜 𝓡 key.name (code.unfolded 𝓤 𝓛.H 𝓜 𝓡 wired)
