-- `none` owns nothing.
use Rattle.c_handles.proofs.Slots.None.{none_meets}
use Rattle.c_cursors.specs.contracts.handle.PartsCursorKeeperState.none.Key as key
use Rattle.c_cursors.proofs.Slot.{slot}
use Rattle.c_cursors.proofs.handle.PartsCursorKeeperState.none.Statement.{statement}
use Rattle.c_cursors.proofs.handle.PartsCursorKeeperState.none.Code as code

pub none_spec : {M : Type 1} → statement M
none_spec 𝓤 𝓛 𝓜 𝓡 wired = none_meets _ slot 𝓤 𝓛 𝓜 𝓡 key.name (code.unfolded 𝓤 𝓛.H 𝓜 𝓡 wired)
