-- `opened` gives back what the handle owned.
use Rattle.c_handles.proofs.Slots.Opened.{opened_meets}
use Rattle.c_cursors.specs.contracts.handle.PartsCursorKeeperState.opened.Key as key
use Rattle.c_cursors.proofs.Slot.{slot}
use Rattle.c_cursors.proofs.handle.PartsCursorKeeperState.opened.Statement.{statement}
use Rattle.c_cursors.proofs.handle.PartsCursorKeeperState.opened.Code as code

pub opened_spec : {M : Type 1} → statement M
opened_spec 𝓤 𝓛 𝓜 𝓡 wired = opened_meets _ slot 𝓤 𝓛 𝓜 𝓡 key.name (code.unfolded 𝓤 𝓛.H 𝓜 𝓡 wired)
