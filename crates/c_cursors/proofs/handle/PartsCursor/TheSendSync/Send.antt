-- What C holds may go to another thread.
use denote.Param.Send.{IsSend, owning_send, sendable}
use Rattle.c_handles.proofs.Sent.{retained_keyless}
use Rattle.c_cursors.specs.contracts.handle.PartsCursor.{the_row, the_type}
use Rattle.c_cursors.specs.contracts.state.State as state
use Rattle.c_cursors.proofs.state.State.TheSendSync.{the_send as state_sent}

pub send : IsSend the_row
send =
    owning_send the_type (search sendable depth 20)
    (λ d. retained_keyless state.the_row state_sent d.live d.at d.held) (λ k x w. tt)
