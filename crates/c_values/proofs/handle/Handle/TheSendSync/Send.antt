-- Declarations in C's hands may go to another thread.
use denote.Param.Send.{IsSend, owning_send, sendable}
use Rattle.c_handles.proofs.Sent.{retained_keyless}
use Rattle.c_values.specs.contracts.handle.Handle.{the_row, the_type}
use Rattle.c_values.specs.contracts.state.State as state
use Rattle.c_values.proofs.state.State.TheSendSync as state_sent

state_send : IsSend state.the_row
state_send = state_sent.the_send

pub send : IsSend the_row
send =
    owning_send the_type (search sendable depth 20)
    (λ d. retained_keyless state.the_row state_send d.live d.at d.declared) (λ k x w. tt)
