-- What C holds may go to another thread.
use denote.Param.Send.{IsSend, owning_send, sendable}
use Rattle.c_handles.proofs.Sent.{retained_keyless}
use Rattle.c_registry.specs.contracts.connection.Connection.{the_row, the_type}
use Rattle.c_registry.specs.contracts.connected.Connected as connected
use Rattle.c_registry.proofs.connected.Connected.TheSendSync.{the_send as connected_sent}

pub send : IsSend the_row
send =
    owning_send the_type (search sendable depth 20)
    (λ d. retained_keyless connected.the_row connected_sent d.live d.at d.held) (λ k x w. tt)
