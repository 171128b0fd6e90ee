-- Who calls, and whether changes are taken from it (this project's own, after rpcbind).
use Rattle.std.specs.Prelude.{ℕ, Bool, true}
use Rattle.registry_callers.specs.declared.callers.Peer.{Peer}
use Rattle.registry_callers.specs.declared.callers.Peer.TheVariants as peer
use Rattle.registry_callers.specs.declared.callers.Caller.{Caller}

-- the auth_stat AUTH_TOOWEAK: rejected for security reasons (RFC 5531 section 9)
abbrev pub auth_tooweak : ℕ
auth_tooweak = 5

-- whether changes of rows are taken from this peer, where those of other hosts are as this says (own, after rpcbind)
abbrev pub is_taken : Peer → (trusts : Bool) → Bool
is_taken peer.Remote trusts = trusts
is_taken _ trusts = true

-- whether they are taken from this caller (own, after rpcbind)
abbrev pub is_trusted : Caller → Bool
is_trusted caller = is_taken caller.peer caller.trusts_remote
