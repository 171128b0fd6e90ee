-- The uid of a body of AUTH_SYS (RFC 5531 appendix A).
use Rattle.std.specs.Prelude.{◌≡◌, ℕ, List}
use Rattle.rpc_message.specs.Message.{AuthSysView}
use Rattle.rpc_message.specs.Spelling.{AuthSysBytes}

-- The bytes are a body of AUTH_SYS with this uid.
pub record IsUidOf (bytes : List ℕ) (uid : ℕ) : Type 0 where
  pub body : AuthSysView
  pub spelled : AuthSysBytes body bytes
  pub same : body.uid ≡ uid
