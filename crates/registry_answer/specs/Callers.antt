-- Who calls (RFC 5531 sections 8.2, 9 and appendix A).
use Rattle.std.specs.Prelude.{◌≡◌, ℕ, ◌<◌, List, ◌==◌, if◌then◌else◌, codes, decimal}
use Rattle.rpc_message.specs.Constants.{auth_none, auth_sys_flavor, auth_badcred, auth_rejectedcred}
use Rattle.rpc_message.specs.Message.{AuthView, AuthSysView}
use Rattle.rpc_message.specs.Spelling.{AuthSysBytes}
use Rattle.registry_rows.specs.Steps.{superuser}

-- a caller who is believed, as the owner of rows, or one who is not, with the auth_stat that says why
pub data Caller : Type 0 where
  Owner : (owner : List ℕ) → Caller
  Refused : (stat : ℕ) → Caller

-- the owner for AUTH_NONE (this project's own)
abbrev pub unknown : List ℕ
unknown = codes "unknown"

-- the owner for a uid of AUTH_SYS: the superuser for 0, and the decimal text of another (this project's own)
abbrev pub owner_of : ℕ → List ℕ
owner_of uid = if uid == 0 then superuser else decimal uid

-- no AUTH_SYS body is spelled so
abbrev pub IsNoAuthSys : List ℕ → Type 0
IsNoAuthSys body = (a : AuthSysView) → AuthSysBytes a body → ⊥

-- The caller that a credential names.
pub data IsCaller (cred : AuthView) : Caller → Type 0 where
  -- AUTH_NONE, whose body may have any bytes
  anyone : cred.flavor ≡ auth_none → IsCaller cred (Owner unknown)
  -- AUTH_SYS: the peer says which user it is
  user : (a : AuthSysView) → cred.flavor ≡ auth_sys_flavor → AuthSysBytes a cred.body
      → IsCaller cred (Owner (owner_of a.uid))
  -- AUTH_SYS with a body that does not read: AUTH_BADCRED
  unreadable : cred.flavor ≡ auth_sys_flavor → IsNoAuthSys cred.body → IsCaller cred (Refused auth_badcred)
  -- any other flavor: AUTH_REJECTEDCRED
  other : auth_sys_flavor < cred.flavor → IsCaller cred (Refused auth_rejectedcred)
