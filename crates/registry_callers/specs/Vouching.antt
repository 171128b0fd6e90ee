-- The credential by which the owner of a changed row is found (this project's own, after rpcbind).
use Rattle.std.specs.Prelude.{◌≡◌, ℕ, List, []}
use Rattle.rpc_message.specs.Constants.{auth_none, auth_sys_flavor}
use Rattle.rpc_message.specs.Message.{AuthView, CallView}
use Rattle.rpc_message.specs.Spelling.{auth_sys, CallBytes}
use Rattle.rpc_message.specs.Uids.{IsUidOf}
use Rattle.registry_callers.specs.declared.callers.Peer.{Peer}
use Rattle.registry_callers.specs.declared.callers.Peer.TheVariants as peer

-- the AUTH_SYS credential of a user of whom no more than the uid is known (RFC 5531 appendix A)
abbrev pub user_cred : ℕ → AuthView
user_cred uid = record {
  flavor = auth_sys_flavor;
  body = auth_sys (record { stamp = 0; machine = []; uid = uid; gid = 0; gids = [] });
}

-- the credential of nobody: AUTH_NONE (RFC 5531 section 10.1)
abbrev pub no_cred : AuthView
no_cred = record { flavor = auth_none; body = [] }

-- The credential claims to be that of the superuser, uid 0 of AUTH_SYS (RFC 5531 appendix A).
pub record ClaimsSuperuser (cred : AuthView) : Type 0 where
  pub flavor_is : cred.flavor ≡ auth_sys_flavor
  pub uid_is : IsUidOf cred.body 0

-- The credential by which an owner is found, in place of the one that the call has.
pub data Vouches (cred : AuthView) : Peer → AuthView → Type 0 where
  -- the uid that the kernel names, and not the one that is claimed (own, after rpcbind)
  named : (uid : ℕ) → Vouches cred (peer.LocalUser uid) (user_cred uid)
  -- nobody of another host is the superuser (own, after rpcbind)
  lowered : ClaimsSuperuser cred → Vouches cred peer.Remote no_cred
  -- others of other hosts are whom they claim to be (own, after rpcbind)
  believed : (ClaimsSuperuser cred → ⊥) → Vouches cred peer.Remote cred
  -- and so is everyone of this host whom the kernel does not name (own, after rpcbind)
  local : Vouches cred peer.Local cred

-- the call with another credential
abbrev pub with_cred : CallView → AuthView → CallView
with_cred c cred = record {
  xid = c.xid;
  prog = c.prog;
  vers = c.vers;
  proc = c.proc;
  cred = cred;
  verf = c.verf;
  args = c.args;
}

-- These bytes spell the call with the credential by which an owner is found.
pub record IsVouched (who : Peer) (c : CallView) (asked : List ℕ) : Type 0 where
  pub cred : AuthView
  pub vouches : Vouches c.cred who cred
  pub spelled : CallBytes (with_cred c cred) asked
