-- The bytes of each message: its parts, joined (RFC 5531 sections 8, 9 and appendix A).
use Rattle.std.specs.Prelude.{◌≡◌, ℕ, ◌≤◌, List, ◌++◌, length, All}
use Rattle.std.specs.List.{flat_map}
use Rattle.xdr_units.specs.Numbers.{word, padded, IsWord}
use Rattle.rpc_message.specs.Constants.{rpc_version, call_type, reply_type, msg_accepted, msg_denied, success}
use Rattle.rpc_message.specs.Constants.{prog_unavail, prog_mismatch, proc_unavail, garbage_args, system_err}
use Rattle.rpc_message.specs.Constants.{rpc_mismatch, auth_error}
use Rattle.rpc_message.specs.Message.{AuthView, AuthSysView, CallView, StatusView, Success, ProgUnavail, ProgMismatch}
use Rattle.rpc_message.specs.Message.{ProcUnavail, GarbageArgs, SystemErr, WhyView, RpcMismatch, AuthError, ReplyView}
use Rattle.rpc_message.specs.Message.{Accepted, Denied}

-- a length, so many bytes, and zeros (RFC 4506 section 4.10)
abbrev pub opaque : List ℕ → List ℕ
opaque bytes = word (length bytes) ++ padded bytes

-- flavor and body (section 8.2)
abbrev pub auth : AuthView → List ℕ
auth a = word a.flavor ++ opaque a.body

-- xid, CALL, version 2 of RPC, program, version, procedure, credential, verifier, arguments
-- (section 9, call_body)
abbrev pub call : CallView → List ℕ
call c =
    word c.xid ++ word call_type ++ word rpc_version ++ word c.prog ++ word c.vers ++ word c.proc
    ++ (auth c.cred ++ (auth c.verf ++ c.args))

-- the number of a status and what follows it (section 9, accept_stat)
abbrev pub status : StatusView → List ℕ
status (Success results) = word success ++ results
status ProgUnavail = word prog_unavail
status (ProgMismatch low high) = word prog_mismatch ++ word low ++ word high
status ProcUnavail = word proc_unavail
status GarbageArgs = word garbage_args
status SystemErr = word system_err

-- the number of a reason and what follows it (section 9, reject_stat)
abbrev pub why : WhyView → List ℕ
why (RpcMismatch low high) = word rpc_mismatch ++ word low ++ word high
why (AuthError stat) = word auth_error ++ word stat

-- xid, REPLY, and MSG_ACCEPTED with verifier and status, or MSG_DENIED with the reason (section 9)
abbrev pub reply : ReplyView → List ℕ
reply (Accepted xid verf s) = word xid ++ word reply_type ++ word msg_accepted ++ (auth verf ++ status s)
reply (Denied xid w) = word xid ++ word reply_type ++ word msg_denied ++ why w

-- stamp, machine name, uid, gid, and the gids after their number (appendix A)
abbrev pub auth_sys : AuthSysView → List ℕ
auth_sys a =
    word a.stamp
    ++ (opaque a.machine ++ (word a.uid ++ word a.gid ++ word (length a.gids) ++ flat_map word a.gids))

-- ---- what has bytes

-- a body has at most 400 bytes (section 8.2)
pub record IsAuth (a : AuthView) : Type 0 where
  pub flavor : IsWord a.flavor
  pub short : length a.body ≤ 400

-- each word and each opaque_auth of a call has its range
pub record IsCall (c : CallView) : Type 0 where
  pub xid : IsWord c.xid
  pub prog : IsWord c.prog
  pub vers : IsWord c.vers
  pub proc : IsWord c.proc
  pub cred : IsAuth c.cred
  pub verf : IsAuth c.verf

-- the same for a status,
abbrev pub IsStatus : StatusView → Type 0
IsStatus (ProgMismatch low high) = IsWord low × IsWord high
IsStatus _ = Unit {0}

-- a reason,
abbrev pub IsWhy : WhyView → Type 0
IsWhy (RpcMismatch low high) = IsWord low × IsWord high
IsWhy (AuthError stat) = IsWord stat

-- and a reply
abbrev pub IsReply : ReplyView → Type 0
IsReply (Accepted xid verf s) = IsWord xid × IsAuth verf × IsStatus s
IsReply (Denied xid w) = IsWord xid × IsWhy w

-- at most 255 bytes of machine name and 16 gids (appendix A)
pub record IsAuthSys (a : AuthSysView) : Type 0 where
  pub stamp : IsWord a.stamp
  pub machine : length a.machine ≤ 255
  pub uid : IsWord a.uid
  pub gid : IsWord a.gid
  pub few : length a.gids ≤ 16
  pub gids : All IsWord a.gids

-- ---- the relations that the contracts name

-- These are the bytes of the call.
pub record CallBytes (c : CallView) (bytes : List ℕ) : Type 0 where
  pub fits : IsCall c
  pub parts : bytes ≡ call c

-- These are the bytes of the reply.
pub record ReplyBytes (r : ReplyView) (bytes : List ℕ) : Type 0 where
  pub fits : IsReply r
  pub parts : bytes ≡ reply r

-- These are the bytes of the body of AUTH_SYS.
pub record AuthSysBytes (a : AuthSysView) (bytes : List ℕ) : Type 0 where
  pub fits : IsAuthSys a
  pub parts : bytes ≡ auth_sys a
