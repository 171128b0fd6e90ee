-- What C sees of a body of AUTH_SYS, and what it asks to be written (RFC 5531 appendix A).
use Rattle.std.specs.Prelude.{◌⊎◌, ◌≤◌, ◌<◌, ◌-◌, ℕ, List, ◌++◌, length, take, replicate}
use Rattle.rpc_message.specs.Message.{AuthSysView}
use Rattle.rpc_message.specs.Spelling.{AuthSysBytes}
use Rattle.c_messages.specs.declared.answer.Answer.{Answer}
use Rattle.c_messages.specs.declared.answer.Answer.TheVariants as answer
use Rattle.c_messages.specs.declared.credentials.AuthSysParts.{AuthSysParts}
use Rattle.c_messages.specs.Parts.{part, none}
use Rattle.c_answers.specs.Buffers.{IsRetained}
use Rattle.c_messages.specs.Buffers.{IsPlaced}

-- no body
abbrev pub silent : AuthSysParts
silent = record { stamp = 0; uid = 0; gid = 0; gid_count = 0; gids = replicate 16 0; machine = none }

-- What is reported of a body: its gids are filled up with zeros to 16, and its machine name is behind two numbers.
abbrev pub reported_of : AuthSysView → AuthSysParts
reported_of a = record {
  stamp = a.stamp;
  uid = a.uid;
  gid = a.gid;
  gid_count = length a.gids;
  gids = a.gids ++ replicate (16 - length a.gids) 0;
  machine = part 8 a.machine;
}

-- what bytes are: this body, none, or memory was refused before it was known
pub data Body : Type 0 where
  Whole : (a : AuthSysView) → Body
  NoBody : Body
  Unknown : Body

abbrev pub IsBody : (input : List ℕ) → Body → Type 0
IsBody input (Whole a) = AuthSysBytes a input
IsBody input NoBody = (a : AuthSysView) → AuthSysBytes a input → ⊥
IsBody input Unknown = Unit {0}

abbrev pub body_status : Body → ℕ
body_status (Whole a) = 0
body_status NoBody = 17
body_status Unknown = 6

-- what is reported of each
abbrev pub body_reported : Body → AuthSysParts
body_reported (Whole a) = reported_of a
body_reported NoBody = silent
body_reported Unknown = silent

-- the body with these numbers and that machine name
abbrev pub auth_sys_of : AuthSysParts → (machine : List ℕ) → AuthSysView
auth_sys_of p machine =
    record { stamp = p.stamp; machine = machine; uid = p.uid; gid = p.gid; gids = take p.gid_count p.gids }

-- What writing a body came to, and what stands in the buffer. No body has more gids than 16, and none is left out.
abbrev pub IsAuthSysWritten : AuthSysParts → (machine old new : List ℕ) → (count : ℕ) → Answer → Type 0
IsAuthSysWritten p machine old new count answer.Whole =
    (p.gid_count ≤ 16) × (bytes : List ℕ) × AuthSysBytes (auth_sys_of p machine) bytes
    × IsPlaced bytes old new count answer.Whole
IsAuthSysWritten p machine old new count answer.NoRoom =
    (p.gid_count ≤ 16) × (bytes : List ℕ) × AuthSysBytes (auth_sys_of p machine) bytes
    × IsPlaced bytes old new count answer.NoRoom
IsAuthSysWritten p machine old new count answer.NoAuthSys =
    ((16 < p.gid_count) ⊎ (255 < length machine)) × IsRetained old new count
IsAuthSysWritten p machine old new count answer.NoMemory = IsRetained old new count
IsAuthSysWritten p machine old new count _ = ⊥
