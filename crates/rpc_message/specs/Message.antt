-- Messages without where they lie in memory (RFC 5531 section 9).
use Rattle.std.specs.Prelude.{ℕ, List}

-- a flavor and its body, opaque_auth (section 8.2)
pub record AuthView : Type 0 where
  pub flavor : ℕ
  pub body : List ℕ

-- the body of AUTH_SYS, authsys_parms (appendix A)
pub record AuthSysView : Type 0 where
  pub stamp : ℕ
  pub machine : List ℕ
  pub uid : ℕ
  pub gid : ℕ
  pub gids : List ℕ

-- a call, with its arguments as the bytes that they are (section 9, call_body)
pub record CallView : Type 0 where
  pub xid : ℕ
  pub prog : ℕ
  pub vers : ℕ
  pub proc : ℕ
  pub cred : AuthView
  pub verf : AuthView
  pub args : List ℕ

-- what the bytes of a message are, as a call (section 9, with what is there in place of a call)
pub data CaseView : Type 0 where
  Whole : (call : CallView) → CaseView
  OtherVersion : (xid : ℕ) → (version : ℕ) → CaseView
  BadCred : (xid : ℕ) → CaseView
  BadVerf : (xid : ℕ) → CaseView
  NotACall : CaseView

-- what an accepted call came to (section 9, accepted_reply)
pub data StatusView : Type 0 where
  Success : (results : List ℕ) → StatusView
  ProgUnavail : StatusView
  ProgMismatch : (low : ℕ) → (high : ℕ) → StatusView
  ProcUnavail : StatusView
  GarbageArgs : StatusView
  SystemErr : StatusView

-- why a call was denied (section 9, rejected_reply)
pub data WhyView : Type 0 where
  RpcMismatch : (low : ℕ) → (high : ℕ) → WhyView
  AuthError : (stat : ℕ) → WhyView

-- a reply (section 9, reply_body)
pub data ReplyView : Type 0 where
  Accepted : (xid : ℕ) → (verf : AuthView) → (status : StatusView) → ReplyView
  Denied : (xid : ℕ) → (why : WhyView) → ReplyView
