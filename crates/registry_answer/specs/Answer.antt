-- What the registry answers to a record (RFC 5531 section 9, RFC 1833 sections 2 and 3).
use Rattle.std.specs.Prelude.{◌≡◌, ◌≢◌, ◌⊎◌, ℕ, ◌<◌, ◌≤◌, ◌^◌, nat_lt, Bool, true, false, ◌&&◌, List, length}
use Rattle.std.specs.Prelude.{Option, Some, None, ⊤}
use Rattle.std.specs.Str.{bytes_eq}
use Rattle.xdr_types.specs.Tree.{Tree}
use Rattle.xdr_types.specs.Spelling.{bytes_of}
use Rattle.xdr_types.specs.Within.{Bounds}
use Rattle.xdr_types.specs.Outcome as decoding
use Rattle.xdr_types.specs.Outcome.{Outcome}
use Rattle.rpc_message.specs.Message.{CallView, CaseView, Whole, OtherVersion, BadCred, BadVerf, NotACall, StatusView}
use Rattle.rpc_message.specs.Message.{Success, ProgUnavail, ProgMismatch, ProcUnavail, GarbageArgs, SystemErr}
use Rattle.rpc_message.specs.Message.{RpcMismatch, AuthError, ReplyView, Denied}
use Rattle.rpc_message.specs.Constants.{rpc_version, auth_badcred, auth_badverf}
use Rattle.rpc_message.specs.Heads.{accepted}
use Rattle.rpc_message.specs.Cases.{IsCase}
use Rattle.rpc_message.specs.Spelling.{ReplyBytes, reply}
use Rattle.registry_rows.specs.Rows.{Row}
use Rattle.registry_rows.specs.Ports.{udp}
use Rattle.registry_rows.specs.Program.{program, lowest_version, highest_version}
use Rattle.registry_dumps.specs.Dir.{dir_kinds}
use Rattle.registry_answer.specs.Callers.{Owner, Refused, IsCaller}
use Rattle.registry_answer.specs.Procedures.{Procedure, procedure_at}

-- ---- arguments

-- the limits within which arguments are decoded (this project's own)
abbrev pub argument_limits : Bounds
argument_limits = record { depth = 4096; bytes = 2 ^ 16 }

-- decoding the arguments ends with the whole value t of the kind; bytes after it are ignored
abbrev pub AreArguments : (kind : ℕ) → List ℕ → Tree → Type 0
AreArguments kind args t = (place : ℕ) × Outcome dir_kinds kind argument_limits args (decoding.Whole t place)

-- it ends with no whole value, or has not ended with the last of the bytes
abbrev pub AreGarbage : (kind : ℕ) → List ℕ → Type 0
AreGarbage kind args = (t : Tree) → AreArguments kind args t → ⊥

-- ---- what an accepted call comes to, by the first check that fails

-- a version of the registry's program (RFC 1833 sections 2 and 3)
abbrev pub IsVersion : ℕ → Type 0
IsVersion vers = (lowest_version ≤ vers) × (vers ≤ highest_version)

-- The call names the registry's program, one of its versions, and a procedure that this version has.
pub record IsCallOf (c : CallView) (p : Procedure) : Type 0 where
  pub program_is : c.prog ≡ program
  pub version : IsVersion c.vers
  pub procedure_is : procedure_at c.vers c.proc ≡ Some p

-- The new rows and the status (RFC 5531 section 9, accept_stat).
pub data ComesTo (rows : List Row) (netid owner : List ℕ) (c : CallView) : List Row → StatusView → Type 0 where
  -- another program: PROG_UNAVAIL
  no_program : c.prog ≢ program → ComesTo rows netid owner c rows ProgUnavail
  -- another version: PROG_MISMATCH
  no_version : c.prog ≡ program → (c.vers < lowest_version) ⊎ (highest_version < c.vers)
      → ComesTo rows netid owner c rows (ProgMismatch lowest_version highest_version)
  -- no such procedure: PROC_UNAVAIL
  no_procedure : c.prog ≡ program → IsVersion c.vers → procedure_at c.vers c.proc ≡ None
      → ComesTo rows netid owner c rows ProcUnavail
  -- arguments that do not decode: GARBAGE_ARGS
  garbage : (p : Procedure) → IsCallOf c p → AreGarbage p.takes c.args → ComesTo rows netid owner c rows GarbageArgs
  -- the procedure's step, and its results: SUCCESS
  success : (p : Procedure) (t : Tree) → IsCallOf c p → AreArguments p.takes c.args t
      → ComesTo rows netid owner c (p.step rows netid owner t).0
      (Success (bytes_of dir_kinds p.gives (p.step rows netid owner t).1))

-- ---- replies

-- a denied reply with an auth_stat (RFC 5531 section 9)
abbrev pub auth_error : ℕ → ℕ → ReplyView
auth_error xid stat = Denied xid (AuthError stat)

-- the most bytes of a datagram over IPv4: 65535 without headers of 20 and of 8 bytes (RFC 791, RFC 768)
abbrev pub most_datagram : ℕ
most_datagram = 65507

-- a reply of so many bytes has no space in one message of the transport: only datagrams are bounded
abbrev pub is_too_long : (netid : List ℕ) → ℕ → Bool
is_too_long netid count = bytes_eq netid udp && nat_lt most_datagram count

-- The new rows and the reply to a whole call: denied where the caller is not believed, and SYSTEM_ERR with the rows as
-- they were where the reply has no space (this project's own).
pub data AnswersCall (rows : List Row) (netid : List ℕ) (c : CallView) : List Row → ReplyView → Type 0 where
  denies : (stat : ℕ) → IsCaller c.cred (Refused stat) → AnswersCall rows netid c rows (auth_error c.xid stat)
  accepts : (owner : List ℕ) (new : List Row) (status : StatusView) → IsCaller c.cred (Owner owner)
      → ComesTo rows netid owner c new status → is_too_long netid (length (reply (accepted c.xid status))) ≡ false
      → AnswersCall rows netid c new (accepted c.xid status)
  too_long : (owner : List ℕ) (new : List Row) (status : StatusView) → IsCaller c.cred (Owner owner)
      → ComesTo rows netid owner c new status → is_too_long netid (length (reply (accepted c.xid status))) ≡ true
      → AnswersCall rows netid c rows (accepted c.xid SystemErr)

-- the xid of a message that wants a reply
abbrev pub xid_in : CaseView → Option ℕ
xid_in (Whole c) = Some c.xid
xid_in (OtherVersion xid version) = Some xid
xid_in (BadCred xid) = Some xid
xid_in (BadVerf xid) = Some xid
xid_in NotACall = None

-- The new rows and the reply, or silence, by the case of the message and whether memory was refused.
pub data Answers (rows : List Row) (netid : List ℕ) : CaseView → (refused : Bool) → List Row → Option ReplyView
    → Type 0 where
  -- no call: silence
  silence : (refused : Bool) → Answers rows netid NotACall refused rows None
  -- a version of RPC other than 2: RPC_MISMATCH
  other_version : (xid version : ℕ)
      → Answers rows netid (OtherVersion xid version) false rows
      (Some (Denied xid (RpcMismatch rpc_version rpc_version)))
  -- no credential: AUTH_BADCRED
  bad_cred : (xid : ℕ) → Answers rows netid (BadCred xid) false rows (Some (auth_error xid auth_badcred))
  -- no verifier: AUTH_BADVERF
  bad_verf : (xid : ℕ) → Answers rows netid (BadVerf xid) false rows (Some (auth_error xid auth_badverf))
  -- a call
  call : (c : CallView) (new : List Row) (r : ReplyView) → AnswersCall rows netid c new r
      → Answers rows netid (Whole c) false new (Some r)
  -- refused memory: SYSTEM_ERR, and the rows stay
  no_memory : (k : CaseView) (xid : ℕ) → xid_in k ≡ Some xid
      → Answers rows netid k true rows (Some (accepted xid SystemErr))

-- ---- the answer to a record

-- silence, or the bytes of the reply
abbrev pub Sends : Option ReplyView → Option (List ℕ) → Type 0
Sends None None = ⊤
Sends (Some r) (Some bytes) = ReplyBytes r bytes
Sends _ _ = ⊥

-- The registry with these rows answers the record that came over a transport: the new rows, and what it sends.
pub record Answer (rows : List Row) (netid message : List ℕ) (refused : Bool) (new : List Row)
    (sent : Option (List ℕ)) : Type 0 where
  pub case : CaseView
  pub said : Option ReplyView
  pub read : IsCase message case
  pub answers : Answers rows netid case refused new said
  pub sends : Sends said sent
