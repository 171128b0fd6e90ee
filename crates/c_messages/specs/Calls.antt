-- What C sees of a call, and what it asks to be written (RFC 5531 section 9).
use Rattle.std.specs.Prelude.{◌≤◌, ◌<◌, ◌+◌, ℕ, List, length}
use Rattle.rpc_message.specs.Message.{CallView, CaseView, Whole, OtherVersion, BadCred, BadVerf, NotACall}
use Rattle.rpc_message.specs.Spelling.{CallBytes}
use Rattle.c_messages.specs.declared.answer.Answer.{Answer}
use Rattle.c_messages.specs.declared.answer.Answer.TheVariants as answer
use Rattle.c_messages.specs.declared.calls.CallParts.{CallParts}
use Rattle.c_messages.specs.Parts.{part, none, padded_size}
use Rattle.c_answers.specs.Buffers.{IsRetained}
use Rattle.c_messages.specs.Buffers.{IsPlaced}

-- the status of each case
abbrev pub case_status : CaseView → ℕ
case_status (Whole c) = 0
case_status NotACall = 9
case_status (OtherVersion xid version) = 10
case_status (BadCred xid) = 11
case_status (BadVerf xid) = 12

-- the numbers in front of a call, and nothing else
abbrev pub front : (xid version : ℕ) → CallParts
front xid version = record {
  xid = xid;
  rpc_version = version;
  program = 0;
  version = 0;
  procedure = 0;
  credential_flavor = 0;
  verifier_flavor = 0;
  credential = none;
  verifier = none;
  arguments = none;
}

-- All of a call: the body of its credential is behind eight numbers, that of its verifier behind two more and the
-- credential with its padding, and the arguments behind that.
abbrev pub whole : CallView → CallParts
whole c = record {
  xid = c.xid;
  rpc_version = 2;
  program = c.prog;
  version = c.vers;
  procedure = c.proc;
  credential_flavor = c.cred.flavor;
  verifier_flavor = c.verf.flavor;
  credential = part 32 c.cred.body;
  verifier = part (40 + padded_size (length c.cred.body)) c.verf.body;
  arguments = part (40 + padded_size (length c.cred.body) + padded_size (length c.verf.body)) c.args;
}

-- what is reported of each case
abbrev pub reported_of : CaseView → CallParts
reported_of (Whole c) = whole c
reported_of NotACall = front 0 0
reported_of (OtherVersion xid version) = front xid version
reported_of (BadCred xid) = front xid 2
reported_of (BadVerf xid) = front xid 2

-- a call has at most 400 bytes of credential and of verifier (section 8.2)
abbrev pub AreShort : CaseView → Type 0
AreShort (Whole c) = (length c.cred.body ≤ 400) × (length c.verf.body ≤ 400)
AreShort _ = Unit {0}

-- the call with these numbers, bodies and arguments
abbrev pub call_of : CallParts → (credential verifier arguments : List ℕ) → CallView
call_of p credential verifier arguments = record {
  xid = p.xid;
  prog = p.program;
  vers = p.version;
  proc = p.procedure;
  cred = record { flavor = p.credential_flavor; body = credential };
  verf = record { flavor = p.verifier_flavor; body = verifier };
  args = arguments;
}

-- what writing a call came to, and what stands in the buffer
abbrev pub IsCallWritten : CallView → (old new : List ℕ) → (count : ℕ) → Answer → Type 0
IsCallWritten c old new count answer.Whole =
    (bytes : List ℕ) × CallBytes c bytes × IsPlaced bytes old new count answer.Whole
IsCallWritten c old new count answer.NoRoom =
    (bytes : List ℕ) × CallBytes c bytes × IsPlaced bytes old new count answer.NoRoom
IsCallWritten c old new count answer.BadCredential = (400 < length c.cred.body) × IsRetained old new count
IsCallWritten c old new count answer.BadVerifier =
    (length c.cred.body ≤ 400) × (400 < length c.verf.body) × IsRetained old new count
IsCallWritten c old new count answer.NoMemory = IsRetained old new count
IsCallWritten c old new count _ = ⊥
