-- What an exchange has written and read (RFC 5531 sections 9 and 11).
use Rattle.std.specs.Prelude.{◌≡◌, ◌≢◌, ◌⊎◌, ℕ, ◌<◌, true, List, [], ◌∷◌, length, take, Option}
use Rattle.std.specs.Prelude.{Some, Result, Ok, Err, IsErrOf}
use Rattle.std.specs.Io.KnownBytes.{Appends, Consumes, IsAtEnd}
use Rattle.xdr_io.specs.Reported.{Counts, CountsAtMost}
use Rattle.xdr_io.specs.declared.input.TheConstants.{MOST_READS}
use Rattle.rpc_record.specs.declared.fault.RecordFault.TheVariants as flaw
use Rattle.rpc_record.specs.Marked.{fragment, Longest}
use Rattle.rpc_record.specs.Reading.{Begins, TooLongAt, HasNoLong, capped}
use Rattle.rpc_message.specs.declared.message.Reply.{Reply}
use Rattle.rpc_message.specs.declared.fault.ReplyFault.TheVariants as why
use Rattle.rpc_message.specs.Message.{CallView, ReplyView, Accepted, Denied}
use Rattle.rpc_message.specs.Spelling.{call, ReplyBytes}
use Rattle.rpc_message.specs.Faults.{StandsIn}
use Rattle.rpc_message.specs.View.{reply_view}
use Rattle.rpc_engine.specs.declared.fault.ClientFault.{ClientFault}
use Rattle.rpc_engine.specs.declared.fault.ClientFault.TheVariants as fault

-- the most bytes of a reply (this project's own)
abbrev pub most_reply : ℕ
most_reply = 16777216

-- the xid of a reply
abbrev pub xid_of : ReplyView → ℕ
xid_of (Accepted xid verf status) = xid
xid_of (Denied xid why) = xid

-- no reply is spelled so
abbrev pub IsNoReply : List ℕ → Type 0
IsNoReply bytes = (r : ReplyView) → ReplyBytes r bytes → ⊥

-- r is the first record of the input, within the limit
abbrev pub IsFirst : List ℕ → List ℕ → Type 0
IsFirst r input = Begins most_reply (r ∷ []) input

-- What the first record of an input is to a call: its reply, a reply with another xid, or no reply. Or there is none,
-- since a header passes the limit at a place or since the input ends before it is whole.
pub data Outcome : Type 0 where
  Replied : (reply : ReplyView) → Outcome
  OtherXid : (got : ℕ) → Outcome
  NoReply : Outcome
  TooLong : (at : ℕ) → Outcome
  Truncated : (at : ℕ) → Outcome

-- the case of an input, for a call with this xid
abbrev pub IsOutcome : (xid : ℕ) → (input : List ℕ) → Outcome → Type 0
IsOutcome xid input (Replied v) = (r : List ℕ) × (IsFirst r input × ReplyBytes v r × (xid_of v ≡ xid))
IsOutcome xid input (OtherXid got) =
    (r : List ℕ) × (IsFirst r input × ((v : ReplyView) × (ReplyBytes v r × (xid_of v ≡ got))) × (got ≢ xid))
IsOutcome xid input NoReply = (r : List ℕ) × (IsFirst r input × IsNoReply r)
IsOutcome xid input (TooLong at) = TooLongAt most_reply [] at input
IsOutcome xid input (Truncated at) =
    (at ≡ capped (length input)) × Longest most_reply [] input × HasNoLong most_reply input

-- What the answer says of the input that was read. A fault of the reply names something that stands in the first
-- record, and an input is cut only where the reader has no more. Where a read fails or there are too many, no record is
-- whole.
abbrev pub Reads : (xid : ℕ) → (input : List ℕ) → Option (List ℕ) → Result Reply ClientFault → Type 0
Reads xid input left' (Ok reply) = IsOutcome xid input (Replied (reply_view reply))
Reads xid input left' (Err (fault.WrongXid got)) = IsOutcome xid input (OtherXid got)
Reads xid input left' (Err (fault.Reply f)) =
    IsOutcome xid input NoReply × ((r : List ℕ) × (IsFirst r input × StandsIn f r)) × (f ≢ why.NoMemory)
Reads xid input left' (Err (fault.Record (flaw.TooLong at))) = IsOutcome xid input (TooLong at)
Reads xid input left' (Err (fault.Record (flaw.Truncated at))) = IsOutcome xid input (Truncated at) × IsAtEnd left'
Reads xid input left' (Err (fault.Record _)) = ⊥
Reads xid input left' (Err (fault.Write written)) = input ≡ []
Reads xid input left' (Err fault.NoMemory) = Unit {0}
Reads xid input left' (Err _) = Longest most_reply [] input × HasNoLong most_reply input

-- The answer to a call with this xid, by what was read.
pub record Exchanged (xid : ℕ) (left left' : Option (List ℕ)) (result : Result Reply ClientFault) : Type 0 where
  pub input : List ℕ
  pub read : Consumes left left' input
  pub reads : Reads xid input left' result

-- the case that the answer says an input has; an allocation failure and faults of reader and writer say none
abbrev pub IsAnswer : (xid : ℕ) → (input : List ℕ) → Result Reply ClientFault → Type 0
IsAnswer xid input (Ok reply) = IsOutcome xid input (Replied (reply_view reply))
IsAnswer xid input (Err (fault.WrongXid got)) = IsOutcome xid input (OtherXid got)
IsAnswer xid input (Err (fault.Reply f)) = IsOutcome xid input NoReply
IsAnswer xid input (Err (fault.Record (flaw.TooLong at))) = IsOutcome xid input (TooLong at)
IsAnswer xid input (Err (fault.Record (flaw.Truncated at))) = IsOutcome xid input (Truncated at)
IsAnswer xid input (Err _) = Unit {0}

-- where the reader reports all that it holds, that has this case
abbrev pub IsExact : (xid : ℕ) → Option (List ℕ) → Result Reply ClientFault → Type 0
IsExact xid left result = (input : List ℕ) → left ≡ Some input → IsAnswer xid input result

-- What was written: the call as one last fragment; after a failed write a front of it; where memory was refused all of
-- it or nothing.
abbrev pub Wrote : (bytes : List ℕ) → Option (List ℕ) → Option (List ℕ) → Result Reply ClientFault → Type 0
Wrote bytes taken taken' (Err (fault.Write written)) =
    (written < length (fragment true bytes)) × Appends taken taken' (take written (fragment true bytes))
Wrote bytes taken taken' (Err fault.NoMemory) = Appends taken taken' [] ⊎ Appends taken taken' (fragment true bytes)
Wrote bytes taken taken' _ = Appends taken taken' (fragment true bytes)

-- `Read` is one failed read, and the other faults are none
abbrev pub reads_failed : ClientFault → ℕ
reads_failed fault.Read = 1
reads_failed _ = 0

-- how many reads, or receives, failed before an answer
abbrev pub read_failures : {T : Type 0} → Result T ClientFault → ℕ
read_failures (Ok x) = 0
read_failures (Err f) = reads_failed f

-- `Write` is one failed write, and the other faults are none
abbrev pub writes_failed : ClientFault → ℕ
writes_failed (fault.Write written) = 1
writes_failed _ = 0

-- how many writes, or sends, failed before an answer
abbrev pub write_failures : {T : Type 0} → Result T ClientFault → ℕ
write_failures (Ok x) = 0
write_failures (Err f) = writes_failed f

-- What an exchange of this call wrote and read: what went out of the call's record, and that the answer is what the
-- bytes that were read are to this call. So is all that the reader holds, where it reports that.
pub record Exchanges (c : CallView) (left left' taken taken' : Option (List ℕ)) (result : Result Reply ClientFault)
    : Type 0 where
  pub wrote : Wrote (call c) taken taken' result
  pub answer : Exchanged c.xid left left' result
  pub exact : IsExact c.xid left result

-- One read failed where the answer is `Read`, and else none; one write where it is `Write`, and else none. So many
-- reads are made at most, and all of them where there were too many.
pub record CountsExchange (made made' unread unread' unsent unsent' : Option ℕ) (result : Result Reply ClientFault)
    : Type 0 where
  pub read : Counts (read_failures result) unread unread'
  pub write : Counts (write_failures result) unsent unsent'
  pub reads : CountsAtMost MOST_READS made made'
  pub many : IsErrOf result fault.TooManyReads → Counts MOST_READS made made'
