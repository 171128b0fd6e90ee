-- What an exchange over datagrams has sent and received (RFC 5531 section 9).
use Rattle.std.specs.Prelude.{◌≡◌, ◌≢◌, ◌⊎◌, ℕ, List, [], ◌∷◌, Result, Ok, Err}
use Rattle.rpc_message.specs.declared.message.Reply.{Reply}
use Rattle.rpc_message.specs.declared.fault.ReplyFault.TheVariants as why
use Rattle.rpc_message.specs.Message.{ReplyView}
use Rattle.rpc_message.specs.Spelling.{ReplyBytes}
use Rattle.rpc_message.specs.Faults.{StandsIn}
use Rattle.rpc_message.specs.View.{reply_view}
use Rattle.rpc_engine.specs.declared.fault.ClientFault.{ClientFault}
use Rattle.rpc_engine.specs.declared.fault.ClientFault.TheVariants as fault
use Rattle.rpc_engine.specs.Exchanged.{xid_of, IsNoReply}
use Rattle.rpc_engine.specs.Ports.{Reported, Receives, Sends}

-- What a message is to a call with this xid: its reply, a reply with another xid, or no reply.
pub data MessageCase : Type 0 where
  OwnReply : (reply : ReplyView) → MessageCase
  OtherReply : (got : ℕ) → MessageCase
  NotReply : MessageCase

-- the case of a message
abbrev pub IsMessageCase : (xid : ℕ) → (message : List ℕ) → MessageCase → Type 0
IsMessageCase xid r (OwnReply v) = ReplyBytes v r × (xid_of v ≡ xid)
IsMessageCase xid r (OtherReply got) = ((v : ReplyView) × (ReplyBytes v r × (xid_of v ≡ got))) × (got ≢ xid)
IsMessageCase xid r NotReply = IsNoReply r

-- What an answer says of the message that came. A fault of the reply names something that stands in it.
abbrev pub Replies : (xid : ℕ) → List ℕ → Result Reply ClientFault → Type 0
Replies xid r (Ok reply) = IsMessageCase xid r (OwnReply (reply_view reply))
Replies xid r (Err (fault.WrongXid got)) = IsMessageCase xid r (OtherReply got)
Replies xid r (Err (fault.Reply f)) = IsMessageCase xid r NotReply × StandsIn f r × (f ≢ why.NoMemory)
Replies xid r (Err fault.NoMemory) = Unit {0}
Replies xid r (Err _) = ⊥

-- The call was sent in one datagram and one was received, of which the answer speaks. Where a send failed nothing was
-- sent or received, where a receive failed nothing was received, and where memory was refused both were or neither.
abbrev pub ExchangesDatagram : (xid : ℕ) → (call : List ℕ) → Reported → Reported → Reported → Reported
    → Result Reply ClientFault → Type 0
ExchangesDatagram xid call left left' sent sent' (Err (fault.Write written)) =
    (written ≡ 0) × Sends sent sent' [] × Receives left left' []
ExchangesDatagram xid call left left' sent sent' (Err fault.Read) =
    Sends sent sent' (call ∷ []) × Receives left left' []
ExchangesDatagram xid call left left' sent sent' (Err fault.NoMemory) =
    (Sends sent sent' [] × Receives left left' [])
    ⊎ (Sends sent sent' (call ∷ []) × ((message : List ℕ) × Receives left left' (message ∷ [])))
ExchangesDatagram xid call left left' sent sent' result =
    Sends sent sent' (call ∷ [])
    × ((message : List ℕ) × (Receives left left' (message ∷ []) × Replies xid message result))
