-- What stands in bytes that are no reply, for each fault that names it (RFC 5531 sections 8.2 and 9).
use Rattle.std.specs.Prelude.{◌≡◌, ◌⊎◌, ◌≢◌, ℕ, ◌<◌, ◌≤◌, List, [], ◌∷◌, ◌++◌, length, replicate}
use Rattle.rpc_message.specs.declared.fault.ReplyFault.{ReplyFault}
use Rattle.rpc_message.specs.declared.fault.ReplyFault.TheVariants as faults
use Rattle.rpc_message.specs.Constants.{reply_type, msg_accepted, msg_denied, prog_mismatch, system_err}
use Rattle.rpc_message.specs.Constants.{rpc_mismatch, auth_error}
use Rattle.rpc_message.specs.Message.{AuthView, Success, ReplyView, Accepted}
use Rattle.xdr_units.specs.Numbers.{word, gap, IsWord}
use Rattle.rpc_message.specs.Spelling.{auth, reply, IsAuth, IsReply}

-- ---- the places of numbers (section 9, rpc_msg and reply_body)

-- A number of a reply, with the values that stand before it.
pub data Place : Type 0 where
  Xid : Place
  MessageType : (xid : ℕ) → Place
  ReplyStat : (xid : ℕ) → Place
  AcceptStat : (xid : ℕ) → (verf : AuthView) → Place
  AcceptLow : (xid : ℕ) → (verf : AuthView) → Place
  AcceptHigh : (xid : ℕ) → (verf : AuthView) → (low : ℕ) → Place
  RejectStat : (xid : ℕ) → Place
  RejectLow : (xid : ℕ) → Place
  RejectHigh : (xid : ℕ) → (low : ℕ) → Place
  AuthStat : (xid : ℕ) → Place

-- the bytes before that number
abbrev pub before : Place → List ℕ
before Xid = []
before (MessageType xid) = word xid
before (ReplyStat xid) = word xid ++ word reply_type
before (AcceptStat xid verf) = word xid ++ word reply_type ++ word msg_accepted ++ auth verf
before (AcceptLow xid verf) = word xid ++ word reply_type ++ word msg_accepted ++ auth verf ++ word prog_mismatch
before (AcceptHigh xid verf low) =
    word xid ++ word reply_type ++ word msg_accepted ++ auth verf ++ word prog_mismatch ++ word low
before (RejectStat xid) = word xid ++ word reply_type ++ word msg_denied
before (RejectLow xid) = word xid ++ word reply_type ++ word msg_denied ++ word rpc_mismatch
before (RejectHigh xid low) = word xid ++ word reply_type ++ word msg_denied ++ word rpc_mismatch ++ word low
before (AuthStat xid) = word xid ++ word reply_type ++ word msg_denied ++ word auth_error

-- the values before it have their ranges
abbrev pub IsPlace : Place → Type 0
IsPlace Xid = Unit {0}
IsPlace (MessageType xid) = IsWord xid
IsPlace (ReplyStat xid) = IsWord xid
IsPlace (AcceptStat xid verf) = IsWord xid × IsAuth verf
IsPlace (AcceptLow xid verf) = IsWord xid × IsAuth verf
IsPlace (AcceptHigh xid verf low) = IsWord xid × IsAuth verf × IsWord low
IsPlace (RejectStat xid) = IsWord xid
IsPlace (RejectLow xid) = IsWord xid
IsPlace (RejectHigh xid low) = IsWord xid × IsWord low
IsPlace (AuthStat xid) = IsWord xid

-- ---- Truncated

-- The bytes end inside of a number.
pub record EndsInNumber (bytes : List ℕ) : Type 0 where
  pub place : Place
  pub last : List ℕ
  pub fits : IsPlace place
  pub short : length last < 4
  pub parts : bytes ≡ before place ++ last

-- An opaque_auth ends inside of its length (section 8.2),
pub record EndsInLength (bytes : List ℕ) : Type 0 where
  pub flavor : ℕ
  pub last : List ℕ
  pub fits : IsWord flavor
  pub short : length last < 4
  pub parts : bytes ≡ word flavor ++ last

-- inside of its body,
pub record EndsInBody (bytes : List ℕ) : Type 0 where
  pub flavor : ℕ
  pub count : ℕ
  pub body : List ℕ
  pub fits : IsWord flavor
  pub few : count ≤ 400
  pub short : length body < count
  pub parts : bytes ≡ word flavor ++ word count ++ body

-- or inside of its padding, of which only zeros are there.
pub record EndsInPadding (bytes : List ℕ) : Type 0 where
  pub a : AuthView
  pub zeros : ℕ
  pub fits : IsAuth a
  pub short : zeros < gap (length a.body)
  pub parts : bytes ≡ word a.flavor ++ word (length a.body) ++ (a.body ++ replicate zeros 0)

-- an opaque_auth that ends too soon; the first case is that of its flavor
abbrev pub IsCutAuth : List ℕ → Type 0
IsCutAuth bytes = (length bytes < 4) ⊎ (EndsInLength bytes ⊎ (EndsInBody bytes ⊎ EndsInPadding bytes))

-- The bytes end inside of the verifier of an accepted reply.
pub record EndsInVerifier (bytes : List ℕ) : Type 0 where
  pub xid : ℕ
  pub rest : List ℕ
  pub fits : IsWord xid
  pub parts : bytes ≡ word xid ++ word reply_type ++ word msg_accepted ++ rest
  pub cut : IsCutAuth rest

abbrev pub IsCut : List ℕ → Type 0
IsCut bytes = EndsInNumber bytes ⊎ EndsInVerifier bytes

-- ---- NotAReply

-- The second word is not REPLY (section 9, msg_type).
pub record IsOtherKind (bytes : List ℕ) : Type 0 where
  pub xid : ℕ
  pub kind : ℕ
  pub rest : List ℕ
  pub fits : IsWord xid × IsWord kind
  pub other : kind ≢ reply_type
  pub parts : bytes ≡ word xid ++ word kind ++ rest

-- ---- BadStatus

-- a number above those that stand at this place (section 9, reply_stat, accept_stat, reject_stat)
abbrev pub IsNoStatus : Place → ℕ → Type 0
IsNoStatus (ReplyStat xid) stat = msg_denied < stat
IsNoStatus (AcceptStat xid verf) stat = system_err < stat
IsNoStatus (RejectStat xid) stat = auth_error < stat
IsNoStatus _ stat = ⊥

-- Such a number stands in its place.
pub record HasBadStatus (bytes : List ℕ) : Type 0 where
  pub place : Place
  pub stat : ℕ
  pub rest : List ℕ
  pub fits : IsPlace place × IsWord stat
  pub none : IsNoStatus place stat
  pub parts : bytes ≡ before place ++ (word stat ++ rest)

-- ---- BadAuth

-- An opaque_auth has a length above 400 (section 8.2),
pub record IsTooLong (bytes : List ℕ) : Type 0 where
  pub flavor : ℕ
  pub count : ℕ
  pub rest : List ℕ
  pub fits : IsWord flavor × IsWord count
  pub long : 400 < count
  pub parts : bytes ≡ word flavor ++ word count ++ rest

-- or where its padding stands there are bytes that are not all zero.
pub record IsPaddedWrong (bytes : List ℕ) : Type 0 where
  pub a : AuthView
  pub filling : List ℕ
  pub rest : List ℕ
  pub fits : IsAuth a
  pub size : length filling ≤ gap (length a.body)
  pub wrong : filling ≢ replicate (length filling) 0
  pub parts : bytes ≡ word a.flavor ++ word (length a.body) ++ (a.body ++ (filling ++ rest))

-- The verifier of an accepted reply is so.
pub record HasBadAuth (bytes : List ℕ) : Type 0 where
  pub xid : ℕ
  pub rest : List ℕ
  pub fits : IsWord xid
  pub parts : bytes ≡ word xid ++ word reply_type ++ word msg_accepted ++ rest
  pub bad : IsTooLong rest ⊎ IsPaddedWrong rest

-- ---- Rest

-- results of their own follow only a success (section 9, accepted_reply)
abbrev pub HasNoResults : ReplyView → Type 0
HasNoResults (Accepted xid verf (Success results)) = ⊥
HasNoResults _ = Unit {0}

-- A reply without results stands in front, and at least one byte after it.
pub record HasRest (bytes : List ℕ) : Type 0 where
  pub r : ReplyView
  pub byte : ℕ
  pub rest : List ℕ
  pub fits : IsReply r
  pub ended : HasNoResults r
  pub parts : bytes ≡ reply r ++ byte ∷ rest

-- what the fault names stands in the bytes
abbrev pub StandsIn : ReplyFault → List ℕ → Type 0
StandsIn faults.Truncated bytes = IsCut bytes
StandsIn faults.NotAReply bytes = IsOtherKind bytes
StandsIn faults.BadStatus bytes = HasBadStatus bytes
StandsIn faults.BadAuth bytes = HasBadAuth bytes
StandsIn faults.Rest bytes = HasRest bytes
StandsIn faults.NoMemory bytes = Unit {0}
