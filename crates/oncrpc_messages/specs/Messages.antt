-- What is printed of a message (RFC 5531 sections 8, 9 and 12), from its bytes, what is declared, and the call of its
-- xid. Nothing here is new: messages, procedures, values and outcomes are those of the crates below.
use Rattle.std.specs.Prelude.{◌≡◌, ◌⊎◌, ℕ, ◌-◌, ◌^◌, ◌<◌, ◌++◌, true, false, List, length, Option, None, Some}
use Rattle.xdr_units.specs.Numbers.{word}
use Rattle.xdr_types.specs.Spelling.{bytes_of}
use Rattle.xdr_types.specs.Tree.{Tree}
use Rattle.xdr_types.specs.Within.{FitsWithin}
use Rattle.xdr_lang.specs.Declarations.{Procedure}
use Rattle.rpc_message.specs.Constants.{reply_type}
use Rattle.rpc_message.specs.Message.{CallView, ReplyView, StatusView, Accepted, Denied, Success}
use Rattle.rpc_message.specs.Spelling.{CallBytes, ReplyBytes}
use Rattle.oncrpc_messages.specs.declared.asked.Asked.{Asked}
use Rattle.oncrpc_messages.specs.declared.page.Found.{Found}
use Rattle.oncrpc_messages.specs.declared.page.Page as code
use Rattle.oncrpc_messages.specs.declared.page.Said.{Said}
use Rattle.oncrpc_messages.specs.declared.page.Said.TheVariants as said
use Rattle.oncrpc_messages.specs.declared.refusal.Refusal.{Refusal}
use Rattle.oncrpc_messages.specs.declared.refusal.Verdict.{Verdict}
use Rattle.oncrpc_messages.specs.declared.refusal.Verdict.TheVariants as verdict
use Rattle.oncrpc_messages.specs.declared.refusal.Why.TheVariants as why
use Rattle.oncrpc_messages.specs.Asked.{arguments_in, declared_in, name_in, places_in, results_in}
use Rattle.oncrpc_messages.specs.Bodies.{TellsBody, TellsFields, nothing_text}
use Rattle.oncrpc_messages.specs.Lines.{call_front, cred_text, record_front, reply_front, xid_of}
use Rattle.oncrpc_messages.specs.Settings.{Settings}
use Rattle.oncrpc_messages.specs.Values.{IsBroken}

-- ---- a call

-- what follows the credential: where that is refused nothing, else the arguments, judged by the kinds of the procedure,
-- which begin at this place
abbrev pub TellsArgumentsOf : Settings → (start : ℕ) → CallView → Option Procedure → (refused : Option Refusal)
    → (text : List ℕ) → Verdict → Type 0
TellsArgumentsOf s start c p (Some r) text v = (v ≡ verdict.Refused r) × (text ≡ nothing_text s.form)
TellsArgumentsOf s start c p None text v =
    TellsBody s true (places_in s.declared.schema.kinds c.cred.flavor (arguments_in p)) start c.args text v

abbrev pub TellsArguments : Settings → (bytes : List ℕ) → CallView → (refused : Option Refusal) → (text : List ℕ)
    → Verdict → Type 0
TellsArguments s bytes c refused text v =
    TellsArgumentsOf s (length bytes - length c.args) c (declared_in s.declared c.prog c.vers c.proc) refused text v

-- The bytes are this call. The line has its xid, procedure and credential, whose body begins at byte 32.
pub record TellsCall (s : Settings) (bytes : List ℕ) (c : CallView) (text : List ℕ) (v : Verdict)
    : Type 0 where
  pub fields : Option (List ℕ)
  pub refused : Option Refusal
  pub arguments : List ℕ
  pub spelled : CallBytes c bytes
  pub cred : TellsFields s 32 c.cred fields refused
  pub args : TellsArguments s bytes c refused arguments v
  pub text_is : text ≡ call_front s.form c (name_in (declared_in s.declared c.prog c.vers c.proc))
      ++ (cred_text s.form c.cred.flavor fields ++ arguments)

-- ---- a reply

-- the procedure of the call that is known, where it is declared
abbrev pub declared_of_call : Settings → Option Asked → Option Procedure
declared_of_call s None = None
declared_of_call s (Some a) = declared_in s.declared a.program a.version a.procedure

-- the kinds of its results
abbrev pub results_of_call : Settings → Option Asked → Option (List ℕ)
results_of_call s None = None
results_of_call s (Some a) = places_in s.declared.schema.kinds a.flavor (results_in (declared_of_call s (Some a)))

-- what follows the status of a message of so many bytes: of a success the results, judged by these kinds
abbrev pub TellsStatus : Settings → (places : Option (List ℕ)) → (size : ℕ) → StatusView → (text : List ℕ) → Verdict
    → Type 0
TellsStatus s places size (Success results) text v =
    TellsBody s false places (size - length results) results text v
TellsStatus s places size status text v = (v ≡ verdict.Canonical) × (text ≡ nothing_text s.form)

abbrev pub TellsEnding : Settings → (places : Option (List ℕ)) → (size : ℕ) → ReplyView → (text : List ℕ) → Verdict
    → Type 0
TellsEnding s places size (Accepted xid verf status) text v = TellsStatus s places size status text v
TellsEnding s places size (Denied xid w) text v = (v ≡ verdict.Canonical) × (text ≡ nothing_text s.form)

-- The bytes are this reply, to the call that is known of its xid, if one is.
pub record TellsReply (s : Settings) (asked : Option Asked) (bytes : List ℕ) (r : ReplyView) (text : List ℕ)
    (v : Verdict) : Type 0 where
  pub ending : List ℕ
  pub spelled : ReplyBytes r bytes
  pub results : TellsEnding s (results_of_call s asked) (length bytes) r ending v
  pub text_is : text ≡ reply_front s.form r asked (name_in (declared_of_call s asked)) ++ ending

-- ---- what is neither

-- No call and no reply has these bytes.
pub record IsNoMessage (bytes : List ℕ) : Type 0 where
  pub no_call : (c : CallView) → CallBytes c bytes → ⊥
  pub no_reply : (r : ReplyView) → ReplyBytes r bytes → ⊥

-- why, and where: the outcome of the bytes as the head of a message, or where the head ends that they begin with
abbrev pub IsFlaw : Settings → (bytes : List ℕ) → Refusal → Type 0
IsFlaw s bytes r =
    IsBroken s.heads.kinds s.limits s.heads.message bytes r.why r.at
    ⊎ ((v : Tree) × (rest : List ℕ) × (r.why ≡ why.MoreFollows)
    × FitsWithin s.heads.kinds s.heads.message s.limits v
    × (bytes ≡ bytes_of s.heads.kinds s.heads.message v ++ rest)
    × (r.at ≡ length (bytes_of s.heads.kinds s.heads.message v)))

-- The bytes are no message.
pub record TellsRecord (s : Settings) (bytes text : List ℕ) (v : Verdict) : Type 0 where
  pub flaw : Refusal
  pub none : IsNoMessage bytes
  pub is_flaw : IsFlaw s bytes flaw
  pub refused : v ≡ verdict.Refused flaw
  pub text_is : text ≡ record_front s.form ++ nothing_text s.form

-- ---- any bytes

-- what is printed of a message, what its bytes are found to be, and whether it is a call, a reply or neither
abbrev pub Tells : Settings → Option Asked → (bytes text : List ℕ) → Verdict → Said → Type 0
Tells s asked bytes text v (said.Call xid a) =
    (c : CallView) × TellsCall s bytes c text v × (xid ≡ c.xid)
    × (a.program ≡ c.prog) × (a.version ≡ c.vers) × (a.procedure ≡ c.proc) × (a.flavor ≡ c.cred.flavor)
Tells s asked bytes text v (said.Reply xid) =
    (r : ReplyView) × TellsReply s asked bytes r text v × (xid ≡ xid_of r)
Tells s asked bytes text v said.Neither = TellsRecord s bytes text v

abbrev pub TellsPage : Settings → Option Asked → (bytes : List ℕ) → code.Page → Type 0
TellsPage s asked bytes p = Tells s asked bytes p.text.items p.verdict p.said

-- what a message is found to be, by the same: with some text it is what is printed of it
abbrev pub FindsMessage : Settings → Option Asked → (bytes : List ℕ) → Found → Type 0
FindsMessage s asked bytes f = (text : List ℕ) × Tells s asked bytes text f.verdict f.said

-- the bytes say that they are a reply with this xid: these are their first two numbers (RFC 5531 section 9)
abbrev pub SaysReply : (xid : ℕ) → (bytes : List ℕ) → Type 0
SaysReply xid bytes = (rest : List ℕ) × (xid < 2 ^ 32) × (bytes ≡ word xid ++ (word reply_type ++ rest))
