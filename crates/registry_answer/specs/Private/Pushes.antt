-- What the functions below `answer` write behind bytes: steps between the code and what its public contract says.
use Rattle.std.specs.Prelude.{◌≡◌, ℕ, ◌+◌, ◌≤◌, Bool, List, [], ◌++◌, length}
use Rattle.std.specs.Option.{option_map_or}
use Rattle.xdr_units.specs.Numbers.{word, num4, number_of}
use Rattle.registry_uaddr.specs.declared.address.Uaddr.{Uaddr}
use Rattle.registry_uaddr.specs.Uaddrs.{uaddr_of}
use Rattle.rpc_message.specs.Constants.{success}
use Rattle.rpc_message.specs.Heads.{accepted, accepted_head}
use Rattle.rpc_message.specs.Message.{CallView, StatusView, ReplyView}
use Rattle.rpc_message.specs.Spelling.{reply, IsReply, IsStatus}
use Rattle.rpc_message.specs.View.{lent_call_view}
use Rattle.registry_rows.specs.Ports.{prot_of_netid}
use Rattle.registry_rows.specs.Rows.{Row}
use Rattle.registry_rows.specs.Steps.{Step}
use Rattle.registry_answer.specs.Private.Parsed.{text}
use Rattle.registry_answer.specs.Answer.{ComesTo, AnswersCall}
use Rattle.registry_answer.specs.Answering.{most}
use Rattle.registry_answer.specs.Owners.{owner_text}
use Rattle.registry_answer.specs.Views.{netid_of}
use Rattle.registry_answer.specs.declared.accepted.Asked.{Asked}

-- The call came to a status, and the accepted reply was written.
pub record PushesStatus (rows : List Row) (netid owner : List ℕ) (c : CallView) (old : List ℕ) (new : List Row)
    (out : List ℕ) : Type 0 where
  pub status : StatusView
  pub comes : ComesTo rows netid owner c new status
  pub fits : IsStatus status
  pub added : out ≡ old ++ reply (accepted c.xid status)
  pub short : length out ≤ length old + most

-- The call of a caller who is believed came to a status, and the accepted reply was written.
abbrev pub Accepts : Asked → List Row → (old : List ℕ) → List Row → (out : List ℕ) → Type 0
Accepts a rows old new out =
    PushesStatus rows (netid_of a.transport) (owner_text a.owner) (lent_call_view a.call) old new out

-- The call was answered, and the reply was written.
pub record PushesCall (rows : List Row) (netid : List ℕ) (c : CallView) (old : List ℕ) (new : List Row)
    (out : List ℕ) : Type 0 where
  pub said : ReplyView
  pub answers : AnswersCall rows netid c new said
  pub fits : IsReply said
  pub added : out ≡ old ++ reply said
  pub short : length out ≤ length old + most

-- ---- results

-- a row of a list, after the word that it is there
abbrev pub row_bytes : Row → List ℕ
row_bytes r = word 1 ++ (word r.prog ++ (word r.vers ++ (text r.netid ++ (text r.address ++ text r.owner))))

-- the same up to the length of its address
abbrev pub front_bytes : Row → List ℕ
front_bytes r = word 1 ++ (word r.prog ++ (word r.vers ++ (text r.netid ++ word (length r.address))))

-- the same of a mapping
abbrev pub mapping_at_bytes : Row → ℕ → Uaddr → List ℕ
mapping_at_bytes r prot a = word 1 ++ (word r.prog ++ (word r.vers ++ (word prot ++ word a.port)))

-- and of the mapping of a row, where it has one
abbrev pub mapping_bytes : Row → List ℕ
mapping_bytes r =
    option_map_or (λ prot. option_map_or (mapping_at_bytes r prot) (uaddr_of r.address) []) (prot_of_netid r.netid) []

-- A step was made and the reply that tells of it was written.
pub record Reports (step : Step) (xid : ℕ) (old : List ℕ) (new : List Row) (out : List ℕ) : Type 0 where
  pub done : Bool
  pub stepped : (new, done) ≡ step
  pub added : out ≡ old ++ (accepted_head xid success ++ num4 (number_of done))
