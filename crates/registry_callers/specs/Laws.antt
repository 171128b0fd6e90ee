-- What holds of the answers to callers.
use Rattle.std.specs.Prelude.{◌≡◌, ◌≢◌, ℕ, ◌<◌, ◌^◌, Bool, true, false, ◌||◌, List, [], Option, Some}
use Rattle.std.specs.List.{list_any}
use Rattle.xdr_units.specs.Numbers.{AreBytes}
use Rattle.rpc_message.specs.Message.{CallView}
use Rattle.rpc_message.specs.Spelling.{CallBytes, reply}
use Rattle.registry_rows.specs.Rows.{Row}
use Rattle.registry_rows.specs.Steps.{superuser}
use Rattle.registry_answer.specs.Answer.{Answer, auth_error}
use Rattle.registry_answer.specs.Callers.{IsCaller, Owner, owner_of}
use Rattle.registry_callers.specs.declared.callers.Peer.TheVariants as peer
use Rattle.registry_callers.specs.declared.callers.Caller.{Caller}
use Rattle.registry_callers.specs.Callers.{auth_tooweak, is_trusted}
use Rattle.registry_callers.specs.Asking.{is_set, is_change, is_look_up}
use Rattle.registry_callers.specs.Vouching.{IsVouched}
use Rattle.registry_callers.specs.Addresses.{address_reply, told}
use Rattle.registry_callers.specs.From.{AnswerFrom, is_same, is_there}

-- caller, rows, netid, record and whether memory was refused fix the new rows and what is sent
abbrev pub OneAnswerFrom : Type 0
OneAnswerFrom = (caller : Caller) (rows new other : List Row) (netid message : List ℕ) (refused : Bool)
    (sent said : Option (List ℕ)) → AreBytes message → AnswerFrom caller rows netid message refused new sent
    → AnswerFrom caller rows netid message refused other said → (new ≡ other) × (sent ≡ said)

-- each record of each caller has an answer where no memory is refused
abbrev pub SomeAnswerFrom : Type 0
SomeAnswerFrom = (caller : Caller) (rows : List Row) (netid message : List ℕ) → AreBytes message
    → ((new : List Row) (sent : Option (List ℕ)) → AnswerFrom caller rows netid message false new sent → ⊥) → ⊥

-- the record is no SET of a row that is there
abbrev pub NeverAgain : List Row → (netid message : List ℕ) → Type 0
NeverAgain rows netid message = (c : CallView) (made : List Row) (sent : Option (List ℕ)) → CallBytes c message
    → is_set c ≡ true → Answer [] netid message false made sent → is_there rows made ≡ false

-- the record looks no address up that is told otherwise than it is registered: none at 0.0.0.0, if the host is known
abbrev pub NeverPlaced : (host : Option (List ℕ)) → List Row → (netid message : List ℕ) → Type 0
NeverPlaced host rows netid message = (c : CallView) (refused : Bool) (new : List Row) (text : List ℕ)
    → CallBytes c message → is_look_up c ≡ true
    → Answer rows netid message refused new (Some (address_reply c.xid text)) → told host text ≡ text

-- a caller of this host has the plain answer, where it sets no row again and looks no address at 0.0.0.0 up
abbrev pub LocalIsAsEver : Type 0
LocalIsAsEver = (caller : Caller) (rows new : List Row) (netid message : List ℕ) (refused : Bool)
    (sent : Option (List ℕ)) → caller.peer ≡ peer.Local → NeverAgain rows netid message
    → NeverPlaced caller.host rows netid message
    → AnswerFrom caller rows netid message refused new sent → Answer rows netid message refused new sent

-- a record that is neither SET nor UNSET, and looks no address up, has the plain answer, whoever calls
abbrev pub OthersAreAsEver : Type 0
OthersAreAsEver = (caller : Caller) (rows new : List Row) (netid message : List ℕ) (refused : Bool)
    (sent : Option (List ℕ)) → ((c : CallView) → CallBytes c message → (is_change c || is_look_up c) ≡ false)
    → AnswerFrom caller rows netid message refused new sent → Answer rows netid message refused new sent

-- where memory is refused the rows stay, whoever calls
abbrev pub RefusedRowsStay : Type 0
RefusedRowsStay = (caller : Caller) (rows new : List Row) (netid message : List ℕ) (sent : Option (List ℕ))
    → AnswerFrom caller rows netid message true new sent → new ≡ rows

-- a SET or UNSET by a caller from whom no change is taken changes no row, and is AUTH_TOOWEAK
abbrev pub RemoteIsDenied : Type 0
RemoteIsDenied = (caller : Caller) (c : CallView) (rows new : List Row) (netid message : List ℕ) (refused : Bool)
    (sent : Option (List ℕ)) → is_trusted caller ≡ false → CallBytes c message → is_change c ≡ true
    → AnswerFrom caller rows netid message refused new sent
    → (new ≡ rows) × (refused ≡ false → sent ≡ Some (reply (auth_error c.xid auth_tooweak)))

-- what a user of this host sets is owned by the user whom the kernel names, whatever the call claims
abbrev pub UserIsOwner : Type 0
UserIsOwner = (uid : ℕ) (c : CallView) (asked : List ℕ) → uid < 2 ^ 32
    → (v : IsVouched (peer.LocalUser uid) c asked) → IsCaller v.cred (Owner (owner_of uid))

-- nobody of another host is the superuser, who may remove each row
abbrev pub NobodyAfarIsSuperuser : Type 0
NobodyAfarIsSuperuser = (c : CallView) (asked owner : List ℕ) → (v : IsVouched peer.Remote c asked)
    → IsCaller v.cred (Owner owner) → owner ≢ superuser

-- a row of the superuser stays, unless user 0 calls, or one of this host whom the kernel does not name
abbrev pub SuperusersRowsStay : Type 0
SuperusersRowsStay = (caller : Caller) (rows new : List Row) (netid message : List ℕ) (refused : Bool)
    (sent : Option (List ℕ)) (r : Row) → caller.peer ≢ peer.Local → caller.peer ≢ peer.LocalUser 0
    → ((uid : ℕ) → caller.peer ≡ peer.LocalUser uid → uid < 2 ^ 32)
    → r.owner ≡ superuser → list_any (is_same r) rows ≡ true
    → AnswerFrom caller rows netid message refused new sent → list_any (is_same r) new ≡ true
