-- What the registry answers to a record, by who sent it (this project's own, after rpcbind).
use Rattle.std.specs.Prelude.{◌≡◌, ℕ, Bool, true, false, ◌&&◌, ◌||◌, List, [], ◌∷◌, Option, Some}
use Rattle.std.specs.List.{list_any}
use Rattle.std.specs.Str.{bytes_eq}
use Rattle.rpc_message.specs.Heads.{accepted}
use Rattle.rpc_message.specs.Message.{CallView, SystemErr}
use Rattle.rpc_message.specs.Spelling.{reply, CallBytes}
use Rattle.registry_rows.specs.Rows.{Row, is_at}
use Rattle.registry_answer.specs.Answer.{Answer, auth_error}
use Rattle.registry_callers.specs.declared.callers.Caller.{Caller}
use Rattle.registry_callers.specs.Callers.{auth_tooweak, is_trusted}
use Rattle.registry_callers.specs.Asking.{is_set, is_change, is_look_up}
use Rattle.registry_callers.specs.Vouching.{IsVouched}
use Rattle.registry_callers.specs.Addresses.{Tells}

-- a row is as another: of the same version of a program, over the same transport, with its address and its owner
abbrev pub is_same : Row → Row → Bool
is_same r s = is_at r.prog r.vers r.netid s && (bytes_eq r.address s.address && bytes_eq r.owner s.owner)

-- the rows have the one row that a call makes
abbrev pub is_there : (rows made : List Row) → Bool
is_there rows (r ∷ []) = list_any (is_same r) rows
is_there rows _ = false

-- The record is this call, of a caller from whom changes are taken, and these bytes are the call with the credential by
-- which an owner is found.
pub record IsTaken (caller : Caller) (message : List ℕ) (c : CallView) (asked : List ℕ) : Type 0 where
  pub read : CallBytes c message
  pub trusted : is_trusted caller ≡ true
  pub vouched : IsVouched caller.peer c asked

-- The registry with these rows answers the record of a caller: the new rows, and what it sends. What a SET makes is
-- what a registry with no rows has after it.
pub data AnswerFrom (caller : Caller) (rows : List Row) (netid message : List ℕ)
    : (refused : Bool) → List Row → Option (List ℕ) → Type 0 where
  -- a change by a caller from whom none is taken: AUTH_TOOWEAK, whatever its credential (own, after rpcbind)
  too_weak : (c : CallView) → CallBytes c message → is_change c ≡ true → is_trusted caller ≡ false
      → AnswerFrom caller rows netid message false rows (Some (reply (auth_error c.xid auth_tooweak)))
  -- SET of a row that is there with its address and owner, as of a service that was begun again: what is sent where it
  -- is not there, TRUE, and the rows stay (own, after rpcbind)
  sets_again : (c : CallView) (asked : List ℕ) (made : List Row) (sent : Option (List ℕ))
      → IsTaken caller message c asked → is_set c ≡ true → Answer [] netid asked false made sent
      → is_there rows made ≡ true → AnswerFrom caller rows netid message false rows sent
  -- any other SET, with the owner who is vouched for (RFC 1833 sections 2.2.1 and 3.2)
  sets : (c : CallView) (asked : List ℕ) (made : List Row) (said : Option (List ℕ)) (refused : Bool) (new : List Row)
      (sent : Option (List ℕ)) → IsTaken caller message c asked → is_set c ≡ true
      → Answer [] netid asked false made said → is_there rows made ≡ false → Answer rows netid asked refused new sent
      → AnswerFrom caller rows netid message refused new sent
  -- UNSET, by the owner who is vouched for (RFC 1833 sections 2.2.1 and 3.2)
  unsets : (c : CallView) (asked : List ℕ) (refused : Bool) (new : List Row) (sent : Option (List ℕ))
      → IsTaken caller message c asked → is_change c ≡ true → is_set c ≡ false
      → Answer rows netid asked refused new sent → AnswerFrom caller rows netid message refused new sent
  -- an address is looked up, and one at 0.0.0.0 is told as the caller can use it (own, after rpcbind)
  looks_up : (c : CallView) (refused : Bool) (new : List Row) (plain sent : Option (List ℕ)) → CallBytes c message
      → is_look_up c ≡ true → Answer rows netid message refused new plain → Tells caller.host c.xid plain sent
      → AnswerFrom caller rows netid message refused new sent
  -- any other record is answered as ever (RFC 5531 section 9)
  as_ever : (refused : Bool) (new : List Row) (sent : Option (List ℕ))
      → ((c : CallView) → CallBytes c message → (is_change c || is_look_up c) ≡ false)
      → Answer rows netid message refused new sent → AnswerFrom caller rows netid message refused new sent
  -- refused memory: SYSTEM_ERR, and the rows stay (RFC 5531 section 9)
  no_memory : (c : CallView) → CallBytes c message
      → AnswerFrom caller rows netid message true rows (Some (reply (accepted c.xid SystemErr)))
