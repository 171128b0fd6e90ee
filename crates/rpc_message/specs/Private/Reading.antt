-- Reading from left to right, with the first fault that is met: a step between the code and what the public contracts
-- say, and none of them names it.
use Rattle.std.specs.Prelude.{◌≡◌, ℕ, zero, suc, List, [], ◌∷◌, length, take, drop, Bool, true, false, Result, Ok, Err}
use Rattle.std.specs.Prelude.{nat_lt, ◌==◌, if◌then◌else◌}
use Rattle.std.specs.Int.{w32, from_be_bytes}
use Rattle.rpc_message.specs.declared.fault.ReplyFault.{ReplyFault}
use Rattle.rpc_message.specs.declared.fault.ReplyFault.TheVariants as faults
use Rattle.rpc_message.specs.Constants.{rpc_version, call_type, reply_type}
use Rattle.rpc_message.specs.Message.{AuthView, AuthSysView, CaseView, Whole, OtherVersion, BadCred, BadVerf, NotACall}
use Rattle.rpc_message.specs.Message.{StatusView, Success, ProgUnavail, ProgMismatch, ProcUnavail, GarbageArgs}
use Rattle.rpc_message.specs.Message.{SystemErr, WhyView, RpcMismatch, AuthError, ReplyView, Accepted, Denied}
use Rattle.xdr_units.specs.Numbers.{gap}

infixl 10 ◌>>=◌
abbrev pub ◌>>=◌ : {A B : Type 0} → Result A ReplyFault → (A → Result B ReplyFault) → Result B ReplyFault
(Ok x) >>= f = f x
(Err e) >>= f = Err e

-- what follows where something was read, and the answer where nothing was
abbrev pub read_or : {A B : Type 0} → Result A ReplyFault → B → (A → B) → B
read_or (Ok x) other next = next x
read_or (Err e) other next = other

-- What a function that takes no memory returned, seen by view, is what reading gives.
abbrev pub Reads : {X Y : Type 0} → (X → Y) → Result X ReplyFault → Result Y ReplyFault → Type 0
Reads view (Ok x) read = read ≡ Ok (view x)
Reads view (Err e) read = read ≡ Err e

-- The same, unless memory ran out.
abbrev pub Fails : {Y : Type 0} → ReplyFault → Result Y ReplyFault → Type 0
Fails faults.NoMemory read = Unit {0}
Fails e read = read ≡ Err e

abbrev pub is_memory : ReplyFault → Bool
is_memory faults.NoMemory = true
is_memory e = false

abbrev pub ReadsOrNoMemory : {X Y : Type 0} → (X → Y) → Result X ReplyFault → Result Y ReplyFault → Type 0
ReadsOrNoMemory view (Ok x) read = read ≡ Ok (view x)
ReadsOrNoMemory view (Err e) read = Fails e read

-- A field is a value and the bytes after it.
unfoldable pub word_at : List ℕ → Result (ℕ × List ℕ) ReplyFault
word_at bytes =
    if nat_lt (length bytes) 4
    then Err faults.Truncated
    else Ok (from_be_bytes w32 (take 4 bytes), drop 4 bytes)

abbrev pub are_zeros : List ℕ → Bool
are_zeros [] = true
are_zeros (zero ∷ bytes) = are_zeros bytes
are_zeros (suc b ∷ bytes) = false

-- the padding of so many bytes
unfoldable pub padding_at : ℕ → List ℕ → Result (List ℕ) ReplyFault
padding_at count bytes =
    if nat_lt (length bytes) (gap count)
    then (if are_zeros bytes then Err faults.Truncated else Err faults.BadAuth)
    else (if are_zeros (take (gap count) bytes) then Ok (drop (gap count) bytes) else Err faults.BadAuth)

unfoldable pub opaque_at : ℕ → List ℕ → Result (List ℕ × List ℕ) ReplyFault
opaque_at most bytes = word_at bytes >>= λ n.
    if nat_lt most n.0 then Err faults.BadAuth
    else if nat_lt (length n.1) n.0 then Err faults.Truncated
    else (padding_at n.0 (drop n.0 n.1) >>= λ rest. Ok (take n.0 n.1, rest))

unfoldable pub auth_at : List ℕ → Result (AuthView × List ℕ) ReplyFault
auth_at bytes = do
  flavor ← word_at bytes
  body ← opaque_at 400 flavor.1
  Ok (record { flavor = flavor.0; body = body.0 }, body.1)

-- ---- calls

-- xid and version of a call
unfoldable pub call_head_at : List ℕ → Result (ℕ × ℕ × List ℕ) ReplyFault
call_head_at bytes = do
  xid ← word_at bytes
  kind ← word_at xid.1
  version ← word_at kind.1
  if kind.0 == call_type then Ok (xid.0, version.0, version.1) else Err faults.NotAReply

unfoldable pub target_at : List ℕ → Result (ℕ × ℕ × ℕ × List ℕ) ReplyFault
target_at bytes = do
  prog ← word_at bytes
  vers ← word_at prog.1
  proc ← word_at vers.1
  Ok (prog.0, vers.0, proc.0, proc.1)

abbrev pub Head : Type 0
Head = ℕ × ℕ × List ℕ

abbrev pub Target : Type 0
Target = ℕ × ℕ × ℕ × List ℕ

abbrev pub whole_case : Head → Target → AuthView × List ℕ → AuthView × List ℕ → CaseView
whole_case h t cred verf =
    Whole (record { xid = h.0; prog = t.0; vers = t.1; proc = t.2; cred = cred.0; verf = verf.0; args = verf.1 })

abbrev pub verf_case : Head → Target → AuthView × List ℕ → CaseView
verf_case h t cred = read_or (auth_at cred.1) (BadVerf h.0) (whole_case h t cred)

abbrev pub cred_case : Head → Target → CaseView
cred_case h t = read_or (auth_at t.3) (BadCred h.0) (verf_case h t)

abbrev pub version_case : Head → CaseView
version_case h = if h.1 == rpc_version then read_or (target_at h.2) NotACall (cred_case h) else OtherVersion h.0 h.1

unfoldable pub case_of : List ℕ → CaseView
case_of bytes = read_or (call_head_at bytes) NotACall version_case

-- ---- replies

abbrev pub ended : {A : Type 0} → List ℕ → A → Result A ReplyFault
ended rest x = if length rest == 0 then Ok x else Err faults.Rest

-- the two numbers that end a reply
unfoldable pub bounds_at : List ℕ → Result (ℕ × ℕ) ReplyFault
bounds_at bytes = do
  low ← word_at bytes
  high ← word_at low.1
  ended high.1 (low.0, high.0)

-- after the number of a status, in the order of accept_stat
unfoldable pub status_at : ℕ → List ℕ → Result StatusView ReplyFault
status_at zero bytes = Ok (Success bytes)
status_at (suc zero) bytes = ended bytes ProgUnavail
status_at (suc (suc zero)) bytes = bounds_at bytes >>= λ b. Ok (ProgMismatch b.0 b.1)
status_at (suc (suc (suc zero))) bytes = ended bytes ProcUnavail
status_at (suc (suc (suc (suc zero)))) bytes = ended bytes GarbageArgs
status_at (suc (suc (suc (suc (suc zero))))) bytes = ended bytes SystemErr
status_at (suc (suc (suc (suc (suc (suc n)))))) bytes = Err faults.BadStatus

-- after the number of a reason, in the order of reject_stat
unfoldable pub why_at : ℕ → List ℕ → Result WhyView ReplyFault
why_at zero bytes = bounds_at bytes >>= λ b. Ok (RpcMismatch b.0 b.1)
why_at (suc zero) bytes = word_at bytes >>= λ stat. ended stat.1 (AuthError stat.0)
why_at (suc (suc n)) bytes = Err faults.BadStatus

unfoldable pub accepted_at : ℕ → List ℕ → Result ReplyView ReplyFault
accepted_at xid bytes = do
  verf ← auth_at bytes
  stat ← word_at verf.1
  s ← status_at stat.0 stat.1
  Ok (Accepted xid verf.0 s)

unfoldable pub denied_at : ℕ → List ℕ → Result ReplyView ReplyFault
denied_at xid bytes = do
  stat ← word_at bytes
  w ← why_at stat.0 stat.1
  Ok (Denied xid w)

-- after the number of a reply, in the order of reply_stat
unfoldable pub reply_stat_at : ℕ → ℕ → List ℕ → Result ReplyView ReplyFault
reply_stat_at xid zero bytes = accepted_at xid bytes
reply_stat_at xid (suc zero) bytes = denied_at xid bytes
reply_stat_at xid (suc (suc n)) bytes = Err faults.BadStatus

unfoldable pub reply_at : List ℕ → Result ReplyView ReplyFault
reply_at bytes = do
  xid ← word_at bytes
  kind ← word_at xid.1
  if kind.0 == reply_type then word_at kind.1 >>= (λ stat. reply_stat_at xid.0 stat.0 stat.1) else Err faults.NotAReply

-- ---- AUTH_SYS

unfoldable pub words_at : ℕ → List ℕ → Result (List ℕ × List ℕ) ReplyFault
words_at zero bytes = Ok ([], bytes)
words_at (suc n) bytes = do
  first ← word_at bytes
  others ← words_at n first.1
  Ok (first.0 ∷ others.0, others.1)

-- at most 16
unfoldable pub gids_at : List ℕ → Result (List ℕ) ReplyFault
gids_at bytes = do
  n ← word_at bytes
  if nat_lt 16 n.0 then Err faults.BadAuth else words_at n.0 n.1 >>= λ xs. ended xs.1 xs.0

unfoldable pub auth_sys_at : List ℕ → Result AuthSysView ReplyFault
auth_sys_at bytes = do
  stamp ← word_at bytes
  machine ← opaque_at 255 stamp.1
  uid ← word_at machine.1
  gid ← word_at uid.1
  gids ← gids_at gid.1
  Ok (record { stamp = stamp.0; machine = machine.0; uid = uid.0; gid = gid.0; gids = gids })
