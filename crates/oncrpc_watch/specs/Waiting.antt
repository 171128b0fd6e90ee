-- Which calls wait for a reply (RFC 5531 section 9: a reply has the xid of its call), and how long each does.
use Rattle.std.specs.Prelude.{◌≡◌, ◌≢◌, ◌↔◌, ◌⊎◌, ℕ, ◌+◌, ◌-◌, ◌*◌, ◌<◌, ◌≤◌, ◌^◌, List, length, AllPairs, Contains}
use Rattle.std.specs.Prelude.{Option, None, Some, IsSome, is_some, if◌then◌else◌}
use Rattle.std.specs.BTreeMap.{btree_map_len, get}
use Rattle.std.specs.Option.{option_or}
use Rattle.std.specs.Ordering.{nat_cmp}
use Rattle.oncrpc_messages.specs.declared.asked.Asked.{Asked}
use Rattle.oncrpc_watch.specs.declared.table.CallTable.{CallTable}
use Rattle.oncrpc_watch.specs.declared.table.TheConstants.{MOST_CALLS}

-- the number under which a call is kept: its way above its xid of 32 bits
abbrev pub key : (way xid : ℕ) → ℕ
key way xid = way * 2 ^ 32 + xid

-- the call that waits on this way for a reply with this xid: of two the one that came last
abbrev pub waiting : CallTable → (way xid : ℕ) → Option Asked
waiting t way xid = option_or (get nat_cmp t.newer (key way xid)) (get nat_cmp t.older (key way xid))

-- So many calls wait: these are their numbers, each once.
pub record HasCalls (t : CallTable) (count : ℕ) : Type 0 where
  pub numbers : List ℕ
  pub apart : AllPairs (λ x y. x ≢ y) numbers
  pub each : (way xid : ℕ) → xid < 2 ^ 32 → Contains numbers (key way xid) ↔ IsSome (waiting t way xid)
  pub count_is : count ≡ length numbers

-- how many more calls can be noted before one is forgotten
abbrev pub spare_of : CallTable → ℕ
spare_of t = MOST_CALLS - btree_map_len t.newer

-- how many more calls can be noted before the one that waits on this way for this xid is forgotten
abbrev pub lasting : CallTable → (way xid : ℕ) → ℕ
lasting t way xid = if is_some (get nat_cmp t.newer (key way xid)) then MOST_CALLS + spare_of t else spare_of t

-- it is another way, or another xid
abbrev pub IsOther : (way xid other_way other_xid : ℕ) → Type 0
IsOther way xid w x = (x < 2 ^ 32) × ((w ≡ way) × (x ≡ xid) → ⊥)

-- it waits as it did, or is forgotten since no more could be noted before; and lasts for one call less at the most
pub record Ages (old new : CallTable) (way xid : ℕ) : Type 0 where
  pub waits : (waiting new way xid ≡ waiting old way xid)
      ⊎ ((waiting new way xid ≡ None) × (lasting old way xid ≡ 0))
  pub lasts : lasting old way xid ≤ 1 + lasting new way xid

-- A call was noted: it waits, and is kept while 65536 more are noted. Each other one is a call older.
pub record Notes (old new : CallTable) (way xid : ℕ) (call : Asked) : Type 0 where
  pub noted : waiting new way xid ≡ Some call
  pub lasts : MOST_CALLS ≤ lasting new way xid
  pub others : (w x : ℕ) → IsOther way xid w x → Ages old new w x
  pub spare : spare_of old ≤ 1 + spare_of new

-- A call was answered: it waits no more. Each other one waits as it did, and for as long at the least.
pub record Answered (old new : CallTable) (way xid : ℕ) : Type 0 where
  pub gone : waiting new way xid ≡ None
  pub others : (w x : ℕ) → IsOther way xid w x → waiting new w x ≡ waiting old w x
  pub lasts : (w x : ℕ) → IsOther way xid w x → lasting old w x ≤ lasting new w x
  pub spare : spare_of old ≤ spare_of new

-- Nothing was changed: the same calls wait, each for as long.
pub record IsSame (old new : CallTable) : Type 0 where
  pub waits : (way xid : ℕ) → waiting new way xid ≡ waiting old way xid
  pub lasts : (way xid : ℕ) → lasting new way xid ≡ lasting old way xid
  pub spare : spare_of new ≡ spare_of old
