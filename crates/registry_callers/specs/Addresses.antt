-- The addresses that are looked up: host 0.0.0.0 stands for each host of the machine (this project's own, after
-- rpcbind's merging of addresses).
use Rattle.std.specs.Prelude.{◌≡◌, ℕ, ◌<◌, ◌^◌, Bool, List, [], ◌∷◌, length, Option, Some, None, if◌then◌else◌}
use Rattle.std.specs.Str.{bytes_eq}
use Rattle.rpc_message.specs.Heads.{accepted}
use Rattle.rpc_message.specs.Message.{Success}
use Rattle.rpc_message.specs.Spelling.{reply, opaque}
use Rattle.registry_uaddr.specs.declared.address.Uaddr.{Uaddr}
use Rattle.registry_uaddr.specs.Uaddrs.{uaddr_of, uaddr_text}

-- the successful reply whose result is this text as a string (RFC 1833 section 2.2.1)
abbrev pub address_reply : (xid : ℕ) → (text : List ℕ) → List ℕ
address_reply xid text = reply (accepted xid (Success (opaque text)))

-- an address at host 0.0.0.0, which is each host of the machine (own)
abbrev pub is_anywhere : Uaddr → Bool
is_anywhere a = bytes_eq a.host (0 ∷ 0 ∷ 0 ∷ 0 ∷ [])

-- the text of the same port at this host (own)
abbrev pub at_host : List ℕ → Uaddr → List ℕ
at_host host a = uaddr_text (record { host = host; port = a.port })

-- how a text that spells an address, or none, is told to a caller who came to this host (own, after rpcbind)
abbrev pub placed_at : (host text : List ℕ) → Option Uaddr → List ℕ
placed_at host text (Some a) = if is_anywhere a then at_host host a else text
placed_at host text None = text

-- the address that is told for a registered one: one at 0.0.0.0 at the host that was called, where that is known, and
-- any other as it is (own, after rpcbind)
abbrev pub told : (host : Option (List ℕ)) → (text : List ℕ) → List ℕ
told (Some host) text = placed_at host text (uaddr_of text)
told None text = text

-- What is sent for a look-up, where the plain registry sends the first of two.
pub data Tells (host : Option (List ℕ)) (xid : ℕ) : Option (List ℕ) → Option (List ℕ) → Type 0 where
  -- an address is told as the caller can use it (own, after rpcbind)
  address : (text : List ℕ) → length text < 2 ^ 32
      → Tells host xid (Some (address_reply xid text)) (Some (address_reply xid (told host text)))
  -- and what is no address stays (own)
  as_it_was : (sent : Option (List ℕ))
      → ((text : List ℕ) → length text < 2 ^ 32 → sent ≡ Some (address_reply xid text) → ⊥) → Tells host xid sent sent
