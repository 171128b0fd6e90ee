-- What reading and writing universal addresses does (RFC 5665 section 5.2.3.3).
use Rattle.std.specs.Prelude.{◌≡◌, ℕ, List, Option, Some, None, replicate}
use Rattle.registry_uaddr.specs.declared.address.Uaddr.{Uaddr}
use Rattle.registry_uaddr.specs.Uaddrs.{uaddr_text}
use Rattle.c_registry.specs.declared.answer.Answer.{Answer}
use Rattle.c_registry.specs.declared.answer.Answer.TheVariants as answer
use Rattle.c_registry.specs.Buffers.{IsPlaced}

-- the address of this host and this port
abbrev pub address_of : (host : List ℕ) → (port : ℕ) → Uaddr
address_of host port = record { host = host; port = port }

-- the status with the address that a text has, if it has one
abbrev pub reported_of : Option Uaddr → ℕ × Uaddr
reported_of (Some a) = (0, a)
reported_of None = (25, address_of (replicate 4 0) 0)

-- the text of the address goes into the buffer, or does not; or memory was refused, and nothing is written
abbrev pub IsAddressWritten : Uaddr → (old new : List ℕ) → Answer → Type 0
IsAddressWritten a old new answer.NoMemory = new ≡ old
IsAddressWritten a old new b = IsPlaced (uaddr_text a) old new b
