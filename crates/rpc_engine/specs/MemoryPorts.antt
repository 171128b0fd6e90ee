-- What a port over lent memory reports, and how it answers a call.
use Rattle.std.specs.Prelude.{◌≡◌, ℕ, ◌+◌, ◌<◌, ◌⊎◌, List, length, Ok, Err, Result, Option}
use Rattle.xdr_io.specs.Memory.{IsDue}
use Rattle.rpc_engine.specs.declared.memory_port.MemoryPort.{MemoryPort}

-- A port before its first call, with slices of these lengths, of which this call fails.
pub record IsFresh (port : MemoryPort) (buffer sizes : List ℕ) (failing : Option ℕ) : Type 0 where
  pub buffer_same : length port.buffer.now ≡ length buffer
  pub sizes_same : length port.sizes.now ≡ length sizes
  pub failing_is : port.failing ≡ failing
  pub uncalled : port.calls ≡ 0

-- no datagram is left
abbrev pub IsEmpty : MemoryPort → Type 0
IsEmpty port = length port.waiting.now ≡ port.next

-- the slices have no space for the datagram
abbrev pub IsFull : MemoryPort → List ℕ → Type 0
IsFull port datagram = (length port.buffer.now < port.used + length datagram) ⊎ (length port.sizes.now ≡ port.count)

-- A receive fails exactly where it is the call that fails or no datagram is left.
abbrev pub ReceiveAnswers : {E : Type 0} → MemoryPort → Result ℕ E → Type 0
ReceiveAnswers old (Ok n) = (IsDue old.failing old.calls → ⊥) × (IsEmpty old → ⊥)
ReceiveAnswers old (Err e) = IsDue old.failing old.calls ⊎ IsEmpty old

-- A send fails exactly where it is the call that fails or there is no space for the datagram.
abbrev pub SendAnswers : {T E : Type 0} → MemoryPort → Result T E → List ℕ → Type 0
SendAnswers old (Ok u) datagram = (IsDue old.failing old.calls → ⊥) × (IsFull old datagram → ⊥)
SendAnswers old (Err e) datagram = IsDue old.failing old.calls ⊎ IsFull old datagram

-- the datagrams, the buffers and the call that fails stay
abbrev pub SamePort : MemoryPort → MemoryPort → Type 0
SamePort old new =
    (new.waiting.now ≡ old.waiting.now) × (length new.buffer.now ≡ length old.buffer.now)
    × (length new.sizes.now ≡ length old.sizes.now) × (new.failing ≡ old.failing)
