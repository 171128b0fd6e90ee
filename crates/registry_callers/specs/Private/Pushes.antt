-- What the functions below the answer to a caller write.
use Rattle.std.specs.Prelude.{◌≡◌, ℕ, ◌≤◌, List, ◌++◌, length, Option, Some}
use Rattle.rpc_message.specs.Spelling.{reply}
use Rattle.registry_answer.specs.Answer.{auth_error}
use Rattle.registry_answer.specs.Answering.{most}
use Rattle.registry_answer.specs.declared.answering.Appended.{Appended}
use Rattle.registry_answer.specs.declared.answering.Appended.TheVariants as appended
use Rattle.registry_callers.specs.Callers.{auth_tooweak}
use Rattle.registry_callers.specs.Addresses.{Tells}

-- AUTH_TOOWEAK was written, or memory was refused and the bytes are as they were.
abbrev pub PushesDenial : ℕ → (old out : List ℕ) → Appended → Type 0
PushesDenial xid old out appended.Reply = out ≡ old ++ reply (auth_error xid auth_tooweak)
PushesDenial xid old out (appended.OutOfMemory x) = (out ≡ old) × (x ≡ xid)
PushesDenial xid old out appended.Nothing = ⊥

-- What is sent for a look-up was written, or memory was refused and the bytes are as they were.
abbrev pub PushesTold : Option (List ℕ) → ℕ → (plain old out : List ℕ) → Appended → Type 0
PushesTold host xid plain old out appended.Reply = (bytes : List ℕ) × (Tells host xid (Some plain) (Some bytes)
    × (out ≡ old ++ bytes) × (length plain ≤ most → length bytes ≤ most))
PushesTold host xid plain old out (appended.OutOfMemory x) = (out ≡ old) × (x ≡ xid)
PushesTold host xid plain old out appended.Nothing = ⊥
