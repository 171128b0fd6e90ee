-- A message that is found to be canonical: what was read of it has just these bytes.
use Rattle.std.specs.Prelude.{◌≡◌, ◌⊎◌, ℕ, List, [], ◌∷◌, ◌++◌, Option, None, Some, ⊤}
use Rattle.xdr_types.specs.Kinds.{KindView}
use Rattle.xdr_types.specs.Spelling.{bytes_of}
use Rattle.xdr_types.specs.Tree.{Tree}
use Rattle.xdr_types.specs.Within.{Bounds, FitsWithin}
use Rattle.rpc_message.specs.Message.{AuthView, CallView, ReplyView, StatusView, Accepted, Success}
use Rattle.rpc_message.specs.Spelling.{CallBytes, ReplyBytes}
use Rattle.oncrpc_messages.specs.declared.asked.Asked.{Asked}
use Rattle.oncrpc_messages.specs.declared.page.Said.{Said}
use Rattle.oncrpc_messages.specs.declared.refusal.Verdict.TheVariants as verdict
use Rattle.oncrpc_messages.specs.Asked.{arguments_in, declared_in, places_in}
use Rattle.oncrpc_messages.specs.Messages.{Tells, results_of_call}
use Rattle.oncrpc_messages.specs.Settings.{Settings}

-- the bytes are those of values of these kinds within the limits, one behind another
abbrev pub AreValues : List KindView → Bounds → (places : List ℕ) → (bytes : List ℕ) → Type 0
AreValues kinds limits [] bytes = bytes ≡ []
AreValues kinds limits (k ∷ ks) bytes =
    (v : Tree) × (rest : List ℕ) × FitsWithin kinds k limits v × (bytes ≡ bytes_of kinds k v ++ rest)
    × AreValues kinds limits ks rest

-- the kinds are known, and the bytes are those of values of them
abbrev pub AreValuesIn : Settings → Option (List ℕ) → (bytes : List ℕ) → Type 0
AreValuesIn s None bytes = ⊥
AreValuesIn s (Some places) bytes = AreValues s.declared.schema.kinds s.limits places bytes

-- a body of AUTH_SYS is that of its fields (RFC 5531 appendix A)
abbrev pub IsCanonicalCred : Settings → AuthView → Type 0
IsCanonicalCred s a = a.flavor ≡ 1 → AreValues s.heads.kinds s.limits (s.heads.auth_sys ∷ []) a.body

-- The bytes are those of a call, whose credential and arguments are those of values.
pub record IsCanonicalCall (s : Settings) (bytes : List ℕ) : Type 0 where
  pub call : CallView
  pub spelled : CallBytes call bytes
  pub cred : IsCanonicalCred s call.cred
  pub args : AreValuesIn s (places_in s.declared.schema.kinds call.cred.flavor
      (arguments_in (declared_in s.declared call.prog call.vers call.proc))) call.args

-- results are those of values of the call that is known
abbrev pub AreCanonicalResults : Settings → Option Asked → ReplyView → Type 0
AreCanonicalResults s asked (Accepted xid verf (Success results)) = AreValuesIn s (results_of_call s asked) results
AreCanonicalResults s asked _ = ⊤

-- The bytes are those of a reply, whose results are those of values.
pub record IsCanonicalReply (s : Settings) (asked : Option Asked) (bytes : List ℕ) : Type 0 where
  pub reply : ReplyView
  pub spelled : ReplyBytes reply bytes
  pub results : AreCanonicalResults s asked reply

-- What is found to be canonical is a call or a reply, and all its parts are encodings.
abbrev pub CanonicalIsEncoded : Type 0
CanonicalIsEncoded = (s : Settings) (asked : Option Asked) (bytes text : List ℕ) (said : Said)
    → Tells s asked bytes text verdict.Canonical said → IsCanonicalCall s bytes ⊎ IsCanonicalReply s asked bytes
