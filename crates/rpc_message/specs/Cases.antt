-- The five cases of a message that is read as a call (RFC 5531 section 9).
use Rattle.std.specs.Prelude.{◌≡◌, ◌⊎◌, ◌≢◌, ℕ, ◌<◌, List, ◌++◌, length}
use Rattle.rpc_message.specs.Constants.{rpc_version, call_type}
use Rattle.rpc_message.specs.Message.{AuthView, CaseView, Whole, OtherVersion, BadCred, BadVerf, NotACall}
use Rattle.xdr_units.specs.Numbers.{word, AreBytes, IsWord}
use Rattle.rpc_message.specs.Spelling.{auth, IsAuth, CallBytes}

-- No opaque_auth stands in front: it is cut, too long or has other padding (section 8.2).
abbrev pub NoAuth : List ℕ → Type 0
NoAuth bytes = (a : AuthView) (rest : List ℕ) → IsAuth a → bytes ≢ auth a ++ rest

-- A call whose version of RPC is not 2.
pub record IsOtherVersion (xid version : ℕ) (bytes : List ℕ) : Type 0 where
  pub xid_fits : IsWord xid
  pub version_fits : IsWord version
  pub other : version ≢ rpc_version
  pub rest : List ℕ
  pub parts : bytes ≡ word xid ++ word call_type ++ word version ++ rest

-- A call of version 2 up to its procedure, and then no credential.
pub record IsBadCred (xid : ℕ) (bytes : List ℕ) : Type 0 where
  pub prog : ℕ
  pub vers : ℕ
  pub proc : ℕ
  pub rest : List ℕ
  pub fits : IsWord xid × IsWord prog × IsWord vers × IsWord proc
  pub parts : bytes ≡ word xid ++ word call_type ++ word rpc_version ++ word prog ++ word vers ++ word proc ++ rest
  pub bad : NoAuth rest

-- The same up to its credential, and then no verifier.
pub record IsBadVerf (xid : ℕ) (bytes : List ℕ) : Type 0 where
  pub prog : ℕ
  pub vers : ℕ
  pub proc : ℕ
  pub cred : AuthView
  pub rest : List ℕ
  pub fits : IsWord xid × IsWord prog × IsWord vers × IsWord proc
  pub cred_fits : IsAuth cred
  pub parts : bytes ≡ word xid ++ word call_type ++ word rpc_version ++ word prog ++ word vers ++ word proc
      ++ (auth cred ++ rest)
  pub bad : NoAuth rest

-- A second word that is not CALL.
pub record IsOfOtherKind (bytes : List ℕ) : Type 0 where
  pub xid : ℕ
  pub kind : ℕ
  pub rest : List ℕ
  pub fits : IsWord xid × IsWord kind
  pub other : kind ≢ call_type
  pub parts : bytes ≡ word xid ++ word kind ++ rest

-- A call of version 2 with fewer than 24 bytes.
pub record IsShort (bytes : List ℕ) : Type 0 where
  pub xid : ℕ
  pub rest : List ℕ
  pub fits : IsWord xid
  pub parts : bytes ≡ word xid ++ word call_type ++ word rpc_version ++ rest
  pub short : length bytes < 24

-- fewer than 12 bytes, or one of these two
abbrev pub IsNoCall : List ℕ → Type 0
IsNoCall bytes = (length bytes < 12) ⊎ IsOfOtherKind bytes ⊎ IsShort bytes

-- the case of these bytes
abbrev pub IsCase : List ℕ → CaseView → Type 0
IsCase bytes (Whole c) = CallBytes c bytes
IsCase bytes (OtherVersion xid version) = IsOtherVersion xid version bytes
IsCase bytes (BadCred xid) = IsBadCred xid bytes
IsCase bytes (BadVerf xid) = IsBadVerf xid bytes
IsCase bytes NotACall = IsNoCall bytes

-- No bytes are in two of the cases.
abbrev pub NoTwoCases : Type 0
NoTwoCases = (bytes : List ℕ) (j k : CaseView) → AreBytes bytes → IsCase bytes j → IsCase bytes k → j ≡ k
