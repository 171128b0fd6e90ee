-- What stands in the bytes of the examples.
use Rattle.std.proofs.Common.{◌≡◌, ℕ, List, [], ◌∷◌, ◌++◌, length, get_or, Result, Ok}
use Rattle.std.proofs.Common.{Err, refl, ap, arith, inl, inr}
use Rattle.std.specs.Prelude.{OnErr, IsOk}
use Rattle.xdr_units.specs.Numbers.{word, padded}
use Rattle.xdr_units.proofs.Bytes.{same_word}
use Rattle.rpc_message.specs.Message.{CallView}
use Rattle.rpc_message.specs.Spelling.{auth, CallBytes}
use Rattle.rpc_message.specs.Cases.{NoAuth, IsOtherVersion, IsBadCred, IsBadVerf, IsNoCall}

-- the third word of a call is 2
version_is_two : (c : CallView) (bytes : List ℕ) → CallBytes c bytes → get_or bytes 11 0 ≡ 2
version_is_two c bytes h = ap (λ (t : List ℕ). get_or t 11 0) h.parts

-- where it is another number, an allocation failure is no answer
pub takes_none : {A E : Type 0} (r : Result A E) (bytes : List ℕ) → get_or bytes 11 0 ≡ 3
    → OnErr r ((c : CallView) × CallBytes c bytes) → IsOk r
takes_none (Ok x) bytes three h = refl
takes_none (Err e) bytes three h =
    let two : get_or bytes 11 0 ≡ 2 = version_is_two h.0 bytes h.1 in
    absurd (omega (arith, two, three))

pub version_three : (bytes : List ℕ) → bytes ≡ 0 ∷ 0 ∷ 0 ∷ 2 ∷ 0 ∷ 0 ∷ 0 ∷ 0 ∷ 0 ∷ 0 ∷ 0 ∷ 3 ∷ []
    → IsOtherVersion 2 3 bytes
version_three bytes e = record {
  xid_fits = omega arith;
  version_fits = omega arith;
  other = λ (same : 3 ≡ 2). omega (arith, same);
  rest = [];
  parts = e;
}

pub another_type : (bytes : List ℕ) → bytes ≡ 0 ∷ 0 ∷ 0 ∷ 1 ∷ 0 ∷ 0 ∷ 0 ∷ 1 ∷ 0 ∷ 0 ∷ 0 ∷ 3 ∷ [] → IsNoCall bytes
another_type bytes e = inr (inl (record {
  xid = 1;
  kind = 1;
  rest = 0 ∷ 0 ∷ 0 ∷ 3 ∷ [];
  fits = (omega arith, omega arith);
  other = λ (same : 1 ≡ 0). omega (arith, same);
  parts = e;
}))

pub no_procedure : (bytes : List ℕ) → bytes ≡ 0 ∷ 0 ∷ 0 ∷ 1 ∷ 0 ∷ 0 ∷ 0 ∷ 0 ∷ 0 ∷ 0 ∷ 0 ∷ 2 ∷ 0 ∷ 1 ∷ 134 ∷ 160 ∷ 0 ∷ 0
    ∷ 0 ∷ 2 ∷ [] → IsNoCall bytes
no_procedure bytes e =
    let size : length bytes ≡ 20 = ap length e in
    inr (inr (record {
      xid = 1;
      rest = 0 ∷ 1 ∷ 134 ∷ 160 ∷ 0 ∷ 0 ∷ 0 ∷ 2 ∷ [];
      fits = omega arith;
      parts = e;
      short = omega (arith, size);
    }))

-- the null call up to its credential, and what follows
abbrev pub null_front : List ℕ → List ℕ
null_front rest = 0 ∷ 0 ∷ 0 ∷ 1 ∷ 0 ∷ 0 ∷ 0 ∷ 0 ∷ 0 ∷ 0 ∷ 0 ∷ 2 ∷ 0 ∷ 1 ∷ 134 ∷ 160 ∷ 0 ∷ 0 ∷ 0 ∷ 2 ∷ 0 ∷ 0 ∷ 0 ∷ 0
    ∷ rest

nothing_is_no_auth : NoAuth []
nothing_is_no_auth = λ a rest fits e. let size : 0 ≡ length (auth a ++ rest) = ap length e in absurd cc

pub long_is_no_auth : NoAuth (word 0 ++ word 401)
long_is_no_auth = λ a rest fits e.
    let parts : word 0 ++ (word 401 ++ []) ≡ word a.flavor ++ (word (length a.body) ++ (padded a.body ++ rest)) = e in
    let behind = (same_word 0 a.flavor (word 401 ++ []) (word (length a.body) ++ (padded a.body ++ rest))
    (omega arith) fits.flavor parts).1 in
    let size : 401 ≡ length a.body = (same_word 401 (length a.body) [] (padded a.body ++ rest) (omega arith)
    (omega (arith, fits.short)) behind).0 in
    omega (arith, size, fits.short)

no_credential : (bytes rest : List ℕ) → bytes ≡ null_front rest → NoAuth rest → IsBadCred 1 bytes
no_credential bytes rest e bad = record {
  prog = 100000;
  vers = 2;
  proc = 0;
  rest = rest;
  fits = (omega arith, omega arith, omega arith, omega arith);
  parts = e;
  bad = bad;
}

pub missing_credential : (bytes : List ℕ) → bytes ≡ null_front [] → IsBadCred 1 bytes
missing_credential bytes e = no_credential bytes [] e nothing_is_no_auth

pub long_credential : (bytes : List ℕ) → bytes ≡ null_front (word 0 ++ word 401) → IsBadCred 1 bytes
long_credential bytes e = no_credential bytes (word 0 ++ word 401) e long_is_no_auth

no_verifier : (bytes rest : List ℕ) → bytes ≡ null_front (word 0 ++ (word 0 ++ rest)) → NoAuth rest → IsBadVerf 1 bytes
no_verifier bytes rest e bad = record {
  prog = 100000;
  vers = 2;
  proc = 0;
  cred = record { flavor = 0; body = [] };
  rest = rest;
  fits = (omega arith, omega arith, omega arith, omega arith);
  cred_fits = record { flavor = omega arith; short = omega arith };
  parts = e;
  bad = bad;
}

pub missing_verifier : (bytes : List ℕ) → bytes ≡ null_front (word 0 ++ word 0) → IsBadVerf 1 bytes
missing_verifier bytes e = no_verifier bytes [] e nothing_is_no_auth

pub long_verifier : (bytes : List ℕ) → bytes ≡ null_front (word 0 ++ (word 0 ++ (word 0 ++ word 401)))
    → IsBadVerf 1 bytes
long_verifier bytes e = no_verifier bytes (word 0 ++ word 401) e long_is_no_auth
