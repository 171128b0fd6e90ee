-- Who the owner is.
use Rattle.std.proofs.Common.{◌≡◌, inl, inr, ℕ, ◌+◌, ◌<◌, ◌^◌, ◌%◌, Bool, false, List, [], ◌∷◌, ◌++◌, length}
use Rattle.std.proofs.Common.{get_or, decimal, refl, ap, sym, ◌∙◌, arith, subst, ◌==◌, if◌then◌else◌}
use Rattle.std.proofs.lemmas.Bool.{cases_Bool}
use Rattle.std.proofs.lemmas.Bool.Decides.{Decides-eqb}
use Rattle.std.proofs.lemmas.Fmt.{decimal_by_steps}
use Rattle.rpc_message.specs.Message.{AuthView, AuthSysView}
use Rattle.rpc_message.specs.Spelling.{AuthSysBytes}
use Rattle.registry_rows.specs.Steps.{superuser}
use Rattle.registry_answer.specs.Callers as plain
use Rattle.registry_answer.specs.Callers.{IsCaller, Owner, unknown, owner_of, anyone, user, unreadable, other}
use Rattle.registry_callers.specs.declared.callers.Peer.{Peer}
use Rattle.registry_callers.specs.declared.callers.Peer.TheVariants as peer
use Rattle.registry_callers.specs.Vouching.{Vouches, named, lowered, believed, local, user_cred, ClaimsSuperuser}
use Rattle.registry_callers.specs.Laws.{UserIsOwner, NobodyAfarIsSuperuser}

-- ---- a user of this host

cred_of_user : {cred : AuthView} {p : Peer} {found : AuthView} → Vouches cred p found → (uid : ℕ)
    → p ≡ peer.LocalUser uid → found ≡ user_cred uid
cred_of_user (named u) uid e = let f : u ≡ uid = cc in ap user_cred f
cred_of_user (lowered h) uid e = absurd cc
cred_of_user (believed h) uid e = absurd cc
cred_of_user local uid e = absurd cc

-- the body of that credential
abbrev pub body_of : ℕ → AuthSysView
body_of uid = record { stamp = 0; machine = []; uid = uid; gid = 0; gids = [] }

pub spells : (uid : ℕ) → uid < 2 ^ 32 → AuthSysBytes (body_of uid) (user_cred uid).body
spells uid fits = record {
  fits = record {
    stamp = omega arith;
    machine = omega arith;
    uid = fits;
    gid = omega arith;
    few = omega arith;
    gids =
        λ k d within. absurd (omega (arith, within));
  };
  parts = refl;
}

owns : (uid : ℕ) → uid < 2 ^ 32 → IsCaller (user_cred uid) (Owner (owner_of uid))
owns uid fits = user (body_of uid) refl (spells uid fits)

pub user_is_owner : UserIsOwner
user_is_owner uid c asked fits v =
    subst (λ (cred : AuthView). IsCaller cred (Owner (owner_of uid))) (sym (cred_of_user v.vouches uid refl))
    (owns uid fits)

-- ---- nobody of another host

claims_none : {cred : AuthView} {p : Peer} {found : AuthView} → Vouches cred p found → p ≡ peer.Remote
    → ClaimsSuperuser found → ⊥
claims_none (named u) e k = absurd cc
claims_none (lowered h) e k = omega (arith, k.flavor_is)
claims_none (believed h) e k = h k
claims_none local e k = absurd cc

-- a decimal text begins with a digit
abbrev BeginsWithDigit : List ℕ → Type 0
BeginsWithDigit ds = (0 < length ds) × (get_or ds 0 0 < 58)

begins_more : (ds : List ℕ) (x : ℕ) → BeginsWithDigit ds → BeginsWithDigit (ds ++ x ∷ [])
begins_more [] x h = absurd (omega (arith, h.0))
begins_more (d ∷ ds) x h = (omega arith, h.1)

begins_with_digit : (n : ℕ) → n < 2 ^ 64 → BeginsWithDigit (decimal n)
begins_with_digit n fits = decimal_by_steps (λ m ds. BeginsWithDigit ds)
    (λ m few. (omega arith, omega (arith, few)))
    (λ m ds more h. begins_more ds (48 + m % 10) h) n fits

no_number : (n : ℕ) → n < 2 ^ 64 → decimal n ≡ superuser → ⊥
no_number n fits e =
    let first : get_or superuser 0 0 < 58 =
    subst (λ (ds : List ℕ). get_or ds 0 0 < 58) e (begins_with_digit n fits).1 in
    omega (arith, first)

no_unknown : unknown ≡ superuser → ⊥
no_unknown e = let l : 7 ≡ 9 = ap length e in omega (arith, l)

owner_is : (uid : ℕ) (b : Bool) → (uid == 0) ≡ b → owner_of uid ≡ (if b then superuser else decimal uid)
owner_is uid b e = ap (λ (x : Bool). if x then superuser else decimal uid) e

owner_not : (uid : ℕ) → uid < 2 ^ 64 → (uid ≡ 0 → ⊥) → owner_of uid ≡ superuser → ⊥
owner_not uid fits some e = elim (cases_Bool (uid == 0)) [
  | inl f ↦ some ((Decides-eqb uid 0).0 f)
  | inr f ↦ no_number uid fits (sym (owner_is uid false f) ∙ e)
]

-- an owner whose credential does not claim it is not the superuser
pub not_superuser : (cred : AuthView) (owner : List ℕ) → (ClaimsSuperuser cred → ⊥) → {k : plain.Caller}
    → IsCaller cred k → k ≡ Owner owner → owner ≡ superuser → ⊥
not_superuser cred owner none (anyone e) f g = no_unknown (let h : unknown ≡ owner = cc in h ∙ g)
not_superuser cred owner none (user a e s) f g =
    owner_not a.uid (omega (arith, s.fits.uid)) (λ z. none (record {
      flavor_is = e;
      uid_is = record { body = a; spelled = s; same = z };
    }))
    (let h : owner_of a.uid ≡ owner = cc in h ∙ g)
not_superuser cred owner none (unreadable e n) f g = absurd cc
not_superuser cred owner none (other e) f g = absurd cc

pub nobody_afar_is_superuser : NobodyAfarIsSuperuser
nobody_afar_is_superuser c asked owner v is = not_superuser v.cred owner (claims_none v.vouches refl) is refl
