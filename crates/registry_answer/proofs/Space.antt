-- A long reply is the results of a procedure that leaves the rows.
use Rattle.std.proofs.Common.{◌≡◌, ℕ, zero, suc, ◌+◌, ◌-◌, ◌<◌, ◌⊎◌, inl, inr, Bool, true, false, not, ◌&&◌, cond, List}
use Rattle.std.proofs.Common.{[], ◌∷◌, ◌++◌, length, Option, Some, None, is_some, refl, ap, sym, ◌∙◌, subst, arith}
use Rattle.std.proofs.Common.{nat_eq, nat_lt, slice_get, true≢false}
use Rattle.std.specs.Str.{bytes_eq}
use Rattle.std.proofs.lemmas.Bool.{and_parts}
use Rattle.std.proofs.lemmas.Bool.Decides.{Decides-ltb}
use Rattle.std.specs.List.{AllByRecursion}
use Rattle.std.proofs.lemmas.List.{length-append}
use Rattle.xdr_types.specs.Tree.{Tree}
use Rattle.xdr_types.specs.Spelling.{bytes_of}
use Rattle.rpc_message.specs.Heads.{accepted, accepted_head}
use Rattle.rpc_message.specs.Message.{CallView, StatusView, Success, SystemErr}
use Rattle.rpc_message.specs.Spelling.{reply}
use Rattle.xdr_units.specs.Numbers.{IsWord}
use Rattle.registry_rows.specs.Rows.{Row}
use Rattle.registry_rows.specs.Ports.{udp}
use Rattle.registry_dumps.specs.Dir.{dir_kinds}
use Rattle.registry_answer.specs.Procedures.{Procedure, procedures_2, procedures_3, getversaddr_4, procedure_at}
use Rattle.registry_answer.specs.Answer.{ComesTo, no_program, no_version, no_procedure, garbage, success}
use Rattle.registry_answer.specs.Answer.{is_too_long}
use Rattle.registry_answer.specs.Callers.{Owner, IsCaller}
use Rattle.registry_answer.specs.Private.Pushes.{PushesStatus, PushesCall}
use Rattle.registry_answer.proofs.Calls.{pushes_too_long}

-- the procedure leaves the rows, or its results are one unit
abbrev LeavesOrReports : Procedure → Type 0
LeavesOrReports p =
    (rows : List Row) (netid owner : List ℕ) (t : Tree)
    → ((p.step rows netid owner t).0 ≡ rows) ⊎ (length (bytes_of dir_kinds p.gives (p.step rows netid owner t).1) ≡ 4)

all_2 : AllByRecursion LeavesOrReports procedures_2
all_2 = (
  λ rows netid owner t. inl refl,
  (
    λ rows netid owner t. inr refl,
    (λ rows netid owner t. inr refl, (λ rows netid owner t. inl refl, (λ rows netid owner t. inl refl, tt))),
  ),
)

all_3 : AllByRecursion LeavesOrReports procedures_3
all_3 = (
  λ rows netid owner t. inl refl,
  (
    λ rows netid owner t. inr refl,
    (λ rows netid owner t. inr refl, (λ rows netid owner t. inl refl, (λ rows netid owner t. inl refl, tt))),
  ),
)

abbrev the : Procedure → Option Procedure → Procedure
the d None = d
the d (Some p) = p

of_table : (ps : List Procedure) → AllByRecursion LeavesOrReports ps → (n : ℕ) (p : Procedure) → slice_get ps n ≡ Some p
    → LeavesOrReports p
of_table [] h n p e = absurd (true≢false (sym (ap is_some e)))
of_table (q ∷ qs) h zero p e = subst LeavesOrReports (ap (the q) e) h.0
of_table (q ∷ qs) h (suc n) p e = of_table qs h.1 n p e

each : (vers proc : ℕ) (p : Procedure) → procedure_at vers proc ≡ Some p → LeavesOrReports p
each vers proc p e = by (nat_eq vers 4 && nat_eq proc 9) (nat_eq vers 2) e
  where
    by : (a b : Bool)
        → cond a (Some getversaddr_4) (slice_get (cond b procedures_2 procedures_3) proc) ≡ Some p → LeavesOrReports p
    by true b f = subst LeavesOrReports (ap (the getversaddr_4) f) (λ rows netid owner t. inl refl)
    by false true f = of_table procedures_2 all_2 proc p f
    by false false f = of_table procedures_3 all_3 proc p f

-- A reply of more than 65507 bytes is one of results, and the rows are as they were.
pub long_leaves : (rows : List Row) (netid owner : List ℕ) (c : CallView) {new : List Row} {status : StatusView}
    → ComesTo rows netid owner c new status → 65507 < length (reply (accepted c.xid status))
    → (new ≡ rows) × ((results : List ℕ) × (status ≡ Success results))
long_leaves rows netid owner c (no_program e) long = absurd (omega (arith, long))
long_leaves rows netid owner c (no_version e v) long = absurd (omega (arith, long))
long_leaves rows netid owner c (no_procedure e v n) long = absurd (omega (arith, long))
long_leaves rows netid owner c (garbage p is g) long = absurd (omega (arith, long))
long_leaves rows netid owner c (success p t is are) long =
    let results = bytes_of dir_kinds p.gives (p.step rows netid owner t).1 in
    let count : length (accepted_head c.xid 0 ++ results) ≡ 24 + length results =
    length-append (accepted_head c.xid 0) results in
    let same : (p.step rows netid owner t).0 ≡ rows =
    elim (each c.vers c.proc p is.procedure_is rows netid owner t) [
      | inl e ↦ e
      | inr f ↦ absurd (omega (arith, long, count, f))
    ] in
    (same, (results, refl))

not_not : (b t : Bool) → t ≡ not b → (u : Bool) → t ≡ u → b ≡ not u
not_not true t e u f = sym (ap not (sym f ∙ e))
not_not false t e u f = sym (ap not (sym f ∙ e))

-- what is known of a reply by its count of bytes
pub space_of : (netid old mid said : List ℕ) (n m : ℕ) (b t : Bool) → mid ≡ old ++ said → n ≡ length mid
    → m ≡ length old → b ≡ not (is_too_long netid (n - m)) → b ≡ t → is_too_long netid (length said) ≡ not t
space_of netid old mid said n m b t added len before e f =
    let joined : length (old ++ said) ≡ length old + length said = length-append old said in
    let count : n - m ≡ length said = omega (arith, ap length added, joined, len, before) in
    ap (is_too_long netid) (sym count) ∙ not_not (is_too_long netid (n - m)) b e t f

pub too_long_is_long : (netid : List ℕ) (count : ℕ) → is_too_long netid count ≡ true → 65507 < count
too_long_is_long netid count e = (Decides-ltb 65507 count).0 (and_parts (bytes_eq netid udp) (nat_lt 65507 count) e).1

module _ (rows : List Row) (netid owner : List ℕ) (c : CallView) (old mid : List ℕ) (new : List Row) (n m : ℕ)
    (b : Bool)
    (k : PushesStatus rows netid owner c old new mid) (len : n ≡ length mid) (before : m ≡ length old)
    (carries : b ≡ not (is_too_long netid (n - m))) where
  pub has_space : b ≡ true → is_too_long netid (length (reply (accepted c.xid k.status))) ≡ false
  has_space f = space_of netid old mid (reply (accepted c.xid k.status)) n m b true k.added len before carries f

  module _ (f : b ≡ false) where
    pub has_none : is_too_long netid (length (reply (accepted c.xid k.status))) ≡ true
    has_none = space_of netid old mid (reply (accepted c.xid k.status)) n m b false k.added len before carries f

    leaves : (new ≡ rows) × ((results : List ℕ) × (k.status ≡ Success results))
    leaves = long_leaves rows netid owner c k.comes (too_long_is_long netid _ has_none)

    -- The reply is cut to SYSTEM_ERR.
    module _ (out : List ℕ) (cut : (old results : List ℕ) (xid : ℕ) → length old ≡ m
        → mid ≡ old ++ (accepted_head xid 0 ++ results) → out ≡ old ++ reply (accepted xid SystemErr)) where
      pub cut_behind : out ≡ old ++ reply (accepted c.xid SystemErr)
      cut_behind = cut old leaves.1.0 c.xid (sym before)
          (k.added ∙ ap (λ (s : StatusView). old ++ reply (accepted c.xid s)) leaves.1.1)

      pub pushes_cut : IsWord c.xid → IsCaller c.cred (Owner owner) → PushesCall rows netid c old new out
      pushes_cut word is = pushes_too_long rows netid owner c old mid out new word is k has_none leaves.0 cut_behind
