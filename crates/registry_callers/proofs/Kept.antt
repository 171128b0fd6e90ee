-- Which rows the plain answer keeps: each where the record is no change, and the superuser's where another calls.
use Rattle.std.proofs.Common.{◌≡◌, inl, inr, ℕ, zero, suc, ◌-◌, ◌^◌, Bool, true, false, not, ◌&&◌, ◌||◌, cond, List}
use Rattle.std.proofs.Common.{[], ◌∷◌, ◌++◌, Option, Some, None, is_some, slice_get, nat_eq, nat_le, if◌then◌else◌}
use Rattle.std.proofs.Common.{refl, ap, sym, ◌∙◌, subst, true≢false}
use Rattle.std.specs.List.{list_any, AllByRecursion}
use Rattle.std.specs.Str.{bytes_eq}
use Rattle.std.proofs.lemmas.Bool.{cases_Bool, le-leb}
use Rattle.std.proofs.lemmas.Bool.Decides.{Decides-eqb}
use Rattle.std.proofs.lemmas.List.Folds.{list_any-append}
use Rattle.std.proofs.lemmas.Option.{same_Some}
use Rattle.std.proofs.lemmas.Slice.Eq.{bytes_eq-Decides}
use Rattle.xdr_types.specs.Tree.{Tree}
use Rattle.rpc_message.specs.Message.{CallView, CaseView, ReplyView, StatusView}
use Rattle.rpc_message.specs.Spelling.{CallBytes}
use Rattle.rpc_message.specs.Cases.{IsCase}
use Rattle.registry_rows.specs.Rows.{Row, row_of, is_of, is_at}
use Rattle.registry_rows.specs.Steps.{Step, superuser, is_empty, may_add, set, may_remove, without, is_unset}
use Rattle.registry_rows.specs.Ports.{tcp, udp, netid_of_prot, at_port, set_at, is_unset_port}
use Rattle.registry_rows.specs.Program.{program, lowest_version, highest_version}
use Rattle.registry_answer.specs.Callers.{IsCaller, Owner}
use Rattle.registry_answer.specs.Procedures.{Procedure, procedure_at, procedures_2, procedures_3, null, set_2, unset_2}
use Rattle.registry_answer.specs.Procedures.{getport_2, dump_2, set_3, unset_3, getaddr_3, dump_3, getversaddr_4}
use Rattle.registry_answer.specs.Procedures.{prog_of_mapping, vers_of_mapping, prot_of_mapping, port_of_mapping}
use Rattle.registry_answer.specs.Procedures.{prog_of_rpcb, vers_of_rpcb, netid_of_rpcb, address_of_rpcb}
use Rattle.registry_answer.specs.Answer.{IsCallOf, ComesTo, no_program, no_version, no_procedure, garbage, success}
use Rattle.registry_answer.specs.Answer.{AnswersCall, denies, accepts, too_long, Answers, silence, other_version}
use Rattle.registry_answer.specs.Answer.{bad_cred, bad_verf, call, no_memory, Answer}
use Rattle.registry_callers.specs.Asking.{is_registry, is_change}
use Rattle.registry_callers.specs.From.{is_same}
use Rattle.registry_callers.proofs.Tests.{second_true, both_true, second_false, both_false, first_of_two}
use Rattle.registry_callers.proofs.Tests.{second_of_two}

-- ---- a record that is no change

module _ (c : CallView) (p : Procedure) (is : IsCallOf c p) (none : is_change c ≡ false) where
  registry_is : is_registry c ≡ true
  registry_is = both_true (nat_eq c.prog program) (nat_le lowest_version c.vers && nat_le c.vers highest_version)
      ((Decides-eqb c.prog program).1 is.program_is)
      (both_true (nat_le lowest_version c.vers) (nat_le c.vers highest_version)
      (le-leb lowest_version c.vers is.version.0) (le-leb c.vers highest_version is.version.1))

  not_one_of_two : (nat_eq c.proc 1 || nat_eq c.proc 2) ≡ true → ⊥
  not_one_of_two e =
      true≢false (sym (both_true (is_registry c) (nat_eq c.proc 1 || nat_eq c.proc 2) registry_is e) ∙ none)

  not_first : c.proc ≡ 1 → ⊥
  not_first e = not_one_of_two (first_of_two (nat_eq c.proc 1) (nat_eq c.proc 2) ((Decides-eqb c.proc 1).1 e))

  not_second : c.proc ≡ 2 → ⊥
  not_second e = not_one_of_two (second_of_two (nat_eq c.proc 1) (nat_eq c.proc 2) ((Decides-eqb c.proc 2).1 e))

module _ (rows : List Row) (netid owner : List ℕ) (t : Tree) where
  -- a procedure that changes no row
  abbrev Keeps : Procedure → Type 0
  Keeps p = (p.step rows netid owner t).0 ≡ rows

  -- the first, the fourth or the last of five
  of_five : (a b d e f : Procedure) → Keeps a → Keeps e → Keeps f → (n : ℕ) → (n ≡ 1 → ⊥) → (n ≡ 2 → ⊥)
      → (p : Procedure) → slice_get (a ∷ b ∷ d ∷ e ∷ f ∷ []) n ≡ Some p → Keeps p
  of_five a b d e f g h k zero one two p is = subst (λ (x : Procedure). Keeps x) (same_Some a p is) g
  of_five a b d e f g h k (suc zero) one two p is = absurd (one refl)
  of_five a b d e f g h k (suc (suc zero)) one two p is = absurd (two refl)
  of_five a b d e f g h k (suc (suc (suc zero))) one two p is =
      subst (λ (x : Procedure). Keeps x) (same_Some e p is) h
  of_five a b d e f g h k (suc (suc (suc (suc zero)))) one two p is =
      subst (λ (x : Procedure). Keeps x) (same_Some f p is) k
  of_five a b d e f g h k (suc (suc (suc (suc (suc n))))) one two p is = absurd (true≢false (sym (ap is_some is)))

  keeps : (vers proc : ℕ) → (proc ≡ 1 → ⊥) → (proc ≡ 2 → ⊥) → (p : Procedure) → procedure_at vers proc ≡ Some p
      → Keeps p
  keeps vers proc one two p is = by (nat_eq vers 4 && nat_eq proc 9) (nat_eq vers 2) is
    where
      by : (a b : Bool)
          → cond a (Some getversaddr_4) (slice_get (cond b procedures_2 procedures_3) proc) ≡ Some p → Keeps p
      by true b e = subst (λ (x : Procedure). Keeps x) (same_Some getversaddr_4 p e) refl
      by false true e = of_five null set_2 unset_2 getport_2 dump_2 refl refl refl proc one two p e
      by false false e = of_five null set_3 unset_3 getaddr_3 dump_3 refl refl refl proc one two p e

module _ (rows : List Row) (netid : List ℕ) (c : CallView) (none : is_change c ≡ false) where
  comes_stays : {owner : List ℕ} {new : List Row} {s : StatusView} → ComesTo rows netid owner c new s → new ≡ rows
  comes_stays (no_program n) = refl
  comes_stays (no_version e v) = refl
  comes_stays (no_procedure e v n) = refl
  comes_stays (garbage p is a) = refl
  comes_stays {owner} (success p t is a) =
      keeps rows netid owner t c.vers c.proc (not_first c p is none) (not_second c p is none) p is.procedure_is

  call_stays : {new : List Row} {said : ReplyView} → AnswersCall rows netid c new said → new ≡ rows
  call_stays (denies s h) = refl
  call_stays (accepts owner new status h come fits) = comes_stays come
  call_stays (too_long owner new status h come long) = refl

module _ (rows : List Row) (netid message : List ℕ)
    (none : (c : CallView) → CallBytes c message → is_change c ≡ false) where
  case_stays : {k : CaseView} {refused : Bool} {new : List Row} {said : Option ReplyView}
      → Answers rows netid k refused new said → IsCase message k → new ≡ rows
  case_stays (silence refused) read = refl
  case_stays (other_version xid version) read = refl
  case_stays (bad_cred xid) read = refl
  case_stays (bad_verf xid) read = refl
  case_stays (call c new said h) read = call_stays rows netid c (none c read) h
  case_stays (no_memory k xid e) read = refl

  pub no_change_stays : (refused : Bool) (new : List Row) (sent : Option (List ℕ))
      → Answer rows netid message refused new sent → new ≡ rows
  no_change_stays refused new sent a = case_stays a.answers a.read

-- ---- a row that each step keeps

-- the rows have one as this
abbrev pub Has : Row → List Row → Type 0
Has r rows = list_any (is_same r) rows ≡ true

one_of_steps : (r : Row) (b : Bool) (s t : Step) → Has r s.0 → Has r t.0 → Has r (if b then s else t).0
one_of_steps r true s t h k = h
one_of_steps r false s t h k = k

set_keeps : (r : Row) (rows : List Row) (x : Row) → Has r rows → Has r (set rows x).0
set_keeps r rows x h =
    let more : Has r (rows ++ x ∷ []) = list_any-append (is_same r) rows (x ∷ [])
    ∙ first_of_two (list_any (is_same r) rows) (list_any (is_same r) (x ∷ [])) h in
    one_of_steps r (may_add rows x) (rows ++ x ∷ [], true) (rows, false) more h

set_at_keeps : (r : Row) (rows : List Row) (prog vers port : ℕ) (owner : List ℕ) (netid : Option (List ℕ))
    → Has r rows → Has r (set_at rows prog vers port owner netid).0
set_at_keeps r rows prog vers port owner None h = h
set_at_keeps r rows prog vers port owner (Some netid) h =
    let x : Row = row_of prog vers netid (at_port port) owner in
    one_of_steps r (nat_le port (2 ^ 16 - 1)) (set rows x) (rows, false) (set_keeps r rows x h) h

-- a test names no row as this
abbrev Spares : Row → (Row → Bool) → Type 0
Spares r test = (s : Row) → is_same r s ≡ true → test s ≡ false

without_keeps : (r : Row) (test : Row → Bool) → Spares r test → (rows : List Row) → Has r rows
    → Has r (without test rows).0
without_keeps r test spares [] h = h
without_keeps r test spares (s ∷ rest) h =
    by (is_same r s) (test s) refl refl (without_keeps r test spares rest) h
  where
    by : (a b : Bool) → is_same r s ≡ a → test s ≡ b → (Has r rest → Has r (without test rest).0)
        → (a || list_any (is_same r) rest) ≡ true
        → Has r (cond (not b) (s ∷ (without test rest).0) (without test rest).0)
    by true true e f more g = absurd (true≢false (sym f ∙ spares s e))
    by true false e f more g = first_of_two (is_same r s) (list_any (is_same r) (without test rest).0) e
    by false true e f more g = more g
    by false false e f more g = second_of_two (is_same r s) (list_any (is_same r) (without test rest).0) (more g)

-- ---- a row of the superuser, and another owner

bytes_apart : (a b : List ℕ) → (a ≡ b → ⊥) → bytes_eq a b ≡ false
bytes_apart a b apart = elim (cases_Bool (bytes_eq a b)) [
  | inl e ↦ absurd (apart ((bytes_eq-Decides a b).0 e))
  | inr e ↦ e
]

module _ (r : Row) (owned : r.owner ≡ superuser) (owner : List ℕ) (another : owner ≡ superuser → ⊥) where
  may_not_remove : Spares r (may_remove owner)
  may_not_remove s same =
      let alike = second_true (is_at r.prog r.vers r.netid s) (bytes_eq r.address s.address && bytes_eq r.owner s.owner)
      same in
      let e : r.owner ≡ s.owner = (bytes_eq-Decides r.owner s.owner).0
      (second_true (bytes_eq r.address s.address) (bytes_eq r.owner s.owner) alike) in
      both_false (bytes_eq owner s.owner) (bytes_eq owner superuser)
      (bytes_apart owner s.owner (λ f. another (f ∙ sym e ∙ owned))) (bytes_apart owner superuser another)

  unset_spares : (prog vers : ℕ) (netid : List ℕ) → Spares r (is_unset prog vers netid owner)
  unset_spares prog vers netid s same =
      second_false (is_of prog vers s && (is_empty netid || bytes_eq netid s.netid)) (may_remove owner s)
      (may_not_remove s same)

  unset_port_spares : (prog vers : ℕ) → Spares r (is_unset_port prog vers owner)
  unset_port_spares prog vers s same =
      both_false (is_unset prog vers tcp owner s) (is_unset prog vers udp owner s) (unset_spares prog vers tcp s same)
      (unset_spares prog vers udp s same)

  -- a procedure that keeps it
  abbrev Stays : Procedure → Type 0
  Stays p = (rows : List Row) (netid : List ℕ) (t : Tree) → Has r rows → Has r (p.step rows netid owner t).0

  set_2_stays : Stays set_2
  set_2_stays rows netid t h =
      set_at_keeps r rows (prog_of_mapping t) (vers_of_mapping t) (port_of_mapping t) owner
      (netid_of_prot (prot_of_mapping t)) h

  unset_2_stays : Stays unset_2
  unset_2_stays rows netid t h =
      without_keeps r (is_unset_port (prog_of_mapping t) (vers_of_mapping t) owner)
      (unset_port_spares (prog_of_mapping t) (vers_of_mapping t)) rows h

  set_3_stays : Stays set_3
  set_3_stays rows netid t h =
      set_keeps r rows (row_of (prog_of_rpcb t) (vers_of_rpcb t) (netid_of_rpcb t) (address_of_rpcb t) owner) h

  unset_3_stays : Stays unset_3
  unset_3_stays rows netid t h =
      without_keeps r (is_unset (prog_of_rpcb t) (vers_of_rpcb t) (netid_of_rpcb t) owner)
      (unset_spares (prog_of_rpcb t) (vers_of_rpcb t) (netid_of_rpcb t)) rows h

  all_2 : AllByRecursion Stays procedures_2
  all_2 =
      (λ rows netid t h. h, (set_2_stays, (unset_2_stays, (λ rows netid t h. h, (λ rows netid t h. h, tt)))))

  all_3 : AllByRecursion Stays procedures_3
  all_3 =
      (λ rows netid t h. h, (set_3_stays, (unset_3_stays, (λ rows netid t h. h, (λ rows netid t h. h, tt)))))

  of_table : (ps : List Procedure) → AllByRecursion Stays ps → (n : ℕ) (p : Procedure) → slice_get ps n ≡ Some p
      → Stays p
  of_table [] all n p e = absurd (true≢false (sym (ap is_some e)))
  of_table (q ∷ qs) all zero p e = subst (λ (x : Procedure). Stays x) (same_Some q p e) all.0
  of_table (q ∷ qs) all (suc n) p e = of_table qs all.1 n p e

  stays : (vers proc : ℕ) (p : Procedure) → procedure_at vers proc ≡ Some p → Stays p
  stays vers proc p is = by (nat_eq vers 4 && nat_eq proc 9) (nat_eq vers 2) is
    where
      by : (a b : Bool)
          → cond a (Some getversaddr_4) (slice_get (cond b procedures_2 procedures_3) proc) ≡ Some p → Stays p
      by true b e = subst (λ (x : Procedure). Stays x) (same_Some getversaddr_4 p e) (λ rows netid t h. h)
      by false true e = of_table procedures_2 all_2 proc p e
      by false false e = of_table procedures_3 all_3 proc p e

  comes_with : (rows : List Row) (netid : List ℕ) (c : CallView) → Has r rows → {new : List Row} {s : StatusView}
      → ComesTo rows netid owner c new s → Has r new
  comes_with rows netid c there (no_program n) = there
  comes_with rows netid c there (no_version e v) = there
  comes_with rows netid c there (no_procedure e v n) = there
  comes_with rows netid c there (garbage p is a) = there
  comes_with rows netid c there (success p t is a) = stays c.vers c.proc p is.procedure_is rows netid t there

-- whoever is believed to send these bytes is not the superuser
abbrev pub AreAnothers : List ℕ → Type 0
AreAnothers message =
    (c : CallView) (owner : List ℕ) → CallBytes c message → IsCaller c.cred (Owner owner) → owner ≡ superuser → ⊥

module _ (r : Row) (owned : r.owner ≡ superuser) (rows : List Row) (netid message : List ℕ) (there : Has r rows)
    (anothers : AreAnothers message) where
  call_with : (c : CallView) → CallBytes c message → {new : List Row} {said : ReplyView}
      → AnswersCall rows netid c new said → Has r new
  call_with c read (denies s h) = there
  call_with c read (accepts owner new status h come fits) =
      comes_with r owned owner (anothers c owner read h) rows netid c there come
  call_with c read (too_long owner new status h come long) = there

  case_with : {k : CaseView} {refused : Bool} {new : List Row} {said : Option ReplyView}
      → Answers rows netid k refused new said → IsCase message k → Has r new
  case_with (silence refused) read = there
  case_with (other_version xid version) read = there
  case_with (bad_cred xid) read = there
  case_with (bad_verf xid) read = there
  case_with (call c new said h) read = call_with c read h
  case_with (no_memory k xid e) read = there

  pub superusers_row_stays : (refused : Bool) (new : List Row) (sent : Option (List ℕ))
      → Answer rows netid message refused new sent → Has r new
  superusers_row_stays refused new sent a = case_with a.answers a.read
