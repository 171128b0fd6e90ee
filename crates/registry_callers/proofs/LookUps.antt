-- A look-up changes no row.
use Rattle.std.proofs.Common.{◌≡◌, inl, inr, ℕ, Bool, true, false, ◌&&◌, ◌||◌, List, Option, Some}
use Rattle.std.proofs.Common.{nat_eq, refl, ap, sym, ◌∙◌, subst}
use Rattle.std.proofs.lemmas.Bool.Decides.{Decides-eqb}
use Rattle.std.proofs.lemmas.Option.{same_Some}
use Rattle.xdr_types.specs.Tree.{Tree}
use Rattle.xdr_units.specs.Numbers.{AreBytes}
use Rattle.rpc_message.specs.Message.{CallView, Whole, ReplyView, StatusView}
use Rattle.rpc_message.specs.Spelling.{CallBytes}
use Rattle.rpc_message.specs.Cases.{NoTwoCases}
use Rattle.registry_rows.specs.Rows.{Row}
use Rattle.registry_answer.specs.Procedures.{Procedure, procedure_at, getaddr_3, getversaddr_4}
use Rattle.registry_answer.specs.Answer.{Answer, AnswersCall, denies, accepts, too_long, ComesTo, no_program}
use Rattle.registry_answer.specs.Answer.{no_version, no_procedure, garbage, success}
use Rattle.registry_answer.proofs.Cases.{Decided, decided_by}
use Rattle.registry_callers.specs.Asking.{is_look_up}
use Rattle.registry_callers.proofs.Tests.{second_true, which_look_up}

module _ (rows : List Row) (netid owner : List ℕ) (t : Tree) where
  -- a procedure that changes no row
  abbrev Keeps : Procedure → Type 0
  Keeps p = (p.step rows netid owner t).0 ≡ rows

  -- the procedure that stands at these numbers
  keeps_at : (p q : Procedure) (vers proc v n : ℕ) → procedure_at vers proc ≡ Some q → vers ≡ v → proc ≡ n
      → procedure_at v n ≡ Some p → Keeps p → Keeps q
  keeps_at p q vers proc v n is e f at h =
      let same : Some p ≡ Some q =
      sym at ∙ sym (ap (λ (m : ℕ). procedure_at m proc) e ∙ ap (λ (m : ℕ). procedure_at v m) f) ∙ is in
      subst (λ (x : Procedure). Keeps x) (same_Some p q same) h

  -- which procedure a look-up is
  looks : (vers proc : ℕ) (p : Procedure)
      → ((nat_eq vers 3 && nat_eq proc 3) || (nat_eq vers 4 && (nat_eq proc 3 || nat_eq proc 9))) ≡ true
      → procedure_at vers proc ≡ Some p → Keeps p
  looks vers proc p look is =
      elim (which_look_up (nat_eq vers 3) (nat_eq proc 3) (nat_eq vers 4) (nat_eq proc 9) look) [
        | inl h ↦
            keeps_at getaddr_3 p vers proc 3 3 is ((Decides-eqb vers 3).0 h.0) ((Decides-eqb proc 3).0 h.1) refl refl
        | inr k ↦ elim k [
          | inl h ↦
              keeps_at getaddr_3 p vers proc 4 3 is ((Decides-eqb vers 4).0 h.0) ((Decides-eqb proc 3).0 h.1) refl refl
          | inr h ↦
              keeps_at getversaddr_4 p vers proc 4 9 is ((Decides-eqb vers 4).0 h.0) ((Decides-eqb proc 9).0 h.1)
              refl refl
        ]
      ]

module _ (rows : List Row) (netid : List ℕ) (c : CallView) (look : is_look_up c ≡ true) where
  comes_stays : {owner : List ℕ} {new : List Row} {s : StatusView} → ComesTo rows netid owner c new s → new ≡ rows
  comes_stays (no_program n) = refl
  comes_stays (no_version e v) = refl
  comes_stays (no_procedure e v n) = refl
  comes_stays (garbage p is a) = refl
  comes_stays {owner} (success p t is a) =
      looks rows netid owner t c.vers c.proc p
      (second_true (nat_eq c.prog 100000)
      ((nat_eq c.vers 3 && nat_eq c.proc 3) || (nat_eq c.vers 4 && (nat_eq c.proc 3 || nat_eq c.proc 9))) look)
      is.procedure_is

  call_stays : {new : List Row} {r : ReplyView} → AnswersCall rows netid c new r → new ≡ rows
  call_stays (denies s h) = refl
  call_stays (accepts owner new status h come fits) = comes_stays come
  call_stays (too_long owner new status h come long) = refl

  pub look_up_stays : NoTwoCases → (message : List ℕ) → AreBytes message → CallBytes c message → (refused : Bool)
      → (new : List Row) (sent : Option (List ℕ)) → Answer rows netid message refused new sent → new ≡ rows
  look_up_stays cases message fits read refused new sent a =
      by refused (decided_by rows netid cases message fits refused new sent a (Whole c) read)
    where
      by : (y : Bool) → Decided rows netid (Whole c) y new a.said → new ≡ rows
      by true h = h.0
      by false h = call_stays h.1.0
