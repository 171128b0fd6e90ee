-- Two runs, one after the other, are one; a run along one record without bytes.
use Rattle.std.proofs.Common.{◌≡◌, ℕ, List, [], ◌∷◌, ◌++◌, Bool, Option, inl, refl, sym, ap, ◌∙◌, subst, append_assoc}
use Rattle.std.proofs.Common.{arith}
use Rattle.std.proofs.lemmas.List.{append-nil}
use Rattle.rpc_message.specs.Cases.{NoTwoCases}
use Rattle.registry_rows.specs.Rows.{Row}
use Rattle.registry_answer.specs.Answer.{Answer}
use Rattle.registry_answer.proofs.Cases.{silent}
use Rattle.rpc_engine.specs.Run.{Run, listed}
use Rattle.rpc_engine.specs.Laws.{RunsJoin}

pub run_none : (rows : List Row) (netid : List ℕ) → Run rows netid [] [] rows []
run_none rows netid = (refl, refl)

pub run_one : (rows new : List Row) (netid r : List ℕ) (y : Bool) (sent : Option (List ℕ))
    → Answer rows netid r y new sent → Run rows netid (r ∷ []) (y ∷ []) new (listed sent)
run_one rows new netid r y sent h = (new, (sent, ([], (h, (refl, refl), sym (append-nil (listed sent))))))

pub runs_join : RunsJoin
runs_join rows mid new netid [] more [] zs replies others (same, none) q =
    subst (λ x. Run rows netid more zs new (x ++ others)) (sym none)
    (subst (λ x. Run x netid more zs new others) same q)
runs_join rows mid new netid [] more (y ∷ ys) zs replies others p q = absurd p
runs_join rows mid new netid (r ∷ rs) more [] zs replies others p q = absurd p
runs_join rows mid new netid (r ∷ rs) more (y ∷ ys) zs replies others (first, (sent, (rest, (answer, run, is)))) q = (
  first,
  (
    sent,
    (
      rest ++ others,
      (
        answer,
        runs_join first mid new netid rs more ys zs rest others run q,
        ap (λ x. x ++ others) is ∙ append_assoc (listed sent) rest others,
      ),
    ),
  ),
)

-- no bytes have no reply, and the rows stay
pub run_silent : NoTwoCases → (rows new : List Row) (netid : List ℕ) (ys : List Bool) (replies : List (List ℕ))
    → Run rows netid ([] ∷ []) ys new replies → (new ≡ rows) × (replies ≡ [])
run_silent cases rows new netid [] replies r = absurd r
run_silent cases rows new netid (y ∷ z ∷ ys) replies (mid, (sent, (more, (a, run, is)))) = absurd run
run_silent cases rows new netid (y ∷ []) replies (mid, (sent, (more, (a, (same, last), is)))) =
    let s = silent rows netid cases [] tt y mid sent a (inl (omega arith)) in
    (same ∙ s.0, is ∙ ap (λ (o : Option (List ℕ)). listed o ++ more) s.1 ∙ last)
