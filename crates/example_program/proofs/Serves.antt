-- Serving where no connection is to be served, or none comes.
use Rattle.std.proofs.Common.{◌≡◌, ℕ, ◌≤◌, List, [], ◌∷◌, length, Option, Some, None, codes}
use Rattle.std.proofs.Common.{refl, ap, subst, arith}
use Rattle.std.specs.Io.KnownBytes.{Appends}
use Rattle.std.specs.Fmt.{digits}
use Rattle.registry_rows.specs.Rows.{Row}
use Rattle.oncrpc_service.specs.Listening.{Clients, Arrives}
use Rattle.oncrpc_service.specs.Connections.{Outcome, ServesEach, printed}

-- no connection leaves all as it was
pub none_served : {W : Type 0} (went : W → Option (List ℕ)) (rows new : List Row) (w w' : Clients) (os : List Outcome)
    → length os ≤ 0 → ServesEach went rows w os new w' → (new ≡ rows) × (w' ≡ w)
none_served went rows new w w' [] few s = s
none_served went rows new w w' (o ∷ os) few s = absurd (omega (arith, few))

-- where no client comes none is served
pub nobody_served : {W : Type 0} (went : W → Option (List ℕ)) (rows new : List Row) (w w' : Clients) (os : List Outcome)
    → ServesEach went rows w os new w' → w.waiting ≡ Some [] → (length os ≡ 0) × (new ≡ rows)
nobody_served went rows new w w' [] s e = (refl, s.0)
nobody_served went rows new w w' (o ∷ os) s e =
    absurd (subst (λ k. Arrives k s.1.0.waiting s.1.1.0.left) e s.1.1.0.arrived)

of_known : (text : List ℕ) (taken : Option (List ℕ)) → Appends (Some []) taken text → taken ≡ Some text
of_known text None h = absurd h
of_known text (Some all) h = ap Some h

-- what was written after nothing is all that was written
pub all_written : (text : List ℕ) (taken taken' : Option (List ℕ)) → taken ≡ Some [] → Appends taken taken' text
    → taken' ≡ Some text
all_written text taken taken' e h = of_known text taken' (subst (λ k. Appends k taken' text) e h)

-- the line before the first connection is all that is printed of none
pub listening : (port : ℕ) (os : List Outcome) → length os ≤ 0 → port ≡ 111
    → printed port os ≡ codes "listening on 127.0.0.1 111\n"
unfolding digits
listening port [] few e = ap (λ p. printed p []) e
listening port (o ∷ os) few e = absurd (omega (arith, few))
