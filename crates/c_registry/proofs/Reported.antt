-- What a status says of the answer: a row that was set is there to be removed.
use Rattle.std.proofs.Common.{◌≡◌, ℕ, Bool, true, false, ◌||◌, List, [], ◌∷◌, ◌++◌, refl, sym, ap, ◌∙◌, subst, arith}
use Rattle.std.proofs.Common.{Option, None, Some, if◌then◌else◌}
use Rattle.std.proofs.lemmas.Bool.{false≢true}
use Rattle.std.proofs.Math.Bool.{or-true}
use Rattle.std.proofs.lemmas.List.Folds.{list_any-append}
use Rattle.std.proofs.lemmas.Slice.Eq.{bytes_eq-Decides}
use Rattle.std.specs.List.{list_any}
use Rattle.registry_rows.specs.Rows.{Row, row_of}
use Rattle.registry_rows.specs.Steps.{Step, set, may_add, is_unset, is_empty}
use Rattle.c_registry.specs.declared.answer.Answer.{Answer}
use Rattle.c_registry.specs.declared.answer.Answer.TheVariants as answer
use Rattle.c_registry.specs.Held.{Held}
use Rattle.c_registry.specs.Rows.{IsSet, IsSetBy, IsUnset, IsUnsetBy}
use Rattle.c_registry.specs.Statuses.{status_of}

-- a row that was set is the last
added : (rows new : List Row) (r : Row) → (new, true) ≡ set rows r → new ≡ rows ++ r ∷ []
added rows new r e = by_case (may_add rows r) e
  where
    by_case : (b : Bool) → ◌≡◌ {A = Step} (new, true) (if b then (rows ++ r ∷ [], true) else (rows, false))
        → new ≡ rows ++ r ∷ []
    by_case true is = ap (λ (s : Step). s.0) is
    by_case false is = absurd (false≢true (sym (ap (λ (s : Step). s.1) is)))

-- its owner may remove it
named : (netid address owner : List ℕ) → is_unset 300 7 netid owner (row_of 300 7 netid address owner) ≡ true
named netid address owner =
    rw ((bytes_eq-Decides netid netid).1 refl, (bytes_eq-Decides owner owner).1 refl, or-true (is_empty netid)) refl

module _ (netid address owner : List ℕ) where
  abbrev pub r : Row
  r = row_of 300 7 netid address owner

  there : (rows new : List Row) → (new, true) ≡ set rows r → list_any (is_unset 300 7 netid owner) new ≡ true
  there rows new e =
      ap (λ (rs : List Row). list_any (is_unset 300 7 netid owner) rs) (added rows new r e)
      ∙ list_any-append (is_unset 300 7 netid owner) rows (r ∷ [])
      ∙ ap (λ (b : Bool). list_any (is_unset 300 7 netid owner) rows || (b || false)) (named netid address owner)
      ∙ or-true _

  set_there : (h l : Held) (a : Answer) → IsSet h r l a → 0 ≡ status_of a
      → list_any (is_unset 300 7 netid owner) l.rows ≡ true
  set_there h l (answer.Whole count) s e = there h.rows l.rows s.2
  set_there h l answer.NoMemory s e = absurd (omega (arith, e))
  set_there h l (answer.NoRoom needed) s e = absurd s
  set_there h l answer.NoRegistry s e = absurd s
  set_there h l answer.Silence s e = absurd s
  set_there h l answer.NoTransport s e = absurd s
  set_there h l answer.Unchanged s e = absurd (omega (arith, e))
  set_there h l answer.NoCaller s e = absurd s

  unset_there : (h l : Held) (b : Answer) → list_any (is_unset 300 7 netid owner) h.rows ≡ true
      → IsUnset h 300 7 netid owner l b → status_of b ≡ 0
  unset_there h l (answer.Whole count) t u = refl
  unset_there h l answer.NoMemory t u = absurd u
  unset_there h l (answer.NoRoom needed) t u = absurd u
  unset_there h l answer.NoRegistry t u = absurd u
  unset_there h l answer.Silence t u = absurd u
  unset_there h l answer.NoTransport t u = absurd u
  unset_there h l answer.Unchanged t u = absurd (false≢true (ap (λ (s : Step). s.1) u.0 ∙ t))
  unset_there h l answer.NoCaller t u = absurd u

  pub removed : (held between left : Option Held) (a b : Answer) → IsSetBy held r between a
      → IsUnsetBy between 300 7 netid owner left b → 0 ≡ status_of a → status_of b ≡ 0
  removed None between left a b s u e = absurd (omega (arith, e ∙ ap status_of s.0))
  removed (Some h) between left a b s u e =
      let v = subst (λ (o : Option Held). IsUnsetBy o 300 7 netid owner left b) s.1 u in
      unset_there s.0 v.0 b (set_there h s.0 a s.2 e) v.2
