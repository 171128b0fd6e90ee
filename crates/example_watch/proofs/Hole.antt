-- A hole of two bytes, which is skipped.
use Rattle.std.proofs.Common.{◌≡◌, ℕ, zero, suc, List, [], ◌∷◌, codes, Option, Some}
use Rattle.std.proofs.Common.{None, refl, sym, ap, subst, ◌∙◌, arith}
use Rattle.capture_streams.specs.declared.direction.Direction.{Direction}
use Rattle.capture_streams.specs.Segments.{Arrival, given}
use Rattle.capture_streams.specs.Represents.{Stands, IsOfSame, due_of}
use Rattle.capture_streams.specs.Taking.{Skips}
use Rattle.example_watch.proofs.Taken.{Is, came}

-- bytes 0 to 2, and 5 and 6
abbrev pub two : List Arrival
two = came 0 1000 (codes "abc") ∷ came 3 1005 (codes "fg") ∷ []

-- what they give at a place
given_at : (first place due : ℕ) → first ≡ 1000 → due ≡ place → given first two due ≡ given 1000 two place
given_at first place due f d = ap (λ (x : ℕ). given x two due) f ∙ ap (given 1000 two) d

none_is_some : {A : Type 0} {b : ℕ} → None ≡ Some b → A
none_is_some e = absurd cc

pub skipped : (old new : Direction) (out : List ℕ) (missing : Option ℕ)
    → Is old 1000 two 0 (codes "abc") [] out → IsOfSame old new → Skips old new missing
    → (missing ≡ Some 2) × Is new 1000 two 5 [] (codes "abc") out
skipped old new out None s same k =
    let due : due_of old ≡ 3 = s.stands.due in
    let none = k.1 two 0 (codes "abc") s.stands 5 (omega arith) in
    none_is_some (sym none ∙ given_at old.first 5 5 s.first refl)
skipped old new out (Some zero) s same k =
    let due : due_of old ≡ 3 = s.stands.due in
    let over = k.1 two 0 (codes "abc") s.stands in
    let now : new.due ≡ 3 = omega (arith, k.0) in
    none_is_some (sym (given_at old.first 3 new.due s.first now) ∙ over.next.1)
skipped old new out (Some (suc zero)) s same k =
    let due : due_of old ≡ 3 = s.stands.due in
    let over = k.1 two 0 (codes "abc") s.stands in
    let now : new.due ≡ 4 = omega (arith, k.0) in
    none_is_some (sym (given_at old.first 4 new.due s.first now) ∙ over.next.1)
skipped old new out (Some (suc (suc zero))) s same k =
    let due : due_of old ≡ 3 = s.stands.due in
    let over = k.1 two 0 (codes "abc") s.stands in
    let now : new.due ≡ 5 = omega (arith, k.0) in (
      refl,
      record {
        first = same.first ∙ s.first;
        stands = subst (λ (base : ℕ). Stands new two base []) now over.stands;
        out = s.out;
      },
    )
skipped old new out (Some (suc (suc (suc more)))) s same k =
    let due : due_of old ≡ 3 = s.stands.due in
    let over = k.1 two 0 (codes "abc") s.stands in
    let none = over.missing 5 (omega arith) (omega (arith, k.0)) in
    none_is_some (sym none ∙ given_at old.first 5 5 s.first refl)
