-- What becomes of the parts that are not filled where the next is.
use Rattle.std.proofs.Common.{◌≡◌, ℕ, ◌+◌, ◌≤◌, List, [], ◌∷◌, ◌++◌, refl, ap, sym, ◌∙◌, subst, arith}
use Rattle.std.proofs.Common.{length, Bool, true, false, not}
use Rattle.std.proofs.lemmas.Bool.{false≢true}
use Rattle.xdr_types.specs.Kinds.{KindView, Part, kind_at}
use Rattle.xdr_stream.specs.Frames.{left_of, rest_of, Begins}
use Rattle.xdr_writer.specs.Items.{ItemView}
use Rattle.xdr_filling.specs.Holes.{Hole, hole, Goes}
use Rattle.xdr_filling.specs.Filled.{hole_of, onto}
use Rattle.xdr_filling.specs.declared.gap.Gap.{Gap}
use Rattle.xdr_filling.specs.Private.Makes.{IsNode}
use Rattle.xdr_filling.proofs.Going.{stays, goes_by, goes_on, pops, drops, fills, opens}

-- one more stands inside all others
pub onto_more : (outer : List Hole) (gs : List Gap) (g : Gap) → onto outer (gs ++ g ∷ []) ≡ hole_of g ∷ onto outer gs
onto_more outer [] g = refl
onto_more outer (x ∷ gs) g = onto_more (hole_of x ∷ outer) gs g

module _ (s : List KindView) where
  -- the next of these parts, where there are some
  module _ (ps : List Part) (place room : ℕ) (hs : List Hole) (is : List ItemView) (bytes : List ℕ) (qs : List Part)
      (b : Begins ps place) (n : IsNode s (kind_at s place) is bytes qs) where
    node : IsNode s (kind_at s b.0.kind) is bytes qs
    node = subst (λ (x : ℕ). IsNode s (kind_at s x) is bytes qs) (sym b.2) n

    pub leaf_goes : (rest : List Part) → rest ≡ rest_of ps → qs ≡ [] → 1 ≤ room
        → Goes s (hole ps room ∷ hs) (hole rest room ∷ hs) is bytes
    leaf_goes rest e none low =
        subst (λ (x : List Part). Goes s (hole x room ∷ hs) (hole rest room ∷ hs) is bytes) (sym b.1)
        (subst (λ (x : List Part). Goes s (hole (b.0 ∷ rest_of ps) room ∷ hs) (hole x room ∷ hs) is bytes) (sym e)
        (fills s b.0 (rest_of ps) room hs is bytes qs node none low))

    pub node_goes : (inner : ℕ) → inner + 1 ≤ room → (more : List Hole)
        → Goes s (hole qs inner ∷ hole (rest_of ps) room ∷ hs) (hole qs inner ∷ more) [] []
        → Goes s (hole ps room ∷ hs) (hole qs inner ∷ more) is bytes
    node_goes inner low more put =
        goes_by s (hole ps room ∷ hs) (hole qs inner ∷ hole (rest_of ps) room ∷ hs) (hole qs inner ∷ more) is bytes
        (subst (λ (x : List Part). Goes s (hole x room ∷ hs) (hole qs inner ∷ hole (rest_of ps) room ∷ hs) is bytes)
        (sym b.1) (opens s b.0 (rest_of ps) room hs is bytes qs node inner low))
        put

  -- the rest of a node, which is put onto the others where it has parts
  pub rest_put : (h : Hole) (ps : List Part) (g : Gap) (old new : List Gap) → left_of g.frame ≡ rest_of ps
      → new ≡ old ++ g ∷ []
      → Goes s (h ∷ hole (rest_of ps) g.room ∷ onto [] old) (h ∷ onto [] new) [] []
  rest_put h ps g old new e more =
      subst (λ (x : List Hole). Goes s (h ∷ hole (rest_of ps) g.room ∷ onto [] old) (h ∷ x) [] [])
      (sym (onto_more [] old g) ∙ ap (λ (x : List Gap). onto [] x) (sym more))
      (subst (λ (x : List Part). Goes s (h ∷ hole x g.room ∷ onto [] old) (h ∷ hole_of g ∷ onto [] old) [] []) e
      (stays s (h ∷ hole_of g ∷ onto [] old)))

  pub rest_left : (h : Hole) (ps rest : List Part) (room : ℕ) (old : List Hole) → rest ≡ rest_of ps → rest ≡ []
      → Goes s (h ∷ hole (rest_of ps) room ∷ old) (h ∷ old) [] []
  rest_left h ps rest room old e none =
      subst (λ (x : List Part). Goes s (h ∷ hole x room ∷ old) (h ∷ old) [] []) (sym none ∙ e) (drops s h room old)

  -- a node that has all its parts
  pub ended : (a : List Hole) (g o : Gap) (old new : List Gap) → Goes s a (hole_of g ∷ onto [] old) [] []
      → left_of g.frame ≡ [] → old ≡ new ++ o ∷ [] → Goes s a (hole_of o ∷ onto [] new) [] []
  ended a g o old new go none split =
      goes_by s a (hole_of g ∷ onto [] old) (hole_of o ∷ onto [] new) [] [] go
      (subst (λ (x : List Hole). Goes s (hole_of g ∷ x) (hole_of o ∷ onto [] new) [] [])
      (sym (onto_more [] new o) ∙ ap (λ (x : List Gap). onto [] x) (sym split))
      (subst (λ (x : List Part). Goes s (hole x g.room ∷ hole_of o ∷ onto [] new) (hole_of o ∷ onto [] new) [] [])
      (sym none) (pops s g.room (hole_of o ∷ onto [] new))))

  pub none_left : (g : Gap) (old : List Gap) → left_of g.frame ≡ [] → old ≡ []
      → Goes s (hole_of g ∷ onto [] old) [] [] []
  none_left g old none empty =
      subst (λ (x : List Gap). Goes s (hole_of g ∷ onto [] x) [] [] []) (sym empty)
      (subst (λ (x : List Part). Goes s (hole x g.room ∷ []) [] [] []) (sym none) (pops s g.room []))

  -- ---- several steps

  pub three_go : (a b c d : List Hole) → Goes s a b [] [] → Goes s b c [] [] → Goes s c d [] [] → Goes s a d [] []
  three_go a b c d f g h = goes_by s a c d [] [] (goes_by s a b c [] [] f g) h

  -- a step over what was filled before
  pub item_goes : (r a b c : List Hole) (is js : List ItemView) (x y : List ℕ) → Goes s r a is x → Goes s a b [] []
      → Goes s b c js y → Goes s r c (is ++ js) (x ++ y)
  item_goes r a b c is js x y before silent f =
      goes_on s r b c is js x y (goes_by s r a b is x before silent) f

pub empty : (gs : List Gap) → length gs ≡ 0 → gs ≡ []
empty [] e = refl
empty (g ∷ gs) e = absurd (omega (arith, e))

pub is_off : (b : Bool) → not b ≡ true → b ≡ false
is_off true e = absurd (false≢true e)
is_off false e = refl
