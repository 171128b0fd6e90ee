-- Steps that lead on, one after another.
use Rattle.std.proofs.Common.{◌≡◌, ℕ, ◌+◌, ◌≤◌, max, List, [], ◌∷◌, ◌++◌, length, take, drop, refl, sym, ap}
use Rattle.std.proofs.Common.{subst, ◌∙◌, arith, Option, Some, None, append-nil, true≢false, is_some}
use Rattle.std.specs.List.{AllByRecursion}
use Rattle.std.proofs.lemmas.List.{length-take, take-append-drop, take-append-le, drop-append-le}
use Rattle.std.proofs.lemmas.List.{length-drop, take_at}
use Rattle.xdr_types.specs.Kinds.{KindView}
use Rattle.xdr_types.specs.Layout.{Entry}
use Rattle.xdr_types.specs.Tree.{Tree, depth_of, from_list}
use Rattle.xdr_types.specs.Fits.{item_part}
use Rattle.xdr_types.specs.Spelling.{spelling, bytes_of}
use Rattle.xdr_types.specs.Within.{Bounds, AreBounds}
use Rattle.xdr_types.specs.Outcome.{Outcome, Whole}
use Rattle.xdr_laws.proofs.WholeUnits.{root_fits, root_spelling}
use Rattle.xdr_laws.proofs.Whole.{whole_exactly}
use Rattle.xdr_parts.specs.Lent.{IsLentFrom}
use Rattle.xdr_parts.specs.declared.part.Lent.{Lent}
use Rattle.xdr_paths.specs.Nodes.{Node, Step, to_field, to_item, LeadTo, inside, step_to, settled, root}
use Rattle.xdr_paths.specs.Paths.{IsStep, IsPath, step_text, steps_text, first_text}
use Rattle.xdr_paths.specs.Private.Standing.{Stands, TextLeadsTo, PathLeadsTo}
use Rattle.xdr_paths.specs.Private.Steps.{IsEndOrMarked}

-- ---- texts

-- a text of steps is empty or begins with a mark
marked : (steps : List Step) → IsEndOrMarked (steps_text steps)
marked [] = tt
marked (to_field name ∷ steps) = refl
marked (to_item index ∷ steps) = refl

some_value : {A : Type 0} (x y : A) → Some x ≡ Some y → x ≡ y
some_value x y e = cc

no_value : {A : Type 0} (x : A) (o : Option A) → o ≡ None → o ≡ Some x → ⊥
no_value x o none some = true≢false (ap is_some (sym some ∙ none))

-- a step that is read is the only one
abbrev IsOnly : (texts : Step → List ℕ) → (text : List ℕ) → Step → (rest : List ℕ) → Type 0
IsOnly texts text step rest =
    (s : Step) (r : List ℕ) → IsStep s → IsEndOrMarked r → text ≡ texts s ++ r → (step ≡ s) × (rest ≡ r)

-- no step is read
abbrev IsNone : (texts : Step → List ℕ) → (text : List ℕ) → Type 0
IsNone texts text = (s : Step) (r : List ℕ) → IsStep s → IsEndOrMarked r → text ≡ texts s ++ r → ⊥

module _ (kinds : List KindView) where
  -- ---- steps behind others

  -- behind all steps is the node itself
  pub text_ends : (n : Node) (e : Entry) → LeadTo kinds n [] e → TextLeadsTo kinds n [] e
  text_ends n e is = ([], tt, refl, is)

  module _ (n : Node) (text : List ℕ) (some : text ≡ [] → ⊥) where
    first_of : (e : Entry) → (steps : List Step) → AllByRecursion IsStep steps → text ≡ steps_text steps
        → LeadTo kinds n steps e
        → (s : Step) × (ss : List Step) × IsStep s × AllByRecursion IsStep ss × (text ≡ step_text s ++ steps_text ss)
        × (m : Node) × (step_to n.head (inside kinds n) s ≡ Some m) × LeadTo kinds (settled kinds m) ss e
    first_of e [] are is leads = absurd (some is)
    first_of e (s ∷ ss) are is leads = (s, ss, are.0, are.1, is, leads.0, leads.1, leads.2)

    -- no step is read
    pub text_stops : IsNone step_text text → (e : Entry) → TextLeadsTo kinds n text e → ⊥
    text_stops none e t =
        let f = first_of e t.0 t.1 t.2 t.3 in
        none f.0 (steps_text f.1) f.2 (marked f.1) f.4

    -- the step that is read leads nowhere
    pub text_misses : (step : Step) (rest : List ℕ) → IsOnly step_text text step rest
        → step_to n.head (inside kinds n) step ≡ None → (e : Entry) → TextLeadsTo kinds n text e → ⊥
    text_misses step rest only none e t =
        let f = first_of e t.0 t.1 t.2 t.3 in
        let o = only f.0 (steps_text f.1) f.2 (marked f.1) f.4 in
        no_value f.5 (step_to n.head (inside kinds n) step) none
        (ap (λ (s : Step). step_to n.head (inside kinds n) s) o.0 ∙ f.6)

    module _ (step : Step) (rest : List ℕ) (m : Node) (leads : step_to n.head (inside kinds n) step ≡ Some m) where
      -- the step leads on
      pub text_into : IsOnly step_text text step rest → (e : Entry) → TextLeadsTo kinds n text e
          → TextLeadsTo kinds (settled kinds m) rest e
      text_into only e t =
          let f = first_of e t.0 t.1 t.2 t.3 in
          let o = only f.0 (steps_text f.1) f.2 (marked f.1) f.4 in
          let same : f.5 ≡ m = some_value f.5 m
          (sym f.6 ∙ ap (λ (s : Step). step_to n.head (inside kinds n) s) (sym o.0) ∙ leads) in
          (f.1, f.3, o.1, subst (λ (k : Node). LeadTo kinds (settled kinds k) f.1 e) same f.7)

      pub text_back : IsStep step → text ≡ step_text step ++ rest → (e : Entry)
          → TextLeadsTo kinds (settled kinds m) rest e → TextLeadsTo kinds n text e
      text_back is e entry_e t =
          (step ∷ t.0, (is, t.1), e ∙ ap (λ (r : List ℕ). step_text step ++ r) t.2, (m, leads, t.3))

  -- ---- the first step

  path_first : (n : Node) (text : List ℕ) → (text ≡ [] → ⊥) → (e : Entry) → (steps : List Step)
      → IsPath text steps → LeadTo kinds n steps e
      → (s : Step) × (ss : List Step) × IsStep s × AllByRecursion IsStep ss × (text ≡ first_text s ++ steps_text ss)
      × (m : Node) × (step_to n.head (inside kinds n) s ≡ Some m) × LeadTo kinds (settled kinds m) ss e
  path_first n text some e [] is leads = absurd (some is.1)
  path_first n text some e (s ∷ ss) is leads =
      (s, ss, is.0.0, is.0.1, is.1, leads.0, leads.1, leads.2)

  pub path_ends : (n : Node) (e : Entry) → LeadTo kinds n [] e → PathLeadsTo kinds n [] e
  path_ends n e is = ([], (tt, refl), is)

  module _ (n : Node) (text : List ℕ) (some : text ≡ [] → ⊥) where
    pub path_stops : IsNone first_text text → (e : Entry) → PathLeadsTo kinds n text e → ⊥
    path_stops none e t =
        let f = path_first n text some e t.0 t.1 t.2 in
        none f.0 (steps_text f.1) f.2 (marked f.1) f.4

    pub path_misses : (step : Step) (rest : List ℕ) → IsOnly first_text text step rest
        → step_to n.head (inside kinds n) step ≡ None → (e : Entry) → PathLeadsTo kinds n text e → ⊥
    path_misses step rest only none e t =
        let f = path_first n text some e t.0 t.1 t.2 in
        let o = only f.0 (steps_text f.1) f.2 (marked f.1) f.4 in
        no_value f.5 (step_to n.head (inside kinds n) step) none
        (ap (λ (s : Step). step_to n.head (inside kinds n) s) o.0 ∙ f.6)

    module _ (step : Step) (rest : List ℕ) (m : Node) (leads : step_to n.head (inside kinds n) step ≡ Some m) where
      pub path_into : IsOnly first_text text step rest → (e : Entry) → PathLeadsTo kinds n text e
          → TextLeadsTo kinds (settled kinds m) rest e
      path_into only e t =
          let f = path_first n text some e t.0 t.1 t.2 in
          let o = only f.0 (steps_text f.1) f.2 (marked f.1) f.4 in
          let same : f.5 ≡ m = some_value f.5 m
          (sym f.6 ∙ ap (λ (s : Step). step_to n.head (inside kinds n) s) (sym o.0) ∙ leads) in
          (f.1, f.3, o.1, subst (λ (k : Node). LeadTo kinds (settled kinds k) f.1 e) same f.7)

      pub path_back : IsStep step → text ≡ first_text step ++ rest → (e : Entry)
          → TextLeadsTo kinds (settled kinds m) rest e → PathLeadsTo kinds n text e
      path_back is e entry_e t =
          (step ∷ t.0, ((is, t.1), e ∙ ap (λ (r : List ℕ). first_text step ++ r) t.2), (m, leads, t.3))

-- ---- the value itself

module _ (kinds : List KindView) (kind : ℕ) (limits : Bounds) (input : List ℕ) (v : Tree) (used : ℕ)
    (range : AreBounds limits.depth limits.bytes) (o : Outcome kinds kind limits input (Whole v used)) where
  -- it stands at the front
  pub root_stands : Stands kinds limits (take used input) (root kind v)
  root_stands =
      let w = (whole_exactly kinds kind limits input v used range.units).0 o in
      let flat : max 0 (depth_of v.1 + 1) ≡ depth_of v.1 + 1 = omega arith in
      let front : take used input ≡ bytes_of kinds kind v =
      ap (λ (b : List ℕ). take used b) w.2 ∙ take_at (bytes_of kinds kind v) w.1 used (sym w.3) in
      record {
        fits = root_fits kinds kind v w.0.0;
        more = [];
        spelled = front ∙ sym (root_spelling kinds kind v)
            ∙ sym (append-nil (spelling kinds (item_part kind ∷ []) (from_list (v ∷ []))));
        within = omega arith;
        some = omega arith;
        low = omega (arith, w.0.1.0);
        small = omega (arith, w.0.1.1, ap (λ (b : List ℕ). length b) front);
      }

  -- what is lent from the front is lent from all
  pub lent_from_all : (l : Lent) → IsLentFrom (take used input) l → IsLentFrom input l
  lent_from_all l a =
      let n : ℕ = length l.bytes.now in
      let short : l.at + n ≤ length (take used input) = a.0 in
      let same : drop l.at input ≡ drop l.at (take used input) ++ drop used input =
      ap (λ (x : List ℕ). drop l.at x) (sym (take-append-drop used input))
      ∙ drop-append-le l.at (take used input) (drop used input) (omega (arith, short)) in
      let cut : take n (drop l.at input) ≡ take n (drop l.at (take used input)) =
      ap (λ (x : List ℕ). take n x) same
      ∙ take-append-le n (drop l.at (take used input)) (drop used input)
      (omega (arith, short, length-drop l.at (take used input))) in
      (omega (arith, short, length-take used input), a.1 ∙ sym cut)
