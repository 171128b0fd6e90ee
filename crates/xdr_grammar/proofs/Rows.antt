-- Soundness of a loop: what is read one after the other is a row of trees.
use Rattle.std.proofs.Common.{◌≡◌, ℕ, zero, suc, ◌≤◌, Bool, true, false, List, [], ◌∷◌, Some, inl, inr, ap, subst, ◌∙◌}
use Rattle.xdr_tokens.specs.Tokens.{Lexeme}
use Rattle.xdr_tokens.proofs.Options.{bind_some, some_is, chosen}
use Rattle.xdr_grammar.specs.Outline.{Outline}
use Rattle.xdr_grammar.specs.Private.Reading.{Reader, repeat}

-- A tree stands in front, and gives what was read.
pub record Found {A T : Type 0} (spelling : T → List Lexeme → List Lexeme) (outlined : T → Outline
    → A × Outline) (depth : T → ℕ) (d : ℕ) (o : Outline) (ts : List Lexeme)
    (y : A × Outline × List Lexeme) : Type 0 where
  pub tree : T
  pub spelled : ts ≡ spelling tree y.2
  pub value : y.0 ≡ (outlined tree o).0
  pub made : y.1 ≡ (outlined tree o).1
  pub nested : depth tree ≤ d

-- All that the reader finds are trees.
abbrev pub Finds : {A T : Type 0} → (T → List Lexeme → List Lexeme) → (T → Outline → A × Outline) → (T → ℕ) → ℕ
    → Reader A → Type 0
Finds {A = A} spelling outlined depth d reader = (o : Outline) (ts : List Lexeme) (y : A × Outline × List Lexeme)
    → reader o ts ≡ Some y → Found spelling outlined depth d o ts y

-- a tree that is read is one for whatever equals what was read
pub with_found : {A T : Type 0} {spelling : T → List Lexeme → List Lexeme} {outlined : T → Outline → A × Outline}
    {depth : T → ℕ} {d : ℕ} {o : Outline} {ts : List Lexeme} (x y : A × Outline × List Lexeme)
    → Found spelling outlined depth d o ts x → Some x ≡ Some y → Found spelling outlined depth d o ts y
with_found {spelling = spelling} {outlined = outlined} {depth = depth} {d = d} {o = o} {ts = ts} x y h e =
    subst (λ z. Found spelling outlined depth d o ts z) (some_is x y e) h

-- A tree among others stands in front: how it ends says whether another one follows.
abbrev pub FoundItem : {A T : Type 0} → (T → Bool → List Lexeme → List Lexeme) → (T → Outline → A × Outline)
    → (T → ℕ) → ℕ → Outline → List Lexeme → (A × Bool) × Outline × List Lexeme → Type 0
FoundItem item item_in depth d o ts y = Found (λ t rest. item t y.0.1 rest) item_in depth d o ts (y.0.0, y.1, y.2)

-- All that the reader finds are trees among others.
abbrev pub FindsItems : {A T : Type 0} → (T → Bool → List Lexeme → List Lexeme) → (T → Outline → A × Outline)
    → (T → ℕ) → ℕ → Reader (A × Bool) → Type 0
FindsItems {A = A} item item_in depth d reader =
    (o : Outline) (ts : List Lexeme) (y : (A × Bool) × Outline × List Lexeme)
    → reader o ts ≡ Some y → FoundItem item item_in depth d o ts y

-- A row is its last item, or an item and a row: so it is spelled, so it declares, and so deep it is.
pub record AreRows {A I T : Type 0} (item : I → Bool → List Lexeme → List Lexeme) (item_in : I → Outline
    → A × Outline) (item_depth : I → ℕ) (row : T → List Lexeme → List Lexeme) (row_in : T → Outline
    → List A × Outline) (row_depth : T → ℕ) : Type 0 where
  pub last : I → T
  pub more : I → T → T
  pub last_spelled : (i : I) (ts : List Lexeme) → item i false ts ≡ row (last i) ts
  pub more_spelled : (i : I) (t : T) (ts : List Lexeme) → item i true (row t ts) ≡ row (more i t) ts
  pub last_given : (i : I) (o : Outline) → ((item_in i o).0 ∷ [], (item_in i o).1) ≡ row_in (last i) o
  pub more_given : (i : I) (t : T) (o : Outline)
      → ((item_in i o).0 ∷ (row_in t (item_in i o).1).0, (row_in t (item_in i o).1).1) ≡ row_in (more i t) o
  pub last_nested : (i : I) (d : ℕ) → item_depth i ≤ d → row_depth (last i) ≤ d
  pub more_nested : (i : I) (t : T) (d : ℕ) → item_depth i ≤ d → row_depth t ≤ d → row_depth (more i t) ≤ d

module _ {A I T : Type 0} {item : I → Bool → List Lexeme → List Lexeme} {item_in : I → Outline → A × Outline}
    {item_depth : I → ℕ} {row : T → List Lexeme → List Lexeme} {row_in : T → Outline → List A × Outline}
    {row_depth : T → ℕ} (rows : AreRows item item_in item_depth row row_in row_depth) (d : ℕ)
    (step : Reader (A × Bool)) (finds : FindsItems item item_in item_depth d step) where
  pub row_found : (n : ℕ) → Finds row row_in row_depth d (repeat step n)
  unfolding repeat
  row_found zero o ts y e = absurd cc
  row_found (suc n) o ts y e =
      let f = bind_some (step o ts) _ y e in
      let first = finds o ts f.0 f.1 in
      elim (chosen f.0.0.1 _ _ _ f.2) [
        | inl on ↦
            let r = bind_some (repeat step n f.0.1 f.0.2) _ y on.1 in
            let rest = row_found n f.0.1 f.0.2 r.0 r.1 in
            let given = rows.more_given first.tree rest.tree o in
            with_found (f.0.0.0 ∷ r.0.0, r.0.1, r.0.2) y (record {
              tree = rows.more first.tree rest.tree;
              spelled = first.spelled ∙ ap (λ (b : Bool). item first.tree b f.0.2) on.0
                  ∙ ap (item first.tree true) rest.spelled ∙ rows.more_spelled first.tree rest.tree r.0.2;
              value = ap (λ (x : A). x ∷ r.0.0) first.value ∙ ap (λ (xs : List A). (item_in first.tree o).0 ∷ xs)
                  (rest.value ∙ ap (λ (x : Outline). (row_in rest.tree x).0) first.made)
                  ∙ ap (λ (p : List A × Outline). p.0) given;
              made = rest.made ∙ ap (λ (x : Outline). (row_in rest.tree x).1) first.made
                  ∙ ap (λ (p : List A × Outline). p.1) given;
              nested = rows.more_nested first.tree rest.tree d first.nested rest.nested;
            }) r.2
        | inr off ↦
            let given = rows.last_given first.tree o in
            with_found (f.0.0.0 ∷ [], f.0.1, f.0.2) y (record {
              tree = rows.last first.tree;
              spelled = first.spelled ∙ ap (λ (b : Bool). item first.tree b f.0.2) off.0
                  ∙ rows.last_spelled first.tree f.0.2;
              value = ap (λ (x : A). x ∷ []) first.value ∙ ap (λ (p : List A × Outline). p.0) given;
              made = first.made ∙ ap (λ (p : List A × Outline). p.1) given;
              nested = rows.last_nested first.tree d first.nested;
            }) off.1
      ]
