-- Soundness of the bodies of unions.
use Rattle.std.proofs.Common.{◌≡◌, ℕ, Bool, true, false, List, [], ◌∷◌, length, map, Option, Some, None, inl, inr, refl}
use Rattle.std.proofs.Common.{sym, ap, subst, ◌∙◌, arith}
use Rattle.xdr_tokens.specs.declared.token.Keyword.TheVariants as word
use Rattle.xdr_tokens.specs.declared.token.Mark.TheVariants as mark
use Rattle.xdr_grammar.specs.declared.outline.BodyKind.TheVariants as kind
use Rattle.xdr_tokens.specs.Tokens.{Lexeme, Word, Sign}
use Rattle.xdr_grammar.specs.Tree.{Value, UnionBody, Declaration, Content, Cases, LastCase, MoreCases, NoDefault}
use Rattle.xdr_grammar.specs.Tree.{Otherwise, depth_of_declaration, depth_of_content, depth_of_cases, depth_of_default}
use Rattle.xdr_grammar.specs.Grammar.{value, cases, declaration, content, arms, otherwise}
use Rattle.xdr_grammar.specs.Outline.{Late, Part, Field, Arm, DChoice, Outline, late, place, add, declaration_in}
use Rattle.xdr_grammar.specs.Outline.{content_in, arms_in, default_in}
use Rattle.xdr_grammar.specs.Private.Taking.{taken, after_word, after_sign, value_at}
use Rattle.xdr_grammar.specs.Private.Reading.{Reader, repeat, content_with, case_at, arm_with, default_with}
use Rattle.xdr_grammar.specs.Private.Reading.{switch_with, union_with}
use Rattle.xdr_tokens.proofs.Options.{bind_some, some_is}
use Rattle.xdr_grammar.proofs.Rows.{Finds, with_found, FindsItems, AreRows, row_found}
use Rattle.xdr_grammar.proofs.Leaves.{taken_some, word_found, sign_found, value_found}
use Rattle.xdr_grammar.proofs.Found.Declarations.{FindsDeclarations, FindsContents, content_found}
use Rattle.xdr_grammar.proofs.Found.Bodies.{IsBody}

-- after an item: another case, or what follows
abbrev pub casing : Bool → List Lexeme → List Lexeme
casing true ts = Word word.Case ∷ ts
casing false ts = ts

casing_found : {A : Type 0} (a : A) (o : Outline) (ts : List Lexeme) (y : (A × Bool) × Outline × List Lexeme)
    → taken (after_word word.Case ts) (λ rest. Some ((a, true), o, rest)) (Some ((a, false), o, ts)) ≡ Some y
    → (y.0.0 ≡ a) × (y.1 ≡ o) × (ts ≡ casing y.0.1 y.2)
casing_found {A = A} a o ts y e =
    elim (taken_some (after_word word.Case ts) _ _ _ e) [
      | inl h ↦ subst (λ (z : (A × Bool) × Outline × List Lexeme). (z.0.0 ≡ a) × (z.1 ≡ o) × (ts ≡ casing z.0.1 z.2))
          (some_is ((a, true), o, h.0) y h.2) (refl, refl, word_found word.Case ts h.0 h.1)
      | inr h ↦ subst (λ (z : (A × Bool) × Outline × List Lexeme). (z.0.0 ≡ a) × (z.1 ≡ o) × (ts ≡ casing z.0.1 z.2))
          (some_is ((a, false), o, ts) y h.1) (refl, refl, refl)
    ]

abbrev a_case : Value → Bool → List Lexeme → List Lexeme
a_case v more ts = value v ∷ Sign mark.Colon ∷ casing more ts

case_found : (d : ℕ) → FindsItems a_case (λ v o. (late o v, o)) (λ v. 0) d case_at
unfolding case_at
case_found d o ts y e =
    let v = bind_some (value_at o ts) _ y e in
    let s = bind_some (after_sign mark.Colon v.0.1) _ y v.2 in
    let w = value_found o ts v.0 v.1 in
    let c = casing_found v.0.0 o s.0 y s.2 in
    record {
      tree = w.tree;
      spelled = w.spelled
          ∙ ap (λ (x : List Lexeme). value w.tree ∷ x) (sign_found mark.Colon v.0.1 s.0 s.1
          ∙ ap (λ (x : List Lexeme). Sign mark.Colon ∷ x) c.2);
      value = c.0 ∙ w.late;
      made = c.1;
      nested = omega arith;
    }

case_rows : AreRows a_case (λ v o. (late o v, o)) (λ v. 0)
    (λ (t : Value × List Value) ts. value t.0 ∷ Sign mark.Colon ∷ cases t.1 ts)
    (λ t o. (map (late o) (t.0 ∷ t.1), o)) (λ t. 0)
case_rows = record {
  last = λ v. (v, []);
  more = λ v t. (v, t.0 ∷ t.1);
  last_spelled = λ v ts. refl;
  more_spelled = λ v t ts. refl;
  last_given = λ v o. refl;
  more_given = λ v t o. refl;
  last_nested = λ v d h. h;
  more_nested = λ v t d h k. h;
}

-- the cases of an arm, and what it is
abbrev Armed : Type 0
Armed = (Value × List Value) × Content

abbrev an_arm : Armed → Bool → List Lexeme → List Lexeme
an_arm a more ts = value a.0.0 ∷ Sign mark.Colon ∷ cases a.0.1 (content a.1 (Sign mark.Semicolon ∷ casing more ts))

abbrev arm_in : Armed → Outline → Arm × Outline
arm_in a o = let m = content_in a.1 o in
    (record { cases = map (late o) (a.0.0 ∷ a.0.1); member = m.0 }, m.1)

abbrev arm_of : List Late → Field → Arm
arm_of vs m = record { cases = vs; member = m }

arm_found : (d : ℕ) (reader : Reader Field) → FindsContents d reader
    → FindsItems an_arm arm_in (λ a. depth_of_content a.1) d (arm_with reader)
unfolding arm_with
arm_found d reader finds o ts y e =
    let v = bind_some (repeat case_at (length ts) o ts) _ y e in
    let vs = row_found case_rows d case_at (case_found d) (length ts) o ts v.0 v.1 in
    let m = bind_some (reader v.0.1 v.0.2) _ y v.2 in
    let s = bind_some (after_sign mark.Semicolon m.0.2) _ y m.2 in
    let found = finds v.0.1 v.0.2 m.0 m.1 in
    let c = casing_found (arm_of v.0.0 m.0.0) m.0.1 s.0 y s.2 in
    let member : m.0.0 ≡ (content_in found.tree o).0 = found.value
    ∙ ap (λ (x : Outline). (content_in found.tree x).0) vs.made in
    record {
      tree = (vs.tree, found.tree);
      spelled = vs.spelled ∙ ap (λ (x : List Lexeme). value vs.tree.0 ∷ Sign mark.Colon ∷ cases vs.tree.1 x)
          (found.spelled ∙ ap (content found.tree) (sign_found mark.Semicolon m.0.2 s.0 s.1
          ∙ ap (λ (x : List Lexeme). Sign mark.Semicolon ∷ x) c.2));
      value = c.0 ∙ ap (λ (x : List Late). arm_of x m.0.0) vs.value
          ∙ ap (λ (x : Field). arm_of (map (late o) (vs.tree.0 ∷ vs.tree.1)) x) member;
      made = c.1 ∙ found.made ∙ ap (λ (x : Outline). (content_in found.tree x).1) vs.made;
      nested = found.nested;
    }

-- after the first case
abbrev pub after_case : Cases → List Lexeme → List Lexeme
after_case (LastCase v vs m) ts = value v ∷ Sign mark.Colon ∷ cases vs (content m (Sign mark.Semicolon ∷ ts))
after_case (MoreCases v vs m cs) ts = value v ∷ Sign mark.Colon ∷ cases vs
    (content m (Sign mark.Semicolon ∷ arms cs ts))

pub begins_case : (cs : Cases) (ts : List Lexeme) → arms cs ts ≡ Word word.Case ∷ after_case cs ts
begins_case (LastCase v vs m) ts = refl
begins_case (MoreCases v vs m cs) ts = refl

arm_rows : AreRows an_arm arm_in (λ a. depth_of_content a.1) after_case arms_in depth_of_cases
arm_rows = record {
  last = λ a. LastCase a.0.0 a.0.1 a.1;
  more = λ a cs. MoreCases a.0.0 a.0.1 a.1 cs;
  last_spelled = λ a ts. refl;
  more_spelled = λ a cs ts.
      ap (λ (x : List Lexeme). value a.0.0 ∷ Sign mark.Colon ∷ cases a.0.1 (content a.1 (Sign mark.Semicolon ∷ x)))
      (sym (begins_case cs ts));
  last_given = λ a o. refl;
  more_given = λ a cs o. refl;
  last_nested = λ a d h. h;
  more_nested = λ a cs d h k. omega (arith, h, k);
}

default_found : (d : ℕ) (reader : Reader Field) → FindsContents d reader
    → Finds otherwise default_in depth_of_default d (default_with reader)
unfolding default_with
default_found d reader finds o ts y e =
    elim (taken_some (after_word word.Default ts) _ _ _ e) [
      | inl a ↦
          let c = bind_some (after_sign mark.Colon a.0) _ y a.2 in
          let m = bind_some (reader o c.0) _ y c.2 in
          let s = bind_some (after_sign mark.Semicolon m.0.2) _ y m.2 in
          let found = finds o c.0 m.0 m.1 in
          with_found (Some m.0.0, m.0.1, s.0) y (record {
            tree = Otherwise found.tree;
            spelled = word_found word.Default ts a.0 a.1
                ∙ ap (λ (x : List Lexeme). Word word.Default ∷ x) (sign_found mark.Colon a.0 c.0 c.1
                ∙ ap (λ (x : List Lexeme). Sign mark.Colon ∷ x)
                (found.spelled ∙ ap (content found.tree) (sign_found mark.Semicolon m.0.2 s.0 s.1)));
            value = ap (λ (x : Field). Some x) found.value;
            made = found.made;
            nested = found.nested;
          }) s.2
      | inr b ↦ with_found (None, o, ts) y
          (record { tree = NoDefault; spelled = refl; value = refl; made = refl; nested = omega arith }) b.1
    ]

abbrev switched : Declaration → List Lexeme → List Lexeme
switched t ts = Word word.Switch ∷ Sign mark.OpenRound ∷ declaration t
    (Sign mark.CloseRound ∷ Sign mark.OpenBrace ∷ Word word.Case ∷ ts)

switch_found : (d : ℕ) (reader : Reader Field) → FindsDeclarations d reader
    → Finds switched declaration_in depth_of_declaration d (switch_with reader)
unfolding switch_with
switch_found d reader finds o ts y e =
    let a = bind_some (after_word word.Switch ts) _ y e in
    let b = bind_some (after_sign mark.OpenRound a.0) _ y a.2 in
    let t = bind_some (reader o b.0) _ y b.2 in
    let c = bind_some (after_sign mark.CloseRound t.0.2) _ y t.2 in
    let g = bind_some (after_sign mark.OpenBrace c.0) _ y c.2 in
    let f = bind_some (after_word word.Case g.0) _ y g.2 in
    let found = finds o b.0 t.0 t.1 in
    let rest : t.0.2 ≡ Sign mark.CloseRound ∷ Sign mark.OpenBrace ∷ Word word.Case ∷ f.0 =
    sign_found mark.CloseRound t.0.2 c.0 c.1 ∙ ap (λ (x : List Lexeme). Sign mark.CloseRound ∷ x)
    (sign_found mark.OpenBrace c.0 g.0 g.1 ∙ ap (λ (x : List Lexeme). Sign mark.OpenBrace ∷ x)
    (word_found word.Case g.0 f.0 f.1)) in
    with_found (t.0.0, t.0.1, f.0) y (record {
      tree = found.tree;
      spelled = word_found word.Switch ts a.0 a.1
          ∙ ap (λ (x : List Lexeme). Word word.Switch ∷ x) (sign_found mark.OpenRound a.0 b.0 b.1
          ∙ ap (λ (x : List Lexeme). Sign mark.OpenRound ∷ x) (found.spelled ∙ ap (declaration found.tree) rest));
      value = found.value;
      made = found.made;
      nested = found.nested;
    }) f.2

pub union_found : (d : ℕ) (reader : Reader Field) → FindsDeclarations d reader
    → (o : Outline) (ts : List Lexeme) (y : Part × Outline × List Lexeme) → union_with reader o ts ≡ Some y
    → IsBody d kind.Union o ts y
unfolding union_with
union_found d reader finds o ts y e =
    let contents = content_found d reader finds in
    let t = bind_some (switch_with reader o ts) _ y e in
    let tag = switch_found d reader finds o ts t.0 t.1 in
    let a = bind_some (repeat (arm_with (content_with reader)) (length t.0.2) t.0.1 t.0.2) _ y t.2 in
    let all = row_found arm_rows d (arm_with (content_with reader)) (arm_found d (content_with reader) contents)
    (length t.0.2) t.0.1 t.0.2 a.0 a.1 in
    let b = bind_some (default_with (content_with reader) a.0.1 a.0.2) _ y a.2 in
    let other = default_found d (content_with reader) contents a.0.1 a.0.2 b.0 b.1 in
    let c = bind_some (after_sign mark.CloseBrace b.0.2) _ y b.2 in
    let o1 : Outline = (declaration_in tag.tree o).1 in
    let made1 : a.0.1 ≡ (arms_in all.tree o1).1 = all.made ∙ ap (λ (x : Outline). (arms_in all.tree x).1) tag.made in
    let o2 : Outline = (arms_in all.tree o1).1 in
    let made2 : b.0.1 ≡ (default_in other.tree o2).1 = other.made
    ∙ ap (λ (x : Outline). (default_in other.tree x).1) made1 in
    let value1 : a.0.0 ≡ (arms_in all.tree o1).0 = all.value ∙ ap (λ (x : Outline). (arms_in all.tree x).0) tag.made in
    let value2 : b.0.0 ≡ (default_in other.tree o2).0 = other.value
    ∙ ap (λ (x : Outline). (default_in other.tree x).0) made1 in
    let rest : a.0.2 ≡ otherwise other.tree (Sign mark.CloseBrace ∷ c.0) = other.spelled
    ∙ ap (otherwise other.tree) (sign_found mark.CloseBrace b.0.2 c.0 c.1) in
    let inner : Word word.Case ∷ t.0.2 ≡ arms all.tree (otherwise other.tree (Sign mark.CloseBrace ∷ c.0)) = ap
    (λ (x : List Lexeme). Word word.Case ∷ x) (all.spelled ∙ ap (after_case all.tree) rest)
    ∙ sym (begins_case all.tree (otherwise other.tree (Sign mark.CloseBrace ∷ c.0))) in
    subst (λ (z : Part × Outline × List Lexeme). IsBody d kind.Union o ts z)
    (some_is (place b.0.1, add (DChoice t.0.0.part a.0.0 b.0.0) b.0.1, c.0) y c.2) (record {
      tree = UnionBody tag.tree all.tree other.tree;
      word = refl;
      defined = λ p. refl;
      spelled = tag.spelled
          ∙ ap (λ (x : List Lexeme). Word word.Switch ∷ Sign mark.OpenRound ∷ declaration tag.tree
          (Sign mark.CloseRound ∷ Sign mark.OpenBrace ∷ x)) inner;
      value = ap place made2;
      made = ap (λ (x : Field). add (DChoice x.part a.0.0 b.0.0) b.0.1) tag.value
          ∙ ap (λ (x : List Arm). add (DChoice (declaration_in tag.tree o).0.part x b.0.0) b.0.1) value1
          ∙ ap (λ (x : Option Field). add (DChoice (declaration_in tag.tree o).0.part (arms_in all.tree o1).0 x) b.0.1)
          value2 ∙ ap (λ (x : Outline). add
          (DChoice (declaration_in tag.tree o).0.part (arms_in all.tree o1).0 (default_in other.tree o2).0) x) made2;
      nested = omega (arith, tag.nested, all.nested, other.nested);
    })
