-- Soundness of the bodies of enums and structs, and what a body is.
use Rattle.std.proofs.Common.{◌≡◌, ℕ, suc, ◌≤◌, Bool, true, false, cond, List, [], ◌∷◌, length, Some, inl, inr, refl}
use Rattle.std.proofs.Common.{ap, subst, ◌∙◌, arith}
use Rattle.xdr_tokens.specs.declared.token.Keyword.TheVariants as word
use Rattle.xdr_tokens.specs.declared.token.Mark.TheVariants as mark
use Rattle.xdr_grammar.specs.declared.outline.BodyKind.{BodyKind}
use Rattle.xdr_grammar.specs.declared.outline.BodyKind.TheVariants as kind
use Rattle.xdr_tokens.specs.Tokens.{Lexeme, Word, Name, Sign}
use Rattle.xdr_grammar.specs.Tree.{Member, Body, EnumBody, StructBody, Content, Fields, Last, More, depth_of_body}
use Rattle.xdr_grammar.specs.Tree.{depth_of_content, depth_of_fields}
use Rattle.xdr_grammar.specs.Grammar.{value, member, members, body_word, body, content, fields}
use Rattle.xdr_grammar.specs.Outline.{Late, Part, Field, DNumbered, DStructure, Outline, late, declare, place, add}
use Rattle.xdr_grammar.specs.Outline.{defined_as, members_in, body_in, content_in, fields_in}
use Rattle.xdr_grammar.specs.Private.Taking.{taken, after_sign, name_at, value_at, either_sign}
use Rattle.xdr_grammar.specs.Private.Reading.{Reader, repeat, member_at, enum_at, field_with, struct_with, defined_part}
use Rattle.xdr_tokens.proofs.Options.{bind_some, some_is}
use Rattle.xdr_grammar.proofs.Rows.{FoundItem, FindsItems, AreRows, row_found}
use Rattle.xdr_grammar.proofs.Leaves.{taken_some, sign_found, name_found, either_found, value_found}
use Rattle.xdr_grammar.proofs.Found.Declarations.{FindsContents}

-- the word of a body
abbrev pub word_of : BodyKind → Lexeme
word_of kind.Enum = Word word.Enum
word_of kind.Struct = Word word.Struct
word_of kind.Union = Word word.Union

-- a body after its word
pub record IsBody (d : ℕ) (k : BodyKind) (o : Outline) (ts : List Lexeme)
    (y : Part × Outline × List Lexeme) : Type 0 where
  pub tree : Body
  pub word : word_of k ≡ body_word tree
  pub defined : (p : Part) → defined_part k p ≡ defined_as tree p
  pub spelled : ts ≡ body tree y.2
  pub value : y.0 ≡ (body_in tree o).0
  pub made : y.1 ≡ (body_in tree o).1
  pub nested : depth_of_body tree ≤ suc d

-- after an item: another one, or the end
abbrev pub closing : Bool → List Lexeme → List Lexeme
closing true ts = ts
closing false ts = Sign mark.CloseBrace ∷ ts

pub closing_found : {A : Type 0} (a : A) (o : Outline) (ts : List Lexeme) (y : (A × Bool) × Outline × List Lexeme)
    → taken (after_sign mark.CloseBrace ts) (λ rest. Some ((a, false), o, rest)) (Some ((a, true), o, ts)) ≡ Some y
    → (y.0.0 ≡ a) × (y.1 ≡ o) × (ts ≡ closing y.0.1 y.2)
closing_found {A = A} a o ts y e =
    elim (taken_some (after_sign mark.CloseBrace ts) _ _ _ e) [
      | inl h ↦ subst (λ (z : (A × Bool) × Outline × List Lexeme). (z.0.0 ≡ a) × (z.1 ≡ o) × (ts ≡ closing z.0.1 z.2))
          (some_is ((a, false), o, h.0) y h.2) (refl, refl, sign_found mark.CloseBrace ts h.0 h.1)
      | inr h ↦ subst (λ (z : (A × Bool) × Outline × List Lexeme). (z.0.0 ≡ a) × (z.1 ≡ o) × (ts ≡ closing z.0.1 z.2))
          (some_is ((a, true), o, ts) y h.1) (refl, refl, refl)
    ]

abbrev a_member : Member → Bool → List Lexeme → List Lexeme
a_member m more ts = member m (Sign (cond more mark.Comma mark.CloseBrace) ∷ ts)

abbrev member_in : Member → Outline → (List ℕ × Late) × Outline
member_in m o = ((m.name, late o m.value), declare m.name (late o m.value) false o)

member_found : (d : ℕ) → FindsItems a_member member_in (λ m. 0) d member_at
unfolding member_at
member_found d o ts y e =
    let n = bind_some (name_at ts) _ y e in
    let a = bind_some (after_sign mark.Equal n.0.1) _ y n.2 in
    let v = bind_some (value_at o a.0) _ y a.2 in
    let m = bind_some (either_sign mark.Comma mark.CloseBrace v.0.1) _ y v.2 in
    let w = value_found o a.0 v.0 v.1 in
    let ends = either_found mark.Comma mark.CloseBrace v.0.1 m.0 m.1 in
    let all = name_found ts n.0 n.1 ∙ ap (λ (x : List Lexeme). Name n.0.0 ∷ x) (sign_found mark.Equal n.0.1 a.0 a.1
    ∙ ap (λ (x : List Lexeme). Sign mark.Equal ∷ x) (w.spelled ∙ ap (λ (x : List Lexeme). value w.tree ∷ x) ends))
    in
    subst (λ (z : ((List ℕ × Late) × Bool) × Outline × List Lexeme). FoundItem a_member member_in (λ m. 0) d o ts z)
    (some_is (((n.0.0, v.0.0), m.0.0), declare n.0.0 v.0.0 false o, m.0.1) y m.2)
    (record {
      tree = record { name = n.0.0; value = w.tree };
      spelled = all;
      value = ap (λ (x : Late). (n.0.0, x)) w.late;
      made = ap (λ (x : Late). declare n.0.0 x false o) w.late;
      nested = omega arith;
    })

member_rows : AreRows a_member member_in (λ m. 0)
    (λ (t : Member × List Member) ts. member t.0 (members t.1 (Sign mark.CloseBrace ∷ ts)))
    (λ t o. members_in (t.0 ∷ t.1) o) (λ t. 0)
member_rows = record {
  last = λ m. (m, []);
  more = λ m t. (m, t.0 ∷ t.1);
  last_spelled = λ m ts. refl;
  more_spelled = λ m t ts. refl;
  last_given = λ m o. refl;
  more_given = λ m t o. refl;
  last_nested = λ m d h. h;
  more_nested = λ m t d h k. h;
}

pub enum_found : (d : ℕ) (o : Outline) (ts : List Lexeme) (y : Part × Outline × List Lexeme) → enum_at o ts ≡ Some y
    → IsBody d kind.Enum o ts y
unfolding enum_at
enum_found d o ts y e =
    let i = bind_some (after_sign mark.OpenBrace ts) _ y e in
    let m = bind_some (repeat member_at (length i.0) o i.0) _ y i.2 in
    let found = row_found member_rows d member_at (member_found d) (length i.0) o i.0 m.0 m.1 in
    subst (λ (z : Part × Outline × List Lexeme). IsBody d kind.Enum o ts z)
    (some_is (place m.0.1, add (DNumbered m.0.0) m.0.1, m.0.2) y m.2) (record {
      tree = EnumBody found.tree.0 found.tree.1;
      word = refl;
      defined = λ p. refl;
      spelled = sign_found mark.OpenBrace ts i.0 i.1 ∙ ap (λ (x : List Lexeme). Sign mark.OpenBrace ∷ x) found.spelled;
      value = ap place found.made;
      made = ap (λ (x : List (List ℕ × Late)). add (DNumbered x) m.0.1) found.value
          ∙ ap (λ (x : Outline). add (DNumbered (members_in (found.tree.0 ∷ found.tree.1) o).0) x) found.made;
      nested = omega arith;
    })

abbrev a_field : Content → Bool → List Lexeme → List Lexeme
a_field m more ts = content m (Sign mark.Semicolon ∷ closing more ts)

field_found : (d : ℕ) (reader : Reader Field) → FindsContents d reader
    → FindsItems a_field content_in depth_of_content d (field_with reader)
unfolding field_with
field_found d reader finds o ts y e =
    let f = bind_some (reader o ts) _ y e in
    let s = bind_some (after_sign mark.Semicolon f.0.2) _ y f.2 in
    let found = finds o ts f.0 f.1 in
    let c = closing_found f.0.0 f.0.1 s.0 y s.2 in
    record {
      tree = found.tree;
      spelled = found.spelled
          ∙ ap (content found.tree) (sign_found mark.Semicolon f.0.2 s.0 s.1
          ∙ ap (λ (x : List Lexeme). Sign mark.Semicolon ∷ x) c.2);
      value = c.0 ∙ found.value;
      made = c.1 ∙ found.made;
      nested = found.nested;
    }

abbrev closed_fields : Fields → List Lexeme → List Lexeme
closed_fields fs ts = fields fs (Sign mark.CloseBrace ∷ ts)

field_rows : AreRows a_field content_in depth_of_content closed_fields fields_in depth_of_fields
field_rows = record {
  last = λ m. Last m;
  more = λ m fs. More m fs;
  last_spelled = λ m ts. refl;
  more_spelled = λ m fs ts. refl;
  last_given = λ m o. refl;
  more_given = λ m fs o. refl;
  last_nested = λ m d h. h;
  more_nested = λ m fs d h k. omega (arith, h, k);
}

pub struct_found : (d : ℕ) (reader : Reader Field) → FindsContents d reader
    → (o : Outline) (ts : List Lexeme) (y : Part × Outline × List Lexeme) → struct_with reader o ts ≡ Some y
    → IsBody d kind.Struct o ts y
unfolding struct_with
struct_found d reader finds o ts y e =
    let i = bind_some (after_sign mark.OpenBrace ts) _ y e in
    let f = bind_some (repeat (field_with reader) (length i.0) o i.0) _ y i.2 in
    let found = row_found field_rows d (field_with reader) (field_found d reader finds) (length i.0) o i.0 f.0 f.1 in
    subst (λ (z : Part × Outline × List Lexeme). IsBody d kind.Struct o ts z)
    (some_is (place f.0.1, add (DStructure f.0.0) f.0.1, f.0.2) y f.2) (record {
      tree = StructBody found.tree;
      word = refl;
      defined = λ p. refl;
      spelled = sign_found mark.OpenBrace ts i.0 i.1 ∙ ap (λ (x : List Lexeme). Sign mark.OpenBrace ∷ x) found.spelled;
      value = ap place found.made;
      made = ap (λ (x : List Field). add (DStructure x) f.0.1) found.value
          ∙ ap (λ (x : Outline). add (DStructure (fields_in found.tree o).0) x) found.made;
      nested = omega (arith, found.nested);
    })
