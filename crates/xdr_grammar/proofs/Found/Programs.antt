-- Soundness of programs, their versions and procedures.
use Rattle.std.proofs.Common.{◌≡◌, ℕ, max, Bool, cond, ℤ, List, [], ◌∷◌, length, Option, Some, None, inl, inr, refl, ap}
use Rattle.std.proofs.Common.{subst, ◌∙◌, arith}
use Rattle.xdr_tokens.specs.declared.token.Keyword.TheVariants as word
use Rattle.xdr_tokens.specs.declared.token.Mark.TheVariants as mark
use Rattle.xdr_tokens.specs.Tokens.{Lexeme, Word, Name, Number, Sign}
use Rattle.xdr_grammar.specs.Tree as tree
use Rattle.xdr_grammar.specs.Tree.{Passed, AnyText, OfType, depth_of_passed, depth_of_arguments, depth_of_result}
use Rattle.xdr_grammar.specs.Tree.{depth_of_procedures, depth_of_versions}
use Rattle.xdr_grammar.specs.Grammar.{passed, result, more_arguments, arguments, procedure, procedures, version}
use Rattle.xdr_grammar.specs.Grammar.{versions}
use Rattle.xdr_grammar.specs.Outline.{Part, IsText, Procedure, Version, Outline, passed_in, arguments_in, result_in}
use Rattle.xdr_grammar.specs.Outline.{procedure_in, procedures_in, version_in, versions_in}
use Rattle.xdr_grammar.specs.Private.Taking.{after_word, after_sign, name_at, numbered_at, either_sign}
use Rattle.xdr_grammar.specs.Private.Reading.{Reader, repeat, passed_with, argument_with, arguments_with, result_with}
use Rattle.xdr_grammar.specs.Private.Reading.{procedure_with, version_with}
use Rattle.xdr_tokens.proofs.Options.{bind_some, some_is}
use Rattle.xdr_grammar.proofs.Leaves.{taken_some, word_found, sign_found, name_found, numbered_found, either_found}
use Rattle.xdr_grammar.proofs.Rows.{Finds, with_found, FoundItem, FindsItems, AreRows, row_found}
use Rattle.xdr_grammar.proofs.Found.Declarations.{FindsSpecifiers}
use Rattle.xdr_grammar.proofs.Found.Bodies.{closing, closing_found}

passed_found : (d : ℕ) (reader : Reader Part) → FindsSpecifiers d reader
    → Finds passed passed_in depth_of_passed d (passed_with reader)
unfolding passed_with
passed_found d reader finds o ts y e =
    elim (taken_some (after_word word.String ts) _ _ _ e) [
      | inl a ↦ with_found (IsText, o, a.0) y (record {
        tree = AnyText;
        spelled = word_found word.String ts a.0 a.1;
        value = refl;
        made = refl;
        nested = omega arith;
      }) a.2
      | inr n ↦ let s = finds o ts y n.1 in
          record { tree = OfType s.tree; spelled = s.spelled; value = s.value; made = s.made; nested = s.nested }
    ]

abbrev an_argument : Passed → Bool → List Lexeme → List Lexeme
an_argument p more ts = passed p (Sign (cond more mark.Comma mark.CloseRound) ∷ ts)

argument_found : (d : ℕ) (reader : Reader Part) → FindsSpecifiers d reader
    → FindsItems an_argument passed_in depth_of_passed d (argument_with reader)
unfolding argument_with
argument_found d reader finds o ts y e =
    let p = bind_some (passed_with reader o ts) _ y e in
    let m = bind_some (either_sign mark.Comma mark.CloseRound p.0.2) _ y p.2 in
    let found = passed_found d reader finds o ts p.0 p.1 in
    subst (λ (z : (Part × Bool) × Outline × List Lexeme). FoundItem an_argument passed_in depth_of_passed d o ts z)
    (some_is ((p.0.0, m.0.0), p.0.1, m.0.1) y m.2)
    (record {
      tree = found.tree;
      spelled = found.spelled
          ∙ ap (passed found.tree) (either_found mark.Comma mark.CloseRound p.0.2 m.0 m.1);
      value = found.value;
      made = found.made;
      nested = found.nested;
    })

argument_rows : AreRows an_argument passed_in depth_of_passed
    (λ (t : Passed × List Passed) ts. passed t.0 (more_arguments t.1 (Sign mark.CloseRound ∷ ts)))
    (λ t o. arguments_in (t.0 ∷ t.1) o) (λ t. depth_of_arguments (t.0 ∷ t.1))
argument_rows = record {
  last = λ p. (p, []);
  more = λ p t. (p, t.0 ∷ t.1);
  last_spelled = λ p ts. refl;
  more_spelled = λ p t ts. refl;
  last_given = λ p o. refl;
  more_given = λ p t o. refl;
  last_nested = λ p d h. omega (arith, h);
  more_nested = λ p t d h k. omega (arith, h, k);
}

abbrev closed_arguments : List Passed → List Lexeme → List Lexeme
closed_arguments ps ts = arguments ps (Sign mark.CloseRound ∷ ts)

arguments_found : (d : ℕ) (reader : Reader Part) → FindsSpecifiers d reader
    → Finds closed_arguments arguments_in depth_of_arguments d (arguments_with reader)
unfolding arguments_with
arguments_found d reader finds o ts y e =
    elim (taken_some (after_word word.Void ts) _ _ _ e) [
      | inl a ↦
          let c = bind_some (after_sign mark.CloseRound a.0) _ y a.2 in
          with_found ([], o, c.0) y (record {
            tree = [];
            spelled = word_found word.Void ts a.0 a.1
                ∙ ap (λ (x : List Lexeme). Word word.Void ∷ x) (sign_found mark.CloseRound a.0 c.0 c.1);
            value = refl;
            made = refl;
            nested = omega arith;
          }) c.2
      | inr n ↦
          let p = row_found argument_rows d (argument_with reader) (argument_found d reader finds)
          (length ts) o ts y n.1 in
          record {
            tree = p.tree.0 ∷ p.tree.1;
            spelled = p.spelled;
            value = p.value;
            made = p.made;
            nested = p.nested;
          }
    ]

result_found : (d : ℕ) (reader : Reader Part) → FindsSpecifiers d reader
    → Finds result result_in depth_of_result d (result_with reader)
unfolding result_with
result_found d reader finds o ts y e =
    elim (taken_some (after_word word.Void ts) _ _ _ e) [
      | inl a ↦ with_found (None, o, a.0) y (record {
        tree = None;
        spelled = word_found word.Void ts a.0 a.1;
        value = refl;
        made = refl;
        nested = omega arith;
      }) a.2
      | inr n ↦
          let p = bind_some (passed_with reader o ts) _ y n.1 in
          let found = passed_found d reader finds o ts p.0 p.1 in
          with_found (Some p.0.0, p.0.1, p.0.2) y (record {
            tree = Some found.tree;
            spelled = found.spelled;
            value = ap (λ (x : Part). Some x) found.value;
            made = found.made;
            nested = found.nested;
          }) p.2
    ]

-- ---- procedures

abbrev a_procedure : List ℕ → ℤ → List Part → Option Part → Procedure
a_procedure n v ps r = record { name = n; number = v; arguments = ps; result = r }

abbrev depth_of_procedure : tree.Procedure → ℕ
depth_of_procedure p = max (depth_of_result p.result) (depth_of_arguments p.arguments)

abbrev a_closed_procedure : tree.Procedure → Bool → List Lexeme → List Lexeme
a_closed_procedure p more ts = procedure p (closing more ts)

procedure_found : (d : ℕ) (reader : Reader Part) → FindsSpecifiers d reader
    → FindsItems a_closed_procedure procedure_in depth_of_procedure d (procedure_with reader)
unfolding procedure_with
procedure_found d reader finds o ts y e =
    let r = bind_some (result_with reader o ts) _ y e in
    let n = bind_some (name_at r.0.2) _ y r.2 in
    let i = bind_some (after_sign mark.OpenRound n.0.1) _ y n.2 in
    let a = bind_some (arguments_with reader r.0.1 i.0) _ y i.2 in
    let v = bind_some (numbered_at a.0.2) _ y a.2 in
    let c = closing_found (a_procedure n.0.0 v.0.0 a.0.0 r.0.0) a.0.1 v.0.1 y v.2 in
    let res = result_found d reader finds o ts r.0 r.1 in
    let arg = arguments_found d reader finds r.0.1 i.0 a.0 a.1 in
    let number = numbered_found a.0.2 v.0 v.1 in
    let o1 : Outline = (result_in res.tree o).1 in
    let after : r.0.2 ≡ Name n.0.0 ∷ Sign mark.OpenRound ∷ arguments arg.tree
    (Sign mark.CloseRound ∷ Sign mark.Equal ∷ Number v.0.0 ∷ Sign mark.Semicolon ∷ closing y.0.1 y.2) =
    name_found r.0.2 n.0 n.1 ∙ ap (λ (x : List Lexeme). Name n.0.0 ∷ x) (sign_found mark.OpenRound n.0.1 i.0 i.1
    ∙ ap (λ (x : List Lexeme). Sign mark.OpenRound ∷ x)
    (arg.spelled ∙ ap (λ (x : List Lexeme). arguments arg.tree (Sign mark.CloseRound ∷ x))
    (number ∙ ap (λ (x : List Lexeme). Sign mark.Equal ∷ Number v.0.0 ∷ Sign mark.Semicolon ∷ x) c.2))) in
    record {
      tree = record { result = res.tree; name = n.0.0; arguments = arg.tree; number = v.0.0 };
      spelled = res.spelled ∙ ap (result res.tree) after;
      value = c.0 ∙ ap (λ (x : Option Part). a_procedure n.0.0 v.0.0 a.0.0 x) res.value
          ∙ ap (λ (x : List Part). a_procedure n.0.0 v.0.0 x (result_in res.tree o).0)
          (arg.value ∙ ap (λ (x : Outline). (arguments_in arg.tree x).0) res.made);
      made = c.1 ∙ arg.made ∙ ap (λ (x : Outline). (arguments_in arg.tree x).1) res.made;
      nested = omega (arith, res.nested, arg.nested);
    }

procedure_rows : AreRows a_closed_procedure procedure_in depth_of_procedure
    (λ (t : tree.Procedure × List tree.Procedure) ts. procedures (t.0 ∷ t.1) (Sign mark.CloseBrace ∷ ts))
    (λ t o. procedures_in (t.0 ∷ t.1) o) (λ t. depth_of_procedures (t.0 ∷ t.1))
procedure_rows = record {
  last = λ p. (p, []);
  more = λ p t. (p, t.0 ∷ t.1);
  last_spelled = λ p ts. refl;
  more_spelled = λ p t ts. refl;
  last_given = λ p o. refl;
  more_given = λ p t o. refl;
  last_nested = λ p d h. omega (arith, h);
  more_nested = λ p t d h k. omega (arith, h, k);
}

-- ---- versions

abbrev a_version : List ℕ → ℤ → List Procedure → Version
a_version n v ps = record { name = n; number = v; procedures = ps }

abbrev a_closed_version : tree.Version → Bool → List Lexeme → List Lexeme
a_closed_version v more ts = version v (closing more ts)

abbrev depth_of_version : tree.Version → ℕ
depth_of_version v = depth_of_procedures (v.first ∷ v.others)

pub version_found : (d : ℕ) (reader : Reader Part) → FindsSpecifiers d reader
    → FindsItems a_closed_version version_in depth_of_version d (version_with reader)
unfolding version_with
version_found d reader finds o ts y e =
    let w = bind_some (after_word word.Version ts) _ y e in
    let n = bind_some (name_at w.0) _ y w.2 in
    let i = bind_some (after_sign mark.OpenBrace n.0.1) _ y n.2 in
    let p = bind_some (repeat (procedure_with reader) (length i.0) o i.0) _ y i.2 in
    let v = bind_some (numbered_at p.0.2) _ y p.2 in
    let c = closing_found (a_version n.0.0 v.0.0 p.0.0) p.0.1 v.0.1 y v.2 in
    let ps = row_found procedure_rows d (procedure_with reader) (procedure_found d reader finds)
    (length i.0) o i.0 p.0 p.1 in
    let number = numbered_found p.0.2 v.0 v.1 in
    record {
      tree = record { name = n.0.0; first = ps.tree.0; others = ps.tree.1; number = v.0.0 };
      spelled = word_found word.Version ts w.0 w.1
          ∙ ap (λ (x : List Lexeme). Word word.Version ∷ x)
          (name_found w.0 n.0 n.1 ∙ ap (λ (x : List Lexeme). Name n.0.0 ∷ x) (sign_found mark.OpenBrace n.0.1 i.0 i.1
          ∙ ap (λ (x : List Lexeme). Sign mark.OpenBrace ∷ x)
          (ps.spelled ∙ ap (λ (x : List Lexeme). procedures (ps.tree.0 ∷ ps.tree.1) (Sign mark.CloseBrace ∷ x))
          (number ∙ ap (λ (x : List Lexeme). Sign mark.Equal ∷ Number v.0.0 ∷ Sign mark.Semicolon ∷ x) c.2))));
      value = c.0 ∙ ap (λ (x : List Procedure). a_version n.0.0 v.0.0 x) ps.value;
      made = c.1 ∙ ps.made;
      nested = ps.nested;
    }

pub version_rows : AreRows a_closed_version version_in depth_of_version
    (λ (t : tree.Version × List tree.Version) ts. versions (t.0 ∷ t.1) (Sign mark.CloseBrace ∷ ts))
    (λ t o. versions_in (t.0 ∷ t.1) o) (λ t. depth_of_versions (t.0 ∷ t.1))
version_rows = record {
  last = λ v. (v, []);
  more = λ v t. (v, t.0 ∷ t.1);
  last_spelled = λ v ts. refl;
  more_spelled = λ v t ts. refl;
  last_given = λ v o. refl;
  more_given = λ v t o. refl;
  last_nested = λ v d h. omega (arith, h);
  more_nested = λ v t d h k. omega (arith, h, k);
}
