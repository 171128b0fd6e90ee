-- Completeness of whole texts, a definition at a time.
use Rattle.std.proofs.Common.{◌≡◌, ℕ, zero, suc, ◌≤◌, ◌<◌, ℤ, List, [], ◌∷◌, length, Some, refl, ◌∙◌, arith}
use Rattle.xdr_tokens.specs.declared.token.Mark.TheVariants as mark
use Rattle.xdr_tokens.specs.Tokens.{Lexeme, Name, Sign}
use Rattle.xdr_grammar.specs.Tree as tree
use Rattle.xdr_grammar.specs.Tree.{Body, Declaration, Definition, ConstantOf, Typedef, Defined, ProgramOf}
use Rattle.xdr_grammar.specs.Tree.{depth_of_body, depth_of_declaration, depth_of_versions, depth_of_definition, depth}
use Rattle.xdr_grammar.specs.Tree.{EnumBody, StructBody, UnionBody}
use Rattle.xdr_grammar.specs.Grammar.{body_word, body, declaration, versions, definition, specification}
use Rattle.xdr_grammar.specs.Outline.{Outline, body_in, definition_in, outlined}
use Rattle.xdr_tokens.specs.Options.{◌>>=◌}
use Rattle.xdr_grammar.specs.Private.Taking.{after_word, after_sign, name_at}
use Rattle.xdr_grammar.specs.Private.Reading.{declaration_with, specifier_at, program_with, const_at, typedef_with}
use Rattle.xdr_grammar.specs.Private.Reading.{defined_with, definition_at, definitions_at}
use Rattle.xdr_grammar.proofs.Leaves.{numbered_again}
use Rattle.xdr_grammar.proofs.Again.Declarations.{RereadsDeclarations, declaration_again}
use Rattle.xdr_grammar.proofs.Again.Long.{body_long, declaration_long}
use Rattle.xdr_grammar.proofs.Again.Specifiers.{specifier_again, body_again, body_word_again, part_again}
use Rattle.xdr_grammar.proofs.Again.Begins.{ends_semicolon}
use Rattle.xdr_grammar.proofs.Again.Begins.{semicolon_again}
use Rattle.xdr_grammar.proofs.Again.Programs.{ended, versions_long, versions_again}

declarations_again : (d : ℕ) → RereadsDeclarations d (declaration_with (specifier_at d))
declarations_again d = declaration_again d (specifier_at d) (specifier_again d)

typedef_again : (t : Declaration) (o : Outline) (ts : List Lexeme) → depth_of_declaration t ≤ 32
    → typedef_with (declaration_with (specifier_at 32)) o (declaration t (Sign mark.Semicolon ∷ ts)) ≡ Some
    (definition_in (Typedef t) o, ts)
unfolding typedef_with
typedef_again t o ts fits = rw (
  declarations_again 32 t o (Sign mark.Semicolon ∷ ts) fits (ends_semicolon ts),
  semicolon_again ts,
) refl

named_again : (n : List ℕ) (ts : List Lexeme) → name_at (Name n ∷ ts) ≡ Some (n, ts)
unfolding name_at
named_again n ts = refl

defined_again : (n : List ℕ) (b : Body) (o : Outline) (ts : List Lexeme) → depth_of_body b ≤ 32
    → defined_with (declaration_with (specifier_at 31)) o
    (body_word b ∷ Name n ∷ body b (Sign mark.Semicolon ∷ ts)) ≡ Some (definition_in (Defined n b) o, ts)
unfolding defined_with
defined_again n b o ts fits =
    let inner = body b (Sign mark.Semicolon ∷ ts) in
    let all = body_again 31 (declaration_with (specifier_at 31)) (declarations_again 31) b o
    (Sign mark.Semicolon ∷ ts) fits in
    rw (
      body_word_again b (Name n ∷ inner),
      named_again n inner,
      all,
      semicolon_again ts,
      part_again b (body_in b o).0,
    ) refl

program_again : (p : tree.Program) (o : Outline) (ts : List Lexeme) → depth_of_versions (p.first ∷ p.others) ≤ 32
    → program_with (specifier_at 32) o
    (Name p.name ∷ Sign mark.OpenBrace ∷ versions (p.first ∷ p.others) (Sign mark.CloseBrace ∷ ended p.number ts)) ≡
    Some (definition_in (ProgramOf p) o, ts)
unfolding program_with name_at after_sign
program_again p o ts fits =
    let inner = versions (p.first ∷ p.others) (Sign mark.CloseBrace ∷ ended p.number ts) in
    let all = versions_again 32 (specifier_at 32) (specifier_again 32) (length inner) p.first p.others o
    (ended p.number ts) (omega
    (arith, versions_long (p.first ∷ p.others) (Sign mark.CloseBrace ∷ ended p.number ts))) fits in
    rw (all, numbered_again p.number ts) refl

const_again : (n : List ℕ) (v : ℤ) (o : Outline) (ts : List Lexeme)
    → const_at o (Name n ∷ ended v ts) ≡ Some (definition_in (ConstantOf n v) o, ts)
unfolding const_at name_at
const_again n v o ts = rw (numbered_again v ts) refl

definition_again : (t : Definition) (o : Outline) (ts : List Lexeme) → depth_of_definition t ≤ 32
    → definition_at o (definition t ts) ≡ Some (definition_in t o, ts)
unfolding definition_at after_word
definition_again (ConstantOf n v) o ts fits = const_again n v o ts
definition_again (Typedef t) o ts fits = typedef_again t o ts fits
definition_again (Defined n (EnumBody m ms)) o ts fits = defined_again n (EnumBody m ms) o ts fits
definition_again (Defined n (StructBody fs)) o ts fits = defined_again n (StructBody fs) o ts fits
definition_again (Defined n (UnionBody t cs e)) o ts fits = defined_again n (UnionBody t cs e) o ts fits
definition_again (ProgramOf p) o ts fits = program_again p o ts fits

definition_long : (t : Definition) (ts : List Lexeme) → suc (length ts) ≤ length (definition t ts)
definition_long (ConstantOf n v) ts = omega arith
definition_long (Typedef t) ts = omega (arith, declaration_long t (Sign mark.Semicolon ∷ ts))
definition_long (Defined n b) ts = omega (arith, body_long b (Sign mark.Semicolon ∷ ts))
definition_long (ProgramOf p) ts = omega
    (arith, versions_long (p.first ∷ p.others) (Sign mark.CloseBrace ∷ ended p.number ts))

step_of : (n : ℕ) (o : Outline) (ts : List Lexeme) → 0 < length ts
    → definitions_at (suc n) o ts ≡ (definition_at o ts >>= λ x. definitions_at n x.0 x.1)
unfolding definitions_at
step_of n o [] some = absurd (omega arith)
step_of n o (t ∷ ts) some = refl

pub definitions_again : (n : ℕ) (ds : List Definition) (o : Outline) → length (specification ds) ≤ n → depth ds ≤ 32
    → definitions_at n o (specification ds) ≡ Some (outlined ds o)
unfolding definitions_at
definitions_again zero [] o few fits = refl
definitions_again (suc n) [] o few fits = refl
definitions_again zero (t ∷ ds) o few fits = absurd (omega (arith, definition_long t (specification ds)))
definitions_again (suc n) (t ∷ ds) o few fits =
    let long = definition_long t (specification ds) in
    let step = step_of n o (definition t (specification ds)) (omega (arith, long)) in
    let first = definition_again t o (specification ds) (omega arith) in
    let rest = definitions_again n ds (definition_in t o) (omega (arith, long)) (omega arith) in
    step ∙ rw first rest
