-- Completeness of the bodies of enums and structs.
use Rattle.std.proofs.Common.{◌≡◌, ℕ, zero, suc, ◌≤◌, ◌<◌, true, false, List, [], ◌∷◌, length, Some, None, refl, arith}
use Rattle.xdr_tokens.specs.declared.token.Mark.TheVariants as mark
use Rattle.xdr_tokens.specs.Tokens.{Lexeme, Sign}
use Rattle.xdr_grammar.specs.Tree.{Member, EnumBody, StructBody, Content, Fields, Last, More, depth_of_content}
use Rattle.xdr_grammar.specs.Tree.{depth_of_fields}
use Rattle.xdr_grammar.specs.Grammar.{member, members, body, content, fields}
use Rattle.xdr_grammar.specs.Outline.{Field, Outline, late, declare, members_in, body_in, content_in, fields_in}
use Rattle.xdr_grammar.specs.Private.Taking.{after_sign, name_at, either_sign}
use Rattle.xdr_grammar.specs.Private.Reading.{Reader, repeat, member_at, enum_at, field_with, struct_with}
use Rattle.xdr_grammar.proofs.Leaves.{value_again}
use Rattle.xdr_grammar.proofs.Again.Begins.{ends_semicolon, fields_not_close, semicolon_again, close_again}
use Rattle.xdr_grammar.proofs.Again.Long.{members_long, count, fields_long}
use Rattle.xdr_grammar.proofs.Again.Declarations.{RereadsContents}

member_more : (m : Member) (o : Outline) (ts : List Lexeme)
    → member_at o (member m (Sign mark.Comma ∷ ts)) ≡ Some (
      ((m.name, late o m.value), true),
      declare m.name (late o m.value) false o,
      ts,
    )
unfolding member_at name_at after_sign either_sign
member_more m o ts = rw (value_again o m.value (Sign mark.Comma ∷ ts)) refl

member_last : (m : Member) (o : Outline) (ts : List Lexeme)
    → member_at o (member m (Sign mark.CloseBrace ∷ ts)) ≡ Some (
      ((m.name, late o m.value), false),
      declare m.name (late o m.value) false o,
      ts,
    )
unfolding member_at name_at after_sign either_sign
member_last m o ts = rw (value_again o m.value (Sign mark.CloseBrace ∷ ts)) refl

members_again : (n : ℕ) (m : Member) (ms : List Member) (o : Outline) (ts : List Lexeme) → length ms < n
    → repeat member_at n o (member m (members ms (Sign mark.CloseBrace ∷ ts))) ≡ Some (
      (members_in (m ∷ ms) o).0,
      (members_in (m ∷ ms) o).1,
      ts,
    )
unfolding repeat
members_again zero m ms o ts few = absurd (omega arith)
members_again (suc n) m [] o ts few = rw (member_last m o ts) refl
members_again (suc n) m (k ∷ ms) o ts few =
    let first = member_more m o (member k (members ms (Sign mark.CloseBrace ∷ ts))) in
    let rest = members_again n k ms (declare m.name (late o m.value) false o) ts (omega arith) in
    rw (first, rest) refl

pub enum_again : (m : Member) (ms : List Member) (o : Outline) (ts : List Lexeme)
    → enum_at o (body (EnumBody m ms) ts) ≡ Some ((body_in (EnumBody m ms) o).0, (body_in (EnumBody m ms) o).1, ts)
unfolding enum_at after_sign
enum_again m ms o ts =
    rw (members_again (length (member m (members ms (Sign mark.CloseBrace ∷ ts)))) m ms o ts
    (omega (arith, members_long ms (Sign mark.CloseBrace ∷ ts)))) refl

module _ (d : ℕ) (reader : Reader Field) (rereads : RereadsContents d reader) where
  field_last : (m : Content) (o : Outline) (ts : List Lexeme) → depth_of_content m ≤ d
      → field_with reader o (content m (Sign mark.Semicolon ∷ Sign mark.CloseBrace ∷ ts)) ≡ Some
      (((content_in m o).0, false), (content_in m o).1, ts)
  unfolding field_with
  field_last m o ts fits = rw (
    rereads m o (Sign mark.Semicolon ∷ Sign mark.CloseBrace ∷ ts) fits (ends_semicolon (Sign mark.CloseBrace ∷ ts)),
    semicolon_again (Sign mark.CloseBrace ∷ ts),
    close_again ts,
  ) refl

  field_more : (m : Content) (o : Outline) (ts : List Lexeme) → depth_of_content m ≤ d
      → after_sign mark.CloseBrace ts ≡ None
      → field_with reader o (content m (Sign mark.Semicolon ∷ ts)) ≡ Some (
        ((content_in m o).0, true),
        (content_in m o).1,
        ts,
      )
  unfolding field_with
  field_more m o ts fits more = rw (
    rereads m o (Sign mark.Semicolon ∷ ts) fits (ends_semicolon ts),
    semicolon_again ts,
    more,
  ) refl

  fields_again : (n : ℕ) (fs : Fields) (o : Outline) (ts : List Lexeme) → count fs ≤ n → depth_of_fields fs ≤ d
      → repeat (field_with reader) n o (fields fs (Sign mark.CloseBrace ∷ ts)) ≡ Some
      ((fields_in fs o).0, (fields_in fs o).1, ts)
  unfolding repeat
  fields_again zero (Last m) o ts few fits = absurd (omega arith)
  fields_again zero (More m fs) o ts few fits = absurd (omega arith)
  fields_again (suc n) (Last m) o ts few fits = rw (field_last m o ts fits) refl
  fields_again (suc n) (More m fs) o ts few fits =
      let first = field_more m o (fields fs (Sign mark.CloseBrace ∷ ts)) (omega arith)
      (fields_not_close fs (Sign mark.CloseBrace ∷ ts)) in
      let rest = fields_again n fs (content_in m o).1 ts (omega arith) (omega arith) in
      rw (first, rest) refl

  pub struct_again : (fs : Fields) (o : Outline) (ts : List Lexeme) → depth_of_fields fs ≤ d
      → struct_with reader o (body (StructBody fs) ts) ≡ Some (
        (body_in (StructBody fs) o).0,
        (body_in (StructBody fs) o).1,
        ts,
      )
  unfolding struct_with after_sign
  struct_again fs o ts fits =
      rw (fields_again (length (fields fs (Sign mark.CloseBrace ∷ ts))) fs o ts
      (omega (arith, fields_long fs (Sign mark.CloseBrace ∷ ts))) fits) refl
