use Rattle.std.proofs.Common.{◌≡◌, [], ◌∷◌, ap, ◌∙◌, arith, inl, inr}
use Rattle.json.specs.Token as token
use Rattle.json.specs.Json as json
use Rattle.json.specs.Reads.{token_of}
use Rattle.json.proofs.Grammar.{value_is}
use Rattle.xdr_json_reader.proofs.Parsing.{no_tokens, opens_array, opens_object, whole, none_begins, view-Null}
use Rattle.xdr_json_reader.proofs.Parsing.{view-Flag}
use Rattle.xdr_json_reader.proofs.Parsing.{view-Number, view-Text}
use Rattle.xdr_json_reader.proofs.tape_frames.begin.Goals as goal

pub returns-in_default-clause-value : goal.returns-in_default-clause-value
returns-in_default-clause-value c = λ d.
    let empty : c.args.reader.now ≡ [] = grind arith in
    no_tokens d c.args.reader.now empty

pub returns-in-Null-clause-value : goal.returns-in-Null-clause-value
returns-in-Null-clause-value c =
    whole c.args.reader.now c.next.new.self token.null json.null _
    (c.in-Some.ensures.value ∙ ap (λ k. token_of k ∷ c.next.new.self) c.in-Null.is) (view-Null c.offset-at.result)
    (λ d. value_is d _)

pub returns-in-Bool-clause-value : goal.returns-in-Bool-clause-value
returns-in-Bool-clause-value c =
    whole c.args.reader.now c.next.new.self (token.boolean c.in-Bool.flag) (json.boolean c.in-Bool.flag) _
    (c.in-Some.ensures.value ∙ ap (λ k. token_of k ∷ c.next.new.self) c.in-Bool.is)
    (view-Flag c.in-Bool.flag c.offset-at.result) (λ d. value_is d _)

pub returns-in-Number-clause-value : goal.returns-in-Number-clause-value
returns-in-Number-clause-value c =
    whole c.args.reader.now c.next.new.self (token.number c.in-Number.text.now) (json.number c.in-Number.text.now) _
    (c.in-Some.ensures.value ∙ ap (λ k. token_of k ∷ c.next.new.self) c.in-Number.is)
    (view-Number c.in-Number.text c.offset-at.result) (λ d. value_is d _)

pub returns-in-String-clause-value : goal.returns-in-String-clause-value
returns-in-String-clause-value c =
    whole c.args.reader.now c.next.new.self (token.string c.in-String.text.now) (json.string c.in-String.text.now) _
    (c.in-Some.ensures.value ∙ ap (λ k. token_of k ∷ c.next.new.self) c.in-String.is)
    (view-Text c.in-String.text c.offset-at.result) (λ d. value_is d _)

pub returns-in-BeginArray-clause-value : goal.returns-in-BeginArray-clause-value
returns-in-BeginArray-clause-value c =
    opens_array c.args.key c.new-items.result c.offset-at.result c.args.reader.now c.next.new.self
    c.new-items.ensures.items
    (c.in-Some.ensures.value ∙ ap (λ k. token_of k ∷ c.next.new.self) c.in-BeginArray.is)

pub returns-in-BeginObject-clause-value : goal.returns-in-BeginObject-clause-value
returns-in-BeginObject-clause-value c =
    opens_object c.args.key c.new-members.result c.offset-at.result c.args.reader.now c.next.new.self
    c.new-members.ensures.items
    (c.in-Some.ensures.value ∙ ap (λ k. token_of k ∷ c.next.new.self) c.in-BeginObject.is)

pub returns-in-EndArray-clause-value : goal.returns-in-EndArray-clause-value
returns-in-EndArray-clause-value c =
    let old = c.args.reader.now in
    let new = c.next.new.self in
    let first = c.in-Some.ensures.value in
    elim c.in-EndArray.is [
      | inl e ↦ none_begins old new token.end_array (first ∙ ap (λ k. token_of k ∷ new) e) (λ d. value_is d _)
      | inr h ↦ elim h [
        | inl e ↦ none_begins old new token.end_object (first ∙ ap (λ k. token_of k ∷ new) e) (λ d. value_is d _)
        | inr i ↦ elim i [
          | inl e ↦ none_begins old new (token.key e.0.now) (first ∙ ap (λ k. token_of k ∷ new) e.1) (λ d. value_is d _)
          | inr e ↦ none_begins old new token.bad (first ∙ ap (λ k. token_of k ∷ new) e) (λ d. value_is d _)
        ]
      ]
    ]
