-- The tokens of pieces are those of the JSON value.
use Rattle.std.proofs.Common.{◌≡◌, ℕ, List, [], ◌∷◌, ◌++◌, map, refl, sym, ap, ap₂, ◌∙◌, append_assoc}
use Rattle.std.specs.Prelude.{codes, decimal, flat_map}
use Rattle.json.specs.Json.{Json, array}
use Rattle.json.specs.Print.{print}
use Rattle.json.specs.Token.{Token, begin_object, end_object, begin_array, end_array, key, number}
use Rattle.json.specs.Tree.{json_tokens, items_tokens}
use Rattle.json.specs.Value.{items_of}
use Rattle.xdr_types.specs.Kinds.{Part}
use Rattle.xdr_lang.specs.Declarations.{Declared, Constant, Procedure, Version, Program}
use Rattle.xdr_listing.specs.Words.{Types}
use Rattle.xdr_listing.specs.JsonListing.{constant_json, type_json, part_json, result_json, procedure_json}
use Rattle.xdr_listing.specs.JsonListing.{version_json, program_json, all_json, json_listing}
use Rattle.xdr_listing.specs.Listing.{own_constants, own_types}
use Rattle.xdr_listing.specs.Private.Tokens.{array_tokens, numbered_tokens, constant_tokens, type_tokens, part_tokens}
use Rattle.xdr_listing.specs.Private.Tokens.{procedure_tokens, version_tokens, program_tokens, all_tokens}
use Rattle.xdr_listing.specs.Private.Tokens.{named_tokens}

items_as : {A : Type 0} (f : A → Json) (g : A → List Token) → ((x : A) → json_tokens (f x) ≡ g x) → (xs : List A)
    → items_tokens (items_of (map f xs)) ≡ flat_map g xs ++ end_array ∷ []
items_as f g e [] = refl
items_as f g e (x ∷ xs) =
    ap₂ (λ (a b : List Token). a ++ b) (e x) (items_as f g e xs)
    ∙ sym (append_assoc (g x) (flat_map g xs) (end_array ∷ []))

array_as : {A : Type 0} (f : A → Json) (g : A → List Token) → ((x : A) → json_tokens (f x) ≡ g x) → (xs : List A)
    → json_tokens (array (items_of (map f xs))) ≡ array_tokens g xs
array_as f g e xs = ap (λ (z : List Token). begin_array ∷ z) (items_as f g e xs)

procedure_as : (t : Types) (p : Procedure) → json_tokens (procedure_json t p) ≡ procedure_tokens t p
procedure_as t p =
    ap (λ (z : List Token). numbered_tokens p.name p.number ++ (key (codes "arguments")
    ∷ (z ++ key (codes "result") ∷ (json_tokens (result_json t p.result) ++ end_object ∷ []))))
    (array_as (part_json t) (part_tokens t) (λ _. refl) p.arguments)

version_as : (t : Types) (v : Version) → json_tokens (version_json t v) ≡ version_tokens t v
version_as t v =
    ap (λ (z : List Token). numbered_tokens v.name v.number ++ (key (codes "procedures") ∷ (z ++ end_object ∷ [])))
    (array_as (procedure_json t) (procedure_tokens t) (procedure_as t) v.procedures)

program_as : (t : Types) (p : Program) → json_tokens (program_json t p) ≡ program_tokens t p
program_as t p =
    ap (λ (z : List Token). numbered_tokens p.name p.number ++ (key (codes "versions") ∷ (z ++ end_object ∷ [])))
    (array_as (version_json t) (version_tokens t) (version_as t) p.versions)

all_as : (t : Types) (cs : List Constant) (ps : List Part) (qs : List Program)
    → json_tokens (all_json t cs ps qs) ≡ all_tokens t cs ps qs
all_as t cs ps qs =
    let a = array_as constant_json constant_tokens (λ _. refl) cs in
    let b = array_as (type_json t) (type_tokens t) (λ _. refl) ps in
    let c = array_as (program_json t) (program_tokens t) (program_as t) qs in
    λ i. begin_object ∷ key (codes "constants") ∷ (a i ++ key (codes "types") ∷ (b i ++ key (codes "programs")
    ∷ (c i ++ end_object ∷ [])))

pub told : (d : Declared) (t : Types) (cs : List Constant) (ps : List Part) (qs : List Program) (text : List ℕ)
    → text ≡ print (all_tokens t cs ps qs) ++ codes "\n" → cs ≡ own_constants d → ps ≡ own_types d
    → qs ≡ d.programs
    → text ≡ json_listing d t
told d t cs ps qs text e a b c =
    e ∙ ap₂ (λ (x : List Constant) (y : List Part). print (all_tokens t x y qs) ++ codes "\n") a b
    ∙ ap (λ (z : List Program). print (all_tokens t (own_constants d) (own_types d) z) ++ codes "\n") c
    ∙ ap (λ (z : List Token). print z ++ codes "\n") (sym (all_as t (own_constants d) (own_types d) d.programs))

-- a name, and then a number behind its key
pub numbered_as : (old a b new : List Token) (name digits : List ℕ) (n : ℕ)
    → a ≡ old ++ named_tokens name
    → b ≡ a ++ key (codes "number") ∷ []
    → new ≡ b ++ number digits ∷ []
    → digits ≡ decimal n
    → new ≡ old ++ numbered_tokens name n
numbered_as old a b new name digits n named keyed counted spelled =
    let N = number (decimal n) ∷ [] in
    counted ∙ ap (λ (d : List ℕ). b ++ number d ∷ []) spelled
    ∙ ap (λ (z : List Token). z ++ N) (keyed ∙ ap (λ (z : List Token). z ++ key (codes "number") ∷ []) named)
    ∙ append_assoc (old ++ named_tokens name) (key (codes "number") ∷ []) N
    ∙ append_assoc old (named_tokens name) (key (codes "number") ∷ N)

-- the beginning of an object, one member more, and the bracket
pub object_as : (old a b c new head head' body body' : List Token) (k : List ℕ)
    → a ≡ old ++ head'
    → b ≡ a ++ key k ∷ []
    → c ≡ b ++ body'
    → new ≡ c ++ end_object ∷ []
    → head' ≡ head
    → body' ≡ body
    → new ≡ old ++ (head ++ (key k ∷ (body ++ end_object ∷ [])))
object_as old a b c new head head' body body' k first keyed second ended one two =
    let E = end_object ∷ [] in
    ended
    ∙ ap (λ (z : List Token). z ++ E)
    (second ∙ ap₂ (λ (x y : List Token). x ++ y)
    (keyed ∙ ap (λ (z : List Token). z ++ key k ∷ []) (first ∙ ap (λ (h : List Token). old ++ h) one)) two)
    ∙ append_assoc ((old ++ head) ++ key k ∷ []) body E
    ∙ append_assoc (old ++ head) (key k ∷ []) (body ++ E)
    ∙ append_assoc old head (key k ∷ (body ++ E))

-- the same with a second member behind the first
pub pair_as : (old a b c d e new head head' body body' last : List Token) (k l : List ℕ)
    → a ≡ old ++ head'
    → b ≡ a ++ key k ∷ []
    → c ≡ b ++ body'
    → d ≡ c ++ key l ∷ []
    → e ≡ d ++ last
    → new ≡ e ++ end_object ∷ []
    → head' ≡ head
    → body' ≡ body
    → new ≡ old ++ (head ++ (key k ∷ (body ++ key l ∷ (last ++ end_object ∷ []))))
pair_as old a b c d e new head head' body body' last k l first keyed second named third ended one two =
    let E = end_object ∷ [] in
    let both : e ≡ b ++ (body' ++ key l ∷ last) =
    third ∙ ap (λ (z : List Token). z ++ last) (named ∙ ap (λ (z : List Token). z ++ key l ∷ []) second)
    ∙ append_assoc (b ++ body') (key l ∷ []) last
    ∙ append_assoc b body' (key l ∷ last) in
    object_as old a b e new head head' (body ++ key l ∷ last) (body' ++ key l ∷ last) k first keyed both ended one
    (ap (λ (z : List Token). z ++ key l ∷ last) two)
    ∙ ap (λ (z : List Token). old ++ (head ++ (key k ∷ z))) (append_assoc body (key l ∷ last) E)
