-- Pieces joined are lines.
use Rattle.std.proofs.Common.{◌≡◌, ℕ, ◌+◌, List, [], ◌∷◌, ◌++◌, map, Option, Some, None, refl, sym, ap, ap₂, ◌∙◌}
use Rattle.std.proofs.Common.{◌<◌, length, drop, get_or, append_assoc, append-nil}
use Rattle.std.proofs.lemmas.List.{drop_more}
use Rattle.std.proofs.lemmas.List.Concat.{flat_map-append}
use Rattle.std.specs.Prelude.{codes, decimal, flat_map}
use Rattle.xdr_types.specs.declared.kind.KindId.{KindId}
use Rattle.xdr_types.specs.Kinds.{Part}
use Rattle.xdr_lang.specs.Views.{places}
use Rattle.xdr_lang.specs.Declarations.{Declared, Constant, Procedure, Version, Program}
use Rattle.xdr_listing.specs.Words.{Types, named_text}
use Rattle.xdr_listing.specs.Listing.{constant_line, type_line, argument_lines, result_lines, procedure_lines}
use Rattle.xdr_listing.specs.Listing.{version_lines, program_lines, listing, text_of, line, part_path, procedure_path}
use Rattle.xdr_listing.specs.Listing.{version_path, own_constants, own_types}
use Rattle.xdr_listing.specs.Private.Pieces.{ended, constant_piece, type_piece, argument_piece, argument_pieces}
use Rattle.xdr_listing.specs.Private.Pieces.{result_piece, procedure_piece, version_piece, program_piece, pieces}

text_more : (xs ys : List (List ℕ)) → text_of (xs ++ ys) ≡ text_of xs ++ text_of ys
text_more xs ys = flat_map-append ended xs ys

ended_all : {A : Type 0} (f : A → List ℕ) (xs : List A) → text_of (map f xs) ≡ flat_map (λ (x : A). ended (f x)) xs
ended_all f [] = refl
ended_all f (x ∷ xs) = ap (λ (z : List ℕ). ended (f x) ++ z) (ended_all f xs)

each_ended : {A : Type 0} (f : A → List (List ℕ)) (g : A → List ℕ) → ((x : A) → text_of (f x) ≡ g x)
    → (xs : List A)
    → text_of (flat_map f xs) ≡ flat_map g xs
each_ended f g e [] = refl
each_ended f g e (x ∷ xs) =
    text_more (f x) (flat_map f xs) ∙ ap₂ (λ (a b : List ℕ). a ++ b) (e x) (each_ended f g e xs)

arguments_as : (t : Types) (p v n k : ℕ) (xs : List ℕ)
    → text_of (argument_lines t p v n k xs) ≡ argument_pieces t p v n k xs
arguments_as t p v n k [] = refl
arguments_as t p v n k (x ∷ xs) =
    ap (λ (z : List ℕ). argument_piece t p v n k x ++ z) (arguments_as t p v n (k + 1) xs)

result_as : (t : Types) (p v n : ℕ) (o : Option ℕ) → text_of (result_lines t p v n o) ≡ result_piece t p v n o
result_as t p v n None = refl
result_as t p v n (Some x) =
    append-nil (ended (line (codes "result") (part_path p v n (codes "result")) (named_text t x)))

procedure_as : (t : Types) (p v : ℕ) (x : Procedure) → text_of (procedure_lines t p v x) ≡ procedure_piece t p v x
procedure_as t p v x =
    ap (λ (z : List ℕ). ended (line (codes "procedure") x.name (procedure_path p v x.number)) ++ z)
    (text_more (argument_lines t p v x.number 1 x.arguments) (result_lines t p v x.number x.result)
    ∙ ap₂ (λ (a b : List ℕ). a ++ b) (arguments_as t p v x.number 1 x.arguments) (result_as t p v x.number x.result))

version_as : (t : Types) (p : ℕ) (v : Version) → text_of (version_lines t p v) ≡ version_piece t p v
version_as t p v =
    ap (λ (z : List ℕ). ended (line (codes "version") v.name (version_path p v.number)) ++ z)
    (each_ended (procedure_lines t p v.number) (procedure_piece t p v.number) (procedure_as t p v.number) v.procedures)

program_as : (t : Types) (p : Program) → text_of (program_lines t p) ≡ program_piece t p
program_as t p =
    ap (λ (z : List ℕ). ended (line (codes "program") p.name (decimal p.number)) ++ z)
    (each_ended (version_lines t p.number) (version_piece t p.number) (version_as t p.number) p.versions)

listing_as : (d : Declared) (t : Types) → listing d t ≡ pieces t (own_constants d) (own_types d) d.programs
listing_as d t =
    let cs = map constant_line (own_constants d) in
    let ps = map (type_line t) (own_types d) in
    let qs = flat_map (program_lines t) d.programs in
    text_more (cs ++ ps) qs
    ∙ ap₂ (λ (a b : List ℕ). a ++ b)
    (text_more cs ps
    ∙ ap₂ (λ (a b : List ℕ). a ++ b) (ended_all constant_line (own_constants d))
    (ended_all (type_line t) (own_types d)))
    (each_ended (program_lines t) (program_piece t) (program_as t) d.programs)
    ∙ append_assoc (flat_map constant_piece (own_constants d)) (flat_map (type_piece t) (own_types d))
    (flat_map (program_piece t) d.programs)

pub listed : (d : Declared) (t : Types) (cs : List Constant) (ps : List Part) (qs : List Program) (text : List ℕ)
    → text ≡ pieces t cs ps qs → cs ≡ own_constants d → ps ≡ own_types d → qs ≡ d.programs
    → text ≡ listing d t
listed d t cs ps qs text e a b c =
    e ∙ ap₂ (λ (x : List Constant) (y : List Part). pieces t x y qs) a b
    ∙ ap (λ (z : List Program). pieces t (own_constants d) (own_types d) z) c
    ∙ sym (listing_as d t)

-- one argument more is written
pub argument_more : (t : Types) (p v n i : ℕ) (xs : List KindId) (x : KindId) (whole out new : List ℕ)
    → i < length xs → x ≡ get_or xs i x
    → out ++ argument_pieces t p v n (i + 1) (places (drop i xs)) ≡ whole
    → new ≡ out ++ argument_piece t p v n (i + 1) x.place
    → new ++ argument_pieces t p v n (i + 1 + 1) (places (drop (i + 1) xs)) ≡ whole
argument_more t p v n i xs x whole out new within at before is =
    let rest = argument_pieces t p v n (i + 1 + 1) (places (drop (i + 1) xs)) in
    let split : drop i xs ≡ x ∷ drop (i + 1) xs =
    drop_more xs i x within ∙ ap (λ (y : KindId). y ∷ drop (i + 1) xs) (sym at) in
    ap (λ (z : List ℕ). z ++ rest) is ∙ append_assoc out (argument_piece t p v n (i + 1) x.place) rest
    ∙ ap (λ (ys : List KindId). out ++ argument_pieces t p v n (i + 1) (places ys)) (sym split)
    ∙ before
