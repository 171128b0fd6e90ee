-- One more value at the end, as a decoder's frame gets it; and what fitting says of the first.
use Rattle.std.proofs.Common.{◌≡◌, List, [], ◌∷◌, ◌++◌, length, Bool, true, false, ◌&&◌, refl, ap, sym, ◌∙◌, arith}
use Rattle.std.proofs.Common.{append_assoc}
use Rattle.std.proofs.Math.Bool.{and-true}
use Rattle.std.proofs.lemmas.List.{append-nil}
use Rattle.std.proofs.lemmas.Bool.{and_parts as both}
use Rattle.xdr_types.specs.Kinds.{KindView, Part, kind_at}
use Rattle.xdr_types.specs.Tree.{Head, Values, node}
use Rattle.xdr_types.specs.Fits.{fits, fit, is_legal, parts}
use Rattle.xdr_types.specs.Spelling.{spelling, bytes_of}
use Rattle.xdr_types.specs.View.{tree, values}
use Rattle.xdr_types.specs.declared.value.Value.{Value}

pub and-assoc : (a b c : Bool) → a && (b && c) ≡ (a && b) && c
and-assoc true b c = refl
and-assoc false b c = refl

-- the first's head is legal, its parts fit, and the rest fits
pub opened : (kinds : List KindView) (p : Part) (ps : List Part) (h : Head) (inner rest : Values)
    → fit kinds (p ∷ ps) (node h inner rest) ≡ true
    → (is_legal kinds (kind_at kinds p.kind) h ≡ true) × (fit kinds (parts (kind_at kinds p.kind) h) inner ≡ true)
    × (fit kinds ps rest ≡ true)
opened kinds p ps h inner rest e =
    let outer = both (is_legal kinds (kind_at kinds p.kind) h && fit kinds (parts (kind_at kinds p.kind) h) inner)
    (fit kinds ps rest) e in
    let first = both (is_legal kinds (kind_at kinds p.kind) h)
    (fit kinds (parts (kind_at kinds p.kind) h) inner) outer.0 in
    (first.0, first.1, outer.1)

pub fit-snoc : (kinds : List KindView) (ps : List Part) (vs : List Value) (p : Part) (v : Value) → length ps ≡ length vs
    → fit kinds (ps ++ p ∷ []) (values (vs ++ v ∷ [])) ≡ fit kinds ps (values vs) && fits kinds p.kind (tree v)
fit-snoc kinds [] [] p v n = and-true (fits kinds p.kind (tree v))
fit-snoc kinds [] (w ∷ vs) p v n = absurd (omega (arith, n))
fit-snoc kinds (q ∷ ps) [] p v n = absurd (omega (arith, n))
fit-snoc kinds (q ∷ ps) (w ∷ vs) p v n =
    ap (λ b. fits kinds q.kind (tree w) && b) (fit-snoc kinds ps vs p v (omega (arith, n)))
    ∙ and-assoc (fits kinds q.kind (tree w)) (fit kinds ps (values vs)) (fits kinds p.kind (tree v))

pub spelling-snoc : (kinds : List KindView) (ps : List Part) (vs : List Value) (p : Part) (v : Value)
    → length ps ≡ length vs
    → spelling kinds (ps ++ p ∷ []) (values (vs ++ v ∷ [])) ≡ spelling kinds ps (values vs)
    ++ bytes_of kinds p.kind (tree v)
spelling-snoc kinds [] [] p v n = append-nil (bytes_of kinds p.kind (tree v))
spelling-snoc kinds [] (w ∷ vs) p v n = absurd (omega (arith, n))
spelling-snoc kinds (q ∷ ps) [] p v n = absurd (omega (arith, n))
spelling-snoc kinds (q ∷ ps) (w ∷ vs) p v n =
    ap (λ z. bytes_of kinds q.kind (tree w) ++ z) (spelling-snoc kinds ps vs p v (omega (arith, n)))
    ∙ sym (append_assoc (bytes_of kinds q.kind (tree w)) (spelling kinds ps (values vs))
    (bytes_of kinds p.kind (tree v)))
