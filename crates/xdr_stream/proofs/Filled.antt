-- What a head says of its parts, and when a node has all of them.
use Rattle.std.proofs.Common.{◌≡◌, ℕ, ◌≤◌, true, Bool, ◌&&◌, List, [], ◌∷◌, ◌++◌, length, refl, sym, ap}
use Rattle.std.proofs.Common.{◌∙◌, append_assoc, append-nil, arith, inl, inr}
use Rattle.std.specs.Prelude.{Option, Some, None, is_some, ◌⊎◌}
use Rattle.std.proofs.Math.Bool.{and-true}
use Rattle.std.proofs.lemmas.Bool.{false≢true}
use Rattle.std.proofs.lemmas.List.{length-replicate}
use Rattle.xdr_types.specs.Kinds as xdr
use Rattle.xdr_types.specs.Kinds.{KindView, Part}
use Rattle.xdr_types.specs.Tree as value
use Rattle.xdr_types.specs.Tree.{Head, Tree, from_list}
use Rattle.xdr_types.specs.Fits.{fit, fits, parts, item_part, optional_part, part_of}
use Rattle.xdr_types.specs.Spelling.{spelling, bytes_of}
use Rattle.xdr_laws.proofs.Legal.{both, IsLegal}
use Rattle.xdr_stream.specs.Trace.{IsOpen}
use Rattle.xdr_stream.specs.Private.Reported.{added, IsFilled, IsMany, HasSpaceAt}
use Rattle.xdr_types.proofs.Grown.{and-assoc}

-- as many values as parts
pub as_many : (s : List KindView) (ts : List Part) (vs : List Tree) → fit s ts (from_list vs) ≡ true
    → length ts ≡ length vs
as_many s [] [] f = refl
as_many s [] (v ∷ vs) f = absurd (false≢true f)
as_many s (t ∷ ts) [] f = absurd (false≢true f)
as_many s (t ∷ ts) (v ∷ vs) f = let more =
    as_many s ts vs (both (fits s t.kind v) (fit s ts (from_list vs)) f).1 in omega arith

pub fit_last : (s : List KindView) (ts : List Part) (vs : List Tree) (p : Part) (v : Tree) → length ts ≡ length vs
    → fit s (ts ++ p ∷ []) (from_list (vs ++ v ∷ [])) ≡ fit s ts (from_list vs) && fits s p.kind v
fit_last s [] [] p v n = and-true (fits s p.kind v)
fit_last s [] (w ∷ vs) p v n = absurd (omega (arith, n))
fit_last s (t ∷ ts) [] p v n = absurd (omega (arith, n))
fit_last s (t ∷ ts) (w ∷ vs) p v n =
    ap (λ (b : Bool). fits s t.kind w && b) (fit_last s ts vs p v (omega (arith, n)))
    ∙ and-assoc (fits s t.kind w) (fit s ts (from_list vs)) (fits s p.kind v)

pub spelling_last : (s : List KindView) (ts : List Part) (vs : List Tree) (p : Part) (v : Tree) → length ts ≡ length vs
    → spelling s (ts ++ p ∷ []) (from_list (vs ++ v ∷ [])) ≡ spelling s ts (from_list vs) ++ bytes_of s p.kind v
spelling_last s [] [] p v n = append-nil (bytes_of s p.kind v)
spelling_last s [] (w ∷ vs) p v n = absurd (omega (arith, n))
spelling_last s (t ∷ ts) [] p v n = absurd (omega (arith, n))
spelling_last s (t ∷ ts) (w ∷ vs) p v n =
    ap (λ (z : List ℕ). bytes_of s t.kind w ++ z) (spelling_last s ts vs p v (omega (arith, n)))
    ∙ sym (append_assoc (bytes_of s t.kind w) (spelling s ts (from_list vs)) (bytes_of s p.kind v))

optional_few : (o : Option Part) → length (optional_part o) ≤ 1
optional_few None = omega arith
optional_few (Some p) = omega arith

pub many_or : (s : List KindView) (k : KindView) (h : Head) → IsLegal s k h → IsMany h ⊎ (length (parts k h) ≤ 1)
many_or s (xdr.fixed item size) (value.items n) l = inl tt
many_or s (xdr.up_to item max) (value.items n) l = inl tt
many_or s (xdr.structure ps) value.fields l = inl tt
many_or s (xdr.choice tag arms other) (value.tag z) l = inr (optional_few (part_of arms other z))
many_or s (xdr.maybe item) value.present l = inr (omega arith)
many_or s (xdr.maybe item) value.absent l = inr (omega arith)
many_or s xdr.int (value.int z) l = inr (omega arith)
many_or s xdr.unsigned (value.unsigned n) l = inr (omega arith)
many_or s xdr.hyper (value.hyper z) l = inr (omega arith)
many_or s xdr.unsigned_hyper (value.unsigned_hyper n) l = inr (omega arith)
many_or s xdr.boolean (value.boolean b) l = inr (omega arith)
many_or s (xdr.numbered constants) (value.numbered z) l = inr (omega arith)
many_or s (xdr.opaque size) (value.bytes bs) l = inr (omega arith)
many_or s (xdr.opaque_up_to max) (value.bytes bs) l = inr (omega arith)
many_or s (xdr.text max) (value.bytes bs) l = inr (omega arith)
many_or s xdr.nothing value.nothing l = inr (omega arith)
many_or s _ _ l = absurd l

pub added_many : (h : Head) (done : List Tree) (v : Tree) → IsMany h → added h done v ≡ done ++ v ∷ []
added_many value.fields done v m = refl
added_many (value.items n) done v m = refl
added_many _ done v m = absurd m

added_none : (h : Head) (v : Tree) → added h [] v ≡ v ∷ []
added_none value.fields v = refl
added_none (value.items n) v = refl
added_none _ v = refl

pub many_space : (h : Head) (done : List Tree) → IsMany h → HasSpaceAt h done
many_space value.fields done m = tt
many_space (value.items n) done m = tt
many_space _ done m = absurd m

none_space : (h : Head) → HasSpaceAt h []
none_space value.fields = tt
none_space (value.items n) = tt
none_space _ = refl

pub few_space : (h : Head) (done : List Tree) → length done ≡ 0 → HasSpaceAt h done
few_space h [] e = none_space h
few_space h (w ∷ done) e = absurd (omega arith)

pub added_few : (h : Head) (done : List Tree) (v : Tree) → length done ≡ 0 → added h done v ≡ done ++ v ∷ []
added_few h [] v e = added_none h v
added_few h (w ∷ done) v e = absurd (omega arith)

-- a node has all its parts
some_one : (o : Option Part) (vs : List Tree) → is_some o ≡ true → length (optional_part o) ≡ length vs
    → (v : Tree) × (vs ≡ v ∷ [])
some_one (Some p) (v ∷ []) e n = (v, refl)
some_one (Some p) [] e n = absurd (omega arith)
some_one (Some p) (v ∷ w ∷ vs) e n = absurd (omega arith)
some_one None vs e n = absurd (false≢true e)

only_one : (vs : List Tree) → 1 ≡ length vs → (v : Tree) × (vs ≡ v ∷ [])
only_one (v ∷ []) n = (v, refl)
only_one [] n = absurd (omega arith)
only_one (v ∷ w ∷ vs) n = absurd (omega arith)

pub filled : (s : List KindView) (k : KindView) (h : Head) (vs : List Tree) → IsOpen h → IsLegal s k h
    → length (parts k h) ≡ length vs → IsFilled h vs
filled s (xdr.fixed item size) (value.items n) vs o l e = sym e ∙ length-replicate n (item_part item)
filled s (xdr.up_to item max) (value.items n) vs o l e = sym e ∙ length-replicate n (item_part item)
filled s (xdr.structure ps) value.fields vs o l e = tt
filled s (xdr.choice tag arms other) (value.tag z) vs o l e = some_one (part_of arms other z) vs l.1 e
filled s (xdr.maybe item) value.present vs o l e = only_one vs e
filled s (xdr.maybe item) value.absent vs o l e = absurd o
filled s xdr.int (value.int z) vs o l e = absurd o
filled s xdr.unsigned (value.unsigned n) vs o l e = absurd o
filled s xdr.hyper (value.hyper z) vs o l e = absurd o
filled s xdr.unsigned_hyper (value.unsigned_hyper n) vs o l e = absurd o
filled s xdr.boolean (value.boolean b) vs o l e = absurd o
filled s (xdr.numbered constants) (value.numbered z) vs o l e = absurd o
filled s (xdr.opaque size) (value.bytes bs) vs o l e = absurd o
filled s (xdr.opaque_up_to max) (value.bytes bs) vs o l e = absurd o
filled s (xdr.text max) (value.bytes bs) vs o l e = absurd o
filled s xdr.nothing value.nothing vs o l e = absurd o
filled s _ _ vs o l e = absurd l
