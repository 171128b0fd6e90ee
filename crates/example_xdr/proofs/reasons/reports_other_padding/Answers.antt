use Rattle.std.proofs.Common.{◌≡◌, ◌≤◌, ℕ, List, [], ◌∷◌, ◌++◌, refl, sym, subst, ap, drop, ◌∙◌, arith}
use Rattle.std.specs.Prelude.{Contains}
use Rattle.std.specs.Int.{w32, from_be_bytes}
use Rattle.std.specs.List.{AllByRecursion}
use Rattle.std.proofs.lemmas.List.{take-append-drop}
use Rattle.xdr_types.specs.Kinds.{kind_at}
use Rattle.xdr_types.specs.Tree as value
use Rattle.xdr_types.specs.Tree.{Tree}
use Rattle.xdr_types.specs.Fits.{Fits, item_part}
use Rattle.xdr_types.specs.Layout.{Entry, entry, entries, of_content}
use Rattle.xdr_types.specs.Outcome as outcome
use Rattle.xdr_types.specs.Outcome.{Outcome, Broken, Admits, reason}
use Rattle.xdr_types.specs.Spelling.{bytes_of}
use Rattle.xdr_types.specs.Within.{Bounds}
use Rattle.example_xdr.proofs.Refusing.{broken}
use Rattle.example_xdr.proofs.reasons.reports_other_padding.Goals as goal

pub returns : goal.returns
returns c =
    let s = c.args.schema.now.kinds in
    let rest : List ℕ = drop 8 c.args.input.now in
    let begins = sym (take-append-drop 8 c.args.input.now) ∙ ap (λ (b : List ℕ). b ++ rest) c.requires.input in
    let t : ℕ = c.args.kind.place in
    let l : Bounds = c.args.limits in
    let low = c.laws.ensures.range in
    let v : Tree = (value.bytes (97 ∷ 98 ∷ 99 ∷ []), value.none) in
    let q : List ℕ = 0 ∷ 0 ∷ 0 ∷ 3 ∷ [] in
    let more : List ℕ = 97 ∷ 98 ∷ 99 ∷ 0 ∷ [] in
    let u : List ℕ = 97 ∷ 98 ∷ 99 ∷ 1 ∷ [] in
    let e : Entry = entry 4 4 1 (item_part t) (of_content 3) in
    let fit : Fits s t v = rw c.requires.kind refl in
    let is : bytes_of s t v ≡ q ++ more = rw c.requires.kind refl in
    let shallow : AllByRecursion (λ (x : Entry). x.depth ≤ l.depth) (entries s t v) = rw c.requires.kind
    (low.least_depth, (low.least_depth, tt)) in
    let has : Contains (entries s t v) e = rw c.requires.kind (1, omega arith, refl) in
    let number : from_be_bytes w32 u ≡ 1633837825 = refl in
    let none : Admits s (kind_at s t) (of_content 3) 0 u → ⊥ = (λ a. omega (arith, a.0)) in
    let why : reason s (kind_at s t) (of_content 3) (from_be_bytes w32 u) ≡ outcome.bad_padding = refl in
    let o = broken s t l c.laws.ensures.unique c.laws.ensures.same v fit q more is (omega arith) shallow u rest
    c.laws.ensures.goes refl (omega (arith, c.requires.limit)) refl refl e has (omega arith) (omega arith) none in
    c.reported.ensures (Broken outcome.bad_padding 4) tt
    (subst (λ (b : List ℕ). Outcome s t l b (Broken outcome.bad_padding 4)) (sym begins)
    (subst (λ (w : outcome.Why). Outcome s t l (q ++ (u ++ rest)) (Broken w 4)) why o))
