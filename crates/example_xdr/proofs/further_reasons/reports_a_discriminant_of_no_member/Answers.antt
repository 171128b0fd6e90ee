use Rattle.std.proofs.Common.{◌≡◌, ◌≤◌, ℕ, List, [], ◌∷◌, ◌++◌, refl, sym, subst, pos, ap, drop, ◌∙◌, arith}
use Rattle.std.specs.Prelude.{Contains}
use Rattle.std.proofs.lemmas.Bool.{false≢true}
use Rattle.std.specs.Int.{w32, from_be_bytes}
use Rattle.std.specs.List.{AllByRecursion}
use Rattle.std.proofs.lemmas.List.{take-append-drop}
use Rattle.xdr_types.specs.Kinds.{KindView, kind_at}
use Rattle.xdr_types.specs.Tree as value
use Rattle.xdr_types.specs.Tree.{Tree, from_list}
use Rattle.xdr_types.specs.Fits.{Fits, item_part}
use Rattle.xdr_types.specs.Layout.{Entry, entry, entries, of_number}
use Rattle.xdr_types.specs.Outcome as outcome
use Rattle.xdr_types.specs.Outcome.{Outcome, Broken, Admits, reason}
use Rattle.xdr_types.specs.Spelling.{bytes_of}
use Rattle.xdr_types.specs.Within.{Bounds}
use Rattle.example_xdr.proofs.Refusing.{broken}
use Rattle.example_xdr.proofs.further_reasons.reports_a_discriminant_of_no_member.Goals as goal

pub returns : goal.returns
returns c =
    let s = c.args.schema.now.kinds in
    let rest : List ℕ = drop 4 c.args.input.now in
    let begins = sym (take-append-drop 4 c.args.input.now) ∙ ap (λ (b : List ℕ). b ++ rest) c.requires.input in
    let t : ℕ = 4 in
    let l : Bounds = c.args.limits in
    let low = c.laws.ensures.range in
    let v : Tree = (value.tag (pos 0), from_list ((value.nothing, value.none) ∷ [])) in
    let q : List ℕ = [] in
    let more : List ℕ = 0 ∷ 0 ∷ 0 ∷ 0 ∷ [] in
    let u : List ℕ = 0 ∷ 0 ∷ 0 ∷ 3 ∷ [] in
    let e : Entry = entry 0 4 1 (item_part t) of_number in
    let back = sym c.requires.kinds in
    let fit : Fits s t v = subst (λ (ks : List KindView). Fits ks t v) back refl in
    let is : bytes_of s t v ≡ q ++ more = subst (λ (ks : List KindView). bytes_of ks t v ≡ q ++ more) back refl in
    let shallow : AllByRecursion (λ (x : Entry). x.depth ≤ l.depth) (entries s t v) =
    subst (λ (ks : List KindView). AllByRecursion (λ (x : Entry). x.depth ≤ l.depth) (entries ks t v)) back
    (low.least_depth, (c.requires.depth, tt)) in
    let has : Contains (entries s t v) e =
    subst (λ (ks : List KindView). Contains (entries ks t v) e) back (0, omega arith, refl) in
    let none : Admits s (kind_at s t) of_number 0 u → ⊥ =
    subst (λ (ks : List KindView). Admits ks (kind_at ks t) of_number 0 u → ⊥) back (λ a. false≢true a.0) in
    let why : reason s (kind_at s t) of_number (from_be_bytes w32 u) ≡ outcome.bad_numbered =
    subst (λ (ks : List KindView). reason ks (kind_at ks t) of_number (from_be_bytes w32 u) ≡ outcome.bad_numbered)
    back refl in
    let o = broken s t l c.laws.ensures.unique c.laws.ensures.same v fit q more is (omega arith) shallow u rest
    c.laws.ensures.goes refl (omega (arith, low.least_bytes)) refl refl e has (omega arith) (omega arith) none in
    c.reported.ensures (Broken outcome.bad_numbered 0) tt
    (subst (λ (b : List ℕ). Outcome s t l b (Broken outcome.bad_numbered 0)) (sym begins)
    (subst (λ (w : outcome.Why). Outcome s t l (q ++ (u ++ rest)) (Broken w 0)) why o))
