use Rattle.std.proofs.Common.{◌≡◌, ◌≤◌, ℕ, List, [], ◌∷◌, ◌++◌, refl, false, sym, ap, subst, drop, ◌∙◌, arith}
use Rattle.std.specs.List.{AllByRecursion}
use Rattle.std.proofs.lemmas.List.{take-append-drop}
use Rattle.xdr_types.specs.Tree as value
use Rattle.xdr_types.specs.Tree.{Tree, from_list}
use Rattle.xdr_types.specs.Fits.{Fits}
use Rattle.xdr_types.specs.Layout.{Entry, entries}
use Rattle.xdr_types.specs.Outcome.{Outcome, TooLarge}
use Rattle.xdr_types.specs.Spelling.{bytes_of}
use Rattle.xdr_types.specs.Within.{Bounds}
use Rattle.example_xdr.proofs.Refusing.{too_large}
use Rattle.example_xdr.proofs.further_reasons.reports_the_limit_before_the_unit.Goals as goal

pub returns : goal.returns
returns c =
    let s = c.args.schema.now.kinds in
    let rest : List ℕ = drop 4 c.args.input.now in
    let begins = sym (take-append-drop 4 c.args.input.now) ∙ ap (λ (b : List ℕ). b ++ rest) c.requires.input in
    let t : ℕ = c.args.kind.place in
    let l : Bounds = c.args.limits in
    let low = c.laws.ensures.range in
    let v : Tree = (value.items 1, from_list ((value.boolean false, value.none) ∷ [])) in
    let q : List ℕ = 0 ∷ 0 ∷ 0 ∷ 1 ∷ [] in
    let more : List ℕ = 0 ∷ 0 ∷ 0 ∷ 0 ∷ [] in
    let fit : Fits s t v = rw (c.requires.kind, c.requires.item) refl in
    let is : bytes_of s t v ≡ q ++ more = rw (c.requires.kind, c.requires.item) refl in
    let shallow : AllByRecursion (λ (x : Entry). x.depth ≤ l.depth) (entries s t v) =
    rw (c.requires.kind, c.requires.item) (low.least_depth, (c.requires.depth, tt)) in
    let o = too_large s t l c.laws.ensures.unique c.laws.ensures.same v fit q more is (omega arith) shallow
    rest refl c.requires.limit in
    c.reported.ensures (TooLarge 4) tt (subst (λ (b : List ℕ). Outcome s t l b (TooLarge 4)) (sym begins) o)
