use Rattle.std.proofs.Common.{◌≡◌, ◌≤◌, ◌<◌, ℕ, List, [], ◌∷◌, ◌++◌, refl, sym, ap, subst, drop, pos, ◌∙◌}
use Rattle.std.proofs.Common.{arith}
use Rattle.std.specs.Prelude.{Contains}
use Rattle.std.specs.List.{AllByRecursion}
use Rattle.std.proofs.lemmas.List.{take-append-drop}
use Rattle.xdr_types.specs.Tree as value
use Rattle.xdr_types.specs.Tree.{Tree}
use Rattle.xdr_types.specs.Fits.{Fits, item_part}
use Rattle.xdr_types.specs.Layout.{Entry, entry, entries, of_number, of_flag}
use Rattle.xdr_types.specs.Outcome.{Outcome, TooDeep}
use Rattle.xdr_types.specs.Spelling.{bytes_of}
use Rattle.xdr_types.specs.Within.{Bounds}
use Rattle.example_xdr.proofs.Refusing.{IsShallow, too_deep, up_all}
use Rattle.example_xdr.proofs.reasons.reports_an_item_below_the_limit.Goals as goal

pub returns : goal.returns
returns c =
    let s = c.args.schema.now.kinds in
    let rest : List ℕ = drop 4 c.args.input.now in
    let begins = sym (take-append-drop 4 c.args.input.now) ∙ ap (λ (b : List ℕ). b ++ rest) c.requires.input in
    let t : ℕ = c.args.kind.place in
    let i : ℕ = c.args.item.place in
    let l : Bounds = c.args.limits in
    let low = c.laws.ensures.range in
    let v : Tree = (value.present, value.node (value.int (pos 7)) value.none value.none) in
    let q : List ℕ = 0 ∷ 0 ∷ 0 ∷ 1 ∷ [] in
    let more : List ℕ = 0 ∷ 0 ∷ 0 ∷ 7 ∷ [] in
    let e : Entry = entry 4 4 2 (item_part i) of_number in
    let fit : Fits s t v = rw c.requires.kind rw c.requires.item refl in
    let is : bytes_of s t v ≡ q ++ more = rw c.requires.kind rw c.requires.item refl in
    let P : Entry → Type 0 = λ (x : Entry). x.depth ≤ l.depth in
    let each : (r : ℕ) → r < 4 → AllByRecursion (λ (x : Entry). x.at ≤ r → P x) (entries s t v) = λ r less.
    rw c.requires.kind rw c.requires.item (λ at. low.least_depth, (λ at. absurd (omega (arith, at, less)), tt)) in
    let shallow : (r : ℕ) → r < 4 → IsShallow s t l v r = λ r less. up_all P r (entries s t v) (each r less) in
    let first : Entry = entry 0 4 1 (item_part t) of_flag in
    let all : entries s t v ≡ first ∷ e ∷ [] = rw c.requires.kind rw c.requires.item refl in
    let has : Contains (entries s t v) e =
    subst (λ (es : List Entry). Contains es e) (sym all) (1, omega arith, refl) in
    let o = too_deep s t l c.laws.ensures.unique c.laws.ensures.same v fit q more is (omega arith) rest refl
    (omega (arith, low.least_bytes)) shallow e has (omega arith) (omega (arith, c.requires.depth)) in
    c.reported.ensures (TooDeep 4) tt (subst (λ (b : List ℕ). Outcome s t l b (TooDeep 4)) (sym begins) o)
