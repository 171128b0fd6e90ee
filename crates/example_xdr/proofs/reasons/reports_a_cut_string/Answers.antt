use Rattle.std.proofs.Common.{◌≡◌, ◌≤◌, ℕ, List, [], ◌∷◌, ◌++◌, length, refl, sym, ap, subst, arith}
use Rattle.std.specs.List.{AllByRecursion}
use Rattle.xdr_types.specs.Tree as value
use Rattle.xdr_types.specs.Tree.{Tree}
use Rattle.xdr_types.specs.Fits.{Fits}
use Rattle.xdr_types.specs.Layout.{Entry, entries}
use Rattle.xdr_types.specs.Outcome.{Outcome, Pending}
use Rattle.xdr_types.specs.Spelling.{bytes_of}
use Rattle.xdr_types.specs.Within.{Bounds}
use Rattle.xdr_stream.specs.declared.fault.Reason.TheVariants as reason
use Rattle.example_xdr.specs.Reported.{EachSays}
use Rattle.example_xdr.proofs.Refusing.{pending}
use Rattle.example_xdr.proofs.reasons.reports_a_cut_string.Goals as goal

pub returns : goal.returns
returns c =
    let s = c.args.schema.now.kinds in
    let t : ℕ = c.args.kind.place in
    let l : Bounds = c.args.limits in
    let low = c.laws.ensures.range in
    let v : Tree = (value.bytes (115 ∷ 105 ∷ 108 ∷ 108 ∷ 121 ∷ 112 ∷ 114 ∷ 111 ∷ 103 ∷ []), value.none) in
    let q : List ℕ = 0 ∷ 0 ∷ 0 ∷ 9 ∷ 115 ∷ 105 ∷ 108 ∷ 108 ∷ 121 ∷ [] in
    let more : List ℕ = 112 ∷ 114 ∷ 111 ∷ 103 ∷ 0 ∷ 0 ∷ 0 ∷ [] in
    let fit : Fits s t v = rw c.requires.kind refl in
    let is : bytes_of s t v ≡ q ++ more = rw c.requires.kind refl in
    let shallow : AllByRecursion (λ (x : Entry). x.depth ≤ l.depth) (entries s t v) =
    rw c.requires.kind (low.least_depth, (low.least_depth, tt)) in
    let o = pending s t l c.laws.ensures.unique c.laws.ensures.same v fit q more is (omega arith) shallow
    (omega (arith, c.requires.limit)) in
    subst (λ (n : ℕ). EachSays (record { why = reason.Truncated; at = n }) c.reported.result)
    (ap length c.requires.input)
    (c.reported.ensures Pending tt (subst (λ (b : List ℕ). Outcome s t l b Pending) (sym c.requires.input) o))
