use Rattle.std.proofs.Common.{◌≡◌, ℕ, List, take, refl, sym, ap, subst, arith}
use Rattle.std.specs.Prelude.{Contains, codes}
use Rattle.xdr_types.specs.Kinds.{KindView}
use Rattle.xdr_types.specs.Fits.{Fits}
use Rattle.xdr_types.specs.Layout.{Entry, entry, entries, of_length}
use Rattle.xdr_types.specs.Outcome.{Outcome, TooDeep, IsDeep, IsReached}
use Rattle.xdr_types.specs.Spelling.{bytes_of}
use Rattle.xdr_types.specs.Within.{Bounds}
use Rattle.example_xdr.specs.Lent.{sillyprog_entries}
use Rattle.example_xdr.specs.Rfc.{part, sillyprog, sillyprog_bytes}
use Rattle.example_xdr.proofs.reasons.reports_a_field_below_the_limit.Goals as goal

pub returns : goal.returns
returns c =
    let s = c.args.schema.now.kinds in
    let l : Bounds = c.args.limits in
    let b : List ℕ = c.args.input.now in
    let e : Entry = entry 0 4 2 (part (codes "filename") 2) of_length in
    let fit : Fits s 6 sillyprog = subst (λ (ks : List KindView). Fits ks 6 sillyprog) (sym c.requires.kinds) refl in
    let is : bytes_of s 6 sillyprog ≡ sillyprog_bytes =
    ap (λ (ks : List KindView). bytes_of ks 6 sillyprog) c.requires.kinds in
    let all : entries s 6 sillyprog ≡ sillyprog_entries =
    ap (λ (ks : List KindView). entries ks 6 sillyprog) c.requires.kinds in
    let has : Contains (entries s 6 sillyprog) e =
    subst (λ (es : List Entry). Contains es e) (sym all) (1, omega arith, refl) in
    let reached : IsReached s 6 l b 0 = record {
      units = refl;
      within = omega arith;
      before = λ r less each. absurd (omega (arith, less));
    } in
    let deep : IsDeep s 6 l (take 0 b) =
    (sillyprog, (fit, sillyprog_bytes, is), e, has, omega arith, omega (arith, c.requires.depth)) in
    let o : Outcome s 6 l b (TooDeep 0) = (reached, deep) in
    c.reported.ensures (TooDeep 0) tt o
