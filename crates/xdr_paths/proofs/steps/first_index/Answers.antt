use Rattle.std.proofs.Common.{◌≡◌, ◌∷◌, ap, sym, ◌∙◌, true≢false, is_some, decimal, Some, refl}
use Rattle.xdr_paths.specs.Nodes.{to_item}
use Rattle.xdr_paths.proofs.Marks.{same_cut, plain_decimal}
use Rattle.xdr_paths.proofs.steps.first_index.Goals as goal

pub returns-in_err-index-clause-only : goal.returns-in_err-index-clause-only
returns-in_err-index-clause-only c =
    λ index rest small e.
    let w = same_cut c.before_mark.result.0.now (decimal index) c.before_mark.result.1.now (93 ∷ rest)
    c.before_mark.ensures.name (plain_decimal index small) c.before_mark.ensures.mark refl
    (sym c.before_mark.ensures.cut ∙ e) in
    absurd (true≢false (sym (ap is_some (c.in_err-index.ensures.only index small w.0))))

pub returns-in_err-rest-clause-only : goal.returns-in_err-rest-clause-only
returns-in_err-rest-clause-only c =
    λ index rest small e.
    let w = same_cut c.before_mark.result.0.now (decimal index) c.before_mark.result.1.now (93 ∷ rest)
    c.before_mark.ensures.name (plain_decimal index small) c.before_mark.ensures.mark refl
    (sym c.before_mark.ensures.cut ∙ e) in
    absurd (c.in_err-rest.ensures rest w.1)

pub returns-clause-only : goal.returns-clause-only
returns-clause-only c =
    λ index rest small e.
    let w = same_cut c.before_mark.result.0.now (decimal index) c.before_mark.result.1.now (93 ∷ rest)
    c.before_mark.ensures.name (plain_decimal index small) c.before_mark.ensures.mark refl
    (sym c.before_mark.ensures.cut ∙ e) in
    let one : Some c.in_ok-index.index ≡ Some index = c.in_ok-index.ensures.only index small w.0 in
    let index_is : c.in_ok-index.index ≡ index = cc in
    let behind : 93 ∷ c.in_ok-rest.rest.now ≡ 93 ∷ rest = sym c.in_ok-rest.ensures ∙ w.1 in
    let rest_is : c.in_ok-rest.rest.now ≡ rest = cc in
    (ap to_item index_is, rest_is)
