use Rattle.std.proofs.Common.{◌≡◌, ◌+◌, ◌≤◌, length, sym, ap, subst, ◌∙◌, arith}
use Rattle.xdr_stream.specs.Held.{GoesOn, frames_at}
use Rattle.xdr_stream.specs.declared.reader.State.{State}
use Rattle.xdr_stream.proofs.holding.frames_of.Goals as goal

pub returns-in-Fresh : goal.returns-in-Fresh
returns-in-Fresh g c = λ few.
    let r = c.args.reader.now in
    let small : length r.parents.items ≤ 4096 = few (subst (λ (s : State). GoesOn s) (sym c.in-Fresh.is) tt) in
    let is = c.len.ensures.exact (omega (arith, c.len.ensures.most, small)) in
    let sum : c.saturating_add.result ≡ length r.parents.items + 1 =
    omega (arith, c.saturating_add.ensures, is, small) in
    sum ∙ ap (λ (s : State). frames_at s r.parents.items) (sym c.in-Fresh.is)

pub returns-in-Reading : goal.returns-in-Reading
returns-in-Reading g c = λ few.
    let r = c.args.reader.now in
    let small : length r.parents.items ≤ 4096 = few (subst (λ (s : State). GoesOn s) (sym c.in-Reading.is) tt) in
    let is = c.len-in-Reading.ensures.exact (omega (arith, c.len-in-Reading.ensures.most, small)) in
    let sum : c.saturating_add-in-Reading.result ≡ length r.parents.items + 1 =
    omega (arith, c.saturating_add-in-Reading.ensures, is, small) in
    sum ∙ ap (λ (s : State). frames_at s r.parents.items) (sym c.in-Reading.is)
