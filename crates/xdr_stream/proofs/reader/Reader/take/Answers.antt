use Rattle.std.proofs.Common.{◌≡◌, ◌≤◌, ℕ, List, ◌++◌, length, subst, sym, append_assoc, arith}
use Rattle.std.proofs.lemmas.List.{length-append}
use Rattle.xdr_stream.specs.Sees.{Ends}
use Rattle.xdr_stream.proofs.Standing.{within_limit}
use Rattle.xdr_stream.proofs.reader.Reader.take.Goals as goal

pub returns-in-Ok-clause-represents : goal.returns-in-Ok-clause-represents
returns-in-Ok-clause-represents g c = λ q len none h ready small.
    let a = c.args.self.now in
    let next = c.in-Ok.ensures.taken.taken a.kind.place a.limits q ready small h in
    let most : length q ≤ a.limits.bytes =
    within_limit a.schema.now.kinds a.kind.place a.limits _ q c.depth-in_range.ensures.range.units h.reading in
    let far : length (q ++ c.args.unit.now) ≡ c.saturating_add-self.result =
    omega (
      arith,
      length-append q c.args.unit.now,
      c.take_unit.ensures.size,
      len,
      most,
      c.depth-in_range.ensures.range.most_bytes,
      c.saturating_add-self.ensures,
    ) in
    c.settle.ensures.represents (q ++ c.args.unit.now) far none c.in-Ok.ensures.taken.live next

pub returns-in-Err-clause-represents : goal.returns-in-Err-clause-represents
returns-in-Err-clause-represents g c = λ q len none h ready small.
    let a = c.args.self.now in
    c.fail.ensures.represents (q ++ c.args.unit.now)
    (λ rest. subst (λ (n : ℕ). Ends a.schema.now.kinds a.kind.place a.limits c.in-Err.why
    ((q ++ c.args.unit.now) ++ rest) n) len
    (subst (λ (b : List ℕ). Ends a.schema.now.kinds a.kind.place a.limits c.in-Err.why b (length q))
    (sym (append_assoc q c.args.unit.now rest))
    (c.in-Err.ensures.refused.refused a.kind.place a.limits q rest ready small h)))
    (omega (arith, length-append q c.args.unit.now, len))
    (c.in-Err.ensures.refused.spared a.limits a.kind.place q h)
