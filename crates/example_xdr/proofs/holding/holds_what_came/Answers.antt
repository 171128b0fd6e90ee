use Rattle.std.proofs.Common.{◌≡◌, ◌+◌, ◌/◌, ◌≤◌, ℕ, List, [], length, ap, ◌∙◌, arith, Result, Ok, Err}
use Rattle.std.proofs.lemmas.List.{length-take}
use Rattle.std.proofs.lemmas.Nat.{mul-le}
use Rattle.xdr_types.specs.Kinds.{KindView, Lists}
use Rattle.xdr_stream.specs.Represents.{taken}
use Rattle.xdr_stream.specs.declared.fault.DecodeFault.{DecodeFault}
use Rattle.xdr_stream.specs.declared.reader.Progress.{Progress}
use Rattle.xdr_stream.specs.declared.reader.Progress.TheVariants.{More, Done}
use Rattle.example_xdr.proofs.holding.holds_what_came.Goals as goal

taken_few : (piece : List ℕ) (r : Result Progress DecodeFault) → length (taken piece r) ≤ length piece
taken_few piece (Ok More) = omega arith
taken_few piece (Ok (Done used)) = omega (arith, length-take used piece)
taken_few piece (Err f) = omega arith

pub returns-clause-nodes : goal.returns-clause-nodes
returns-clause-nodes c =
    let b : List ℕ = taken c.args.piece.now c.feed.result in
    let w = c.held.ensures.bounds b (c.feed.ensures.represents [] c.start-decoder.ensures.represents) in
    let kinds : c.feed.new.self.reader.schema.now.kinds ≡ c.args.schema.now.kinds =
    ap (λ (s : Lists). s.kinds) (c.feed.ensures.same.schema_is ∙ c.start-decoder.ensures.settings.schema_is) in
    let few = taken_few c.args.piece.now c.feed.result in
    let most = mul-le (length c.feed.new.self.reader.schema.now.kinds + 1) (length b / 4 + 1)
    (length c.args.schema.now.kinds + 1) (length c.args.piece.now / 4 + 1)
    (omega (arith, ap (λ (k : List KindView). length k) kinds)) (omega (arith, few)) in
    omega (arith, w.nodes, most)

pub returns-clause-bytes : goal.returns-clause-bytes
returns-clause-bytes c =
    let b : List ℕ = taken c.args.piece.now c.feed.result in
    let w = c.held.ensures.bounds b (c.feed.ensures.represents [] c.start-decoder.ensures.represents) in
    omega (arith, w.bytes, taken_few c.args.piece.now c.feed.result)
