use Rattle.std.proofs.Common.{◌≤◌, ℕ, List, [], ◌++◌, length, take, subst, Ok}
use Rattle.xdr_types.specs.View.{tree}
use Rattle.xdr_stream.specs.Represents.{taken, used_of}
use Rattle.xdr_stream.specs.declared.reader.Progress.{Progress}
use Rattle.xdr_codec.specs.Represents.{RepresentsBytes}
use Rattle.xdr_codec.specs.Outcomes.{HasOutcome}
use Rattle.xdr_codec.proofs.Outcomes.{whole, alone, given, not_given}
use Rattle.xdr_codec.proofs.decoding.decode.Goals as goal

pub returns-in-Ok-clause-outcome : goal.returns-in-Ok-clause-outcome
returns-in-Ok-clause-outcome c =
    let input : List ℕ = c.args.input.now in
    let used : ℕ = c.in-Ok-Done.used in
    let done = c.in-Ok-Done.ensures in
    let represents = subst (λ (p : Progress). RepresentsBytes c.feed.new.self ([] ++ taken input (Ok p)))
    c.in-Ok-Done.field-0-is (done.represents [] c.start-decoder.ensures.represents) in
    let low : used ≤ length input =
    subst (λ (p : Progress). used_of p ≤ length input) c.in-Ok-Done.field-0-is done.leaves.used in
    given c.args.schema.now c.args.kind c.args.limits c.start-decoder.result c.feed.new.self
    c.start-decoder.ensures.settings done.same input used low c.in-Ok.value
    (c.in-Ok.ensures.outcome (take used input) represents)

pub returns-in-Ok-clause-only : goal.returns-in-Ok-clause-only
returns-in-Ok-clause-only c = λ t n fit most spelled.
    let s = c.args.schema.now.kinds in
    let input : List ℕ = c.args.input.now in
    let used : ℕ = c.in-Ok-Done.used in
    let done = c.in-Ok-Done.ensures in
    let represents = subst (λ (p : Progress). RepresentsBytes c.feed.new.self ([] ++ taken input (Ok p)))
    c.in-Ok-Done.field-0-is (done.represents [] c.start-decoder.ensures.represents) in
    let low : used ≤ length input =
    subst (λ (p : Progress). used_of p ≤ length input) c.in-Ok-Done.field-0-is done.leaves.used in
    let o = given c.args.schema.now c.args.kind c.args.limits c.start-decoder.result c.feed.new.self
    c.start-decoder.ensures.settings done.same input used low c.in-Ok.value
    (c.in-Ok.ensures.outcome (take used input) represents) in
    let units = c.depth-in_range.ensures.range.units in
    alone s c.args.kind.place c.args.limits units input t (tree c.in-Ok.value) n used fit most spelled
    (whole s c.args.kind.place c.args.limits units input (tree c.in-Ok.value) used o)
