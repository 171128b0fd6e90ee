-- The lines are those of the value that begins the input, which no fault but an allocation failure stands against.
use Rattle.std.proofs.Common.{sym, ◌∙◌}
use Rattle.std.proofs.lemmas.Bool.{false≢true}
use Rattle.c_values.specs.Answers.{Question}
use Rattle.c_values.proofs.Showing.{no_fault, same_lines}
use Rattle.c_values.proofs.show.lines_of.Goals as goal

pub unreachable-requires : goal.unreachable-requires
unreachable-requires c =
    let q : Question =
    record { kinds = c.args.schema.now.kinds; place = c.args.kind.place; limits = c.args.limits } in
    no_fault q c.depth-in_range.ensures.range.units c.args.input.now c.requires.begins.0 c.requires.begins.1
    c.in-Err.fault c.in-Err.ensures.fault
    (λ e. let same = rw e at c.eq.ensures in false≢true (sym c.if-eq.false ∙ same))

pub returns-in-Ok : goal.returns-in-Ok
returns-in-Ok c = λ used begins.
    let q : Question =
    record { kinds = c.args.schema.now.kinds; place = c.args.kind.place; limits = c.args.limits } in
    let reported = c.in-Ok.ensures.lines in
    same_lines q c.args.input.now used begins reported.0 reported.1 _ reported.2 reported.3
