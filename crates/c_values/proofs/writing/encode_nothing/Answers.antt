-- A value that begins no bytes has no items.
use Rattle.std.proofs.Common.{[], refl, arith}
use Rattle.c_values.specs.Answers.{Question}
use Rattle.c_values.specs.Items.{given}
use Rattle.c_values.proofs.Nothing.{nothing_encoded, nothing_refused}
use Rattle.c_values.proofs.writing.encode_nothing.Goals as goal

pub returns-in-Refused-clause-unwritten : goal.returns-in-Refused-clause-unwritten
returns-in-Refused-clause-unwritten c = λ content.
    let q : Question =
    record { kinds = c.args.schema.now.kinds; place = c.args.kind.place; limits = c.args.limits } in
    c.too_few.ensures q (given [] content)
    (record {
      place = refl;
      begun = λ some. absurd (omega (arith, some));
      none = nothing_refused q c.in-Refused.field-0 c.in-Refused.ensures content;
    })

pub returns-in_default : goal.returns-in_default
returns-in_default c = record {
  encoded = λ content.
      (let q : Question =
      record { kinds = c.args.schema.now.kinds; place = c.args.kind.place; limits = c.args.limits } in
      rw c.new.ensures.items (nothing_encoded q c.judge.result c.judge.ensures c.in_default.not-Refused
      c.in_default.not-NoMemory content));
  unwritten = tt;
}
