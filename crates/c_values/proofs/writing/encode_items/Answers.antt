-- The items before the next are written, and the last step tells of them.
use Rattle.std.proofs.Common.{◌<◌, [], length, refl, ◌∙◌, arith, rules}
use Rattle.c_values.specs.Items.{given}
use Rattle.c_values.specs.Answers.{Question}
use Rattle.c_values.specs.Private.Writing.{AreBegun}
use Rattle.c_values.proofs.Putting.{started_question, rest_of, some_more, stopped, ended, some_there}
use Rattle.c_values.proofs.writing.encode_items.Goals as goal

pub loop-at-init : goal.loop-at-init
loop-at-init c = record {
  settings = started_question c.start-writer.result c.args.schema.now c.args.kind c.args.limits
      c.start-writer.ensures.settings;
  before = [];
  joined = refl;
  count = refl;
  writing = record {
    is = [];
    represents = c.start-writer.ensures.represents;
    told = tt;
    spelled = c.reserve.ensures.items ∙ c.new-out.ensures.items;
    takes = λ some. absurd (omega (arith, some));
  };
  taken = λ some. absurd (omega (arith, some));
}

pub loop-at-preserved : goal.loop-at-preserved
loop-at-preserved c =
    let q : Question =
    record { kinds = c.args.schema.now.kinds; place = c.args.kind.place; limits = c.args.limits } in
    some_more q c.loop-at.writer c.args.content.now c.args.items.now c.loop-at.at c.loop-at.out.items c.loop-at.last
    c.loop-at.invariant _ (rest_of c.loop-at.at c.args.items.now) c.in-Ok.count c.in-Ok.ensures.some
    c.put_next.new.writer c.put_next.new.out.items c.in-Ok.step c.in-Ok.ensures.same c.in-Ok.ensures.writes

pub returns-in-Err-clause-unwritten : goal.returns-in-Err-clause-unwritten
returns-in-Err-clause-unwritten c =
    let q : Question =
    record { kinds = c.args.schema.now.kinds; place = c.args.kind.place; limits = c.args.limits } in
    stopped q c.loop-at.writer c.args.content.now c.args.items.now c.loop-at.at c.loop-at.out.items c.loop-at.last
    c.loop-at.invariant _ (rest_of c.loop-at.at c.args.items.now) c.in-Err.answer c.in-Err.ensures.refuses

pub returns-in-Done-clause-encoded : goal.returns-in-Done-clause-encoded
returns-in-Done-clause-encoded c =
    let q : Question =
    record { kinds = c.args.schema.now.kinds; place = c.args.kind.place; limits = c.args.limits } in
    let some : 0 < length c.args.items.now = some_there _ _ c.is_empty.ensures c.if-is_empty.false in
    ended q c.loop-at.writer c.args.content.now c.args.items.now c.loop-at.at c.loop-at.out.items c.loop-at.last
    c.loop-at.invariant (omega arith) (omega arith) _ c.in-Done.is

pub returns-clause-unwritten : goal.returns-clause-unwritten
returns-clause-unwritten c =
    let q : Question =
    record { kinds = c.args.schema.now.kinds; place = c.args.kind.place; limits = c.args.limits } in
    let some : 0 < length c.args.items.now = some_there _ _ c.is_empty.ensures c.if-is_empty.false in
    let begun : AreBegun q (given c.args.items.now c.args.content.now) =
    ended q c.loop-at.writer c.args.content.now c.args.items.now c.loop-at.at c.loop-at.out.items c.loop-at.last
    c.loop-at.invariant (omega arith) (omega arith) _ c.in-More.is in
    c.too_few.ensures q (given c.args.items.now c.args.content.now)
    (record { place = search rules; begun = λ some. (begun.is, begun.told, begun.begun); none = begun.none })
