use Rattle.std.proofs.Common.{◌≡◌, ◌≤◌, length, arith, pos, get_or, length-take, rules, to_z, of_z}
use mir.Syntax.{w128}
use Rattle.xdr_writer.proofs.InTurn.{some_front}
use Rattle.xdr_writer.proofs.Words.{first_rejects}
use Rattle.xdr_writer.proofs.writer.Writer.put_some.Goals as goal

pub returns-then-count-gt0 : goal.returns-then-count-gt0
returns-then-count-gt0 c =
    let low : c.words_in_front-count.result ≤ length c.args.numbers.now =
    omega (
      arith,
      c.words_in_front-count.ensures.few,
      c.room-most.ensures.few,
      length-take c.room-most.result c.args.numbers.now,
    ) in
    some_front c.args.self.now c.put_words.new.self c.args.numbers.now c.words_in_front-count.result low
    c.args.out.now.items c.put_words.new.out.items c.put_words.result c.put_words.ensures

pub returns-in-Err : goal.returns-in-Err
returns-in-Err c =
    let same : to_z w128 (of_z w128 (get_or c.args.numbers.now 0 (pos 0))) ≡ get_or c.args.numbers.now 0 (pos 0) =
    search rules in
    record {
      some = tt;
      took = tt;
      rejects = first_rejects c.args.self.now c.put.new.self c.args.numbers.now
          (to_z w128 (of_z w128 (get_or c.args.numbers.now 0 (pos 0)))) c.args.out.now.items c.put.new.out.items
          c.in-Err.refusal c.requires same c.in-Err.ensures.refuses;
      refused = c.in-Err.ensures.refuses.refused;
      same = c.in-Err.ensures.stays.same;
    }
