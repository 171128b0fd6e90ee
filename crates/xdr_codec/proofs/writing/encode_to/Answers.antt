use Rattle.std.proofs.Common.{rules, ◌<◌, ◌^◌, refl, arith, length, take, List, ℕ}
use Rattle.std.specs.Io.KnownBytes.{Appends}
use Rattle.xdr_types.specs.Spelling.{bytes_of}
use Rattle.xdr_types.specs.View.{tree}
use Rattle.xdr_codec.proofs.Gathering.{all_out, cut_out, cut_late}
use Rattle.xdr_codec.proofs.writing.encode_to.Goals as goal

pub returns-in-Err-clause-cut : goal.returns-in-Err-clause-cut
returns-in-Err-clause-cut g c =
    let bs : List ℕ = bytes_of c.args.schema.now.kinds c.args.kind.place (tree c.args.value.now) in
    let small : length bs < 2 ^ 32 = omega (arith, c.requires.1.1, c.depth-in_range.ensures.range.most_bytes) in
    let out = cut_out _ _ bs refl refl small c.in-Err.ensures.1 in
    let reported : Appends (g.W.Sink.taken c.args.writer.now) (g.W.Sink.taken c.push_value.new.out.sink.now)
    (take c.push_value.new.out.written bs) = out.0 in
    search (rules, reported)

pub returns-in-Err-clause-short : goal.returns-in-Err-clause-short
returns-in-Err-clause-short g c =
    let bs : List ℕ = bytes_of c.args.schema.now.kinds c.args.kind.place (tree c.args.value.now) in
    let small : length bs < 2 ^ 32 = omega (arith, c.requires.1.1, c.depth-in_range.ensures.range.most_bytes) in
    (cut_out _ _ bs refl refl small c.in-Err.ensures.1).1

pub returns-in-Ok-flush-clause-bytes : goal.returns-in-Ok-flush-clause-bytes
returns-in-Ok-flush-clause-bytes g c =
    let bs : List ℕ = bytes_of c.args.schema.now.kinds c.args.kind.place (tree c.args.value.now) in
    let small : length bs < 2 ^ 32 = omega (arith, c.requires.1.1, c.depth-in_range.ensures.range.most_bytes) in
    let out = all_out _ _ _ bs refl refl c.in-Ok-flush.ensures.empty small c.in-Ok.ensures.1 c.in-Ok-flush.ensures.put
    in
    let reported : Appends (g.W.Sink.taken c.args.writer.now) (g.W.Sink.taken c.flush.new.self.sink.now) bs = out.0 in
    search (rules, reported)

pub returns-in-Ok-flush-clause-count : goal.returns-in-Ok-flush-clause-count
returns-in-Ok-flush-clause-count g c =
    let bs : List ℕ = bytes_of c.args.schema.now.kinds c.args.kind.place (tree c.args.value.now) in
    let small : length bs < 2 ^ 32 = omega (arith, c.requires.1.1, c.depth-in_range.ensures.range.most_bytes) in
    (all_out _ _ _ bs refl refl c.in-Ok-flush.ensures.empty small c.in-Ok.ensures.1 c.in-Ok-flush.ensures.put).1

pub returns-in-Err-flush-clause-cut : goal.returns-in-Err-flush-clause-cut
returns-in-Err-flush-clause-cut g c =
    let bs : List ℕ = bytes_of c.args.schema.now.kinds c.args.kind.place (tree c.args.value.now) in
    let small : length bs < 2 ^ 32 = omega (arith, c.requires.1.1, c.depth-in_range.ensures.range.most_bytes) in
    let out = cut_late _ _ _ bs refl refl small c.in-Ok.ensures.1 c.in-Err-flush.ensures.put in
    let reported : Appends (g.W.Sink.taken c.args.writer.now) (g.W.Sink.taken c.flush.new.self.sink.now)
    (take c.flush.new.self.written bs) = out.0 in
    search (rules, reported)

pub returns-in-Err-flush-clause-short : goal.returns-in-Err-flush-clause-short
returns-in-Err-flush-clause-short g c =
    let bs : List ℕ = bytes_of c.args.schema.now.kinds c.args.kind.place (tree c.args.value.now) in
    let small : length bs < 2 ^ 32 = omega (arith, c.requires.1.1, c.depth-in_range.ensures.range.most_bytes) in
    (cut_late _ _ _ bs refl refl small c.in-Ok.ensures.1 c.in-Err-flush.ensures.put).1
