use Rattle.rpc_record.proofs.Singles.{Fills-single, Reports-filled}
use Rattle.rpc_record.proofs.reader.RecordReader.feed_into.Goals as goal

pub returns-in-Some-clause-fills : goal.returns-in-Some-clause-fills
returns-in-Some-clause-fills c = Fills-single c.args.self.now c.put_single.new.self c.args.piece.now
    c.in-Some.record.now c.put_single.new.buffer.items c.put_single.ensures.limit c.in-Some.ensures.front
    c.in-Some.ensures.within c.put_single.ensures.refuses c.put_single.result c.put_single.ensures.whole
    c.put_single.ensures.refused

pub returns-in-Some-clause-reports : goal.returns-in-Some-clause-reports
returns-in-Some-clause-reports c = Reports-filled c.args.self.now c.put_single.new.self c.args.piece.now
    c.in-Some.record.now c.put_single.new.buffer.items c.put_single.ensures.limit c.in-Some.ensures.front
    c.in-Some.ensures.within c.put_single.ensures.refuses c.put_single.result c.put_single.ensures.whole
    c.put_single.ensures.refused
