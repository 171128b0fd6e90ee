use Rattle.rpc_record.proofs.Singles.{Feeds-single, Reports-single}
use Rattle.rpc_record.proofs.reader.RecordReader.feed.Goals as goal

pub returns-in-Some-clause-feeds : goal.returns-in-Some-clause-feeds
returns-in-Some-clause-feeds c = Feeds-single c.args.self.now c.take_single.new.self c.args.piece.now
    c.in-Some.record.now c.take_single.ensures.limit c.in-Some.ensures.front c.in-Some.ensures.within
    c.take_single.ensures.takes c.take_single.ensures.refuses c.take_single.result c.take_single.ensures.whole
    c.take_single.ensures.refused

pub returns-in-Some-clause-reports : goal.returns-in-Some-clause-reports
returns-in-Some-clause-reports c = Reports-single c.args.self.now c.take_single.new.self c.args.piece.now
    c.in-Some.record.now c.take_single.ensures.limit c.in-Some.ensures.front c.in-Some.ensures.within
    c.take_single.ensures.takes c.take_single.ensures.refuses c.take_single.result c.take_single.ensures.whole
    c.take_single.ensures.refused
