use Rattle.std.proofs.Common.{◌≡◌, ◌≤◌, [], None, sym, subst}
use Rattle.rpc_record.specs.Streamed.{HasRead}
use Rattle.rpc_record.proofs.normal.normalise.Goals as goal

pub pass_on-requires : goal.pass_on-requires
pass_on-requires g c =
    let start = c.start-records in
    let same : start.result.records.limit ≡ c.args.limit = (start.ensures.read None).same in
    record {
      limit = subst (λ k. k ≤ 2147483647) (sym same) c.requires;
      opened = start.ensures.«open»;
      unread = start.ensures.unread;
      read = λ left. subst (λ k. HasRead k start.result [] left left) (sym same) (start.ensures.read left);
      empty = c.new-outbox.ensures.empty;
      records = c.new-outbox.ensures.records;
      bytes = c.new-outbox.ensures.bytes;
    }

pub returns-clause-ok : goal.returns-clause-ok
returns-clause-ok g c = rw ((c.start-records.ensures.read None).same) at c.pass_on.ensures.ok

pub returns-clause-fault : goal.returns-clause-fault
returns-clause-fault g c = rw ((c.start-records.ensures.read None).same) at c.pass_on.ensures.fault
