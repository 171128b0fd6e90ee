use Rattle.std.proofs.Common.{◌≡◌, ◌++◌, length, true, refl, ap}
use Rattle.rpc_record.specs.Marked.{header}
use Rattle.rpc_record.proofs.Sending.{Sends-same, Sends-trans}
use Rattle.rpc_record.proofs.Gathering.{header_cut, content_cut}
use Rattle.rpc_record.proofs.outbox.Outbox.put_record.Goals as goal

pub returns-in-Err-clause-cut : goal.returns-in-Err-clause-cut
returns-in-Err-clause-cut g c =
    let content = c.args.content.now in
    let head = c.last_header-header.result in
    let marked = c.last_header-header.ensures.spelled in
    let spelled : head ≡ header true (length content) = (cc) in
    header_cut c.args.self.now _ _ head content c.in-Err.fault spelled c.in-Err.ensures.cut

pub returns-in-Ok-put-clause-ok : goal.returns-in-Ok-put-clause-ok
returns-in-Ok-put-clause-ok g c =
    let content = c.args.content.now in
    let head = c.last_header-header.result in
    let marked = c.last_header-header.ensures.spelled in
    let spelled : head ≡ header true (length content) = (cc) in
    Sends-trans c.args.self.now c.put.new.self _ _ head c.in-Ok.ensures.ok _ _ content _
    (ap (λ m. m ++ content) spelled)
    (Sends-same c.put.new.self c.put-2.new.self _ _ _ content refl refl c.in-Ok-put.ensures.ok)

pub returns-in-Err-put-clause-cut : goal.returns-in-Err-put-clause-cut
returns-in-Err-put-clause-cut g c =
    let content = c.args.content.now in
    let head = c.last_header-header.result in
    let marked = c.last_header-header.ensures.spelled in
    let spelled : head ≡ header true (length content) = (cc) in
    content_cut c.args.self.now c.put.new.self _ _ _ head content c.in-Err-put.fault spelled c.in-Ok.ensures.ok
    c.in-Err-put.ensures.cut
