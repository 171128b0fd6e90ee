use Rattle.oncrpc_capture.proofs.Calls.{is_call}
use Rattle.oncrpc_capture.proofs.finding.begins_call.Goals as goal

pub returns : goal.returns
returns c =
    let xid = c.in-Some in
    let kind = c.in-Some-first_word in
    let version = c.in-Some-first_word-2 in
    is_call c.args.bytes.now xid._xid xid.rest.now xid.ensures.only kind.kind kind.rest.now kind.ensures.only
    version.version version._rest.now version.ensures.only xid.ensures.fits xid.ensures.found kind.ensures.found
    version.ensures.found c.if-kind-ne0.false
