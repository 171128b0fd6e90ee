use Rattle.std.proofs.Common.{refl, arith}
use Rattle.rpc_message.specs.Message.{Whole, OtherVersion, BadCred, BadVerf, Denied, RpcMismatch}
use Rattle.rpc_message.specs.View.{lent_call_view}
use Rattle.registry_answer.specs.Answer.{auth_error, other_version, bad_cred, bad_verf, call}
use Rattle.registry_answer.specs.Views.{netid_of}
use Rattle.registry_answer.proofs.Chains.{on_ok}
use Rattle.registry_answer.proofs.Calls.{answers_silence, answers_no_memory, adds, adds_short, pushes_by}
use Rattle.registry_answer.proofs.Calls.{any_err, on_err, unchanged}
use Rattle.registry_answer.proofs.answering.push_answer.Goals as goal

pub returns-in-NotACall-clause-answer : goal.returns-in-NotACall-clause-answer
returns-in-NotACall-clause-answer g c =
    let is = rw c.in-NotACall.is at c.read_lent_call.ensures.found in
    (answers_silence c.args.directory.now (netid_of c.args.transport) c.args.message.now is, refl)

pub returns-in-OtherVersion-clause-answer : goal.returns-in-OtherVersion-clause-answer
returns-in-OtherVersion-clause-answer g c =
    let is = rw c.in-OtherVersion.is at c.read_lent_call.ensures.found in
    let xid = c.in-OtherVersion.xid in
    let version = c.in-OtherVersion._version in
    let rows = c.args.directory.now in
    let netid = netid_of c.args.transport in
    let message = c.args.message.now in
    pushes_by rows netid message _ _ _ c.append_denial.result c.written.result xid c.written.ensures
    (on_ok c.append_denial.result _ _ (λ e. adds_short rows netid message (OtherVersion xid version) rows
    (Denied xid (RpcMismatch 2 2)) _ _ is (other_version xid version) (is.xid_fits, (omega arith, omega arith)) e
    (omega arith)) c.append_denial.ensures.ok)
    (any_err c.append_denial.result _
    (answers_no_memory rows netid message (OtherVersion xid version) xid is refl is.xid_fits))

pub returns-in-BadCred-clause-answer : goal.returns-in-BadCred-clause-answer
returns-in-BadCred-clause-answer g c =
    let is = rw c.in-BadCred.is at c.read_lent_call.ensures.found in
    let xid = c.in-BadCred.xid in
    let rows = c.args.directory.now in
    let netid = netid_of c.args.transport in
    let message = c.args.message.now in
    pushes_by rows netid message _ _ _ c.append_denial-in-BadCred.result c.written-in-BadCred.result xid
    c.written-in-BadCred.ensures
    (on_ok c.append_denial-in-BadCred.result _ _ (λ e. adds_short rows netid message (BadCred xid) rows
    (auth_error xid 1) _ _ is (bad_cred xid) (is.fits.0, omega arith) e (omega arith))
    c.append_denial-in-BadCred.ensures.ok)
    (any_err c.append_denial-in-BadCred.result _
    (answers_no_memory rows netid message (BadCred xid) xid is refl is.fits.0))

pub returns-in-BadVerf-clause-answer : goal.returns-in-BadVerf-clause-answer
returns-in-BadVerf-clause-answer g c =
    let is = rw c.in-BadVerf.is at c.read_lent_call.ensures.found in
    let xid = c.in-BadVerf.xid in
    let rows = c.args.directory.now in
    let netid = netid_of c.args.transport in
    let message = c.args.message.now in
    pushes_by rows netid message _ _ _ c.append_denial-in-BadVerf.result c.written-in-BadVerf.result xid
    c.written-in-BadVerf.ensures
    (on_ok c.append_denial-in-BadVerf.result _ _ (λ e. adds_short rows netid message (BadVerf xid) rows
    (auth_error xid 3) _ _ is (bad_verf xid) (is.fits.0, omega arith) e (omega arith))
    c.append_denial-in-BadVerf.ensures.ok)
    (any_err c.append_denial-in-BadVerf.result _
    (answers_no_memory rows netid message (BadVerf xid) xid is refl is.fits.0))

pub push_call-added-requires : goal.push_call-added-requires
push_call-added-requires g c =
    let is = rw c.in-Whole.is at c.read_lent_call.ensures.found in
    is.fits.xid

pub returns-in-Whole-clause-answer : goal.returns-in-Whole-clause-answer
returns-in-Whole-clause-answer g c =
    let is = rw c.in-Whole.is at c.read_lent_call.ensures.found in
    let v = lent_call_view c.in-Whole.call in
    let rows = c.args.directory.now in
    let netid = netid_of c.args.transport in
    let message = c.args.message.now in
    let added = c.push_call-added in
    pushes_by rows netid message _ _ _ added.result c.written-in-Whole.result v.xid c.written-in-Whole.ensures
    (on_ok added.result _ _ (λ k. adds rows netid message (Whole v) _ k.said _ _ is (call v _ k.said k.answers)
    k.fits k.added k.short) added.ensures.ok)
    (on_err added.result _ _ (λ e. unchanged rows _ netid message _ e
    (answers_no_memory rows netid message (Whole v) v.xid is refl is.fits.xid)) added.ensures.err)
