use Rattle.std.proofs.Common.{ap, ◌∙◌}
use Rattle.oncrpc_messages.specs.Closing.{closed}
use Rattle.std.proofs.lemmas.Result.{err_from_is_err_and}
use Rattle.oncrpc_watch.proofs.Streamed.{record_cut, record_printed, untold}
use Rattle.oncrpc_watch.proofs.stream.Stream.tell.Goals as goal

pub returns-clause-prints : goal.returns-clause-prints
returns-clause-prints g c =
    record_printed c.args.watch.now c.tell.new.self c.args.self.now.record.items c.as_slice-record.result.now
    c.as_slice-bytes.result.now c.in_ok-told.told c.place_of-place.result _ _ c.as_slice-record.ensures.value
    c.in_ok-told.ensures.told c.in_ok-told.ensures.heard c.in_ok-told.ensures.terms
    (c.as_slice-bytes.ensures.value ∙ c.in_ok-text.ensures
    ∙ ap (λ f. closed f c.in_ok-told.told.page.text.items c.in_ok-told.told.page.verdict c.place_of-place.result)
    (c.form.ensures ∙ ap (λ t. t.form) c.in_ok-told.ensures.terms)) c.in_ok-write_whole.ensures.ok
    c.in_ok-write_whole.ensures.none_failed

pub returns-in_err-take_record-clause-stops : goal.returns-in_err-take_record-clause-stops
returns-in_err-take_record-clause-stops g c =
    let e = c.from_residual in
    let p = err_from_is_err_and e.result e.ensures.1 in
    rw p.1 (untold c.args.watch.now _ _ p.0 p.2)

pub returns-in_err-told-clause-stops : goal.returns-in_err-told-clause-stops
returns-in_err-told-clause-stops g c =
    let e = c.from_residual-in_err-told in
    let p = err_from_is_err_and e.result e.ensures.1 in
    rw p.1 (untold c.args.watch.now _ _ p.0 p.2)

pub returns-in_err-text-clause-stops : goal.returns-in_err-text-clause-stops
returns-in_err-text-clause-stops g c =
    let e = c.from_residual-in_err-text in
    let p = err_from_is_err_and e.result e.ensures.1 in
    rw p.1 (untold c.args.watch.now _ _ p.0 p.2)

pub returns-in_err-write_whole-clause-stops : goal.returns-in_err-write_whole-clause-stops
returns-in_err-write_whole-clause-stops g c =
    let e = c.from_residual-in_err-write_whole in
    let p = err_from_is_err_and e.result e.ensures.1 in
    rw p.1 (record_cut c.args.watch.now c.tell.new.self c.args.self.now.record.items c.as_slice-record.result.now
    c.as_slice-bytes.result.now c.in_ok-told.told c.place_of-place.result _ _ _ p.0 p.2
    c.as_slice-record.ensures.value c.in_ok-told.ensures.told
    (c.as_slice-bytes.ensures.value ∙ c.in_ok-text.ensures
    ∙ ap (λ f. closed f c.in_ok-told.told.page.text.items c.in_ok-told.told.page.verdict c.place_of-place.result)
    (c.form.ensures ∙ ap (λ t. t.form) c.in_ok-told.ensures.terms)) c.in_err-write_whole.ensures.cut.1
    c.in_err-write_whole.ensures.one_failed)
