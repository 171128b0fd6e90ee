-- The item tells nothing, or the writer takes what it tells, or refuses it.
use Rattle.xdr_writer.specs.Items.{item_view}
use Rattle.c_values.proofs.Putting.{writes, untold, refused, same_question}
use Rattle.c_values.proofs.writing.put_item.Goals as goal

pub returns-in-Err-clause-refuses : goal.returns-in-Err-clause-refuses
returns-in-Err-clause-refuses c = λ before after st place.
    untold c.args.writer.now c.args.content.now before c.args.out.now.items st c.args.item.now c.args.at after place
    c.in-Err.why c.in-Err.ensures.untold

pub returns-in-Ok-put-clause-writes : goal.returns-in-Ok-put-clause-writes
returns-in-Ok-put-clause-writes c = λ before st.
    writes c.args.writer.now c.args.content.now before c.args.out.now.items st c.args.item.now c.put.new.self
    (same_question c.args.writer.now c.put.new.self c.put.ensures.stays.same) (item_view c.in-Ok.told)
    c.in-Ok.ensures.told c.put.new.out.items c.in-Ok-put.step (c.in-Ok-put.ensures.took st.is st.represents)

pub returns-in-Err-put-clause-refuses : goal.returns-in-Err-put-clause-refuses
returns-in-Err-put-clause-refuses c = λ before after st place.
    refused c.args.writer.now c.args.content.now before c.args.out.now.items st c.args.item.now c.args.at after place
    (item_view c.in-Ok.told) c.in-Ok.ensures.told c.in-Err-put.refused.why
    (c.in-Err-put.ensures.refuses.refuses st.is st.represents).0
    (c.in-Err-put.ensures.refuses.no_value st.is st.represents)
    c.refusal.result c.refusal.ensures
