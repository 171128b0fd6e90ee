-- The first item by itself, or the numbers with which the items begin.
use Rattle.c_values.proofs.Several.{front_written, front_unwritten, first_written, first_unwritten}
use Rattle.c_values.proofs.Putting.{same_question}
use Rattle.c_values.proofs.writing.put_next.Goals as goal

pub returns-in-Ok-clause-writes : goal.returns-in-Ok-clause-writes
returns-in-Ok-clause-writes c = λ before st.
    first_written c.args.writer.now c.put_item.new.writer c.args.items.now _ c.args.content.now before
    c.put_item.new.out.items c.in-Ok.step c.requires (c.in-Ok.ensures.writes before st)

pub returns-in-Err-clause-refuses : goal.returns-in-Err-clause-refuses
returns-in-Err-clause-refuses c = λ before st at.
    first_unwritten c.args.writer.now c.args.items.now _ c.args.content.now before c.in-Err.answer c.requires
    (λ after. c.in-Err.ensures.refuses before after st at)

pub returns-in-Ok-put_numbers-clause-writes : goal.returns-in-Ok-put_numbers-clause-writes
returns-in-Ok-put_numbers-clause-writes c = λ before st.
    front_written c.args.writer.now c.args.content.now before c.args.out.now.items st c.args.items.now
    c.copy_numbers-count.new.numbers c.copy_numbers-count.result c.copy_numbers-count.ensures.room
    (c.copy_numbers-count.ensures.told c.args.content.now) c.put_numbers.new.self c.put_numbers.new.out.items
    (same_question c.args.writer.now c.put_numbers.new.self c.put_numbers.ensures.same) c.if-count-lt2.false
    c.in-Ok-put_numbers.step c.unwrap_or.result c.unwrap_or.ensures
    (c.in-Ok-put_numbers.ensures.took st.is st.represents)

pub returns-in-Err-put_numbers-clause-refuses : goal.returns-in-Err-put_numbers-clause-refuses
returns-in-Err-put_numbers-clause-refuses c = λ before st at.
    front_unwritten c.args.writer.now c.args.content.now before c.args.out.now.items st c.args.items.now
    c.copy_numbers-count.new.numbers c.copy_numbers-count.result c.copy_numbers-count.ensures.room
    (c.copy_numbers-count.ensures.told c.args.content.now) c.put_numbers.new.self c.put_numbers.new.out.items
    c.in-Err-put_numbers.refused (c.in-Err-put_numbers.ensures.rejects.1 st.is st.represents) c.refusal.result
    c.refusal.ensures
