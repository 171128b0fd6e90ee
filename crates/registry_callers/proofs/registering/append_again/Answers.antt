use Rattle.std.proofs.Common.{sym, ◌∙◌, arith}
use Rattle.registry_answer.specs.Views.{netid_of}
use Rattle.registry_callers.proofs.Making.{other_silent, makes_again, makes_other}
use Rattle.registry_callers.proofs.registering.append_again.Goals as goal

pub returns-in-Nothing : goal.returns-in-Nothing
returns-in-Nothing g c =
    other_silent c.args.directory.now c.new-made.result c.append_answer.new.directory (netid_of c.args.transport)
    c.args.asked.now c.args.out.now.items c.append_answer.new.out.items c.new-made.ensures c.in-Nothing.ensures

pub returns-then-is_there : goal.returns-then-is_there
returns-then-is_there g c =
    makes_again c.args.directory.now c.new-made.result c.append_answer.new.directory (netid_of c.args.transport)
    c.args.asked.now c.args.out.now.items c.append_answer.new.out.items c.new-made.ensures c.in-Reply.ensures
    (sym c.is_there.ensures ∙ c.if-is_there.true)

pub returns : goal.returns
returns g c =
    makes_other c.args.directory.now c.new-made.result c.append_answer.new.directory (netid_of c.args.transport)
    c.args.asked.now c.args.out.now.items c.append_answer.new.out.items c.new-made.ensures c.in-Reply.ensures
    (sym c.is_there.ensures ∙ c.if-is_there.false) c.len-before.result
    (omega (arith, c.len-before.ensures, c.args.out.now.ok.0)) _ c.truncate.ensures.items
