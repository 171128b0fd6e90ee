use Rattle.std.proofs.Common.{ap, ◌∙◌}
use Rattle.registry_answer.specs.Views.{netid_of}
use Rattle.registry_sessions.specs.declared.origin.Origin.{Origin}
use Rattle.registry_sessions.specs.declared.fault.Taken.TheVariants as taken
use Rattle.example_sessions.proofs.Records.{answered, first_piece, second_piece, takes_at}
use Rattle.example_sessions.proofs.one.answers_a_record_cut_in_two.Goals as goal

pub returns-clause-output : goal.returns-clause-output
returns-clause-output g c = λ first used second.
    (answered c.one_answer.ensures c.others_are_as_ever.ensures c.start-session.result c.take_in-first.new.self
    c.take_in-second.new.self c.args.directory.now c.take_in-first.new.directory c.take_in-second.new.directory used
    (ap (λ (o : Origin). netid_of o.transport) (c.take_in-first.ensures.origin ∙ c.start-session.ensures.origin))
    c.start-session.ensures.reads c.start-session.ensures.replies
    (takes_at c.start-session.result c.take_in-first.new.self c.args.directory.now c.take_in-first.new.directory
    first_piece c.take_in-first.result taken.More first c.take_in-first.ensures.taken)
    (takes_at c.take_in-first.new.self c.take_in-second.new.self c.take_in-first.new.directory
    c.take_in-second.new.directory second_piece c.take_in-second.result (taken.Answered used) second
    c.take_in-second.ensures.taken) c.records_are_longest.ensures).1

pub returns-clause-rows : goal.returns-clause-rows
returns-clause-rows g c = λ first used second.
    (answered c.one_answer.ensures c.others_are_as_ever.ensures c.start-session.result c.take_in-first.new.self
    c.take_in-second.new.self c.args.directory.now c.take_in-first.new.directory c.take_in-second.new.directory used
    (ap (λ (o : Origin). netid_of o.transport) (c.take_in-first.ensures.origin ∙ c.start-session.ensures.origin))
    c.start-session.ensures.reads c.start-session.ensures.replies
    (takes_at c.start-session.result c.take_in-first.new.self c.args.directory.now c.take_in-first.new.directory
    first_piece c.take_in-first.result taken.More first c.take_in-first.ensures.taken)
    (takes_at c.take_in-first.new.self c.take_in-second.new.self c.take_in-first.new.directory
    c.take_in-second.new.directory second_piece c.take_in-second.result (taken.Answered used) second
    c.take_in-second.ensures.taken) c.records_are_longest.ensures).0
