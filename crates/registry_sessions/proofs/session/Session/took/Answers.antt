use Rattle.std.proofs.Common.{◌+◌, ◌-◌, refl, sym, ap, ◌∙◌, arith, take, vec_len}
use Rattle.std.proofs.lemmas.List.{drop-drop}
use Rattle.registry_sessions.proofs.Outputs.{took_by, moved_front}
use Rattle.registry_sessions.proofs.session.Session.took.Goals as goal

pub returns-then-waiting-self-clause-took : goal.returns-then-waiting-self-clause-took
returns-then-waiting-self-clause-took c =
    let xs = c.args.self.now.output.items in
    let sent = c.args.self.now.sent + c.args.n in
    took_by c.args.self.now _ c.args.n refl refl refl c.requires
    (c.truncate.ensures.items ∙ ap (take (c.len.result - sent)) c.copy_within.ensures.items
    ∙ moved_front sent (vec_len c.args.self.now.output) c.len.result xs (omega (arith, c.args.self.now.output.ok.0))
    (omega (arith, c.len.ensures, c.args.self.now.output.ok.0))
    ∙ sym (drop-drop c.args.n c.args.self.now.sent xs))

pub returns-else-waiting-self-clause-took : goal.returns-else-waiting-self-clause-took
returns-else-waiting-self-clause-took c =
    took_by c.args.self.now _ c.args.n refl refl refl c.requires
    (sym (drop-drop c.args.n c.args.self.now.sent c.args.self.now.output.items))
