-- The one answer with status 0 is a part, and each other but one leaves what is lent.
use Rattle.std.proofs.Common.{sym, ap, ◌∙◌, option_map}
use Rattle.xdr_lang.specs.Views.{declared_of}
use Rattle.c_cursors.specs.Giving.{Lends}
use Rattle.c_cursors.proofs.Answered.{lies, stays, place_stays}
use Rattle.c_cursors.proofs.examples.gives_within_the_input.Goals as goal

pub returns-clause-within : goal.returns-clause-within
returns-clause-within c = λ e.
    let t = c.next_by_cursor.ensures.answer in
    lies _ _ _ (option_map declared_of c.args.declarations.now.declared) _ _ t.0 t.1 (sym e ∙ t.2)

pub returns-clause-stays : goal.returns-clause-stays
returns-clause-stays c = λ some room.
    let t = c.next_by_cursor.ensures.answer in
    ap (λ (l : Lends). l.part)
    (stays _ _ _ (option_map declared_of c.args.declarations.now.declared) _ _ t.0 t.1 (λ e. some (t.2 ∙ e))
    (λ e. room (t.2 ∙ e)))

pub returns-clause-place : goal.returns-clause-place
returns-clause-place c = λ e.
    let t = c.next_by_cursor.ensures.answer in
    place_stays _ _ _ (option_map declared_of c.args.declarations.now.declared) _ _ t.0 t.1 (sym e ∙ t.2)
