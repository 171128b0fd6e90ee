use Rattle.std.proofs.Common.{List, ℕ, refl, sym, ◌∙◌, subst}
use Rattle.registry_callers.specs.Vouching.{IsVouched}
use Rattle.rpc_message.specs.View.{lent_call_view}
use Rattle.registry_answer.specs.Views.{netid_of}
use Rattle.registry_callers.proofs.Written.{refused, weak_appends}
use Rattle.registry_callers.proofs.answering.append_change.Goals as goal

pub returns-then-not-is_trusted : goal.returns-then-not-is_trusted
returns-then-not-is_trusted g c =
    let a = c.args.asked.now in
    weak_appends a.caller c.args.directory.now (netid_of a.transport) a.message.now c.args.out.now.items
    (lent_call_view a.call) c.requires.call c.append_too_weak.new.out.items c.requires.change
    (sym c.is_trusted.ensures ∙ c.if-not-is_trusted.true) c.append_too_weak.result c.append_too_weak.ensures

pub vouched-requires : goal.vouched-requires
vouched-requires g c = c.requires.call.fits.verf.short

pub append_taken-requires-clause-taken : goal.append_taken-requires-clause-taken
append_taken-requires-clause-taken g c = record {
  read = c.requires.call;
  trusted = sym c.is_trusted.ensures ∙ c.if-not-is_trusted.false;
  vouched = record {
    cred = (lent_call_view c.args.asked.now.call).cred;
    vouches = rw c.in-Ok-None.field-0-is at c.in-Ok-None.ensures;
    spelled = c.requires.call;
  };
}

pub append_taken-requires-in-Ok-Some-clause-taken : goal.append_taken-requires-in-Ok-Some-clause-taken
append_taken-requires-in-Ok-Some-clause-taken g c = record {
  read = c.requires.call;
  trusted = sym c.is_trusted.ensures ∙ c.if-not-is_trusted.false;
  vouched = subst (λ (b : List ℕ). IsVouched c.args.asked.now.caller.peer (lent_call_view c.args.asked.now.call) b)
      (sym c.deref.ensures.value) (rw c.in-Ok-Some.field-0-is at c.in-Ok-Some.ensures);
}

pub returns-in-Err : goal.returns-in-Err
returns-in-Err g c =
    let a = c.args.asked.now in (
      refused a.caller c.args.directory.now (netid_of a.transport) a.message.now c.args.out.now.items
          (lent_call_view a.call) c.requires.call c.args.directory.now a.call.xid refl refl,
      refl,
    )
