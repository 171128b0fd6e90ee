use Rattle.std.proofs.Common.{refl}
use Rattle.xdr_lang.proofs.distinct.declared_names.Goals as goal

pub returns : goal.returns
returns c = rw (
  c.in_ok-add_names-3.ensures,
  c.in_ok-add_names-2.ensures,
  c.in_ok-add_names.ensures,
  c.in_ok-push-2.ensures.items,
  c.in_ok-push.ensures.items,
  c.new-names.ensures.items,
  c.deref.ensures.value,
  c.deref-2.ensures.value,
  c.deref-3.ensures.value,
) refl
