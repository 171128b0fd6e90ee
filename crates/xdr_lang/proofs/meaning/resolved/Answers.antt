use Rattle.std.proofs.Common.{refl}
use Rattle.xdr_lang.specs.Private.Meaning.{meaning_with}
use Rattle.xdr_lang.proofs.meaning.resolved.Goals as goal

pub returns : goal.returns
unfolding meaning_with
returns c = rw (
  (rw c.deref.ensures.value at c.in_ok-kinds.ensures),
  c.in_ok-names.ensures,
  (rw c.deref-2.ensures.value at c.in_ok-programs.ensures),
  (rw c.deref-3.ensures.value at c.in_ok-constants.ensures),
) refl
