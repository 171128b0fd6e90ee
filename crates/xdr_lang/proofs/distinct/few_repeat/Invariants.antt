use Rattle.std.proofs.Common.{◌≡◌, drop, take}
use Rattle.std.specs.Prelude.{filter}
use Rattle.std.specs.Str.{bytes_eq}
use Rattle.xdr_lang.specs.Views.{texts}
use Rattle.xdr_lang.specs.Distinct.{repeats, is_name, names_repeat}
use Rattle.xdr_lang.proofs.distinct.few_repeat.Given as goal

abbrev pub invariant-loop-at : goal.invariant-loop-at
invariant-loop-at l = repeats bytes_eq (filter is_name (texts (take l.at l.names)))
    (filter is_name (texts (drop l.at l.names))) ≡ names_repeat (texts l.names)
