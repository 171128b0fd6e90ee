use Rattle.std.proofs.Common.{◌≡◌, drop}
use Rattle.std.specs.Prelude.{filter}
use Rattle.std.specs.Str.{bytes_eq}
use Rattle.xdr_lang.specs.Views.{texts}
use Rattle.xdr_constants.specs.Tables.{key_texts}
use Rattle.xdr_lang.specs.Distinct.{repeats, is_name, names_repeat}
use Rattle.xdr_lang.proofs.distinct.many_repeat.Given as goal

abbrev pub invariant-loop-name : goal.invariant-loop-name
invariant-loop-name l = repeats bytes_eq (key_texts l.before.keys)
    (filter is_name (texts (drop l.name-index l.names))) ≡ names_repeat (texts l.names)
