use Rattle.xdr_lang.proofs.Tables.{no_names}
use Rattle.xdr_lang.proofs.type_table.type_table.Goals as goal
use Rattle.std.proofs.Common.{List, [], ap, ◌∙◌}
use Rattle.std.specs.Str.{bytes_eq}
use Rattle.xdr_grammar.specs.Outline as out
use Rattle.xdr_lang.specs.Distinct.{repeats}
use Rattle.xdr_lang.specs.Private.Tables.{type_names}

pub invariant_of-table-clause-has_none : goal.invariant_of-table-clause-has_none
invariant_of-table-clause-has_none c = no_names c.new-endless.result _ c.new-endless.ensures.empty

pub invariant_of-table-clause-are_apart : goal.invariant_of-table-clause-are_apart
invariant_of-table-clause-are_apart c = λ yes.
    ap (λ (ts : List out.Field). repeats bytes_eq [] (type_names ts)) c.in_ok-list.ensures
    ∙ c.in_ok-parts.ensures.apart yes
