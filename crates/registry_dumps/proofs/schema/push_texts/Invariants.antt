use Rattle.std.proofs.Common.{◌≡◌, ◌++◌, map, replicate}
use Rattle.xdr_types.specs.KindViews.{kind_view}
use Rattle.registry_dumps.specs.Dir.{any_text}
use Rattle.registry_dumps.proofs.schema.push_texts.Given as goal

abbrev pub invariant-loop : goal.invariant-loop
invariant-loop l = map kind_view l.kinds.items ≡ map kind_view l.fn.kinds.items ++ replicate l.counter any_text
