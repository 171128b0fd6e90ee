use Rattle.std.proofs.Common.{◌≡◌, drop, map}
use Rattle.std.specs.List.{list_any}
use Rattle.xdr_lang.specs.Distinct.{kind_repeats}
use Rattle.xdr_grammar.specs.View as view
use Rattle.xdr_lang.proofs.distinct.kinds_repeat.Given as goal

abbrev pub invariant-loop-draft : goal.invariant-loop-draft
invariant-loop-draft l = list_any kind_repeats (map view.draft_of (drop l.draft-index l.drafts)) ≡ list_any kind_repeats
    (map view.draft_of l.drafts)
