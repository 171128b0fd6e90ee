-- What holds of the parts that lines are printed for.
use Rattle.std.specs.Prelude.{◌≡◌, ℕ, List, map}
use Rattle.xdr_types.specs.Kinds.{KindView}
use Rattle.xdr_types.specs.Tree.{Tree}
use Rattle.xdr_types.specs.Layout.{entries}
use Rattle.xdr_show.specs.Seen.{Seen, seen}

-- without the heads they are the layout of the value (RFC 4506 section 4)
abbrev pub AreTheLayout : Type 0
AreTheLayout = (kinds : List KindView) (kind : ℕ) (v : Tree)
    → map (λ (s : Seen). s.entry) (seen kinds kind v) ≡ entries kinds kind v
