use Rattle.std.proofs.Common.{◌≤◌, subst, sym}
use Rattle.xdr_types.specs.Within.{Bounds}
use Rattle.example_xdr.proofs.pieces.waits_for_the_rest.Goals as goal

pub begins_a_hyper-requires : goal.begins_a_hyper-requires
begins_a_hyper-requires c =
    let set = c.start-decoder.ensures.settings in
    record {
      fresh = c.start-decoder.ensures.represents;
      kind = rw (set.schema_is, set.kind_is) c.requires.kind;
      limit = subst (λ (l : Bounds). 8 ≤ l.bytes) (sym set.limits_are) c.requires.limit;
      depth = subst (λ (l : Bounds). 1 ≤ l.depth) (sym set.limits_are) c.requires.depth;
    }
