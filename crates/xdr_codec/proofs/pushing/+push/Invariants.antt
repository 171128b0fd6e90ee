use Rattle.std.proofs.Common.{◌≡◌, ◌++◌, ℕ, List, drop, map, true, length, replicate}
use Rattle.xdr_types.specs.KindViews.{part_of_member}
use Rattle.xdr_types.specs.Fits.{fit, item_part}
use Rattle.xdr_types.specs.Spelling.{spelling}
use Rattle.xdr_types.specs.View.{values}
use Rattle.xdr_codec.proofs.pushing.+push.Given as goal

abbrev pub invariant-push_items-loop-value : goal.invariant-push_items-loop-value
invariant-push_items-loop-value g l =
    let rest = drop l.value-index l.value-items in
    let item = item_part l.id.place in
    record {
      fit : fit l.schema.kinds (replicate (length rest) item) (values rest) ≡ true;
      put : List ℕ;
      sent : g.P.Put.sends l.initial.out l.out put;
      reported : put ++ spelling l.schema.kinds (replicate (length rest) item) (values rest)
          ≡ spelling l.schema.kinds (replicate (length l.value-items) item) (values l.value-items);
    }

abbrev pub invariant-push_parts-loop-i : goal.invariant-push_parts-loop-i
invariant-push_parts-loop-i g l =
    let ps = map part_of_member (drop l.i l.fields.items) in
    let rest = values (drop l.i l.parts.items) in
    record {
      fit : fit l.schema.kinds ps rest ≡ true;
      put : List ℕ;
      sent : g.P.Put.sends l.initial.out l.out put;
      reported : put ++ spelling l.schema.kinds ps rest
          ≡ spelling l.schema.kinds (map part_of_member l.fields.items) (values l.parts.items);
    }
