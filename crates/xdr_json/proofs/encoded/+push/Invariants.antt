use Rattle.std.proofs.Common.{◌≡◌, ℕ, ◌+◌, ◌-◌, ◌*◌, ◌≤◌, List, ◌++◌, drop, map, replicate}
use Rattle.json.specs.Tree.{items_tokens, members_tokens}
use Rattle.json.specs.Value.{items_of}
use Rattle.xdr_types.specs.Fits.{item_part}
use Rattle.xdr_types.specs.KindViews.{part_of_member}
use Rattle.xdr_types.specs.Tree.{Values, depth_of}
use Rattle.xdr_json.specs.Mapping.{field_members, jsons}
use Rattle.xdr_json.specs.Private.Standing.{StandEach}
use Rattle.xdr_json.proofs.Going.{ItemsLeft, FieldsLeft}
use Rattle.xdr_json.proofs.encoded.+push.Given as goal

abbrev pub decreases-push_node : goal.decreases-push_node
decreases-push_node l = 4 * l.most

abbrev pub decreases-push_array : goal.decreases-push_array
decreases-push_array l = 4 * l.most + 1

abbrev pub decreases-push_fields : goal.decreases-push_fields
decreases-push_fields l = 4 * l.most + 1

abbrev pub decreases-push_arm : goal.decreases-push_arm
decreases-push_arm l = 4 * l.most + 1

abbrev pub decreases-push_present : goal.decreases-push_present
decreases-push_present l = 4 * l.most + 1

abbrev pub decreases-push_union : goal.decreases-push_union
decreases-push_union l = 4 * l.most + 2

abbrev pub decreases-push_optional : goal.decreases-push_optional
decreases-push_optional l = 4 * l.most + 2

abbrev pub invariant-push_array-loop : goal.invariant-push_array-loop
invariant-push_array-loop l =
    let S = l.schema.kinds in
    let item = item_part l.item.place in
    record {
      layout : l.out.layout ≡ l.fn.out.layout;
      going : (vs : Values) (rest : List ℕ) → depth_of vs ≤ l.most
          → StandEach S (replicate l.count item) l.bytes vs rest
          → ItemsLeft S item (l.count - l.counter) l.most l.rest rest l.out.tokens
          (l.initial.out.tokens ++ items_tokens (items_of (jsons S (replicate l.count item) vs)));
    }

abbrev pub invariant-push_fields-loop-field : goal.invariant-push_fields-loop-field
invariant-push_fields-loop-field l =
    let S = l.schema.kinds in
    let all = map part_of_member l.field-items in
    record {
      layout : l.out.layout ≡ l.fn.out.layout;
      going : (vs : Values) (rest : List ℕ) → depth_of vs ≤ l.most → StandEach S all l.bytes vs rest
          → FieldsLeft S (map part_of_member (drop l.field-index l.field-items)) l.most l.rest rest l.out.tokens
          (l.initial.out.tokens ++ members_tokens (field_members all (jsons S all vs)));
    }
