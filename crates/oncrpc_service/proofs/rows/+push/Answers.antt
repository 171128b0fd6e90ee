-- The lines of a node are those of its two parts, and of what is no node there are none.
use Rattle.std.proofs.Common.{ap, ◌∙◌, length, arith, get_or, List, inl, inr}
use Rattle.xdr_types.specs.declared.value.Value.{Value}
use Rattle.oncrpc_service.proofs.Walks.{on_ok, then_more, pair_lines, other_lines, unchanged}
use Rattle.oncrpc_service.proofs.rows.+push.Goals as goal

pub push_node-returns-in_ok-push_row-in-len2 : goal.push_node-returns-in_ok-push_row-in-len2
push_node-returns-in_ok-push_row-in-len2 t c =
    let same = c.as_slice.ensures.value in
    let few = ap length same in
    let first = c.row-item.is ∙ ap (λ (xs : List Value). get_or xs 0 c.row-item.result) same in
    let second = c.next-item.is ∙ ap (λ (xs : List Value). get_or xs 1 c.next-item.result) same in
    let lines = pair_lines c.args.node.now c.in-Group.parts c.row-item.result c.next-item.result c.in-Group.is
    (omega (arith, few, c.in-len2.len_at_least)) (omega (arith, few, c.in-len2.len_below)) first second in
    on_ok c.push_rows.result
    (λ e. then_more c.args.out.now.items c.push_row.new.out.items c.push_rows.new.out.items _ _ _ lines
    c.in_ok-push_row-in-len2.ensures e) c.push_rows.ensures

pub push_node-returns-in_default-as_slice : goal.push_node-returns-in_default-as_slice
push_node-returns-in_default-as_slice t c =
    let few = ap length c.as_slice.ensures.value in
    unchanged c.args.out.now.items _ (other_lines c.args.node.now c.in-Group.parts c.in-Group.is
    (inl (omega (arith, few, c.in_default-as_slice.len_below))))

pub push_node-returns-in_default-as_slice-2 : goal.push_node-returns-in_default-as_slice-2
push_node-returns-in_default-as_slice-2 t c =
    let few = ap length c.as_slice.ensures.value in
    unchanged c.args.out.now.items _ (other_lines c.args.node.now c.in-Group.parts c.in-Group.is
    (inr (omega (arith, few, c.in_default-as_slice.len_at_least))))
