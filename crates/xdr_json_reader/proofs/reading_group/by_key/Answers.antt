use Rattle.std.proofs.Common.{ℕ, List, arith, sym, refl}
use Rattle.std.proofs.lemmas.Map.Text.{btree_map_updates_str}
use Rattle.xdr_json_reader.proofs.Named.{keys_step}
use Rattle.xdr_json_reader.proofs.reading_group.by_key.Goals as goal

pub loop-left-preserved : goal.loop-left-preserved
loop-left-preserved c =
    let ms = c.args.members.now.items in
    let left = c.loop-left.left in
    let m = c.index-member.result.now in
    let few = c.loop-left.invariant.1 in (
      keys_step c.loop-left.named c.insert.new.self ms left m _ c.loop-left-test.true few
          (sym c.index-member.ensures) refl
          (λ (key : List ℕ).
          btree_map_updates_str m.0.name.now c.loop-left.named c.insert.new.self _ c.in_ok-insert.ensures.updates key)
          c.loop-left.invariant.0,
      omega (arith, few),
    )
