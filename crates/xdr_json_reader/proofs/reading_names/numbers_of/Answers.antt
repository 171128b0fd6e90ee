use Rattle.std.proofs.Common.{◌≡◌, ◌<◌, ◌-◌, ℕ, ℤ, List, Some, length, map, arith, sym, ap, ap₂, ◌∙◌, rules}
use Rattle.std.proofs.Common.{w32, to_z, of_z, if◌then◌else◌}
use Rattle.std.proofs.lemmas.List.{get_or-map, length-map}
use Rattle.std.proofs.lemmas.Map.Text.{btree_map_updates_str}
use Rattle.std.specs.Str.{bytes_eq}
use Rattle.xdr_types.specs.KindViews.{constant_of}
use Rattle.xdr_json_reader.proofs.Named.{numbers_step, At}
use Rattle.xdr_json_reader.proofs.reading_names.numbers_of.Goals as goal

pub loop-left-preserved : goal.loop-left-preserved
loop-left-preserved c =
    let ms = c.args.members.now.items in
    let left = c.loop-left.left in
    let m = c.index-member.result.now in
    let few = c.loop-left.invariant.1 in
    let within : c.loop-left.left - 1 < length c.args.members.now.items = omega (arith, few, c.loop-left-test.true) in
    let same : to_z w32 (of_z w32 c.index-member.result.now.1) ≡ c.index-member.result.now.1 = search rules in (
      numbers_step c.loop-left.numbers c.insert.new.self (map constant_of ms) left (constant_of m)
          c.loop-left-test.true (omega (arith, few, length-map ms constant_of))
          (get_or-map constant_of ms (left - 1) m (constant_of m) within ∙ ap constant_of (sym c.index-member.ensures))
          (λ (name : List ℕ).
          btree_map_updates_str c.as_str.result.now c.loop-left.numbers c.insert.new.self _
          c.in_ok-insert.ensures.updates name
          ∙ ap₂ (λ (bs : List ℕ) (v : ℤ). if bytes_eq bs name then Some v else At c.loop-left.numbers name)
          c.as_str.ensures.value same)
          c.loop-left.invariant.0,
      omega (arith, few),
    )
