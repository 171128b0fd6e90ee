use Rattle.std.proofs.Common.{◌≡◌, rules, List, ℤ, map, option_map, Option, Some, None, ◌∙◌, sym, ap, Bor, to_z, of_z}
use Rattle.std.specs.Int.{w64}
use Rattle.xdr_types.specs.Kinds.{KindView, Part, Branch}
use Rattle.xdr_types.specs.KindViews.{branch_of, part_of_member}
use Rattle.xdr_types.specs.Fits.{part_in, part_of}
use Rattle.xdr_types.specs.declared.kind.Member.{Member}
use Rattle.xdr_stream.proofs.machine.number.chosen.Goals as goal

pub returns-in-Some : goal.returns-in-Some
returns-in-Some c =
    let arms : List Branch = map branch_of c.args.arms.now.items in
    let other : Option Part = option_map part_of_member c.args.other.now in
    let z : ℤ = to_z w64 (of_z w64 c.number_under-signed.result.0) in
    let part : part_of arms other z ≡ Some (part_of_member c.in-Some.member.now) =
    sym (c.part_in.ensures ∙ ap (λ (f : KindView). part_in f z) c.requires)
    ∙ ap (λ (o : Option (Bor Member)). option_map (λ (m : Bor Member). part_of_member m.now) o) c.in-Some.is in
    search (rules, part)

pub returns-in-None : goal.returns-in-None
returns-in-None c =
    let arms : List Branch = map branch_of c.args.arms.now.items in
    let other : Option Part = option_map part_of_member c.args.other.now in
    let z : ℤ = to_z w64 (of_z w64 c.number_under-signed.result.0) in
    let part : part_of arms other z ≡ None =
    sym (c.part_in.ensures ∙ ap (λ (f : KindView). part_in f z) c.requires)
    ∙ ap (λ (o : Option (Bor Member)). option_map (λ (m : Bor Member). part_of_member m.now) o) c.in-None.is in
    search (rules, part)
