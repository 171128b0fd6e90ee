use Rattle.std.proofs.Common.{◌≡◌, ◌++◌, ℤ, map, ap, ◌∙◌, rules, w32, to_z, of_z}
use Rattle.xdr_types.specs.KindViews.{constant_of}
use Rattle.xdr_units.specs.Numbers.{num4}
use Rattle.xdr_json_reader.specs.Private.Look.{seen}
use Rattle.xdr_json_reader.proofs.Leaves.{took_numbered}
use Rattle.xdr_json_reader.proofs.reading_tag.read_numbered.Goals as goal

pub returns-in-Ok-put_int : goal.returns-in-Ok-put_int
returns-in-Ok-put_int c =
    let same : to_z w32 (of_z w32 c.in-Ok.number) ≡ c.in-Ok.number = search rules in
    took_numbered (map constant_of c.args.members.now.items) (seen c.args.json) c.in-Ok.number c.args.out.now.items
    c.put_int.new.out.items c.in-Ok.ensures.legal c.in-Ok.ensures.found
    (c.in-Ok-put_int.ensures ∙ ap (λ (z : ℤ). c.args.out.now.items ++ num4 z) same)
