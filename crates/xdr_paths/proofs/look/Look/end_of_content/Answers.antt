use Rattle.std.proofs.Common.{refl, arith}
use Rattle.xdr_types.specs.Kinds.{kind_at}
use Rattle.xdr_paths.proofs.Endings.{length_there, counted_end, bytes_there}
use Rattle.xdr_paths.proofs.look.Look.end_of_content.Goals as goal

pub unit_at-size-requires : goal.unit_at-size-requires
unit_at-size-requires c =
    let kinds = c.args.self.now.schema.now.kinds in
    length_there kinds c.args.self.now.limits c.args.self.now.bytes.now c.args.kind.place c.args.at
    c.requires.stands.0 c.requires.stands.1 (kind_at kinds c.args.kind.place) refl c.requires.counted

pub overflow_add-result : goal.overflow_add-result
overflow_add-result c =
    let kinds = c.args.self.now.schema.now.kinds in
    let limits = c.args.self.now.limits in
    let bytes = c.args.self.now.bytes.now in
    let n = c.requires.stands.0 in
    let long = counted_end kinds limits bytes c.args.kind.place c.args.at n c.requires.stands.1
    (kind_at kinds c.args.kind.place) refl c.unit_at-size.result c.requires.counted c.unit_at-size.type_inv
    c.unit_at-size.ensures in
    let there = bytes_there kinds limits bytes c.args.kind.place c.args.at n c.requires.stands.1 in
    omega (arith, long, there, c.whole_units.ensures)

pub returns : goal.returns
returns c =
    λ n s.
    let kinds = c.args.self.now.schema.now.kinds in
    let long = counted_end kinds c.args.self.now.limits c.args.self.now.bytes.now c.args.kind.place c.args.at n s
    (kind_at kinds c.args.kind.place) refl c.unit_at-size.result c.requires.counted c.unit_at-size.type_inv
    c.unit_at-size.ensures in
    omega (arith, long, c.whole_units.ensures)
