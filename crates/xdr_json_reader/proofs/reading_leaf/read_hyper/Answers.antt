use Rattle.std.proofs.Common.{◌≡◌, ◌++◌, ◌^◌, ℤ, ap, sym, ◌∙◌, rules, w64, to_z, of_z}
use Rattle.xdr_types.specs.Fits.{is_signed}
use Rattle.xdr_units.specs.Numbers.{num8}
use Rattle.xdr_json_reader.specs.Private.Look.{seen}
use Rattle.xdr_json_reader.proofs.Leaves.{took_hyper}
use Rattle.xdr_json_reader.proofs.reading_leaf.read_hyper.Goals as goal

pub returns-in-Ok-put_hyper : goal.returns-in-Ok-put_hyper
returns-in-Ok-put_hyper c =
    let same : to_z w64 (of_z w64 c.in-Ok.number) ≡ c.in-Ok.number = search rules in
    took_hyper (seen c.args.json) c.in-Ok.number c.args.out.now.items c.put_hyper.new.out.items
    (ap (is_signed (2 ^ 63)) (sym same) ∙ c.every_i64_is_hyper.ensures) c.in-Ok.ensures.found
    (c.in-Ok-put_hyper.ensures ∙ ap (λ (z : ℤ). c.args.out.now.items ++ num8 z) same)
