use Rattle.std.proofs.Common.{◌≡◌, ◌^◌, sym, ap, ◌∙◌, rules, w64, to_z, of_z}
use Rattle.xdr_types.specs.Fits.{is_signed}
use Rattle.xdr_json_reader.specs.Private.Look.{seen}
use Rattle.xdr_json_reader.proofs.Looks.{not_narrow, not_read}
use Rattle.xdr_json_reader.proofs.reading_number.int_number.Goals as goal

pub returns-in-None-clause-none : goal.returns-in-None-clause-none
returns-in-None-clause-none c =
    let same : to_z w64 (of_z w64 c.in-Ok.number) ≡ c.in-Ok.number = search rules in
    not_narrow c.hyper_number.result (seen c.args.json) c.in-Ok.number c.hyper_number.ensures.only c.in-Ok.is
    (ap (is_signed (2 ^ 31)) (sym same) ∙ c.in-None.ensures)

pub returns-in-Err-clause-none : goal.returns-in-Err-clause-none
returns-in-Err-clause-none c =
    not_read c.hyper_number.result (seen c.args.json) c.in-Err.why c.hyper_number.ensures.only c.in-Err.is
