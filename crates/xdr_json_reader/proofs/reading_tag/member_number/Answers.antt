use Rattle.std.proofs.Common.{◌≡◌, false, map, arith}
use Rattle.std.proofs.lemmas.Int.{to_z-of_z}
use Rattle.xdr_types.specs.KindViews.{constant_of}
use Rattle.xdr_types.specs.Fits.{is_numbered}
use Rattle.xdr_json_reader.proofs.Looks.{not_member}
use Rattle.xdr_json_reader.proofs.reading_tag.member_number.Goals as goal

pub returns-else-is_number_of-clause-none : goal.returns-else-is_number_of-clause-none
returns-else-is_number_of-clause-none c = λ z h k.
    let none : is_numbered (map constant_of c.args.members.now.items) c.in-Ok.number ≡ false =
    grind (arith, to_z-of_z, c.is_number_of.ensures, c.from.ensures) in
    not_member (map constant_of c.args.members.now.items) c.in-Number.field-0.now c.in-Ok.number z
    (rw c.in-Number.is at c.in-Ok.ensures.found) c.in-Ok.ensures.legal none h (rw c.in-Number.is at k)
