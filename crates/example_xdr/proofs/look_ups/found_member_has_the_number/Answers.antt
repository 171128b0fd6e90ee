use Rattle.std.proofs.Common.{◌∙◌, ap}
use Rattle.xdr_types.specs.Kinds.{kind_at}
use Rattle.xdr_types.specs.KindViews.{constant_of}
use Rattle.xdr_types.specs.Fits.{member_in}
use Rattle.example_xdr.proofs.LookUps.{word_of, has_number, found}
use Rattle.example_xdr.proofs.look_ups.found_member_has_the_number.Goals as goal

pub returns : goal.returns
returns c =
    let kind = kind_at c.args.schema.now.kinds c.args.id.place in
    let is = c.member_in.ensures ∙ ap (member_in kind) (word_of c.args.number c.ranges.number) in
    found (λ m. constant_of m.now) c.member_in.result (member_in kind c.args.number) c.args.number is
    (has_number kind c.args.number)
