use Rattle.std.proofs.Common.{map, sym, ap, ◌∙◌, subst, refl}
use Rattle.json.specs.Json.{Json, object}
use Rattle.xdr_types.specs.Kinds.{KindView, kind_at}
use Rattle.xdr_types.specs.KindViews.{kind_view, part_of_member}
use Rattle.xdr_json_reader.specs.Tape.{members_of}
use Rattle.xdr_json_reader.specs.Reasons.{Wants, arm_parts}
use Rattle.xdr_json_reader.specs.Private.Look.{pairs}
use Rattle.xdr_json_reader.specs.Private.Wanted.{MayBeFieldTable, fields_of}
use Rattle.xdr_json_reader.proofs.first_wanted.wanted_of.Goals as goal

pub returns-in-Structure : goal.returns-in-Structure
returns-in-Structure c =
    let kinds = c.args.schema.now.kinds in
    let place = c.args.turn.next.kind.place in
    let ps = map part_of_member c.in-Structure.fields.items in
    let ms = members_of (pairs c.args.members.now.items) in
    let is = sym c.kind.ensures ∙ ap kind_view c.in-Structure.is in (
      ps,
      (
        refl,
        subst (λ (f : KindView). MayBeFieldTable (fields_of f) c.fields_for-places.result) is
            (c.fields_for-places.ensures kinds c.requires.tables),
      ),
      subst (λ (j : Json). Wants kinds (kind_at kinds place) j ps) (sym c.requires.is)
          (subst (λ (f : KindView). Wants kinds f (object ms) ps) (sym is) refl),
    )

pub returns-in-Ok : goal.returns-in-Ok
returns-in-Ok c =
    let kinds = c.args.schema.now.kinds in
    let place = c.args.turn.next.kind.place in
    let p = part_of_member c.in-Ok.arm.now in
    let ps = arm_parts kinds c.in-Choice.tag.place p in
    let ms = members_of (pairs c.args.members.now.items) in
    let is = sym c.kind.ensures ∙ ap kind_view c.in-Choice.is in
    let t = c.in-Ok.ensures in (
      ps,
      c.with_arm.ensures,
      subst (λ (j : Json). Wants kinds (kind_at kinds place) j ps) (sym c.requires.is)
          (subst (λ (f : KindView). Wants kinds f (object ms) ps) (sym is) (
            p,
            record {
              named = t.named;
              number = c.in-Ok.field-0-0;
              tells = record { legal = t.legal; shown = t.shown };
              is = t.is;
            },
            refl,
          )),
    )
