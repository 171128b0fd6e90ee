use Rattle.std.proofs.Common.{◌≡◌, ◌<◌, [], map, length, get_or, true, sym, ap, ◌∙◌, arith, string_bytes}
use Rattle.std.proofs.lemmas.Bool.{not-false}
use Rattle.std.proofs.lemmas.List.{get_or-map, length-map, take_more_same}
use Rattle.std.proofs.lemmas.Slice.Eq.{bytes_eq-Decides}
use Rattle.std.specs.Str.{bytes_eq}
use Rattle.xdr_types.specs.Kinds.{Part}
use Rattle.xdr_types.specs.KindViews.{part_of_member}
use Rattle.xdr_json_reader.specs.Private.Fields.{keys, names}
use Rattle.xdr_json_reader.specs.declared.tape.Key.{Key}
use Rattle.xdr_json_reader.specs.declared.tape.Node.{Node}
use Rattle.xdr_json_reader.proofs.reading_group.are_in_order.Goals as goal

pub loop-i-preserved : goal.loop-i-preserved
loop-i-preserved c =
    let ms = c.args.members.now.items in
    let fs = c.args.fields.now.items in
    let i = c.loop-i.i in
    let m = c.member-item.result in
    let f = c.index.result.now in
    let value = c.deref-member-items.ensures.value in
    let within : c.loop-i.i < length c.args.members.now.items = omega (arith, c.loop-i-test.true, ap length value) in
    let inside : c.loop-i.i < length c.args.fields.now.items = omega (arith, within, c.requires) in
    let is : m ≡ get_or c.args.members.now.items i m = c.member-item.is ∙ ap (λ l. get_or l i m) value in
    let same : bytes_eq m.0.name.now c.as_str.result.now ≡ true =
    not-false (bytes_eq m.0.name.now c.as_str.result.now) (sym c.ne.ensures ∙ c.if-ne.false) in
    let named : m.0.name.now ≡ string_bytes f.name =
    (bytes_eq-Decides m.0.name.now c.as_str.result.now).0 same ∙ c.as_str.ensures.value in
    let key = get_or-map (λ (k : Key × Node). k.0.name.now) ms i m [] within
    ∙ ap (λ (k : Key × Node). k.0.name.now) (sym is) in
    let part = get_or-map part_of_member fs i f (part_of_member f) inside ∙ ap part_of_member (sym c.index.ensures) in
    let name = get_or-map (λ (p : Part). p.name) (map part_of_member fs) i (part_of_member f) []
    (omega (arith, inside, length-map fs part_of_member)) ∙ ap (λ (p : Part). p.name) part in
    take_more_same (keys ms) (names (map part_of_member fs)) i []
    (omega (arith, within, length-map ms (λ (k : Key × Node). k.0.name.now)))
    (omega (arith, inside, length-map fs part_of_member, length-map (map part_of_member fs) (λ (p : Part). p.name)))
    c.loop-i.invariant (key ∙ named ∙ sym name)
