use Rattle.std.proofs.Common.{◌≡◌, ◌<◌, ◌∷◌, ◌+◌, ℤ, true, map, drop, length, sym, ◌∙◌}
use Rattle.std.proofs.Common.{ap, subst, arith, rules, string_bytes, get_or}
use Rattle.std.proofs.Common.{w32, to_z, of_z}
use Rattle.std.proofs.lemmas.List.{drop_more}
use Rattle.std.specs.Str.{bytes_eq}
use Rattle.xdr_types.specs.KindViews.{constant_of}
use Rattle.xdr_types.specs.Fits.{is_constant}
use Rattle.xdr_json.specs.Spelled.{is_name}
use Rattle.xdr_json_reader.proofs.Looks.{named_constant, names_first}
use Rattle.xdr_json_reader.proofs.reading_tag.number_listed.Goals as goal

pub returns-then-eq : goal.returns-then-eq
returns-then-eq c =
    let ms = c.args.members.now.items in
    let s = c.args.name.now in
    let i = c.loop-member.member-index in
    let m = c.member-item.result in
    let same : to_z w32 (of_z w32 c.member-item.result.1) ≡ c.member-item.result.1 = search rules in
    let value = c.deref-member-items.ensures.value in
    let within : c.loop-member.member-index < length c.args.members.now.items =
    omega (arith, c.loop-member-test.true, ap length value) in
    let is : m ≡ get_or c.args.members.now.items i m = c.member-item.is ∙ ap (λ l. get_or l i m) value in
    let left = drop_more ms i m within ∙ ap (λ x. x ∷ drop (i + 1) ms) (sym is) in
    let eq : bytes_eq (string_bytes c.member-item.result.0) c.args.name.now ≡ true =
    ap (λ t. bytes_eq t s) (sym c.as_str.ensures.value) ∙ sym c.eq.ensures ∙ c.if-eq.true in
    let named : is_name (map constant_of c.args.members.now.items) c.member-item.result.1 c.args.name.now ≡ true =
    c.loop-member.invariant m.1 ∙ ap (λ l. is_name (map constant_of l) m.1 s) left
    ∙ names_first (constant_of m) (map constant_of (drop (i + 1) ms)) s eq in
    subst (λ (z : ℤ). (is_name (map constant_of c.args.members.now.items) z c.args.name.now ≡ true)
    × (is_constant (map constant_of c.args.members.now.items) z ≡ true)) (sym same)
    (named, named_constant (map constant_of ms) m.1 s named)
