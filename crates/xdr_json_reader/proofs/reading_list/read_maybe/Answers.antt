use Rattle.std.proofs.Common.{◌≡◌, [], ◌∷◌, true, false, sym, inr, ap, ◌∙◌, subst, arith, map, length}
use Rattle.std.proofs.lemmas.List.{length-map}
use Rattle.json.specs.Json as json
use Rattle.json.specs.Json.{Json}
use Rattle.json.specs.Value.{items_of}
use Rattle.xdr_types.specs.Kinds.{kind_at, maybe}
use Rattle.xdr_json.specs.Spelled.{is_null, is_list}
use Rattle.xdr_json_reader.specs.Tape.{json_in}
use Rattle.xdr_json_reader.specs.Private.Entries.{dues}
use Rattle.xdr_json_reader.specs.Private.Groups.{is_maybe, ReadAmong}
use Rattle.xdr_json_reader.specs.Private.Look.{seen}
use Rattle.xdr_json_reader.specs.Reasons.{Wrong, list_reason}
use Rattle.xdr_json_reader.specs.declared.fault.JsonReason.TheVariants.{WrongLength, WrongType}
use Rattle.xdr_json_reader.proofs.Groups.{took_absent, put_plain, put_inside, bad_brackets, bad_form_maybe}
use Rattle.xdr_json_reader.proofs.Looks.{some_form, one_item, no_array, list_form}
use Rattle.xdr_json_reader.proofs.reading_list.read_maybe.Goals as goal

pub returns-in-Ok : goal.returns-in-Ok
returns-in-Ok c =
    let none : is_null (json_in c.args.node.now) ≡ true =
    ap is_null (sym c.look.ensures ∙ ap seen c.in-Null.is) in
    took_absent c.args.schema.now.kinds c.args.item.place (json_in c.args.node.now) c.args.out.now.items
    c.put_unsigned.new.out.items (dues c.args.due.now.items) none c.in-Ok.ensures

pub returns-then-not-is_optional : goal.returns-then-not-is_optional
returns-then-not-is_optional c =
    let plain : is_maybe (kind_at c.args.schema.now.kinds c.args.item.place) ≡ false = grind arith in
    let some : is_null (json_in c.args.node.now) ≡ false =
    ap is_null (sym c.look.ensures ∙ ap seen c.in-Array.is) in
    put_plain c.args.schema.now.kinds c.args.item.place (json_in c.args.node.now) c.args.out.now.items _
    (dues c.args.due.now.items) _ c.put_present.result plain some c.put_present.ensures

pub returns-in-len1 : goal.returns-in-len1
returns-in-len1 c =
    let ns = c.in-Array.items.now.items in
    let bracketed : is_maybe (kind_at c.args.schema.now.kinds c.args.item.place) ≡ true = grind arith in
    let one : map json_in c.in-Array.items.now.items ≡ json_in c.inside-item.result ∷ [] =
    ap (map json_in) (sym c.as_slice.ensures.value)
    ∙ one_item c.as_slice.result.now c.inside-item.result c.in-len1.len_at_least c.in-len1.len_below
    c.inside-item.is in
    let is : json.array (items_of (map json_in c.in-Array.items.now.items)) ≡ json_in c.args.node.now =
    sym (ap seen c.in-Array.is) ∙ c.look.ensures in
    subst (λ (j : Json). ReadAmong c.args.schema.now.kinds (maybe c.args.item.place) j c.args.out.now.items
    c.put_present-in-len1.new.out.items (dues c.args.due.now.items) (dues c.put_present-in-len1.new.due.items)
    c.put_present-in-len1.result) is
    (put_inside c.args.schema.now.kinds c.args.item.place (json_in c.inside-item.result)
    (map json_in c.in-Array.items.now.items) c.args.out.now.items _ (dues c.args.due.now.items) _
    c.put_present-in-len1.result bracketed one c.put_present-in-len1.ensures)

pub returns-in_default-as_slice-2 : goal.returns-in_default-as_slice-2
returns-in_default-as_slice-2 c =
    let ns = c.in-Array.items.now.items in
    let bracketed : is_maybe (kind_at c.args.schema.now.kinds c.args.item.place) ≡ true = grind arith in
    let is : json.array (items_of (map json_in c.in-Array.items.now.items)) ≡ json_in c.args.node.now =
    sym (ap seen c.in-Array.is) ∙ c.look.ensures in
    let long = c.in_default-as_slice.len_at_least in
    let same = ap length c.as_slice.ensures.value in
    let all = length-map c.in-Array.items.now.items json_in in
    inr (subst (λ (j : Json). Wrong c.args.schema.now.kinds (maybe c.args.item.place) j WrongLength) is
    (bad_brackets c.args.schema.now.kinds c.args.item.place (map json_in c.in-Array.items.now.items) bracketed
    (λ e. omega (arith, long, same, all, e))))

pub returns-then-is_optional : goal.returns-then-is_optional
returns-then-is_optional c =
    let bracketed : is_maybe (kind_at c.args.schema.now.kinds c.args.item.place) ≡ true = grind arith in
    let some : is_null (json_in c.args.node.now) ≡ false =
    ap is_null (sym c.look.ensures) ∙ some_form c.look.result c.in_default.not-Null in
    let form : WrongType ≡ list_reason (json_in c.args.node.now) =
    list_form c.look.result c.in_default.not-Array ∙ ap list_reason c.look.ensures in
    inr (bad_form_maybe c.args.schema.now.kinds c.args.item.place (json_in c.args.node.now) bracketed
    (λ n h. no_array c.look.result n c.in_default.not-Array (ap (is_list n) c.look.ensures ∙ h)) some form)

pub returns-else-is_optional : goal.returns-else-is_optional
returns-else-is_optional c =
    let plain : is_maybe (kind_at c.args.schema.now.kinds c.args.item.place) ≡ false = grind arith in
    let some : is_null (json_in c.args.node.now) ≡ false =
    ap is_null (sym c.look.ensures) ∙ some_form c.look.result c.in_default.not-Null in
    put_plain c.args.schema.now.kinds c.args.item.place (json_in c.args.node.now) c.args.out.now.items _
    (dues c.args.due.now.items) _ c.put_present-in_default.result plain some c.put_present-in_default.ensures
