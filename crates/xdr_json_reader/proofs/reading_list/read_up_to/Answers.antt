use Rattle.std.proofs.Common.{◌≡◌, ◌++◌, ◌^◌, ◌<◌, ◌≤◌, ℕ, map, length, replicate, inr, pos, sym, ap, ◌∙◌}
use Rattle.std.proofs.Common.{subst, arith, le-leb, lt-ltb}
use Rattle.std.specs.Prelude.{nat_le, nat_lt}
use Rattle.std.proofs.lemmas.Bool.{and_from, and_parts as both, leb-true}
use Rattle.std.proofs.lemmas.List.{length-map}
use Rattle.json.specs.Json as json
use Rattle.json.specs.Json.{Json}
use Rattle.json.specs.Value.{items_of}
use Rattle.xdr_types.specs.Kinds.{up_to}
use Rattle.xdr_types.specs.Fits.{item_part}
use Rattle.xdr_units.specs.Numbers.{num4}
use Rattle.xdr_json_reader.specs.Tape.{json_in}
use Rattle.xdr_json_reader.specs.Private.Entries.{dues}
use Rattle.xdr_json_reader.specs.Private.Look.{seen}
use Rattle.xdr_json_reader.specs.Nodes.{each}
use Rattle.xdr_json_reader.specs.Reasons.{Wrong}
use Rattle.xdr_json_reader.specs.declared.fault.JsonReason.TheVariants.{WrongLength}
use Rattle.xdr_json_reader.specs.Private.Pending.{Took}
use Rattle.xdr_json_reader.proofs.Groups.{took_up_to, bad_up_to, bad_form_up_to}
use Rattle.xdr_json_reader.proofs.Looks.{no_array, list_form}
use Rattle.xdr_json_reader.proofs.reading_list.read_up_to.Goals as goal

pub returns-in-Ok-push_items : goal.returns-in-Ok-push_items
returns-in-Ok-push_items c = λ kinds.
    let js = map json_in c.in-Array.items.now.items in
    let out = c.args.out.now.items in
    let old = dues c.args.due.now.items in
    let many = length-map c.in-Array.items.now.items json_in in
    let short : length (map json_in c.in-Array.items.now.items) ≤ c.args.max = omega (arith, many) in
    let low : length (map json_in c.in-Array.items.now.items) < 2 ^ 32 = omega (arith, many) in
    let long = and_from (nat_le (length js) c.args.max) (nat_lt (length js) (2 ^ 32))
    (le-leb (length js) c.args.max short) (lt-ltb (length js) (2 ^ 32) low) in
    let is : json.array (items_of (map json_in c.in-Array.items.now.items)) ≡ seen c.args.json =
    sym (ap seen c.in-Array.is) in
    let count : c.len-in-Array.result ≡ length (map json_in c.in-Array.items.now.items) = omega (arith, many) in
    subst (λ (j : Json). Took kinds (up_to c.args.item.place c.args.max) j c.args.out.now.items
    c.put_unsigned.new.out.items (dues c.args.due.now.items) (dues c.push_items.new.due.items)) is
    (took_up_to c.args.item.place c.args.max js out c.put_unsigned.new.out.items old
    (dues c.push_items.new.due.items) long (c.in-Ok.ensures ∙ ap (λ (n : ℕ). out ++ num4 (pos n)) count)
    (c.in-Ok-push_items.ensures
    ∙ ap (λ (n : ℕ). each (replicate n (item_part c.args.item.place)) js ++ old) (sym many)) kinds)

pub returns-then-len-max : goal.returns-then-len-max
returns-then-len-max c =
    let js = map json_in c.in-Array.items.now.items in
    let many = length-map c.in-Array.items.now.items json_in in
    let is : json.array (items_of (map json_in c.in-Array.items.now.items)) ≡ seen c.args.json =
    sym (ap seen c.in-Array.is) in
    inr (λ kinds.
    subst (λ (j : Json). Wrong kinds (up_to c.args.item.place c.args.max) j WrongLength) is
    (bad_up_to c.args.item.place c.args.max js
    (λ h.
    let few = leb-true (length js) c.args.max (both (nat_le (length js) c.args.max) (nat_lt (length js) (2 ^ 32)) h).0
    in
    omega (arith, many, few, c.if-len-max.true)) kinds))

pub returns-in_default : goal.returns-in_default
returns-in_default c =
    inr (bad_form_up_to c.args.item.place c.args.max (seen c.args.json)
    (λ n. no_array c.args.json n c.in_default.not-Array) (list_form c.args.json c.in_default.not-Array))
