use Rattle.std.proofs.Common.{◌≡◌, ◌++◌, ℕ, map, replicate, inr, sym, ap, ◌∙◌, subst, arith}
use Rattle.std.proofs.lemmas.List.{length-map}
use Rattle.json.specs.Json as json
use Rattle.json.specs.Json.{Json}
use Rattle.json.specs.Value.{items_of}
use Rattle.xdr_types.specs.Kinds.{fixed}
use Rattle.xdr_types.specs.Fits.{item_part}
use Rattle.xdr_json_reader.specs.Tape.{json_in}
use Rattle.xdr_json_reader.specs.Private.Entries.{dues}
use Rattle.xdr_json_reader.specs.Private.Look.{seen}
use Rattle.xdr_json_reader.specs.Nodes.{each}
use Rattle.xdr_json_reader.specs.Reasons.{Wrong}
use Rattle.xdr_json_reader.specs.declared.fault.JsonReason.TheVariants.{WrongLength}
use Rattle.xdr_json_reader.specs.Private.Pending.{Took}
use Rattle.xdr_json_reader.proofs.Groups.{took_fixed, bad_fixed, bad_form_fixed}
use Rattle.xdr_json_reader.proofs.Looks.{no_array, list_form}
use Rattle.xdr_json_reader.proofs.reading_list.read_fixed.Goals as goal

pub returns-in-Ok : goal.returns-in-Ok
returns-in-Ok c = λ kinds.
    let ns = c.in-Array.items.now.items in
    let js = map json_in c.in-Array.items.now.items in
    let old = dues c.args.due.now.items in
    let many = length-map c.in-Array.items.now.items json_in in
    let is : json.array (items_of (map json_in c.in-Array.items.now.items)) ≡ seen c.args.json =
    sym (ap seen c.in-Array.is) in
    subst (λ (j : Json). Took kinds (fixed c.args.item.place c.args.size) j c.args.out.now.items c.args.out.now.items
    (dues c.args.due.now.items) (dues c.push_items.new.due.items)) is
    (took_fixed c.args.item.place c.args.size js c.args.out.now.items old (dues c.push_items.new.due.items)
    (omega (arith, many))
    (c.in-Ok.ensures ∙ ap (λ (n : ℕ). each (replicate n (item_part c.args.item.place)) js ++ old) (sym many)) kinds)

pub returns-in_default : goal.returns-in_default
returns-in_default c =
    inr (bad_form_fixed c.args.item.place c.args.size (seen c.args.json)
    (λ n. no_array c.args.json n c.in_default.not-Array) (list_form c.args.json c.in_default.not-Array))

pub returns-then-len-size : goal.returns-then-len-size
returns-then-len-size c =
    let js = map json_in c.in-Array.items.now.items in
    let many = length-map c.in-Array.items.now.items json_in in
    let is : json.array (items_of (map json_in c.in-Array.items.now.items)) ≡ seen c.args.json =
    sym (ap seen c.in-Array.is) in
    inr (λ kinds.
    subst (λ (j : Json). Wrong kinds (fixed c.args.item.place c.args.size) j WrongLength) is
    (bad_fixed c.args.item.place c.args.size js (λ e. c.if-len-size.true (omega (arith, many, e))) kinds))
