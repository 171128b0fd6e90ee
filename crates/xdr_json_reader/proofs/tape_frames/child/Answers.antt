use Rattle.std.proofs.Common.{◌≡◌, ℕ, List, [], subst, arith, None, Some, map}
use Rattle.json.specs.Json.{after_end_array, read_key, value}
use Rattle.json.specs.Token.{Token}
use Rattle.xdr_json_reader.specs.Private.Begun.{Begins}
use Rattle.xdr_json_reader.specs.Tape.{json_in}
use Rattle.xdr_json_reader.specs.Private.Frames.{pair_of}
use Rattle.xdr_json_reader.proofs.Parsing.{ends_array, ends_object, no_item, no_key, no_member, goes_array}
use Rattle.xdr_json_reader.proofs.Parsing.{goes_object}
use Rattle.xdr_json_reader.proofs.tape_frames.child.Goals as goal

pub returns-then-take_end_array-clause-value : goal.returns-then-take_end_array-clause-value
returns-then-take_end_array-clause-value c =
    let taken : after_end_array c.args.reader.now ≡ Some c.take_end_array.new.self = grind arith in
    rw c.in-Array.is (ends_array c.in-Array.key.name.now (map json_in c.in-Array.items.items) c.args.reader.now
    c.take_end_array.new.self taken)

pub returns-in_default-clause-value : goal.returns-in_default-clause-value
returns-in_default-clause-value c =
    let none : read_key c.args.reader.now ≡ None = grind arith in
    rw c.in-Object.is (no_key c.in-Object.key.name.now (map pair_of c.in-Object.members.items) c.args.reader.now none)

pub returns-in_default-next-clause-value : goal.returns-in_default-next-clause-value
returns-in_default-next-clause-value c =
    let taken : read_key c.args.reader.now ≡ Some (None, c.next_key.new.self) = grind arith in
    rw c.in-Object.is (ends_object c.in-Object.key.name.now (map pair_of c.in-Object.members.items) c.args.reader.now
    c.next_key.new.self taken)

pub returns-in-Ok-clause-value : goal.returns-in-Ok-clause-value
returns-in-Ok-clause-value c =
    let kept : (after_end_array c.args.reader.now ≡ None) × (c.take_end_array.new.self ≡ c.args.reader.now) =
    grind arith in
    rw c.in-Array.is (goes_array c.in-Array.key.name.now (map json_in c.in-Array.items.items) [] c.args.reader.now
    c.begin.new.reader c.in-Ok.begun kept.0
    (subst (λ (ts : List Token). Begins [] ts c.in-Ok.begun c.begin.new.reader) kept.1 c.in-Ok.ensures.value))

pub returns-in-Err-clause-value : goal.returns-in-Err-clause-value
returns-in-Err-clause-value c =
    let kept : (after_end_array c.args.reader.now ≡ None) × (c.take_end_array.new.self ≡ c.args.reader.now) =
    grind arith in
    rw c.in-Array.is (no_item c.in-Array.key.name.now (map json_in c.in-Array.items.items) c.args.reader.now kept.0
    (subst (λ (ts : List Token). (d : ℕ) → value d ts ≡ None) kept.1 c.in-Err.ensures.value))

pub returns-in-Ok-begin-clause-value : goal.returns-in-Ok-begin-clause-value
returns-in-Ok-begin-clause-value c =
    let named : read_key c.args.reader.now ≡ Some (Some c.in-Some.name.now, c.next_key.new.self) = grind arith in
    rw c.in-Object.is (goes_object c.in-Object.key.name.now (map pair_of c.in-Object.members.items) c.in-Some.name.now
    c.args.reader.now c.next_key.new.self c.begin-in-Object.new.reader c.in-Ok-begin.begun named
    c.in-Ok-begin.ensures.value)

pub returns-in-Err-begin-clause-value : goal.returns-in-Err-begin-clause-value
returns-in-Err-begin-clause-value c =
    let named : read_key c.args.reader.now ≡ Some (Some c.in-Some.name.now, c.next_key.new.self) = grind arith in
    rw c.in-Object.is (no_member c.in-Object.key.name.now (map pair_of c.in-Object.members.items) c.in-Some.name.now
    c.args.reader.now c.next_key.new.self named c.in-Err-begin.ensures.value)
