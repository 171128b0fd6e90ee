-- Numbers that are put at once, or none.
use Rattle.std.proofs.Common.{◌≡◌, ◌≤◌, ◌++◌, ℕ, ℤ, List, length, take, arith}
use Rattle.std.proofs.lemmas.List.{length-take-le}
use Rattle.xdr_writer.specs.Items.{ItemView}
use Rattle.xdr_writer.specs.Runs.{as_items}
use Rattle.xdr_filling.specs.Filled.{HasFilled, units}
use Rattle.c_values.specs.Private.Encodings.{bytes_in, FillsMore}
use Rattle.c_values.proofs.Filling.{none_fill, numbers_fill, told_front, all_ok}
use Rattle.c_values.proofs.straight.put_numbers.Goals as goal

pub returns-then-numbers_due-lt2-clause-filled : goal.returns-then-numbers_due-lt2-clause-filled
returns-then-numbers_due-lt2-clause-filled c = λ content.
    none_fill c.args.filling.now content c.args.items.now (bytes_in c.args.encoding.now)

pub returns-clause-filled : goal.returns-clause-filled
returns-clause-filled c =
    let cs = c.args.items.now in
    let most : ℕ = c.copy_numbers-count.result in
    let all : List ℤ = c.copy_numbers-count.new.numbers in
    let zs : List ℤ = take most all in
    let count : length zs ≡ most = length-take-le most all c.copy_numbers-count.ensures.room in
    let f = c.args.filling.now in
    let g = c.put_numbers.new.filling in
    let old : List ℕ = bytes_in c.args.encoding.now in
    let new : List ℕ = bytes_in c.put_numbers.new.self in
    all_ok c.put_numbers.result (λ (n : ℕ). n ≤ length zs) (λ (n : ℕ). new ≡ old ++ units (take n zs))
    (λ (n : ℕ). (place depth : ℕ) (is : List ItemView) (bytes : List ℕ) → HasFilled f place depth is bytes
    → HasFilled g place depth (is ++ as_items (take n zs)) (bytes ++ units (take n zs)))
    (λ (n : ℕ). (content : List ℕ) → FillsMore f g content (take n cs) old new)
    (λ n few bytes fills content.
    numbers_fill f g content (take n cs) (take n zs) old new
    (told_front content n most cs all (omega (arith, few, count)) (c.copy_numbers-count.ensures.told content))
    bytes fills)
    c.put_numbers.ensures.few c.put_numbers.ensures.bytes c.put_numbers.ensures.filled
