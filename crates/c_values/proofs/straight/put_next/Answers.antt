-- The first item, where no numbers are put at once.
use Rattle.std.proofs.Common.{◌≡◌, ◌++◌, ◌∷◌, ℕ, List, [], take, subst, arith}
use Rattle.xdr_writer.specs.Items.{ItemView, item_view}
use Rattle.xdr_filling.specs.Filled.{HasFilled, spelled_bytes}
use Rattle.c_values.specs.Private.Encodings.{bytes_in, FillsMore}
use Rattle.c_values.proofs.Filling.{fill_then, item_fills}
use Rattle.c_values.proofs.straight.put_next.Goals as goal

pub returns-in_ok-put-in-Some-clause-filled : goal.returns-in_ok-put-in-Some-clause-filled
returns-in_ok-put-in-Some-clause-filled c = λ one.
    let cs = c.args.items.now in
    let content : List ℕ = c.args.content.now in
    let a = c.args.filling.now in
    let b = c.put_numbers.new.filling in
    let d = c.take.new.self in
    let old : List ℕ = bytes_in c.args.encoding.now in
    let mid : List ℕ = bytes_in c.put_numbers.new.encoding in
    let new : List ℕ = bytes_in c.put.new.self in
    let more : List ℕ = spelled_bytes c.in-Some.spelled in
    let i : ItemView = item_view c.in-Ok.told in
    let none : c.in_ok-count.count ≡ 0 = omega arith in
    let before : FillsMore a b content (take 0 cs) old mid =
    subst (λ (n : ℕ). FillsMore a b content (take n cs) old mid) none (c.in_ok-count.ensures.filled content) in
    let fills : (place depth : ℕ) (is : List ItemView) (bytes : List ℕ) → HasFilled b place depth is bytes
    → HasFilled d place depth (is ++ i ∷ []) (bytes ++ more) = rw c.in-Some.is at c.in_ok-spelled.ensures.filled in
    fill_then a b d content (take 0 cs) (take 1 cs) old mid new before
    (item_fills b d content cs _ i more mid new c.requires c.in-Ok.ensures.told c.in_ok-put-in-Some.ensures fills)
