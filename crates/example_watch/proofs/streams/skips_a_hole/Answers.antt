use Rattle.std.proofs.Common.{List, [], ◌∷◌, codes, refl, sym, ◌≡◌, ◌∙◌, is_err, false}
use Rattle.capture_streams.specs.Segments.{Arrival, IsRun, given}
use Rattle.example_watch.proofs.Taken.{started, taken, handed_on, where_ok, came}
use Rattle.example_watch.proofs.Hole.{two, skipped}
use Rattle.example_watch.proofs.streams.skips_a_hole.Goals as goal

pub returns : goal.returns
returns c =
    let one = c.one_stream.ensures.one in
    let whole = c.handed_is_the_stream.ensures.whole in
    let d = c.start-direction in
    let a : List Arrival = came 0 1000 (codes "abc") ∷ [] in
    let first : IsRun (given 1000 a) 0 (codes "abc") = record { front = (refl, (refl, (refl, tt))); ends = refl } in
    let same : IsRun (given 1000 two) 0 (codes "abc") = record { front = (refl, (refl, (refl, tt))); ends = refl } in
    let behind : IsRun (given 1000 two) 5 (codes "fg") = record { front = (refl, (refl, tt)); ends = refl } in
    let s = started d.result 1000 c.new-out.result.items d.ensures.first d.ensures.stands c.new-out.ensures.items in
    let t = taken one whole d.result c.take.new.self 1000 [] 0 0 [] [] (codes "abc") 1000 (codes "abc")
    c.new-out.result.items c.take.new.out.items s refl c.in_ok-take.ensures.same c.in_ok-take.ensures.takes
    c.in_ok-take.ensures.whole first in
    let u = taken one whole c.take.new.self c.take-2.new.self 1000 a 0 3 (codes "abc") [] (codes "abc") 1005
    (codes "fg") c.take.new.out.items c.take-2.new.out.items t refl c.in_ok-take-2.ensures.same
    c.in_ok-take-2.ensures.takes c.in_ok-take-2.ensures.whole same in
    let skip = c.skip_hole-missing in
    let k = skipped c.take-2.new.self skip.new.self c.take-2.new.out.items skip.result u skip.ensures.same
    skip.ensures.skips in
    let ok : is_err c.hand_on.result ≡ false = sym c.is_err.ensures.value ∙ c.if-is_err.false in
    let v = handed_on one whole skip.new.self c.hand_on.new.self 1000 two 5 [] (codes "abc") (codes "fg")
    c.take-2.new.out.items c.hand_on.new.out.items k.1 c.hand_on.ensures.same c.hand_on.ensures.hands
    (where_ok c.hand_on.result ok c.hand_on.ensures.whole) behind in
    (k.0, v.out)
