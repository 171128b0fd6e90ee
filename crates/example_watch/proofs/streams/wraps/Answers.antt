use Rattle.std.proofs.Common.{List, [], ◌∷◌, codes, refl}
use Rattle.capture_streams.specs.Segments.{Arrival, IsRun, given}
use Rattle.example_watch.proofs.Taken.{started, taken, came}
use Rattle.example_watch.proofs.streams.wraps.Goals as goal

pub returns : goal.returns
returns c =
    let one = c.one_stream.ensures.one in
    let whole = c.handed_is_the_stream.ensures.whole in
    let d = c.start-direction in
    let a : List Arrival = came 0 4294967294 (codes "ab") ∷ [] in
    let b : List Arrival = came 0 4294967294 (codes "ab") ∷ came 2 0 (codes "cd") ∷ [] in
    let first : IsRun (given 4294967294 a) 0 (codes "ab") = record { front = (refl, (refl, tt)); ends = refl } in
    let all : IsRun (given 4294967294 b) 0 (codes "abcd") =
    record { front = (refl, (refl, (refl, (refl, tt)))); ends = refl } in
    let s = started d.result 4294967294 c.new-out.result.items d.ensures.first d.ensures.stands
    c.new-out.ensures.items in
    let t = taken one whole d.result c.take.new.self 4294967294 [] 0 0 [] [] (codes "ab") 4294967294 (codes "ab")
    c.new-out.result.items c.take.new.out.items s refl c.in_ok-take.ensures.same c.in_ok-take.ensures.takes
    c.in_ok-take.ensures.whole first in
    let u = taken one whole c.take.new.self c.take-2.new.self 4294967294 a 0 2 (codes "ab") [] (codes "abcd") 0
    (codes "cd") c.take.new.out.items c.take-2.new.out.items t refl c.in_ok-take-2.ensures.same
    c.in_ok-take-2.ensures.takes c.in_ok-take-2.ensures.whole all in
    u.out
