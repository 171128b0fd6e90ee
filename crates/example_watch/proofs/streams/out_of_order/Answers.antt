use Rattle.std.proofs.Common.{List, [], ◌∷◌, codes, refl}
use Rattle.capture_streams.specs.Segments.{Arrival, IsRun, given}
use Rattle.example_watch.proofs.Taken.{started, taken, came}
use Rattle.example_watch.proofs.streams.out_of_order.Goals as goal

pub returns : goal.returns
returns c =
    let one = c.one_stream.ensures.one in
    let whole = c.handed_is_the_stream.ensures.whole in
    let d = c.start-direction in
    let a : List Arrival = came 0 1003 (codes "def") ∷ [] in
    let b : List Arrival = came 0 1003 (codes "def") ∷ came 0 1000 (codes "abc") ∷ [] in
    let first : IsRun (given 1000 a) 0 [] = record { front = tt; ends = refl } in
    let all : IsRun (given 1000 b) 0 (codes "abcdef") =
    record { front = (refl, (refl, (refl, (refl, (refl, (refl, tt)))))); ends = refl } in
    let s = started d.result 1000 c.new-out.result.items d.ensures.first d.ensures.stands c.new-out.ensures.items in
    let t = taken one whole d.result c.take.new.self 1000 [] 0 0 [] [] [] 1003 (codes "def")
    c.new-out.result.items c.take.new.out.items s refl c.in_ok-take.ensures.same c.in_ok-take.ensures.takes
    c.in_ok-take.ensures.whole first in
    let u = taken one whole c.take.new.self c.take-2.new.self 1000 a 0 0 [] [] (codes "abcdef") 1000
    (codes "abc") c.take.new.out.items c.take-2.new.out.items t refl c.in_ok-take-2.ensures.same
    c.in_ok-take-2.ensures.takes c.in_ok-take-2.ensures.whole all in
    u.out
