use Rattle.std.proofs.Common.{List, [], ◌∷◌, codes, refl}
use Rattle.capture_streams.specs.Segments.{Arrival, IsRun, given}
use Rattle.example_watch.proofs.Taken.{started, taken, came}
use Rattle.example_watch.proofs.streams.first_one_wins.Goals as goal

pub returns : goal.returns
returns c =
    let one = c.one_stream.ensures.one in
    let whole = c.handed_is_the_stream.ensures.whole in
    let d = c.start-direction in
    let a : List Arrival = came 0 1004 (codes "ef") ∷ [] in
    let b : List Arrival = came 0 1004 (codes "ef") ∷ came 0 1000 (codes "ab") ∷ [] in
    let e : List Arrival =
    came 0 1004 (codes "ef") ∷ came 0 1000 (codes "ab") ∷ came 2 1001 (codes "XcdXX") ∷ [] in
    let none : IsRun (given 1000 a) 0 [] = record { front = tt; ends = refl } in
    let some : IsRun (given 1000 b) 0 (codes "ab") = record { front = (refl, (refl, tt)); ends = refl } in
    let all : IsRun (given 1000 e) 0 (codes "abcdef") =
    record { front = (refl, (refl, (refl, (refl, (refl, (refl, tt)))))); ends = refl } in
    let s = started d.result 1000 c.new-out.result.items d.ensures.first d.ensures.stands c.new-out.ensures.items in
    let t = taken one whole d.result c.take.new.self 1000 [] 0 0 [] [] [] 1004 (codes "ef")
    c.new-out.result.items c.take.new.out.items s refl c.in_ok-take.ensures.same c.in_ok-take.ensures.takes
    c.in_ok-take.ensures.whole none in
    let u = taken one whole c.take.new.self c.take-2.new.self 1000 a 0 0 [] [] (codes "ab") 1000
    (codes "ab") c.take.new.out.items c.take-2.new.out.items t refl c.in_ok-take-2.ensures.same
    c.in_ok-take-2.ensures.takes c.in_ok-take-2.ensures.whole some in
    let v = taken one whole c.take-2.new.self c.take-3.new.self 1000 b 0 2 (codes "ab") [] (codes "abcdef") 1001
    (codes "XcdXX") c.take-2.new.out.items c.take-3.new.out.items u refl c.in_ok-take-3.ensures.same
    c.in_ok-take-3.ensures.takes c.in_ok-take-3.ensures.whole all in
    v.out
