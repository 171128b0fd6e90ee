-- One connection alone is served.
use Rattle.std.proofs.Common.{◌≡◌, ℕ, Bool, if◌then◌else◌, List, [], ◌∷◌, ◌++◌, map, Option}
use Rattle.std.proofs.Common.{refl, sym, ap, ◌∙◌, subst, append_assoc}
use Rattle.std.proofs.lemmas.Bool.{eq-eqb}
use Rattle.registry_rows.specs.Rows.{Row}
use Rattle.registry_answer.specs.Views.{netid_of}
use Rattle.registry_callers.specs.declared.callers.Peer.TheVariants as peer
use Rattle.registry_sessions.specs.declared.origin.Origin.{Origin}
use Rattle.registry_callers.specs.Laws.{LocalIsAsEver}
use Rattle.rpc_engine.specs.Run.{Run, listed}
use Rattle.registry_sessions.specs.Events.{Event, Record, brought, records_of}
use Rattle.registry_sessions.specs.Interleaved.{Interleaves, MergedRun, replies_of}
use Rattle.registry_sessions.specs.Progress.{HasDone, Progress, Sessions}
use Rattle.registry_sessions.specs.Laws.{AloneServes, ArePlain, StepsJoin}
use Rattle.registry_sessions.proofs.Events.{no_records}
use Rattle.registry_sessions.proofs.One.{all_of}

-- along the records of one connection of this host, which all have the plain answer, the run is that of a stream
run_alone : LocalIsAsEver → (whence : ℕ → Origin) (rows new : List Row) (i : ℕ) → (whence i).caller.peer ≡ peer.Local
    → (rs : List (List ℕ)) (refusals : List Bool) (answers : List (Option (List ℕ)))
    → (r : MergedRun whence rows (map (Record i) rs) refusals new answers)
    → ArePlain whence rows (map (Record i) rs) refusals new answers r
    → Run rows (netid_of (whence i).transport) rs refusals new (replies_of i (map (Record i) rs) answers)
run_alone law whence rows new i near [] [] [] same plain = (same, refl)
run_alone law whence rows new i near (r ∷ rs) (y ∷ ys) (s ∷ ss) (mid, (answer, run)) (never, unplaced, plain) = (
  mid,
  (
    s,
    (
      replies_of i (map (Record i) rs) ss,
      (
        law (whence i).caller rows mid (netid_of (whence i).transport) r y s near never unplaced answer,
        run_alone law whence mid new i near rs ys ss run plain,
        ap (λ b. (if b then listed s else []) ++ replies_of i (map (Record i) rs) ss) (eq-eqb i i refl),
      ),
    ),
  ),
)
run_alone law whence rows new i near [] (y ∷ ys) ss p plain = absurd p
run_alone law whence rows new i near [] [] (s ∷ ss) p plain = absurd p
run_alone law whence rows new i near (r ∷ rs) [] ss p plain = absurd p
run_alone law whence rows new i near (r ∷ rs) (y ∷ ys) [] p plain = absurd p

pub alone_serves : LocalIsAsEver → AloneServes
alone_serves law rows new events open_at sent i left left' taken taken' served w alone near plain whole read end
    wrote count = record {
      input = brought i events;
      rs = records_of i w.arrivals;
      refusals = w.refusals;
      replies = replies_of i w.arrivals w.answers;
      read = read;
      end = end;
      whole = whole;
      run = subst (λ x. Run rows (netid_of (w.whence i).transport) (records_of i w.arrivals) w.refusals new
          (replies_of i x w.answers)) (sym all)
          (run_alone law w.whence rows new i near (records_of i w.arrivals) w.refusals w.answers moved.0 moved.1);
      written = wrote;
      counted = count;
    }
  where
    all : w.arrivals ≡ map (Record i) (records_of i w.arrivals)
    all = all_of i w.arrivals (λ j apart. no_records j events w.arrivals w.order.all (alone.others j apart))
        (w.order.all.datagrams ∙ alone.no_datagrams)

    moved : (r : MergedRun w.whence rows (map (Record i) (records_of i w.arrivals)) w.refusals new w.answers)
        × ArePlain w.whence rows (map (Record i) (records_of i w.arrivals)) w.refusals new w.answers r
    moved = subst (λ x. (r : MergedRun w.whence rows x w.refusals new w.answers)
        × ArePlain w.whence rows x w.refusals new w.answers r) all (w.run, plain)

pub interleaves : (rows new : List Row) (events : List Event) (open_at : Sessions) (next : ℕ) (sent : List (List ℕ))
    → Progress rows events new open_at next sent → Interleaves rows events new open_at sent
interleaves rows new events open_at next sent p = record {
  arrivals = p.arrivals;
  refusals = p.refusals;
  answers = p.answers;
  whence = p.whence;
  origins = p.origins;
  order = p.order;
  run = p.run;
  opened = p.opened;
  few = p.few;
  outputs = λ i s at. (p.each i s at).holds.waits;
  faults = λ i s f at is. (p.each i s at).flawed f is;
  datagrams = p.datagrams;
}

pub steps_join : StepsJoin
steps_join a b c rows mid new events more said others first second all done sent p =
    subst (λ x. HasDone all x new c (sent ++ (said ++ others))) (append_assoc done events more)
    (subst (λ x. HasDone all ((done ++ events) ++ more) new c x) (append_assoc sent said others)
    (second all (done ++ events) (sent ++ said) (first all done sent p)))
