use Rattle.std.proofs.lemmas.Bool.{false≢true}
use Rattle.std.proofs.Common.{◌≡◌, ◌<◌, ◌^◌, ℕ, List, [], length, true, pos, sym, ap, subst, ◌∙◌, ◌+◌, ◌*◌, ◌++◌, arith}
use Rattle.std.specs.Prelude.{IfOk, IfErr}
use Rattle.std.specs.Int.{w64, from_be_bytes}
use Rattle.xdr_units.proofs.Bytes.{AreBytes-append}
use Rattle.xdr_units.specs.Numbers.{num4}
use Rattle.xdr_types.specs.Kinds.{KindView, Part}
use Rattle.xdr_types.specs.Fits.{are_bytes}
use Rattle.xdr_laws.proofs.Legal.{are_bytes_of, bytes_are}
use Rattle.xdr_laws.proofs.WholeUnits.{bytes4}
use Rattle.xdr_stream.specs.Frames.{stack_of, onto, left_of}
use Rattle.xdr_stream.specs.Nodes.{head_of_leaf}
use Rattle.xdr_stream.specs.declared.machine.Awaits.TheVariants.{Next, Low}
use Rattle.xdr_stream.specs.Private.Moves.{TookUnit, RefusedUnit}
use Rattle.xdr_stream.specs.Trace.{Trace}
use Rattle.xdr_stream.specs.Private.Reported.{HasSpace}
use Rattle.xdr_stream.proofs.BuiltContent.{With, seen_space}
use Rattle.xdr_stream.proofs.Units.{first_of_two, second_of_two, two_units}
use Rattle.xdr_stream.proofs.Sparing.{seen_alone}
use Rattle.xdr_stream.proofs.TakingUnits.{took, refused}
use Rattle.xdr_stream.proofs.machine.unit.take_unit.Goals as goal

pub returns-in-Next-clause-taken : goal.returns-in-Next-clause-taken
returns-in-Next-clause-taken g c =
    let s : List KindView = c.args.schema.now.kinds in
    let H : Trace → Type 0 = g.B.Build.reports c.args.built.now in
    let I : Trace → Type 0 = g.B.Build.reports c.take_number.new.built in
    let fs : List (List Part) = stack_of c.args.work.now c.args.parents.now.items in
    let gs : List (List Part) = stack_of c.take_number.new.work c.take_number.new.parents.items in
    rw c.in-Next.is (subst (λ (u : List ℕ). IfOk c.take_number.result (TookUnit s H Next fs I gs u))
    c.number_of-number.ensures
    (took s H Next fs I gs (num4 (pos c.number_of-number.result)) c.take_number.result c.take_number.ensures.live
    c.take_number.ensures.taken))

pub returns-in-Next-clause-refused : goal.returns-in-Next-clause-refused
returns-in-Next-clause-refused g c =
    let s : List KindView = c.args.schema.now.kinds in
    let H : Trace → Type 0 = g.B.Build.reports c.args.built.now in
    let fs : List (List Part) = stack_of c.args.work.now c.args.parents.now.items in
    rw c.in-Next.is (subst (λ (u : List ℕ). IfErr c.take_number.result (RefusedUnit g.B.Build.spares s H Next fs u))
    c.number_of-number.ensures
    (refused g.B.Build.spares s H Next fs (num4 (pos c.number_of-number.result)) c.take_number.result
    c.take_number.ensures.refused c.take_number.ensures.spared))

pub returns-in-Wide-clause-taken : goal.returns-in-Wide-clause-taken
returns-in-Wide-clause-taken g c = record {
  live = tt;
  taken = λ kind limits q ready small h.
      let u : List ℕ = c.args.unit.now in
      let is : num4 (pos c.number_of-number.result) ≡ u = c.number_of-number.ensures in
      let len : length u ≡ 4 = ap (λ (b : List ℕ). length b) (sym is) in
      let are : are_bytes u ≡ true = subst (λ (b : List ℕ). are_bytes b ≡ true) is
      (are_bytes_of (num4 (pos c.number_of-number.result)) (bytes4 c.number_of-number.result)) in
      first_of_two c.args.schema.now.kinds c.len-known.ensures.valued c.len-known.ensures.known kind limits
      (g.B.Build.reports c.args.built.now) (g.B.Build.reports c.args.built.now)
      (stack_of c.args.work.now c.args.parents.now.items) q u len are small
      c.in-Wide.signed c.number_of-number.result is (rw c.in-Wide.is at h);
}

pub returns-in-Ok-clause-taken : goal.returns-in-Ok-clause-taken
returns-in-Ok-clause-taken g c = record {
  live = tt;
  taken = λ kind limits q ready small h.
      let H : Trace → Type 0 = g.B.Build.reports c.args.built.now in
      let u : List ℕ = c.args.unit.now in
      let x : ℕ = c.in-Low.high in
      let y : ℕ = c.number_of-number.result in
      let is : num4 (pos y) ≡ u = c.number_of-number.ensures in
      let len : length u ≡ 4 = ap (λ (b : List ℕ). length b) (sym is) in
      let are : are_bytes u ≡ true = subst (λ (b : List ℕ). are_bytes b ≡ true) is
      (are_bytes_of (num4 (pos y)) (bytes4 y)) in
      let all : are_bytes (num4 (pos x) ++ u) ≡ true =
      are_bytes_of (num4 (pos x) ++ u) (AreBytes-append (num4 (pos x)) u (bytes4 x) (bytes_are u are)) in
      let xx : x < 2 ^ 32 = omega arith in
      let yy : y < 2 ^ 32 = omega arith in
      let two : c.from.result * 4294967296 + c.from-in-Low.result ≡ from_be_bytes w64 (num4 (pos x) ++ u) =
      ap (λ (n : ℕ). n * 4294967296 + c.from-in-Low.result) c.from.ensures
      ∙ ap (λ (n : ℕ). x * 4294967296 + n) c.from-in-Low.ensures
      ∙ sym (two_units x y xx yy) ∙ ap (λ (b : List ℕ). from_be_bytes w64 (num4 (pos x) ++ b)) is in
      second_of_two c.args.schema.now.kinds c.len-known.ensures.valued c.len-known.ensures.known kind limits
      (With H HasSpace) (g.B.Build.reports c.leaf.new.self)
      (stack_of c.args.work.now c.args.parents.now.items) q u len are small
      c.in-Low.signed x (head_of_leaf c.hyper_leaf.result) (c.hyper_leaf.ensures (num4 (pos x) ++ u) two) all
      (λ a reported. c.in-Ok.ensures.reported a reported.0 reported.1)
      (seen_space c.args.schema.now.kinds kind limits H (Low c.in-Low.signed x)
      (stack_of c.args.work.now c.args.parents.now.items) q tt (rw c.in-Low.is at h));
}

pub returns-in-Err-clause-refused : goal.returns-in-Err-clause-refused
returns-in-Err-clause-refused g c = record {
  refused = λ kind limits q rest ready small h. tt;
  spared = λ limits kind q h free.
      let a = seen_alone g.B.Build.spares c.args.schema.now.kinds kind free limits
      (g.B.Build.reports c.args.built.now) c.args.awaits (stack_of c.args.work.now c.args.parents.now.items) q h in
      false≢true (c.in-Err.ensures.granted a.0 a.1 a.2);
}

pub returns-in-Content-clause-taken : goal.returns-in-Content-clause-taken
returns-in-Content-clause-taken g c =
    rw c.in-Content.is (c.take_bytes.ensures.taken (stack_of c.args.work.now c.args.parents.now.items))

pub returns-in-Content-clause-refused : goal.returns-in-Content-clause-refused
returns-in-Content-clause-refused g c =
    rw c.in-Content.is (c.take_bytes.ensures.refused (left_of c.args.work.now) (onto [] c.args.parents.now.items))
