use Rattle.std.proofs.Common.{ℕ, ◌≤◌, List, length, take, subst, arith}
use Rattle.std.proofs.lemmas.List.{length-drop, take_rest}
use Rattle.capture_files.specs.Represents.{Takes}
use Rattle.capture_files.proofs.Faults.{follows_let_go, follows_take, piece_broken, piece_waits}
use Rattle.capture_files.proofs.Taking.{let_go_takes, takes_then, takes_broken}
use Rattle.capture_files.proofs.reader.CaptureReader.feed.Goals as goal

pub loop-used-init : goal.loop-used-init
loop-used-init c = record {
  within = omega arith;
  takes = let_go_takes c.args.self.now c.let_go.new.self c.let_go.ensures;
  follows = follows_let_go c.args.self.now c.let_go.new.self c.let_go.ensures;
}

pub loop-used-preserved : goal.loop-used-preserved
loop-used-preserved c =
    let piece = c.args.piece.now in
    let used = c.loop-used.used in
    let count = c.take-used.result in
    let rest = take_rest piece used in
    let few = subst (λ (x : List ℕ). count ≤ length x) rest c.take-used.ensures.few in
    let takes = subst (λ (x : List ℕ). Takes c.loop-used.self c.take-used.new.self (take count x)) rest
    c.take-used.ensures.takes in
    record {
      within = omega (arith, few, length-drop used piece);
      takes = takes_then c.args.self.now c.loop-used.self c.take-used.new.self used count piece c.in-Gathering.is
          c.loop-used.invariant.takes takes;
      follows = follows_take c.args.self.now c.loop-used.self c.take-used.new.self c.loop-used.invariant.follows
          c.in-Gathering.is c.take-used.ensures.uncut;
    }

pub returns-in-Waiting-clause-refused : goal.returns-in-Waiting-clause-refused
returns-in-Waiting-clause-refused c =
    piece_waits c.args.self.now c.loop-used.self _ _ c.loop-used.invariant.follows c.in-Waiting.is

pub returns-in-Broken-clause-takes : goal.returns-in-Broken-clause-takes
returns-in-Broken-clause-takes c =
    takes_broken c.args.self.now c.loop-used.self c.loop-used.used c.args.piece.now c.in-Broken.fault c.in-Broken.is
    c.loop-used.invariant.takes

pub returns-in-Broken-clause-refused : goal.returns-in-Broken-clause-refused
returns-in-Broken-clause-refused c =
    piece_broken c.args.self.now c.loop-used.self c.in-Broken.fault c.loop-used.invariant.follows c.in-Broken.is
