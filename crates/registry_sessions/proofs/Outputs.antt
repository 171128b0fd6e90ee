-- What writes take of the output.
use Rattle.std.proofs.Common.{◌≡◌, ℕ, ◌+◌, ◌≤◌, List, length, ◌-◌, take, drop, ap, ◌∙◌, arith}
use Rattle.std.proofs.lemmas.List.{drop-drop, length-drop}
use Rattle.std.proofs.lemmas.List.Edits.{take-paste}
use Rattle.std.proofs.Math.Seq.{take-length}
use Rattle.std.specs.List.{copy_within}
use Rattle.rpc_record.specs.Marked.{normal}
use Rattle.registry_sessions.specs.declared.session.Session.{Session}
use Rattle.registry_sessions.specs.Represents.{output_of, origin_of, Took}

-- a session with the same reader, whose output lost its first n bytes
pub took_by : (old new : Session) (n : ℕ) → new.records ≡ old.records → new.fault ≡ old.fault
    → origin_of new ≡ origin_of old → n ≤ length (output_of old) → output_of new ≡ drop n (output_of old)
    → Took old new n
took_by old new n same fault caller within out = record {
  same_fault = fault;
  same_origin = caller;
  reads = λ bytes rs h. record {
    sound = fault ∙ h.sound;
    taking = rw same h.taking;
    limit = rw same h.limit;
    represents = rw same h.represents;
  };
  replies = λ replies count h. record {
    few = omega (arith, within, h.few, ap length h.waits, length-drop count (normal replies));
    waits = out ∙ ap (drop n) h.waits ∙ drop-drop n count (normal replies);
  };
}

-- what stood from a place on, moved to the front
pub moved_front : (n end count : ℕ) (xs : List ℕ) → end ≡ length xs → count ≡ length xs
    → take (count - n) (copy_within xs n end 0) ≡ drop n xs
moved_front n end count xs e f =
    let rest = drop n xs in
    let len : count - n ≡ length rest = omega (arith, f, length-drop n xs) in
    let same : count - n ≡ 0 + (end - n) = omega (arith, e, f) in
    let all : end - n ≡ length rest = omega (arith, e, length-drop n xs) in
    ap (λ k. take k (copy_within xs n end 0)) same ∙ take-paste xs 0 rest (end - n) (omega arith) (omega (arith, all))
    ∙ ap (λ k. take k rest) all ∙ take-length rest
