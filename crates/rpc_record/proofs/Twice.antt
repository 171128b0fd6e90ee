-- The normal form is a stream of the same records, and of no others.
use Rattle.std.proofs.Common.{◌≡◌, ℕ, ◌^◌, ◌<◌, ◌≤◌, suc, true, List, [], ◌∷◌, length, refl, ap}
use Rattle.std.proofs.Common.{arith}
use Rattle.rpc_record.specs.Marked.{fragment, Stream, Within, normal, TwiceAsOnce}
use Rattle.rpc_record.proofs.Longest.{one_reading}
use Rattle.rpc_record.proofs.Streams.{Marked-one, begin_each_other}
use Rattle.rpc_record.proofs.Partial.{IsUnfinished-fragments, HasNoFragment-short}

pub Stream-normal : (limit : ℕ) (rs : List (List ℕ)) → limit < 2 ^ 31 → Within limit rs → Stream rs (normal rs)
Stream-normal limit [] h w = refl
Stream-normal limit (r ∷ rs) h w =
    let space : length r ≤ limit = w 0 [] (omega arith) in
    let marked = Marked-one r (omega (arith, h, space)) in
    (fragment true r, (normal rs, (marked, Stream-normal limit rs h (λ k d lt. w (suc k) d (omega arith)), refl)))

pub same_records : (limit : ℕ) (rs others : List (List ℕ)) (bytes : List ℕ) → Within limit rs → Within limit others
    → Stream rs bytes → Stream others bytes → rs ≡ others
same_records limit rs others bytes w v s t =
    let none = IsUnfinished-fragments limit [] [] (λ k d lt. absurd (omega arith))
    (HasNoFragment-short limit 0 [] (omega arith)) in
    let more = one_reading limit rs bytes [] s none others bytes [] v t refl in
    let back = one_reading limit others bytes [] t none rs bytes [] w s refl in
    begin_each_other rs others more.0 back.0 more.1 back.1

pub twice_as_once : TwiceAsOnce
twice_as_once limit rs h w = (
  Stream-normal limit rs h w,
  λ others v s. ap normal (same_records limit others rs (normal rs) v w s (Stream-normal limit rs h w)),
)
