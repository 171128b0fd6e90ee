-- A reply that tells of a step.
use Rattle.std.proofs.Common.{◌≡◌, ℕ, Bool, false, List, ◌++◌, sym, ◌∙◌, append_assoc}
use Rattle.xdr_units.specs.Numbers.{num4, number_of}
use Rattle.rpc_message.specs.Heads.{accepted_head}
use Rattle.registry_rows.specs.Rows.{Row}
use Rattle.registry_rows.specs.Steps.{Step}
use Rattle.std.specs.Io.{StartsWith}
use Rattle.registry_answer.specs.Private.Pushes.{Reports}
use Rattle.registry_answer.proofs.Chains.{begins_added}

reported : (xid : ℕ) (old mid out : List ℕ) (done : Bool) → mid ≡ old ++ (accepted_head xid 0 ++ num4 (number_of false))
    → ((front : List ℕ) → mid ≡ front ++ num4 (number_of false) → out ≡ front ++ num4 (number_of done))
    → out ≡ old ++ (accepted_head xid 0 ++ num4 (number_of done))
reported xid old mid out done f h =
    h (old ++ accepted_head xid 0) (f ∙ sym (append_assoc old (accepted_head xid 0) (num4 (number_of false))))
    ∙ append_assoc old (accepted_head xid 0) (num4 (number_of done))

-- what stood before it still stands there
pub reported_behind : (xid : ℕ) (old mid out : List ℕ) (done : Bool) → mid ≡ old
    ++ (accepted_head xid 0 ++ num4 (number_of false))
    → ((front : List ℕ) → mid ≡ front ++ num4 (number_of false) → out ≡ front ++ num4 (number_of done))
    → StartsWith out old
reported_behind xid old mid out done f h =
    begins_added old (accepted_head xid 0 ++ num4 (number_of done)) out (reported xid old mid out done f h)

pub reports : (s : Step) (xid : ℕ) (old mid out : List ℕ) (new : List Row) (done : Bool) → (new, done) ≡ s → mid ≡ old
    ++ (accepted_head xid 0 ++ num4 (number_of false))
    → ((front : List ℕ) → mid ≡ front ++ num4 (number_of false) → out ≡ front ++ num4 (number_of done))
    → Reports s xid old new out
reports s xid old mid out new done e f h = record {
  done = done;
  stepped = e;
  added = reported xid old mid out done f h;
}
