-- The inputs of the examples, each with its case for a call with xid 2.
use Rattle.std.proofs.Common.{ℕ, List, [], ◌∷◌, refl, arith}
use Rattle.rpc_record.specs.Marked.{header}
use Rattle.rpc_record.specs.Reading.{WholeIsLongest, WholeHasNoLong}
use Rattle.rpc_record.proofs.Streams.{whole_none, whole_push}
use Rattle.rpc_message.specs.Message.{ReplyView, Accepted, Denied, Success, ProgMismatch, AuthError}
use Rattle.rpc_message.specs.Spelling.{ReplyBytes}
use Rattle.rpc_engine.specs.Exchanged.{IsFirst, IsOutcome, OtherXid, Replied, Truncated, most_reply}

-- ---- a success with the number 2049

abbrev pub number : List ℕ
number =
    0 ∷ 0 ∷ 0 ∷ 2 ∷ 0 ∷ 0 ∷ 0 ∷ 1 ∷ 0 ∷ 0 ∷ 0 ∷ 0 ∷ 0 ∷ 0 ∷ 0 ∷ 0 ∷ 0 ∷ 0 ∷ 0 ∷ 0 ∷ 0 ∷ 0 ∷ 0 ∷ 0 ∷ 0 ∷ 0 ∷ 8 ∷ 1 ∷ []

abbrev pub number_reply : ReplyView
number_reply = Accepted 2 (record { flavor = 0; body = [] }) (Success (0 ∷ 0 ∷ 8 ∷ 1 ∷ []))

number_spelled : ReplyBytes number_reply number
number_spelled = record {
  fits = (omega arith, record { flavor = omega arith; short = omega arith }, tt);
  parts = refl;
}

abbrev pub number_input : List ℕ
number_input = 128 ∷ 0 ∷ 0 ∷ 28 ∷ number

number_first : IsFirst number number_input
unfolding header
number_first =
    let w = whole_push most_reply [] [] number (whole_none most_reply) (omega arith) (omega arith) in
    record { whole = number_input; more = []; stream = w.stream; within = w.within; spelled = refl }

pub number_case : IsOutcome 2 number_input (Replied number_reply)
number_case = (number, (number_first, number_spelled, refl))

-- ---- the same with a byte behind it

abbrev pub longer : List ℕ
longer =
    0 ∷ 0 ∷ 0 ∷ 2 ∷ 0 ∷ 0 ∷ 0 ∷ 1 ∷ 0 ∷ 0 ∷ 0 ∷ 0 ∷ 0 ∷ 0 ∷ 0 ∷ 0 ∷ 0 ∷ 0 ∷ 0 ∷ 0 ∷ 0 ∷ 0 ∷ 0 ∷ 0 ∷ 0 ∷ 0 ∷ 8 ∷ 1 ∷ 0
    ∷ []

abbrev pub longer_reply : ReplyView
longer_reply = Accepted 2 (record { flavor = 0; body = [] }) (Success (0 ∷ 0 ∷ 8 ∷ 1 ∷ 0 ∷ []))

longer_spelled : ReplyBytes longer_reply longer
longer_spelled = record {
  fits = (omega arith, record { flavor = omega arith; short = omega arith }, tt);
  parts = refl;
}

abbrev pub longer_input : List ℕ
longer_input = 128 ∷ 0 ∷ 0 ∷ 29 ∷ longer

longer_first : IsFirst longer longer_input
unfolding header
longer_first =
    let w = whole_push most_reply [] [] longer (whole_none most_reply) (omega arith) (omega arith) in
    record { whole = longer_input; more = []; stream = w.stream; within = w.within; spelled = refl }

pub longer_case : IsOutcome 2 longer_input (Replied longer_reply)
longer_case = (longer, (longer_first, longer_spelled, refl))

-- ---- a reply to a call with xid 3

abbrev pub three : List ℕ
three = 0 ∷ 0 ∷ 0 ∷ 3 ∷ 0 ∷ 0 ∷ 0 ∷ 1 ∷ 0 ∷ 0 ∷ 0 ∷ 0 ∷ 0 ∷ 0 ∷ 0 ∷ 0 ∷ 0 ∷ 0 ∷ 0 ∷ 0 ∷ 0 ∷ 0 ∷ 0 ∷ 0 ∷ []

abbrev pub three_reply : ReplyView
three_reply = Accepted 3 (record { flavor = 0; body = [] }) (Success [])

three_spelled : ReplyBytes three_reply three
three_spelled = record {
  fits = (omega arith, record { flavor = omega arith; short = omega arith }, tt);
  parts = refl;
}

abbrev pub three_input : List ℕ
three_input = 128 ∷ 0 ∷ 0 ∷ 24 ∷ three

three_first : IsFirst three three_input
unfolding header
three_first =
    let w = whole_push most_reply [] [] three (whole_none most_reply) (omega arith) (omega arith) in
    record { whole = three_input; more = []; stream = w.stream; within = w.within; spelled = refl }

pub three_case : IsOutcome 2 three_input (OtherXid 3)
three_case = (three, (three_first, (three_reply, (three_spelled, refl)), λ e. omega (arith, e)))

-- ---- the versions 2 to 4

abbrev pub versions : List ℕ
versions =
    0 ∷ 0 ∷ 0 ∷ 2 ∷ 0 ∷ 0 ∷ 0 ∷ 1 ∷ 0 ∷ 0 ∷ 0 ∷ 0 ∷ 0 ∷ 0 ∷ 0 ∷ 0 ∷ 0 ∷ 0 ∷ 0 ∷ 0 ∷ 0 ∷ 0 ∷ 0 ∷ 2 ∷ 0 ∷ 0 ∷ 0 ∷ 2 ∷ 0
    ∷ 0 ∷ 0 ∷ 4 ∷ []

abbrev pub versions_reply : ReplyView
versions_reply = Accepted 2 (record { flavor = 0; body = [] }) (ProgMismatch 2 4)

versions_spelled : ReplyBytes versions_reply versions
versions_spelled = record {
  fits = (omega arith, record { flavor = omega arith; short = omega arith }, (omega arith, omega arith));
  parts = refl;
}

abbrev pub versions_input : List ℕ
versions_input = 128 ∷ 0 ∷ 0 ∷ 32 ∷ versions

versions_first : IsFirst versions versions_input
unfolding header
versions_first =
    let w = whole_push most_reply [] [] versions (whole_none most_reply) (omega arith) (omega arith) in
    record { whole = versions_input; more = []; stream = w.stream; within = w.within; spelled = refl }

pub versions_case : IsOutcome 2 versions_input (Replied versions_reply)
versions_case = (versions, (versions_first, versions_spelled, refl))

-- ---- a credential that is too weak

abbrev pub weak : List ℕ
weak = 0 ∷ 0 ∷ 0 ∷ 2 ∷ 0 ∷ 0 ∷ 0 ∷ 1 ∷ 0 ∷ 0 ∷ 0 ∷ 1 ∷ 0 ∷ 0 ∷ 0 ∷ 1 ∷ 0 ∷ 0 ∷ 0 ∷ 5 ∷ []

abbrev pub weak_reply : ReplyView
weak_reply = Denied 2 (AuthError 5)

weak_spelled : ReplyBytes weak_reply weak
weak_spelled = record { fits = (omega arith, omega arith); parts = refl }

abbrev pub weak_input : List ℕ
weak_input = 128 ∷ 0 ∷ 0 ∷ 20 ∷ weak

weak_first : IsFirst weak weak_input
unfolding header
weak_first =
    let w = whole_push most_reply [] [] weak (whole_none most_reply) (omega arith) (omega arith) in
    record { whole = weak_input; more = []; stream = w.stream; within = w.within; spelled = refl }

pub weak_case : IsOutcome 2 weak_input (Replied weak_reply)
weak_case = (weak, (weak_first, weak_spelled, refl))

-- ---- no bytes

pub none_case : WholeIsLongest → WholeHasNoLong → (xid : ℕ) → IsOutcome xid [] (Truncated 0)
none_case whole none xid =
    let nothing = whole_none most_reply in (refl, whole most_reply [] [] nothing, none most_reply [] [] nothing)
