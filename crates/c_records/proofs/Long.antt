-- A header above the limit, which is refused at its place.
use Rattle.std.proofs.Common.{◌≡◌, ℕ, ◌⊎◌, inl, inr, true, List, [], ◌∷◌, take, sym, ap, subst, arith, Option, Some}
use Rattle.rpc_record.specs.declared.fault.RecordFault.{RecordFault}
use Rattle.rpc_record.specs.declared.fault.RecordFault.TheVariants as fault
use Rattle.rpc_record.specs.Marked.{header}
use Rattle.rpc_record.specs.Reading.{TooLongAt, IsWhole, FaultyIn}
use Rattle.rpc_record.proofs.Long.{long_first, none_whole, refused_at}
use Rattle.c_records.specs.declared.answer.Answer.{Answer}
use Rattle.c_records.specs.declared.answer.Answer.TheVariants as answer
use Rattle.c_records.specs.Fed.{IsFedAs, IsFedTo, IsFedBy}
use Rattle.c_records.specs.Held.{Held}
use Rattle.c_records.specs.Started.{IsFresh}
use Rattle.c_records.specs.Statuses.{status_of, outcome_of}

-- 80000003
abbrev pub three_bytes : List ℕ
three_bytes = 128 ∷ 0 ∷ 0 ∷ 3 ∷ []

is_long : TooLongAt 2 [] 0 three_bytes
unfolding header
is_long = long_first 2 3 true [] (omega arith) (omega arith)

-- what C sees
abbrev IsRefusal : Answer → Type 0
IsRefusal a =
    (status_of a ≡ 6)
    ⊎ ((status_of a ≡ 2) × (outcome_of a ≡ record { at = 0; line = 0; column = 0; why = 4; inner = 0 }))

seen : (f : RecordFault) → (f ≡ fault.TooLong 0) ⊎ (f ≡ fault.NoMemory) → IsRefusal (answer.Refused f)
seen f (inl e) = inr (ap (λ g. status_of (answer.Refused g)) e, ap (λ g. outcome_of (answer.Refused g)) e)
seen f (inr e) = inl (ap (λ g. status_of (answer.Refused g)) e)

module _ (h l : Held) (fresh : IsFresh 2 h) where
  fed_to : (a : Answer) → IsFedTo h three_bytes l a → IsRefusal a
  fed_to (answer.Whole count) b =
      absurd (none_whole 2 0 three_bytes is_long count b.content
      (subst (λ (n : ℕ). IsWhole n (b.content ∷ []) (take count three_bytes)) fresh.limit
      (b.whole [] [] fresh.represents)))
  fed_to answer.More b =
      absurd (b.short [] [] fresh.represents [] 0
      (subst (λ (n : ℕ). TooLongAt n [] 0 three_bytes) (sym fresh.limit) is_long))
  fed_to (answer.Refused f) b =
      seen f (refused_at 2 0 three_bytes is_long f 4 (b.kind fresh.taking)
      (subst (λ (n : ℕ). FaultyIn n [] f 4 three_bytes) fresh.limit (b.here fresh.taking [] [] fresh.represents)))
  fed_to answer.BadLimit b = absurd b
  fed_to answer.NoMemory b = absurd b
  fed_to (answer.NoRoom needed) b = absurd b
  fed_to answer.NoReader b = absurd b
  fed_to answer.NoRecord b = absurd b

pub fed_long : (held left : Option Held) (h : Held) (a : Answer) → held ≡ Some h → IsFresh 2 h
    → IsFedBy held three_bytes left a → IsRefusal a
fed_long held left h a is fresh f =
    let by = subst (λ (o : Option Held). IsFedBy o three_bytes left a) is f in
    fed_to h by.0 fresh a (subst (λ (w : Option (List ℕ)). IsFedAs w h three_bytes by.0 a) fresh.taking.0 by.2.fed)
