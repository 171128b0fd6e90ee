-- What is answered where nothing is listed is right: counts that show a buffer too small, and a fault.
use Rattle.std.proofs.Common.{◌≡◌, ℕ, ◌+◌, ◌-◌, ◌%◌, ◌^◌, ◌<◌, List, [], ◌∷◌, length, map, refl, sym, ap, subst, arith}
use Rattle.xdr_types.specs.Kinds.{KindView}
use Rattle.xdr_types.specs.Layout.{Entry, entries}
use Rattle.xdr_stream.specs.Finish.{EndsWith}
use Rattle.xdr_stream.specs.declared.fault.DecodeFault.{DecodeFault}
use Rattle.xdr_parts.specs.Counted.{AreCounted, names_of}
use Rattle.xdr_parts.specs.Lent.{entry_of}
use Rattle.xdr_parts.specs.declared.counting.PartCounts.{PartCounts}
use Rattle.xdr_codec.proofs.Outcomes.{whole}
use Rattle.c_values.specs.declared.listed.Listed.{Listed}
use Rattle.c_values.specs.declared.listed.Listed.TheVariants as listed
use Rattle.c_values.specs.Answers.{Question, BeginsWithValue, IsRefusal}
use Rattle.c_values.specs.Parted.{Buffers, AreRetained, IsParted, IsSmall, HasNoRoom}
use Rattle.c_values.specs.Private.Parting.{parts_from, IsUnlisted}
use Rattle.c_values.proofs.Judging.{refusal_of}
use Rattle.c_values.proofs.Parting.{each_listed, are_parts_of}

parts_length : (kinds : List KindView) (n : ℕ) (es : List Entry) → length (parts_from kinds n es) ≡ length es
parts_length kinds n [] = refl
parts_length kinds n (e ∷ es) = omega (arith, parts_length kinds (n + length e.name) es)

-- parts that are counted do not go into buffers that are too small
pub no_room : (q : Question) → q.limits.bytes % 4 ≡ 0 → (input : List ℕ) (old : Buffers) (c : PartCounts)
    → AreCounted q.kinds q.place q.limits input c → c.names < 2 ^ 64 - 1 → IsSmall old c → HasNoRoom q input old old c
no_room q units input old c counted exact small =
    let es : List Entry = map entry_of counted.lent in
    let all : List Entry = entries q.kinds q.place counted.value in
    let w = whole q.kinds q.place q.limits units input counted.value c.used counted.whole in
    let begins : BeginsWithValue q input c.used =
    record { value = counted.value; outcome = counted.whole; fits = w.0; within = w.1; spelled = w.2 } in
    let bytes : length (names_of es) ≡ length (names_of all) =
    ap (λ (x : List Entry). length (names_of x)) counted.each in (
      parts_from q.kinds 0 es,
      names_of es,
      are_parts_of q input (parts_from q.kinds 0 es) (names_of es) c.used c.parts c.names begins
          (each_listed q.kinds input (names_of es) counted.lent all (parts_from q.kinds 0 es) counted.each counted.from
          refl refl)
          (ap (λ (x : List Entry). names_of x) counted.each)
          (omega (arith, counted.parts, parts_length q.kinds 0 es, ap (λ (x : List Entry). length x) counted.each))
          (omega (arith, counted.names, bytes, exact)),
      small,
      record { parts_stay = refl; names_stay = refl },
    )

retained : (bs : Buffers) → AreRetained bs bs
retained bs = record { parts_stay = refl; names_stay = refl }

-- the answer to a fault
pub unlisted_right : (q : Question) → q.limits.bytes % 4 ≡ 0 → (input : List ℕ) (f : DecodeFault)
    → EndsWith q.kinds q.place q.limits input f → (a : Listed) → IsUnlisted f a → (bs : Buffers)
    → IsParted q input bs bs a
unlisted_right q units input f ends (listed.Whole c) is bs = absurd is
unlisted_right q units input f ends (listed.Followed c) is bs = absurd is
unlisted_right q units input f ends (listed.Refused g) is bs = (
  subst (λ (x : DecodeFault). IsRefusal q input x) (sym is.0) (refusal_of q units input f is.1 ends),
  retained bs,
)
unlisted_right q units input f ends listed.NoKind is bs = absurd is
unlisted_right q units input f ends listed.BadLimits is bs = absurd is
unlisted_right q units input f ends listed.NoMemory is bs = retained bs
unlisted_right q units input f ends listed.NoDeclarations is bs = absurd is
unlisted_right q units input f ends (listed.NoRoom c) is bs = absurd is
