-- A file that is spelled from its packets has these.
use Rattle.std.proofs.Common.{◌≡◌, ℕ, zero, suc, ◌+◌, ◌*◌, ◌%◌, ◌^◌, ◌<◌, List, [], ◌∷◌, ◌++◌, length, map, take}
use Rattle.std.proofs.Common.{drop, Bool, true, false, ltb, Some, if◌then◌else◌, refl, sym, ap, subst, ◌∙◌, arith}
use Rattle.std.proofs.lemmas.Bool.{le-ltb, lt-ltb}
use Rattle.std.proofs.lemmas.List.{append-nil, take_at, length-append}
use Rattle.std.specs.List.{All, concat}
use Rattle.byteorder.specs.Numbers.{big_number-reads_back, little_number-reads_back}
use Rattle.capture_files.specs.declared.captured.Found.{Found}
use Rattle.capture_files.specs.declared.numbers.Order.{Order}
use Rattle.capture_files.specs.declared.numbers.Order.TheVariants.{Big, Little}
use Rattle.capture_files.specs.declared.place.Classic.{Classic}
use Rattle.capture_files.specs.declared.place.Place.TheVariants as place
use Rattle.capture_files.specs.declared.place.Step.{Step}
use Rattle.capture_files.specs.declared.place.Step.TheVariants.{Need, Moved, Packet}
use Rattle.capture_files.specs.Classic.{header_step, time_of, record_step}
use Rattle.capture_files.specs.Limits.{most_packet}
use Rattle.capture_files.specs.Numbers.{number, half_at, word_at}
use Rattle.capture_files.specs.Runs.{PacketView, StateView, beginning, step_at, IsWhole, IsGathered}
use Rattle.capture_files.specs.Runs.{IsUnit, behind, packets_in, packet_in, Leads}
use Rattle.capture_files.specs.Spelled.{bytes_of, word, HeaderView, RecordView, header_bytes, record_bytes}
use Rattle.capture_files.specs.Spelled.{records_bytes, spelled, IsHeader, IsRecord, packet_of, SpelledFilesAreRead}
use Rattle.capture_files.specs.Spelled.{SpelledFilesHaveNoOthers}
use Rattle.capture_files.specs.Steps.{start_step, step_of}
use Rattle.capture_files.proofs.Once.{one_reading}
use Rattle.capture_files.proofs.Represented.{made}

-- ---- numbers

reads_back : (order : Order) (n x : ℕ) (rest : List ℕ) → x < 256 ^ n → number order n (bytes_of order n x ++ rest) ≡ x
reads_back Big n x rest h = big_number-reads_back n x rest h
reads_back Little n x rest h = little_number-reads_back n x rest h

-- ---- the header

abbrev file_of : HeaderView → Classic
file_of h = record { order = h.order; nanoseconds = h.nanoseconds; link = h.link }

abbrev behind_header : HeaderView → StateView
behind_header h = made (place.Record (file_of h)) []

abbrev header_of : (order : Order) (nanoseconds : Bool) (a b c link above : ℕ) → HeaderView
header_of order nanoseconds a b c link above = record {
  order = order;
  nanoseconds = nanoseconds;
  first_unused = a;
  second_unused = b;
  snapshot = c;
  link = link;
  above = above;
}

link_is : (order : Order) (nanoseconds : Bool) (a b c link above : ℕ) → link < 2 ^ 16 → above < 2 ^ 16
    → word_at order 20 (header_bytes (header_of order nanoseconds a b c link above) []) % 65536 ≡ link
unfolding word_at
link_is Big nanoseconds a b c link above few more =
    let e = reads_back Big 4 (above * 65536 + link) [] (omega arith) in omega (arith, e)
link_is Little nanoseconds a b c link above few more =
    let e = reads_back Little 4 (above * 65536 + link) [] (omega arith) in omega (arith, e)

-- of a header's first bytes more are asked for
header_asks : (order : Order) (nanoseconds : Bool) (a b c link above : ℕ)
    → step_at beginning (take 4 (header_bytes (header_of order nanoseconds a b c link above) [])) ≡ Need 24
unfolding half_at word_at header_step start_step step_of
header_asks Big true a b c link above = refl
header_asks Big false a b c link above = refl
header_asks Little true a b c link above = refl
header_asks Little false a b c link above = refl

header_moves : (order : Order) (nanoseconds : Bool) (a b c link above : ℕ)
    → step_at beginning (header_bytes (header_of order nanoseconds a b c link above) [])
    ≡ Moved (place.Record (record {
      order = order;
      nanoseconds = nanoseconds;
      link = word_at order 20 (header_bytes (header_of order nanoseconds a b c link above) []) % 65536;
    }))
unfolding half_at word_at header_step start_step step_of
header_moves Big true a b c link above = refl
header_moves Big false a b c link above = refl
header_moves Little true a b c link above = refl
header_moves Little false a b c link above = refl

header_length : (order : Order) (nanoseconds : Bool) (a b c link above : ℕ)
    → length (header_bytes (header_of order nanoseconds a b c link above) []) ≡ 24
header_length Big nanoseconds a b c link above = refl
header_length Little nanoseconds a b c link above = refl

header_step_is : (h : HeaderView) → IsHeader h
    → step_at beginning (header_bytes h []) ≡ Moved (place.Record (file_of h))
header_step_is h fits =
    header_moves h.order h.nanoseconds h.first_unused h.second_unused h.snapshot h.link h.above
    ∙ ap (λ (x : ℕ). Moved (place.Record (record { order = h.order; nanoseconds = h.nanoseconds; link = x })))
    (link_is h.order h.nanoseconds h.first_unused h.second_unused h.snapshot h.link h.above fits.link_fits
    fits.above_fits)

header_unit : (h : HeaderView) → IsHeader h → IsUnit beginning (header_bytes h [])
header_unit h fits =
    let len = header_length h.order h.nanoseconds h.first_unused h.second_unused h.snapshot h.link h.above in
    let asks = header_asks h.order h.nanoseconds h.first_unused h.second_unused h.snapshot h.link h.above in
    record {
      asked = 24 ∷ [];
      asks = (omega (arith, len), (asks, sym len));
      whole = subst IsWhole (sym (header_step_is h fits)) tt;
    }

-- ---- a record

-- what stands behind each of its numbers
abbrev behind_captured : Order → RecordView → List ℕ
behind_captured order r = word order r.original (r.content ++ [])

abbrev behind_fraction : Order → RecordView → List ℕ
behind_fraction order r = word order (length r.content) (behind_captured order r)

abbrev behind_seconds : Order → RecordView → List ℕ
behind_seconds order r = word order r.fraction (behind_fraction order r)

seconds_is : (order : Order) (r : RecordView) → IsRecord r → word_at order 0 (record_bytes order r []) ≡ r.seconds
unfolding word_at
seconds_is Big r fits = reads_back Big 4 r.seconds (behind_seconds Big r) fits.seconds_fit
seconds_is Little r fits = reads_back Little 4 r.seconds (behind_seconds Little r) fits.seconds_fit

fraction_is : (order : Order) (r : RecordView) → IsRecord r → word_at order 4 (record_bytes order r []) ≡ r.fraction
unfolding word_at
fraction_is Big r fits = reads_back Big 4 r.fraction (behind_fraction Big r) fits.fraction_fits
fraction_is Little r fits = reads_back Little 4 r.fraction (behind_fraction Little r) fits.fraction_fits

captured_fits : (r : RecordView) → IsRecord r → length r.content < 256 ^ 4
captured_fits r fits = omega (arith, fits.taken)

captured_is : (order : Order) (r : RecordView) → IsRecord r
    → word_at order 8 (record_bytes order r []) ≡ length r.content
unfolding word_at
captured_is Big r fits = reads_back Big 4 (length r.content) (behind_captured Big r) (captured_fits r fits)
captured_is Little r fits = reads_back Little 4 (length r.content) (behind_captured Little r) (captured_fits r fits)

original_is : (order : Order) (r : RecordView) → IsRecord r
    → word_at order 12 (record_bytes order r []) ≡ r.original
unfolding word_at
original_is Big r fits = reads_back Big 4 r.original (r.content ++ []) fits.original_fits
original_is Little r fits = reads_back Little 4 r.original (r.content ++ []) fits.original_fits

-- the same number of the head alone
captured_asked : (order : Order) (r : RecordView) → IsRecord r
    → word_at order 8 (take 16 (record_bytes order r [])) ≡ length r.content
unfolding word_at
captured_asked Big r fits = reads_back Big 4 (length r.content) (word Big r.original []) (captured_fits r fits)
captured_asked Little r fits = reads_back Little 4 (length r.content) (word Little r.original []) (captured_fits r fits)

original_asked : (order : Order) (r : RecordView) → IsRecord r
    → word_at order 12 (take 16 (record_bytes order r [])) ≡ r.original
unfolding word_at
original_asked Big r fits = reads_back Big 4 r.original [] fits.original_fits
original_asked Little r fits = reads_back Little 4 r.original [] fits.original_fits

record_length : (order : Order) (r : RecordView) → length (record_bytes order r []) ≡ 16 + length r.content
record_length Big r = omega (arith, length-append r.content [])
record_length Little r = omega (arith, length-append r.content [])

head_length : (order : Order) (r : RecordView) → length (take 16 (record_bytes order r [])) ≡ 16
head_length Big r = refl
head_length Little r = refl

content_is : (order : Order) (r : RecordView)
    → take (length r.content) (drop 16 (record_bytes order r [])) ≡ r.content
content_is Big r = take_at r.content [] (length r.content) refl
content_is Little r = take_at r.content [] (length r.content) refl

record_looks : (h : HeaderView) (r : RecordView)
    → step_at (behind_header h) (take 4 (record_bytes h.order r [])) ≡ Need 16
unfolding record_step step_of
record_looks h r =
    let short : (order : Order) → ltb (length (take 4 (record_bytes order r []))) 16 ≡ true = λ order. elim order as
    (λ (order : Order). ltb (length (take 4 (record_bytes order r []))) 16 ≡ true) [ Big ↦ refl | Little ↦ refl ] in
    rw (short h.order) refl

record_asks : (h : HeaderView) (r : RecordView) → IsRecord r → 0 < length r.content
    → step_at (behind_header h) (take 16 (record_bytes h.order r [])) ≡ Need (16 + length r.content)
unfolding record_step step_of
record_asks h r fits some =
    let n = length r.content in
    let long : ltb 16 16 ≡ false = refl in
    let few : ltb most_packet n ≡ false = le-ltb most_packet n fits.taken in
    let within : ltb r.original n ≡ false = le-ltb r.original n fits.captured in
    let short : ltb 16 (16 + n) ≡ true = lt-ltb 16 (16 + n) (omega arith) in
    simp (head_length h.order r, captured_asked h.order r fits, original_asked h.order r fits, few, within, short)

abbrev found_of : HeaderView → RecordView → Found
found_of h r = record {
  link = h.link;
  time = Some (r.seconds * (if h.nanoseconds then 1000000000 else 1000000) + r.fraction);
  resolution = if h.nanoseconds then 9 else 6;
  original = r.original;
  from = 16;
  size = length r.content;
}

record_step_is : (h : HeaderView) (r : RecordView) → IsRecord r
    → step_at (behind_header h) (record_bytes h.order r []) ≡ Packet (place.Record (file_of h)) (found_of h r)
unfolding time_of record_step step_of
record_step_is h r fits =
    let n = length r.content in
    let long : ltb (16 + n) 16 ≡ false = le-ltb (16 + n) 16 (omega arith) in
    let few : ltb most_packet n ≡ false = le-ltb most_packet n fits.taken in
    let within : ltb r.original n ≡ false = le-ltb r.original n fits.captured in
    let whole : ltb (16 + n) (16 + n) ≡ false = le-ltb (16 + n) (16 + n) (omega arith) in
    simp (
      record_length h.order r,
      captured_is h.order r fits,
      original_is h.order r fits,
      seconds_is h.order r fits,
      fraction_is h.order r fits,
      long,
      few,
      within,
      whole,
    )

record_unit : (h : HeaderView) (r : RecordView) → IsRecord r
    → (n : ℕ) → n ≡ length r.content → IsGathered (behind_header h) (record_bytes h.order r [])
record_unit h r fits zero none =
    let len = record_length h.order r in
    record {
      asked = 16 ∷ [];
      asks = (omega (arith, len), (record_looks h r, omega (arith, len, none)));
      whole = subst IsWhole (sym (record_step_is h r fits)) tt;
    }
record_unit h r fits (suc n) some =
    let len = record_length h.order r in
    record {
      asked = 16 ∷ (16 + length r.content) ∷ [];
      asks = (
        omega (arith, len),
        (record_looks h r, (omega (arith, len), (record_asks h r fits (omega (arith, some)), sym len))),
      );
      whole = subst IsWhole (sym (record_step_is h r fits)) tt;
    }

-- ---- all records

abbrev unit_of : Order → RecordView → List ℕ
unit_of order r = record_bytes order r []

-- the numbers of a record, and what follows
abbrev headed : Order → RecordView → List ℕ → List ℕ
headed order r rest =
    word order r.seconds (word order r.fraction (word order (length r.content) (word order r.original rest)))

record_joined : (order : Order) (r : RecordView) (rest : List ℕ)
    → record_bytes order r [] ++ rest ≡ record_bytes order r rest
record_joined Big r rest = ap (λ (x : List ℕ). headed Big r (x ++ rest)) (append-nil r.content)
record_joined Little r rest = ap (λ (x : List ℕ). headed Little r (x ++ rest)) (append-nil r.content)

records_joined : (order : Order) (rs : List RecordView) → records_bytes order rs ≡ concat (map (unit_of order) rs)
records_joined order [] = refl
records_joined order (r ∷ rs) =
    sym (record_joined order r (records_bytes order rs))
    ∙ ap (λ (x : List ℕ). record_bytes order r [] ++ x) (records_joined order rs)

header_joined : (order : Order) (nanoseconds : Bool) (a b c link above : ℕ) (rest : List ℕ)
    → header_bytes (header_of order nanoseconds a b c link above) rest
    ≡ header_bytes (header_of order nanoseconds a b c link above) [] ++ rest
header_joined Big nanoseconds a b c link above rest = refl
header_joined Little nanoseconds a b c link above rest = refl

packet_is : (h : HeaderView) (r : RecordView) → packet_in (found_of h r) (record_bytes h.order r []) ≡ packet_of h r
packet_is h r =
    ap (λ (x : List ℕ). packet_of h (record r { content = x })) (content_is h.order r)

records_lead : (h : HeaderView) (rs : List RecordView) → All IsRecord rs
    → Leads (behind_header h) (map (unit_of h.order) rs) (map (packet_of h) rs) (behind_header h)
records_lead h [] fits = (refl, refl)
records_lead h (r ∷ rs) fits =
    let first : IsRecord r = fits 0 r (omega arith) in
    let others : All IsRecord rs = λ k d less. fits (suc k) d (omega arith) in
    let s = behind_header h in
    let unit = record_bytes h.order r [] in
    let next = Packet (place.Record (file_of h)) (found_of h r) in
    let e : step_at s unit ≡ next = record_step_is h r first in
    let follows : (x : Step) → x ≡ next → (later : List PacketView) × (Leads (behind s x) (map (unit_of h.order) rs)
    later s × (map (packet_of h) (r ∷ rs) ≡ packets_in x unit ++ later)) = λ x same. (
      map (packet_of h) rs,
      (
        subst (λ (y : Step). Leads (behind s y) (map (unit_of h.order) rs) (map (packet_of h) rs) s) (sym same)
            (records_lead h rs others),
        subst (λ (y : Step). map (packet_of h) (r ∷ rs) ≡ packets_in y unit ++ map (packet_of h) rs) (sym same)
            (ap (λ (p : PacketView). p ∷ map (packet_of h) rs) (sym (packet_is h r))),
      ),
    ) in
    (record_unit h r first (length r.content) refl, follows (step_at s unit) e)

-- ---- a file

pub spelled_files_are_read : SpelledFilesAreRead
spelled_files_are_read = λ h rs header records.
    let unit = header_bytes h [] in
    let e : step_at beginning unit ≡ Moved (place.Record (file_of h)) = header_step_is h header in
    let later = records_lead h rs records in
    let follows : (x : Step) → x ≡ Moved (place.Record (file_of h)) → (qs : List PacketView)
    × (Leads (behind beginning x) (map (unit_of h.order) rs) qs (behind_header h)
    × (map (packet_of h) rs ≡ packets_in x unit ++ qs)) = λ x same. (
      map (packet_of h) rs,
      (
        subst (λ (y : Step). Leads (behind beginning y) (map (unit_of h.order) rs) (map (packet_of h) rs)
            (behind_header h)) (sym same) later,
        subst (λ (y : Step). map (packet_of h) rs ≡ packets_in y unit ++ map (packet_of h) rs) (sym same) refl,
      ),
    ) in
    record {
      state = behind_header h;
      front = record {
        units = unit ∷ map (unit_of h.order) rs;
        joined = header_joined h.order h.nanoseconds h.first_unused h.second_unused h.snapshot h.link h.above
            (records_bytes h.order rs) ∙ ap (λ (x : List ℕ). unit ++ x) (records_joined h.order rs);
        leads = (header_unit h header, follows (step_at beginning unit) e);
      };
      ends = tt;
    }

pub spelled_files_have_no_others : SpelledFilesHaveNoOthers
spelled_files_have_no_others = λ h rs ps header records is.
    one_reading (spelled h rs) ps (map (packet_of h) rs) is (spelled_files_are_read h rs header records)
