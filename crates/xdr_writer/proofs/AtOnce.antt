-- What a writer leaves that was given several numbers at once.
use Rattle.std.proofs.Common.{◌≡◌, ℕ, zero, suc, ℤ, ◌+◌, ◌-◌, ◌*◌, ◌%◌, ◌<◌, ◌≤◌, Bool, true, List, [], ◌∷◌, ◌++◌}
use Rattle.std.proofs.Common.{length}
use Rattle.std.proofs.Common.{take, refl, ap, sym, ◌∙◌, subst, arith, inr, append-nil, append_assoc}
use Rattle.std.proofs.Common.{length-append}
use Rattle.std.specs.Prelude.{Ok}
use Rattle.std.proofs.lemmas.List.{length-take-le}
use Rattle.std.proofs.Math.Seq.{take-append_seam, take-append-add}
use Rattle.xdr_types.specs.Kinds.{KindView}
use Rattle.xdr_types.specs.Within.{Bounds}
use Rattle.xdr_types.specs.Front.{Front}
use Rattle.xdr_types.specs.Layout.{Entry}
use Rattle.xdr_types.specs.Outcome.{Outcome, Pending}
use Rattle.xdr_units.specs.Numbers.{num4}
use Rattle.xdr_stream.specs.Represents as reported
use Rattle.xdr_stream.specs.declared.fault.DecodeFault.{DecodeFault}
use Rattle.xdr_writer.specs.Items.{number, NodeItem, of_node, spelled_as, all_spelled}
use Rattle.xdr_writer.specs.Forms.{IsNext}
use Rattle.xdr_writer.specs.Represents.{Begin, AreDue, word_kind, numbers_in}
use Rattle.xdr_writer.specs.Answers.{Takes, IsBegun, NextBytes, Refuses, IsOfBytes}
use Rattle.xdr_writer.specs.Private.Becomes.{in_word}
use Rattle.xdr_writer.specs.Private.Bytes.{IsUnits, SaysOf, RefusesBytes}
use Rattle.xdr_writer.specs.Private.Runs.{words, AreWords, end_of, IsCount}
use Rattle.xdr_writer.specs.declared.refusal.Why.{Why}
use Rattle.xdr_writer.specs.declared.refusal.Why.TheVariants as why
use Rattle.xdr_writer.specs.declared.item.Step.{Step}
use Rattle.xdr_writer.specs.declared.item.Step.TheVariants as step
use Rattle.xdr_writer.proofs.Joined.{all_units, joined}
use Rattle.xdr_writer.proofs.Placed.{IsAt, bytes_behind}
use Rattle.xdr_writer.proofs.Outcomes.{BegunBytes, TakesBytes, begun, takes, past}
use Rattle.xdr_writer.proofs.Putting.{takes_items, begun_items}
use Rattle.xdr_writer.proofs.Run.{Fronts, run_next, run_begin, run_spelled, word_spelled}
use Rattle.xdr_writer.proofs.Cut.{IsCut, cut, front_pending, front_reached}

-- ---- the bytes of numbers

pub words_length : (zs : List ℤ) → length (words zs) ≡ 4 * length zs
words_length [] = refl
words_length (z ∷ zs) = omega (arith, length-append (num4 z) (words zs), words_length zs)

pub words_joined : (xs ys : List ℤ) → words (xs ++ ys) ≡ words xs ++ words ys
words_joined [] ys = refl
words_joined (x ∷ xs) ys =
    ap (λ (q : List ℕ). num4 x ++ q) (words_joined xs ys) ∙ sym (append_assoc (num4 x) (words xs) (words ys))

pub front_words : (signed : Bool) (xs ys : List ℤ) → AreWords signed (xs ++ ys) → AreWords signed xs
front_words signed [] ys h = tt
front_words signed (x ∷ xs) ys h = (h.0, front_words signed xs ys h.1)

pub word_behind : (signed : Bool) (xs : List ℤ) (y : ℤ) (ys : List ℤ) → AreWords signed (xs ++ y ∷ ys)
    → in_word signed y ≡ true
word_behind signed [] y ys h = h.0
word_behind signed (x ∷ xs) y ys h = word_behind signed xs y ys h.1

-- the first n numbers and the next
pub split_at : (n : ℕ) (zs : List ℤ) → n < length zs
    → (xs : List ℤ) × (y : ℤ) × (ys : List ℤ) × (zs ≡ xs ++ y ∷ ys) × (length xs ≡ n)
split_at n [] less = absurd (omega (arith, less))
split_at zero (z ∷ zs) less = ([], z, zs, refl, refl)
split_at (suc n) (z ∷ zs) less =
    let r = split_at n zs (omega (arith, less)) in
    (z ∷ r.0, r.1, r.2, ap (λ (l : List ℤ). z ∷ l) r.3, omega (arith, r.4))

-- bytes and the words of the first numbers, as a front
pub front_bytes : (b : List ℕ) (xs ys : List ℤ)
    → take (length b + 4 * length xs) (b ++ words (xs ++ ys)) ≡ b ++ words xs
front_bytes b xs ys =
    ap (λ (n : ℕ). take (length b + n) (b ++ words (xs ++ ys))) (sym (words_length xs))
    ∙ take-append-add b (words (xs ++ ys)) (length (words xs))
    ∙ ap (λ (q : List ℕ). b ++ take (length (words xs)) q) (words_joined xs ys)
    ∙ ap (λ (q : List ℕ). b ++ q) (take-append_seam (words xs) (words ys))

-- ---- a checker that was given the words of numbers that are due

module _ (s : List KindView) (t : ℕ) (l : Bounds) (units : l.bytes % 4 ≡ 0) (signed : Bool) (is : List NodeItem)
    (begin : Begin s t is) (zs : List ℤ) (low : AreWords signed zs) (some : 4 ≤ length (all_spelled is)) where
  abbrev node : KindView
  node = word_kind signed

  abbrev b : List ℕ
  b = all_spelled is

  abbrev all : List ℕ
  all = b ++ words zs

  abbrev run : List ℤ → List NodeItem
  run xs = numbers_in node xs

  bytes_of : (xs : List ℤ) → all_spelled (is ++ run xs) ≡ b ++ words xs
  bytes_of xs = joined is (run xs) ∙ ap (λ (q : List ℕ). b ++ q) (run_spelled signed xs)

  all_length : length all ≡ length b + 4 * length zs
  all_length = omega (arith, length-append b (words zs), words_length zs)

  -- the fronts of so many bytes
  abbrev FrontsTo : ℕ → Type 0
  FrontsTo most = (m : ℕ) → m % 4 ≡ 0 → 4 ≤ m → m ≤ most → Front s t (take m all)

  front_at : (most : ℕ) → FrontsTo most → (xs ys : List ℤ) → zs ≡ xs ++ ys → length b + 4 * length xs ≤ most
      → Front s t (b ++ words xs)
  front_at most fronts xs ys e within =
      let here : Front s t (take (length b + 4 * length xs) all) =
      fronts (length b + 4 * length xs) (omega (arith, all_units is)) (omega (arith, some)) within in
      subst (λ (q : List ℕ). Front s t q)
      (ap (λ (w : List ℤ). take (length b + 4 * length xs) (b ++ words w)) e ∙ front_bytes b xs ys) here

  -- of the first numbers
  fronts_of : (most : ℕ) → FrontsTo most → (xs ys : List ℤ) → zs ≡ xs ++ ys
      → length b + 4 * length xs ≤ most + 4 → Fronts s t signed is xs
  fronts_of most fronts xs ys e within ws y more split =
      let whole : zs ≡ ws ++ (y ∷ more ++ ys) =
      e ∙ ap (λ (w : List ℤ). w ++ ys) split ∙ append_assoc ws (y ∷ more) ys in
      let count : length xs ≡ length ws + length (y ∷ more) =
      ap (λ (w : List ℤ). length w) split ∙ length-append ws (y ∷ more) in
      subst (λ (q : List ℕ). Front s t (b ++ q)) (sym (run_spelled signed ws))
      (front_at most fronts ws (y ∷ more ++ ys) whole (omega (arith, within, count)))

  says_fronts : (x : Step) → SaysOf s t l b (words zs) (Ok x) → FrontsTo (length all)
  says_fronts step.More o m aligned least most = front_pending s t l all o m aligned least most
  says_fronts step.Done o m aligned least most = front_reached s t l all (length all) o.1.0 m aligned least most

  all_some : 1 ≤ length zs → IsUnits (words zs)
  all_some few = (omega (arith, words_length zs), omega (arith, words_length zs, few))

  -- what all of them bring
  pub run_takes : (left : ℕ) → AreDue s t is left node → length zs ≤ left → 1 ≤ length zs → (x : Step)
      → SaysOf s t l b (words zs) (Ok x)
      → Begin s t (is ++ run zs) × AreDue s t (is ++ run zs) (left - length zs) node × Takes s t l (is ++ run zs) x
  run_takes left due within few x says =
      let count : length zs + (left - length zs) ≡ left = omega (arith, within) in
      let g = run_begin s t signed zs is (left - length zs) begin
      (subst (λ (n : ℕ). AreDue s t is n node) (sym count) due) low
      (fronts_of (length all) (says_fronts x says) zs [] (sym (append-nil zs)) (omega (arith, all_length))) in (
        g.0,
        g.1,
        takes_items s t l (is ++ run zs) g.0 x
            (subst (λ (q : List ℕ). TakesBytes s t l q x) (sym (bytes_of zs))
            (takes s t l units b (words zs) (all_units is) (all_some few) x says)),
      )

  -- ---- one of them is refused

  abbrev Refused : (xs : List ℤ) → ℤ → Why → Type 0
  Refused xs y w =
      Begin s t (is ++ run xs) × (0 < length xs → IsBegun s t l (is ++ run xs))
      × Refuses s t l (is ++ run xs) (number y) w

  module _ (left : ℕ) (due : AreDue s t is left node) (within : length zs ≤ left)
      (quiet : Outcome s t l b Pending) (room : length all ≤ l.bytes) where
    behind_due : (xs : List ℤ) (y : ℤ) (ys : List ℤ) → zs ≡ xs ++ y ∷ ys → Fronts s t signed is xs
        → Begin s t (is ++ run xs) × AreDue s t (is ++ run xs) (left - length xs) node
    behind_due xs y ys e fronts =
        let count : length zs ≡ length xs + length (y ∷ ys) =
        ap (λ (w : List ℤ). length w) e ∙ length-append xs (y ∷ ys) in
        let sum : length xs + (left - length xs) ≡ left = omega (arith, within, count) in
        run_begin s t signed xs is (left - length xs) begin
        (subst (λ (n : ℕ). AreDue s t is n node) (sym sum) due)
        (front_words signed xs (y ∷ ys) (subst (λ (w : List ℤ). AreWords signed w) e low)) fronts

    said_at : (xs : List ℤ) (y : ℤ) (f : DecodeFault) (n : ℕ) → b ++ words (xs ++ y ∷ []) ≡ take n all
        → n ≤ length all → reported.Fails s t l f (take n all)
        → (length (all_spelled (is ++ run xs) ++ num4 y) ≤ l.bytes)
        × reported.Fails s t l f (all_spelled (is ++ run xs) ++ num4 y)
    said_at xs y f n front high fails =
        let same : all_spelled (is ++ run xs) ++ num4 y ≡ take n all =
        ap (λ (q : List ℕ). q ++ num4 y) (bytes_of xs) ∙ append_assoc b (words xs) (num4 y)
        ∙ ap (λ (q : List ℕ). b ++ (words xs ++ q)) (sym (append-nil (num4 y)))
        ∙ ap (λ (q : List ℕ). b ++ q) (sym (words_joined xs (y ∷ []))) ∙ front in
        let size : length (take n all) ≡ n = length-take-le n all high in (
          subst (λ (q : List ℕ). length q ≤ l.bytes) (sym same) (omega (arith, size, high, room)),
          subst (λ (q : List ℕ). reported.Fails s t l f q) (sym same) fails,
        )

    next_says : (xs : List ℤ) (y : ℤ) (Said : List ℕ → Type 0) (e : Entry) → in_word signed y ≡ true
        → IsNext s t (all_spelled (is ++ run xs)) e → IsAt s e (of_node node (number y)) → Said (num4 y)
        → NextBytes s t (all_spelled (is ++ run xs)) (number y) Said
    next_says xs y Said e word next at said = (
      e,
      next,
      at.form,
      at.range,
      subst (λ (q : List ℕ). Said q)
          (sym (word_spelled signed y) ∙ ap (λ (k : KindView). spelled_as k (number y)) at.kind) said,
    )

    cut_refused : (xs : List ℤ) (y : ℤ) (ys : List ℤ) → zs ≡ xs ++ y ∷ ys → (f : DecodeFault) → IsOfBytes f → (n : ℕ)
        → IsCut s t l f b all n → length b + 4 * (length xs + 1) ≡ n → Refused xs y (why.Refused f)
    cut_refused xs y ys e f known n c at =
        let back : n - 4 ≡ length b + 4 * length xs = omega (arith, at) in
        let fronts : FrontsTo (n - 4) =
        λ m aligned least most. c.front m aligned least (omega (arith, most, back, at)) in
        let r = behind_due xs y ys e (fronts_of (n - 4) fronts xs (y ∷ ys) e (omega (arith, back))) in
        let word : in_word signed y ≡ true =
        word_behind signed xs y ys (subst (λ (w : List ℤ). AreWords signed w) e low) in
        let count : length zs ≡ length xs + length (y ∷ ys) =
        ap (λ (w : List ℤ). length w) e ∙ length-append xs (y ∷ ys) in
        let here : Front s t (all_spelled (is ++ run xs)) =
        subst (λ (q : List ℕ). Front s t q) (sym (bytes_of xs))
        (front_at (n - 4) fronts xs (y ∷ ys) e (omega (arith, back))) in
        let next = run_next s t signed (is ++ run xs) (left - length xs) r.0 r.1 (omega (arith, within, count)) here y
        word in
        let grouped : zs ≡ (xs ++ y ∷ []) ++ ys = e ∙ sym (append_assoc xs (y ∷ []) ys) in
        let longer : length (xs ++ y ∷ []) ≡ length xs + 1 = length-append xs (y ∷ []) in
        let front : take n all ≡ b ++ words (xs ++ y ∷ []) =
        ap (λ (m : ℕ). take m all) (sym at)
        ∙ ap (λ (m : ℕ). take (length b + 4 * m) all) (sym longer)
        ∙ ap (λ (w : List ℤ). take (length b + 4 * length (xs ++ y ∷ [])) (b ++ words w)) grouped
        ∙ front_bytes b (xs ++ y ∷ []) ys in
        let before : take (n - 4) all ≡ b ++ words xs =
        ap (λ (m : ℕ). take m all) back
        ∙ ap (λ (w : List ℤ). take (length b + 4 * length xs) (b ++ words w)) e ∙ front_bytes b xs (y ∷ ys) in
        let pending : Outcome s t l (b ++ words xs) Pending =
        subst (λ (q : List ℕ). Outcome s t l q Pending) before c.pending in (
          r.0,
          (λ few. begun_items s t l (is ++ run xs) r.0
              (subst (λ (q : List ℕ). BegunBytes s t l q) (sym (bytes_of xs))
              (begun s t l units b (words xs) (all_units is)
              (omega (arith, words_length xs), omega (arith, words_length xs, few)) pending))),
          (
            known,
            inr (next_says xs y (λ (q : List ℕ). (length (all_spelled (is ++ run xs) ++ q) ≤ l.bytes)
                × reported.Fails s t l f (all_spelled (is ++ run xs) ++ q)) next.0 word next.1 next.2
                (said_at xs y f n (sym front) c.high c.fails)),
          ),
        )

    none_refused : (y : ℤ) → Refused [] y why.NoMemory
    none_refused y = (
      subst (λ (x : List NodeItem). Begin s t x) (sym (append-nil is)) begin,
      (λ few. absurd (omega (arith, few))),
      tt,
    )

    past_never : {A : Type 0} → RefusesBytes s t l b (words zs) why.PastEnd → A
    past_never h =
        let w = past s t l units b (words zs) h.0 h.2 h.3 in
        let k = begin.by_bytes w.0 (take h.0 (words zs)) w.1.0 w.2 in
        let r = due w.0 k.0 w.1.0 k.1 in
        let bytes = bytes_behind s t w.0 is k.0 w.1.0 k.1 in
        let size : length (b ++ take h.0 (words zs)) ≡ length (b ++ all_spelled k.0) =
        ap (λ (q : List ℕ). length q) (sym w.2 ∙ bytes) in
        let more : all_spelled k.0 ≡ words r.0 ++ all_spelled r.1 =
        ap (λ (x : List NodeItem). all_spelled x) r.2 ∙ joined (run r.0) r.1
        ∙ ap (λ (q : List ℕ). q ++ all_spelled r.1) (run_spelled signed r.0) in
        let cut_low : length (take h.0 (words zs)) ≡ h.0 = length-take-le h.0 (words zs) (omega (arith, h.1)) in
        absurd (omega (
          arith,
          size,
          length-append b (take h.0 (words zs)),
          length-append b (all_spelled k.0),
          ap (λ (q : List ℕ). length q) more,
          length-append (words r.0) (all_spelled r.1),
          words_length r.0,
          words_length zs,
          r.3,
          within,
          h.1,
          cut_low,
        ))

    -- the number behind so many
    pub run_refused : (w : Why) (taken : ℕ) → RefusesBytes s t l b (words zs) w → IsCount w (length b) (length zs) taken
        → l.bytes ≤ 16777216 → (xs : List ℤ) (y : ℤ) (ys : List ℤ) → zs ≡ xs ++ y ∷ ys → length xs ≡ taken
        → Refused xs y w
    run_refused (why.Refused f) taken h is_count most xs y ys e size =
        let c = cut s t l b (words zs) (all_units is) quiet f h.0 h.1 in
        let n : ℕ = end_of f.why f.at in
        let near : f.at ≤ 16777216 = omega (arith, h.1.1, room, most) in
        let at : length b + 4 * (taken + 1) ≡ n =
        is_count near (all_units is) c.units c.low (omega (arith, c.high, all_length)) in
        cut_refused xs y ys e f h.0 n c (ap (λ (m : ℕ). length b + 4 * (m + 1)) size ∙ at)
    run_refused why.NoMemory taken h is_count most [] y ys e size = none_refused y
    run_refused why.NoMemory taken h is_count most (x ∷ xs) y ys e size = absurd (omega (arith, size, is_count))
    run_refused why.PastEnd taken h is_count most xs y ys e size = past_never h
    run_refused why.WrongItem taken h is_count most xs y ys e size = absurd h
    run_refused why.NotInRange taken h is_count most xs y ys e size = absurd h
    run_refused why.PastLimit taken h is_count most xs y ys e size = absurd h
    run_refused why.Unfinished taken h is_count most xs y ys e size = absurd h
