-- The steps of a gathering.
use Rattle.std.proofs.Common.{◌≡◌, ℕ, ◌+◌, ◌-◌, ◌<◌, ◌≤◌, ◌^◌, List, [], ◌∷◌, ◌++◌, length, take, drop, refl}
use Rattle.std.proofs.Common.{sym, ap, subst, ◌∙◌, arith, Option}
use Rattle.std.proofs.lemmas.List.{append-nil, length-append, length-drop, take_all, take-append-drop, take-append-le}
use Rattle.std.proofs.lemmas.List.{drop-append-le}
use Rattle.std.specs.Io.KnownBytes.{Appends}
use Rattle.xdr_io.specs.Reported.{Counts}
use Rattle.xdr_io.proofs.Chained.{Appends-none, Appends-trans, Counts-trans, take-add, take_past}
use Rattle.xdr_codec.specs.Private.Gathered.{Gathering, Holds, IsCut, Gathers, Breaks}
use Rattle.xdr_codec.specs.Private.GatheredLaws.{breaks-after}

-- the array goes out whole
pub flushed : (a b : Gathering) → Appends a.taken b.taken (take a.filled a.array) → Counts 0 a.failures b.failures
    → b.filled ≡ 0 → (a.written + a.filled < 2 ^ 32 → b.written ≡ a.written + a.filled) → Gathers a b []
flushed a b out counts empty written = record {
  holds = λ t done small h.
      let same = append-nil done in
      let all : b.written ≡ length done = (written (omega (arith, small, ap length same, h.count))) ∙ h.count in
      let joined : take a.written done ++ take a.filled a.array ≡ take b.written done =
      ap (λ (z : List ℕ). take a.written done ++ z) (sym h.pending) ∙ take-append-drop a.written done
      ∙ sym (take_all b.written done (omega (arith, all))) in
      let none : drop b.written done ≡ take b.filled b.array = length-zero (drop b.written done)
      (omega (arith, all, length-drop b.written done)) ∙ ap (λ (k : ℕ). take k b.array) (sym empty) in
      subst (λ (z : List ℕ). Holds t b z) (sym same)
      (record {
        sent = Appends-trans t a.taken b.taken (take a.written done) (take a.filled a.array)
            (take b.written done) joined h.sent out;
        pending = none;
        count = omega (arith, all, empty);
      });
  none_failed = counts;
}
  where
    length-zero : (xs : List ℕ) → length xs ≡ 0 → xs ≡ []
    length-zero [] h = refl
    length-zero (x ∷ xs) h = absurd (omega (arith, h))

-- the array goes out in part
pub flush_cut : (a b : Gathering) (k : ℕ) → k < length (take a.filled a.array)
    → Appends a.taken b.taken (take k (take a.filled a.array)) → Counts 1 a.failures b.failures
    → (a.written + k < 2 ^ 32 → b.written ≡ a.written + k) → Breaks a b []
flush_cut a b k short out counts written = record {
  cut = λ t done small h.
      let same = append-nil done in
      let size : length (take a.filled a.array) + a.written
      ≡ length done = (let l : length (drop a.written done)
      ≡ length done - a.written = length-drop a.written done in omega (arith, l, ap length h.pending, h.count)) in
      let now : b.written ≡ a.written + k = written (omega (arith, small, ap length same, size, short)) in
      let joined : take a.written done ++ take k (take a.filled a.array) ≡ take b.written done =
      ap (λ (z : List ℕ). take a.written done ++ take k z) (sym h.pending) ∙ take-add a.written k done
      ∙ ap (λ (n : ℕ). take n done) (sym now) in
      subst (λ (z : List ℕ). IsCut t b z) (sym same)
      (record {
        sent = Appends-trans t a.taken b.taken (take a.written done) (take k (take a.filled a.array))
            (take b.written done) joined h.sent out;
        short = omega (arith, now, size, short);
      });
  one_failed = counts;
}

-- bytes are gathered
pub gathered : (a b : Gathering) (x : List ℕ) → b.taken ≡ a.taken → Counts 0 a.failures b.failures
    → b.written ≡ a.written → b.filled ≡ a.filled + length x → take b.filled b.array ≡ take a.filled a.array ++ x
    → Gathers a b x
gathered a b x taken counts written filled array = record {
  holds = λ t done small h.
      let low : a.written ≤ length done = omega (arith, h.count) in
      let front : take b.written (done ++ x) ≡ take a.written done = ap (λ (n : ℕ). take n (done ++ x)) written
      ∙ take-append-le a.written done x low in
      let back : drop b.written (done ++ x) ≡ drop a.written done ++ x = ap (λ (n : ℕ). drop n (done ++ x)) written
      ∙ drop-append-le a.written done x low in
      record {
        sent = subst (λ (z : List ℕ). Appends t b.taken z) (sym front)
            (subst (λ (o : Option (List ℕ)). Appends t o (take a.written done)) (sym taken) h.sent);
        pending = back ∙ ap (λ (z : List ℕ). z ++ x) h.pending ∙ sym array;
        count = omega (arith, written, filled, h.count, length-append done x);
      };
  none_failed = counts;
}

-- bytes go out past the empty array
pub passed : (a b : Gathering) (x : List ℕ) → a.filled ≡ 0 → b.filled ≡ 0 → Appends a.taken b.taken x
    → Counts 0 a.failures b.failures → (a.written + length x < 2 ^ 32 → b.written ≡ a.written + length x)
    → Gathers a b x
passed a b x empty still out counts written = record {
  holds = λ t done small h.
      let now : a.written ≡ length done = omega (arith, h.count, empty) in
      let then_ : b.written ≡ length (done ++ x) = omega
      (arith, written (omega (arith, small, now, length-append done x)), now, length-append done x) in
      let joined : take a.written done ++ x ≡ take b.written (done ++ x) =
      ap (λ (z : List ℕ). z ++ x) (take_all a.written done (omega (arith, now)))
      ∙ sym (take_all b.written (done ++ x) (omega (arith, then_))) in
      record {
        sent = Appends-trans t a.taken b.taken (take a.written done) x (take b.written (done ++ x)) joined h.sent out;
        pending = length-zero (drop b.written (done ++ x)) (omega (arith, then_, length-drop b.written (done ++ x)))
            ∙ ap (λ (k : ℕ). take k b.array) (sym still);
        count = omega (arith, then_, still);
      };
  none_failed = counts;
}
  where
    length-zero : (xs : List ℕ) → length xs ≡ 0 → xs ≡ []
    length-zero [] h = refl
    length-zero (x ∷ xs) h = absurd (omega (arith, h))

pub pass_cut : (a b : Gathering) (x : List ℕ) (k : ℕ) → a.filled ≡ 0 → k < length x → Appends a.taken b.taken (take k x)
    → Counts 1 a.failures b.failures → (a.written + k < 2 ^ 32 → b.written ≡ a.written + k) → Breaks a b x
pass_cut a b x k empty short out counts written = record {
  cut = λ t done small h.
      let now : a.written ≡ length done = omega (arith, h.count, empty) in
      let then_ : b.written ≡ a.written + k = written (omega (arith, small, now, short, length-append done x)) in
      let joined : take a.written done ++ take k x ≡ take b.written (done ++ x) =
      ap (λ (z : List ℕ). z ++ take k x) (take_all a.written done (omega (arith, now))) ∙ take_past done x k
      ∙ ap (λ (n : ℕ). take n (done ++ x)) (omega (arith, then_, now)) in
      record {
        sent = Appends-trans t a.taken b.taken (take a.written done) (take k x) (take b.written (done ++ x)) joined
            h.sent out;
        short = omega (arith, then_, now, short, length-append done x);
      };
  one_failed = counts;
}

-- a gathering from its beginning
begins : (a : Gathering) → a.filled ≡ 0 → a.written ≡ 0 → Holds a.taken a []
begins a empty fresh = record {
  sent = subst (λ (n : ℕ). Appends a.taken a.taken (take n [])) (sym fresh) (Appends-none a.taken);
  pending = ap (λ (n : ℕ). drop n []) fresh ∙ sym (ap (λ (n : ℕ). take n a.array) empty);
  count = omega (arith, empty, fresh);
}

-- all went out
pub all_out : (a b c : Gathering) (x : List ℕ) → a.filled ≡ 0 → a.written ≡ 0 → c.filled ≡ 0 → length x < 2 ^ 32
    → Gathers a b x → Gathers b c [] → Appends a.taken c.taken x × (c.written ≡ length x)
    × Counts 0 a.failures c.failures
all_out a b c x empty fresh out small p q =
    let held : Holds a.taken b x = p.holds a.taken [] small (begins a empty fresh) in
    let last : Holds a.taken c (x ++ []) = q.holds a.taken x (omega (arith, small, ap length (append-nil x))) held in
    let ended : Holds a.taken c x = subst (λ (z : List ℕ). Holds a.taken c z) (append-nil x) last in
    let all : c.written ≡ length x = omega (arith, ended.count, out) in (
      subst (λ (z : List ℕ). Appends a.taken c.taken z) (take_all c.written x (omega (arith, all))) ended.sent,
      all,
      Counts-trans a.failures b.failures c.failures 0 0 0 refl p.none_failed q.none_failed,
    )

-- a front went out
pub cut_out : (a b : Gathering) (x : List ℕ) → a.filled ≡ 0 → a.written ≡ 0 → length x < 2 ^ 32 → Breaks a b x
    → Appends a.taken b.taken (take b.written x) × (b.written < length x) × Counts 1 a.failures b.failures
cut_out a b x empty fresh small p =
    let cut : IsCut a.taken b x = p.cut a.taken [] small (begins a empty fresh) in
    (cut.sent, cut.short, p.one_failed)

pub cut_late : (a b c : Gathering) (x : List ℕ) → a.filled ≡ 0 → a.written ≡ 0 → length x < 2 ^ 32 → Gathers a b x
    → Breaks b c [] → Appends a.taken c.taken (take c.written x) × (c.written < length x)
    × Counts 1 a.failures c.failures
cut_late a b c x empty fresh small p q =
    let all : Breaks a c x = subst (λ (z : List ℕ). Breaks a c z) (append-nil x) (breaks-after a b c x [] p q) in
    cut_out a c x empty fresh small all
