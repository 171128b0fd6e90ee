-- Where decoding several units ends, and what it says of those before.
use Rattle.std.proofs.Common.{◌≡◌, ℕ, ◌+◌, ◌-◌, ◌%◌, ◌<◌, ◌≤◌, List, [], ◌++◌, length, take, drop, refl, ap, sym, ◌∙◌}
use Rattle.std.proofs.Common.{subst, arith, append-nil, length-append, inl, inr, ◌⊎◌}
use Rattle.std.specs.Int.{w32, from_be_bytes}
use Rattle.std.proofs.Math.Nat.{eq-or-lt_of_le, lt_of_not-le}
use Rattle.std.proofs.lemmas.List.{length-take-le, take-append-le, take-append-drop, drop-take}
use Rattle.xdr_types.specs.Kinds.{KindView}
use Rattle.xdr_types.specs.Tree.{Tree}
use Rattle.xdr_types.specs.Front.{Front}
use Rattle.xdr_types.specs.Within.{Bounds}
use Rattle.xdr_types.specs.Outcome as outcome
use Rattle.xdr_types.specs.Outcome.{Outcome, Pending, TooDeep, TooLarge, Broken, IsDeep, IsFull, IsLarge, IsBad}
use Rattle.xdr_types.specs.Outcome.{IsQuiet, IsReached, IsReason}
use Rattle.xdr_stream.specs.Sees.{Ends}
use Rattle.xdr_stream.specs.Represents as reported
use Rattle.xdr_stream.specs.declared.fault.DecodeFault.{DecodeFault}
use Rattle.xdr_stream.specs.declared.fault.Reason.{Reason}
use Rattle.xdr_stream.specs.declared.fault.Reason.TheVariants as reason
use Rattle.xdr_writer.specs.Answers.{IsOfBytes}
use Rattle.xdr_writer.specs.Private.Runs.{end_of}

-- the first units of bytes that are pending or were reached
module _ (s : List KindView) (t : ℕ) (l : Bounds) (x : List ℕ) where
  pub front_pending : Outcome s t l x Pending → (n : ℕ) → n % 4 ≡ 0 → 4 ≤ n → n ≤ length x → Front s t (take n x)
  front_pending o n units some within =
      let back : (n - 4) + 4 ≡ n = omega (arith, some) in
      subst (λ (m : ℕ). Front s t (take m x)) back
      ((o (n - 4) (omega (arith, units, some)) (omega (arith, within))).front (omega (arith, within, some)))

  pub front_reached : (p : ℕ) → IsReached s t l x p → (n : ℕ) → n % 4 ≡ 0 → 4 ≤ n → n ≤ p → Front s t (take n x)
  front_reached p r n units some within =
      let back : (n - 4) + 4 ≡ n = omega (arith, some) in
      subst (λ (m : ℕ). Front s t (take m x)) back
      ((r.before (n - 4) (omega (arith, some, within)) (omega (arith, units, some))).front
      (omega (arith, within, some, r.within)))

-- bytes that share their first n
module _ (s : List KindView) (t : ℕ) (l : Bounds) (x y : List ℕ) (n : ℕ) (long : n ≤ length x) (also : n ≤ length y)
    (same : (r : ℕ) → r ≤ n → take r y ≡ take r x) where
  deep_back : (r : ℕ) → r ≤ n → IsDeep s t l (take r y) → IsDeep s t l (take r x)
  deep_back r low d = subst (λ (z : List ℕ). IsDeep s t l z) (same r low) d

  full_back : (r : ℕ) → r ≤ n → (v : Tree) → IsFull s t y r v → IsFull s t x r v
  full_back r low v g = record { fits = g.fits; spelled = g.spelled ∙ same r low }

  quiet_on : (r : ℕ) → r + 4 ≤ n → IsQuiet s t l x r → IsQuiet s t l y r
  quiet_on r low q = record {
    shallow = λ d. q.shallow (deep_back r (omega (arith, low)) d);
    unfinished = λ v g. q.unfinished v (full_back r (omega (arith, low)) v g);
    small = q.small;
    front = λ h. subst (λ (z : List ℕ). Front s t z) (sym (same (r + 4) low)) (q.front (omega (arith, low, long)));
  }

  reached_on : (p : ℕ) → p ≤ n → IsReached s t l x p → IsReached s t l y p
  reached_on p low r = record {
    units = r.units;
    within = omega (arith, low, also);
    before = λ m less units. quiet_on m (omega (arith, less, units, r.units, low)) (r.before m less units);
  }

  pub deep_on : (p : ℕ) → p ≤ n → Outcome s t l x (TooDeep p) → Outcome s t l y (TooDeep p)
  deep_on p low o =
      (reached_on p low o.0, subst (λ (z : List ℕ). IsDeep s t l z) (sym (same p low)) o.1)

  pub large_on : (p : ℕ) → p ≤ n → Outcome s t l x (TooLarge p) → Outcome s t l y (TooLarge p)
  large_on p low o = (
    reached_on p low o.0,
    (λ d. o.1 (deep_back p low d)),
    (λ v g. o.2 v (full_back p low v g)),
    o.3,
  )

  unit_same : (p : ℕ) → p + 4 ≤ n → take 4 (drop p y) ≡ take 4 (drop p x)
  unit_same p low =
      sym (drop-take p 4 y) ∙ ap (λ (z : List ℕ). drop p z) (same (p + 4) low) ∙ drop-take p 4 x

  bad_on : (p : ℕ) (w : outcome.Why) → p + 4 ≤ n → IsBad s t x p w → IsBad s t y p w
  bad_on p w low b = record {
    enough = omega (arith, low, also);
    no_front = λ f. b.no_front (subst (λ (z : List ℕ). Front s t z) (same (p + 4) low) f);
    reason = subst (λ (u : List ℕ). IsReason s t (take p y) (from_be_bytes w32 u) w) (sym (unit_same p low))
        (subst (λ (q : List ℕ). IsReason s t q (from_be_bytes w32 (take 4 (drop p x))) w)
        (sym (same p (omega (arith, low)))) b.reason);
  }

  pub broken_on : (p : ℕ) (w : outcome.Why) → p + 4 ≤ n → Outcome s t l x (Broken w p) → Outcome s t l y (Broken w p)
  broken_on p w low o = (
    reached_on p (omega (arith, low)) o.0,
    (λ d. o.1 (deep_back p (omega (arith, low)) d)),
    (λ v g. o.2 v (full_back p (omega (arith, low)) v g)),
    o.3,
    bad_on p w low o.4,
  )

-- no event is at the place itself
pub record IsCalm (kinds : List KindView) (kind : ℕ) (limits : Bounds) (b : List ℕ) (p : ℕ) : Type 0 where
  pub shallow : IsDeep kinds kind limits (take p b) → ⊥
  pub unfinished : (v : Tree) → IsFull kinds kind b p v → ⊥
  pub small : IsLarge limits p → ⊥

-- what a fault of several units behind others says: at which count of bytes the first units end that have it, and that
-- decoding those before the last of these has not ended
pub record IsCut (kinds : List KindView) (kind : ℕ) (limits : Bounds) (f : DecodeFault) (b x : List ℕ) (n : ℕ)
    : Type 0 where
  pub units : n % 4 ≡ 0
  pub low : length b + 4 ≤ n
  pub high : n ≤ length x
  pub fails : reported.Fails kinds kind limits f (take n x)
  pub front : (m : ℕ) → m % 4 ≡ 0 → 4 ≤ m → m + 4 ≤ n → Front kinds kind (take m x)
  pub pending : Outcome kinds kind limits (take (n - 4) x) Pending

-- the first units of some bytes
module _ (s : List KindView) (t : ℕ) (l : Bounds) (x : List ℕ) (n : ℕ) (within : n ≤ length x) where
  size : length (take n x) ≡ n
  size = length-take-le n x within

  short : (r : ℕ) → r ≤ n → take r (take n x) ≡ take r x
  short r low =
      sym (take-append-le r (take n x) (drop n x) (omega (arith, size, low)))
      ∙ ap (λ (z : List ℕ). take r z) (take-append-drop n x)

  -- others behind them share these
  pub shared : (rest : List ℕ) (r : ℕ) → r ≤ n → take r (take n x ++ rest) ≡ take r x
  shared rest r low = take-append-le r (take n x) rest (omega (arith, size, low)) ∙ short r low

  pub longer : (rest : List ℕ) → n ≤ length (take n x ++ rest)
  longer rest = omega (arith, size, length-append (take n x) rest)

  calm_end : IsCalm s t l x n → IsQuiet s t l (take n x) n
  calm_end calm = record {
    shallow = λ d. calm.shallow (subst (λ (z : List ℕ). IsDeep s t l z) (short n (omega arith)) d);
    unfinished = λ v g. calm.unfinished v
        (record { fits = g.fits; spelled = g.spelled ∙ short n (omega arith) });
    small = calm.small;
    front = λ far. absurd (omega (arith, far, size));
  }

  quiet_at : ((r : ℕ) → r % 4 ≡ 0 → r < n → IsQuiet s t l x r) → IsCalm s t l x n → n % 4 ≡ 0 → (r : ℕ)
      → r % 4 ≡ 0 → (r ≡ n) ⊎ (r < n) → IsQuiet s t l (take n x) r
  quiet_at each calm aligned r even here = elim here [
    | inl same ↦ subst (λ (m : ℕ). IsQuiet s t l (take n x) m) (sym same) (calm_end calm)
    | inr less ↦ quiet_on s t l x (take n x) n within (omega (arith, size)) (λ m low. short m low) r
        (omega (arith, less, even, aligned)) (each r even less)
  ]

  pub pending_at : ((r : ℕ) → r % 4 ≡ 0 → r < n → IsQuiet s t l x r) → IsCalm s t l x n → n % 4 ≡ 0
      → Outcome s t l (take n x) Pending
  pending_at each calm aligned r even low =
      quiet_at each calm aligned r even (eq-or-lt_of_le (omega (arith, low, size)))

calm_of : (s : List KindView) (t : ℕ) (l : Bounds) (x : List ℕ) (p : ℕ) → IsQuiet s t l x p → IsCalm s t l x p
calm_of s t l x p q = record { shallow = q.shallow; unfinished = q.unfinished; small = q.small }

module _ (s : List KindView) (t : ℕ) (l : Bounds) (b u : List ℕ) (units : length b % 4 ≡ 0)
    (quiet : Outcome s t l b Pending) where
  abbrev x : List ℕ
  x = b ++ u

  before : (r : ℕ) → r ≤ length b → take r x ≡ take r b
  before r low = take-append-le r b u low

  joined : length x ≡ length b + length u
  joined = length-append b u

  module _ (f : DecodeFault) where
    cut_by : (p n : ℕ) → n % 4 ≡ 0 → p % 4 ≡ 0 → length b + 4 ≤ n → n ≤ length x → p ≤ n → n ≤ p + 4
        → IsReached s t l x p → ((rest : List ℕ) → Ends s t l f.why (take n x ++ rest) f.at) → f.at ≤ n
        → IsCalm s t l x (n - 4) → IsCut s t l f b x n
    cut_by p n even aligned low high least most reached ends at calm =
        let within : n - 4 ≤ length x = omega (arith, high) in
        record {
          units = even;
          low = low;
          high = high;
          fails = ((λ rest. ends rest), omega (arith, at, size s t l x n high));
          front = λ m units some less. front_reached s t l x p reached m units some (omega (arith, less, most));
          pending = pending_at s t l x (n - 4) within
              (λ r units less. reached.before r (omega (arith, less, most, low)) units) calm
              (omega (arith, even, low));
        }

    deep_cut : (p : ℕ) → f.at ≡ p → Outcome s t l x (TooDeep p)
        → ((z : List ℕ) → Outcome s t l z (TooDeep p) → Ends s t l f.why z f.at) → IsCut s t l f b x p
    deep_cut p at o ends =
        let aligned : p % 4 ≡ 0 = o.0.units in
        let behind : length b < p =
        lt_of_not-le (λ low. (quiet p aligned low).shallow
        (subst (λ (z : List ℕ). IsDeep s t l z) (before p low) o.1)) in
        let within : p ≤ length x = o.0.within in
        cut_by p p aligned aligned (omega (arith, behind, aligned, units)) within (omega arith) (omega arith) o.0
        (λ rest. ends (take p x ++ rest)
        (deep_on s t l x (take p x ++ rest) p within (longer s t l x p within rest)
        (λ r low. shared s t l x p within rest r low) p (omega arith) o)) (omega (arith, at))
        (calm_of s t l x (p - 4) (o.0.before (p - 4) (omega (arith, behind)) (omega (arith, aligned, behind))))

    large_cut : (p : ℕ) → f.at ≡ p → Outcome s t l x (TooLarge p)
        → ((z : List ℕ) → Outcome s t l z (TooLarge p) → Ends s t l f.why z f.at) → IsCut s t l f b x p
    large_cut p at o ends =
        let aligned : p % 4 ≡ 0 = o.0.units in
        let behind : length b < p = lt_of_not-le (λ low. (quiet p aligned low).small o.3) in
        let within : p ≤ length x = o.0.within in
        cut_by p p aligned aligned (omega (arith, behind, aligned, units)) within (omega arith) (omega arith) o.0
        (λ rest. ends (take p x ++ rest)
        (large_on s t l x (take p x ++ rest) p within (longer s t l x p within rest)
        (λ r low. shared s t l x p within rest r low) p (omega arith) o)) (omega (arith, at))
        (calm_of s t l x (p - 4) (o.0.before (p - 4) (omega (arith, behind)) (omega (arith, aligned, behind))))

    broken_cut : (w : outcome.Why) (p : ℕ) → f.at ≡ p → Outcome s t l x (Broken w p)
        → ((z : List ℕ) → Outcome s t l z (Broken w p) → Ends s t l f.why z f.at) → IsCut s t l f b x (p + 4)
    broken_cut w p at o ends =
        let aligned : p % 4 ≡ 0 = o.0.units in
        let behind : length b < p + 4 =
        lt_of_not-le (λ low. o.4.no_front (subst (λ (z : List ℕ). Front s t z) (sym (before (p + 4) low))
        ((quiet p aligned (omega (arith, low))).front low))) in
        let within : p + 4 ≤ length x = o.4.enough in
        let back : (p + 4) - 4 ≡ p = omega arith in
        cut_by p (p + 4) (omega (arith, aligned)) aligned (omega (arith, behind, aligned, units)) within (omega arith)
        (omega arith) o.0
        (λ rest. ends (take (p + 4) x ++ rest)
        (broken_on s t l x (take (p + 4) x ++ rest) (p + 4) within (longer s t l x (p + 4) within rest)
        (λ r low. shared s t l x (p + 4) within rest r low) p w (omega arith) o)) (omega (arith, at))
        (subst (λ (m : ℕ). IsCalm s t l x m) (sym back)
        (record { shallow = o.1; unfinished = o.2; small = o.3 }))

  cut_as : (why : Reason) (f : DecodeFault) → f.why ≡ why → IsOfBytes f → Ends s t l why x f.at
      → IsCut s t l f b x (end_of why f.at)
  cut_as reason.BadBool f is known o =
      broken_cut f outcome.bad_bool f.at refl o
      (λ z e. subst (λ (y : Reason). Ends s t l y z f.at) (sym is) e)
  cut_as reason.BadNumbered f is known o =
      broken_cut f outcome.bad_numbered f.at refl o
      (λ z e. subst (λ (y : Reason). Ends s t l y z f.at) (sym is) e)
  cut_as reason.BadCase f is known o =
      broken_cut f outcome.bad_case f.at refl o
      (λ z e. subst (λ (y : Reason). Ends s t l y z f.at) (sym is) e)
  cut_as reason.TooLong f is known o =
      broken_cut f outcome.too_long f.at refl o
      (λ z e. subst (λ (y : Reason). Ends s t l y z f.at) (sym is) e)
  cut_as reason.BadPadding f is known o =
      broken_cut f outcome.bad_padding f.at refl o
      (λ z e. subst (λ (y : Reason). Ends s t l y z f.at) (sym is) e)
  cut_as reason.TooDeep f is known o =
      deep_cut f f.at refl o (λ z e. subst (λ (y : Reason). Ends s t l y z f.at) (sym is) e)
  cut_as reason.TooLarge f is known o =
      large_cut f f.at refl o (λ z e. subst (λ (y : Reason). Ends s t l y z f.at) (sym is) e)
  cut_as reason.Truncated f is known o = absurd o
  cut_as reason.NoMemory f is known o = absurd (known is)

  -- a fault of some units behind those that were pending
  pub cut : (f : DecodeFault) → IsOfBytes f → reported.Fails s t l f x → IsCut s t l f b x (end_of f.why f.at)
  cut f known h =
      cut_as f.why f refl known (subst (λ (z : List ℕ). Ends s t l f.why z f.at) (append-nil x) (h.0 []))
