-- Bytes that begin as some value's do: which outcome they have, and which fault says it.
use Rattle.std.proofs.Common.{◌≡◌, ◌⊎◌, inl, inr, ℕ, ◌+◌, ◌-◌, ◌%◌, ◌<◌, ◌≤◌, true, List, [], ◌∷◌, ◌++◌, length, take}
use Rattle.std.proofs.Common.{drop, refl, ap, sym, ◌∙◌, subst, append_assoc, append-nil, arith, Result, Ok, Err}
use Rattle.std.proofs.Common.{IfErr}
use Rattle.std.proofs.Common.{cond, nat_le, suc, Bool, false}
use Rattle.std.specs.Prelude.{Contains, IsTrue}
use Rattle.std.specs.Int.{w32, from_be_bytes}
use Rattle.std.specs.List.{AllByRecursion}
use Rattle.std.proofs.lemmas.List.{length-append, length-take, take-append-le, take-append-drop, take-take}
use Rattle.std.proofs.lemmas.Bool.{false≢true, le-leb, leb-true}
use Rattle.std.proofs.lemmas.List.Elements.{All-contains, All-from_recursion}
use Rattle.xdr_types.specs.Kinds.{KindView, kind_at}
use Rattle.xdr_types.specs.Tree.{Tree}
use Rattle.xdr_types.specs.Fits.{Fits, are_bytes}
use Rattle.xdr_types.specs.Front.{Front}
use Rattle.xdr_types.specs.Laws.{EachSpellingIsOneValue}
use Rattle.xdr_types.specs.Layout.{Entry, entries}
use Rattle.xdr_types.specs.Outcome.{Outcome, Ending, Pending, Whole, TooDeep, TooLarge, Broken, IsDeep, IsFull}
use Rattle.xdr_types.specs.Outcome.{IsQuiet}
use Rattle.xdr_types.specs.Outcome.{IsReached, Admits, reason}
use Rattle.xdr_types.specs.Outcome as outcome
use Rattle.xdr_types.specs.Spelling.{bytes_of}
use Rattle.xdr_types.specs.Within.{Bounds}
use Rattle.xdr_laws.specs.Laws.{SameParts, GoesOn, OneOutcome}
use Rattle.xdr_laws.specs.Parts.{up_to}
use Rattle.std.specs.Prelude.{IfOk}
use Rattle.std.specs.Result.{result_err}
use Rattle.xdr_types.specs.Kinds.{Lists}
use Rattle.xdr_types.specs.View.{tree}
use Rattle.xdr_types.specs.declared.kind.KindId.{KindId}
use Rattle.xdr_types.specs.declared.value.Value.{Value}
use Rattle.xdr_stream.specs.Finish.{EndsWith, Finishes}
use Rattle.xdr_stream.specs.Represents.{Fails, Answers, taken}
use Rattle.xdr_stream.specs.declared.reader.Progress.{Progress}
use Rattle.xdr_stream.specs.declared.reader.Progress.TheVariants.{More, Done}
use Rattle.xdr_codec.specs.Settings.{kinds_of, kind_of, limits_of}
use Rattle.xdr_codec.specs.Represents.{IsStarted}
use Rattle.xdr_codec.specs.declared.decoder.Decoder.{Decoder}
use Rattle.example_xdr.specs.Reported.{fault_of, IsNone, Says}
use Rattle.xdr_stream.specs.declared.fault.DecodeFault.{DecodeFault}
use Rattle.xdr_stream.specs.declared.fault.Reason.{Reason}
use Rattle.xdr_stream.specs.declared.fault.Reason.TheVariants as why

-- what holds of each part up to a place
low_one : (P : Entry → Type 0) (r : ℕ) (e : Entry) (es : List Entry) (b : Bool) → nat_le e.at r ≡ b
    → (AllByRecursion P (up_to r es) → AllByRecursion (λ (x : Entry). x.at ≤ r → P x) es)
    → AllByRecursion P (cond b (e ∷ up_to r es) (up_to r es))
    → (e.at ≤ r → P e) × AllByRecursion (λ (x : Entry). x.at ≤ r → P x) es
low_one P r e es true is rest h = ((λ low. h.0), rest h.1)
low_one P r e es false is rest h = ((λ low. absurd (false≢true (sym is ∙ le-leb e.at r low))), rest h)

low_all : (P : Entry → Type 0) (r : ℕ) (es : List Entry) → AllByRecursion P (up_to r es)
    → AllByRecursion (λ (e : Entry). e.at ≤ r → P e) es
low_all P r [] a = tt
low_all P r (e ∷ es) a = low_one P r e es (nat_le e.at r) refl (low_all P r es) a

all_one : (P : Entry → Type 0) (r : ℕ) (e : Entry) (es : List Entry) (b : Bool) → P e → AllByRecursion P (up_to r es)
    → AllByRecursion P (cond b (e ∷ up_to r es) (up_to r es))
all_one P r e es true one rest = (one, rest)
all_one P r e es false one rest = rest

all_low : (P : Entry → Type 0) (r : ℕ) (es : List Entry) → AllByRecursion P es → AllByRecursion P (up_to r es)
all_low P r [] a = tt
all_low P r (e ∷ es) a = all_one P r e es (nat_le e.at r) a.0 (all_low P r es a.1)

-- where nothing up to a place fails, nothing of what stands up to it does
up_one : (P : Entry → Type 0) (r : ℕ) (e : Entry) (es : List Entry) (b : Bool) → nat_le e.at r ≡ b
    → (e.at ≤ r → P e) → AllByRecursion P (up_to r es) → AllByRecursion P (cond b (e ∷ up_to r es) (up_to r es))
up_one P r e es true is one rest = (one (leb-true e.at r is), rest)
up_one P r e es false is one rest = rest

pub up_all : (P : Entry → Type 0) (r : ℕ) (es : List Entry) → AllByRecursion (λ (e : Entry). e.at ≤ r → P e) es
    → AllByRecursion P (up_to r es)
up_all P r [] a = tt
up_all P r (e ∷ es) a = up_one P r e es (nat_le e.at r) refl a.0 (up_all P r es a.1)

pub take_self : (x : List ℕ) → take (length x) x ≡ x
take_self [] = refl
take_self (y ∷ ys) = ap (λ (z : List ℕ). y ∷ z) (take_self ys)

more_four : (n : ℕ) → suc n + 4 ≡ suc (n + 4)
more_four n = omega arith

-- no node of a value up to a place is too deep
abbrev pub IsShallow : List KindView → (t : ℕ) → Bounds → Tree → (r : ℕ) → Type 0
IsShallow s t l v r = AllByRecursion (λ (e : Entry). e.depth ≤ l.depth) (up_to r (entries s t v))

-- q begins the bytes of v, and is not all of them
module _ (s : List KindView) (t : ℕ) (l : Bounds) (unique : EachSpellingIsOneValue s) (same : SameParts s) (v : Tree)
    (fit : Fits s t v) (q c : List ℕ) (is : bytes_of s t v ≡ q ++ c) (some : 0 < length c) where
  begins : (r : ℕ) → bytes_of s t v ≡ take r q ++ (drop r q ++ c)
  begins r = is ∙ ap (λ (x : List ℕ). x ++ c) (sym (take-append-drop r q)) ∙ append_assoc (take r q) (drop r q) c

  not_deep : (r : ℕ) → r ≤ length q → IsShallow s t l v r → IsDeep s t l (take r q) → ⊥
  not_deep r low shallow d =
      let len : length (take r q) ≡ r = omega (arith, length-take r q, low) in
      let first : (x : List ℕ) → take r (take r q ++ x) ≡ take r q = λ x.
      take-append-le r (take r q) x (omega (arith, len)) ∙ take-take r r q (omega arith) in
      let eq : take r (bytes_of s t d.0) ≡ take r (bytes_of s t v) =
      ap (λ (x : List ℕ). take r x) d.1.2 ∙ first d.1.1 ∙ sym (ap (λ (x : List ℕ). take r x) (begins r)
      ∙ first (drop r q ++ c)) in
      let P : Entry → Type 0 = λ (e : Entry). e.depth ≤ l.depth in
      let all : AllByRecursion P (up_to r (entries s t d.0)) =
      subst (λ (x : List Entry). AllByRecursion P x) (sym (same t d.0 v r d.1.0 fit eq)) shallow in
      let each = low_all P r (entries s t d.0) all in
      let here = All-contains (λ (e : Entry). e.at ≤ r → P e) (entries s t d.0) d.2
      (All-from_recursion (λ (e : Entry). e.at ≤ r → P e) (entries s t d.0) each) d.3 in
      absurd (omega (arith, here (omega (arith, d.4, len)), d.5))

  not_full : (r : ℕ) (w : Tree) → Fits s t w → bytes_of s t w ≡ take r q → ⊥
  not_full r w fits e =
      let both = unique t w v (drop r q ++ c) [] fits fit
      (ap (λ (x : List ℕ). x ++ (drop r q ++ c)) e ∙ sym (begins r) ∙ sym (append-nil (bytes_of s t v))) in
      absurd (omega (arith, ap (λ (x : List ℕ). length x) both.1, length-append (drop r q) c, some))

  front : (r : ℕ) → Front s t (take r q)
  front r = (v, (fit, drop r q ++ c, begins r))

  first_of : (r : ℕ) (rest : List ℕ) → r ≤ length q → take r (q ++ rest) ≡ take r q
  first_of r rest low = take-append-le r q rest low

  quiet : (rest : List ℕ) (r : ℕ) → r ≤ length q → IsShallow s t l v r → r < l.bytes
      → (r + 4 ≤ length (q ++ rest) → r + 4 ≤ length q) → IsQuiet s t l (q ++ rest) r
  quiet rest r low shallow small inside =
      let one : take r (q ++ rest) ≡ take r q = first_of r rest low in record {
        shallow = λ d. not_deep r low shallow (subst (λ (x : List ℕ). IsDeep s t l x) one d);
        unfinished = λ w f. not_full r w f.fits (f.spelled ∙ one);
        small = λ e. omega (arith, small, e);
        front = λ more. subst (λ (x : List ℕ). Front s t x) (sym (first_of (r + 4) rest (inside more)))
            (front (r + 4));
      }

  reached_by : (rest : List ℕ) → length q % 4 ≡ 0 → length q ≤ l.bytes → ((r : ℕ) → r < length q → IsShallow s t l v r)
      → IsReached s t l (q ++ rest) (length q)
  reached_by rest units most shallow = record {
    units = units;
    within = omega (arith, length-append q rest);
    before = λ r less each. quiet rest r (omega arith) (shallow r less) (omega arith)
        (λ more. omega (arith, units, each, less));
  }

  whole_q : (rest : List ℕ) → take (length q) (q ++ rest) ≡ q
  whole_q rest = first_of (length q) rest (omega arith) ∙ take_self q

  -- a node below the limit on depth is due
  pub too_deep : (rest : List ℕ) → length q % 4 ≡ 0 → length q ≤ l.bytes
      → ((r : ℕ) → r < length q → IsShallow s t l v r) → (e : Entry) → Contains (entries s t v) e
      → e.at ≤ length q → l.depth < e.depth → Outcome s t l (q ++ rest) (TooDeep (length q))
  too_deep rest units most shallow e has low deep = (
    reached_by rest units most shallow,
    subst (λ (x : List ℕ). IsDeep s t l x) (sym (whole_q rest)) (v, (fit, c, is), e, has, low, deep),
  )

-- the same, and no node of v is too deep
module _ (s : List KindView) (t : ℕ) (l : Bounds) (unique : EachSpellingIsOneValue s) (same : SameParts s) (v : Tree)
    (fit : Fits s t v) (q c : List ℕ) (is : bytes_of s t v ≡ q ++ c) (some : 0 < length c)
    (shallow : AllByRecursion (λ (e : Entry). e.depth ≤ l.depth) (entries s t v)) where
  shallow_to : (r : ℕ) → AllByRecursion (λ (e : Entry). e.depth ≤ l.depth) (up_to r (entries s t v))
  shallow_to r = all_low (λ (e : Entry). e.depth ≤ l.depth) r (entries s t v) shallow

  reached : (rest : List ℕ) → length q % 4 ≡ 0 → length q ≤ l.bytes → IsReached s t l (q ++ rest) (length q)
  reached rest units most =
      reached_by s t l unique same v fit q c is some rest units most (λ r less. shallow_to r)

  deep_not_here : (rest : List ℕ) → IsDeep s t l (take (length q) (q ++ rest)) → ⊥
  deep_not_here rest d =
      not_deep s t l unique same v fit q c is some (length q) (omega arith) (shallow_to (length q))
      (subst (λ (x : List ℕ). IsDeep s t l x)
      (first_of s t l unique same v fit q c is some (length q) rest (omega arith)) d)

  full_not_here : (rest : List ℕ) (w : Tree) → IsFull s t (q ++ rest) (length q) w → ⊥
  full_not_here rest w f =
      not_full s t l unique same v fit q c is some (length q) w f.fits
      (f.spelled ∙ first_of s t l unique same v fit q c is some (length q) rest (omega arith))

  -- the limit on bytes is reached
  pub too_large : (rest : List ℕ) → length q % 4 ≡ 0 → l.bytes ≡ length q
      → Outcome s t l (q ++ rest) (TooLarge (length q))
  too_large rest units e = (
    reached rest units (omega (arith, e)),
    deep_not_here rest,
    full_not_here rest,
    sym e,
  )

  -- more is needed
  pub pending : length q < l.bytes → Outcome s t l q Pending
  pending small p units low =
      subst (λ (x : List ℕ). IsQuiet s t l x p) (append-nil q)
      (quiet s t l unique same v fit q c is some [] p low (shallow_to p) (omega arith)
      (λ more. omega (arith, more, length-append q [])))

  -- the unit after q is none that this part admits
  pub broken : (u rest : List ℕ) → GoesOn s → length q % 4 ≡ 0 → length q < l.bytes → length u ≡ 4
      → IsTrue (are_bytes u) → (e : Entry) → Contains (entries s t v) e → e.at ≤ length q
      → length q < e.at + e.size → (Admits s (kind_at s e.kind) e.role (length q - e.at) u → ⊥)
      → Outcome s t l (q ++ (u ++ rest))
      (Broken (reason s (kind_at s e.kind) e.role (from_be_bytes w32 u)) (length q))
  broken u rest goes units small four are e has from to none =
      let g = goes t q u units (v, (fit, c, is))
      (λ w fits spelled. not_full s t l unique same v fit q c is some (length q) w fits
      (spelled ∙ sym (take_self q))) four are in
      let this : g.0 ≡ e = g.2 e (v, (fit, c, is), has, from, to) in
      let front_not : Front s t (q ++ u) → ⊥ = λ f.
      none (subst (λ (x : Entry). Admits s (kind_at s x.kind) x.role (length q - x.at) u) this (g.3.0 f)) in
      let five : take (length q + 4) (q ++ (u ++ rest)) ≡ q ++ u = five_is q in
      let here : take 4 (drop (length q) (q ++ (u ++ rest))) ≡ u = here_is q in (
        reached (u ++ rest) units (omega arith),
        deep_not_here (u ++ rest),
        full_not_here (u ++ rest),
        λ big. omega (arith, big, small),
        record {
          enough = omega (arith, length-append q (u ++ rest), length-append u rest, four);
          no_front = λ f. front_not (subst (λ (x : List ℕ). Front s t x) five f);
          reason = (
            e,
            subst (λ (x : List ℕ). outcome.HasNextUnit s t x e)
                (sym (whole_q s t l unique same v fit q c is some (u ++ rest)))
                (v, (fit, c, is), has, from, to),
            ap (λ (x : List ℕ). reason s (kind_at s e.kind) e.role (from_be_bytes w32 x)) (sym here),
          );
        },
      )
    where
      unit_is : take 4 (u ++ rest) ≡ u
      unit_is = ap (λ (n : ℕ). take n (u ++ rest)) (sym four) ∙ self_is u
        where
          self_is : (x : List ℕ) → take (length x) (x ++ rest) ≡ x
          self_is [] = refl
          self_is (y ∷ ys) = ap (λ (z : List ℕ). y ∷ z) (self_is ys)

      five_is : (x : List ℕ) → take (length x + 4) (x ++ (u ++ rest)) ≡ x ++ u
      five_is [] = unit_is
      five_is (y ∷ ys) =
          ap (λ (n : ℕ). take n (y ∷ (ys ++ (u ++ rest)))) (more_four (length ys))
          ∙ ap (λ (z : List ℕ). y ∷ z) (five_is ys)

      here_is : (x : List ℕ) → take 4 (drop (length x) (x ++ (u ++ rest))) ≡ u
      here_is [] = unit_is
      here_is (y ∷ ys) = here_is ys

-- ---- the fault that says an outcome

module _ (s : List KindView) (t : ℕ) (l : Bounds) (one : OneOutcome s) (b : List ℕ) (e : Ending) (none : IsNone e)
    (o : Outcome s t l b e) where
  reported : (x : Ending) → Outcome s t l (b ++ []) x → fault_of (length b) x ≡ fault_of (length b) e
  reported x h =
      ap (λ (y : Ending). fault_of (length b) y)
      (one t l b x e (subst (λ (y : List ℕ). Outcome s t l y x) (append-nil b) h) o)

  said : (r : Reason) (at : ℕ) → Fails s t l (record { why = r; at = at }) b
      → (record { why = r; at = at } ≡ fault_of (length b) e) ⊎ (r ≡ why.NoMemory)
  said why.BadBool at h = inl (reported (Broken outcome.bad_bool at) (h.0 []))
  said why.BadNumbered at h = inl (reported (Broken outcome.bad_numbered at) (h.0 []))
  said why.BadCase at h = inl (reported (Broken outcome.bad_case at) (h.0 []))
  said why.TooLong at h = inl (reported (Broken outcome.too_long at) (h.0 []))
  said why.BadPadding at h = inl (reported (Broken outcome.bad_padding at) (h.0 []))
  said why.TooDeep at h = inl (reported (TooDeep at) (h.0 []))
  said why.TooLarge at h = inl (reported (TooLarge at) (h.0 []))
  said why.Truncated at h = absurd (h.0 [])
  said why.NoMemory at h = inr refl

  -- a fault of `feed` says the outcome, or that memory was refused
  pub failed : (f : DecodeFault) → Fails s t l f b → (f ≡ fault_of (length b) e) ⊎ (f.why ≡ why.NoMemory)
  failed f h = said f.why f.at h

  ended_as : (r : Reason) (at : ℕ) → EndsWith s t l b (record { why = r; at = at })
      → (record { why = r; at = at } ≡ fault_of (length b) e) ⊎ (r ≡ why.NoMemory)
  ended_as why.Truncated at h =
      let p = h.0 refl in
      inl (ap (λ (n : ℕ). fault_of n Pending) p.1
      ∙ ap (λ (y : Ending). fault_of (length b) y) (one t l b Pending e p.0 o))
  ended_as why.BadBool at h = said why.BadBool at (h.1 (λ i. cc))
  ended_as why.BadNumbered at h = said why.BadNumbered at (h.1 (λ i. cc))
  ended_as why.BadCase at h = said why.BadCase at (h.1 (λ i. cc))
  ended_as why.TooLong at h = said why.TooLong at (h.1 (λ i. cc))
  ended_as why.BadPadding at h = said why.BadPadding at (h.1 (λ i. cc))
  ended_as why.TooDeep at h = said why.TooDeep at (h.1 (λ i. cc))
  ended_as why.TooLarge at h = said why.TooLarge at (h.1 (λ i. cc))
  ended_as why.NoMemory at h = inr refl

  -- and so of `decode`, of `parts` and at the end
  pub ended : (f : DecodeFault) → EndsWith s t l b f → (f ≡ fault_of (length b) e) ⊎ (f.why ≡ why.NoMemory)
  ended f h = ended_as f.why f.at h

  -- no value is whole
  whole_not : (v : Tree) (n : ℕ) → Outcome s t l b (Whole v n) → ⊥
  whole_not v n h = subst (λ (x : Ending). IsNone x) (one t l b e (Whole v n) o h) none

  pub says_decoded : (r : Result (Value × ℕ) DecodeFault) → IfOk r (λ p. Outcome s t l b (Whole (tree p.0) p.1))
      → IfErr r (λ f. EndsWith s t l b f) → Says (fault_of (length b) e) (result_err r)
  says_decoded (Ok p) w h = absurd (whole_not (tree p.0) p.1 w)
  says_decoded (Err f) w h = ended f h

  pub says_lent : {A : Type 0} (P : A → Tree → Type 0) (r : Result A DecodeFault)
      → IfOk r (λ a. (v : Tree) × (n : ℕ) × Outcome s t l b (Whole v n) × P a v)
      → IfErr r (λ f. EndsWith s t l b f) → Says (fault_of (length b) e) (result_err r)
  says_lent P (Ok a) w h = absurd (whole_not w.0 w.1 w.2)
  says_lent P (Err f) w h = ended f h

  pub says_fed : (p : Progress) → Answers s t l [] b (Ok p) → (r : Result Value DecodeFault)
      → Finishes s t l ([] ++ taken b (Ok p)) r → Says (fault_of (length b) e) (result_err r)
  says_fed More a (Ok v) h = absurd (whole_not (tree v) (length b) h)
  says_fed More a (Err f) h = ended f h
  says_fed (Done used) a r h = absurd (whole_not a.0 (0 + used) a.1)

-- what is said of the settings that a decoder was started with
pub started : (d : Decoder) (s : Lists) (k : KindId) (l : Bounds) (Said : List KindView → ℕ → Bounds → Type 0)
    → IsStarted d s k l → Said (kinds_of d) (kind_of d).place (limits_of d) → Said s.kinds k.place l
started d s k l Said set h =
    subst (λ (x : Bounds). Said s.kinds k.place x) set.limits_are
    (subst (λ (x : KindId). Said s.kinds x.place (limits_of d)) set.kind_is
    (subst (λ (x : Lists). Said x.kinds (kind_of d).place (limits_of d)) set.schema_is h))
