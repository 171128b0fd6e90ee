-- Which limit a value passes whose bytes are refused.
use Rattle.std.proofs.Common.{◌≡◌, ℕ, ◌+◌, ◌*◌, ◌%◌, ◌<◌, ◌≤◌, inl, inr, List, [], ◌++◌, length, take, ap, sym, ◌∙◌}
use Rattle.std.proofs.Common.{arith, refl, subst}
use Rattle.std.proofs.lemmas.Bool.{cases_lt}
use Rattle.std.proofs.lemmas.List.{append-nil}
use Rattle.xdr_types.specs.Kinds.{KindView}
use Rattle.xdr_types.specs.Tree.{Tree, depth}
use Rattle.xdr_types.specs.Fits.{Fits}
use Rattle.xdr_types.specs.Spelling.{bytes_of}
use Rattle.xdr_types.specs.Within.{Bounds}
use Rattle.xdr_types.specs.Outcome as outcome
use Rattle.xdr_types.specs.Outcome.{Ending, Outcome, IsDeep, IsLarge, IsQuiet, IsReached}
use Rattle.xdr_laws.specs.Laws.{IsRefusal}
use Rattle.xdr_laws.proofs.Refused.{refused_for_good}
use Rattle.xdr_codec.proofs.Outcomes.{pending_none}
use Rattle.xdr_stream.specs.Finish.{EndsWith}
use Rattle.xdr_json_reader.specs.Reasons.{Meets}
use Rattle.xdr_stream.specs.Sees.{Ends}
use Rattle.xdr_stream.specs.declared.fault.DecodeFault.{DecodeFault}
use Rattle.xdr_stream.specs.declared.fault.Reason.{Reason}
use Rattle.xdr_stream.specs.declared.fault.Reason.TheVariants as reason

-- ---- other limits

-- what is too deep for a limit is so for a lower one
shallower : (kinds : List KindView) (kind : ℕ) (l m : Bounds) (q : List ℕ) → l.depth ≤ m.depth → IsDeep kinds kind m q
    → IsDeep kinds kind l q
shallower kinds kind l m q low d = (d.0, d.1, d.2, d.3, d.4, omega (arith, low, d.5))

-- nothing happens at a place, under other limits
raised_quiet : (kinds : List KindView) (kind : ℕ) (l m : Bounds) (b : List ℕ) (r : ℕ) → l.depth ≤ m.depth
    → (IsLarge m r → ⊥) → IsQuiet kinds kind l b r → IsQuiet kinds kind m b r
raised_quiet kinds kind l m b r low small q = record {
  shallow = λ d. q.shallow (shallower kinds kind l m (take r b) low d);
  unfinished = q.unfinished;
  small = small;
  front = q.front;
}

raised_reached : (kinds : List KindView) (kind : ℕ) (l m : Bounds) (b : List ℕ) (p : ℕ) → l.depth ≤ m.depth
    → ((r : ℕ) → r < p → r % 4 ≡ 0 → IsLarge m r → ⊥) → IsReached kinds kind l b p → IsReached kinds kind m b p
raised_reached kinds kind l m b p low small o = record {
  units = o.units;
  within = o.within;
  before = λ r h u. raised_quiet kinds kind l m b r low (small r h u) (o.before r h u);
}

-- ---- a value that is the whole of the bytes

-- it passes the limit that the reason names, which its bytes meet first; there is no other reason
abbrev pub Passed : List KindView → (kind : ℕ) → Bounds → Tree → Reason → Type 0
Passed kinds kind l t reason.TooDeep = (l.depth < depth t) × Meets kinds kind l outcome.TooDeep t
Passed kinds kind l t reason.TooLarge =
    (l.bytes < length (bytes_of kinds kind t)) × Meets kinds kind l outcome.TooLarge t
Passed kinds kind l t reason.NoMemory = Unit {0}
Passed kinds kind l t _ = ⊥

module _ (kinds : List KindView) (kind : ℕ) (l : Bounds) (units : l.bytes % 4 ≡ 0) (b : List ℕ) (t : Tree)
    (fits : Fits kinds kind t) (same : bytes_of kinds kind t ≡ b) where
  -- the same limit on depth, and room for all bytes
  abbrev long : Bounds
  long = record { depth = l.depth; bytes = 4 * (length b + 1) }

  -- the same limit on bytes, and room for the value's depth
  abbrev deep : Bounds
  deep = record { depth = l.depth + depth t; bytes = l.bytes }

  whole : b ++ [] ≡ bytes_of kinds kind t ++ []
  whole = ap (λ (z : List ℕ). z ++ []) (sym same)

  pub is_deep : (p : ℕ) → Outcome kinds kind l b (outcome.TooDeep p) → l.depth < depth t
  is_deep p o = elim (cases_lt l.depth (depth t)) [
    | inl less ↦ less
    | inr low ↦
        (let count : length (bytes_of kinds kind t) ≤ 4 * (length b + 1) = omega (arith, ap length same) in
        let units' : 4 * (length b + 1) % 4 ≡ 0 = omega arith in
        absurd (refused_for_good kinds kind long b (outcome.TooDeep p) units' tt (
          raised_reached kinds kind l long b p (omega arith)
              (λ r h u large. omega (arith, h, large, o.0.within)) o.0,
          o.1,
        ) t [] [] (fits, (low, count)) whole))
  ]

  large_by : (length (bytes_of kinds kind t) ≤ l.bytes → ⊥) → l.bytes < length (bytes_of kinds kind t)
  large_by never = elim (cases_lt l.bytes (length (bytes_of kinds kind t))) [
    | inl less ↦ less
    | inr low ↦ absurd (never low)
  ]

  refused_deep : (e : Ending) → IsRefusal e → Outcome kinds kind deep b e
      → length (bytes_of kinds kind t) ≤ l.bytes → ⊥
  refused_deep e refusal o low =
      refused_for_good kinds kind deep b e units refusal o t [] [] (fits, (omega arith, low)) whole

  reached_deep : (p : ℕ) → ((r : ℕ) → r < p → r % 4 ≡ 0 → IsLarge l r → ⊥) → IsReached kinds kind l b p
      → IsReached kinds kind deep b p
  reached_deep p small o = raised_reached kinds kind l deep b p (omega arith) small o

  pub is_large : (p : ℕ) → Outcome kinds kind l b (outcome.TooLarge p) → l.bytes < length (bytes_of kinds kind t)
  is_large p o =
      large_by (refused_deep (outcome.TooLarge p) tt (
        reached_deep p (λ r h u. (o.0.before r h u).small) o.0,
        (λ d. o.1 (shallower kinds kind l deep (take p b) (omega arith) d)),
        o.2,
        o.3,
      ))

  -- room for the value's depth and for all of its bytes
  abbrev wide : Bounds
  wide = record { depth = l.depth + depth t; bytes = 4 * (length b + 1) }

  all_there : length (bytes_of kinds kind t) ≤ 4 * (length b + 1)
  all_there = omega (arith, ap length same)

  wide_units : 4 * (length b + 1) % 4 ≡ 0
  wide_units = omega arith

  pub is_broken : (why : outcome.Why) (p : ℕ) → Outcome kinds kind l b (outcome.Broken why p) → ⊥
  is_broken why p o =
      refused_for_good kinds kind wide b (outcome.Broken why p) wide_units tt (
        raised_reached kinds kind l wide b p (omega arith) (λ r h u large. omega (arith, h, large, o.0.within)) o.0,
        (λ d. o.1 (shallower kinds kind l wide (take p b) (omega arith) d)),
        o.2,
        (λ large. omega (arith, large, o.0.within)),
        o.4,
      ) t [] [] (fits, (omega arith, all_there)) whole

  pub is_pending : Outcome kinds kind l b outcome.Pending → ⊥
  is_pending o =
      pending_none kinds kind wide wide_units b
      (λ p u h. raised_quiet kinds kind l wide b p (omega arith) (λ large. omega (arith, large, h)) (o p u h)) t []
      (fits, (omega arith, all_there)) (append-nil (bytes_of kinds kind t) ∙ same)

  meets : (ending : ℕ → Ending) (p : ℕ) → Outcome kinds kind l b (ending p) → Meets kinds kind l ending t
  meets ending p o = (p, subst (λ (x : List ℕ). Outcome kinds kind l x (ending p)) (sym same) o)

  abbrev IsCut : Reason → Type 0
  IsCut reason.Truncated = Unit {0}
  IsCut _ = ⊥

  not_cut : (w : Reason) → (IsCut w → ⊥) → w ≡ reason.Truncated → ⊥
  not_cut w other e = other (subst (λ (x : Reason). IsCut x) (sym e) tt)

  here : (w : Reason) (p : ℕ) → ((rest : List ℕ) → Ends kinds kind l w (b ++ rest) p) → Ends kinds kind l w b p
  here w p e = subst (λ (x : List ℕ). Ends kinds kind l w x p) (append-nil b) (e [])

  by_case : (w : Reason) (p : ℕ) → (w ≡ reason.Truncated → Outcome kinds kind l b outcome.Pending × (p ≡ length b))
      → ((w ≡ reason.Truncated → ⊥) → ((rest : List ℕ) → Ends kinds kind l w (b ++ rest) p) × (p ≤ length b))
      → Passed kinds kind l t w
  by_case reason.BadBool p cut fails =
      is_broken outcome.bad_bool p (here reason.BadBool p (fails (not_cut reason.BadBool (λ x. x))).0)
  by_case reason.BadNumbered p cut fails =
      is_broken outcome.bad_numbered p (here reason.BadNumbered p (fails (not_cut reason.BadNumbered (λ x. x))).0)
  by_case reason.BadCase p cut fails =
      is_broken outcome.bad_case p (here reason.BadCase p (fails (not_cut reason.BadCase (λ x. x))).0)
  by_case reason.TooLong p cut fails =
      is_broken outcome.too_long p (here reason.TooLong p (fails (not_cut reason.TooLong (λ x. x))).0)
  by_case reason.BadPadding p cut fails =
      is_broken outcome.bad_padding p (here reason.BadPadding p (fails (not_cut reason.BadPadding (λ x. x))).0)
  by_case reason.TooDeep p cut fails =
      let o = here reason.TooDeep p (fails (not_cut reason.TooDeep (λ x. x))).0 in
      (is_deep p o, meets outcome.TooDeep p o)
  by_case reason.TooLarge p cut fails =
      let o = here reason.TooLarge p (fails (not_cut reason.TooLarge (λ x. x))).0 in
      (is_large p o, meets outcome.TooLarge p o)
  by_case reason.Truncated p cut fails = is_pending (cut refl).0
  by_case reason.NoMemory p cut fails = tt

  pub passed : (f : DecodeFault) → EndsWith kinds kind l b f → Passed kinds kind l t f.why
  passed f e = by_case f.why f.at e.0 e.1
