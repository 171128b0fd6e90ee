-- What is said of bytes, as what is said of items.
use Rattle.std.proofs.Common.{◌≡◌, ℕ, pos, ◌-◌, ◌%◌, ◌<◌, ◌≤◌, ◌^◌, List, [], ◌∷◌, ◌++◌, length, refl, ap, sym}
use Rattle.std.proofs.Common.{◌∙◌, subst, arith, inl, inr, length-append, append-nil, append_assoc}
use Rattle.std.specs.Prelude.{Err, Contains}
use Rattle.xdr_units.specs.Numbers.{num4, padded}
use Rattle.xdr_types.specs.Kinds as xdr
use Rattle.xdr_types.specs.Kinds.{KindView, kind_at}
use Rattle.xdr_types.specs.Tree.{Tree}
use Rattle.xdr_types.specs.Fits.{Fits}
use Rattle.xdr_types.specs.Spelling.{bytes_of}
use Rattle.xdr_types.specs.Within.{Bounds}
use Rattle.xdr_types.specs.Layout.{Entry, entries}
use Rattle.xdr_types.specs.Outcome.{HasNextUnit, Outcome, Pending}
use Rattle.xdr_codec.proofs.Outcomes.{pending_none}
use Rattle.xdr_due.specs.Due.{IsDue, IsNothing}
use Rattle.xdr_due.specs.declared.due.Due.{Due}
use Rattle.xdr_due.specs.declared.due.Due.TheVariants as due
use Rattle.xdr_writer.specs.Items.{ItemView, number, flag, count, content, NodeItem, of_node, spelled_as, spelled}
use Rattle.xdr_writer.specs.Items.{all_spelled, items}
use Rattle.xdr_writer.specs.ItemsOf.{node_items_of, items_of}
use Rattle.xdr_writer.specs.Forms.{HasForm, IsInRange, HasRange, IsNext}
use Rattle.xdr_writer.specs.Represents.{Begin}
use Rattle.xdr_writer.specs.Answers.{Takes, IsBegun, IsEncoding, IsWritten, Refuses, IsKnown, HasNoValue, HasNoWhole}
use Rattle.xdr_writer.specs.Answers.{RefusesEnd}
use Rattle.xdr_writer.specs.Private.Bytes.{SaysWithin}
use Rattle.xdr_writer.specs.Private.After.{HasNothingDue}
use Rattle.xdr_writer.specs.Private.Becomes.{Becomes, IsPlace}
use Rattle.xdr_writer.specs.declared.refusal.Why.{Why}
use Rattle.xdr_writer.specs.declared.refusal.Why.TheVariants as why
use Rattle.xdr_writer.specs.declared.item.Step.{Step}
use Rattle.xdr_writer.specs.declared.item.Step.TheVariants as step
use Rattle.xdr_writer.proofs.Joined.{AreSome, some_behind, items_behind, padded_length}
use Rattle.xdr_writer.proofs.ItemsOf.{some_of}
use Rattle.xdr_writer.proofs.Placed.{IsAt, next_stands, bytes_behind, stands_within}
use Rattle.xdr_writer.proofs.Begin.{whole_items, here, none_left, not_none, first_or}
use Rattle.xdr_writer.proofs.Outcomes.{BegunBytes, TakesBytes, HasNone, ended, past, fault_none, past_none}
use Rattle.xdr_writer.proofs.Outcomes.{limit_none, whole_none}

-- the content of an item that is written is no longer than its bytes
content_low : (k : KindView) (bs : List ℕ) → length (spelled_as k (content bs)) ≤ 16777216 → length bs < 2 ^ 32
content_low (xdr.opaque size) bs low = omega (arith, low, padded_length bs)
content_low _ bs low = omega (arith, low, padded_length bs, length-append (num4 (pos (length bs))) (padded bs))

content_range : (s : List KindView) (k : KindView) (bs : List ℕ) → length bs < 2 ^ 32 → IsInRange s k (content bs)
content_range s (xdr.opaque size) bs low = tt
content_range s _ bs low = low

pub in_range : (s : List KindView) (k : KindView) (i : ItemView) → HasRange s k i
    → length (spelled_as k i) ≤ 16777216 → IsInRange s k i
in_range s k (number z) h low = h
in_range s k (flag b) h low = tt
in_range s k (count n) h low = h
in_range s k (content bs) h low = content_range s k bs (content_low k bs low)

module _ (s : List KindView) (t : ℕ) (l : Bounds) (is : List NodeItem) (begin : Begin s t is) where
  next_of : (i : ItemView) (v : Tree) (more : List ItemView) (rest : List NodeItem)
      → node_items_of s t v ≡ is ++ rest → items rest ≡ i ∷ more
      → (r : NodeItem) × (rs : List NodeItem) × (node_items_of s t v ≡ is ++ r ∷ rs) × (r.item ≡ i)
  next_of i v more [] known views = absurd (not_none i more views)
  next_of i v more (r ∷ rs) known views = (r, rs, known, ap (first_or i) views)

  -- the value's next item, where one of its items is known to follow
  value_next : (i : ItemView) (v : Tree) (more : List ItemView) → Fits s t v
      → items_of s t v ≡ items is ++ i ∷ more
      → (r : NodeItem) × (rs : List NodeItem) × (node_items_of s t v ≡ is ++ r ∷ rs) × (r.item ≡ i)
  value_next i v more f e =
      let k = begin.by_items v (i ∷ more) f e in
      next_of i v more k.0 k.1
      (items_behind is k.0 (i ∷ more) (sym (ap (λ (z : List NodeItem). items z) k.1) ∙ e))

  -- its item's bytes come first
  next_bytes : (v : Tree) (r : NodeItem) (rs : List NodeItem) → Fits s t v → node_items_of s t v ≡ is ++ r ∷ rs
      → (bytes_of s t v ≡ all_spelled is ++ (spelled r ++ all_spelled rs)) × (4 ≤ length (spelled r))
  next_bytes v r rs f e = (
    bytes_behind s t v is (r ∷ rs) f e,
    (some_behind is (r ∷ rs) (subst (λ (z : List NodeItem). AreSome z) e (some_of s t v f))).0,
  )

  -- ---- where nothing is due

  module _ (units : l.bytes % 4 ≡ 0) where
    pub undue_refuses : (i : ItemView) (w : Why) → HasNothingDue s t l (all_spelled is) w → Refuses s t l is i w
    undue_refuses i (why.Refused f) h = (h.0, inl h.1)
    undue_refuses i why.PastEnd h = inl (ended s t l units (all_spelled is) h)
    undue_refuses i why.NoMemory h = tt
    undue_refuses i why.WrongItem h = absurd h
    undue_refuses i why.NotInRange h = absurd h
    undue_refuses i why.PastLimit h = absurd h
    undue_refuses i why.Unfinished h = absurd h

  -- ---- the part that is due

  due_entry : (d : Due) → IsDue s t l (all_spelled is) d → (IsNothing d → ⊥)
      → (e : Entry) × HasNextUnit s t (all_spelled is) e
  due_entry (due.Unit k) h some = (h.0, h.1)
  due_entry (due.Content n) h some = (h.0, h.2)
  due_entry (due.Hyper signed) h some = (h.0, h.1)
  due_entry (due.Low signed) h some = (h.0, h.1)
  due_entry due.Nothing h some = absurd (some tt)

  place_of : (u : Entry) → HasNextUnit s t (all_spelled is) u → (v : Tree) → Fits s t v
      → Contains (entries s t v) u → (rest : List NodeItem) → node_items_of s t v ≡ is ++ rest
      → (e : Entry) × IsPlace s t (all_spelled is) e
  place_of u next v f has [] known =
      let whole : bytes_of s t v ≡ all_spelled is =
      bytes_behind s t v is [] f known ∙ append-nil (all_spelled is) in
      let count : length (bytes_of s t v) ≡ length (all_spelled is) = ap (λ (z : List ℕ). length z) whole in
      absurd (omega (arith, count, stands_within s t v u f has, next.4))
  place_of u next v f has (r ∷ rs) known =
      let g = next_stands s t v is r rs f known in
      (g.0, record { next = g.1; known = g.2.known; item = r.item; form = g.2.form })

  -- some item stands there
  pub place : (d : Due) → IsDue s t l (all_spelled is) d → (IsNothing d → ⊥)
      → (e : Entry) × IsPlace s t (all_spelled is) e
  place d h some =
      let u = due_entry d h some in
      let k = begin.by_bytes u.1.0 u.1.1.1 u.1.1.0 u.1.1.2 in
      place_of u.0 u.1 u.1.0 u.1.1.0 u.1.2 k.0 k.1

  -- ---- no value goes on with an item that is refused

  module _ (units : l.bytes % 4 ≡ 0) (i : ItemView) where
    module _ (e : Entry) (next : IsNext s t (all_spelled is) e) where
      wrong_none : (HasForm (kind_at s e.kind) e.role i → ⊥) → HasNoValue s t l is i
      wrong_none other v more within same =
          let n = value_next i v more within.0 same in
          let at = here s t is e next v n.0 n.1 within.0 n.2 in
          other (subst (λ (x : ItemView). HasForm (kind_at s e.kind) e.role x) n.3 at.form)

      far_none : (IsInRange s (kind_at s e.kind) i → ⊥) → HasNoValue s t l is i
      far_none other v more within same =
          let n = value_next i v more within.0 same in
          let at = here s t is e next v n.0 n.1 within.0 n.2 in
          other (subst (λ (x : ItemView). IsInRange s (kind_at s e.kind) x) n.3 at.range)

      bytes_none : HasNone s t l (all_spelled is ++ spelled_as (kind_at s e.kind) i) → HasNoValue s t l is i
      bytes_none none v more within same =
          let n = value_next i v more within.0 same in
          let at = here s t is e next v n.0 n.1 within.0 n.2 in
          let u : List ℕ = spelled_as (kind_at s e.kind) i in
          let item : spelled n.0 ≡ u =
          ap (λ (x : KindView). spelled_as x n.0.item) at.kind
          ∙ ap (λ (x : ItemView). spelled_as (kind_at s e.kind) x) n.3 in
          none v (all_spelled n.1) within
          ((next_bytes v n.0 n.1 within.0 n.2).0
          ∙ ap (λ (z : List ℕ). all_spelled is ++ (z ++ all_spelled n.1)) item
          ∙ sym (append_assoc (all_spelled is) u (all_spelled n.1)))

    -- where the bytes before it are refused, or are a value's
    before_none : HasNone s t l (all_spelled is) → HasNoValue s t l is i
    before_none none v more within same =
        let n = value_next i v more within.0 same in
        none v (spelled n.0 ++ all_spelled n.1) within (next_bytes v n.0 n.1 within.0 n.2).0

    behind_none : IsEncoding s t l (all_spelled is) → HasNoValue s t l is i
    behind_none w v more within same =
        let n = value_next i v more within.0 same in
        let bytes = next_bytes v n.0 n.1 within.0 n.2 in
        whole_none s t l units (all_spelled is) w v (spelled n.0 ++ all_spelled n.1) within
        (omega (arith, bytes.1, length-append (spelled n.0) (all_spelled n.1))) bytes.0

    pub refused_none : (w : Why) → Refuses s t l is i w → IsKnown w → HasNoValue s t l is i
    refused_none why.WrongItem h known = wrong_none h.1 h.2 h.3
    refused_none why.NotInRange h known = far_none h.1 h.2 h.4
    refused_none (why.Refused f) h known = elim h.1 [
      | inl before ↦ before_none (fault_none s t l units f (all_spelled is) h.0 before)
      | inr there ↦ bytes_none there.0 there.1
          (fault_none s t l units f (all_spelled is ++ spelled_as (kind_at s there.0.kind) i) h.0 there.4.1)
    ]
    refused_none why.PastEnd h known = elim h [
      | inl before ↦ behind_none before
      | inr there ↦ bytes_none there.0 there.1
          (past_none s t l units (all_spelled is) (spelled_as (kind_at s there.0.kind) i) there.4.1
          there.4.2 there.4.3)
    ]
    refused_none why.PastLimit h known =
        let r = h.1 in
        bytes_none r.0 r.1 (limit_none s t l units (all_spelled is ++ spelled_as (kind_at s r.0.kind) i) r.4)
    refused_none why.Unfinished h known = absurd h
    refused_none why.NoMemory h known = absurd known

  -- ---- at that part

  module _ (e : Entry) (p : IsPlace s t (all_spelled is) e) (i : ItemView) where
    module _ (pending : Outcome s t l (all_spelled is) Pending) (units : l.bytes % 4 ≡ 0) (space : ℕ)
        (room : space ≡ l.bytes - length (all_spelled is))
        (form : HasForm (kind_at s e.kind) e.role i) (range : HasRange s (kind_at s e.kind) i)
        (some : 4 ≤ length (spelled_as (kind_at s e.kind) i)) where
      low : length (spelled_as (kind_at s e.kind) i) ≤ space
          → length (all_spelled is ++ spelled_as (kind_at s e.kind) i) ≤ l.bytes
      low fits = omega (arith, fits, room, some, length-append (all_spelled is) (spelled_as (kind_at s e.kind) i))

      pub within_refuse : (w : Why)
          → SaysWithin s t l space (all_spelled is) (spelled_as (kind_at s e.kind) i) (Err w) → Refuses s t l is i w
      within_refuse (why.Refused f) h = (h.1.0, inr (e, p.next, form, range, (low h.0, h.1.1)))
      within_refuse why.PastEnd h =
          inr (
            e,
            p.next,
            form,
            range,
            (
              low h.0,
              h.1.0,
              h.1.1,
              past s t l units (all_spelled is) (spelled_as (kind_at s e.kind) i) h.1.0 h.1.2 h.1.3,
            ),
          )
      within_refuse why.PastLimit h = (
        pending,
        (
          e,
          p.next,
          form,
          range,
          omega (arith, h, room, length-append (all_spelled is) (spelled_as (kind_at s e.kind) i)),
        ),
      )
      within_refuse why.WrongItem h = absurd (omega (arith, some, h))
      within_refuse why.NoMemory h = tt
      within_refuse why.NotInRange h = absurd h.1
      within_refuse why.Unfinished h = absurd h.1

    pub coded_refuse : Outcome s t l (all_spelled is) Pending → (w : Why)
        → Becomes s (kind_at s e.kind) e.role i (Err w) → Refuses s t l is i w
    coded_refuse pending why.WrongItem h = (pending, e, p.next, h)
    coded_refuse pending why.NotInRange h = (pending, e, p.next, h.0, h.1)
    coded_refuse pending (why.Refused f) h = absurd h
    coded_refuse pending why.PastEnd h = absurd h
    coded_refuse pending why.PastLimit h = absurd h
    coded_refuse pending why.Unfinished h = absurd h
    coded_refuse pending why.NoMemory h = absurd h

    pub stands_at : HasForm (kind_at s e.kind) e.role i → IsInRange s (kind_at s e.kind) i
        → IsAt s e (of_node (kind_at s e.kind) i)
    stands_at form range = record { kind = refl; known = p.known; form = form; range = range }

-- ---- all items so far

module _ (s : List KindView) (t : ℕ) (l : Bounds) (is : List NodeItem) (begin : Begin s t is) where
  whole_by_items : (v : Tree) → Fits s t v → items_of s t v ≡ items is → bytes_of s t v ≡ all_spelled is
  whole_by_items v f e =
      let k = begin.by_items v [] f (e ∙ sym (append-nil (items is))) in
      let rest : items k.0 ≡ [] =
      items_behind is k.0 []
      (sym (ap (λ (z : List NodeItem). items z) k.1) ∙ e ∙ sym (append-nil (items is))) in
      bytes_behind s t v is k.0 f k.1
      ∙ ap (λ (z : List NodeItem). all_spelled is ++ all_spelled z) (none_left s t k.0 rest)
      ∙ append-nil (all_spelled is)

  pub written_items : IsEncoding s t l (all_spelled is) → IsWritten s t l is
  written_items w = (w.0, w.1, whole_items s t is begin w.0 w.1.0 w.2, w.2)

  front_items : ((v : Tree) → Fits s t v → bytes_of s t v ≡ all_spelled is → ⊥) → (v : Tree) → Fits s t v
      → (rest : List NodeItem) → node_items_of s t v ≡ is ++ rest
      → (w : Tree) × Fits s t w × (next : NodeItem) × (more : List NodeItem)
      × (node_items_of s t w ≡ is ++ next ∷ more)
  front_items no_whole v f [] known =
      absurd (no_whole v f (bytes_behind s t v is [] f known ∙ append-nil (all_spelled is)))
  front_items no_whole v f (r ∷ rs) known = (v, f, r, rs, known)

  pub begun_items : BegunBytes s t l (all_spelled is) → IsBegun s t l is
  begun_items g =
      let k = begin.by_bytes g.front.0 g.front.1.1 g.front.1.0 g.front.1.2 in
      record {
        begins = front_items g.unfinished g.front.0 g.front.1.0 k.0 k.1;
        unfinished = λ v f e. g.unfinished v f (whole_by_items v f e);
        outcome = g.outcome;
      }

  pub takes_items : (x : Step) → TakesBytes s t l (all_spelled is) x → Takes s t l is x
  takes_items step.More g = begun_items g
  takes_items step.Done w = written_items w

  -- ---- the end

  pub end_none : (units : l.bytes % 4 ≡ 0) (w : Why) → RefusesEnd s t l is w → HasNoWhole s t l is
  end_none units why.Unfinished h v within e =
      pending_none s t l units (all_spelled is) h v [] within
      (append-nil (bytes_of s t v) ∙ whole_by_items v within.0 e)
  end_none units (why.Refused f) h v within e =
      fault_none s t l units f (all_spelled is) h.0 h.1 v [] within
      (whole_by_items v within.0 e ∙ sym (append-nil (all_spelled is)))
  end_none units why.WrongItem h v within e = absurd h
  end_none units why.NotInRange h v within e = absurd h
  end_none units why.PastEnd h v within e = absurd h
  end_none units why.PastLimit h v within e = absurd h
  end_none units why.NoMemory h v within e = absurd h
