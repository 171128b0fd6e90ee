-- The steps of a direction, over whatever bytes its places have.
use Rattle.std.proofs.Common.{◌≡◌, ℕ, ◌+◌, ◌≤◌, List, [], ◌++◌, length, Option, Some, None}
use Rattle.std.proofs.Common.{sym, ap, subst, ◌∙◌, inl, inr, arith}
use Rattle.std.proofs.lemmas.Bool.{cases_lt}
use Rattle.std.proofs.lemmas.List.{length-append}
use Rattle.std.specs.BTreeMap.{BTreeMap}
use Rattle.std.specs.Option.{option_or}
use Rattle.capture_streams.specs.declared.piece.Piece.{Piece}
use Rattle.capture_streams.specs.declared.direction.Direction.{Direction}
use Rattle.capture_streams.specs.Segments.{byte_from, IsFront}
use Rattle.capture_streams.specs.Held.{HoldsAt, IsHeld, AreApart, StandFrom}
use Rattle.capture_streams.specs.Represents.{Represents}
use Rattle.capture_streams.specs.Private.Pieces.{EachPlace, IsFirst, Drops}
use Rattle.capture_streams.specs.Private.Steps.{patched, Appends, Pops}
use Rattle.capture_streams.proofs.Bytes.{byte_from-append, byte_from-past}
use Rattle.capture_streams.proofs.Bytes.{byte_from-high, byte_from-low}
use Rattle.capture_streams.proofs.Bytes.{option_or-assoc, option_or-none, front_joined, front_same, front_from}
use Rattle.capture_streams.proofs.Bytes.{front_at}
use Rattle.capture_streams.proofs.Holding.{none_held}
use Rattle.capture_streams.proofs.Firsts.{dropped_holds, first_gives, first_due}

-- a direction represents any map that has the same bytes from its base on
pub same_represents : (d : Direction) (g h : ℕ → Option ℕ) (base : ℕ) (handed : List ℕ)
    → ((p : ℕ) → base ≤ p → g p ≡ h p) → Represents d g base handed → Represents d h base handed
same_represents d g h base handed same r = record {
  due = r.due;
  front = front_same g h base handed (λ p b low high e. sym (same p low) ∙ e) r.front;
  held = λ p low.
      let from = r.due in
      let k : base ≤ p = omega arith in
      subst (λ (o : Option ℕ). HoldsAt d.pieces.by_last p o) (same p k) (r.held p low);
}

-- a place that has a byte keeps it
pub patched_some : (g : ℕ → Option ℕ) (at : ℕ) (bytes : List ℕ) (p b : ℕ) → g p ≡ Some b
    → patched g at bytes p ≡ Some b
patched_some g at bytes p b e = ap (λ (o : Option ℕ). option_or o (byte_from at bytes p)) e

patched_none : (g : ℕ → Option ℕ) (at : ℕ) (bytes : List ℕ) (p : ℕ) → byte_from at bytes p ≡ None
    → patched g at bytes p ≡ g p
patched_none g at bytes p e = ap (option_or (g p)) e ∙ option_or-none (g p)

-- no bytes change nothing
pub patched-nil : (g : ℕ → Option ℕ) (at p : ℕ) → patched g at [] p ≡ g p
patched-nil g at p = option_or-none (g p)

-- bytes one part behind the other
pub patched-append : (g : ℕ → Option ℕ) (at : ℕ) (xs ys : List ℕ) (p : ℕ)
    → patched (patched g at xs) (at + length xs) ys p ≡ patched g at (xs ++ ys) p
patched-append g at xs ys p =
    option_or-assoc (g p) (byte_from at xs p) (byte_from (at + length xs) ys p)
    ∙ ap (option_or (g p)) (sym (byte_from-append at xs ys p))

-- ---- bytes at the due place, where none is held

pub appended : (old new : Direction) (bytes : List ℕ) (g : ℕ → Option ℕ) (base : ℕ) (before : List ℕ)
    → new.due ≡ old.due + length bytes → new.pieces.by_last ≡ old.pieces.by_last
    → EachPlace old.due (length bytes) (λ p. HoldsAt old.pieces.by_last p None)
    → Represents old g base before → Represents new (patched g old.due bytes) base (before ++ bytes)
appended old new bytes g base before due pieces gap r =
    let at = r.due in
    let long = length-append before bytes in
    let keeps : IsFront (patched g old.due bytes) base before =
    front_same g (patched g old.due bytes) base before
    (λ p b low high e. patched_some g old.due bytes p b e) r.front in
    let adds : IsFront (patched g old.due bytes) old.due bytes =
    front_from (patched g old.due bytes) old.due bytes (λ p b e.
    let low = byte_from-low old.due bytes p b e in
    let high = byte_from-high old.due bytes p b e in
    let none : g p ≡ None = none_held old.pieces.by_last p (g p) (r.held p low) (gap p low high) in
    ap (λ (o : Option ℕ). option_or o (byte_from old.due bytes p)) none ∙ e) in
    record {
      due = omega arith;
      front = front_joined (patched g old.due bytes) base before bytes keeps
          (subst (λ (n : ℕ). IsFront (patched g old.due bytes) n bytes) at adds);
      held = λ p low.
          let past : old.due + length bytes ≤ p = omega arith in
          let same : g p ≡ patched g old.due bytes p =
          sym (patched_none g old.due bytes p (byte_from-past old.due bytes p past)) in
          subst (λ (m : BTreeMap ℕ Piece). HoldsAt m p (patched g old.due bytes p)) (sym pieces)
          (subst (λ (o : Option ℕ). HoldsAt old.pieces.by_last p o) same (r.held p (omega arith)));
    }

-- ---- the first piece, which is due

pub popped : (old new : Direction) (l : ℕ) (v : Piece) (g : ℕ → Option ℕ) (base : ℕ) (before : List ℕ)
    → AreApart old.pieces.by_last → IsFirst old.pieces.by_last l v
    → Drops old.pieces.by_last new.pieces.by_last l → v.at ≡ old.due
    → new.due ≡ v.at + length v.bytes.items → Represents old g base before
    → Represents new g base (before ++ v.bytes.items)
popped old new l v g base before a f d begins due r =
    let at = r.due in
    let long = length-append before v.bytes.items in
    let ends = (a.whole l v f.there).ends in
    let adds : IsFront g v.at v.bytes.items =
    front_from g v.at v.bytes.items (λ p b e.
    let low = byte_from-low v.at v.bytes.items p b e in
    first_gives old.pieces.by_last l p b v a f.there e (g p) (r.held p (omega arith))) in
    let from : v.at ≡ base + length before = begins ∙ at in
    record {
      due = omega arith;
      front = front_joined g base before v.bytes.items r.front
          (subst (λ (n : ℕ). IsFront g n v.bytes.items) from adds);
      held = λ p low.
          dropped_holds old.pieces.by_last new.pieces.by_last l p v a d (omega arith) (g p)
          (r.held p (omega arith));
    }

-- ---- bytes of which the next ones are handed on or held already

pub covered : (d : Direction) (g : ℕ → Option ℕ) (at : ℕ) (xs ys : List ℕ) (base : ℕ) (handed : List ℕ)
    → at + length (xs ++ ys) ≤ d.due → Represents d (patched g at xs) base handed
    → Represents d (patched g at (xs ++ ys)) base handed
covered d g at xs ys base handed few r =
    let due = r.due in
    let long = length-append xs ys in
    let same : (p : ℕ) → base ≤ p → patched (patched g at xs) (at + length xs) ys p ≡ patched g at xs p = λ p low.
    elim (cases_lt p d.due) [
      | inl before ↦
          let there = front_at (patched g at xs) base handed r.front p low (omega arith) in
          patched_some (patched g at xs) (at + length xs) ys p there.0 there.1 ∙ sym there.1
      | inr behind ↦
          patched_none (patched g at xs) (at + length xs) ys p
          (byte_from-past (at + length xs) ys p (omega arith))
    ] in
    same_represents d (patched g at xs) (patched g at (xs ++ ys)) base handed
    (λ p low. sym (same p low) ∙ patched-append g at xs ys p) r

-- ---- the same as records

pub appends : (old new : Direction) (bytes out out' : List ℕ) → out' ≡ out ++ bytes
    → new.due ≡ old.due + length bytes → new.pieces.by_last ≡ old.pieces.by_last
    → EachPlace old.due (length bytes) (λ p. HoldsAt old.pieces.by_last p None) → Appends old new bytes out out'
appends old new bytes out out' grown due pieces gap = record {
  appended = grown;
  moves = λ g base before r. appended old new bytes g base before due pieces gap r;
  due = due;
}

pub pops : (old new : Direction) (l : ℕ) (v : Piece) (out out' : List ℕ) → AreApart old.pieces.by_last
    → StandFrom old.due old.pieces.by_last → IsHeld old.pieces.by_last old.due → IsFirst old.pieces.by_last l v
    → Drops old.pieces.by_last new.pieces.by_last l → new.due ≡ v.at + length v.bytes.items
    → out' ≡ out ++ v.bytes.items → Pops old new out out'
pops old new l v out out' a from held f d due grown =
    let begins = first_due old.pieces.by_last old.due l v a from held f in
    let some = (a.whole l v f.there).some in
    record {
      handed = v.bytes.items;
      appended = grown;
      moves = λ g base before r. popped old new l v g base before a f d begins due r;
      further = omega arith;
    }
