-- What a writer represents that took several numbers, and what its refusal of one of them says.
use Rattle.std.proofs.Common.{◌≡◌, ℕ, ℤ, ◌+◌, ◌-◌, ◌*◌, ◌%◌, ◌<◌, ◌≤◌, Bool, List, [], ◌∷◌, ◌++◌, length, take}
use Rattle.std.proofs.Common.{refl, ap, sym, ◌∙◌, subst, arith, append-nil, append_assoc, length-append}
use Rattle.std.specs.Prelude.{None, Some, Option, Ok, Err, IfSome}
use Rattle.xdr_types.specs.Kinds.{KindView, Lists}
use Rattle.xdr_types.specs.Within.{Bounds}
use Rattle.xdr_types.specs.declared.kind.KindId.{KindId}
use Rattle.xdr_types.specs.Outcome.{Outcome, Pending}
use Rattle.xdr_codec.specs.Checks as checks
use Rattle.xdr_writer.specs.Items.{ItemView, number, NodeItem, of_node, all_spelled, items}
use Rattle.xdr_writer.specs.Represents.{RepresentsItems, Begin, AreDue, IsSame, word_kind, numbers_in, kinds_of}
use Rattle.xdr_writer.specs.Represents.{kind_of}
use Rattle.xdr_writer.specs.Answers.{Took, Takes, IsBegun, Refuses, Rejects, IsKnown, HasNoValue}
use Rattle.xdr_writer.specs.Runs.{as_items, TookAll, RejectsOne}
use Rattle.xdr_writer.specs.Private.Judged.{IsJudged}
use Rattle.xdr_writer.specs.Private.Runs.{words, AreWords, IsCount, MayTake}
use Rattle.xdr_writer.specs.declared.refusal.Why.{Why}
use Rattle.xdr_writer.specs.declared.refusal.WriteRefusal.{WriteRefusal}
use Rattle.xdr_writer.specs.declared.item.Step.{Step}
use Rattle.xdr_writer.specs.declared.item.Step.TheVariants as step
use Rattle.xdr_writer.specs.declared.writer.Writer.{Writer}
use Rattle.xdr_writer.proofs.Joined.{all_units, joined, items_joined}
use Rattle.xdr_writer.proofs.Putting.{refused_none}
use Rattle.xdr_writer.proofs.Begin.{none_left}
use Rattle.xdr_writer.proofs.Finding.{pending_of, waits_indeed}
use Rattle.xdr_writer.proofs.Run.{run_items, run_count, run_spelled}
use Rattle.xdr_writer.proofs.AtOnce.{words_length, split_at, front_bytes, run_takes, run_refused}
use Rattle.xdr_writer.proofs.Settings.{carried}

-- ---- numbers that were given at once

module _ (a w : Writer) (is : List NodeItem) (r : RepresentsItems a is) (zs : List ℤ)
    (low : AreWords a.known.run.signed zs) (may : MayTake a (length zs)) (some : 1 ≤ length zs)
    (units : a.limits.bytes % 4 ≡ 0) (most : a.limits.bytes ≤ 16777216) (same : checks.IsSame a.checker w.checker)
    (before after : List ℕ) where
  abbrev s : List KindView
  s = kinds_of a

  abbrev t : ℕ
  t = kind_of a

  abbrev l : Bounds
  l = checks.limits_of a.checker

  abbrev signed : Bool
  signed = a.known.run.signed

  abbrev b : List ℕ
  b = all_spelled is

  limit : l.bytes ≡ a.limits.bytes
  limit = ap (λ (x : Bounds). x.bytes) a.limits_are

  whole : l.bytes % 4 ≡ 0
  whole = ap (λ (n : ℕ). n % 4) limit ∙ units

  first : 4 ≤ length b
  first = omega (arith, all_units is, r.written, may.begun)

  pub words_took : (x : Step) → IsJudged a.checker w.checker b (words zs) (Ok x) → w.refused ≡ None
      → w.written ≡ a.written + 4 * length zs → w.count ≡ a.count + length zs
      → w.known.run.left + length zs ≡ a.known.run.left → w.known.run.signed ≡ signed → after ≡ before ++ words zs
      → TookAll a w is zs before after (Some x)
  words_took x judged refused written count left is_signed grown =
      let g = run_takes s t l whole signed is r.begin zs low first a.known.run.left r.due may.due some x judged.says in
      let more : List NodeItem = numbers_in (word_kind signed) zs in
      let bytes : all_spelled (is ++ more) ≡ b ++ words zs =
      joined is more ∙ ap (λ (q : List ℕ). b ++ q) (run_spelled signed zs) in
      let rest : a.known.run.left - length zs ≡ w.known.run.left = omega (arith, left) in
      let due : AreDue s t (is ++ more) w.known.run.left (word_kind w.known.run.signed) =
      subst (λ (n : ℕ). AreDue s t (is ++ more) n (word_kind w.known.run.signed)) rest
      (subst (λ (y : Bool). AreDue s t (is ++ more) (a.known.run.left - length zs) (word_kind y)) (sym is_signed)
      g.1) in
      record {
        more = more;
        numbers = run_items (word_kind signed) zs;
        represents = record {
          goes_on = refused;
          bytes = subst (λ (q : List ℕ). checks.RepresentsBytes w.checker q) (sym bytes) judged.represents;
          written = omega (
            arith,
            written,
            r.written,
            ap (λ (q : List ℕ). length q) bytes,
            length-append b (words zs),
            words_length zs,
          );
          count = omega (arith, count, r.count, length-append is more, run_count (word_kind signed) zs);
          begin = carried (λ (x : List KindView) (n : ℕ) (y : Bounds). Begin x n (is ++ more)) a.checker w.checker same
              g.0;
          due = carried (λ (x : List KindView) (n : ℕ) (y : Bounds). AreDue x n (is ++ more) w.known.run.left
              (word_kind w.known.run.signed)) a.checker w.checker same due;
        };
        bytes = grown ∙ ap (λ (q : List ℕ). before ++ q) (sym (run_spelled signed zs));
        takes = subst (λ (y : Bounds). Takes s t y (is ++ more) x) a.limits_are g.2;
        none = λ e. absurd (cc e);
      }

  pub words_rejects : (v : Why) (taken : ℕ) (f : WriteRefusal)
      → IsJudged a.checker w.checker b (words zs) (Err v) → IsCount v a.written (length zs) taken
      → taken < length zs → f.why ≡ v → f.item ≡ a.count + taken
      → after ≡ take (length before + 4 * taken) (before ++ words zs) → RejectsOne a w is zs before after f
  words_rejects v taken f judged is_count less is_why is_item cut =
      let p = split_at taken zs less in
      let quiet : Outcome s t l b Pending = pending_of a.checker b
      (waits_indeed a.checker.reader.state (a.waiting may.waits)) r.bytes in
      let room : length (b ++ words zs) ≤ l.bytes =
      omega (arith, length-append b (words zs), words_length zs, r.written, may.low, limit) in
      let g = run_refused s t l whole signed is r.begin zs low first a.known.run.left r.due may.due quiet room v taken
      judged.says (subst (λ (n : ℕ). IsCount v n (length zs) taken) r.written is_count)
      (omega (arith, limit, most)) p.0 p.1 p.2 p.3 p.4 in
      let more : List NodeItem = numbers_in (word_kind signed) p.0 in
      let refuses : Refuses s t l (is ++ more) (number p.1) f.why =
      subst (λ (x : Why). Refuses s t l (is ++ more) (number p.1) x) (sym is_why) g.2 in
      record {
        taken = p.0;
        bad = p.1;
        later = p.2;
        split = p.3;
        more = more;
        numbers = run_items (word_kind signed) p.0;
        bytes = cut
            ∙ ap (λ (n : ℕ). take (length before + 4 * n) (before ++ words zs)) (sym p.4)
            ∙ ap (λ (x : List ℤ). take (length before + 4 * length p.0) (before ++ words x)) p.3
            ∙ front_bytes before p.0 (p.1 ∷ p.2)
            ∙ ap (λ (q : List ℕ). before ++ q) (sym (run_spelled signed p.0));
        begin = g.0;
        takes = λ few. (step.More, subst (λ (y : Bounds). IsBegun s t y (is ++ more)) a.limits_are (g.1 few));
        refuses = subst (λ (y : Bounds). Refuses s t y (is ++ more) (number p.1) f.why) a.limits_are refuses;
        item = omega (
          arith,
          is_item,
          r.count,
          length-append is more,
          run_count (word_kind signed) p.0,
          p.4,
        );
        no_value = λ known. subst (λ (y : Bounds). HasNoValue s t y (is ++ more) (number p.1)) a.limits_are
            (refused_none s t l (is ++ more) g.0 whole (number p.1) f.why refuses known);
      }

-- ---- one that was put by itself

pub one_took : (a w : Writer) (is : List NodeItem) (z : ℤ) (zs : List ℤ) (before after : List ℕ) (x : Step)
    → Took a w is (number z) before after x → TookAll a w is (take 1 (z ∷ zs)) before after (Some x)
one_took a w is z zs before after x h = record {
  more = of_node h.kind (number z) ∷ [];
  numbers = refl;
  represents = h.represents;
  bytes = h.bytes ∙ ap (λ (q : List ℕ). before ++ q) (sym (append-nil _));
  takes = h.takes;
  none = λ e. absurd (cc e);
}

pub one_rejects : (a w : Writer) (is : List NodeItem) (z : ℤ) (zs : List ℤ) (before after : List ℕ) (f : WriteRefusal)
    → RepresentsItems a is → Rejects a w (number z) before after (Err f) → RejectsOne a w is (z ∷ zs) before after f
one_rejects a w is z zs before after f r h =
    let none : is ++ [] ≡ is = append-nil is in
    record {
      taken = [];
      bad = z;
      later = zs;
      split = refl;
      more = [];
      numbers = refl;
      bytes = h.retained ∙ sym (append-nil before);
      begin = subst (λ (x : List NodeItem). Begin (kinds_of a) (kind_of a) x) (sym none) r.begin;
      takes = λ few. absurd (omega (arith, few));
      refuses = subst (λ (x : List NodeItem). Refuses (kinds_of a) (kind_of a) a.limits x (number z) f.why) (sym none)
          (h.refuses is r).0;
      item = (h.refuses is r).1 ∙ ap (λ (x : List NodeItem). length x) (sym none);
      no_value = subst (λ (x : List NodeItem). IsKnown f.why
          → HasNoValue (kinds_of a) (kind_of a) a.limits x (number z)) (sym none) (h.no_value is r);
    }

-- ---- several behind others

joined_items : (xs ys : List ℤ) → as_items (xs ++ ys) ≡ as_items xs ++ as_items ys
joined_items [] ys = refl
joined_items (x ∷ xs) ys = ap (λ (q : List ItemView). number x ∷ q) (joined_items xs ys)

same_bounds : (a w : Writer) → IsSame a w → (Said : List KindView → ℕ → Bounds → Type 0)
    → Said (kinds_of w) (kind_of w) w.limits → Said (kinds_of a) (kind_of a) a.limits
same_bounds a w same Said h =
    subst (λ (y : Bounds). Said (kinds_of a) (kind_of a) y) same.limits_are
    (subst (λ (y : KindId). Said (kinds_of a) y.place w.limits) same.checker.kind_is
    (subst (λ (y : Lists). Said y.kinds (kind_of w) w.limits) same.checker.schema_is h))

module _ (a w x : Writer) (same : IsSame a w) (is : List NodeItem) (xs : List ℤ) (before middle after : List ℕ)
    (last : Option Step) (first : TookAll a w is xs before middle last) where
  numbers_then : (ys : List ℤ) (more : List NodeItem) → items more ≡ as_items ys
      → items (first.more ++ more) ≡ as_items (xs ++ ys)
  numbers_then ys more e =
      items_joined first.more more ∙ ap (λ (q : List ItemView). q ++ items more) first.numbers
      ∙ ap (λ (q : List ItemView). as_items xs ++ q) e ∙ sym (joined_items xs ys)

  bytes_then : (more : List NodeItem) → after ≡ middle ++ all_spelled more
      → after ≡ before ++ all_spelled (first.more ++ more)
  bytes_then more e =
      e ∙ ap (λ (q : List ℕ). q ++ all_spelled more) first.bytes
      ∙ append_assoc before (all_spelled first.more) (all_spelled more)
      ∙ ap (λ (q : List ℕ). before ++ q) (sym (joined first.more more))

  pub took_then : (ys : List ℤ) (s : Step) → TookAll w x (is ++ first.more) ys middle after (Some s)
      → TookAll a x is (xs ++ ys) before after (Some s)
  took_then ys s next =
      let same_list : (is ++ first.more) ++ next.more ≡ is ++ (first.more ++ next.more) =
      append_assoc is first.more next.more in
      record {
        more = first.more ++ next.more;
        numbers = numbers_then ys next.more next.numbers;
        represents = subst (λ (q : List NodeItem). RepresentsItems x q) same_list next.represents;
        bytes = bytes_then next.more next.bytes;
        takes = same_bounds a w same (λ (k : List KindView) (n : ℕ) (y : Bounds). Takes k n y
            (is ++ (first.more ++ next.more)) s)
            (subst (λ (q : List NodeItem). Takes (kinds_of w) (kind_of w) w.limits q s) same_list next.takes);
        none = λ e. absurd (cc e);
      }

  abbrev TakesSo : List NodeItem → Type 0
  TakesSo is = (s : Step) × Takes (kinds_of a) (kind_of a) a.limits is s

  takes_first : (o : Option Step)
      → IfSome o (λ (s : Step). Takes (kinds_of a) (kind_of a) a.limits (is ++ first.more) s)
      → (o ≡ None → xs ≡ []) → 0 < length xs → TakesSo (is ++ first.more)
  takes_first (Some s) h none few = (s, h)
  takes_first None h none few = absurd (omega (arith, few, ap (λ (z : List ℤ). length z) (none refl)))

  grouped : (more : List NodeItem) → (is ++ first.more) ++ more ≡ is ++ (first.more ++ more)
  grouped more = append_assoc is first.more more

  takes_then : (ts : List ℤ) (more : List NodeItem) → items more ≡ as_items ts
      → (0 < length ts → (s : Step) × Takes (kinds_of w) (kind_of w) w.limits ((is ++ first.more) ++ more) s)
      → 0 < length (xs ++ ts) → TakesSo (is ++ (first.more ++ more))
  takes_then [] more e h few =
      let alone : first.more ++ more ≡ first.more =
      ap (λ (q : List NodeItem). first.more ++ q) (none_left (kinds_of a) (kind_of a) more e) ∙ append-nil first.more in
      subst (λ (q : List NodeItem). TakesSo (is ++ q)) (sym alone)
      (takes_first last first.takes first.none
      (omega (arith, few, ap (λ (z : List ℤ). length z) (append-nil xs))))
  takes_then (t ∷ ts) more e h few =
      let k = h (omega arith) in (
        k.0,
        same_bounds a w same (λ (y : List KindView) (n : ℕ) (z : Bounds). Takes y n z (is ++ (first.more ++ more)) k.0)
            (subst (λ (q : List NodeItem). Takes (kinds_of w) (kind_of w) w.limits q k.0) (grouped more) k.1),
      )

  -- what is said of all items so far
  said : (more : List NodeItem) (Said : List KindView → ℕ → Bounds → List NodeItem → Type 0)
      → Said (kinds_of w) (kind_of w) w.limits ((is ++ first.more) ++ more)
      → Said (kinds_of a) (kind_of a) a.limits (is ++ (first.more ++ more))
  said more Said h =
      same_bounds a w same (λ (y : List KindView) (n : ℕ) (z : Bounds). Said y n z (is ++ (first.more ++ more)))
      (subst (λ (q : List NodeItem). Said (kinds_of w) (kind_of w) w.limits q) (grouped more) h)

  pub rejects_then : (ys : List ℤ) (f : WriteRefusal) → RejectsOne w x (is ++ first.more) ys middle after f
      → RejectsOne a x is (xs ++ ys) before after f
  rejects_then ys f next = record {
    taken = xs ++ next.taken;
    bad = next.bad;
    later = next.later;
    split = ap (λ (q : List ℤ). xs ++ q) next.split ∙ sym (append_assoc xs next.taken (next.bad ∷ next.later));
    more = first.more ++ next.more;
    numbers = numbers_then next.taken next.more next.numbers;
    bytes = bytes_then next.more next.bytes;
    begin = said next.more (λ (k : List KindView) (n : ℕ) (y : Bounds) (q : List NodeItem). Begin k n q) next.begin;
    takes = takes_then next.taken next.more next.numbers next.takes;
    refuses = said next.more (λ (k : List KindView) (n : ℕ) (y : Bounds) (q : List NodeItem). Refuses k n y q
        (number next.bad) f.why) next.refuses;
    item = next.item ∙ ap (λ (q : List NodeItem). length q) (grouped next.more);
    no_value = said next.more (λ (k : List KindView) (n : ℕ) (y : Bounds) (q : List NodeItem). IsKnown f.why
        → HasNoValue k n y q (number next.bad)) next.no_value;
  }
