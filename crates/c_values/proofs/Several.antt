-- What numbers that are put at once say of the items that tell them.
use Rattle.std.proofs.Common.{◌≡◌, ℕ, ℤ, ◌+◌, ◌<◌, ◌≤◌, List, [], ◌∷◌, ◌++◌, length, take, drop, refl, sym, ap, subst}
use Rattle.std.proofs.Common.{get_or, ◌∙◌, arith, append-nil, append_assoc, length-append, zero, suc}
use Rattle.std.specs.Prelude.{Option, Some, None, unwrap_or}
use Rattle.std.proofs.lemmas.List.{take-append-drop, length-take-le}
use Rattle.std.proofs.Math.ListN.{set, length-set}
use Rattle.std.proofs.Math.Seq.{take-suc, take-suc-set}
use Rattle.xdr_types.specs.Kinds.{KindView}
use Rattle.xdr_types.specs.Tree.{Tree}
use Rattle.xdr_types.specs.Within.{Bounds}
use Rattle.xdr_writer.specs.Items.{ItemView, number, NodeItem, spelled, all_spelled, items}
use Rattle.xdr_writer.specs.ItemsOf.{items_of}
use Rattle.xdr_writer.specs.Answers.{Takes, IsKnown, HasNoValue}
use Rattle.xdr_writer.specs.Represents.{kinds_of, kind_of}
use Rattle.xdr_writer.specs.Runs.{as_items, TookAll, RejectsOne}
use Rattle.xdr_writer.specs.declared.refusal.WriteRefusal.{WriteRefusal}
use Rattle.xdr_writer.specs.declared.item.Step.{Step}
use Rattle.xdr_writer.specs.declared.item.Step.TheVariants as step
use Rattle.xdr_writer.specs.declared.writer.Writer.{Writer}
use Rattle.c_values.specs.declared.answer.Answer.{Answer}
use Rattle.c_values.specs.declared.answer.Answer.TheVariants as answer
use Rattle.c_values.specs.declared.item.ItemWhy.{ItemWhy}
use Rattle.c_values.specs.declared.item.ItemWhy.TheVariants as fault
use Rattle.c_values.specs.declared.item.ValueItem.{ValueItem}
use Rattle.c_values.specs.Answers.{Question}
use Rattle.c_values.specs.Items.{given, Tells, AreTold}
use Rattle.c_values.specs.Written.{HasNoneWith, IsBadItem, AreBad}
use Rattle.c_values.specs.Private.Writing.{asked, IsWriting, IsTaken, IsUnwritten, Reports}
use Rattle.c_values.proofs.Telling.{tells_one, told_one, told_last}

items_joined : (is js : List NodeItem) → items (is ++ js) ≡ items is ++ items js
items_joined [] js = refl
items_joined (i ∷ is) js = ap (λ (xs : List ItemView). i.item ∷ xs) (items_joined is js)

spelled_joined : (is js : List NodeItem) → all_spelled (is ++ js) ≡ all_spelled is ++ all_spelled js
spelled_joined [] js = refl
spelled_joined (i ∷ is) js =
    ap (λ (xs : List ℕ). spelled i ++ xs) (spelled_joined is js)
    ∙ sym (append_assoc (spelled i) (all_spelled is) (all_spelled js))

-- the items of nodes are as many
items_count : (is : List NodeItem) → length (items is) ≡ length is
items_count [] = refl
items_count (i ∷ is) = omega (arith, items_count is)

module _ (bytes : List ℕ) where
  pub told_joined : (cs ds : List ValueItem) (is js : List ItemView) → AreTold bytes cs is → AreTold bytes ds js
      → AreTold bytes (cs ++ ds) (is ++ js)
  told_joined [] ds [] js a b = b
  told_joined [] ds (i ∷ is) js a b = absurd a
  told_joined (c ∷ cs) ds [] js a b = absurd a
  told_joined (c ∷ cs) ds (i ∷ is) js a b = (a.0, told_joined cs ds is js a.1 b)

  told_count : (cs : List ValueItem) (is : List ItemView) → AreTold bytes cs is → length cs ≡ length is
  told_count [] [] a = refl
  told_count [] (i ∷ is) a = absurd a
  told_count (c ∷ cs) [] a = absurd a
  told_count (c ∷ cs) (i ∷ is) a = omega (arith, told_count cs is a.1)

  -- the items that tell the first numbers, and the one that tells the next
  told_split : (cs : List ValueItem) (xs : List ℤ) (y : ℤ) (ys : List ℤ) → AreTold bytes cs (as_items (xs ++ y ∷ ys))
      → (ds : List ValueItem) × (c : ValueItem) × (es : List ValueItem) × (cs ≡ ds ++ c ∷ es)
      × AreTold bytes ds (as_items xs) × Tells bytes c (number y)
  told_split [] [] y ys a = absurd a
  told_split [] (x ∷ xs) y ys a = absurd a
  told_split (c ∷ cs) [] y ys a = ([], c, cs, refl, tt, a.0)
  told_split (c ∷ cs) (x ∷ xs) y ys a =
      let k = told_split cs xs y ys a.1 in
      (c ∷ k.0, k.1, k.2, ap (λ (l : List ValueItem). c ∷ l) k.3, (a.0, k.4), k.5)

-- one more item that tells a number
pub told_next : (bytes : List ℕ) (cs : List ValueItem) (zs : List ℤ) (c : ValueItem) (z : ℤ)
    → AreTold bytes cs (as_items zs) → Tells bytes c (number z)
    → AreTold bytes (cs ++ c ∷ []) (as_items (zs ++ z ∷ []))
told_next bytes [] [] c z a t = (t, tt)
told_next bytes [] (y ∷ zs) c z a t = absurd a
told_next bytes (d ∷ cs) [] c z a t = absurd a
told_next bytes (d ∷ cs) (y ∷ zs) c z a t = (a.0, told_next bytes cs zs c z a.1 t)

next_front : {A : Type 0} (xs : List A) (n : ℕ) (d : A) → n < length xs
    → take (n + 1) xs ≡ take n xs ++ get_or xs n d ∷ []
next_front xs n d less =
    let one : n + 1 ≡ suc n = omega arith in ap (λ (m : ℕ). take m xs) one ∙ take-suc xs n d less

-- so many numbers stand in front, which as many items tell
pub record AreCopied (cs : List ValueItem) (zs : List ℤ) (n : ℕ) : Type 0 where
  pub few : n ≤ length cs
  pub room : n ≤ length zs
  pub told : (bytes : List ℕ) → AreTold bytes (take n cs) (as_items (take n zs))

pub one_copied : (cs : List ValueItem) (zs : List ℤ) (n : ℕ) (d : ValueItem) (z : ℤ) → AreCopied cs zs n
    → n < length cs → n < length zs → ((bytes : List ℕ) → Tells bytes (get_or cs n d) (number z))
    → AreCopied cs (set zs n z) (n + 1)
one_copied cs zs n d z are more room tells =
    let one : n + 1 ≡ suc n = omega arith in
    let last : take (n + 1) (set zs n z) ≡ take n zs ++ z ∷ [] =
    ap (λ (m : ℕ). take m (set zs n z)) one ∙ take-suc-set zs n z room in record {
      few = omega (arith, more);
      room = omega (arith, room, length-set {A = ℤ});
      told = λ bytes.
          subst (λ (l : List ValueItem). AreTold bytes l (as_items (take (n + 1) (set zs n z))))
          (sym (next_front cs n d more))
          (subst (λ (l : List ℤ). AreTold bytes (take n cs ++ get_or cs n d ∷ []) (as_items l)) (sym last)
          (told_next bytes (take n cs) (take n zs) (get_or cs n d) z (are.told bytes) (tells bytes)));
    }

-- the first item by itself, and those behind it
pub first_alone : (cs : List ValueItem) (d : ValueItem) → 1 ≤ length cs → take 1 cs ≡ get_or cs 0 d ∷ []
first_alone [] d some = absurd (omega (arith, some))
first_alone (c ∷ cs) d some = refl

pub first_before : (cs : List ValueItem) (d : ValueItem) → 1 ≤ length cs → cs ≡ get_or cs 0 d ∷ drop 1 cs
first_before [] d some = absurd (omega (arith, some))
first_before (c ∷ cs) d some = refl

module _ (w : Writer) (bytes : List ℕ) (before : List ValueItem) (out : List ℕ) (writing : IsWriting w bytes before out)
    (cs : List ValueItem) (zs : List ℤ) (tells : AreTold bytes cs (as_items zs)) (more : List ℕ) where
  -- all of them are taken
  module _ (x : Writer) (same : asked x ≡ asked w) (s : Step) (took : TookAll w x writing.is zs out more (Some s)) where
    abbrev all : List NodeItem
    all = writing.is ++ took.more

    told : AreTold bytes (before ++ cs) (items all)
    told =
        subst (λ (is : List ItemView). AreTold bytes (before ++ cs) is)
        (ap (λ (is : List ItemView). items writing.is ++ is) (sym took.numbers)
        ∙ sym (items_joined writing.is took.more))
        (told_joined bytes before cs (items writing.is) (as_items zs) writing.told tells)

    spelled_all : more ≡ all_spelled all
    spelled_all =
        took.bytes ∙ ap (λ (bs : List ℕ). bs ++ all_spelled took.more) writing.spelled
        ∙ sym (spelled_joined writing.is took.more)

    pub all_go_on : IsWriting x bytes (before ++ cs) more
    all_go_on = record {
      is = all;
      represents = took.represents;
      told = told;
      spelled = spelled_all;
      takes = λ some.
          subst (λ (q : Question). (t : Step) × Takes q.kinds q.place q.limits all t) (sym same) (s, took.takes);
    }

  pub all_taken : (x : Writer) (same : asked x ≡ asked w) (s : Step)
      (took : TookAll w x writing.is zs out more (Some s)) → IsTaken (asked w) (given (before ++ cs) bytes) more s
  all_taken x same step.Done took =
      let v = took.takes in record {
        value = v.0;
        fits = v.1;
        told = subst (λ (is : List NodeItem). AreTold bytes (before ++ cs) (items is)) (sym v.2)
            (told x same step.Done took);
        spelled = v.3 ∙ sym (spelled_all x same step.Done took);
      }
  all_taken x same step.More took = record {
    is = writing.is ++ took.more;
    told = told x same step.More took;
    begun = took.takes;
    none = λ v within are.
        took.takes.unfinished v within.0
        (told_one bytes (before ++ cs) (items_of (kinds_of w) (kind_of w) v) _ are (told x same step.More took));
  }

  -- where there are some, the last of them has brought a step
  pub all_written : (x : Writer) (same : asked x ≡ asked w) (last : Option Step) (s : Step) → 0 < length zs
      → TookAll w x writing.is zs out more last → s ≡ unwrap_or last step.More
      → IsWriting x bytes (before ++ cs) more × IsTaken (asked w) (given (before ++ cs) bytes) more s
  all_written x same (Some y) s some took is =
      let mine : TookAll w x writing.is zs out more (Some s) =
      subst (λ (z : Step). TookAll w x writing.is zs out more (Some z)) (sym is) took in
      (all_go_on x same s mine, all_taken x same s mine)
  all_written x same None s some took is =
      absurd (omega (arith, some, ap (λ (l : List ℤ). length l) (took.none refl)))

  abbrev TakesSo : List NodeItem → Type 0
  TakesSo is = (s : Step) × Takes (kinds_of w) (kind_of w) w.limits is s

  no_items : (more : List NodeItem) → items more ≡ [] → more ≡ []
  no_items [] e = refl
  no_items (m ∷ ms) e = absurd (omega (arith, ap (λ (l : List ItemView). length l) e))

  taken_some : (ts : List ℤ) (js : List NodeItem) → items js ≡ as_items ts
      → (0 < length ts → TakesSo (writing.is ++ js)) → (ds : List ValueItem) → AreTold bytes ds (as_items ts)
      → 0 < length (before ++ ds) → TakesSo (writing.is ++ js)
  taken_some [] js e h [] a some =
      subst (λ (l : List NodeItem). TakesSo l)
      (sym (ap (λ (l : List NodeItem). writing.is ++ l) (no_items js e) ∙ append-nil writing.is))
      (writing.takes (subst (λ (l : List ValueItem). 0 < length l) (append-nil before) some))
  taken_some [] js e h (d ∷ ds) a some = absurd a
  taken_some (t ∷ ts) js e h ds a some = h (omega arith)

  -- one of them is refused
  module _ (x : Writer) (f : WriteRefusal) (h : RejectsOne w x writing.is zs out more f) (after : List ValueItem) where
    one_bad : IsKnown f.why
        → IsBadItem (asked w) (given (before ++ (cs ++ after)) bytes) f.item (fault.Refused f.why)
    one_bad known =
        let k = told_split bytes cs h.taken h.bad h.later
        (subst (λ (l : List ℤ). AreTold bytes cs (as_items l)) h.split tells) in
        let is : List NodeItem = writing.is ++ h.more in
        let front : List ValueItem = before ++ k.0 in
        let told : AreTold bytes front (items is) =
        subst (λ (l : List ItemView). AreTold bytes front l)
        (ap (λ (l : List ItemView). items writing.is ++ l) (sym h.numbers) ∙ sym (items_joined writing.is h.more))
        (told_joined bytes before k.0 (items writing.is) (as_items h.taken) writing.told k.4) in
        record {
          before = front;
          item = k.1;
          after = k.2 ++ after;
          split = ap (λ (l : List ValueItem). before ++ (l ++ after)) k.3
              ∙ ap (λ (l : List ValueItem). before ++ l) (append_assoc k.0 (k.1 ∷ k.2) after)
              ∙ sym (append_assoc before k.0 (k.1 ∷ k.2 ++ after));
          place = h.item ∙ sym (items_count is) ∙ sym (told_count bytes front (items is) told);
          is = is;
          taken = record {
            told = told;
            begin = h.begin;
            takes = λ some. taken_some h.taken h.more h.numbers h.takes k.0 k.4 some;
          };
          why = (number h.bad, k.5, known, h.refuses);
          none = λ v js rest within are same.
              (let l = told_last bytes front k.1 js are in
              let first : l.0 ≡ items is = told_one bytes front l.0 (items is) l.2 told in
              let here : l.1 ≡ number h.bad = tells_one bytes k.1 l.1 (number h.bad) l.3 k.5 in
              h.no_value known v rest within
              (same ∙ ap (λ (xs : List ItemView). xs ++ rest) l.4 ∙ append_assoc l.0 (l.1 ∷ []) rest
              ∙ ap (λ (xs : List ItemView). xs ++ l.1 ∷ rest) first
              ∙ ap (λ (y : ItemView). items is ++ y ∷ rest) here));
        }

    pub one_unwritten : (a : Answer) → Reports f.why f.item a
        → IsUnwritten (asked w) (given (before ++ (cs ++ after)) bytes) a
    one_unwritten (answer.BadItem g) r =
        subst (λ (n : ℕ). AreBad (asked w) (given (before ++ (cs ++ after)) bytes) n g.why) (sym r.1)
        (subst (λ (y : ItemWhy). AreBad (asked w) (given (before ++ (cs ++ after)) bytes) f.item y) (sym r.0)
        (one_bad r.2))
    one_unwritten answer.NoMemory r = tt
    one_unwritten (answer.Whole n) r = absurd r
    one_unwritten (answer.Followed n) r = absurd r
    one_unwritten (answer.Refused g) r = absurd r
    one_unwritten (answer.Undeclared g) r = absurd r
    one_unwritten answer.NoKind r = absurd r
    one_unwritten answer.BadLimits r = absurd r
    one_unwritten answer.NoDeclarations r = absurd r
    one_unwritten (answer.NoRoom n) r = absurd r

-- ---- the numbers with which items begin

module _ (w : Writer) (bytes : List ℕ) (before : List ValueItem) (out : List ℕ) (writing : IsWriting w bytes before out)
    (cs : List ValueItem) (zs : List ℤ) (n : ℕ) (room : n ≤ length zs)
    (tells : AreTold bytes (take n cs) (as_items (take n zs))) (x : Writer) (more : List ℕ) where
  pub front_written : asked x ≡ asked w → 2 ≤ n → (last : Option Step) (s : Step) → s ≡ unwrap_or last step.More
      → TookAll w x writing.is (take n zs) out more last
      → IsWriting x bytes (before ++ take n cs) more × IsTaken (asked w) (given (before ++ take n cs) bytes) more s
  front_written same some last s is took =
      all_written w bytes before out writing (take n cs) (take n zs) tells more x same last s
      (omega (arith, some, room, length-take-le n zs room)) took is

  pub front_unwritten : (f : WriteRefusal) → RejectsOne w x writing.is (take n zs) out more f → (a : Answer)
      → Reports f.why f.item a → IsUnwritten (asked w) (given (before ++ cs) bytes) a
  front_unwritten f h a reports =
      subst (λ (l : List ValueItem). IsUnwritten (asked w) (given (before ++ l) bytes) a) (take-append-drop n cs)
      (one_unwritten w bytes before out writing (take n cs) (take n zs) tells more x f h
      (drop n cs) a reports)

-- the first of some items, by itself
pub first_written : (w x : Writer) (cs : List ValueItem) (d : ValueItem) (bytes : List ℕ) (before : List ValueItem)
    (more : List ℕ) (s : Step) → 1 ≤ length cs
    → IsWriting x bytes (before ++ get_or cs 0 d ∷ []) more
    × IsTaken (asked w) (given (before ++ get_or cs 0 d ∷ []) bytes) more s
    → IsWriting x bytes (before ++ take 1 cs) more × IsTaken (asked w) (given (before ++ take 1 cs) bytes) more s
first_written w x cs d bytes before more s some h =
    subst (λ (l : List ValueItem). IsWriting x bytes (before ++ l) more
    × IsTaken (asked w) (given (before ++ l) bytes) more s) (sym (first_alone cs d some)) h

pub first_unwritten : (w : Writer) (cs : List ValueItem) (d : ValueItem) (bytes : List ℕ) (before : List ValueItem)
    (a : Answer) → 1 ≤ length cs
    → ((after : List ValueItem) → IsUnwritten (asked w) (given (before ++ get_or cs 0 d ∷ after) bytes) a)
    → IsUnwritten (asked w) (given (before ++ cs) bytes) a
first_unwritten w cs d bytes before a some h =
    subst (λ (l : List ValueItem). IsUnwritten (asked w) (given (before ++ l) bytes) a)
    (sym (first_before cs d some)) (h (drop 1 cs))
