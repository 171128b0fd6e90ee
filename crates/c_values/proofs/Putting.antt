-- What writing one more item says of them all.
use Rattle.std.proofs.Common.{◌≡◌, ℕ, ◌+◌, ◌<◌, ◌≤◌, List, [], ◌∷◌, ◌++◌, length, take, drop, refl, sym, ap, subst, ◌∙◌}
use Rattle.std.proofs.Common.{arith, append-nil, append_assoc, length-append, length-drop, zero, suc, ◌-◌, Bool, false}
use Rattle.std.proofs.Common.{nat_eq}
use Rattle.std.proofs.lemmas.Bool.{false≢true}
use Rattle.std.proofs.lemmas.List.{drop_all, drop-drop, take_all, take-append-drop, length-take-le}
use Rattle.xdr_types.specs.Kinds.{KindView, Lists}
use Rattle.xdr_types.specs.Tree.{Tree}
use Rattle.xdr_types.specs.Within.{Bounds}
use Rattle.xdr_types.specs.declared.kind.KindId.{KindId}
use Rattle.xdr_writer.specs.Items.{ItemView, NodeItem, of_node, spelled_as, spelled, all_spelled, items}
use Rattle.xdr_writer.specs.ItemsOf.{items_of}
use Rattle.xdr_writer.specs.Answers.{Took, Takes, Refuses, IsKnown, HasNoValue}
use Rattle.xdr_writer.specs.Represents.{IsSame, IsStarted, kinds_of, kind_of}
use Rattle.xdr_writer.specs.declared.refusal.Why.{Why}
use Rattle.xdr_writer.specs.declared.item.Step.{Step}
use Rattle.xdr_writer.specs.declared.item.Step.TheVariants as step
use Rattle.xdr_writer.specs.declared.writer.Writer.{Writer}
use Rattle.c_values.specs.declared.answer.Answer.{Answer}
use Rattle.c_values.specs.declared.answer.Answer.TheVariants as answer
use Rattle.c_values.specs.declared.item.ItemWhy.{ItemWhy}
use Rattle.c_values.specs.declared.item.ItemWhy.TheVariants as fault
use Rattle.c_values.specs.declared.item.ValueItem.{ValueItem}
use Rattle.c_values.specs.Answers.{Question}
use Rattle.c_values.specs.Items.{given, Tells, AreTold, IsUntold}
use Rattle.c_values.specs.Written.{HasNoneWith, IsFault, IsBadItem, AreBad}
use Rattle.c_values.specs.Private.Writing.{asked, IsWriting, IsTaken, IsUnwritten, Reports}
use Rattle.c_values.proofs.Telling.{tells_one, told_one, told_more, told_last, tells_none}

items_more : (is : List NodeItem) (k : KindView) (i : ItemView) → items (is ++ of_node k i ∷ []) ≡ items is ++ i ∷ []
items_more [] k i = refl
items_more (j ∷ is) k i = ap (λ (xs : List ItemView). j.item ∷ xs) (items_more is k i)

spelled_more : (is : List NodeItem) (k : KindView) (i : ItemView)
    → all_spelled (is ++ of_node k i ∷ []) ≡ all_spelled is ++ spelled_as k i
spelled_more [] k i = append-nil (spelled_as k i)
spelled_more (j ∷ is) k i =
    ap (λ (xs : List ℕ). spelled j ++ xs) (spelled_more is k i)
    ∙ sym (append_assoc (spelled j) (all_spelled is) (spelled_as k i))

module _ (w : Writer) (bytes : List ℕ) (before : List ValueItem) (out : List ℕ) (writing : IsWriting w bytes before out)
    (c : ValueItem) where
  -- with an item that the writer took
  module _ (x : Writer) (same : asked x ≡ asked w) (i : ItemView) (tells : Tells bytes c i) (more : List ℕ) (s : Step)
      (took : Took w x writing.is i out more s) where
    told : AreTold bytes (before ++ c ∷ []) (items (writing.is ++ of_node took.kind i ∷ []))
    told =
        subst (λ (is : List ItemView). AreTold bytes (before ++ c ∷ []) is) (sym (items_more writing.is took.kind i))
        (told_more bytes before c (items writing.is) i writing.told tells)

    spelled_all : more ≡ all_spelled (writing.is ++ of_node took.kind i ∷ [])
    spelled_all =
        took.bytes ∙ ap (λ (bs : List ℕ). bs ++ spelled_as took.kind i) writing.spelled
        ∙ sym (spelled_more writing.is took.kind i)

    pub goes_on : IsWriting x bytes (before ++ c ∷ []) more
    goes_on = record {
      is = writing.is ++ of_node took.kind i ∷ [];
      represents = took.represents;
      told = told;
      spelled = spelled_all;
      takes = λ some.
          subst (λ (q : Question). (t : Step) × Takes q.kinds q.place q.limits (writing.is ++ of_node took.kind i ∷ [])
          t) (sym same) (s, took.takes);
    }

  taken_by : (x : Writer) (same : asked x ≡ asked w) (i : ItemView) (tells : Tells bytes c i) (more : List ℕ) (s : Step)
      (took : Took w x writing.is i out more s) → IsTaken (asked w) (given (before ++ c ∷ []) bytes) more s
  taken_by x same i tells more step.Done took =
      let v = took.takes in record {
        value = v.0;
        fits = v.1;
        told = subst (λ (is : List NodeItem). AreTold bytes (before ++ c ∷ []) (items is)) (sym v.2)
            (told x same i tells more step.Done took);
        spelled = v.3 ∙ sym (spelled_all x same i tells more step.Done took);
      }
  taken_by x same i tells more step.More took = record {
    is = writing.is ++ of_node took.kind i ∷ [];
    told = told x same i tells more step.More took;
    begun = took.takes;
    none = λ v within are.
        took.takes.unfinished v within.0
        (told_one bytes (before ++ c ∷ []) (items_of (kinds_of w) (kind_of w) v) _ are
        (told x same i tells more step.More took));
  }

  pub writes : (x : Writer) (same : asked x ≡ asked w) (i : ItemView) (tells : Tells bytes c i) (more : List ℕ)
      (s : Step) (took : Took w x writing.is i out more s) → IsWriting x bytes (before ++ c ∷ []) more
      × IsTaken (asked w) (given (before ++ c ∷ []) bytes) more s
  writes x same i tells more s took =
      (goes_on x same i tells more s took, taken_by x same i tells more s took)

  -- with an item that is refused
  module _ (at : ℕ) (after : List ValueItem) (place : at ≡ length before) where
    bad : (why : ItemWhy) → IsFault (asked w) bytes writing.is c why → HasNoneWith (asked w) bytes (before ++ c ∷ [])
        → IsBadItem (asked w) (given (before ++ c ∷ after) bytes) at why
    bad why is none = record {
      before = before;
      item = c;
      after = after;
      split = refl;
      place = place;
      is = writing.is;
      taken = record { told = writing.told; begin = writing.represents.begin; takes = writing.takes };
      why = is;
      none = none;
    }

    untold_none : (why : ItemWhy) → IsUntold bytes c why → HasNoneWith (asked w) bytes (before ++ c ∷ [])
    untold_none why u v is rest within are same =
        let k = told_last bytes before c is are in tells_none bytes c why u k.1 k.3

    pub untold : (why : ItemWhy) → IsUntold bytes c why → AreBad (asked w) (given (before ++ c ∷ after) bytes) at why
    untold fault.NoForm u = bad fault.NoForm u (untold_none fault.NoForm u)
    untold fault.NoNumber u = bad fault.NoNumber u (untold_none fault.NoNumber u)
    untold fault.Outside u = bad fault.Outside u (untold_none fault.Outside u)
    untold (fault.Refused x) u = absurd u
    untold fault.Unfinished u = absurd u

    refused_none : (i : ItemView) → Tells bytes c i
        → HasNoValue (kinds_of w) (kind_of w) w.limits writing.is i
        → HasNoneWith (asked w) bytes (before ++ c ∷ [])
    refused_none i tells none v is rest within are same =
        let k = told_last bytes before c is are in
        let front : k.0 ≡ items writing.is = told_one bytes before k.0 (items writing.is) k.2 writing.told in
        let here : k.1 ≡ i = tells_one bytes c k.1 i k.3 tells in
        none v rest within
        (same ∙ ap (λ (xs : List ItemView). xs ++ rest) k.4 ∙ append_assoc k.0 (k.1 ∷ []) rest
        ∙ ap (λ (xs : List ItemView). xs ++ k.1 ∷ rest) front
        ∙ ap (λ (x : ItemView). items writing.is ++ x ∷ rest) here)

    pub refused : (i : ItemView) → Tells bytes c i → (y : Why)
        → Refuses (kinds_of w) (kind_of w) w.limits writing.is i y
        → (IsKnown y → HasNoValue (kinds_of w) (kind_of w) w.limits writing.is i)
        → (a : Answer) → Reports y at a → IsUnwritten (asked w) (given (before ++ c ∷ after) bytes) a
    refused i tells y is none (answer.BadItem f) r =
        subst (λ (n : ℕ). AreBad (asked w) (given (before ++ c ∷ after) bytes) n f.why) (sym r.1)
        (subst (λ (x : ItemWhy). AreBad (asked w) (given (before ++ c ∷ after) bytes) at x) (sym r.0)
        (bad (fault.Refused y) (i, tells, r.2, is) (refused_none i tells (none r.2))))
    refused i tells y is none answer.NoMemory r = tt
    refused i tells y is none (answer.Whole n) r = absurd r
    refused i tells y is none (answer.Followed n) r = absurd r
    refused i tells y is none (answer.Refused f) r = absurd r
    refused i tells y is none (answer.Undeclared f) r = absurd r
    refused i tells y is none answer.NoKind r = absurd r
    refused i tells y is none answer.BadLimits r = absurd r
    refused i tells y is none answer.NoDeclarations r = absurd r
    refused i tells y is none (answer.NoRoom n) r = absurd r

-- the settings stay
pub same_question : (a b : Writer) → IsSame a b → asked b ≡ asked a
same_question a b same =
    let kinds : kinds_of b ≡ kinds_of a = ap (λ (s : Lists). s.kinds) same.checker.schema_is in
    let kind : kind_of b ≡ kind_of a = ap (λ (k : KindId). k.place) same.checker.kind_is in
    cc (kinds, kind, same.limits_are)

pub started_question : (w : Writer) (s : Lists) (k : KindId) (l : Bounds) → IsStarted w s k l
    → asked w ≡ record { kinds = s.kinds; place = k.place; limits = l }
started_question w s k l is =
    let kinds : kinds_of w ≡ s.kinds = ap (λ (x : Lists). x.kinds) is.checker.schema_is in
    let kind : kind_of w ≡ k.place = ap (λ (x : KindId). x.place) is.checker.kind_is in
    cc (kinds, kind, is.limits_are)

-- so many of the items are written, the last of them by this step
pub record AreWriting (q : Question) (w : Writer) (bytes : List ℕ) (cs : List ValueItem) (at : ℕ) (out : List ℕ)
    (last : Step) : Type 0 where
  pub settings : asked w ≡ q
  pub before : List ValueItem
  pub joined : before ++ drop at cs ≡ cs
  pub count : length before ≡ at
  pub writing : IsWriting w bytes before out
  pub taken : 0 < at → IsTaken q (given before bytes) out last

module _ (q : Question) (w : Writer) (bytes : List ℕ) (cs : List ValueItem) (at : ℕ) (out : List ℕ) (last : Step)
    (are : AreWriting q w bytes cs at out last) where
  -- where some more are taken
  pub some_more : (rest : List ValueItem) → rest ≡ drop at cs → (n : ℕ) → (1 ≤ n) × (n ≤ length rest) → (x : Writer)
      (more : List ℕ) (s : Step) → asked x ≡ asked w
      → ((before : List ValueItem) → IsWriting w bytes before out → IsWriting x bytes (before ++ take n rest) more
      × IsTaken (asked w) (given (before ++ take n rest) bytes) more s)
      → AreWriting q x bytes cs (at + n) more s
  some_more rest is n some x more s same takes =
      let k = takes are.before are.writing in
      let split : take n rest ++ drop (at + n) cs ≡ drop at cs =
      ap (λ (xs : List ValueItem). take n rest ++ xs) (sym (drop-drop n at cs) ∙ ap (λ (xs : List ValueItem). drop n xs)
      (sym is)) ∙ take-append-drop n rest ∙ is in record {
        settings = same ∙ are.settings;
        before = are.before ++ take n rest;
        joined = append_assoc are.before (take n rest) (drop (at + n) cs)
            ∙ ap (λ (xs : List ValueItem). are.before ++ xs) split ∙ are.joined;
        count = omega (
          arith,
          length-append are.before (take n rest),
          are.count,
          length-take-le n rest some.1,
        );
        writing = k.0;
        taken = λ any.
            subst (λ (p : Question). IsTaken p (given (are.before ++ take n rest) bytes) more s) are.settings k.1;
      }

  -- where one of those behind is refused
  pub stopped : (rest : List ValueItem) → rest ≡ drop at cs → (a : Answer)
      → ((before : List ValueItem) → IsWriting w bytes before out → at ≡ length before
      → IsUnwritten (asked w) (given (before ++ rest) bytes) a)
      → IsUnwritten q (given cs bytes) a
  stopped rest is a refuses =
      subst (λ (xs : List ValueItem). IsUnwritten q (given xs bytes) a) are.joined
      (subst (λ (p : Question). IsUnwritten p (given (are.before ++ drop at cs) bytes) a) are.settings
      (subst (λ (xs : List ValueItem). IsUnwritten (asked w) (given (are.before ++ xs) bytes) a) is
      (refuses are.before are.writing (sym are.count))))

  -- where all are taken
  pub ended : length cs ≤ at → 0 < at → (s : Step) → last ≡ s → IsTaken q (given cs bytes) out s
  ended whole some s is =
      let none : drop at cs ≡ [] = drop_all at cs (omega (arith, whole)) in
      let mine : are.before ≡ cs =
      sym (append-nil are.before) ∙ ap (λ (xs : List ValueItem). are.before ++ xs) (sym none) ∙ are.joined in
      subst (λ (x : Step). IsTaken q (given cs bytes) out x) is
      (subst (λ (xs : List ValueItem). IsTaken q (given xs bytes) out last) mine (are.taken some))

-- what is left of a list behind so many
pub rest_of : (at : ℕ) (cs : List ValueItem) → take (length cs - at) (drop at cs) ≡ drop at cs
rest_of at cs = take_all (length cs - at) (drop at cs) (omega (arith, length-drop at cs))

-- a list that is not empty has some
pub some_there : (n : ℕ) (b : Bool) → b ≡ nat_eq n 0 → b ≡ false → 0 < n
some_there zero b e f = absurd (false≢true (sym f ∙ e))
some_there (suc n) b e f = omega arith
