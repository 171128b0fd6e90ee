-- Numbers that are put in turn: the first ones, and those behind them.
use Rattle.std.proofs.Common.{ℕ, ℤ, ◌+◌, ◌≤◌, List, [], ◌∷◌, ◌++◌, length, take, drop, refl}
use Rattle.std.proofs.Common.{ap, sym, ◌∙◌, subst, arith, append-nil, append_assoc}
use Rattle.std.specs.Prelude.{None, Some, Option, Result, Ok, Err}
use Rattle.std.proofs.lemmas.List.{length-take-le, length-drop, take-append-drop, take-take, take_all}
use Rattle.std.proofs.Math.Seq.{take-add}
use Rattle.xdr_writer.specs.Items.{NodeItem}
use Rattle.xdr_writer.specs.Represents.{RepresentsItems, IsSame}
use Rattle.xdr_writer.specs.Runs.{TookAll, RejectsOne}
use Rattle.xdr_writer.specs.Private.Runs.{MayTake, TakesSome, SoFar}
use Rattle.xdr_writer.specs.declared.refusal.WriteRefusal.{WriteRefusal}
use Rattle.xdr_writer.specs.declared.item.Step.{Step}
use Rattle.xdr_writer.specs.declared.writer.Writer.{Writer}
use Rattle.xdr_writer.proofs.Several.{took_then, rejects_then}

-- ---- what holds of some of the numbers

rejects_front : (a b : Writer) (is : List NodeItem) (zs more : List ℤ) (before after : List ℕ) (f : WriteRefusal)
    → RejectsOne a b is zs before after f → RejectsOne a b is (zs ++ more) before after f
rejects_front a b is zs more before after f h = record {
  taken = h.taken;
  bad = h.bad;
  later = h.later ++ more;
  split = ap (λ (x : List ℤ). x ++ more) h.split ∙ append_assoc h.taken (h.bad ∷ h.later) more;
  more = h.more;
  numbers = h.numbers;
  bytes = h.bytes;
  begin = h.begin;
  takes = h.takes;
  refuses = h.refuses;
  item = h.item;
  no_value = h.no_value;
}

pub some_front : (a b : Writer) (zs : List ℤ) (n : ℕ) → n ≤ length zs → (before after : List ℕ)
    → (r : Result (ℕ × Step) WriteRefusal) → TakesSome a b (take n zs) before after r
    → TakesSome a b zs before after r
some_front a b zs n low before after (Ok t) h = record {
  some = (h.some.0, omega (arith, h.some.1, length-take-le n zs low, low));
  took = λ is r. subst (λ (x : List ℤ). TookAll a b is x before after (Some t.1))
      (take-take t.0 n zs (omega (arith, h.some.1, length-take-le n zs low))) (h.took is r);
  rejects = tt;
  refused = tt;
  same = h.same;
}
some_front a b zs n low before after (Err f) h = record {
  some = tt;
  took = tt;
  rejects = λ is r. subst (λ (x : List ℤ). RejectsOne a b is x before after f) (take-append-drop n zs)
      (rejects_front a b is (take n zs) (drop n zs) before after f (h.rejects is r));
  refused = h.refused;
  same = h.same;
}

pub may_less : (w : Writer) (most n : ℕ) → n ≤ most → MayTake w most → MayTake w n
may_less w most n low h = record {
  waits = h.waits;
  due = omega (arith, h.due, low);
  low = omega (arith, h.low, low);
  begun = h.begun;
}

-- ---- in turn

pub none_yet : (a : Writer) (zs : List ℤ) (before : List ℕ) → (same : IsSame a a) → SoFar a a zs 0 before before None
none_yet a zs before same = record {
  same = same;
  low = omega arith;
  took = λ is r. record {
    more = [];
    numbers = refl;
    represents = subst (λ (x : List NodeItem). RepresentsItems a x) (sym (append-nil is)) r;
    bytes = sym (append-nil before);
    takes = tt;
    none = λ e. refl;
  };
}

module _ (a w x : Writer) (zs : List ℤ) (at : ℕ) (before middle after : List ℕ) (last : Option Step)
    (so_far : SoFar a w zs at before middle last) where
  pub more_taken : (n : ℕ) (s : Step) → TakesSome w x (drop at zs) middle after (Ok (n, s)) → IsSame a x
      → SoFar a x zs (at + n) before after (Some s)
  more_taken n s h same = record {
    same = same;
    low = omega (arith, h.some.1, length-drop at zs, so_far.low);
    took = λ is r.
        let first = so_far.took is r in
        subst (λ (q : List ℤ). TookAll a x is q before after (Some s)) (sym (take-add at n zs))
        (took_then a w x so_far.same is (take at zs) before middle after last first (take n (drop at zs)) s
        (h.took (is ++ first.more) first.represents));
  }

  pub one_refused : (f : WriteRefusal) → TakesSome w x (drop at zs) middle after (Err f) → (is : List NodeItem)
      → RepresentsItems a is → RejectsOne a x is zs before after f
  one_refused f h is r =
      let first = so_far.took is r in
      subst (λ (q : List ℤ). RejectsOne a x is q before after f) (take-append-drop at zs)
      (rejects_then a w x so_far.same is (take at zs) before middle after last first (drop at zs) f
      (h.rejects (is ++ first.more) first.represents))

  pub all_taken : length zs ≤ at → (is : List NodeItem) → RepresentsItems a is → TookAll a w is zs before middle last
  all_taken end is r =
      subst (λ (q : List ℤ). TookAll a w is q before middle last) (take_all at zs end) (so_far.took is r)
