-- Numbers of one unit in a list, one after another, and a call that refuses the first of some numbers.
use Rattle.std.proofs.Common.{◌≡◌, ℕ, ℤ, zero, suc, ◌+◌, ◌<◌, ◌≤◌, Bool, true, List, [], ◌∷◌, ◌++◌, length, take}
use Rattle.std.proofs.Common.{get_or, drop, pos, ap, sym, ◌∙◌, subst, arith, append-nil, append_assoc, ◌-◌}
use Rattle.std.proofs.Common.{length-drop}
use Rattle.std.specs.Prelude.{Option, Some, None, Result, Ok, Err, OnErr}
use Rattle.std.proofs.lemmas.List.{take_all}
use Rattle.std.proofs.Math.Seq.{take-suc, take-append_seam, drop-append_seam}
use Rattle.xdr_codec.specs.declared.checker.Checker.{Checker}
use Rattle.xdr_units.specs.Numbers.{num4}
use Rattle.xdr_writer.specs.Items.{number, NodeItem}
use Rattle.xdr_writer.specs.Represents.{RepresentsItems, HasRefused, IsSame, kinds_of, kind_of}
use Rattle.xdr_writer.specs.Answers.{Refuses, Rejects, IsKnown}
use Rattle.xdr_writer.specs.Runs.{TookAll, RejectsOne}
use Rattle.xdr_writer.specs.Private.Becomes.{in_word}
use Rattle.xdr_writer.specs.Private.Runs.{words, AreWords}
use Rattle.xdr_writer.specs.Private.Judged.{Judges}
use Rattle.xdr_writer.specs.declared.refusal.Why.{Why}
use Rattle.xdr_writer.specs.declared.refusal.Why.TheVariants.{NoMemory}
use Rattle.xdr_writer.specs.declared.refusal.WriteRefusal.{WriteRefusal}
use Rattle.xdr_writer.specs.declared.item.Step.{Step}
use Rattle.xdr_writer.specs.declared.writer.Writer.{Writer}
use Rattle.xdr_writer.proofs.Settings.{same_then}
use Rattle.xdr_writer.proofs.Several.{one_rejects}

words_more : (signed : Bool) (xs : List ℤ) (y : ℤ) → AreWords signed xs → in_word signed y ≡ true
    → AreWords signed (xs ++ y ∷ [])
words_more signed [] y h e = (e, tt)
words_more signed (x ∷ xs) y h e = (h.0, words_more signed xs y h.1 e)

words_joined : (xs : List ℤ) (y : ℤ) → words (xs ++ y ∷ []) ≡ words xs ++ num4 y
words_joined [] y = append-nil (num4 y)
words_joined (x ∷ xs) y =
    ap (λ (q : List ℕ). num4 x ++ q) (words_joined xs y) ∙ sym (append_assoc (num4 x) (words xs) (num4 y))

next_front : (zs : List ℤ) (n : ℕ) (d : ℤ) → n < length zs → take (n + 1) zs ≡ take n zs ++ get_or zs n d ∷ []
next_front zs n d less =
    let one : n + 1 ≡ suc n = omega arith in ap (λ (m : ℕ). take m zs) one ∙ take-suc zs n d less

-- one more that has one unit
pub words_next : (signed : Bool) (zs : List ℤ) (n : ℕ) (d : ℤ) → n < length zs → AreWords signed (take n zs)
    → in_word signed (get_or zs n d) ≡ true → AreWords signed (take (n + 1) zs)
words_next signed zs n d less h e =
    subst (λ (l : List ℤ). AreWords signed l) (sym (next_front zs n d less))
    (words_more signed (take n zs) (get_or zs n d) h e)

-- and its bytes
pub bytes_next : (zs : List ℤ) (n : ℕ) (d : ℤ) → n < length zs
    → words (take (n + 1) zs) ≡ words (take n zs) ++ num4 (get_or zs n d)
bytes_next zs n d less =
    ap (λ (l : List ℤ). words l) (next_front zs n d less) ∙ words_joined (take n zs) (get_or zs n d)

pub word_at : (signed : Bool) (zs : List ℤ) (n : ℕ) (d : ℤ) → n < length zs → AreWords signed zs
    → in_word signed (get_or zs n d) ≡ true
word_at signed [] n d less h = absurd (omega (arith, less))
word_at signed (z ∷ zs) zero d less h = h.0
word_at signed (z ∷ zs) (suc n) d less h = word_at signed zs n d (omega (arith, less)) h.1

-- where memory is refused for them the first is refused
pub none_taken : (a b : Writer) (zs : List ℤ) (before after : List ℕ) (f : WriteRefusal) → 1 ≤ length zs
    → after ≡ before → f.why ≡ NoMemory → f.item ≡ a.count → HasRefused b f → (is : List NodeItem)
    → RepresentsItems a is → RejectsOne a b is zs before after f
none_taken a b [] before after f some retained why at refused is r = absurd (omega (arith, some))
none_taken a b (z ∷ zs) before after f some retained why at refused is r =
    one_rejects a b is z zs before after f r (record {
      refuses = λ js q. (
        subst (λ (w : Why). Refuses (kinds_of a) (kind_of a) a.limits js (number z) w) (sym why) tt,
        at ∙ q.count,
      );
      no_value = λ js q known. absurd (subst (λ (w : Why). IsKnown w) why known);
      retained = retained;
      refused = refused;
    })

-- where the first is put by itself, and refused
pub first_rejects : (a b : Writer) (zs : List ℤ) (z : ℤ) (before after : List ℕ) (f : WriteRefusal) → 1 ≤ length zs
    → z ≡ get_or zs 0 (pos 0) → Rejects a b (number z) before after (Err f) → (is : List NodeItem)
    → RepresentsItems a is → RejectsOne a b is zs before after f
first_rejects a b [] z before after f some e h is r = absurd (omega (arith, some))
first_rejects a b (y ∷ zs) z before after f some e h is r =
    one_rejects a b is y zs before after f r
    (subst (λ (x : ℤ). Rejects a b (number x) before after (Err f)) e h)

-- what stands in a list behind so many, and before
pub rest_of : {A : Type 0} (n : ℕ) (xs : List A) → take (length xs - n) (drop n xs) ≡ drop n xs
rest_of n xs = take_all (length xs - n) (drop n xs) (omega (arith, length-drop n xs))

-- the words that were written are judged
pub judged_words : (c d : Checker) (s old : List ℕ) (start : ℕ) (zs : List ℤ) (r : Result Step Why)
    → start ≡ length old → s ≡ old ++ words zs → Judges c d (take (length s - start) (drop start s)) r
    → Judges c d (words zs) r
judged_words c d s old start zs r from grown h =
    subst (λ (u : List ℕ). Judges c d u r)
    (rest_of start s ∙ ap (λ (n : ℕ). drop n s) from ∙ ap (λ (l : List ℕ). drop (length old) l) grown
    ∙ drop-append_seam old (words zs)) h

-- what stood before is left
pub front_left : (old more now : List ℕ) → now ≡ old ++ more → take (length old) now ≡ old
front_left old more now e = ap (λ (l : List ℕ). take (length old) l) e ∙ take-append_seam old more

pub on_error : {A E : Type 0} (r : Result A E) (P : Type 0) → P → OnErr r P
on_error (Ok a) P p = tt
on_error (Err e) P p = p

pub same_all : (a w x : Writer) → IsSame a w → IsSame w x → IsSame a x
same_all a w x f g = record {
  checker = same_then a.checker w.checker x.checker f.checker g.checker;
  limits_are = g.limits_are ∙ f.limits_are;
}

pub none_refused : {A : Type 0} {x : A} {o : Option A} → o ≡ Some x → o ≡ None → ⊥
none_refused e f = cc

-- all of some numbers
pub took_whole : (a w : Writer) (is : List NodeItem) (zs : List ℤ) (before after : List ℕ) (x : Step)
    → TookAll a w is zs before after (Some x) → TookAll a w is (take (length zs) zs) before after (Some x)
took_whole a w is zs before after x h =
    subst (λ (l : List ℤ). TookAll a w is l before after (Some x)) (sym (take_all (length zs) zs (omega arith))) h
