-- What is written into a line of blanks before a text.
use Rattle.std.proofs.Common.{◌≡◌, ℕ, ◌+◌, ◌≤◌, ◌-◌, List, ◌++◌, length, take, drop, replicate, sym, ap, ◌∙◌}
use Rattle.std.proofs.Common.{append_assoc, arith}
use Rattle.std.proofs.lemmas.List.{take-replicate, take-append-le, drop_at, length-replicate, take-append-drop}
use Rattle.std.proofs.lemmas.List.{drop-append-le, drop-drop, drop-replicate, length-drop, take_all}
use borrow.Rule.Slice.PartMut.{mid_of, put_mid}
use Rattle.xdr_show.specs.Private.Backwards.{IsWritten, Puts}

-- the blanks and the text
blank : (old text : List ℕ) (start end : ℕ) → start ≤ end → IsWritten old end text
    → (take start old ≡ replicate start 32) × (drop end old ≡ text)
blank old text start end few is =
    let long : length {A = ℕ} (replicate end 32) ≡ end = length-replicate end 32 in (
      ap (λ (l : List ℕ). take start l) is ∙ take-append-le start (replicate end 32) text (omega (arith, long))
          ∙ take-replicate start end 32 few,
      ap (λ (l : List ℕ). drop end l) is ∙ drop_at (replicate end 32) text end long,
    )

-- bytes before a place, and the line before them as it was
pub puts : (old new more : List ℕ) (start end : ℕ) → start + length more ≡ end → drop start new ≡ more ++ drop end old
    → take start new ≡ take start old → Puts old end new start more
puts old new more start end far written before = λ text is.
    let b = blank old text start end (omega arith) is in
    sym (take-append-drop start new) ∙ ap (λ (l : List ℕ). take start new ++ l) written
    ∙ ap (λ (l : List ℕ). l ++ (more ++ drop end old)) (before ∙ b.0)
    ∙ ap (λ (l : List ℕ). replicate start 32 ++ (more ++ l)) b.1

-- bytes that are copied before a place
pub copied : (old bytes new : List ℕ) (start count end : ℕ) → start + length bytes ≡ end → count ≡ length bytes
    → new ≡ bytes → Puts old end (put_mid start count old new) start bytes
copied old bytes new start count end far many same = λ text is.
    let b = blank old text start end (omega (arith, far)) is in
    let behind : start + count ≡ end = omega (arith, far, many) in
    ap (λ (l : List ℕ). l ++ (new ++ drop count (drop start old))) b.0
    ∙ ap (λ (l : List ℕ). replicate start 32 ++ (l ++ drop count (drop start old))) same
    ∙ ap (λ (l : List ℕ). replicate start 32 ++ (bytes ++ l))
    (drop-drop count start old ∙ ap (λ (n : ℕ). drop n old) behind ∙ b.1)

-- one text before another
pub puts_then : (a b c first then : List ℕ) (m n k : ℕ) → Puts a m b n first → Puts b n c k then
    → Puts a m c k (then ++ first)
puts_then a b c first then m n k f g = λ text is.
    g (first ++ text) (f text is) ∙ ap (λ (l : List ℕ). replicate k 32 ++ l) (sym (append_assoc then first text))

-- from a place to the end
pub to_end : (line : List ℕ) (from long : ℕ) → length line ≡ long → mid_of from (long - from) line ≡ drop from line
to_end line from long e = take_all (long - from) (drop from line) (omega (arith, e, length-drop from line))

-- what a line of blanks and a text has from so many blanks before the text on
pub from_blanks : (line text : List ℕ) (start spaces : ℕ) → spaces ≤ start → IsWritten line start text
    → drop (start - spaces) line ≡ replicate spaces 32 ++ text
from_blanks line text start spaces few is =
    let long : length {A = ℕ} (replicate start 32) ≡ start = length-replicate start 32 in
    let count : start - (start - spaces) ≡ spaces = omega (arith, few) in
    ap (λ (l : List ℕ). drop (start - spaces) l) is
    ∙ drop-append-le (start - spaces) (replicate start 32) text (omega (arith, long))
    ∙ ap (λ (l : List ℕ). l ++ text) (drop-replicate (start - spaces) start 32)
    ∙ ap (λ (n : ℕ). replicate n 32 ++ text) count

-- four texts joined from the left
pub from_left : (a b c d : List ℕ) → a ++ (b ++ (c ++ d)) ≡ a ++ b ++ c ++ d
from_left a b c d = sym (append_assoc a b (c ++ d)) ∙ sym (append_assoc (a ++ b) c d)
