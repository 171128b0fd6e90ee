-- Lines one after another, and the beginning of a line after others.
use Rattle.std.proofs.Common.{◌≡◌, ℕ, suc, ◌+◌, ◌<◌, List, [], ◌∷◌, ◌++◌, length, take, Option, refl, ap, sym, ◌∙◌}
use Rattle.std.proofs.Common.{append_assoc, length-append, arith}
use Rattle.std.proofs.lemmas.List.{append-nil}
use Rattle.std.proofs.Math.Seq.{take-append-add}
use Rattle.std.specs.Io.KnownBytes.{Appends}
use Rattle.xdr_io.specs.Reported.{Counts}
use Rattle.xdr_io.proofs.Chained.{Appends-trans, Counts-trans}
use Rattle.oncrpc_answers.specs.declared.failure.Failure.{Failure}
use Rattle.oncrpc_answers.specs.declared.failure.Failure.TheVariants as failure
use Rattle.oncrpc_service.specs.Written.{InPart, IsCut, numbered}

pub in_part_then : (a b c : Option (List ℕ)) (x y : List ℕ) → Appends a b x → InPart y b c → InPart (x ++ y) a c
in_part_then a b c x y before part =
    let long : length (x ++ y) ≡ length x + length y = length-append x y in
    let cut = part.cut in
    record {
      count = length x + part.count;
      cut = omega (arith, long, cut);
      written = Appends-trans a b c x (take part.count y) (take (length x + part.count) (x ++ y))
          (sym (take-append-add x y part.count)) before part.written;
    }

-- a line that is cut after others
pub cut_then : (a b c : Option (List ℕ)) (i j k : Option ℕ) (x y : List ℕ) (why : Failure) → Appends a b x
    → Counts 0 i j → IsCut y b c j k why → IsCut (x ++ y) a c i k why
cut_then a b c i j k x y failure.Write before none cut =
    (in_part_then a b c x y before cut.0, Counts-trans i j k 0 1 1 refl none cut.1)
cut_then a b c i j k x y failure.NoMemory before none cut = in_part_then a b c x y before cut
cut_then a b c i j k x y failure.Read before none cut = absurd cut
cut_then a b c i j k x y failure.TooManyReads before none cut = absurd cut

-- one more line
pub numbered_then : {X : Type 0} (line : ℕ → X → List ℕ) (number : ℕ) (xs : List X) (x : X)
    → numbered line number xs ++ line (number + length xs) x ≡ numbered line number (xs ++ x ∷ [])
numbered_then line number [] x =
    let same : number + 0 ≡ number = omega arith in
    ap (λ (n : ℕ). line n x) same ∙ sym (append-nil (line number x))
numbered_then line number (y ∷ xs) x =
    let next : number + suc (length xs) ≡ suc number + length xs = omega arith in
    append_assoc (line number y) (numbered line (suc number) xs) _
    ∙ ap (λ (n : ℕ). line number y ++ (numbered line (suc number) xs ++ line n x)) next
    ∙ ap (λ (z : List ℕ). line number y ++ z) (numbered_then line (suc number) xs x)

pub begun : (xs ys : List ℕ) → 0 < length xs → 0 < length (xs ++ ys)
begun xs ys some = let e : length (xs ++ ys) ≡ length xs + length ys = length-append xs ys in omega (arith, e, some)
