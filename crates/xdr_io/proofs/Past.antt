-- One more read, behind the bytes that are there.
use Rattle.std.proofs.Common.{◌≡◌, ℕ, ◌+◌, ◌≤◌, List, Option, Result, Ok, Err, length, take, refl, sym, ap, ◌∙◌}
use Rattle.std.proofs.Common.{length-append, vec_len, arith}
use Rattle.std.proofs.lemmas.List.{length-take-le}
use Rattle.std.specs.declared.alloc.Global.{Global}
use Rattle.std.specs.declared.vec.Vec.{Vec}
use Rattle.std.specs.Io.KnownBytes.{Consumes}
use Rattle.xdr_io.specs.Past.{ReadsPast, FailsByRead}
use Rattle.xdr_io.specs.Private.Once.{Adds}
use Rattle.xdr_io.specs.Reported.{Counts, CountsAtMost}
use Rattle.xdr_io.specs.declared.input.InputFault.{InputFault}
use Rattle.xdr_io.specs.declared.input.InputFault.TheVariants as fault
use Rattle.xdr_io.proofs.Chained.{Counts-trans, Consumes-trans}

pub Adds-after : (n : ℕ) (array : List ℕ) (a b c : Option (List ℕ)) (had bytes : List ℕ) → Consumes a b had
    → Adds n array b c had bytes → Consumes a c bytes
Adds-after n array a b c had bytes p q = Consumes-trans a b c had (take n array) bytes (sym q.added) p q.read

pub Adds-length : (n : ℕ) (array : List ℕ) (b c : Option (List ℕ)) (had bytes : List ℕ) → n ≤ length array
    → Adds n array b c had bytes → length bytes ≡ length had + n
Adds-length n array b c had bytes within q =
    ap length q.added ∙ length-append had (take n array) ∙ ap (λ k. length had + k) (length-take-le n array within)

-- the last read of an answer: the source has ended, or more than enough is there
pub Adds-last : (enough n : ℕ) (array : List ℕ) (a b c : Option (List ℕ)) (had : List ℕ) (v : Vec ℕ Global)
    → vec_len v ≡ length v.items → length had ≤ enough → n ≤ length array → Consumes a b had
    → Adds n array b c had v.items → (vec_len v ≤ enough → n ≡ 0) → ReadsPast enough a c (Ok v)
Adds-last enough n array a b c had v sized few within p q last =
    let long : length v.items ≡ length had + n = Adds-length n array b c had v.items within q in
    let bytes : Consumes a c v.items = Adds-after n array a b c had v.items p q in
    record {
      bytes = bytes;
      end = λ h. q.end (last h);
      most = omega (arith, q.bound);
      moved = record { input = v.items; few = omega (arith, q.bound); read = bytes };
    }

-- reads of which none failed, and then one that gave an answer
pub FailsByRead-ok : {A : Type 0} (a b c : Option ℕ) (n : ℕ) (v : A) → Counts 0 a b → FailsByRead b c (Ok n)
    → FailsByRead a c (Ok v)
FailsByRead-ok {A = A} a b c n v p q = record {
  none_failed = Counts-trans a b c 0 0 0 refl p q.none_failed;
  failed = λ e. absurd (let h : ◌≡◌ {A = Result A InputFault} (Ok v) (Err fault.Read) = e in cc);
  unfailed = tt;
}

-- reads of which none failed, and then one that gave none
pub FailsByRead-err : {A B : Type 0} (a b c : Option ℕ) (f : InputFault) → Counts 0 a b
    → FailsByRead {A = A} b c (Err f) → FailsByRead {A = B} a c (Err f)
FailsByRead-err {A = A} {B = B} a b c f p q = record {
  none_failed = tt;
  failed = λ e.
      let h : ◌≡◌ {A = Result B InputFault} (Err f) (Err fault.Read) = e in
      let same : f ≡ fault.Read = cc in
      Counts-trans a b c 0 1 1 refl p (q.failed (ap Err same));
  unfailed = λ e. Counts-trans a b c 0 0 0 refl p (q.unfailed e);
}

-- one read more than there were turns
pub CountsAtMost-next : (a b c : Option ℕ) (turn : ℕ) → turn + 1 ≤ 1048576 → Counts turn a b → Counts 1 b c
    → CountsAtMost 1048576 a c
CountsAtMost-next a b c turn few p q =
    record { calls = turn + 1; few = few; counted = Counts-trans a b c turn 1 (turn + 1) refl p q }
