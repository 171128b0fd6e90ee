-- Records handed to an outbox, one after another, and what normalising comes to.
use Rattle.std.proofs.Common.{◌≡◌, ℕ, ◌+◌, ◌<◌, ◌≤◌, ◌^◌, true, List, [], ◌∷◌, ◌++◌, length, take}
use Rattle.std.proofs.Common.{Option, refl, sym, ap}
use Rattle.std.proofs.Common.{◌∙◌, subst, append_assoc, length-append, arith}
use Rattle.std.proofs.lemmas.List.{append-nil, length_push}
use Rattle.std.proofs.Math.Seq.{get_or-append_seam}
use Rattle.std.specs.Io.KnownBytes.{Appends, Consumes}
use Rattle.xdr_io.proofs.Chained.{Appends-trans, Appends-none, take_past}
use Rattle.rpc_record.specs.declared.fault.RecordFault.{RecordFault}
use Rattle.rpc_record.specs.declared.fault.RecordFault.TheVariants as fault
use Rattle.rpc_record.specs.declared.outbox.Outbox.{Outbox}
use Rattle.rpc_record.specs.declared.reader.RecordReader.{RecordReader}
use Rattle.rpc_record.specs.Marked.{header, fragment, normal}
use Rattle.rpc_record.specs.Reading.{Begins, capped}
use Rattle.rpc_record.specs.Failures.{reads_failed, writes_failed}
use Rattle.rpc_record.specs.Normalised.{IsCount, Normalised, StopsBy, Stops}
use Rattle.rpc_record.specs.Streamed.{HasTaken, IsRead, FailsAt, Fails}
use Rattle.rpc_record.specs.Private.Sending.{waiting, Sends, SendingCut}
use Rattle.rpc_record.proofs.Counting.{normal-append}
use Rattle.rpc_record.proofs.Sending.{SendingCut-after, SendingCut-more, waiting-none}

-- These records were handed over: a front of their normal form went out, and the rest waits.
pub record Handed (rs : List (List ℕ)) (box : Outbox) (taken taken' : Option (List ℕ)) : Type 0 where
  pub out : List ℕ
  pub joined : normal rs ≡ out ++ waiting box
  pub wrote : Appends taken taken' out
  pub records : box.count.records ≡ capped (length rs)
  pub bytes : box.count.bytes ≡ capped (length out)

pub handed_none : (box : Outbox) (t : Option (List ℕ)) → box.used ≡ 0 → box.count.records ≡ 0 → box.count.bytes ≡ 0
    → Handed [] box t t
handed_none box t e r b = record {
  out = [];
  joined = sym (waiting-none box e);
  wrote = Appends-none t;
  records = r;
  bytes = b;
}

one_more : (rs : List (List ℕ)) (r : List ℕ) → normal (rs ++ r ∷ []) ≡ normal rs ++ fragment true r
one_more rs r = normal-append rs (r ∷ []) ∙ ap (λ k. normal rs ++ k) (append-nil (fragment true r))

module _ (rs : List (List ℕ)) (old : Outbox) (t u : Option (List ℕ)) (p : Handed rs old t u) where
  -- the normal form with more behind it
  all_of : (more : List ℕ) → normal rs ++ more ≡ p.out ++ (waiting old ++ more)
  all_of more = ap (λ k. k ++ more) p.joined ∙ append_assoc p.out (waiting old) more

  handed_by : (others : List (List ℕ)) (more : List ℕ) (new : Outbox) (v : Option (List ℕ))
      → normal others ≡ normal rs ++ more → new.count.records ≡ capped (length others) → Sends old new u v more
      → Handed others new t v
  handed_by others more new v e r s = record {
    out = p.out ++ s.out;
    joined = e ∙ all_of more ∙ ap (λ k. p.out ++ k) s.joined ∙ sym (append_assoc p.out s.out (waiting new));
    wrote = Appends-trans t u v p.out s.out (p.out ++ s.out) refl p.wrote s.wrote;
    records = r;
    bytes = s.counted (length p.out) p.bytes ∙ ap capped (sym (length-append p.out s.out));
  }

  pub handed_record : (r : List ℕ) (new : Outbox) (v : Option (List ℕ))
      → new.count.records ≡ capped (old.count.records + 1) → Sends old new u v (fragment true r)
      → Handed (rs ++ r ∷ []) new t v
  handed_record r new v n s = handed_by (rs ++ r ∷ []) (fragment true r) new v (one_more rs r)
      (omega (arith, n, p.records, length_push rs r)) s

  pub handed_flushed : (new : Outbox) (v : Option (List ℕ)) → new.count.records ≡ old.count.records
      → Sends old new u v [] → Handed rs new t v
  handed_flushed new v n s = handed_by rs [] new v (sym (append-nil (normal rs))) (n ∙ p.records) s

  -- nothing waits
  pub handed_all : old.used ≡ 0 → Appends t u (normal rs) × IsCount old.count rs
  handed_all e =
      let same : normal rs ≡ p.out = p.joined ∙ ap (λ k. p.out ++ k) (waiting-none old e) ∙ append-nil p.out in (
        subst (λ k. Appends t u k) (sym same) p.wrote,
        record { records = p.records; bytes = p.bytes ∙ ap (λ k. capped (length k)) (sym same) },
      )

  -- a write failed while more was handed over
  module _ (limit : ℕ) (l m v : Option (List ℕ)) (others : List (List ℕ)) (more input : List ℕ)
      (e : normal others ≡ normal rs ++ more) (read : Consumes l m input) (begins : Begins limit others input) where
    lost_by : (f : RecordFault) → SendingCut old u v more f → Stops limit l m t v f
    lost_by (fault.Write written) (w, (lt, counts, wrote)) =
        let all : normal others ≡ p.out ++ (waiting old ++ more) = e ∙ all_of more in
        record {
          input = input;
          rs = others;
          read = read;
          stopped = (
            begins,
            (
              length p.out + w,
              (
                omega (arith, lt, ap length all, length-append p.out (waiting old ++ more)),
                counts (length p.out) p.bytes,
                Appends-trans t u v p.out (take w (waiting old ++ more)) _ (take_past p.out (waiting old ++ more) w
                    ∙ ap (λ k. take (length p.out + w) k) (sym all)) p.wrote wrote,
              ),
            ),
          );
        }
    lost_by (fault.TooLong at) h = absurd h
    lost_by (fault.Truncated at) h = absurd h
    lost_by fault.Read h = absurd h
    lost_by fault.TooManyReads h = absurd h
    lost_by fault.NoMemory h = absurd h

  pub lost_record : (limit : ℕ) (reader : RecordReader) (held : List ℕ) (l m v : Option (List ℕ)) (r given : List ℕ)
      (f : RecordFault) → given ≡ r → HasTaken limit reader held (rs ++ r ∷ []) l m
      → SendingCut old u v (fragment true given) f → Stops limit l m t v f
  lost_record limit reader held l m v r given f e h cut =
      lost_by limit l m v (rs ++ r ∷ []) (fragment true r) h.input (one_more rs r) h.read h.begins f
      (subst (λ k. SendingCut old u v (fragment true k) f) e cut)

  pub lost_waiting : (limit : ℕ) (reader : RecordReader) (held : List ℕ) (l m v : Option (List ℕ)) (f : RecordFault)
      → HasTaken limit reader held rs l m → SendingCut old u v [] f → Stops limit l m t v f
  lost_waiting limit reader held l m v f h cut =
      lost_by limit l m v rs [] h.input (sym (append-nil (normal rs))) h.read h.begins f cut

-- ---- the ends of normalising

-- a fault of the reader, where all before it went out
pub stops_failed : (limit : ℕ) (rs : List (List ℕ)) (l m t u : Option (List ℕ)) (f : RecordFault)
    → Fails limit rs l m f → Appends t u (normal rs) → Stops limit l m t u f
stops_failed limit rs l m t u f h w = record { input = h.input; rs = rs; read = h.read; stopped = by f h.fails }
  where
    by : (f : RecordFault) → FailsAt limit rs h.input m f → StopsBy limit rs h.input m t u f
    by (fault.TooLong at) k = (k.0, k.1, w)
    by (fault.Truncated at) (e, inside, longest, end, none) = (e, inside, longest, end, w, none)
    by fault.NoMemory k = (k.0, k.1, w)
    by fault.Read k = (k.0, w)
    by fault.TooManyReads k = (k.0, w)
    by (fault.Write written) k = absurd k

-- it is no failed write
pub fails_unwritten : (limit : ℕ) (rs : List (List ℕ)) (l m : Option (List ℕ)) (f : RecordFault)
    → Fails limit rs l m f → 0 ≡ writes_failed f
fails_unwritten limit rs l m (fault.TooLong at) h = refl
fails_unwritten limit rs l m (fault.Truncated at) h = refl
fails_unwritten limit rs l m fault.NoMemory h = refl
fails_unwritten limit rs l m fault.Read h = refl
fails_unwritten limit rs l m fault.TooManyReads h = refl
fails_unwritten limit rs l m (fault.Write written) h = absurd h.fails

-- a fault of the outbox is one, and no failed read
pub lost_is : (box : Outbox) (t u : Option (List ℕ)) (bytes : List ℕ) (f : RecordFault)
    → SendingCut box t u bytes f → (1 ≡ writes_failed f) × (0 ≡ reads_failed f)
lost_is box t u bytes (fault.Write written) h = (refl, refl)
lost_is box t u bytes (fault.TooLong at) h = absurd h
lost_is box t u bytes (fault.Truncated at) h = absurd h
lost_is box t u bytes fault.Read h = absurd h
lost_is box t u bytes fault.TooManyReads h = absurd h
lost_is box t u bytes fault.NoMemory h = absurd h

pub all_normalised : (limit : ℕ) (rs : List (List ℕ)) (box : Outbox) (l m t u : Option (List ℕ))
    → IsRead limit rs l m → Appends t u (normal rs) × IsCount box.count rs → Normalised limit l m t u box.count
all_normalised limit rs box l m t u h w = record {
  input = h.input;
  rs = rs;
  read = h.read;
  end = h.end;
  whole = h.whole;
  written = w.0;
  counted = w.1;
}

-- a record that was handed out has a length that a header can tell
pub fits_header : (limit : ℕ) (reader : RecordReader) (held : List ℕ) (rs : List (List ℕ)) (r : List ℕ)
    (l m : Option (List ℕ)) → limit ≤ 2147483647 → HasTaken limit reader held (rs ++ r ∷ []) l m → length r < 2 ^ 31
fits_header limit reader held rs r l m small h =
    let few = h.begins.within (length rs) [] (omega (arith, length_push rs r)) in
    omega (arith, small, few, ap length (get_or-append_seam rs r [] []))

-- ---- a record as a header and its content

pub header_cut : (x : Outbox) (t u : Option (List ℕ)) (head content : List ℕ) (f : RecordFault)
    → head ≡ header true (length content) → SendingCut x t u head f → SendingCut x t u (fragment true content) f
header_cut x t u head content f e q = subst (λ m. SendingCut x t u (m ++ content) f) e
    (SendingCut-more x t u head content f q)

pub content_cut : (x y : Outbox) (t u v : Option (List ℕ)) (head content : List ℕ) (f : RecordFault)
    → head ≡ header true (length content) → Sends x y t u head → SendingCut y u v content f
    → SendingCut x t v (fragment true content) f
content_cut x y t u v head content f e p q = SendingCut-after x y t u head p v content (fragment true content) f
    (ap (λ m. m ++ content) e) q
