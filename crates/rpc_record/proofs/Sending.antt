-- Bytes handed to an outbox, one after another.
use Rattle.std.proofs.Common.{◌≡◌, ℕ, ◌+◌, ◌<◌, ◌≤◌, List, [], ◌++◌, length, take, Option, refl, sym, ap, ◌∙◌, subst}
use Rattle.std.proofs.Common.{append_assoc, length-append, arith}
use Rattle.std.proofs.lemmas.List.{append-nil, take-append-le}
use Rattle.std.specs.Io.KnownBytes.{Appends}
use Rattle.xdr_io.proofs.Chained.{Appends-trans, Appends-none, take_past}
use Rattle.rpc_record.specs.declared.fault.RecordFault.{RecordFault}
use Rattle.rpc_record.specs.declared.fault.RecordFault.TheVariants as fault
use Rattle.rpc_record.specs.declared.outbox.Outbox.{Outbox}
use Rattle.rpc_record.specs.Reading.{capped}
use Rattle.rpc_record.specs.Private.Sending.{waiting, Sends, SendingCut}

pub Sends-none : (a : Outbox) (t : Option (List ℕ)) → Sends a a t t []
Sends-none a t = record {
  out = [];
  joined = append-nil (waiting a);
  wrote = Appends-none t;
  counted = λ n e. omega arith;
}

module _ (a b : Outbox) (t u : Option (List ℕ)) (s : List ℕ) (p : Sends a b t u s) where
  joined_more : (more : List ℕ) → waiting a ++ (s ++ more) ≡ p.out ++ (waiting b ++ more)
  joined_more more = sym (append_assoc (waiting a) s more) ∙ ap (λ k. k ++ more) p.joined
      ∙ append_assoc p.out (waiting b) more

  pub Sends-trans : (c : Outbox) (v : Option (List ℕ)) (more all : List ℕ) → s ++ more ≡ all → Sends b c u v more
      → Sends a c t v all
  Sends-trans c v more all e q = record {
    out = p.out ++ q.out;
    joined = ap (λ k. waiting a ++ k) (sym e) ∙ joined_more more ∙ ap (λ k. p.out ++ k) q.joined
        ∙ sym (append_assoc p.out q.out (waiting c));
    wrote = Appends-trans t u v p.out q.out (p.out ++ q.out) refl p.wrote q.wrote;
    counted = λ n h. omega (arith, q.counted (n + length p.out) (p.counted n h), length-append p.out q.out);
  }

  pub SendingCut-after : (v : Option (List ℕ)) (more all : List ℕ) (f : RecordFault) → s ++ more ≡ all
      → SendingCut b u v more f → SendingCut a t v all f
  SendingCut-after v more all (fault.Write written) e (w, (lt, counts, wrote)) =
      let joined : waiting a ++ all ≡ p.out ++ (waiting b ++ more) = ap (λ k. waiting a ++ k) (sym e)
      ∙ joined_more more in (
        length p.out + w,
        (
          omega (arith, lt, ap length joined, length-append p.out (waiting b ++ more)),
          λ n h. omega (arith, counts (n + length p.out) (p.counted n h)),
          Appends-trans t u v p.out (take w (waiting b ++ more)) _ (take_past p.out (waiting b ++ more) w
              ∙ ap (λ k. take (length p.out + w) k) (sym joined)) p.wrote wrote,
        ),
      )
  SendingCut-after v more all (fault.TooLong at) e h = absurd h
  SendingCut-after v more all (fault.Truncated at) e h = absurd h
  SendingCut-after v more all fault.Read e h = absurd h
  SendingCut-after v more all fault.TooManyReads e h = absurd h
  SendingCut-after v more all fault.NoMemory e h = absurd h

-- a cut leaves out what would have come later
pub SendingCut-more : (a : Outbox) (t v : Option (List ℕ)) (s more : List ℕ) (f : RecordFault) → SendingCut a t v s f
    → SendingCut a t v (s ++ more) f
SendingCut-more a t v s more (fault.Write written) (w, (lt, counts, wrote)) =
    let all = append_assoc (waiting a) s more in
    let within : w ≤ length (waiting a ++ s) = omega arith in (
      w,
      (
        omega (arith, lt, ap length all, length-append (waiting a ++ s) more),
        counts,
        subst (λ k. Appends t v k) (sym (take-append-le w (waiting a ++ s) more within) ∙ ap (λ k. take w k) all) wrote,
      ),
    )
SendingCut-more a t v s more (fault.TooLong at) h = absurd h
SendingCut-more a t v s more (fault.Truncated at) h = absurd h
SendingCut-more a t v s more fault.Read h = absurd h
SendingCut-more a t v s more fault.TooManyReads h = absurd h
SendingCut-more a t v s more fault.NoMemory h = absurd h

pub waiting-none : (a : Outbox) → a.used ≡ 0 → waiting a ≡ []
waiting-none a e = ap (λ k. take k a.buffer) e

-- the bytes wait too
pub Sends-retained : (a b : Outbox) (t : Option (List ℕ)) (s : List ℕ) → waiting b ≡ waiting a ++ s
    → b.count.bytes ≡ a.count.bytes → Sends a b t t s
Sends-retained a b t s e f = record { out = []; joined = sym e; wrote = Appends-none t; counted = λ n h. omega arith }

-- nothing waits, and the bytes went out
pub Sends-out : (a b : Outbox) (t u : Option (List ℕ)) (s : List ℕ) → a.used ≡ 0 → b.used ≡ 0
    → b.count.bytes ≡ capped (a.count.bytes + length s) → Appends t u s → Sends a b t u s
Sends-out a b t u s e f k w = record {
  out = s;
  joined = ap (λ x. x ++ s) (waiting-none a e) ∙ sym (append-nil s) ∙ ap (λ x. s ++ x) (sym (waiting-none b f));
  wrote = w;
  counted = λ n h. omega arith;
}

pub SendingCut-out : (a : Outbox) (t u : Option (List ℕ)) (s : List ℕ) (w written : ℕ) → a.used ≡ 0
    → written ≡ capped (a.count.bytes + w) → (w < length s) × Appends t u (take w s)
    → SendingCut a t u s (fault.Write written)
SendingCut-out a t u s w written e k cut =
    let all : s ≡ waiting a ++ s = ap (λ x. x ++ s) (sym (waiting-none a e)) in
    (w, (omega (arith, cut.0, ap length all), λ n h. omega arith, subst (λ x. Appends t u (take w x)) all cut.1))

-- what waited was cut
pub SendingCut-waiting : (a : Outbox) (t u : Option (List ℕ)) (w written : ℕ) → written ≡ capped (a.count.bytes + w)
    → (w < length (waiting a)) × Appends t u (take w (waiting a)) → SendingCut a t u [] (fault.Write written)
SendingCut-waiting a t u w written k cut =
    let all : waiting a ≡ waiting a ++ [] = sym (append-nil (waiting a)) in
    (w, (omega (arith, cut.0, ap length all), λ n h. omega arith, subst (λ x. Appends t u (take w x)) all cut.1))

-- only what waits and the count of bytes matter
pub Sends-same : (a b c : Outbox) (t u : Option (List ℕ)) (s : List ℕ) → waiting c ≡ waiting b
    → c.count.bytes ≡ b.count.bytes → Sends a b t u s → Sends a c t u s
Sends-same a b c t u s e f p = record {
  out = p.out;
  joined = p.joined ∙ ap (λ k. p.out ++ k) (sym e);
  wrote = p.wrote;
  counted = λ n h. f ∙ p.counted n h;
}
