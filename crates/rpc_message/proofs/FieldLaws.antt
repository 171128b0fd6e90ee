-- A field that is read is the field that was written, and what was written is read again.
use Rattle.std.proofs.Common.{◌≡◌, ℕ, zero, suc, ◌^◌, ◌<◌, ◌≤◌, Bool, true, false, cond, ltb, List, [], ◌∷◌, ◌++◌}
use Rattle.std.proofs.Common.{length, take, drop, replicate, Result, Ok, Err, refl, sym, ap, subst, ◌∙◌, append_assoc}
use Rattle.std.proofs.Common.{arith}
use Rattle.std.specs.Int.{w32, from_be_bytes}
use Rattle.std.proofs.lemmas.Bool.{ltb-false, ltb-true, le-ltb}
use Rattle.std.proofs.lemmas.List.{take_at, drop_at, take-append-drop, length-append, length-take, length-replicate}
use Rattle.std.proofs.lemmas.Nat.{be_bytes_4, from_be_bytes-to_be_bytes_4}
use Rattle.rpc_message.specs.declared.fault.ReplyFault.{ReplyFault}
use Rattle.rpc_message.specs.declared.fault.ReplyFault.TheVariants.{Truncated, BadAuth}
use Rattle.rpc_message.specs.Message.{AuthView}
use Rattle.xdr_units.proofs.Bytes.{byte_at, AreBytes-drop, AreBytes-take}
use Rattle.xdr_units.specs.Numbers.{AreBytes, word, gap, pad, IsWord}
use Rattle.rpc_message.specs.Spelling.{opaque, auth, IsAuth}
use Rattle.rpc_message.specs.Private.Reading.{◌>>=◌, are_zeros, word_at, padding_at, opaque_at, auth_at}
use Rattle.rpc_message.proofs.StepLaws.{bind_ok, failed, guard_ok, guard_then, ok_is, ok_no_err, guard_cut, Takes}
use Rattle.rpc_message.proofs.StepLaws.{Takes-then}

pub word_takes : (bytes : List ℕ) (x : ℕ × List ℕ) → AreBytes bytes → word_at bytes ≡ Ok x
    → Takes bytes (word x.0) x.1 × IsWord x.0
unfolding word_at
word_takes bytes x fits e =
    let n = from_be_bytes w32 (take 4 bytes) in
    let g = guard_ok (ltb (length bytes) 4) Truncated (Ok (n, drop 4 bytes)) x e in
    let long : 4 ≤ length bytes = ltb-false _ _ g.0 in
    let front_fits = AreBytes-take 4 bytes fits in
    let front : word n ≡ take 4 bytes = be_bytes_4 (take 4 bytes) n
    (omega (arith, length-take 4 bytes)) (byte_at (take 4 bytes) front_fits) refl in
    let taken : Takes bytes (word n) (drop 4 bytes) =
    record {
      parts = sym (take-append-drop 4 bytes) ∙ ap (λ (t : List ℕ). t ++ drop 4 bytes) (sym front);
      rest_fits = AreBytes-drop 4 bytes fits;
    } in
    let at = byte_at (take 4 bytes) front_fits in
    let small : IsWord n = omega (arith, at 0, at 1, at 2, at 3) in
    subst (λ (y : ℕ × List ℕ). Takes bytes (word y.0) y.1 × IsWord y.0) (ok_is (n, drop 4 bytes) x g.1) (taken, small)

word_from : (text rest : List ℕ) → length text ≡ 4 → word_at (text ++ rest) ≡ Ok (from_be_bytes w32 text, rest)
unfolding word_at
word_from text rest len =
    let long : ltb (length (text ++ rest)) 4 ≡ false = le-ltb _ _ (omega (arith, length-append text rest)) in
    rw (long, take_at text rest 4 len, drop_at text rest 4 len) refl

pub word_again : (n : ℕ) (rest : List ℕ) → IsWord n → word_at (word n ++ rest) ≡ Ok (n, rest)
word_again n rest lt = word_from (word n) rest refl ∙ ap (λ (k : ℕ). Ok (k, rest)) (from_be_bytes-to_be_bytes_4 n lt)

pub word_fails : (bytes : List ℕ) (d : ReplyFault) → word_at bytes ≡ Err d → (length bytes < 4) × (d ≡ Truncated)
unfolding word_at
word_fails bytes d e =
    let g = guard_cut (ltb (length bytes) 4) Truncated (from_be_bytes w32 (take 4 bytes), drop 4 bytes) d e in
    (ltb-true _ _ g.0, g.1)

-- ---- opaque

pub zeros_are : (bytes : List ℕ) → are_zeros bytes ≡ true → bytes ≡ replicate (length bytes) 0
zeros_are [] e = refl
zeros_are (zero ∷ bytes) e = ap (λ (t : List ℕ). 0 ∷ t) (zeros_are bytes e)
zeros_are (suc b ∷ bytes) e = absurd cc

pub are_zeros-replicate : (n : ℕ) → are_zeros (replicate n 0) ≡ true
are_zeros-replicate zero = refl
are_zeros-replicate (suc n) = are_zeros-replicate n

abbrev pub short_padding : List ℕ → Result (List ℕ) ReplyFault
short_padding bytes = cond (are_zeros bytes) (Err Truncated) (Err BadAuth)

abbrev pub whole_padding : ℕ → List ℕ → Result (List ℕ) ReplyFault
whole_padding n bytes = cond (are_zeros (take (gap n) bytes)) (Ok (drop (gap n) bytes)) (Err BadAuth)

-- a choice of which the first answer is no Ok
pub cond_ok : {A : Type 0} (b : Bool) (x z : Result A ReplyFault) (y : A) → (x ≡ Ok y → ⊥) → cond b x z ≡ Ok y
    → (b ≡ false) × (z ≡ Ok y)
cond_ok true x z y never e = absurd (never e)
cond_ok false x z y never e = (refl, e)

short_no_ok : (b : Bool) (rest : List ℕ) → cond b (failed Truncated) (failed BadAuth) ≡ Ok rest → ⊥
short_no_ok true rest e = absurd (ok_no_err rest Truncated (sym e))
short_no_ok false rest e = absurd (ok_no_err rest BadAuth (sym e))

padding_takes : (n : ℕ) (bytes rest : List ℕ) → AreBytes bytes → padding_at n bytes ≡ Ok rest → Takes bytes (pad n) rest
unfolding padding_at
padding_takes n bytes rest fits e =
    let g = cond_ok (ltb (length bytes) (gap n)) (short_padding bytes) (whole_padding n bytes) rest
    (short_no_ok (are_zeros bytes) rest) e in
    let h = guard_then (are_zeros (take (gap n) bytes)) BadAuth (Ok (drop (gap n) bytes)) rest g.1 in
    let long : gap n ≤ length bytes = ltb-false _ _ g.0 in
    let fill_len : length (take (gap n) bytes) ≡ gap n = omega (arith, length-take (gap n) bytes) in
    let zeros : take (gap n) bytes ≡ pad n = zeros_are _ h.0 ∙ ap (λ (k : ℕ). replicate k 0) fill_len in
    let taken : Takes bytes (pad n) (drop (gap n) bytes) =
    record {
      parts = sym (take-append-drop (gap n) bytes) ∙ ap (λ (z : List ℕ). z ++ drop (gap n) bytes) zeros;
      rest_fits = AreBytes-drop (gap n) bytes fits;
    } in
    subst (λ (y : List ℕ). Takes bytes (pad n) y) (ok_is (drop (gap n) bytes) rest h.1) taken

pub padding_again : (n : ℕ) (rest : List ℕ) → padding_at n (pad n ++ rest) ≡ Ok rest
unfolding padding_at
padding_again n rest =
    let size = length-replicate {A = ℕ} (gap n) 0 in
    let long : ltb (length (pad n ++ rest)) (gap n) ≡ false =
    le-ltb _ _ (omega (arith, length-append (pad n) rest, size)) in
    rw (long, take_at (pad n) rest (gap n) size, drop_at (pad n) rest (gap n) size, are_zeros-replicate (gap n)) refl

-- the body and what follows it, after the length n
abbrev pub body_at : ℕ × List ℕ → Result (List ℕ × List ℕ) ReplyFault
body_at n = padding_at n.0 (drop n.0 n.1) >>= λ rest. Ok (take n.0 n.1, rest)

pub opaque_takes : (most : ℕ) (bytes : List ℕ) (x : List ℕ × List ℕ) → AreBytes bytes → opaque_at most bytes ≡ Ok x
    → Takes bytes (opaque x.0) x.1 × (length x.0 ≤ most)
unfolding opaque_at
opaque_takes most bytes x fits e =
    let b = bind_ok (word_at bytes) (λ n. cond (ltb most n.0) (Err BadAuth)
    (cond (ltb (length n.1) n.0) (Err Truncated) (body_at n))) x e in
    let n = b.0.0 in
    let rest = b.0.1 in
    let t = word_takes bytes b.0 fits b.1 in
    let g1 = guard_ok (ltb most n) BadAuth _ x b.2 in
    let g2 = guard_ok (ltb (length rest) n) Truncated _ x g1.1 in
    let p = bind_ok (padding_at n (drop n rest)) (λ after. Ok (take n rest, after)) x g2.1 in
    let short : n ≤ most = ltb-false _ _ g1.0 in
    let long : n ≤ length rest = ltb-false _ _ g2.0 in
    let body_len : length (take n rest) ≡ n = omega (arith, length-take n rest) in
    let rest1 = AreBytes-drop n rest t.0.rest_fits in
    let body : Takes rest (take n rest) (drop n rest) =
    record { parts = sym (take-append-drop n rest); rest_fits = rest1 } in
    let fill = padding_takes n (drop n rest) p.0 rest1 p.1 in
    let both = Takes-then bytes (word n) rest (take n rest ++ pad n) p.0 t.0
    (Takes-then rest (take n rest) (drop n rest) (pad n) p.0 body fill) in
    let whole : Takes bytes (opaque (take n rest)) p.0 =
    subst (λ (k : ℕ). Takes bytes (word k ++ (take n rest ++ pad k)) p.0) (sym body_len) both in
    subst (λ (y : List ℕ × List ℕ). Takes bytes (opaque y.0) y.1 × (length y.0 ≤ most)) (ok_is (take n rest, p.0) x p.2)
    (whole, omega arith)

pub opaque_again : (most : ℕ) (body rest : List ℕ) → length body ≤ most → most < 2 ^ 32
    → opaque_at most (opaque body ++ rest) ≡ Ok (body, rest)
unfolding opaque_at
opaque_again most body rest short small =
    let n = length body in
    let regrouped : opaque body ++ rest ≡ word n ++ (body ++ (pad n ++ rest)) =
    append_assoc (word n) (body ++ pad n) rest
    ∙ ap (λ (x : List ℕ). word n ++ x) (append_assoc body (pad n) rest) in
    let fits : ltb most n ≡ false = le-ltb _ _ short in
    let long : ltb (length (body ++ (pad n ++ rest))) n ≡ false =
    le-ltb _ _ (omega (arith, length-append body (pad n ++ rest))) in
    ap (opaque_at most) regrouped ∙ rw (
      word_again n (body ++ (pad n ++ rest)) (omega arith),
      fits,
      long,
      take_at body
          (pad n ++ rest) n refl,
      drop_at body (pad n ++ rest) n refl,
      padding_again n rest,
    ) refl

pub auth_takes : (bytes : List ℕ) (x : AuthView × List ℕ) → AreBytes bytes → auth_at bytes ≡ Ok x
    → Takes bytes (auth x.0) x.1 × IsAuth x.0
unfolding auth_at
auth_takes bytes x fits e =
    let a = bind_ok (word_at bytes) (λ flavor. opaque_at 400 flavor.1 >>= λ body. Ok
    (record { flavor = flavor.0; body = body.0 }, body.1)) x e in
    let b = bind_ok (opaque_at 400 a.0.1) (λ body. Ok (record { flavor = a.0.0; body = body.0 }, body.1)) x a.2 in
    let t0 = word_takes bytes a.0 fits a.1 in
    let t1 = opaque_takes 400 a.0.1 b.0 t0.0.rest_fits b.1 in
    let both = Takes-then bytes (word a.0.0) a.0.1 (opaque b.0.0) b.0.1 t0.0 t1.0 in
    let made : AuthView × List ℕ = (record { flavor = a.0.0; body = b.0.0 }, b.0.1) in
    subst (λ (y : AuthView × List ℕ). Takes bytes (auth y.0) y.1 × IsAuth y.0) (ok_is made x b.2)
    (both, record { flavor = t0.1; short = t1.1 })

pub auth_again : (a : AuthView) (rest : List ℕ) → IsAuth a → auth_at (auth a ++ rest) ≡ Ok (a, rest)
unfolding auth_at
auth_again a rest fits =
    let regrouped : auth a ++ rest ≡ word a.flavor ++ (opaque a.body ++ rest) =
    append_assoc (word a.flavor) (opaque a.body) rest in
    ap auth_at regrouped ∙ rw (
      word_again a.flavor
          (opaque a.body ++ rest) fits.flavor,
      opaque_again 400 a.body rest fits.short (omega arith),
    ) refl
