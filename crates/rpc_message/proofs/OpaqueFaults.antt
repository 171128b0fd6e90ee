-- A fault in padding or opaque data names what stands there.
use Rattle.std.proofs.Common.{◌≡◌, ◌≢◌, ℕ, ◌<◌, ◌≤◌, Bool, true, false, cond, eqb, ltb, List, [], ◌∷◌, ◌++◌, length}
use Rattle.std.proofs.Common.{take, drop, replicate, Result, Ok, Err, refl, sym, ap, subst, ◌∙◌, arith, inl, inr, ◌⊎◌}
use Rattle.std.proofs.lemmas.Bool.{ltb-true, ltb-false}
use Rattle.std.proofs.lemmas.List.{append-nil, take-append-drop, length-take}
use Rattle.rpc_message.specs.declared.fault.ReplyFault.{ReplyFault}
use Rattle.rpc_message.specs.declared.fault.ReplyFault.TheVariants as faults
use Rattle.xdr_units.specs.Numbers.{AreBytes, word, gap, IsWord}
use Rattle.rpc_message.specs.Private.Reading.{ended, are_zeros, word_at, padding_at, opaque_at}
use Rattle.rpc_message.proofs.StepLaws.{bind_err, ok_no_err, err_is, failed, guard_fails}
use Rattle.rpc_message.proofs.FieldLaws.{word_takes, word_fails}
use Rattle.rpc_message.proofs.FieldLaws.{zeros_are, are_zeros-replicate, short_padding, whole_padding, body_at}

pub ended_fails : {A : Type 0} (rest : List ℕ) (x : A) (d : ReplyFault) → ended rest x ≡ Err d
    → (d ≡ faults.Rest) × (b : ℕ) × (more : List ℕ) × (rest ≡ b ∷ more)
ended_fails [] x d e = absurd (ok_no_err x d e)
ended_fails (b ∷ more) x d e = ((guard_fails (eqb (length (b ∷ more)) 0) faults.Rest x d e).1, b, more, refl)

pub cond_either : {A : Type 0} (b : Bool) (x y : Result A ReplyFault) (d : ReplyFault) → cond b x y ≡ Err d
    → ((b ≡ true) × (x ≡ Err d)) ⊎ ((b ≡ false) × (y ≡ Err d))
cond_either true x y d e = inl (refl, e)
cond_either false x y d e = inr (refl, e)

false_true : false ≡ true → ⊥
false_true e = absurd cc

not_zeros : (bytes : List ℕ) → are_zeros bytes ≡ false → bytes ≢ replicate (length bytes) 0
not_zeros bytes f e = false_true (sym f ∙ ap are_zeros e ∙ are_zeros-replicate (length bytes))

-- a cut of one kind, or wrong bytes of another
abbrev pub CutOr : ReplyFault → Type 0 → Type 0 → Type 0
CutOr d cut bad = ((d ≡ faults.Truncated) × cut) ⊎ ((d ≡ faults.BadAuth) × bad)

record CutPadding (n : ℕ) (bytes : List ℕ) : Type 0 where
  zeros : ℕ
  short : zeros < gap n
  parts : bytes ≡ replicate zeros 0

record WrongPadding (n : ℕ) (bytes : List ℕ) : Type 0 where
  filling : List ℕ
  rest : List ℕ
  size : length filling ≤ gap n
  wrong : filling ≢ replicate (length filling) 0
  parts : bytes ≡ filling ++ rest

padding_fails : (n : ℕ) (bytes : List ℕ) (d : ReplyFault) → padding_at n bytes ≡ Err d
    → CutOr d (CutPadding n bytes) (WrongPadding n bytes)
unfolding padding_at
padding_fails n bytes d e =
    elim (cond_either (ltb (length bytes) (gap n)) (short_padding bytes) (whole_padding n bytes) d e) [
      | inl s ↦
          let short : length bytes < gap n = ltb-true _ _ s.0 in
          elim (cond_either (are_zeros bytes) (failed faults.Truncated) (failed faults.BadAuth) d s.1) [
            | inl z ↦ inl (
              sym (err_is {A = List ℕ} faults.Truncated d z.1),
              record {
                zeros = length bytes;
                short = short;
                parts = zeros_are bytes z.0;
              },
            )
            | inr w ↦ inr (
              sym (err_is {A = List ℕ} faults.BadAuth d w.1),
              record {
                filling = bytes;
                rest = [];
                size = omega (arith, short);
                wrong = not_zeros bytes w.0;
                parts = sym (append-nil bytes);
              },
            )
          ]
      | inr s ↦
          let filling = take (gap n) bytes in
          let w = guard_fails (are_zeros filling) faults.BadAuth (drop (gap n) bytes) d s.1 in
          inr (
            w.1,
            record {
              filling = filling;
              rest = drop (gap n) bytes;
              size = omega (arith, length-take (gap n) bytes);
              wrong = not_zeros filling w.0;
              parts = sym (take-append-drop (gap n) bytes);
            },
          )
    ]

pub record CutBody (most : ℕ) (bytes : List ℕ) : Type 0 where
  pub count : ℕ
  pub body : List ℕ
  pub few : count ≤ most
  pub short : length body < count
  pub parts : bytes ≡ word count ++ body

pub record CutFilling (most : ℕ) (bytes : List ℕ) : Type 0 where
  pub body : List ℕ
  pub zeros : ℕ
  pub few : length body ≤ most
  pub short : zeros < gap (length body)
  pub parts : bytes ≡ word (length body) ++ (body ++ replicate zeros 0)

pub record LongBody (most : ℕ) (bytes : List ℕ) : Type 0 where
  pub count : ℕ
  pub rest : List ℕ
  pub fits : IsWord count
  pub long : most < count
  pub parts : bytes ≡ word count ++ rest

pub record WrongFilling (most : ℕ) (bytes : List ℕ) : Type 0 where
  pub body : List ℕ
  pub filling : List ℕ
  pub rest : List ℕ
  pub few : length body ≤ most
  pub size : length filling ≤ gap (length body)
  pub wrong : filling ≢ replicate (length filling) 0
  pub parts : bytes ≡ word (length body) ++ (body ++ (filling ++ rest))

abbrev pub CutOpaque : ℕ → List ℕ → Type 0
CutOpaque most bytes = (length bytes < 4) ⊎ (CutBody most bytes ⊎ CutFilling most bytes)

abbrev pub BadOpaque : ℕ → List ℕ → Type 0
BadOpaque most bytes = LongBody most bytes ⊎ WrongFilling most bytes

-- a length, so many bytes, and what follows them
body_parts : (bytes rest after : List ℕ) (n : ℕ) → bytes ≡ word n ++ rest → n ≤ length rest → drop n rest ≡ after
    → (length (take n rest) ≡ n) × (bytes ≡ word (length (take n rest)) ++ (take n rest ++ after))
body_parts bytes rest after n e long tail =
    let size : length (take n rest) ≡ n = omega (arith, length-take n rest) in (
      size,
      e ∙ ap (λ (k : ℕ). word k ++ rest) (sym size)
          ∙ ap (λ (t : List ℕ). word (length (take n rest)) ++ t)
          (sym (take-append-drop n rest) ∙ ap (λ (t : List ℕ). take n rest ++ t) tail),
    )

filling_fails : (most n : ℕ) (bytes rest : List ℕ) (d : ReplyFault) → n ≤ most → n ≤ length rest
    → bytes ≡ word n ++ rest → padding_at n (drop n rest) ≡ Err d
    → CutOr d (CutOpaque most bytes) (BadOpaque most bytes)
filling_fails most n bytes rest d few long e h =
    elim (padding_fails n (drop n rest) d h) [
      | inl q ↦
          let b = body_parts bytes rest (replicate q.1.zeros 0) n e long q.1.parts in
          inl (
            q.0,
            inr (inr (record {
              body = take n rest;
              zeros = q.1.zeros;
              few = omega (arith, b.0, few);
              short = subst (λ (k : ℕ). q.1.zeros < gap k) (sym b.0) q.1.short;
              parts = b.1;
            })),
          )
      | inr q ↦
          let b = body_parts bytes rest (q.1.filling ++ q.1.rest) n e long q.1.parts in
          inr (
            q.0,
            inr (record {
              body = take n rest;
              filling = q.1.filling;
              rest = q.1.rest;
              few = omega (arith, b.0, few);
              size = subst (λ (k : ℕ). length q.1.filling ≤ gap k) (sym b.0) q.1.size;
              wrong = q.1.wrong;
              parts = b.1;
            }),
          )
    ]

abbrev long_enough : ℕ × List ℕ → Result (List ℕ × List ℕ) ReplyFault
long_enough n = cond (ltb (length n.1) n.0) (Err faults.Truncated) (body_at n)

pub opaque_fails : (most : ℕ) (bytes : List ℕ) (d : ReplyFault) → AreBytes bytes → opaque_at most bytes ≡ Err d
    → CutOr d (CutOpaque most bytes) (BadOpaque most bytes)
unfolding opaque_at
opaque_fails most bytes d fits e =
    elim (bind_err (word_at bytes) (λ n. cond (ltb most n.0) (Err faults.BadAuth) (long_enough n)) d e) [
      | inl h ↦ let w = word_fails bytes d h in inl (w.1, inl w.0)
      | inr a ↦
          let t = word_takes bytes a.0 fits a.1 in
          elim (cond_either (ltb most a.0.0) (failed faults.BadAuth) (long_enough a.0) d a.2) [
            | inl g ↦ inr (
              sym (err_is {A = List ℕ × List ℕ} faults.BadAuth d g.1),
              inl
                  (record { count = a.0.0; rest = a.0.1; fits = t.1; long = ltb-true _ _ g.0; parts = t.0.parts }),
            )
            | inr g ↦ elim (cond_either (ltb (length a.0.1) a.0.0) (failed faults.Truncated) (body_at a.0) d g.1) [
              | inl c ↦ inl (
                sym (err_is {A = List ℕ × List ℕ} faults.Truncated d c.1),
                inr
                    (inl (record {
                      count = a.0.0;
                      body = a.0.1;
                      few = ltb-false _ _ g.0;
                      short = ltb-true _ _ c.0;
                      parts = t.0.parts;
                    })),
              )
              | inr c ↦ elim (bind_err (padding_at a.0.0 (drop a.0.0 a.0.1))
                  (λ rest. Ok (take a.0.0 a.0.1, rest)) d c.1) [
                    | inl p ↦ filling_fails most a.0.0 bytes a.0.1 d (ltb-false _ _ g.0) (ltb-false _ _ c.0) t.0.parts p
                    | inr p ↦ absurd (ok_no_err (take a.0.0 a.0.1, p.0) d p.2)
                  ]
            ]
          ]
    ]
