-- The head and the target of a call, and what they are where they are cut.
use Rattle.std.proofs.Common.{◌≡◌, ℕ, ◌+◌, ◌<◌, cond, eqb, List, ◌++◌, length, Result, Ok, Err, refl, ap, subst, ◌∙◌}
use Rattle.std.proofs.Common.{arith, inl, inr}
use Rattle.std.proofs.lemmas.Bool.{eqb-true, eqb-false}
use Rattle.std.proofs.lemmas.List.{length-append}
use Rattle.rpc_message.specs.declared.fault.ReplyFault.{ReplyFault}
use Rattle.rpc_message.specs.declared.fault.ReplyFault.TheVariants.{NotAReply}
use Rattle.xdr_units.proofs.Bytes.{same_word}
use Rattle.xdr_units.specs.Numbers.{AreBytes, word, IsWord}
use Rattle.rpc_message.specs.Cases.{IsNoCall}
use Rattle.rpc_message.specs.Private.Reading.{◌>>=◌, read_or, Head, Target, word_at, call_head_at, target_at}
use Rattle.rpc_message.proofs.StepLaws.{bind_ok, bind_err, guard_then, guard_fails, ok_is, ok_no_err}
use Rattle.rpc_message.proofs.FieldLaws.{word_takes}
use Rattle.rpc_message.proofs.FieldLaws.{word_again, word_fails}

pub read_or_cases : {A B : Type 0} (r : Result A ReplyFault) (other : B) (next : A → B) (P : B → Type 0)
    → ((e : ReplyFault) → r ≡ Err e → P other) → ((x : A) → r ≡ Ok x → P (next x)) → P (read_or r other next)
read_or_cases (Ok x) other next P bad good = good x refl
read_or_cases (Err e) other next P bad good = bad e refl

pub second_is : (x y m n : ℕ) (a b : List ℕ) → IsWord x → IsWord y → IsWord m → IsWord n
    → word x ++ word m ++ a ≡ word y ++ word n ++ b → m ≡ n
second_is x y m n a b fx fy fm fn e =
    let behind = (same_word x y (word m ++ a) (word n ++ b) fx fy e).1 in
    (same_word m n a b fm fn behind).0

pub record HasHead (bytes : List ℕ) (h : Head) : Type 0 where
  pub xid : IsWord h.0
  pub version : IsWord h.1
  pub parts : bytes ≡ word h.0 ++ word 0 ++ word h.1 ++ h.2
  pub rest_fits : AreBytes h.2

abbrev head_made : ℕ × List ℕ → ℕ × List ℕ → ℕ × List ℕ → Result Head ReplyFault
head_made xid kind version = cond (eqb kind.0 0) (Ok (xid.0, version.0, version.1)) (Err NotAReply)

pub head_takes : (bytes : List ℕ) (h : Head) → AreBytes bytes → call_head_at bytes ≡ Ok h → HasHead bytes h
unfolding call_head_at
head_takes bytes h fits e =
    let a = bind_ok (word_at bytes) (λ xid. word_at xid.1 >>= λ kind. word_at kind.1 >>= λ version. head_made xid kind
    version) h e in
    let b = bind_ok (word_at a.0.1) (λ kind. word_at kind.1 >>= λ version. head_made a.0 kind version) h a.2 in
    let c = bind_ok (word_at b.0.1) (λ version. head_made a.0 b.0 version) h b.2 in
    let g = guard_then (eqb b.0.0 0) NotAReply (Ok (a.0.0, c.0.0, c.0.1)) h c.2 in
    let zero_is : b.0.0 ≡ 0 = eqb-true _ _ g.0 in
    let t0 = word_takes bytes a.0 fits a.1 in
    let t1 = word_takes a.0.1 b.0 t0.0.rest_fits b.1 in
    let t2 = word_takes b.0.1 c.0 t1.0.rest_fits c.1 in
    let parts : bytes ≡ word a.0.0 ++ (word 0 ++ (word c.0.0 ++ c.0.1)) = t0.0.parts
    ∙ ap (λ (t : List ℕ). word a.0.0 ++ t)
    (t1.0.parts ∙ ap (λ (k : ℕ). word k ++ b.0.1) zero_is ∙ ap (λ (t : List ℕ). word 0 ++ t) t2.0.parts) in
    let made : Head = (a.0.0, c.0.0, c.0.1) in
    subst (HasHead bytes) (ok_is made h g.1)
    (record { xid = t0.1; version = t2.1; parts = parts; rest_fits = t2.0.rest_fits })

pub head_again : (xid version : ℕ) (rest : List ℕ) → IsWord xid → IsWord version
    → call_head_at (word xid ++ word 0 ++ word version ++ rest) ≡ Ok (xid, version, rest)
unfolding call_head_at
head_again xid version rest x v = rw (
  word_again xid (word 0 ++ (word version ++ rest)) x,
  word_again 0
      (word version ++ rest) (omega arith),
  word_again version rest v,
) refl

pub head_fails : (bytes : List ℕ) (d : ReplyFault) → AreBytes bytes → call_head_at bytes ≡ Err d → IsNoCall bytes
unfolding call_head_at
head_fails bytes d fits e =
    elim (bind_err (word_at bytes) (λ xid. word_at xid.1 >>= λ kind. word_at kind.1 >>= λ version. head_made xid kind
    version) d e) [
      | inl h ↦ inl (omega (arith, (word_fails bytes d h).0))
      | inr a ↦
          let t0 = word_takes bytes a.0 fits a.1 in
          let len0 : length bytes ≡ 4 + length a.0.1 = ap length t0.0.parts ∙ length-append (word a.0.0) a.0.1 in
          elim (bind_err (word_at a.0.1) (λ kind. word_at kind.1 >>= λ version. head_made a.0 kind version) d a.2) [
            | inl h ↦ inl (omega (arith, len0, (word_fails a.0.1 d h).0))
            | inr b ↦
                let t1 = word_takes a.0.1 b.0 t0.0.rest_fits b.1 in
                let len1 : length a.0.1 ≡ 4 + length b.0.1 = ap length t1.0.parts ∙ length-append (word b.0.0) b.0.1 in
                elim (bind_err (word_at b.0.1) (λ version. head_made a.0 b.0 version) d b.2) [
                  | inl h ↦ inl (omega (arith, len0, len1, (word_fails b.0.1 d h).0))
                  | inr c ↦ inr (inl (record {
                    xid = a.0.0;
                    kind = b.0.0;
                    rest = b.0.1;
                    fits = (t0.1, t1.1);
                    other = eqb-false _ _ (guard_fails (eqb b.0.0 0) NotAReply (a.0.0, c.0.0, c.0.1) d c.2).0;
                    parts = t0.0.parts ∙ ap (λ (t : List ℕ). word a.0.0 ++ t) t1.0.parts;
                  }))
                ]
          ]
    ]

pub record HasTarget (bytes : List ℕ) (t : Target) : Type 0 where
  pub fits : IsWord t.0 × IsWord t.1 × IsWord t.2
  pub parts : bytes ≡ word t.0 ++ word t.1 ++ word t.2 ++ t.3
  pub rest_fits : AreBytes t.3

pub target_takes : (bytes : List ℕ) (t : Target) → AreBytes bytes → target_at bytes ≡ Ok t → HasTarget bytes t
unfolding target_at
target_takes bytes t fits e =
    let a = bind_ok (word_at bytes) (λ prog. word_at prog.1 >>= λ vers. word_at vers.1 >>= λ proc. Ok
    (prog.0, vers.0, proc.0, proc.1)) t e in
    let b = bind_ok (word_at a.0.1) (λ vers. word_at vers.1 >>= λ proc. Ok (a.0.0, vers.0, proc.0, proc.1)) t a.2 in
    let c = bind_ok (word_at b.0.1) (λ proc. Ok (a.0.0, b.0.0, proc.0, proc.1)) t b.2 in
    let t0 = word_takes bytes a.0 fits a.1 in
    let t1 = word_takes a.0.1 b.0 t0.0.rest_fits b.1 in
    let t2 = word_takes b.0.1 c.0 t1.0.rest_fits c.1 in
    let parts : bytes ≡ word a.0.0 ++ (word b.0.0 ++ (word c.0.0 ++ c.0.1)) = t0.0.parts
    ∙ ap (λ (t : List ℕ). word a.0.0 ++ t) (t1.0.parts ∙ ap (λ (t : List ℕ). word b.0.0 ++ t) t2.0.parts) in
    let made : Target = (a.0.0, b.0.0, c.0.0, c.0.1) in
    subst (HasTarget bytes) (ok_is made t c.2)
    (record { fits = (t0.1, t1.1, t2.1); parts = parts; rest_fits = t2.0.rest_fits })

pub target_again : (prog vers proc : ℕ) (rest : List ℕ) → IsWord prog → IsWord vers → IsWord proc
    → target_at (word prog ++ word vers ++ word proc ++ rest) ≡ Ok (prog, vers, proc, rest)
unfolding target_at
target_again prog vers proc rest x y z =
    rw (
      word_again prog (word vers ++ (word proc ++ rest)) x,
      word_again vers
          (word proc ++ rest) y,
      word_again proc rest z,
    ) refl

pub target_fails : (bytes : List ℕ) (d : ReplyFault) → AreBytes bytes → target_at bytes ≡ Err d → length bytes < 12
unfolding target_at
target_fails bytes d fits e =
    elim (bind_err (word_at bytes) (λ prog. word_at prog.1 >>= λ vers. word_at vers.1 >>= λ proc. Ok
    (prog.0, vers.0, proc.0, proc.1)) d e) [
      | inl h ↦ omega (arith, (word_fails bytes d h).0)
      | inr a ↦
          let t0 = word_takes bytes a.0 fits a.1 in
          let len0 : length bytes ≡ 4 + length a.0.1 = ap length t0.0.parts ∙ length-append (word a.0.0) a.0.1 in
          elim (bind_err (word_at a.0.1)
          (λ vers. word_at vers.1 >>= λ proc. Ok (a.0.0, vers.0, proc.0, proc.1)) d a.2) [
            | inl h ↦ omega (arith, len0, (word_fails a.0.1 d h).0)
            | inr b ↦
                let t1 = word_takes a.0.1 b.0 t0.0.rest_fits b.1 in
                let len1 : length a.0.1 ≡ 4 + length b.0.1 = ap length t1.0.parts ∙ length-append (word b.0.0) b.0.1 in
                elim (bind_err (word_at b.0.1) (λ proc. Ok (a.0.0, b.0.0, proc.0, proc.1)) d b.2) [
                  | inl h ↦ omega (arith, len0, len1, (word_fails b.0.1 d h).0)
                  | inr c ↦ absurd (ok_no_err (a.0.0, b.0.0, c.0.0, c.0.1) d c.2)
                ]
          ]
    ]
