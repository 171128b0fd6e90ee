-- Replies: what is read is spelled so, and what is spelled so is read.
use Rattle.std.proofs.Common.{◌≡◌, ℕ, zero, suc, cond, eqb, List, [], ◌++◌, length, Result, Ok, Err, refl, sym, ap}
use Rattle.std.proofs.Common.{subst, ◌∙◌, append_assoc, arith}
use Rattle.std.specs.Prelude.{IfOk, MatchResult}
use Rattle.std.proofs.lemmas.Bool.{eqb-true}
use Rattle.std.proofs.lemmas.List.{nil_from_length}
use Rattle.rpc_message.specs.declared.fault.ReplyFault.{ReplyFault}
use Rattle.rpc_message.specs.declared.fault.ReplyFault.TheVariants as faults
use Rattle.rpc_message.specs.declared.message.Reply.{Reply}
use Rattle.rpc_message.specs.Message.{AuthView, StatusView, Success, ProgUnavail, ProgMismatch, ProcUnavail}
use Rattle.rpc_message.specs.Message.{GarbageArgs, SystemErr, WhyView, RpcMismatch, AuthError, ReplyView, Accepted}
use Rattle.rpc_message.specs.Message.{Denied}
use Rattle.xdr_units.specs.Numbers.{AreBytes, word, IsWord}
use Rattle.rpc_message.specs.Spelling.{auth, status, why, reply, IsAuth, IsStatus, IsWhy, ReplyBytes}
use Rattle.rpc_message.specs.View.{reply_view}
use Rattle.rpc_message.specs.Private.Reading.{◌>>=◌, ReadsOrNoMemory, ended, word_at, auth_at, bounds_at, status_at}
use Rattle.rpc_message.specs.Private.Reading.{why_at, accepted_at}
use Rattle.rpc_message.specs.Private.Reading.{denied_at, reply_stat_at, reply_at}
use Rattle.rpc_message.proofs.StepLaws.{bind_ok, guard_then, ok_is, ok_no_err}
use Rattle.rpc_message.proofs.FieldLaws.{word_takes, word_again, auth_takes}
use Rattle.rpc_message.proofs.FieldLaws.{auth_again}

pub ended_ok : {A : Type 0} (rest : List ℕ) (x y : A) → ended rest x ≡ Ok y → (rest ≡ []) × (x ≡ y)
ended_ok rest x y e =
    let g = guard_then (eqb (length rest) 0) faults.Rest (Ok x) y e in
    (nil_from_length rest (eqb-true _ _ g.0), ok_is x y g.1)

-- ---- the two numbers at the end

bounds_take : (bytes : List ℕ) (b : ℕ × ℕ) → AreBytes bytes → bounds_at bytes ≡ Ok b
    → (bytes ≡ word b.0 ++ word b.1) × IsWord b.0 × IsWord b.1
unfolding bounds_at
bounds_take bytes b fits e =
    let l = bind_ok (word_at bytes) (λ low. word_at low.1 >>= λ high. ended high.1 (low.0, high.0)) b e in
    let h = bind_ok (word_at l.0.1) (λ high. ended high.1 (l.0.0, high.0)) b l.2 in
    let g = ended_ok h.0.1 (l.0.0, h.0.0) b h.2 in
    let t0 = word_takes bytes l.0 fits l.1 in
    let t1 = word_takes l.0.1 h.0 t0.0.rest_fits h.1 in
    let parts : bytes ≡ word l.0.0 ++ word h.0.0 = t0.0.parts
    ∙ ap (λ (t : List ℕ). word l.0.0 ++ t) (t1.0.parts ∙ ap (λ (t : List ℕ). word h.0.0 ++ t) g.0) in
    subst (λ (p : ℕ × ℕ). (bytes ≡ word p.0 ++ word p.1) × IsWord p.0 × IsWord p.1) g.1 (parts, t0.1, t1.1)

bounds_again : (low high : ℕ) → IsWord low → IsWord high → bounds_at (word low ++ word high) ≡ Ok (low, high)
unfolding bounds_at
bounds_again low high x y = rw (word_again low (word high) x, word_again high [] y) refl

-- ---- statuses

status_takes : (stat : ℕ) (bytes : List ℕ) (s : StatusView) → AreBytes bytes → status_at stat bytes ≡ Ok s
    → (word stat ++ bytes ≡ status s) × IsStatus s
unfolding status_at
status_takes zero bytes s fits e = subst (λ (x : StatusView). (word 0 ++ bytes ≡ status x) × IsStatus x)
    (ok_is (Success bytes) s e) (refl, tt)
status_takes (suc zero) bytes s fits e = let g =
    ended_ok bytes ProgUnavail s e in subst (λ (x : StatusView). (word 1 ++ bytes ≡ status x) × IsStatus x) g.1
    (ap (λ (t : List ℕ). word 1 ++ t) g.0, tt)
status_takes (suc (suc zero)) bytes s fits e =
    let b = bind_ok (bounds_at bytes) (λ b. Ok (ProgMismatch b.0 b.1)) s e in
    let t = bounds_take bytes b.0 fits b.1 in
    subst (λ (x : StatusView). (word 2 ++ bytes ≡ status x) × IsStatus x) (ok_is (ProgMismatch b.0.0 b.0.1) s b.2)
    (ap (λ (t : List ℕ). word 2 ++ t) t.0, (t.1, t.2))
status_takes (suc (suc (suc zero))) bytes s fits e = let g =
    ended_ok bytes ProcUnavail s e in subst (λ (x : StatusView). (word 3 ++ bytes ≡ status x) × IsStatus x) g.1
    (ap (λ (t : List ℕ). word 3 ++ t) g.0, tt)
status_takes (suc (suc (suc (suc zero)))) bytes s fits e = let g =
    ended_ok bytes GarbageArgs s e in subst (λ (x : StatusView). (word 4 ++ bytes ≡ status x) × IsStatus x) g.1
    (ap (λ (t : List ℕ). word 4 ++ t) g.0, tt)
status_takes (suc (suc (suc (suc (suc zero))))) bytes s fits e = let g =
    ended_ok bytes SystemErr s e in subst (λ (x : StatusView). (word 5 ++ bytes ≡ status x) × IsStatus x) g.1
    (ap (λ (t : List ℕ). word 5 ++ t) g.0, tt)
status_takes (suc (suc (suc (suc (suc (suc n)))))) bytes s fits e = absurd (ok_no_err s faults.BadStatus (sym e))

-- the number of a status, and what follows it
after_stat : (s : StatusView) → IsStatus s
    → (stat : ℕ) × (rest : List ℕ) × IsWord stat × (status s ≡ word stat ++ rest) × (status_at stat rest ≡ Ok s)
unfolding status_at
after_stat (Success results) fits = (0, results, omega arith, refl, refl)
after_stat ProgUnavail fits = (1, [], omega arith, refl, refl)
after_stat (ProgMismatch low high) fits =
    (2, word low ++ word high, omega arith, refl, rw (bounds_again low high fits.0 fits.1) refl)
after_stat ProcUnavail fits = (3, [], omega arith, refl, refl)
after_stat GarbageArgs fits = (4, [], omega arith, refl, refl)
after_stat SystemErr fits = (5, [], omega arith, refl, refl)

why_takes : (stat : ℕ) (bytes : List ℕ) (w : WhyView) → AreBytes bytes → why_at stat bytes ≡ Ok w
    → (word stat ++ bytes ≡ why w) × IsWhy w
unfolding why_at
why_takes zero bytes w fits e =
    let b = bind_ok (bounds_at bytes) (λ b. Ok (RpcMismatch b.0 b.1)) w e in
    let t = bounds_take bytes b.0 fits b.1 in
    subst (λ (x : WhyView). (word 0 ++ bytes ≡ why x) × IsWhy x) (ok_is (RpcMismatch b.0.0 b.0.1) w b.2)
    (ap (λ (t : List ℕ). word 0 ++ t) t.0, (t.1, t.2))
why_takes (suc zero) bytes w fits e =
    let b = bind_ok (word_at bytes) (λ stat. ended stat.1 (AuthError stat.0)) w e in
    let g = ended_ok b.0.1 (AuthError b.0.0) w b.2 in
    let t = word_takes bytes b.0 fits b.1 in
    let parts : word 1 ++ bytes ≡ word 1 ++ word b.0.0 =
    ap (λ (t : List ℕ). word 1 ++ t) (t.0.parts ∙ ap (λ (t : List ℕ). word b.0.0 ++ t) g.0) in
    subst (λ (x : WhyView). (word 1 ++ bytes ≡ why x) × IsWhy x) g.1 (parts, t.1)
why_takes (suc (suc n)) bytes w fits e = absurd (ok_no_err w faults.BadStatus (sym e))

after_why : (w : WhyView) → IsWhy w → (stat : ℕ) × (rest : List ℕ) × IsWord stat × (why w ≡ word stat ++ rest)
    × (why_at stat rest ≡ Ok w)
unfolding why_at
after_why (RpcMismatch low high) fits = (
  0,
  word low
      ++ word high,
  omega arith,
  refl,
  rw (bounds_again low high fits.0 fits.1) refl,
)
after_why (AuthError stat) fits = (1, word stat, omega arith, refl, rw (word_again stat [] fits) refl)

-- ---- replies

-- after the number of the reply's kind of answer
abbrev tail : ReplyView → List ℕ
tail (Accepted xid verf s) = word 0 ++ (auth verf ++ status s)
tail (Denied xid w) = word 1 ++ why w

accepted_takes : (xid : ℕ) (bytes : List ℕ) (r : ReplyView) → IsWord xid → AreBytes bytes → accepted_at xid bytes ≡ Ok r
    → ReplyBytes r (word xid ++ (word 1 ++ (word 0 ++ bytes)))
unfolding accepted_at
accepted_takes xid bytes r x fits e =
    let a = bind_ok (auth_at bytes) (λ verf. word_at verf.1 >>= λ stat. status_at stat.0 stat.1 >>= λ s. Ok
    (Accepted xid verf.0 s)) r e in
    let b = bind_ok (word_at a.0.1) (λ stat. status_at stat.0 stat.1 >>= λ s. Ok (Accepted xid a.0.0 s)) r a.2 in
    let s = bind_ok (status_at b.0.0 b.0.1) (λ s. Ok (Accepted xid a.0.0 s)) r b.2 in
    let t0 = auth_takes bytes a.0 fits a.1 in
    let t1 = word_takes a.0.1 b.0 t0.0.rest_fits b.1 in
    let t2 = status_takes b.0.0 b.0.1 s.0 t1.0.rest_fits s.1 in
    let parts : bytes ≡ auth a.0.0 ++ status s.0 = t0.0.parts
    ∙ ap (λ (t : List ℕ). auth a.0.0 ++ t) (t1.0.parts ∙ t2.0) in
    subst (λ (q : ReplyView). ReplyBytes q (word xid ++ (word 1 ++ (word 0 ++ bytes))))
    (ok_is (Accepted xid a.0.0 s.0) r s.2)
    (record { fits = (x, t0.1, t2.1); parts = ap (λ (t : List ℕ). word xid ++ (word 1 ++ (word 0 ++ t))) parts })

denied_takes : (xid : ℕ) (bytes : List ℕ) (r : ReplyView) → IsWord xid → AreBytes bytes → denied_at xid bytes ≡ Ok r
    → ReplyBytes r (word xid ++ (word 1 ++ (word 1 ++ bytes)))
unfolding denied_at
denied_takes xid bytes r x fits e =
    let b = bind_ok (word_at bytes) (λ stat. why_at stat.0 stat.1 >>= λ w. Ok (Denied xid w)) r e in
    let w = bind_ok (why_at b.0.0 b.0.1) (λ w. Ok (Denied xid w)) r b.2 in
    let t1 = word_takes bytes b.0 fits b.1 in
    let t2 = why_takes b.0.0 b.0.1 w.0 t1.0.rest_fits w.1 in
    let parts : bytes ≡ why w.0 = t1.0.parts ∙ t2.0 in
    subst (λ (q : ReplyView). ReplyBytes q (word xid ++ (word 1 ++ (word 1 ++ bytes)))) (ok_is (Denied xid w.0) r w.2)
    (record { fits = (x, t2.1); parts = ap (λ (t : List ℕ). word xid ++ (word 1 ++ (word 1 ++ t))) parts })

stat_takes : (xid stat : ℕ) (bytes : List ℕ) (r : ReplyView) → IsWord xid → AreBytes bytes
    → reply_stat_at xid stat bytes ≡ Ok r → ReplyBytes r (word xid ++ (word 1 ++ (word stat ++ bytes)))
unfolding reply_stat_at
stat_takes xid zero bytes r x fits e = accepted_takes xid bytes r x fits e
stat_takes xid (suc zero) bytes r x fits e = denied_takes xid bytes r x fits e
stat_takes xid (suc (suc n)) bytes r x fits e = absurd (ok_no_err r faults.BadStatus (sym e))

abbrev pub after_kind : ℕ × List ℕ → ℕ × List ℕ → Result ReplyView ReplyFault
after_kind xid kind = cond (eqb kind.0 1) (word_at kind.1 >>= (λ stat. reply_stat_at xid.0 stat.0 stat.1))
    (Err faults.NotAReply)

pub reply_takes : (bytes : List ℕ) (r : ReplyView) → AreBytes bytes → reply_at bytes ≡ Ok r → ReplyBytes r bytes
unfolding reply_at
reply_takes bytes r fits e =
    let a = bind_ok (word_at bytes) (λ xid. word_at xid.1 >>= λ kind. after_kind xid kind) r e in
    let b = bind_ok (word_at a.0.1) (λ kind. after_kind a.0 kind) r a.2 in
    let g = guard_then (eqb b.0.0 1) faults.NotAReply
    (word_at b.0.1 >>= (λ stat. reply_stat_at a.0.0 stat.0 stat.1)) r b.2 in
    let c = bind_ok (word_at b.0.1) (λ stat. reply_stat_at a.0.0 stat.0 stat.1) r g.1 in
    let t0 = word_takes bytes a.0 fits a.1 in
    let t1 = word_takes a.0.1 b.0 t0.0.rest_fits b.1 in
    let t2 = word_takes b.0.1 c.0 t1.0.rest_fits c.1 in
    let parts : bytes ≡ word a.0.0 ++ (word 1 ++ (word c.0.0 ++ c.0.1)) = t0.0.parts
    ∙ ap (λ (t : List ℕ). word a.0.0 ++ t)
    (t1.0.parts ∙ ap (λ (k : ℕ). word k ++ b.0.1) (eqb-true _ _ g.0)
    ∙ ap (λ (t : List ℕ). word 1 ++ t) t2.0.parts) in
    let whole = stat_takes a.0.0 c.0.0 c.0.1 r t0.1 t2.0.rest_fits c.2 in
    record { fits = whole.fits; parts = parts ∙ whole.parts }

accepted_again : (xid : ℕ) (verf : AuthView) (s : StatusView) → IsAuth verf → IsStatus s
    → accepted_at xid (auth verf ++ status s) ≡ Ok (Accepted xid verf s)
unfolding accepted_at
accepted_again xid verf s v fits =
    let a = after_stat s fits in
    ap (λ (t : List ℕ). accepted_at xid (auth verf ++ t)) a.3
    ∙ rw (auth_again verf (word a.0 ++ a.1) v, word_again a.0 a.1 a.2, a.4) refl

denied_again : (xid : ℕ) (w : WhyView) → IsWhy w → denied_at xid (why w) ≡ Ok (Denied xid w)
unfolding denied_at
denied_again xid w fits =
    let a = after_why w fits in
    ap (denied_at xid) a.3 ∙ rw (word_again a.0 a.1 a.2, a.4) refl

head_again : (xid stat : ℕ) (rest : List ℕ) → IsWord xid → IsWord stat
    → reply_at (word xid ++ (word 1 ++ (word stat ++ rest))) ≡ reply_stat_at xid stat rest
unfolding reply_at
head_again xid stat rest x s = rw (
  word_again xid (word 1 ++ (word stat ++ rest)) x,
  word_again 1 (word stat ++ rest)
      (omega arith),
  word_again stat rest s,
) refl

pub reply_again : (r : ReplyView) (bytes : List ℕ) → ReplyBytes r bytes → reply_at bytes ≡ Ok r
unfolding reply_stat_at
reply_again (Accepted xid verf s) bytes e = ap reply_at e.parts
    ∙ head_again xid 0 (auth verf ++ status s) e.fits.0 (omega arith) ∙ accepted_again xid verf s e.fits.1 e.fits.2
reply_again (Denied xid w) bytes e = ap reply_at e.parts ∙ head_again xid 1 (why w) e.fits.0 (omega arith)
    ∙ denied_again xid w e.fits.1

pub one_reply : (q r : ReplyView) (bytes : List ℕ) → ReplyBytes q bytes → ReplyBytes r bytes → q ≡ r
one_reply q r bytes x y = ok_is q r (sym (reply_again q bytes x) ∙ reply_again r bytes y)

pub is_found : (bytes : List ℕ) (r : Result Reply ReplyFault) → AreBytes bytes
    → ReadsOrNoMemory reply_view r (reply_at bytes)
    → IfOk r (λ x. ReplyBytes (reply_view x) bytes)
is_found bytes (Ok x) fits e = reply_takes bytes (reply_view x) fits e
is_found bytes (Err d) fits e = tt

pub is_only : (bytes : List ℕ) (x : Result Reply ReplyFault) (r : ReplyView) → ReplyBytes r bytes
    → ReadsOrNoMemory reply_view x (reply_at bytes) → MatchResult x (λ q. reply_view q ≡ r) (λ e. e ≡ faults.NoMemory)
is_only bytes (Ok q) r p e = ok_is (reply_view q) r (sym e ∙ reply_again r bytes p)
is_only bytes (Err faults.Truncated) r p e = absurd (ok_no_err r faults.Truncated (sym (reply_again r bytes p) ∙ e))
is_only bytes (Err faults.NotAReply) r p e = absurd (ok_no_err r faults.NotAReply (sym (reply_again r bytes p) ∙ e))
is_only bytes (Err faults.BadStatus) r p e = absurd (ok_no_err r faults.BadStatus (sym (reply_again r bytes p) ∙ e))
is_only bytes (Err faults.BadAuth) r p e = absurd (ok_no_err r faults.BadAuth (sym (reply_again r bytes p) ∙ e))
is_only bytes (Err faults.Rest) r p e = absurd (ok_no_err r faults.Rest (sym (reply_again r bytes p) ∙ e))
is_only bytes (Err faults.NoMemory) r p e = refl

-- ---- what was written, part by part

assoc : (old a b c d e : List ℕ) → old ++ a ++ b ++ c ++ d ++ e ≡ old ++ (a ++ (b ++ (c ++ (d ++ e))))
assoc old a b c d e = simp append_assoc refl

pub accepted_written : (old o1 o2 o3 o4 o5 : List ℕ) (xid : ℕ) (verf : AuthView) (s : StatusView) → o1 ≡ old ++ word xid
    → o2 ≡ o1 ++ word 1 → o3 ≡ o2 ++ word 0 → o4 ≡ o3 ++ auth verf → o5 ≡ o4 ++ status s
    → o5 ≡ old ++ reply (Accepted xid verf s)
accepted_written old o1 o2 o3 o4 o5 xid verf s e1 e2 e3 e4 e5 =
    e5 ∙ ap (λ (t : List ℕ). t ++ status s)
    (e4 ∙ ap (λ (t : List ℕ). t ++ auth verf)
    (e3 ∙ ap (λ (t : List ℕ). t ++ word 0) (e2 ∙ ap (λ (t : List ℕ). t ++ word 1) e1)))
    ∙ assoc old (word xid) (word 1) (word 0) (auth verf) (status s)

pub denied_written : (old o1 o2 o3 o4 : List ℕ) (xid : ℕ) (w : WhyView) → o1 ≡ old ++ word xid
    → o2 ≡ o1 ++ word 1 → o3 ≡ o2 ++ word 1 → o4 ≡ o3 ++ why w → o4 ≡ old ++ reply (Denied xid w)
denied_written old o1 o2 o3 o4 xid w e1 e2 e3 e4 =
    e4 ∙ ap (λ (t : List ℕ). t ++ why w)
    (e3 ∙ ap (λ (t : List ℕ). t ++ word 1) (e2 ∙ ap (λ (t : List ℕ). t ++ word 1) e1))
    ∙ simp append_assoc refl
