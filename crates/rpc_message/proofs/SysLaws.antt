-- The body of AUTH_SYS: what is read is spelled so, and what is spelled so is read.
use Rattle.std.proofs.Common.{◌≡◌, ℕ, zero, suc, ◌≤◌, false, cond, ltb, List, [], ◌∷◌, ◌++◌, length, Ok, Err, refl, sym}
use Rattle.std.proofs.Common.{ap, subst, ◌∙◌, append_assoc, arith}
use Rattle.std.specs.List.{flat_map, AllByRecursion}
use Rattle.std.proofs.lemmas.Bool.{ltb-false, le-ltb}
use Rattle.std.proofs.lemmas.List.{append-nil}
use Rattle.std.proofs.lemmas.List.Elements.{All-from_recursion, recursion_from_All}
use Rattle.std.proofs.lemmas.List.Concat.{flat_map-cons}
use Rattle.rpc_message.specs.declared.fault.ReplyFault.{ReplyFault}
use Rattle.rpc_message.specs.declared.fault.ReplyFault.TheVariants as faults
use Rattle.rpc_message.specs.Message.{AuthSysView}
use Rattle.xdr_units.specs.Numbers.{AreBytes, word, IsWord}
use Rattle.rpc_message.specs.Spelling.{opaque, auth_sys, IsAuthSys, AuthSysBytes}
use Rattle.rpc_message.specs.Private.Reading.{◌>>=◌, Fails, is_memory, ended, word_at, opaque_at, words_at, gids_at}
use Rattle.rpc_message.specs.Private.Reading.{auth_sys_at}
use Rattle.rpc_message.proofs.StepLaws.{Takes, Takes-then, bind_ok, guard_ok, ok_is, ok_no_err}
use Rattle.rpc_message.proofs.FieldLaws.{word_takes, word_again}
use Rattle.rpc_message.proofs.FieldLaws.{opaque_takes, opaque_again}
use Rattle.rpc_message.proofs.ReplyLaws.{ended_ok}

words_take : (n : ℕ) (bytes : List ℕ) (x : List ℕ × List ℕ) → AreBytes bytes → words_at n bytes ≡ Ok x
    → Takes bytes (flat_map word x.0) x.1 × (length x.0 ≡ n) × AllByRecursion IsWord x.0
unfolding words_at
words_take zero bytes x fits e =
    subst (λ (y : List ℕ × List ℕ). Takes bytes (flat_map word y.0) y.1 × (length y.0 ≡ 0) × AllByRecursion IsWord y.0)
    (ok_is ([], bytes) x e) (record { parts = refl; rest_fits = fits }, refl, tt)
words_take (suc n) bytes x fits e =
    let a = bind_ok (word_at bytes) (λ first. words_at n first.1 >>= λ others. Ok (first.0 ∷ others.0, others.1)) x e in
    let b = bind_ok (words_at n a.0.1) (λ others. Ok (a.0.0 ∷ others.0, others.1)) x a.2 in
    let first = word_takes bytes a.0 fits a.1 in
    let second = words_take n a.0.1 b.0 first.0.rest_fits b.1 in
    let both = Takes-then bytes (word a.0.0) a.0.1 (flat_map word b.0.0) b.0.1 first.0 second.0 in
    let made : List ℕ × List ℕ = (a.0.0 ∷ b.0.0, b.0.1) in
    subst (λ (y : List ℕ × List ℕ). Takes bytes (flat_map word y.0) y.1 × (length y.0 ≡ suc n)
    × AllByRecursion IsWord y.0) (ok_is made x b.2) (
      subst (λ (t : List ℕ). Takes bytes t b.0.1) (sym (flat_map-cons word a.0.0 b.0.0)) both,
      ap suc second.1,
      (first.1, second.2),
    )

words_again : (ns : List ℕ) (rest : List ℕ) → AllByRecursion IsWord ns
    → words_at (length ns) (flat_map word ns ++ rest) ≡ Ok (ns, rest)
unfolding words_at
words_again [] rest fits = refl
words_again (n ∷ ns) rest fits =
    let regrouped : flat_map word (n ∷ ns) ++ rest ≡ word n ++ (flat_map word ns ++ rest) =
    ap (λ (x : List ℕ). x ++ rest) (flat_map-cons word n ns) ∙ append_assoc (word n) (flat_map word ns) rest in
    ap (words_at (suc (length ns))) regrouped
    ∙ rw (word_again n (flat_map word ns ++ rest) fits.0, words_again ns rest fits.1) refl

record AreGids (bytes gids : List ℕ) : Type 0 where
  parts : bytes ≡ word (length gids) ++ flat_map word gids
  few : length gids ≤ 16
  words : AllByRecursion IsWord gids

gids_take : (bytes : List ℕ) (gids : List ℕ) → AreBytes bytes → gids_at bytes ≡ Ok gids → AreGids bytes gids
unfolding gids_at
gids_take bytes gids fits e =
    let n = bind_ok (word_at bytes) (λ n. cond (ltb 16 n.0) (Err faults.BadAuth)
    (words_at n.0 n.1 >>= (λ xs. ended xs.1 xs.0))) gids e in
    let g = guard_ok (ltb 16 n.0.0) faults.BadAuth (words_at n.0.0 n.0.1 >>= (λ xs. ended xs.1 xs.0)) gids n.2 in
    let xs = bind_ok (words_at n.0.0 n.0.1) (λ xs. ended xs.1 xs.0) gids g.1 in
    let last = ended_ok xs.0.1 xs.0.0 gids xs.2 in
    let t0 = word_takes bytes n.0 fits n.1 in
    let t1 = words_take n.0.0 n.0.1 xs.0 t0.0.rest_fits xs.1 in
    let rest_is : n.0.1 ≡ flat_map word xs.0.0 = t1.0.parts ∙ ap (λ (t : List ℕ). flat_map word xs.0.0 ++ t) last.0
    ∙ append-nil (flat_map word xs.0.0) in
    let parts : bytes ≡ word (length xs.0.0) ++ flat_map word xs.0.0 = t0.0.parts
    ∙ ap (λ (t : List ℕ). word n.0.0 ++ t) rest_is ∙ ap (λ (k : ℕ). word k ++ flat_map word xs.0.0) (sym t1.1) in
    let short : n.0.0 ≤ 16 = ltb-false _ _ g.0 in
    subst (AreGids bytes) last.1 (record { parts = parts; few = omega (arith, t1.1, short); words = t1.2 })

gids_again : (gids : List ℕ) → length gids ≤ 16 → AllByRecursion IsWord gids
    → gids_at (word (length gids) ++ flat_map word gids) ≡ Ok gids
unfolding gids_at
gids_again gids few words =
    let all : words_at (length gids) (flat_map word gids) ≡ Ok (gids, []) =
    ap (words_at (length gids)) (sym (append-nil (flat_map word gids))) ∙ words_again gids [] words in
    rw (word_again (length gids) (flat_map word gids) (omega arith), le-ltb 16 (length gids) few, all) refl

pub sys_takes : (bytes : List ℕ) (a : AuthSysView) → AreBytes bytes → auth_sys_at bytes ≡ Ok a → AuthSysBytes a bytes
unfolding auth_sys_at
sys_takes bytes a fits e =
    let s = bind_ok (word_at bytes) (λ stamp. opaque_at 255 stamp.1 >>= λ machine. word_at machine.1 >>= λ uid. word_at
    uid.1 >>= λ gid. gids_at gid.1 >>= λ gids. Ok
    (record { stamp = stamp.0; machine = machine.0; uid = uid.0; gid = gid.0; gids = gids })) a e in
    let m = bind_ok (opaque_at 255 s.0.1)
    (λ machine. word_at machine.1 >>= λ uid. word_at uid.1 >>= λ gid. gids_at gid.1 >>= λ gids. Ok
    (record { stamp = s.0.0; machine = machine.0; uid = uid.0; gid = gid.0; gids = gids })) a s.2 in
    let u = bind_ok (word_at m.0.1) (λ uid. word_at uid.1 >>= λ gid. gids_at gid.1 >>= λ gids. Ok
    (record { stamp = s.0.0; machine = m.0.0; uid = uid.0; gid = gid.0; gids = gids })) a m.2 in
    let g = bind_ok (word_at u.0.1) (λ gid. gids_at gid.1 >>= λ gids. Ok
    (record { stamp = s.0.0; machine = m.0.0; uid = u.0.0; gid = gid.0; gids = gids })) a u.2 in
    let gs = bind_ok (gids_at g.0.1) (λ gids. Ok
    (record { stamp = s.0.0; machine = m.0.0; uid = u.0.0; gid = g.0.0; gids = gids })) a g.2 in
    let t0 = word_takes bytes s.0 fits s.1 in
    let t1 = opaque_takes 255 s.0.1 m.0 t0.0.rest_fits m.1 in
    let t2 = word_takes m.0.1 u.0 t1.0.rest_fits u.1 in
    let t3 = word_takes u.0.1 g.0 t2.0.rest_fits g.1 in
    let t4 = gids_take g.0.1 gs.0 t3.0.rest_fits gs.1 in
    let last : m.0.1 ≡ word u.0.0 ++ (word g.0.0 ++ (word (length gs.0) ++ flat_map word gs.0)) = t2.0.parts
    ∙ ap (λ (t : List ℕ). word u.0.0 ++ t) (t3.0.parts ∙ ap (λ (t : List ℕ). word g.0.0 ++ t) t4.parts) in
    let made : AuthSysView = record { stamp = s.0.0; machine = m.0.0; uid = u.0.0; gid = g.0.0; gids = gs.0 } in
    let parts : bytes ≡ auth_sys made = t0.0.parts
    ∙ ap (λ (t : List ℕ). word s.0.0 ++ t) (t1.0.parts ∙ ap (λ (t : List ℕ). opaque m.0.0 ++ t) last) in
    let fine : IsAuthSys made = record {
      stamp = t0.1;
      machine = t1.1;
      uid = t2.1;
      gid = t3.1;
      few = t4.few;
      gids = All-from_recursion IsWord gs.0 t4.words;
    } in
    subst (λ (b : AuthSysView). AuthSysBytes b bytes) (ok_is made a gs.2) (record { fits = fine; parts = parts })

pub sys_again : (a : AuthSysView) (bytes : List ℕ) → AuthSysBytes a bytes → auth_sys_at bytes ≡ Ok a
unfolding auth_sys_at
sys_again a bytes e =
    let f = e.fits in
    let after_gid = word (length a.gids) ++ flat_map word a.gids in
    let after_uid = word a.gid ++ after_gid in
    let after_machine = word a.uid ++ after_uid in
    ap auth_sys_at e.parts ∙ rw (
      word_again a.stamp
          (opaque a.machine ++ after_machine) f.stamp,
      opaque_again 255 a.machine after_machine f.machine
          (omega arith),
      word_again a.uid after_uid f.uid,
      word_again a.gid after_gid f.gid,
      gids_again a.gids f.few
          (recursion_from_All IsWord a.gids f.gids),
    ) refl

pub one_sys : (p q : AuthSysView) (bytes : List ℕ) → AuthSysBytes p bytes → AuthSysBytes q bytes → p ≡ q
one_sys p q bytes x y = ok_is p q (sym (sys_again p bytes x) ∙ sys_again q bytes y)

pub none_is : (e : ReplyFault) (bytes : List ℕ) (a : AuthSysView) → is_memory e ≡ false → Fails e (auth_sys_at bytes)
    → AuthSysBytes a bytes → ⊥
none_is faults.Truncated bytes a other h p = ok_no_err a faults.Truncated (sym (sys_again a bytes p) ∙ h)
none_is faults.NotAReply bytes a other h p = ok_no_err a faults.NotAReply (sym (sys_again a bytes p) ∙ h)
none_is faults.BadStatus bytes a other h p = ok_no_err a faults.BadStatus (sym (sys_again a bytes p) ∙ h)
none_is faults.BadAuth bytes a other h p = ok_no_err a faults.BadAuth (sym (sys_again a bytes p) ∙ h)
none_is faults.Rest bytes a other h p = ok_no_err a faults.Rest (sym (sys_again a bytes p) ∙ h)
none_is faults.NoMemory bytes a other h p = absurd cc

-- ---- what was written, part by part

assoc : (a b u g n rest : List ℕ) → a ++ b ++ u ++ g ++ n ++ rest ≡ a ++ (b ++ (u ++ g ++ n ++ rest))
assoc a b u g n rest = simp append_assoc refl

pub sys_written : (a : AuthSysView) (o1 o2 o3 o4 o5 o6 : List ℕ) → IsAuthSys a → o1 ≡ word a.stamp
    → o2 ≡ o1 ++ opaque a.machine → o3 ≡ o2 ++ word a.uid → o4 ≡ o3 ++ word a.gid → o5 ≡ o4 ++ word (length a.gids)
    → o6 ≡ o5 ++ flat_map word a.gids → AuthSysBytes a o6
sys_written a o1 o2 o3 o4 o5 o6 fits e1 e2 e3 e4 e5 e6 =
    let whole : o6 ≡ word a.stamp ++ opaque a.machine ++ word a.uid ++ word a.gid ++ word (length a.gids)
    ++ flat_map word a.gids = e6 ∙ ap (λ (t : List ℕ). t ++ flat_map word a.gids)
    (e5 ∙ ap (λ (t : List ℕ). t ++ word (length a.gids))
    (e4 ∙ ap (λ (t : List ℕ). t ++ word a.gid)
    (e3 ∙ ap (λ (t : List ℕ). t ++ word a.uid) (e2 ∙ ap (λ (t : List ℕ). t ++ opaque a.machine) e1)))) in
    record {
      fits = fits;
      parts = whole ∙ assoc (word a.stamp) (opaque a.machine) (word a.uid) (word a.gid)
          (word (length a.gids)) (flat_map word a.gids);
    }
