-- Calls: the five cases, and what a call's bytes are.
use Rattle.std.proofs.Common.{◌≡◌, ℕ, ◌+◌, eqb, List, ◌++◌, length, Ok, Err, refl, sym, ap, subst, ◌∙◌, arith, inl, inr}
use Rattle.std.proofs.lemmas.Bool.{eqb-true, eqb-false, ne_eqb, cond_both}
use Rattle.std.proofs.lemmas.List.{length-append}
use Rattle.rpc_message.specs.declared.fault.ReplyFault.{ReplyFault}
use Rattle.xdr_units.proofs.Bytes.{AreBytes-after}
use Rattle.rpc_message.specs.Message.{AuthView, CallView, CaseView, Whole, OtherVersion, BadCred, BadVerf, NotACall}
use Rattle.xdr_units.specs.Numbers.{AreBytes, word}
use Rattle.rpc_message.specs.Spelling.{auth, CallBytes}
use Rattle.rpc_message.specs.Cases.{NoAuth, IsOtherVersion, IsBadCred, IsBadVerf, IsNoCall, IsCase}
use Rattle.rpc_message.specs.Private.Reading.{read_or, Head, Target, whole_case, verf_case, cred_case, version_case}
use Rattle.rpc_message.specs.Private.Reading.{auth_at, call_head_at, target_at, case_of}
use Rattle.rpc_message.proofs.StepLaws.{ok_no_err}
use Rattle.rpc_message.proofs.FieldLaws.{auth_takes, auth_again}
use Rattle.rpc_message.proofs.HeadLaws.{read_or_cases, second_is, HasHead, head_takes, head_again, head_fails}
use Rattle.rpc_message.proofs.HeadLaws.{HasTarget, target_takes, target_again, target_fails}

no_auth : (bytes : List ℕ) (d : ReplyFault) → auth_at bytes ≡ Err d → NoAuth bytes
no_auth bytes d e = λ a rest fits parts. ok_no_err (a, rest) d (sym (ap auth_at parts ∙ auth_again a rest fits) ∙ e)

front_is : (bytes : List ℕ) (h : Head) (t : Target) → h.1 ≡ 2 → HasHead bytes h → HasTarget h.2 t
    → bytes ≡ word h.0 ++ word 0 ++ word 2 ++ word t.0 ++ word t.1 ++ word t.2 ++ t.3
front_is bytes h t two head target = head.parts ∙ ap (λ (v : ℕ). word h.0 ++ (word 0 ++ (word v ++ h.2))) two
    ∙ ap (λ (x : List ℕ). word h.0 ++ (word 0 ++ (word 2 ++ x))) target.parts

verf_found : (bytes : List ℕ) (h : Head) (t : Target) (cred : AuthView × List ℕ) → h.1 ≡ 2 → HasHead bytes h
    → HasTarget h.2 t → auth_at t.3 ≡ Ok cred → IsCase bytes (verf_case h t cred)
verf_found bytes h t cred two head target e =
    let front = front_is bytes h t two head target in
    let a = auth_takes t.3 cred target.rest_fits e in
    let parts = front ∙ ap (λ (x : List ℕ). word h.0
    ++ (word 0 ++ (word 2 ++ (word t.0 ++ (word t.1 ++ (word t.2 ++ x)))))) a.0.parts in
    read_or_cases (auth_at cred.1) (BadVerf h.0) (whole_case h t cred) (IsCase bytes)
    (λ d bad. record {
      prog = t.0;
      vers = t.1;
      proc = t.2;
      cred = cred.0;
      rest = cred.1;
      fits = (head.xid, target.fits.0, target.fits.1, target.fits.2);
      cred_fits = a.1;
      parts = parts;
      bad =
          no_auth cred.1 d bad;
    })
    (λ verf good.
    let v = auth_takes cred.1 verf a.0.rest_fits good in
    record {
      fits = record {
        xid = head.xid;
        prog = target.fits.0;
        vers = target.fits.1;
        proc = target.fits.2;
        cred = a.1;
        verf = v.1;
      };
      parts = parts ∙ ap (λ (x : List ℕ). word h.0
          ++ (word 0 ++ (word 2 ++ (word t.0 ++ (word t.1 ++ (word t.2 ++ (auth cred.0 ++ x))))))) v.0.parts;
    })

version_found : (bytes : List ℕ) (h : Head) → HasHead bytes h → IsCase bytes (version_case h)
version_found bytes h head =
    cond_both (eqb h.1 2) (read_or (target_at h.2) NotACall (cred_case h)) (OtherVersion h.0 h.1) (IsCase bytes)
    (λ yes.
    let two = eqb-true _ _ yes in
    read_or_cases (target_at h.2) NotACall (cred_case h) (IsCase bytes)
    (λ d bad.
    let parts : bytes ≡ word h.0 ++ (word 0 ++ (word 2 ++ h.2)) = head.parts
    ∙ ap (λ (v : ℕ). word h.0 ++ (word 0 ++ (word v ++ h.2))) two in
    let len : length bytes ≡ 12 + length h.2 = ap length parts ∙ length-append (word h.0 ++ (word 0 ++ word 2)) h.2 in
    inr (inr (record {
      xid = h.0;
      rest = h.2;
      fits = head.xid;
      parts = parts;
      short = omega (arith, len, target_fails h.2 d head.rest_fits bad);
    })))
    (λ t good.
    let target = target_takes h.2 t head.rest_fits good in
    read_or_cases (auth_at t.3) (BadCred h.0) (verf_case h t) (IsCase bytes)
    (λ d bad. record {
      prog = t.0;
      vers = t.1;
      proc = t.2;
      rest = t.3;
      fits = (head.xid, target.fits.0, target.fits.1, target.fits.2);
      parts = front_is bytes h t two head target;
      bad = no_auth t.3 d bad;
    })
    (λ cred e. verf_found bytes h t cred two head target e)))
    (λ no. record {
      xid_fits = head.xid;
      version_fits = head.version;
      other = eqb-false _ _ no;
      rest = h.2;
      parts = head.parts;
    })

pub case_found : (bytes : List ℕ) → AreBytes bytes → IsCase bytes (case_of bytes)
unfolding case_of
case_found bytes fits =
    read_or_cases (call_head_at bytes) NotACall version_case (IsCase bytes)
    (λ d bad. head_fails bytes d fits bad)
    (λ h good. version_found bytes h (head_takes bytes h fits good))

pub whole_again : (c : CallView) (bytes : List ℕ) → CallBytes c bytes → case_of bytes ≡ Whole c
unfolding case_of
whole_again c bytes e =
    let f = e.fits in
    let after_cred = auth c.verf ++ c.args in
    let after_target = auth c.cred ++ after_cred in
    let after_head = word c.prog ++ (word c.vers ++ (word c.proc ++ after_target)) in
    ap case_of e.parts ∙ rw (
      head_again c.xid 2 after_head f.xid
          (omega arith),
      target_again c.prog c.vers c.proc after_target f.prog f.vers f.proc,
      auth_again c.cred after_cred
          f.cred,
      auth_again c.verf c.args f.verf,
    ) refl

other_again : (xid version : ℕ) (bytes : List ℕ) → IsOtherVersion xid version bytes
    → case_of bytes ≡ OtherVersion xid version
unfolding case_of
other_again xid version bytes e =
    ap case_of e.parts ∙ rw (head_again xid version e.rest e.xid_fits e.version_fits, ne_eqb version 2 e.other) refl

-- where no opaque_auth stands, none is read
none_read : {B : Type 0} (bytes : List ℕ) (other : B) (next : AuthView × List ℕ → B) → AreBytes bytes → NoAuth bytes
    → read_or (auth_at bytes) other next ≡ other
none_read bytes other next fits none =
    read_or_cases (auth_at bytes) other next (λ k. k ≡ other) (λ d bad. refl)
    (λ x good. let t = auth_takes bytes x fits good in absurd (none x.0 x.1 t.1 t.0.parts))

cred_again : (xid : ℕ) (bytes : List ℕ) → AreBytes bytes → IsBadCred xid bytes → case_of bytes ≡ BadCred xid
unfolding case_of
cred_again xid bytes fits e =
    let front = word xid ++ (word 0 ++ (word 2 ++ (word e.prog ++ (word e.vers ++ word e.proc)))) in
    let after_head = word e.prog ++ (word e.vers ++ (word e.proc ++ e.rest)) in
    let rest_fits = AreBytes-after front e.rest (subst AreBytes e.parts fits) in
    let h : Head = (xid, 2, after_head) in
    let t : Target = (e.prog, e.vers, e.proc, e.rest) in
    ap case_of e.parts ∙ rw (
      head_again xid 2 after_head e.fits.0
          (omega arith),
      target_again e.prog e.vers e.proc e.rest e.fits.1 e.fits.2 e.fits.3,
    )
    (none_read e.rest (BadCred xid) (verf_case h t) rest_fits e.bad)

verf_again : (xid : ℕ) (bytes : List ℕ) → AreBytes bytes → IsBadVerf xid bytes → case_of bytes ≡ BadVerf xid
unfolding case_of
verf_again xid bytes fits e =
    let front = word xid ++ (word 0 ++ (word 2 ++ (word e.prog ++ (word e.vers ++ word e.proc)))) in
    let after_target = auth e.cred ++ e.rest in
    let after_head = word e.prog ++ (word e.vers ++ (word e.proc ++ after_target)) in
    let rest_fits = AreBytes-after (auth e.cred) e.rest
    (AreBytes-after front after_target (subst AreBytes e.parts fits)) in
    let h : Head = (xid, 2, after_head) in
    let t : Target = (e.prog, e.vers, e.proc, after_target) in
    ap case_of e.parts ∙ rw (
      head_again xid 2 after_head e.fits.0
          (omega arith),
      target_again e.prog e.vers e.proc after_target e.fits.1 e.fits.2 e.fits.3,
      auth_again e.cred
          e.rest e.cred_fits,
    ) (none_read e.rest (BadVerf xid) (whole_case h t (e.cred, e.rest)) rest_fits e.bad)

none_again : (bytes : List ℕ) → AreBytes bytes → IsNoCall bytes → case_of bytes ≡ NotACall
unfolding case_of
none_again bytes fits (inl short) =
    read_or_cases (call_head_at bytes) NotACall version_case (λ k. k ≡ NotACall) (λ d bad. refl)
    (λ h good.
    let head = head_takes bytes h fits good in
    let len : length bytes ≡ 12 + length h.2 = ap length head.parts
    ∙ length-append (word h.0 ++ (word 0 ++ word h.1)) h.2 in
    absurd (omega (arith, short, len)))
none_again bytes fits (inr (inl e)) =
    read_or_cases (call_head_at bytes) NotACall version_case (λ k. k ≡ NotACall) (λ d bad. refl)
    (λ h good.
    let head = head_takes bytes h fits good in
    absurd (e.other (second_is e.xid h.0 e.kind 0 e.rest (word h.1 ++ h.2) e.fits.0 head.xid e.fits.1 (omega arith)
    (sym e.parts ∙ head.parts))))
none_again bytes fits (inr (inr e)) =
    ap case_of e.parts ∙ rw (head_again e.xid 2 e.rest e.fits (omega arith))
    (read_or_cases (target_at e.rest) NotACall (cred_case (e.xid, 2, e.rest)) (λ k. k ≡ NotACall) (λ d bad. refl)
    (λ t good.
    let len : length bytes ≡ 12 + length e.rest = ap length e.parts
    ∙ length-append (word e.xid ++ (word 0 ++ word 2)) e.rest in
    let rest_fits = AreBytes-after (word e.xid ++ (word 0 ++ word 2)) e.rest (subst AreBytes e.parts fits) in
    let target = target_takes e.rest t rest_fits good in
    let len2 : length e.rest ≡ 12 + length t.3 = ap length target.parts
    ∙ length-append (word t.0 ++ (word t.1 ++ word t.2)) t.3 in
    absurd (omega (arith, len, len2, e.short))))

pub case_again : (bytes : List ℕ) (k : CaseView) → AreBytes bytes → IsCase bytes k → case_of bytes ≡ k
case_again bytes (Whole c) fits e = whole_again c bytes e
case_again bytes (OtherVersion xid version) fits e = other_again xid version bytes e
case_again bytes (BadCred xid) fits e = cred_again xid bytes fits e
case_again bytes (BadVerf xid) fits e = verf_again xid bytes fits e
case_again bytes NotACall fits e = none_again bytes fits e

same_whole : (c d : CallView) → Whole c ≡ Whole d → c ≡ d
same_whole c d e = cc

pub one_call : (c d : CallView) (bytes : List ℕ) → CallBytes c bytes → CallBytes d bytes → c ≡ d
one_call c d bytes p q = same_whole c d (sym (whole_again c bytes p) ∙ whole_again d bytes q)
