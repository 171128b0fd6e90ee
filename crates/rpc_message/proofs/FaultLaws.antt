-- A fault of a reply names what stands in the bytes.
use Rattle.std.proofs.Common.{◌≡◌, ℕ, zero, suc, ◌<◌, eqb, List, ◌∷◌, ◌++◌, length, Result, Ok, Err, refl, sym, ap}
use Rattle.std.proofs.Common.{subst, ◌∙◌, append_assoc, arith, inl, inr}
use Rattle.std.specs.Prelude.{IfErr}
use Rattle.std.proofs.lemmas.Bool.{eqb-true, eqb-false}
use Rattle.rpc_message.specs.declared.fault.ReplyFault.{ReplyFault}
use Rattle.rpc_message.specs.declared.fault.ReplyFault.TheVariants as faults
use Rattle.rpc_message.specs.declared.message.Reply.{Reply}
use Rattle.rpc_message.specs.Message.{AuthView, ReplyView, Accepted, Denied}
use Rattle.xdr_units.specs.Numbers.{AreBytes, word, IsWord}
use Rattle.rpc_message.specs.Spelling.{auth, status, IsAuth}
use Rattle.rpc_message.specs.View.{reply_view}
use Rattle.rpc_message.specs.Faults.{Place, Xid, MessageType, ReplyStat, AcceptStat, AcceptLow, AcceptHigh, RejectStat}
use Rattle.rpc_message.specs.Faults.{RejectLow, RejectHigh, AuthStat, before, IsPlace, EndsInNumber, StandsIn}
use Rattle.rpc_message.specs.Private.Reading.{◌>>=◌, ReadsOrNoMemory, word_at, auth_at, status_at, why_at}
use Rattle.rpc_message.specs.Private.Reading.{accepted_at, denied_at, reply_stat_at, reply_at}
use Rattle.rpc_message.proofs.StepLaws.{bind_err, ok_no_err, err_is, failed}
use Rattle.rpc_message.proofs.FieldLaws.{word_takes, word_fails, auth_takes}
use Rattle.rpc_message.proofs.ReplyLaws.{after_kind}
use Rattle.rpc_message.proofs.OpaqueFaults.{cond_either}
use Rattle.rpc_message.proofs.PartFaults.{AuthFails, auth_fails, CutBounds, status_fails, CutWhy, why_fails}

abbrev front : ℕ → ℕ → List ℕ → List ℕ
front xid stat bytes = word xid ++ (word 1 ++ (word stat ++ bytes))

-- the fault d is this one
named : (f d : ReplyFault) (bytes : List ℕ) → d ≡ f → StandsIn f bytes → StandsIn d bytes
named f d bytes e h = subst (λ (g : ReplyFault). StandsIn g bytes) (sym e) h

cut_number : (place : Place) (last bytes : List ℕ) (d : ReplyFault) → IsPlace place
    → (length last < 4) × (d ≡ faults.Truncated) → bytes ≡ before place ++ last → StandsIn d bytes
cut_number place last bytes d fits w e =
    named faults.Truncated d bytes w.1 (inl
    (record { place = place; last = last; fits = fits; short = w.0; parts = e }))

in_verifier : (xid : ℕ) (bytes : List ℕ) (d : ReplyFault) → IsWord xid → AuthFails d bytes
    → StandsIn d (front xid 0 bytes)
in_verifier xid bytes d x (inl c) = named faults.Truncated d (front xid 0 bytes) c.0
    (inr (record { xid = xid; rest = bytes; fits = x; parts = refl; cut = c.1 }))
in_verifier xid bytes d x (inr c) = named faults.BadAuth d (front xid 0 bytes) c.0
    (record { xid = xid; rest = bytes; fits = x; parts = refl; bad = c.1 })

accept_bounds : (xid : ℕ) (verf : AuthView) (rest : List ℕ) → IsWord xid → IsAuth verf → CutBounds rest
    → EndsInNumber (front xid 0 (auth verf ++ (word 2 ++ rest)))
accept_bounds xid verf rest x v (inl h) =
    record {
      place = AcceptLow xid verf;
      last = rest;
      fits = (x, v);
      short = h;
      parts = ap (front xid 0) (sym (append_assoc (auth verf) (word 2) rest));
    }
accept_bounds xid verf rest x v (inr h) = record {
  place = AcceptHigh xid verf h.low;
  last = h.last;
  fits = (x, v, h.fits);
  short = h.short;
  parts = ap (λ (t : List ℕ). front xid 0 (auth verf ++ (word 2 ++ t))) h.parts
      ∙ ap (front xid 0) (sym (append_assoc (auth verf) (word 2) (word h.low ++ h.last))
      ∙ sym (append_assoc (auth verf ++ word 2) (word h.low) h.last));
}

accepted_fails : (xid : ℕ) (bytes : List ℕ) (d : ReplyFault) → IsWord xid → AreBytes bytes
    → accepted_at xid bytes ≡ Err d → StandsIn d (front xid 0 bytes)
unfolding accepted_at
accepted_fails xid bytes d x fits e =
    elim (bind_err (auth_at bytes) (λ verf. word_at verf.1 >>= λ stat. status_at stat.0 stat.1 >>= λ s. Ok
    (Accepted xid verf.0 s)) d e) [
      | inl h ↦ in_verifier xid bytes d x (auth_fails bytes d fits h)
      | inr a ↦
          let t0 = auth_takes bytes a.0 fits a.1 in
          elim (bind_err (word_at a.0.1) (λ stat. status_at stat.0 stat.1 >>= λ s. Ok (Accepted xid a.0.0 s)) d a.2) [
            | inl h ↦ cut_number (AcceptStat xid a.0.0) a.0.1 (front xid 0 bytes) d (x, t0.1) (word_fails a.0.1 d h)
                (ap (front xid 0) t0.0.parts)
            | inr b ↦
                let t1 = word_takes a.0.1 b.0 t0.0.rest_fits b.1 in
                let parts : front xid 0 bytes ≡ front xid 0 (auth a.0.0 ++ (word b.0.0 ++ b.0.1)) =
                ap (front xid 0) (t0.0.parts ∙ ap (λ (t : List ℕ). auth a.0.0 ++ t) t1.0.parts) in
                elim (bind_err (status_at b.0.0 b.0.1) (λ s. Ok (Accepted xid a.0.0 s)) d b.2) [
                  | inr s ↦ absurd (ok_no_err (Accepted xid a.0.0 s.0) d s.2)
                  | inl h ↦ elim (status_fails b.0.0 b.0.1 d t1.0.rest_fits h) [
                    | inl f ↦ named faults.Truncated d (front xid 0 bytes) f.0
                        (inl (subst EndsInNumber
                        (sym (parts ∙ ap (λ (k : ℕ). front xid 0 (auth a.0.0 ++ (word k ++ b.0.1))) f.1))
                        (accept_bounds xid a.0.0 b.0.1 x t0.1 f.2)))
                    | inr (inl r) ↦ named faults.Rest d (front xid 0 bytes) r.0 (record {
                      r = Accepted xid a.0.0 r.1.s;
                      byte = r.1.byte;
                      rest = r.1.more;
                      fits = (x, t0.1, r.1.fits);
                      ended = r.1.plain xid a.0.0;
                      parts = parts ∙ ap (λ (t : List ℕ). front xid 0 (auth a.0.0 ++ t)) r.1.parts
                          ∙ ap (front xid 0) (sym (append_assoc (auth a.0.0) (status r.1.s) (r.1.byte ∷ r.1.more)));
                    })
                    | inr (inr r) ↦ named faults.BadStatus d (front xid 0 bytes) r.0
                        (record {
                          place = AcceptStat xid a.0.0;
                          stat = b.0.0;
                          rest = b.0.1;
                          fits = ((x, t0.1), t1.1);
                          none = r.1;
                          parts = parts;
                        })
                  ]
                ]
          ]
    ]

-- what ends too soon after the number that says why a call was denied
deny_cut : (xid stat : ℕ) (rest : List ℕ) → IsWord xid → CutWhy stat rest
    → EndsInNumber (front xid 1 (word stat ++ rest))
deny_cut xid stat rest x (inl (e, inl h)) =
    record {
      place = RejectLow xid;
      last = rest;
      fits = x;
      short = h;
      parts = ap (λ (k : ℕ). front xid 1 (word k ++ rest)) e;
    }
deny_cut xid stat rest x (inl (e, inr h)) =
    record {
      place = RejectHigh xid h.low;
      last = h.last;
      fits = (x, h.fits);
      short = h.short;
      parts = ap (λ (k : ℕ). front xid 1 (word k ++ rest)) e ∙ ap (λ (t : List ℕ). front xid 1 (word 0 ++ t)) h.parts;
    }
deny_cut xid stat rest x (inr (e, h)) = record {
  place = AuthStat xid;
  last = rest;
  fits = x;
  short = h;
  parts = ap (λ (k : ℕ). front xid 1 (word k ++ rest)) e;
}

denied_fails : (xid : ℕ) (bytes : List ℕ) (d : ReplyFault) → IsWord xid → AreBytes bytes → denied_at xid bytes ≡ Err d
    → StandsIn d (front xid 1 bytes)
unfolding denied_at
denied_fails xid bytes d x fits e =
    elim (bind_err (word_at bytes) (λ stat. why_at stat.0 stat.1 >>= λ w. Ok (Denied xid w)) d e) [
      | inl h ↦ cut_number (RejectStat xid) bytes (front xid 1 bytes) d x (word_fails bytes d h) refl
      | inr b ↦
          let t1 = word_takes bytes b.0 fits b.1 in
          let parts : front xid 1 bytes ≡ front xid 1 (word b.0.0 ++ b.0.1) = ap (front xid 1) t1.0.parts in
          elim (bind_err (why_at b.0.0 b.0.1) (λ w. Ok (Denied xid w)) d b.2) [
            | inr w ↦ absurd (ok_no_err (Denied xid w.0) d w.2)
            | inl h ↦ elim (why_fails b.0.0 b.0.1 d t1.0.rest_fits h) [
              | inl f ↦ named faults.Truncated d (front xid 1 bytes) f.0
                  (inl (subst EndsInNumber (sym parts) (deny_cut xid b.0.0 b.0.1 x f.1)))
              | inr (inl r) ↦ named faults.Rest d (front xid 1 bytes) r.0
                  (record {
                    r = Denied xid r.1.w;
                    byte = r.1.byte;
                    rest = r.1.more;
                    fits = (x, r.1.fits);
                    ended = tt;
                    parts = parts ∙ ap (front xid 1) r.1.parts;
                  })
              | inr (inr r) ↦ named faults.BadStatus d (front xid 1 bytes) r.0
                  (record {
                    place = RejectStat xid;
                    stat = b.0.0;
                    rest = b.0.1;
                    fits = (x, t1.1);
                    none = r.1;
                    parts = parts;
                  })
            ]
          ]
    ]

stat_fails : (xid stat : ℕ) (bytes : List ℕ) (d : ReplyFault) → IsWord xid → IsWord stat → AreBytes bytes
    → reply_stat_at xid stat bytes ≡ Err d → StandsIn d (front xid stat bytes)
unfolding reply_stat_at
stat_fails xid zero bytes d x s fits e = accepted_fails xid bytes d x fits e
stat_fails xid (suc zero) bytes d x s fits e = denied_fails xid bytes d x fits e
stat_fails xid (suc (suc n)) bytes d x s fits e =
    named faults.BadStatus d (front xid (suc (suc n)) bytes) (sym (err_is {A = ReplyView} faults.BadStatus d e))
    (record {
      place = ReplyStat xid;
      stat = suc (suc n);
      rest = bytes;
      fits = (x, s);
      none = omega arith;
      parts = refl;
    })

pub reply_fails : (bytes : List ℕ) (d : ReplyFault) → AreBytes bytes → reply_at bytes ≡ Err d → StandsIn d bytes
unfolding reply_at
reply_fails bytes d fits e =
    elim (bind_err (word_at bytes) (λ xid. word_at xid.1 >>= λ kind. after_kind xid kind) d e) [
      | inl h ↦ cut_number Xid bytes bytes d tt (word_fails bytes d h) refl
      | inr a ↦
          let t0 = word_takes bytes a.0 fits a.1 in
          elim (bind_err (word_at a.0.1) (λ kind. after_kind a.0 kind) d a.2) [
            | inl h ↦ cut_number (MessageType a.0.0) a.0.1 bytes d t0.1 (word_fails a.0.1 d h) t0.0.parts
            | inr b ↦
                let t1 = word_takes a.0.1 b.0 t0.0.rest_fits b.1 in
                let two : bytes ≡ word a.0.0 ++ (word b.0.0 ++ b.0.1) = t0.0.parts
                ∙ ap (λ (t : List ℕ). word a.0.0 ++ t) t1.0.parts in
                elim (cond_either (eqb b.0.0 1) (word_at b.0.1 >>= (λ stat. reply_stat_at a.0.0 stat.0 stat.1))
                (failed faults.NotAReply) d b.2) [
                  | inr n ↦ named faults.NotAReply d bytes (sym (err_is {A = ReplyView} faults.NotAReply d n.1))
                      (record {
                        xid = a.0.0;
                        kind = b.0.0;
                        rest = b.0.1;
                        fits = (t0.1, t1.1);
                        other = eqb-false _ _ n.0;
                        parts = two;
                      })
                  | inl y ↦
                      let three : bytes ≡ word a.0.0 ++ (word 1 ++ b.0.1) = two
                      ∙ ap (λ (k : ℕ). word a.0.0 ++ (word k ++ b.0.1)) (eqb-true _ _ y.0) in
                      elim (bind_err (word_at b.0.1) (λ stat. reply_stat_at a.0.0 stat.0 stat.1) d y.1) [
                        | inl h ↦ cut_number (ReplyStat a.0.0) b.0.1 bytes d t0.1 (word_fails b.0.1 d h) three
                        | inr c ↦
                            let t2 = word_takes b.0.1 c.0 t1.0.rest_fits c.1 in
                            let parts : bytes ≡ front a.0.0 c.0.0 c.0.1 = three
                            ∙ ap (λ (t : List ℕ). word a.0.0 ++ (word 1 ++ t)) t2.0.parts in
                            subst (StandsIn d) (sym parts) (stat_fails a.0.0 c.0.0 c.0.1 d t0.1 t2.1 t2.0.rest_fits c.2)
                      ]
                ]
          ]
    ]

pub is_fault : (bytes : List ℕ) (r : Result Reply ReplyFault) → AreBytes bytes
    → ReadsOrNoMemory reply_view r (reply_at bytes)
    → IfErr r (λ f. StandsIn f bytes)
is_fault bytes (Ok x) fits e = tt
is_fault bytes (Err faults.Truncated) fits e = reply_fails bytes faults.Truncated fits e
is_fault bytes (Err faults.NotAReply) fits e = reply_fails bytes faults.NotAReply fits e
is_fault bytes (Err faults.BadStatus) fits e = reply_fails bytes faults.BadStatus fits e
is_fault bytes (Err faults.BadAuth) fits e = reply_fails bytes faults.BadAuth fits e
is_fault bytes (Err faults.Rest) fits e = reply_fails bytes faults.Rest fits e
is_fault bytes (Err faults.NoMemory) fits e = tt
