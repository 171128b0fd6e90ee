-- A fault in an opaque_auth, a pair of versions or a status names what stands there.
use Rattle.std.proofs.Common.{◌≡◌, ℕ, zero, suc, ◌<◌, List, ◌∷◌, ◌++◌, length, Ok, Err, refl, sym, ap, ◌∙◌, arith, inl}
use Rattle.std.proofs.Common.{inr, ◌⊎◌}
use Rattle.rpc_message.specs.declared.fault.ReplyFault.{ReplyFault}
use Rattle.rpc_message.specs.declared.fault.ReplyFault.TheVariants as faults
use Rattle.rpc_message.specs.Message.{AuthView, StatusView, Success, ProgUnavail, ProgMismatch, ProcUnavail}
use Rattle.rpc_message.specs.Message.{GarbageArgs, SystemErr, WhyView, RpcMismatch, AuthError, Accepted}
use Rattle.xdr_units.specs.Numbers.{AreBytes, word, IsWord}
use Rattle.rpc_message.specs.Spelling.{status, why, IsStatus, IsWhy}
use Rattle.rpc_message.specs.Faults.{IsCutAuth, IsTooLong, IsPaddedWrong, HasNoResults}
use Rattle.rpc_message.specs.Private.Reading.{◌>>=◌, ended, word_at, opaque_at, auth_at, bounds_at, status_at, why_at}
use Rattle.rpc_message.proofs.StepLaws.{bind_err, ok_no_err, err_is}
use Rattle.rpc_message.proofs.FieldLaws.{word_takes, word_fails}
use Rattle.rpc_message.proofs.OpaqueFaults.{ended_fails, CutOr, CutOpaque, BadOpaque, opaque_fails}

cut_auth : (flavor : ℕ) (bytes rest : List ℕ) → IsWord flavor → bytes ≡ word flavor ++ rest → CutOpaque 400 rest
    → IsCutAuth bytes
cut_auth flavor bytes rest w e (inl h) =
    inr (inl (record { flavor = flavor; last = rest; fits = w; short = h; parts = e }))
cut_auth flavor bytes rest w e (inr (inl c)) =
    inr (inr (inl (record {
      flavor = flavor;
      count = c.count;
      body = c.body;
      fits = w;
      few = c.few;
      short = c.short;
      parts = e ∙ ap (λ (t : List ℕ). word flavor ++ t) c.parts;
    })))
cut_auth flavor bytes rest w e (inr (inr c)) =
    inr (inr (inr (record {
      a = record { flavor = flavor; body = c.body };
      zeros = c.zeros;
      fits = record { flavor = w; short = c.few };
      short = c.short;
      parts = e
          ∙ ap (λ (t : List ℕ). word flavor ++ t) c.parts;
    })))

bad_auth : (flavor : ℕ) (bytes rest : List ℕ) → IsWord flavor → bytes ≡ word flavor ++ rest → BadOpaque 400 rest
    → IsTooLong bytes ⊎ IsPaddedWrong bytes
bad_auth flavor bytes rest w e (inl c) =
    inl (record {
      flavor = flavor;
      count = c.count;
      rest = c.rest;
      fits = (w, c.fits);
      long = c.long;
      parts = e
          ∙ ap (λ (t : List ℕ). word flavor ++ t) c.parts;
    })
bad_auth flavor bytes rest w e (inr c) =
    inr (record {
      a = record { flavor = flavor; body = c.body };
      filling = c.filling;
      rest = c.rest;
      fits = record { flavor = w; short = c.few };
      size = c.size;
      wrong = c.wrong;
      parts = e
          ∙ ap (λ (t : List ℕ). word flavor ++ t) c.parts;
    })

abbrev pub AuthFails : ReplyFault → List ℕ → Type 0
AuthFails d bytes = CutOr d (IsCutAuth bytes) (IsTooLong bytes ⊎ IsPaddedWrong bytes)

pub auth_fails : (bytes : List ℕ) (d : ReplyFault) → AreBytes bytes → auth_at bytes ≡ Err d → AuthFails d bytes
unfolding auth_at
auth_fails bytes d fits e =
    elim (bind_err (word_at bytes) (λ flavor. opaque_at 400 flavor.1 >>= λ body. Ok
    (record { flavor = flavor.0; body = body.0 }, body.1)) d e) [
      | inl h ↦ let w = word_fails bytes d h in inl (w.1, inl w.0)
      | inr a ↦
          let t = word_takes bytes a.0 fits a.1 in
          elim (bind_err (opaque_at 400 a.0.1) (λ body. Ok (record { flavor = a.0.0; body = body.0 }, body.1)) d a.2) [
            | inl h ↦ elim (opaque_fails 400 a.0.1 d t.0.rest_fits h) [
              | inl c ↦ inl (c.0, cut_auth a.0.0 bytes a.0.1 t.1 t.0.parts c.1)
              | inr c ↦ inr (c.0, bad_auth a.0.0 bytes a.0.1 t.1 t.0.parts c.1)
            ]
            | inr b ↦ absurd (ok_no_err (record { flavor = a.0.0; body = b.0.0 }, b.0.1) d b.2)
          ]
    ]

pub record CutHigh (bytes : List ℕ) : Type 0 where
  pub low : ℕ
  pub last : List ℕ
  pub fits : IsWord low
  pub short : length last < 4
  pub parts : bytes ≡ word low ++ last

abbrev pub CutBounds : List ℕ → Type 0
CutBounds bytes = (length bytes < 4) ⊎ CutHigh bytes

record BoundsRest (bytes : List ℕ) : Type 0 where
  pub low : ℕ
  pub high : ℕ
  pub byte : ℕ
  pub more : List ℕ
  pub fits : IsWord low × IsWord high
  pub parts : bytes ≡ word low ++ word high ++ byte ∷ more

bounds_fails : (bytes : List ℕ) (d : ReplyFault) → AreBytes bytes → bounds_at bytes ≡ Err d
    → ((d ≡ faults.Truncated) × CutBounds bytes) ⊎ ((d ≡ faults.Rest) × BoundsRest bytes)
unfolding bounds_at
bounds_fails bytes d fits e =
    elim (bind_err (word_at bytes) (λ low. word_at low.1 >>= λ high. ended high.1 (low.0, high.0)) d e) [
      | inl h ↦ let w = word_fails bytes d h in inl (w.1, inl w.0)
      | inr a ↦
          let t0 = word_takes bytes a.0 fits a.1 in
          elim (bind_err (word_at a.0.1) (λ high. ended high.1 (a.0.0, high.0)) d a.2) [
            | inl h ↦ let w = word_fails a.0.1 d h in inl
                (w.1, inr (record { low = a.0.0; last = a.0.1; fits = t0.1; short = w.0; parts = t0.0.parts }))
            | inr b ↦
                let t1 = word_takes a.0.1 b.0 t0.0.rest_fits b.1 in
                let l = ended_fails b.0.1 (a.0.0, b.0.0) d b.2 in
                inr (
                  l.0,
                  record {
                    low = a.0.0;
                    high = b.0.0;
                    byte = l.1;
                    more = l.2;
                    fits = (t0.1, t1.1);
                    parts = t0.0.parts ∙ ap (λ (t : List ℕ). word a.0.0 ++ t)
                        (t1.0.parts ∙ ap (λ (t : List ℕ). word b.0.0 ++ t) l.3);
                  },
                )
          ]
    ]

pub record StatusRest (stat : ℕ) (bytes : List ℕ) : Type 0 where
  pub s : StatusView
  pub byte : ℕ
  pub more : List ℕ
  pub fits : IsStatus s
  pub plain : (xid : ℕ) (verf : AuthView) → HasNoResults (Accepted xid verf s)
  pub parts : word stat ++ bytes ≡ status s ++ byte ∷ more

abbrev StatusFails : ℕ → List ℕ → ReplyFault → Type 0
StatusFails stat bytes d = ((d ≡ faults.Truncated) × (stat ≡ 2) × CutBounds bytes)
    ⊎ (((d ≡ faults.Rest) × StatusRest stat bytes) ⊎ ((d ≡ faults.BadStatus) × (5 < stat)))

-- a status without more: its word ends the bytes, so what follows is too much
plain_fails : (s : StatusView) (stat : ℕ) (bytes : List ℕ) (d : ReplyFault) → IsStatus s
    → ((xid : ℕ) (verf : AuthView) → HasNoResults (Accepted xid verf s)) → status s ≡ word stat
    → ended bytes s ≡ Err d → StatusFails stat bytes d
plain_fails s stat bytes d fits plain same e = let l =
    ended_fails bytes s d e in inr
    (inl (
      l.0,
      record {
        s = s;
        byte = l.1;
        more = l.2;
        fits = fits;
        plain = plain;
        parts = ap (λ (t : List ℕ). word stat ++ t) l.3 ∙ ap (λ (t : List ℕ). t ++ l.1 ∷ l.2) (sym same);
      },
    ))

pub status_fails : (stat : ℕ) (bytes : List ℕ) (d : ReplyFault) → AreBytes bytes → status_at stat bytes ≡ Err d
    → StatusFails stat bytes d
unfolding status_at
status_fails zero bytes d fits e = absurd (ok_no_err (Success bytes) d e)
status_fails (suc zero) bytes d fits e = plain_fails ProgUnavail 1 bytes d tt (λ x v. tt) refl e
status_fails (suc (suc zero)) bytes d fits e =
    elim (bind_err (bounds_at bytes) (λ b. Ok (ProgMismatch b.0 b.1)) d e) [
      | inl h ↦ elim (bounds_fails bytes d fits h) [
        | inl f ↦ inl (f.0, refl, f.1)
        | inr r ↦ inr (inl (
          r.0,
          record {
            s = ProgMismatch r.1.low r.1.high;
            byte = r.1.byte;
            more = r.1.more;
            fits = r.1.fits;
            plain = λ x v. tt;
            parts = ap (λ (t : List ℕ). word 2 ++ t) r.1.parts;
          },
        ))
      ]
      | inr a ↦ absurd (ok_no_err (ProgMismatch a.0.0 a.0.1) d a.2)
    ]
status_fails (suc (suc (suc zero))) bytes d fits e = plain_fails ProcUnavail 3 bytes d tt (λ x v. tt) refl e
status_fails (suc (suc (suc (suc zero)))) bytes d fits e = plain_fails GarbageArgs 4 bytes d tt (λ x v. tt) refl e
status_fails (suc (suc (suc (suc (suc zero))))) bytes d fits e = plain_fails SystemErr 5 bytes d tt (λ x v. tt) refl e
status_fails (suc (suc (suc (suc (suc (suc n)))))) bytes d fits e =
    inr (inr (sym (err_is {A = StatusView} faults.BadStatus d e), omega arith))

pub record WhyRest (stat : ℕ) (bytes : List ℕ) : Type 0 where
  pub w : WhyView
  pub byte : ℕ
  pub more : List ℕ
  pub fits : IsWhy w
  pub parts : word stat ++ bytes ≡ why w ++ byte ∷ more

abbrev pub CutWhy : ℕ → List ℕ → Type 0
CutWhy stat bytes = ((stat ≡ 0) × CutBounds bytes) ⊎ ((stat ≡ 1) × (length bytes < 4))

abbrev WhyFails : ℕ → List ℕ → ReplyFault → Type 0
WhyFails stat bytes d = ((d ≡ faults.Truncated) × CutWhy stat bytes)
    ⊎ (((d ≡ faults.Rest) × WhyRest stat bytes) ⊎ ((d ≡ faults.BadStatus) × (1 < stat)))

pub why_fails : (stat : ℕ) (bytes : List ℕ) (d : ReplyFault) → AreBytes bytes → why_at stat bytes ≡ Err d
    → WhyFails stat bytes d
unfolding why_at
why_fails zero bytes d fits e =
    elim (bind_err (bounds_at bytes) (λ b. Ok (RpcMismatch b.0 b.1)) d e) [
      | inl h ↦ elim (bounds_fails bytes d fits h) [
        | inl f ↦ inl (f.0, inl (refl, f.1))
        | inr r ↦ inr (inl (
          r.0,
          record {
            w = RpcMismatch r.1.low r.1.high;
            byte = r.1.byte;
            more = r.1.more;
            fits = r.1.fits;
            parts = ap (λ (t : List ℕ). word 0 ++ t) r.1.parts;
          },
        ))
      ]
      | inr a ↦ absurd (ok_no_err (RpcMismatch a.0.0 a.0.1) d a.2)
    ]
why_fails (suc zero) bytes d fits e =
    elim (bind_err (word_at bytes) (λ stat. ended stat.1 (AuthError stat.0)) d e) [
      | inl h ↦ let w = word_fails bytes d h in inl (w.1, inr (refl, w.0))
      | inr a ↦
          let t = word_takes bytes a.0 fits a.1 in
          let l = ended_fails a.0.1 (AuthError a.0.0) d a.2 in
          inr (inl (
            l.0,
            record {
              w = AuthError a.0.0;
              byte = l.1;
              more = l.2;
              fits = t.1;
              parts = ap (λ (t : List ℕ). word 1 ++ t) (t.0.parts ∙ ap (λ (t : List ℕ). word a.0.0 ++ t) l.3);
            },
          ))
    ]
why_fails (suc (suc n)) bytes d fits e = inr (inr (sym (err_is {A = WhyView} faults.BadStatus d e), omega arith))
