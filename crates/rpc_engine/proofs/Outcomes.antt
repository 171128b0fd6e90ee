-- The five cases of an exchange exclude one another, and no input has none of them.
use Rattle.std.proofs.Common.{◌≡◌, ℕ, zero, suc, ◌<◌, ◌≤◌, ◌⊎◌, inl, inr, List, [], ◌∷◌, ◌++◌, length, take, drop}
use Rattle.std.proofs.Common.{Option, Some, None, Result, Ok, Err, refl, sym, ap, ◌∙◌, subst, append_assoc, arith}
use Rattle.std.proofs.lemmas.Bool.{cases_eq, cases_lt}
use Rattle.std.proofs.lemmas.List.{append-nil, take-append-drop, take-append-le, take_at}
use Rattle.rpc_record.specs.Marked.{header, Longest, Marked, Stream, Within, NoneBeginsAnother}
use Rattle.rpc_record.specs.Reading.{TooLongAt, HasNoLong, TooLongEnds, OneTooLong, capped}
use Rattle.rpc_message.specs.Message.{ReplyView}
use Rattle.rpc_message.specs.Spelling.{ReplyBytes}
use Rattle.rpc_message.specs.declared.message.Reply.{Reply}
use Rattle.rpc_message.specs.View.{reply_view}
use Rattle.rpc_record.specs.declared.fault.RecordFault.TheVariants as flaw
use Rattle.rpc_engine.specs.declared.fault.ClientFault.{ClientFault}
use Rattle.rpc_engine.specs.declared.fault.ClientFault.TheVariants as fault
use Rattle.rpc_engine.specs.Exchanged.{most_reply, xid_of, IsNoReply, IsFirst, IsOutcome, IsAnswer, IsExact, Exchanged}
use Rattle.rpc_engine.specs.Exchanged.{Outcome, Replied, OtherXid, NoReply, TooLong, Truncated}
use Rattle.rpc_engine.specs.Laws.{OneOutcome, SomeOutcome, OutcomesStay, HasEnded}
use Rattle.rpc_engine.proofs.Cases.{ReplyLaw}
use Rattle.rpc_engine.proofs.First.{begins_more}

-- of two fronts the longer one begins with the shorter
front : (a b x y : List ℕ) → length a ≤ length b → a ++ x ≡ b ++ y → b ≡ a ++ drop (length a) b
front a b x y h e =
    sym (take-append-drop (length a) b)
    ∙ ap (λ k. k ++ drop (length a) b) (sym (take-append-le (length a) b y h) ∙ ap (λ k. take (length a) k) (sym e)
    ∙ take_at a x (length a) refl)

-- a record that begins, as it is marked
marked : (r input : List ℕ) (h : IsFirst r input) → Marked r h.stream.0
marked r input h = h.stream.1.1.0

marked_front : (r input : List ℕ) (h : IsFirst r input) → input ≡ h.stream.0 ++ h.more
marked_front r input h = h.spelled ∙ ap (λ k. k ++ h.more)
    (h.stream.1.1.2 ∙ ap (λ k. h.stream.0 ++ k) h.stream.1.1.1 ∙ append-nil h.stream.0)

-- the first record is one
one_first : NoneBeginsAnother → (r s input : List ℕ) → IsFirst r input → IsFirst s input → r ≡ s
one_first none r s input h k = by (cases_lt (length h.stream.0) (length k.stream.0))
  where
    a : List ℕ
    a = h.stream.0

    b : List ℕ
    b = k.stream.0

    e : a ++ h.more ≡ b ++ k.more
    e = sym (marked_front r input h) ∙ marked_front s input k

    by : (length a < length b) ⊎ (length b ≤ length a) → r ≡ s
    by (inl lt) = sym (none r s a (drop (length a) b) (marked r input h)
        (subst (λ x. Marked s x) (front a b h.more k.more (omega arith) e) (marked s input k))).0
    by (inr le) = (none s r b (drop (length b) a) (marked s input k)
        (subst (λ x. Marked r x) (front b a k.more h.more le (sym e)) (marked r input h))).0

-- where no record begins, none does
none_first : (r input : List ℕ) → Longest most_reply [] input → IsFirst r input → ⊥
none_first r input longest h =
    let more = longest.only (r ∷ []) h.whole h.more h.within h.stream h.spelled in
    absurd (omega (arith, ap length more.1))

long_first : TooLongEnds → (r : List ℕ) (at : ℕ) (input : List ℕ) → TooLongAt most_reply [] at input
    → IsFirst r input → ⊥
long_first ends r at input long h =
    none_first r input
    (subst (λ b. Longest most_reply [] b) (append-nil input) (ends most_reply at [] input [] long).1) h

module _ (exact : ReplyLaw) (none : NoneBeginsAnother) (ends : TooLongEnds) (one : OneTooLong) where
  same_reply : (v w : ReplyView) (r s input : List ℕ) → IsFirst r input → IsFirst s input → ReplyBytes v r
      → ReplyBytes w s → v ≡ w
  same_reply v w r s input h k p q = (exact v w r s p q).1 (one_first none r s input h k)

  no_reply : (v : ReplyView) (r s input : List ℕ) → IsFirst r input → IsFirst s input → ReplyBytes v r → IsNoReply s → ⊥
  no_reply v r s input h k p q = q v (subst (λ x. ReplyBytes v x) (one_first none r s input h k) p)

  pub one_outcome : OneOutcome
  one_outcome xid input (Replied v) (Replied w) (r, (h, p, e)) (s, (k, q, f)) =
      ap (λ x. Replied x) (same_reply v w r s input h k p q)
  one_outcome xid input (Replied v) (OtherXid got) (r, (h, p, e)) (s, (k, (w, (q, f)), ne)) =
      absurd (ne (sym f ∙ ap xid_of (sym (same_reply v w r s input h k p q)) ∙ e))
  one_outcome xid input (OtherXid got) (Replied v) (s, (k, (w, (q, f)), ne)) (r, (h, p, e)) =
      absurd (ne (sym f ∙ ap xid_of (sym (same_reply v w r s input h k p q)) ∙ e))
  one_outcome xid input (OtherXid got) (OtherXid other) (r, (h, (v, (p, e)), ne)) (s, (k, (w, (q, f)), ne')) =
      ap (λ x. OtherXid x) (sym e ∙ ap xid_of (same_reply v w r s input h k p q) ∙ f)
  one_outcome xid input NoReply NoReply a b = refl
  one_outcome xid input NoReply (Replied v) (s, (k, q)) (r, (h, p, e)) = absurd (no_reply v r s input h k p q)
  one_outcome xid input (Replied v) NoReply (r, (h, p, e)) (s, (k, q)) = absurd (no_reply v r s input h k p q)
  one_outcome xid input NoReply (OtherXid got) (s, (k, q)) (r, (h, (v, (p, e)), ne)) =
      absurd (no_reply v r s input h k p q)
  one_outcome xid input (OtherXid got) NoReply (r, (h, (v, (p, e)), ne)) (s, (k, q)) =
      absurd (no_reply v r s input h k p q)
  one_outcome xid input (TooLong at) (TooLong other) a b = ap (λ x. TooLong x) (one most_reply at other [] input a b)
  one_outcome xid input (Truncated at) (Truncated other) a b = ap (λ x. Truncated x) (a.0 ∙ sym b.0)
  one_outcome xid input (TooLong at) (Truncated other) a b = absurd (b.2 [] at a)
  one_outcome xid input (Truncated at) (TooLong other) a b = absurd (a.2 [] other b)
  one_outcome xid input (TooLong at) (Replied v) a k = absurd (long_first ends k.0 at input a k.1.0)
  one_outcome xid input (TooLong at) (OtherXid got) a k = absurd (long_first ends k.0 at input a k.1.0)
  one_outcome xid input (TooLong at) NoReply a k = absurd (long_first ends k.0 at input a k.1.0)
  one_outcome xid input (Replied v) (TooLong at) k a = absurd (long_first ends k.0 at input a k.1.0)
  one_outcome xid input (OtherXid got) (TooLong at) k a = absurd (long_first ends k.0 at input a k.1.0)
  one_outcome xid input NoReply (TooLong at) k a = absurd (long_first ends k.0 at input a k.1.0)
  one_outcome xid input (Truncated at) (Replied v) a k = absurd (none_first k.0 input a.1 k.1.0)
  one_outcome xid input (Truncated at) (OtherXid got) a k = absurd (none_first k.0 input a.1 k.1.0)
  one_outcome xid input (Truncated at) NoReply a k = absurd (none_first k.0 input a.1 k.1.0)
  one_outcome xid input (Replied v) (Truncated at) k a = absurd (none_first k.0 input a.1 k.1.0)
  one_outcome xid input (OtherXid got) (Truncated at) k a = absurd (none_first k.0 input a.1 k.1.0)
  one_outcome xid input NoReply (Truncated at) k a = absurd (none_first k.0 input a.1 k.1.0)

pub outcomes_stay : TooLongEnds → OutcomesStay
outcomes_stay ends xid input more (Replied v) n (r, h) =
    (r, (begins_more most_reply (r ∷ []) input more h.0, h.1, h.2))
outcomes_stay ends xid input more (OtherXid got) n (r, h) =
    (r, (begins_more most_reply (r ∷ []) input more h.0, h.1, h.2))
outcomes_stay ends xid input more NoReply n (r, (h, q)) = (r, (begins_more most_reply (r ∷ []) input more h, q))
outcomes_stay ends xid input more (TooLong at) n h = (ends most_reply at [] input more h).0
outcomes_stay ends xid input more (Truncated at) n h = absurd (n tt)

-- ---- the answer of an exchange

module _ (ends : TooLongEnds) (xid : ℕ) (all rest : List ℕ) where
  stays : (o : Outcome) → (HasEnded o → ⊥) → (input : List ℕ) → all ≡ input ++ rest → IsOutcome xid input o
      → IsOutcome xid all o
  stays o n input e h = subst (λ b. IsOutcome xid b o) (sym e) (outcomes_stay ends xid input rest o n h)

  -- what was read has the case, and so has all that the reader holds
  pub exact : (result : Result Reply ClientFault) (h : Exchanged xid (Some all) (Some rest) result)
      → IsAnswer xid all result
  exact (Ok reply) h = stays (Replied (reply_view reply)) (λ z. z) h.input h.read h.reads
  exact (Err (fault.WrongXid got)) h = stays (OtherXid got) (λ z. z) h.input h.read h.reads
  exact (Err (fault.Reply f)) h = stays NoReply (λ z. z) h.input h.read h.reads.0
  exact (Err (fault.Record (flaw.TooLong at))) h = stays (TooLong at) (λ z. z) h.input h.read h.reads
  exact (Err (fault.Record (flaw.Truncated at))) h =
      subst (λ b. IsOutcome xid b (Truncated at))
      (sym (h.read ∙ ap (λ k. h.input ++ k) h.reads.1 ∙ append-nil h.input)) h.reads.0
  exact (Err (fault.Record flaw.Read)) h = tt
  exact (Err (fault.Record (flaw.Write written))) h = tt
  exact (Err (fault.Record flaw.TooManyReads)) h = tt
  exact (Err (fault.Record flaw.NoMemory)) h = tt
  exact (Err fault.Read) h = tt
  exact (Err (fault.Write written)) h = tt
  exact (Err fault.TooManyReads) h = tt
  exact (Err fault.NoMemory) h = tt

none_some : (input : List ℕ) → None ≡ Some input → ⊥
none_some input e = cc

pub exact_answer : TooLongEnds → (xid : ℕ) (l m : Option (List ℕ)) (result : Result Reply ClientFault)
    → Exchanged xid l m result → IsExact xid l result
exact_answer ends xid None m result h input e = absurd (none_some input e)
exact_answer ends xid (Some all) None result h input e = absurd h.read
exact_answer ends xid (Some all) (Some rest) result h input e =
    exact ends xid input rest result (subst (λ b. Exchanged xid b (Some rest) result) e h)

-- ---- an input without any case

module _ (xid : ℕ) (input : List ℕ) (never : (o : Outcome) → IsOutcome xid input o → ⊥) where
  has_no_first : (r : List ℕ) → IsFirst r input → ⊥
  has_no_first r h = never NoReply (r, (h, λ v p. by v p (cases_eq (xid_of v) xid)))
    where
      by : (v : ReplyView) → ReplyBytes v r → (xid_of v ≡ xid) ⊎ (xid_of v ≡ xid → ⊥) → ⊥
      by v p (inl e) = never (Replied v) (r, (h, p, e))
      by v p (inr n) = never (OtherXid (xid_of v)) (r, (h, (v, (p, refl)), n))

  -- a stream at the front has no record
  has_none : (rs : List (List ℕ)) (whole back : List ℕ) → Stream rs whole → Within most_reply rs → input ≡ whole ++ back
      → rs ≡ []
  has_none [] whole back s w e = refl
  has_none (r ∷ rs) whole back (first, (rest, (m, s, is))) w e = absurd (has_no_first r (record {
    whole = first;
    more = rest ++ back;
    stream = (first, ([], (m, refl, sym (append-nil first))));
    within = λ i d lt. one_within i d lt;
    spelled = e ∙ ap (λ k. k ++ back) is ∙ append_assoc first rest back;
  }))
    where
      one_within : Within most_reply (r ∷ [])
      one_within zero d lt = w 0 d (omega arith)
      one_within (suc i) d lt = absurd (omega (arith, lt))

  longest : Longest most_reply [] input
  longest = record {
    whole = [];
    part = input;
    stream = refl;
    within = λ i d lt. absurd (omega (arith, lt));
    spelled = refl;
    only = λ others front back w s e. ([], sym (ap (λ k. k ++ []) (has_none others front back s w e)));
  }

  not_long : HasNoLong most_reply input
  not_long rs at h =
      let none = has_none rs h.upto.whole _ h.upto.stream h.upto.within
      (h.spelled ∙ ap (λ k. k ++ (header h.last h.count ++ h.more)) h.upto.spelled ∙ append_assoc h.upto.whole _ _) in
      never (TooLong at) (subst (λ k. TooLongAt most_reply k at input) none h)

  no_case : ⊥
  no_case = never (Truncated (capped (length input))) (refl, longest, not_long)

pub some_outcome : SomeOutcome
some_outcome xid input never = no_case xid input never
