-- A record of a caller has one answer.
use Rattle.std.proofs.Common.{◌≡◌, ◌⊎◌, inl, inr, ℕ, ◌<◌, ◌^◌, Bool, true, false, ◌||◌, List, [], ◌++◌, drop, get_or}
use Rattle.std.proofs.Common.{length, Option, Some, option_map, refl, ap, sym, ◌∙◌, subst, true≢false, arith}
use Rattle.std.proofs.lemmas.Option.{same_Some}
use Rattle.xdr_units.specs.Numbers.{AreBytes}
use Rattle.rpc_message.specs.Heads.{accepted}
use Rattle.rpc_message.specs.Message.{CallView, Whole, SystemErr, ReplyView}
use Rattle.rpc_message.specs.Cases.{NoTwoCases}
use Rattle.rpc_message.specs.Spelling.{CallBytes, opaque, reply}
use Rattle.registry_rows.specs.Rows.{Row}
use Rattle.registry_answer.specs.Answer.{Answer}
use Rattle.registry_answer.specs.Laws.{OneAnswer}
use Rattle.registry_answer.proofs.Cases.{decided_by, sends_is}
use Rattle.registry_callers.specs.declared.callers.Caller.{Caller}
use Rattle.registry_callers.specs.Asking.{is_set, is_change, is_look_up}
use Rattle.registry_callers.specs.Vouching.{with_cred}
use Rattle.registry_callers.specs.Addresses.{Tells, address, as_it_was, told, address_reply}
use Rattle.registry_callers.specs.From.{AnswerFrom, IsTaken, is_there, too_weak, sets_again, sets, unsets, looks_up}
use Rattle.registry_callers.specs.From.{as_ever, no_memory}
use Rattle.registry_callers.specs.Laws.{OneAnswerFrom}
use Rattle.registry_callers.proofs.Tests.{first_of_two, second_of_two, set_is_change, no_look_up}
use Rattle.registry_callers.proofs.Texts.{same_opaque}
use Rattle.registry_callers.proofs.Written.{Exact}
use Rattle.registry_callers.proofs.Asked.{one_asked, asked_bytes}
use Rattle.registry_callers.proofs.Told.{others_are_as_ever, remote_is_denied}

-- ---- look-ups

-- the text of a reply is one
one_text : (xid : ℕ) (t u : List ℕ) → length t < 2 ^ 32 → length u < 2 ^ 32
    → address_reply xid t ≡ address_reply xid u → t ≡ u
one_text xid t u ft fu e =
    let results : opaque t ≡ opaque u = ap (drop 24) e in
    (same_opaque t u [] [] ft fu (ap (λ (l : List ℕ). l ++ []) results)).0

-- SYSTEM_ERR has no text
no_text : (xid : ℕ) (t : List ℕ) → reply (accepted xid SystemErr) ≡ address_reply xid t → ⊥
no_text xid t e = let f : 5 ≡ 0 = ap (λ (l : List ℕ). get_or l 23 0) e in omega (arith, f)

one_telling : {host : Option (List ℕ)} {xid : ℕ} {p q s t : Option (List ℕ)} → Tells host xid p s → Tells host xid q t
    → p ≡ q → s ≡ t
one_telling {host} {xid} (address t ft) (address u fu) e =
    ap (λ (l : List ℕ). Some (address_reply xid (told host l))) (one_text xid t u ft fu (same_Some _ _ e))
one_telling (address t ft) (as_it_was sent none) e = absurd (none t ft (sym e))
one_telling (as_it_was sent none) (address u fu) e = absurd (none u fu e)
one_telling (as_it_was sent none) (as_it_was said isnt) e = e

-- SYSTEM_ERR is told as it is
tells_error : {host : Option (List ℕ)} {xid : ℕ} {p s : Option (List ℕ)} → Tells host xid p s
    → p ≡ Some (reply (accepted xid SystemErr)) → s ≡ Some (reply (accepted xid SystemErr))
tells_error {host} {xid} (address t ft) e = absurd (no_text xid t (sym (same_Some _ _ e)))
tells_error (as_it_was sent none) e = e

-- ---- refused memory

module _ (cases : NoTwoCases) (rows : List Row) (netid : List ℕ) where
  -- the plain answer to a call
  error_is : (c : CallView) (message : List ℕ) → AreBytes message → CallBytes c message → (refused : Bool)
      → (new : List Row) (sent : Option (List ℕ)) → Answer rows netid message refused new sent → refused ≡ true
      → (new ≡ rows) × (sent ≡ Some (reply (accepted c.xid SystemErr)))
  error_is c message fits read true new sent a e =
      let d = decided_by rows netid cases message fits true new sent a (Whole c) read in
      (d.0, sends_is a.said sent a.sends ∙ ap (λ (o : Option ReplyView). option_map reply o) d.1)
  error_is c message fits read false new sent a e = absurd (true≢false (sym e))

module _ (exact : Exact) (one : OneAnswer) (cases : NoTwoCases) (caller : Caller) (rows : List Row)
    (netid message : List ℕ) (fits : AreBytes message) where
  same : (c d : CallView) → CallBytes c message → CallBytes d message → c ≡ d
  same c d read spelt = (exact c d message message read spelt).1 refl

  -- the bytes that are asked for one record
  same_asked : (c d : CallView) (a b : List ℕ) → IsTaken caller message c a → IsTaken caller message d b → a ≡ b
  same_asked c d a b t u = one_asked caller.peer c d a b (same c d t.read u.read) t.vouched u.vouched

  bytes_asked : (c : CallView) (a : List ℕ) → IsTaken caller message c a → AreBytes a
  bytes_asked c a t = asked_bytes caller.peer c message a fits t.read t.vouched

  -- the answer to the bytes that are asked, where memory was refused
  asked_error : (c d : CallView) (asked : List ℕ) → CallBytes c message → IsTaken caller message d asked
      → (refused : Bool) (new : List Row) (sent : Option (List ℕ)) → Answer rows netid asked refused new sent
      → refused ≡ true → (new ≡ rows) × (sent ≡ Some (reply (accepted c.xid SystemErr)))
  asked_error c d asked read t refused new sent a e =
      let k = error_is cases rows netid (with_cred d t.vouched.cred) asked (bytes_asked d asked t) t.vouched.spelled
      refused new sent a e in
      (k.0, k.1 ∙ ap (λ (x : CallView). Some (reply (accepted x.xid SystemErr))) (same d c t.read read))

  when_refused : (c : CallView) → CallBytes c message → {refused : Bool} {new : List Row} {sent : Option (List ℕ)}
      → AnswerFrom caller rows netid message refused new sent → refused ≡ true
      → (new ≡ rows) × (sent ≡ Some (reply (accepted c.xid SystemErr)))
  when_refused c read (too_weak d spelt change weak) e = absurd (true≢false (sym e))
  when_refused c read (sets_again d asked made said t set h there) e = absurd (true≢false (sym e))
  when_refused c read (sets d asked made said refused new sent t set h isnt a) e =
      asked_error c d asked read t refused new sent a e
  when_refused c read (unsets d asked refused new sent t change isnt a) e =
      asked_error c d asked read t refused new sent a e
  when_refused c read (looks_up d refused new plain sent spelt look a m) e =
      let k = error_is cases rows netid d message fits spelt refused new plain a e in
      (k.0, tells_error m k.1 ∙ ap (λ (x : CallView). Some (reply (accepted x.xid SystemErr))) (same d c spelt read))
  when_refused c read (as_ever refused new sent none a) e =
      error_is cases rows netid c message fits read refused new sent a e
  when_refused c read (no_memory d spelt) e =
      (refl, ap (λ (x : CallView). Some (reply (accepted x.xid SystemErr))) (same d c spelt read))

  -- ---- memory that was not refused

  no_change : ((c : CallView) → CallBytes c message → (is_change c || is_look_up c) ≡ false) → (c : CallView)
      → CallBytes c message → is_change c ≡ true → ⊥
  no_change none c read e = true≢false (sym (first_of_two (is_change c) (is_look_up c) e) ∙ none c read)

  -- a call that is one of these and is said to be none of them
  clash : (test : CallView → Bool) (c d : CallView) → CallBytes c message → CallBytes d message → test c ≡ true
      → test d ≡ false → ⊥
  clash test c d read spelt e f = true≢false (sym e ∙ ap test (same c d read spelt) ∙ f)

  -- a SET that is taken: its row is there, or it has the plain answer
  set_is : (c : CallView) (asked : List ℕ) (made : List Row) (said : Option (List ℕ)) → IsTaken caller message c asked
      → is_set c ≡ true → Answer [] netid asked false made said → {refused : Bool} {new : List Row}
      → {sent : Option (List ℕ)} → AnswerFrom caller rows netid message refused new sent → refused ≡ false
      → ((is_there rows made ≡ true) × (new ≡ rows) × (sent ≡ said))
      ⊎ ((is_there rows made ≡ false) × Answer rows netid asked false new sent)
  set_is c asked made said t set h (too_weak d spelt change weak) e = absurd (true≢false (sym t.trusted ∙ weak))
  set_is c asked made said t set h (sets_again d b make tell u again k there) e =
      let at = same_asked d c b asked u t in
      let k' : Answer [] netid asked false make tell = subst (λ (x : List ℕ). Answer [] netid x false make tell) at k in
      let q = one [] make made netid asked false tell said (bytes_asked c asked t) k' h in
      inl (ap (is_there rows) (sym q.0) ∙ there, refl, q.1)
  set_is c asked made said t set h (sets d b make tell refused new sent u again k isnt a) e =
      let at = same_asked d c b asked u t in
      let k' : Answer [] netid asked false make tell = subst (λ (x : List ℕ). Answer [] netid x false make tell) at k in
      let q = one [] make made netid asked false tell said (bytes_asked c asked t) k' h in
      inr (
        ap (is_there rows) (sym q.0) ∙ isnt,
        subst (λ (y : Bool). Answer rows netid asked y new sent) e
            (subst (λ (x : List ℕ). Answer rows netid x refused new sent) at a),
      )
  set_is c asked made said t set h (unsets d b refused new sent u change isnt a) e =
      absurd (clash is_set c d t.read u.read set isnt)
  set_is c asked made said t set h (looks_up d refused new plain sent spelt look a m) e =
      absurd (clash is_look_up d c spelt t.read look (no_look_up c (set_is_change c set)))
  set_is c asked made said t set h (as_ever refused new sent none a) e =
      absurd (no_change none c t.read (set_is_change c set))
  set_is c asked made said t set h (no_memory d spelt) e = absurd (true≢false e)

  -- an UNSET that is taken
  unset_is : (c : CallView) (asked : List ℕ) → IsTaken caller message c asked → is_change c ≡ true → is_set c ≡ false
      → {refused : Bool} {new : List Row} {sent : Option (List ℕ)}
      → AnswerFrom caller rows netid message refused new sent → refused ≡ false
      → Answer rows netid asked false new sent
  unset_is c asked t change isnt (too_weak d spelt is weak) e = absurd (true≢false (sym t.trusted ∙ weak))
  unset_is c asked t change isnt (sets_again d b make tell u again k there) e =
      absurd (clash is_set d c u.read t.read again isnt)
  unset_is c asked t change isnt (sets d b make tell refused new sent u again k other a) e =
      absurd (clash is_set d c u.read t.read again isnt)
  unset_is c asked t change isnt (unsets d b refused new sent u is not a) e =
      subst (λ (y : Bool). Answer rows netid asked y new sent) e
      (subst (λ (x : List ℕ). Answer rows netid x refused new sent) (same_asked d c b asked u t) a)
  unset_is c asked t change isnt (looks_up d refused new plain sent spelt look a m) e =
      absurd (clash is_look_up d c spelt t.read look (no_look_up c change))
  unset_is c asked t change isnt (as_ever refused new sent none a) e = absurd (no_change none c t.read change)
  unset_is c asked t change isnt (no_memory d spelt) e = absurd (true≢false e)

  -- a look-up
  look_up_is : (c : CallView) → CallBytes c message → is_look_up c ≡ true → {refused : Bool} {new : List Row}
      → {sent : Option (List ℕ)} → AnswerFrom caller rows netid message refused new sent → refused ≡ false
      → (plain : Option (List ℕ)) × (Answer rows netid message false new plain × Tells caller.host c.xid plain sent)
  look_up_is c read look (too_weak d spelt change weak) e =
      absurd (clash is_look_up c d read spelt look (no_look_up d change))
  look_up_is c read look (sets_again d b make tell u again k there) e =
      absurd (clash is_look_up c d read u.read look (no_look_up d (set_is_change d again)))
  look_up_is c read look (sets d b make tell refused new sent u again k other a) e =
      absurd (clash is_look_up c d read u.read look (no_look_up d (set_is_change d again)))
  look_up_is c read look (unsets d b refused new sent u change isnt a) e =
      absurd (clash is_look_up c d read u.read look (no_look_up d change))
  look_up_is c read look (looks_up d refused new plain sent spelt at a m) e = (
    plain,
    (
      subst (λ (y : Bool). Answer rows netid message y new plain) e a,
      subst (λ (x : CallView). Tells caller.host x.xid plain sent) (same d c spelt read) m,
    ),
  )
  look_up_is c read look (as_ever refused new sent none a) e =
      absurd (true≢false (sym (second_of_two (is_change c) (is_look_up c) look) ∙ none c read))
  look_up_is c read look (no_memory d spelt) e = absurd (true≢false e)

  -- two ways in which a SET is answered
  both_sets : (asked : List ℕ) → AreBytes asked → (made new other : List Row) (said sent tell : Option (List ℕ))
      → ((is_there rows made ≡ true) × (new ≡ rows) × (sent ≡ said))
      ⊎ ((is_there rows made ≡ false) × Answer rows netid asked false new sent)
      → ((is_there rows made ≡ true) × (other ≡ rows) × (tell ≡ said))
      ⊎ ((is_there rows made ≡ false) × Answer rows netid asked false other tell)
      → (new ≡ other) × (sent ≡ tell)
  both_sets asked are made new other said sent tell (inl h) (inl k) = (h.1 ∙ sym k.1, h.2 ∙ sym k.2)
  both_sets asked are made new other said sent tell (inl h) (inr k) = absurd (true≢false (sym h.0 ∙ k.0))
  both_sets asked are made new other said sent tell (inr h) (inl k) = absurd (true≢false (sym k.0 ∙ h.0))
  both_sets asked are made new other said sent tell (inr h) (inr k) =
      one rows new other netid asked false sent tell are h.1 k.1

  not_refused : (other : List Row) (said : Option (List ℕ)) → {refused : Bool} {new : List Row}
      → {sent : Option (List ℕ)} → AnswerFrom caller rows netid message refused new sent
      → AnswerFrom caller rows netid message refused other said → refused ≡ false → (new ≡ other) × (sent ≡ said)
  not_refused other said (too_weak c read change weak) b e =
      let k = remote_is_denied exact caller c rows other netid message false said weak read change b in
      (sym k.0, sym (k.1 refl))
  not_refused other said (sets_again c asked made tell t set h there) b e =
      both_sets asked (bytes_asked c asked t) made rows other tell tell said (inl (there, refl, refl))
      (set_is c asked made tell t set h b refl)
  not_refused other said (sets c asked made tell refused new sent t set h isnt a) b e =
      both_sets asked (bytes_asked c asked t) made new other tell sent said
      (inr (isnt, subst (λ (y : Bool). Answer rows netid asked y new sent) e a)) (set_is c asked made tell t set h b e)
  not_refused other said (unsets c asked refused new sent t change isnt a) b e =
      one rows new other netid asked false sent said (bytes_asked c asked t)
      (subst (λ (y : Bool). Answer rows netid asked y new sent) e a) (unset_is c asked t change isnt b e)
  not_refused other said (looks_up c refused new plain sent read look a m) b e =
      let k = look_up_is c read look b e in
      let q = one rows new other netid message false plain k.0 fits
      (subst (λ (y : Bool). Answer rows netid message y new plain) e a) k.1.0 in
      (q.0, one_telling m k.1.1 q.1)
  not_refused other said (as_ever refused new sent none a) b e =
      one rows new other netid message refused sent said fits a
      (others_are_as_ever caller rows other netid message refused said none b)
  not_refused other said (no_memory c read) b e = absurd (true≢false e)

  both_refused : (other : List Row) (said : Option (List ℕ)) (c : CallView) → CallBytes c message
      → {refused : Bool} {new : List Row} {sent : Option (List ℕ)}
      → AnswerFrom caller rows netid message refused new sent
      → AnswerFrom caller rows netid message refused other said → refused ≡ true → (new ≡ other) × (sent ≡ said)
  both_refused other said c read a b e =
      let h = when_refused c read a e in
      let k = when_refused c read b e in
      (h.0 ∙ sym k.0, h.1 ∙ sym k.1)

  are_refused : (other : List Row) (said : Option (List ℕ)) → {refused : Bool} {new : List Row}
      → {sent : Option (List ℕ)} → AnswerFrom caller rows netid message refused new sent
      → AnswerFrom caller rows netid message refused other said → refused ≡ true → (new ≡ other) × (sent ≡ said)
  are_refused other said (too_weak c read change weak) b e = absurd (true≢false (sym e))
  are_refused other said (sets_again c asked made tell t set h there) b e = absurd (true≢false (sym e))
  are_refused other said (sets c asked made tell refused new sent t set h isnt a) b e =
      both_refused other said c t.read (sets c asked made tell refused new sent t set h isnt a) b e
  are_refused other said (unsets c asked refused new sent t change isnt a) b e =
      both_refused other said c t.read (unsets c asked refused new sent t change isnt a) b e
  are_refused other said (looks_up c refused new plain sent read look a m) b e =
      both_refused other said c read (looks_up c refused new plain sent read look a m) b e
  are_refused other said (as_ever refused new sent none a) b e =
      one rows new other netid message refused sent said fits a
      (others_are_as_ever caller rows other netid message refused said none b)
  are_refused other said (no_memory c read) b e = both_refused other said c read (no_memory c read) b e

pub one_answer_from : Exact → OneAnswer → NoTwoCases → OneAnswerFrom
one_answer_from exact one cases caller rows new other netid message refused sent said fits a b = by refused a b
  where
    by : (y : Bool) → AnswerFrom caller rows netid message y new sent
        → AnswerFrom caller rows netid message y other said → (new ≡ other) × (sent ≡ said)
    by true p q = are_refused exact one cases caller rows netid message fits other said p q refl
    by false p q = not_refused exact one cases caller rows netid message fits other said p q refl
