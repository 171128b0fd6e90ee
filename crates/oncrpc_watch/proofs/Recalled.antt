-- A table of calls that wait stands for what was heard.
use Rattle.std.proofs.Common.{◌≡◌, ℕ, ◌+◌, ◌<◌, ◌≤◌, ◌^◌, Bool, true, false, List, [], ◌∷◌, ◌++◌, Option, None}
use Rattle.std.proofs.Common.{Some, refl, sym, ap, ◌∙◌, subst, inl, inr, arith}
use Rattle.std.proofs.lemmas.Bool.{cases_Bool, false≢true}
use Rattle.std.proofs.lemmas.List.Elements.{All-cons, All-head, All-nil, All-tail}
use Rattle.std.specs.Prelude.{◌&&◌, ◌==◌, All, IsSome, is_some}
use Rattle.oncrpc_messages.specs.declared.asked.Asked.{Asked}
use Rattle.oncrpc_messages.specs.declared.page.Said.{Said}
use Rattle.oncrpc_messages.specs.declared.page.Said.TheVariants as said
use Rattle.oncrpc_watch.specs.declared.table.CallTable.{CallTable}
use Rattle.oncrpc_watch.specs.declared.table.TheConstants.{MOST_CALLS}
use Rattle.oncrpc_watch.specs.Heard.{Heard, IsKnownCall, Waits, calls_in, is_of, one_if_call, timed}
use Rattle.oncrpc_watch.specs.Represents.{Recalls}
use Rattle.oncrpc_watch.specs.Waiting.{Ages, Answered, IsOther, IsSame, Notes, lasting, spare_of, waiting}

-- ---- a message more

-- a call with its way, its time and its xid
abbrev call_of : (way xid time : ℕ) → Asked → Heard
call_of way xid time a = record { way = way; time = time; said = said.Call xid a }

-- one of another way or xid: what waited waits
waits_more : (h : Heard) (history : List Heard) (way xid : ℕ) (a : Asked) → is_of way xid h ≡ false
    → Waits history way xid a → Waits (h ∷ history) way xid a
waits_more h history way xid a e w = record {
  since = h ∷ w.since;
  before = w.before;
  time = w.time;
  says = w.says;
  heard = ap (λ (k : List Heard). h ∷ k) w.heard;
  newest = All-cons (λ k. is_of way xid k ≡ false) h w.since e w.newest;
  asked_is = w.asked_is;
}

is_itself : (way xid time : ℕ) (a : Asked) → is_of way xid (call_of way xid time a) ≡ true
is_itself way xid time a = grind arith

-- and what waits had waited
waits_before : (h : Heard) (history : List Heard) (way xid : ℕ) (a : Asked) → is_of way xid h ≡ false
    → (w : Waits (h ∷ history) way xid a)
    → (v : Waits history way xid a) × (calls_in w.since ≡ one_if_call h.said + calls_in v.since)
waits_before h history way xid a e w = split w.since w.heard w.newest
  where
    split : (since : List Heard)
        → h ∷ history ≡ since ++ call_of way xid w.time w.says ∷ w.before
        → All (λ k. is_of way xid k ≡ false) since
        → (v : Waits history way xid a) × (calls_in since ≡ one_if_call h.said + calls_in v.since)
    split [] is newest = absurd (false≢true (sym e ∙ ap (λ k. is_of way xid k) (head_of is)
        ∙ is_itself way xid w.time w.says))
      where
        head_of : h ∷ history ≡ call_of way xid w.time w.says ∷ w.before → h ≡ call_of way xid w.time w.says
        head_of x = cc
    split (s ∷ ss) is newest = (
      record {
        since = ss;
        before = w.before;
        time = w.time;
        says = w.says;
        heard = tail_of is;
        newest = All-tail (λ k. is_of way xid k ≡ false) s ss newest;
        asked_is = w.asked_is;
      },
      ap (λ (k : Heard). one_if_call k.said + calls_in ss) (sym (head_of is)),
    )
      where
        head_of : h ∷ history ≡ s ∷ ss ++ call_of way xid w.time w.says ∷ w.before → h ≡ s
        head_of x = cc

        tail_of : h ∷ history ≡ s ∷ ss ++ call_of way xid w.time w.says ∷ w.before
            → history ≡ ss ++ call_of way xid w.time w.says ∷ w.before
        tail_of x = cc

-- a call waits at once
waits_first : (history : List Heard) (way xid time : ℕ) (a call : Asked) → call ≡ timed time a
    → Waits (call_of way xid time a ∷ history) way xid call
waits_first history way xid time a call is = record {
  since = [];
  before = history;
  time = time;
  says = a;
  heard = refl;
  newest = All-nil (λ k. is_of way xid k ≡ false);
  asked_is = is;
}

-- behind a reply none of its way and xid does
waits_not : (history : List Heard) (way xid time : ℕ) (a : Asked)
    → Waits (record { way = way; time = time; said = said.Reply xid } ∷ history) way xid a → ⊥
waits_not history way xid time a w = split w.since w.heard w.newest
  where
    reply : Heard
    reply = record { way = way; time = time; said = said.Reply xid }

    split : (since : List Heard)
        → reply ∷ history ≡ since ++ call_of way xid w.time w.says ∷ w.before
        → All (λ k. is_of way xid k ≡ false) since → ⊥
    split [] is newest = no_call (head_of is)
      where
        head_of : reply ∷ history ≡ call_of way xid w.time w.says ∷ w.before → reply ≡ call_of way xid w.time w.says
        head_of x = cc

        no_call : reply ≡ call_of way xid w.time w.says → ⊥
        no_call x = false≢true (ap (λ (k : Heard). is_a_call k.said) x)
          where
            is_a_call : Said → Bool
            is_a_call (said.Call x a) = true
            is_a_call _ = false
    split (s ∷ ss) is newest = false≢true (sym (All-head (λ k. is_of way xid k ≡ false) s ss newest)
        ∙ ap (λ k. is_of way xid k) (sym (head_of is)) ∙ is_reply)
      where
        head_of : reply ∷ history ≡ s ∷ ss ++ call_of way xid w.time w.says ∷ w.before → reply ≡ s
        head_of x = cc

        is_reply : is_of way xid reply ≡ true
        is_reply = grind arith

-- ---- what is known

pub recalls_nothing : (table : CallTable) → ((way xid : ℕ) → waiting table way xid ≡ None)
    → spare_of table ≡ MOST_CALLS → Recalls table []
recalls_nothing table empty spare = record {
  each = λ way xid few. subst (λ o. IsKnownCall [] way xid o) (sym (empty way xid))
      (λ a w. none _ w.before w.since w.heard);
  lasts = λ way xid a few some w. absurd (false≢true (ap (λ o. is_some o) (sym (empty way xid)) ∙ some));
  spare = omega (arith, spare);
}
  where
    none : (h : Heard) (before since : List Heard) → [] ≡ since ++ h ∷ before → MOST_CALLS < calls_in since
    none h before [] is = absurd (no_head h before is)
      where
        no_head : (h : Heard) (hs : List Heard) → [] ≡ h ∷ hs → ⊥
        no_head h hs e = cc
    none h before (s ∷ ss) is = absurd (no_head s (ss ++ h ∷ before) is)
      where
        no_head : (h : Heard) (hs : List Heard) → [] ≡ h ∷ hs → ⊥
        no_head h hs e = cc

-- a message of another way or xid: what was known of these is known
known_more : (h : Heard) (history : List Heard) (way xid : ℕ) (o : Option Asked) → is_of way xid h ≡ false
    → IsKnownCall history way xid o → IsKnownCall (h ∷ history) way xid o
known_more h history way xid (Some a) e known = waits_more h history way xid a e known
known_more h history way xid None e known = λ a w.
    let back = waits_before h history way xid a e w in
    let far = known a back.0 in
    let is = back.1 in omega (arith, far, is)

pub recalls_same : (old new : CallTable) (history : List Heard) → IsSame old new → Recalls old history
    → Recalls new history
recalls_same old new history same r = record {
  each = λ way xid few. subst (λ o. IsKnownCall history way xid o) (sym (same.waits way xid)) (r.each way xid few);
  lasts = λ way xid a few some w.
      let far = r.lasts way xid a few (ap (λ o. is_some o) (sym (same.waits way xid)) ∙ some) w in
      let is = same.lasts way xid in omega (arith, far, is);
  spare = omega (arith, same.spare, r.spare);
}

-- ---- a call

module _ (old new : CallTable) (history : List Heard) (way xid time : ℕ) (a call : Asked) (r : Recalls old history)
    (is : call ≡ timed time a) (n : Notes old new way xid call) where
  abbrev last : Heard
  last = call_of way xid time a

  -- another one: forgotten only where 65536 were heard since
  known_other : (w x : ℕ) (o : Option Asked) → x < 2 ^ 32 → is_of w x last ≡ false → o ≡ waiting old w x
      → IsKnownCall history w x o → waiting new w x ≡ None → lasting old w x ≡ 0
      → IsKnownCall (last ∷ history) w x None
  known_other w x None few e same known none zero = λ b v.
      let back = waits_before last history w x b e v in
      let far = known b back.0 in
      let counted = back.1 in omega (arith, far, counted)
  known_other w x (Some o) few e same known none zero = λ b v.
      let back = waits_before last history w x b e v in
      let far = r.lasts w x b few (ap (λ k. is_some k) (sym same)) back.0 in
      let counted = back.1 in omega (arith, far, counted, zero)

  each_other : (w x : ℕ) → x < 2 ^ 32 → is_of w x last ≡ false → Ages old new w x
      → IsKnownCall (last ∷ history) w x (waiting new w x)
  each_other w x few e ages = elim ages.waits [
    | inl same ↦ subst (λ o. IsKnownCall (last ∷ history) w x o) (sym same)
        (known_more last history w x (waiting old w x) e (r.each w x few))
    | inr gone ↦ subst (λ o. IsKnownCall (last ∷ history) w x o) (sym gone.0)
        (known_other w x (waiting old w x) few e refl (r.each w x few) gone.0 gone.1)
  ]

  each_call : (w x : ℕ) → x < 2 ^ 32 → IsKnownCall (last ∷ history) w x (waiting new w x)
  each_call w x few = elim (cases_Bool (is_of w x last)) [
    | inl e ↦ mine w x (grind (arith, e)) (grind (arith, e))
    | inr e ↦ each_other w x few e (n.others w x (few, λ same. grind (arith, e, same.0, same.1)))
  ]
    where
      mine : (w x : ℕ) → w ≡ way → x ≡ xid → IsKnownCall (last ∷ history) w x (waiting new w x)
      mine w x u v = rw u (rw v (subst (λ o. IsKnownCall (last ∷ history) way xid o) (sym n.noted)
          (waits_first history way xid time a call is)))

  lasts_other : (w x : ℕ) (b : Asked) → x < 2 ^ 32 → is_of w x last ≡ false → Ages old new w x
      → IsSome (waiting new w x) → (v : Waits (last ∷ history) w x b)
      → MOST_CALLS ≤ lasting new w x + calls_in v.since
  lasts_other w x b few e ages some v = elim ages.waits [
    | inl same ↦
        let back = waits_before last history w x b e v in
        let far = r.lasts w x b few (ap (λ o. is_some o) (sym same) ∙ some) back.0 in
        let counted = back.1 in
        let less = ages.lasts in omega (arith, far, counted, less)
    | inr gone ↦ absurd (false≢true (ap (λ o. is_some o) (sym gone.0) ∙ some))
  ]

  lasts_call : (w x : ℕ) (b : Asked) → x < 2 ^ 32 → IsSome (waiting new w x) → (v : Waits (last ∷ history) w x b)
      → MOST_CALLS ≤ lasting new w x + calls_in v.since
  lasts_call w x b few some v = elim (cases_Bool (is_of w x last)) [
    | inl e ↦ mine w x (grind (arith, e)) (grind (arith, e)) (calls_in v.since)
    | inr e ↦ lasts_other w x b few e (n.others w x (few, λ same. grind (arith, e, same.0, same.1))) some v
  ]
    where
      mine : (w x : ℕ) → w ≡ way → x ≡ xid → (k : ℕ) → MOST_CALLS ≤ lasting new w x + k
      mine w x u v k = rw u (rw v (omega (arith, n.lasts)))

  pub recalls_call : Recalls new (last ∷ history)
  recalls_call = record { each = each_call; lasts = lasts_call; spare = omega (arith, r.spare, n.spare) }

-- ---- a reply

module _ (old new : CallTable) (history : List Heard) (way xid time : ℕ) (r : Recalls old history)
    (n : Answered old new way xid) where
  abbrev reply : Heard
  reply = record { way = way; time = time; said = said.Reply xid }

  each_reply : (w x : ℕ) → x < 2 ^ 32 → IsKnownCall (reply ∷ history) w x (waiting new w x)
  each_reply w x few = elim (cases_Bool (is_of w x reply)) [
    | inl e ↦ mine w x (grind (arith, e)) (grind (arith, e))
    | inr e ↦ subst (λ o. IsKnownCall (reply ∷ history) w x o)
        (sym (n.others w x (few, λ same. grind (arith, e, same.0, same.1))))
        (known_more reply history w x (waiting old w x) e (r.each w x few))
  ]
    where
      mine : (w x : ℕ) → w ≡ way → x ≡ xid → IsKnownCall (reply ∷ history) w x (waiting new w x)
      mine w x u v = rw u (rw v (subst (λ o. IsKnownCall (reply ∷ history) way xid o) (sym n.gone)
          (λ a k. absurd (waits_not history way xid time a k))))

  lasts_reply : (w x : ℕ) (b : Asked) → x < 2 ^ 32 → IsSome (waiting new w x) → (v : Waits (reply ∷ history) w x b)
      → MOST_CALLS ≤ lasting new w x + calls_in v.since
  lasts_reply w x b few some v = elim (cases_Bool (is_of w x reply)) [
    | inl e ↦ mine w x (grind (arith, e)) (grind (arith, e)) some
    | inr e ↦
        let other : IsOther way xid w x = (few, λ same. grind (arith, e, same.0, same.1)) in
        let back = waits_before reply history w x b e v in
        let far = r.lasts w x b few (ap (λ o. is_some o) (sym (n.others w x other)) ∙ some) back.0 in
        let counted = back.1 in
        let more = n.lasts w x other in omega (arith, far, counted, more)
  ]
    where
      mine : (w x : ℕ) → w ≡ way → x ≡ xid → IsSome (waiting new w x)
          → MOST_CALLS ≤ lasting new w x + calls_in v.since
      mine w x u k some = absurd (none w x u k some)
        where
          none : (w x : ℕ) → w ≡ way → x ≡ xid → IsSome (waiting new w x) → ⊥
          none w x u k some = false≢true (ap (λ o. is_some o) (sym n.gone)
              ∙ ap (λ i. is_some (waiting new i xid)) (sym u) ∙ ap (λ i. is_some (waiting new w i)) (sym k) ∙ some)

  pub recalls_reply : Recalls new (reply ∷ history)
  recalls_reply = record { each = each_reply; lasts = lasts_reply; spare = omega (arith, r.spare, n.spare) }

-- ---- neither

no_and : (b : Bool) → (b && false) ≡ false
no_and true = refl
no_and false = refl

pub recalls_neither : (table : CallTable) (history : List Heard) (way time : ℕ) → Recalls table history
    → Recalls table (record { way = way; time = time; said = said.Neither } ∷ history)
recalls_neither table history way time r =
    let h : Heard = record { way = way; time = time; said = said.Neither } in
    record {
      each = λ w x few. known_more h history w x (waiting table w x) (no_and (way == w)) (r.each w x few);
      lasts = λ w x b few some v.
          let back = waits_before h history w x b (no_and (way == w)) v in
          let far = r.lasts w x b few some back.0 in
          let counted = back.1 in omega (arith, far, counted);
      spare = omega (arith, r.spare);
    }
