-- One record answered, and what is counted.
use Rattle.std.proofs.Common.{◌≡◌, ℕ, ◌+◌, true, false, Bool, List, [], ◌∷◌, ◌++◌, length, Option, Some}
use Rattle.std.proofs.Common.{None, Result, Ok, Err, refl, sym, ap, ◌∙◌, subst, length-append, arith, cond, OnOk, IfErr}
use Rattle.std.proofs.Common.{slice_set, slice_index_or}
use Rattle.std.proofs.lemmas.List.{append-nil, length_push}
use Rattle.std.specs.Io.KnownBytes.{Appends}
use Rattle.xdr_io.proofs.Chained.{Appends-none}
use Rattle.xdr_io.specs.declared.whole.Cut.{Cut}
use Rattle.registry_rows.specs.Rows.{Row}
use Rattle.rpc_record.specs.Marked.{fragment, normal, FragmentLength}
use Rattle.rpc_record.specs.Reading.{capped}
use Rattle.registry_answer.specs.Answer.{Answer}
use Rattle.rpc_engine.specs.declared.fault.ServeFault.{ServeFault}
use Rattle.rpc_engine.specs.declared.fault.ServeFault.TheVariants as fault
use Rattle.rpc_engine.specs.declared.session.Session.{Session}
use Rattle.rpc_engine.specs.Private.Sending.{Counted}
use Rattle.rpc_engine.specs.Private.Fronts.{front_len, IsSent}
use Rattle.rpc_engine.specs.Private.Serving.{Does, LosesBy}
use Rattle.rpc_engine.proofs.Runs.{run_none, run_one}
use Rattle.std.proofs.lemmas.List.Concat.{flat_map-append}

-- the normal form of records and more
pub normal_append : (rs more : List (List ℕ)) → normal (rs ++ more) ≡ normal rs ++ normal more
normal_append rs more = flat_map-append (fragment true) rs more

pub normal_one : (r : List ℕ) → normal (r ∷ []) ≡ fragment true r
normal_one r = append-nil (fragment true r)

one_more : (rs : List (List ℕ)) (r : List ℕ) → length (rs ++ r ∷ []) ≡ length rs + 1
one_more rs r = omega (arith, length_push rs r)

-- a record without a reply
pub does_silent : (netid : List ℕ) (rows new : List Row) (old now : Session) (r : List ℕ) (t : Option (List ℕ))
    → Answer rows netid r false new None → now.served.records ≡ capped (old.served.records + 1)
    → now.served.replies ≡ old.served.replies → now.written ≡ old.written → Does netid rows new old now (r ∷ []) t t
does_silent netid rows new old now r t h e f g = record {
  refusals = false ∷ [];
  others = [];
  run = run_one rows new netid r false None h;
  counts = λ rs replies k. record {
    served_is = record {
      records = omega (arith, e, k.served_is.records, one_more rs r);
      answered = f ∙ k.served_is.answered ∙ ap (λ x. capped (length x)) (sym (append-nil replies));
    };
    bytes = g ∙ k.bytes ∙ ap (λ x. capped (length (normal x))) (sym (append-nil replies));
  };
  wrote = Appends-none t;
}

module _ (netid : List ℕ) (rows new : List Row) (old mid now : Session) (r reply : List ℕ) (y : Bool)
    (t u : Option (List ℕ)) (h : Answer rows netid r y new (Some reply))
    (records : mid.served.records ≡ capped (old.served.records + 1))
    (replies_same : mid.served.replies ≡ old.served.replies) (written_same : mid.written ≡ old.written) where
  more_bytes : (replies : List (List ℕ))
      → length (normal (replies ++ reply ∷ [])) ≡ length (normal replies) + length (fragment true reply)
  more_bytes replies = ap length (normal_append replies (reply ∷ []))
      ∙ length-append (normal replies) (normal (reply ∷ []))
      ∙ ap (λ n. length (normal replies) + n) (ap length (normal_one reply))

  -- a record whose reply went out
  pub does_reply : (sent : Result ℕ Cut) (result : Result (Unit {0}) ServeFault) → Counted mid now sent result
      → IsSent (fragment true reply) t u sent → OnOk result (Does netid rows new old now (r ∷ []) t u)
  does_reply (Ok n) (Ok v) c w = record {
    refusals = y ∷ [];
    others = reply ∷ [];
    run = run_one rows new netid r y (Some reply) h;
    counts = λ rs replies q. record {
      served_is = record {
        records = omega (arith, c.0, records, q.served_is.records, one_more rs r);
        answered = omega (arith, c.1, replies_same, q.served_is.answered, one_more replies reply);
      };
      bytes = omega (arith, c.2, written_same, q.bytes, more_bytes replies, w.0);
    };
    wrote = subst (λ x. Appends t u x) (sym (normal_one reply)) w.1;
  }
  does_reply (Ok n) (Err f) c w = tt
  does_reply (Err cut) (Ok v) c w = absurd c
  does_reply (Err cut) (Err f) c w = tt

  -- a record whose reply was cut
  pub loses_reply : (sent : Result ℕ Cut) (result : Result (Unit {0}) ServeFault) → Counted mid now sent result
      → IsSent (fragment true reply) t u sent → IfErr result (λ f. LosesBy netid rows new old (r ∷ []) t u f)
  loses_reply (Ok n) (Ok v) c w = tt
  loses_reply (Ok n) (Err f) c w = absurd c
  loses_reply (Err cut) (Ok v) c w = tt
  loses_reply (Err cut) (Err (fault.Write written)) c w = record {
    before = [];
    answering = r;
    refusals = [];
    mid = rows;
    others = [];
    refused = y;
    last = reply;
    went = cut.written;
    records = refl;
    run = run_none rows netid;
    answer = h;
    short = w.0;
    place = λ rs replies q. omega (arith, c.1, written_same, q.bytes);
    wrote = w.1;
  }
  loses_reply (Err cut) (Err (fault.Record e)) c w = absurd c
  loses_reply (Err cut) (Err fault.Read) c w = absurd c
  loses_reply (Err cut) (Err fault.TooManyReads) c w = absurd c
  loses_reply (Err cut) (Err fault.NoMemory) c w = absurd c

-- the space before a reply
pub front_is : (b given : Bool) (x old : List ℕ) → x ≡ [] → old ≡ cond given (x ++ (0 ∷ 0 ∷ 0 ∷ 0 ∷ [])) x → b ≡ given
    → length old ≡ front_len b
front_is true given x old e h s =
    ap length (h ∙ ap (λ z. cond z (x ++ (0 ∷ 0 ∷ 0 ∷ 0 ∷ [])) x) (sym s) ∙ ap (λ z. z ++ (0 ∷ 0 ∷ 0 ∷ 0 ∷ [])) e)
front_is false given x old e h s = ap length (h ∙ ap (λ z. cond z (x ++ (0 ∷ 0 ∷ 0 ∷ 0 ∷ [])) x) (sym s) ∙ e)

-- ---- a header before a reply

four : (xs : List ℕ) → length xs ≡ 4 → (a : ℕ) × ((b : ℕ) × ((c : ℕ) × ((d : ℕ) × (xs ≡ a ∷ b ∷ c ∷ d ∷ []))))
four [] h = absurd (omega (arith, h))
four (a ∷ []) h = absurd (omega (arith, h))
four (a ∷ b ∷ []) h = absurd (omega (arith, h))
four (a ∷ b ∷ c ∷ []) h = absurd (omega (arith, h))
four (a ∷ b ∷ c ∷ d ∷ []) h = (a, (b, (c, (d, refl))))
four (a ∷ b ∷ c ∷ d ∷ e ∷ xs) h = absurd (omega (arith, h))

abbrev with_front : List ℕ → List ℕ → List ℕ
with_front xs h =
    slice_set (slice_set (slice_set (slice_set xs 0 (slice_index_or h 0 0)) 1 (slice_index_or h 1 0)) 2
    (slice_index_or h 2 0)) 3 (slice_index_or h 3 0)

pub front_set : (front reply h : List ℕ) → length front ≡ 4 → length h ≡ 4 → with_front (front ++ reply) h ≡ h ++ reply
front_set front reply h e f =
    let x = four front e in
    let y = four h f in
    let xs = x.1.1.1.1 in
    let ys = y.1.1.1.1 in
    ap (λ z. with_front (z ++ reply) h) xs
    ∙ ap (λ z. with_front ((x.0 ∷ x.1.0 ∷ x.1.1.0 ∷ x.1.1.1.0 ∷ []) ++ reply) z) ys
    ∙ ap (λ z. z ++ reply) (sym ys)

-- a reply without space before it
pub send_plain : FragmentLength → (b : Bool) (front reply items given : List ℕ) (n : ℕ) (t u : Option (List ℕ))
    → b ≡ false → length front ≡ front_len b → items ≡ front ++ reply → given ≡ items → n ≡ length items
    → Appends t u (fragment true given) → IsSent (fragment true reply) t u (Ok (n + 4))
send_plain law b front reply items given n t u e f h g len w =
    let none : length front ≡ 0 = f ∙ ap front_len e in
    let same : items ≡ reply = h ∙ ap (λ x. x ++ reply) (empty front none) in (
      omega (arith, len, ap length same, law true reply),
      subst (λ x. Appends t u (fragment true x)) (g ∙ same) w,
    )
  where
    empty : (xs : List ℕ) → length xs ≡ 0 → xs ≡ []
    empty [] k = refl
    empty (x ∷ xs) k = absurd (omega (arith, k))
