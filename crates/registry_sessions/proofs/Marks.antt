-- A header before a reply that stands behind other bytes, and what answering a record does.
use Rattle.std.proofs.Common.{◌≡◌, ℕ, ◌+◌, ◌-◌, ◌≤◌, true, false, Bool, List, ◌++◌, length, Some}
use Rattle.std.proofs.Common.{sym, ap, ◌∙◌, arith, slice_set, slice_index_or}
use Rattle.std.proofs.Common.{Result, Ok, Err, true≢false, is_ok, is_err, cond}
use Rattle.std.proofs.lemmas.List.{append-nil, set-append_right}
use Rattle.registry_rows.specs.Rows.{Row}
use Rattle.rpc_record.specs.Marked.{fragment, FragmentLength}
use Rattle.registry_answer.specs.Views.{netid_of}
use Rattle.registry_callers.specs.declared.callers.Caller.{Caller}
use Rattle.registry_sessions.specs.declared.origin.Origin.{Origin}
use Rattle.registry_callers.specs.From.{AnswerFrom}
use Rattle.registry_callers.specs.Laws.{RefusedRowsStay}
use Rattle.rpc_engine.proofs.Sessions.{front_set}
use Rattle.registry_sessions.specs.Private.Replying.{PushesReply}

-- the four bytes at this place
abbrev pub with_marks : List ℕ → ℕ → List ℕ → List ℕ
with_marks xs n h =
    slice_set (slice_set (slice_set (slice_set xs n (slice_index_or h 0 0)) (n + 1) (slice_index_or h 1 0)) (n + 2)
    (slice_index_or h 2 0)) (n + 3) (slice_index_or h 3 0)

set_behind : (old rest : List ℕ) (n k x : ℕ) → length old ≡ n
    → slice_set (old ++ rest) (n + k) x ≡ old ++ slice_set rest k x
set_behind old rest n k x e =
    let less : n + k - n ≡ k = omega arith in
    set-append_right old rest n (n + k) x e (omega arith) ∙ ap (λ i. old ++ slice_set rest i x) less

pub marks_set : (old front reply h : List ℕ) (n : ℕ) → length old ≡ n → length front ≡ 4 → length h ≡ 4
    → with_marks (old ++ (front ++ reply)) n h ≡ old ++ (h ++ reply)
marks_set old front reply h n e f g =
    let a = slice_index_or h 0 0 in
    let b = slice_index_or h 1 0 in
    let c = slice_index_or h 2 0 in
    let d = slice_index_or h 3 0 in
    let x0 = front ++ reply in
    let x1 = slice_set x0 0 a in
    let x2 = slice_set x1 1 b in
    let x3 = slice_set x2 2 c in
    let zero : n + 0 ≡ n = omega arith in
    let e0 : slice_set (old ++ x0) n a ≡ old ++ x1 =
    ap (λ i. slice_set (old ++ x0) i a) (sym zero) ∙ set_behind old x0 n 0 a e in
    ap (λ l. slice_set (slice_set (slice_set l (n + 1) b) (n + 2) c) (n + 3) d) e0
    ∙ ap (λ l. slice_set (slice_set l (n + 2) c) (n + 3) d) (set_behind old x1 n 1 b e)
    ∙ ap (λ l. slice_set l (n + 3) d) (set_behind old x2 n 2 c e)
    ∙ set_behind old x3 n 3 d e
    ∙ ap (λ l. old ++ l) (front_set front reply h f g)

-- where memory was refused the rows stay
pub refused_stays : RefusedRowsStay → (caller : Caller) (rows new : List Row) (netid message bytes : List ℕ)
    → AnswerFrom caller rows netid message true new (Some bytes) → new ≡ rows
refused_stays law caller rows new netid message bytes a = law caller rows new netid message (Some bytes) a

-- a reply behind four bytes for its header
pub pushes_reply : FragmentLength → (origin : Origin) (rows new : List Row)
    (message old front reply before out : List ℕ)
    (refused : Bool) (n : ℕ)
    → AnswerFrom origin.caller rows (netid_of origin.transport) message refused new (Some reply)
    → before ≡ old ++ (front ++ reply)
    → length front ≡ 4 → length reply ≤ 16777240
    → length old ≡ n
    → ((a f r : List ℕ) → length a ≡ n → length f ≡ 4 → before ≡ a ++ (f ++ r) → out ≡ a ++ fragment true r)
    → PushesReply origin rows message new old out
pushes_reply law origin rows new message old front reply before out refused n a e four short len marks = record {
  refused = refused;
  sent = Some reply;
  answer = a;
  added = marks old front reply len four e ∙ ap (λ l. old ++ l) (sym (append-nil (fragment true reply)));
  short = omega (arith, short, law true reply, ap length (append-nil (fragment true reply)));
}

-- bytes for which there was memory
pub extended : {E : Type 0} → (r : Result (Unit {0}) E) (out more old : List ℕ) → is_err r ≡ false
    → out ≡ cond (is_ok r) (old ++ more) old → out ≡ old ++ more
extended (Ok u) out more old e h = h
extended (Err f) out more old e h = absurd (true≢false e)
