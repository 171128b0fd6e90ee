-- The record of a call of version 3 of RPC, cut in two.
use Rattle.std.proofs.Common.{◌≡◌, ◌⊎◌, inl, inr, ℕ, true, List, [], ◌∷◌, ◌++◌, length, take, drop}
use Rattle.std.proofs.Common.{Option, false, ◌||◌, get_or}
use Rattle.std.proofs.Common.{IfOk, IfErr}
use Rattle.std.proofs.Common.{Some, Result, Ok, Err, refl, sym, ap, ◌∙◌, subst, append_assoc, arith, length-append}
use Rattle.std.proofs.lemmas.List.{append-nil, take-append-drop}
use Rattle.registry_rows.specs.Rows.{Row}
use Rattle.registry_rows.specs.Ports.{tcp}
use Rattle.rpc_record.specs.Marked.{header, fragment, normal, Longest}
use Rattle.rpc_record.proofs.Longest.{Marked-same}
use Rattle.rpc_record.proofs.Streams.{Marked-one}
use Rattle.rpc_message.specs.Spelling.{reply, CallBytes}
use Rattle.rpc_engine.specs.Run.{listed}
use Rattle.rpc_engine.specs.Served.{most_record}
use Rattle.rpc_message.specs.Message.{CallView}
use Rattle.registry_callers.specs.Asking.{is_change, is_look_up}
use Rattle.registry_callers.specs.From.{AnswerFrom}
use Rattle.registry_callers.specs.Laws.{OthersAreAsEver}
use Rattle.registry_answer.specs.Laws.{OneAnswer}
use Rattle.registry_answer.specs.Views.{netid_of}
use Rattle.registry_sessions.specs.declared.fault.SessionFault.{SessionFault}
use Rattle.registry_sessions.specs.declared.fault.Taken.{Taken}
use Rattle.registry_sessions.specs.declared.fault.Taken.TheVariants as taken
use Rattle.registry_sessions.specs.declared.session.Session.{Session}
use Rattle.registry_sessions.specs.Represents.{HasRead, Holds, Takes, Breaks, origin_of, output_of}
use Rattle.example_sessions.proofs.Replies.{version_3, mismatch, refusal, mismatched}

abbrev pub first_piece : List ℕ
first_piece = 128 ∷ 0 ∷ 0 ∷ 12 ∷ 0 ∷ 0 ∷ 0 ∷ 2 ∷ 0 ∷ 0 ∷ []

abbrev pub second_piece : List ℕ
second_piece = 0 ∷ 0 ∷ 0 ∷ 0 ∷ 0 ∷ 3 ∷ []

abbrev pub both : List ℕ
both = 128 ∷ 0 ∷ 0 ∷ 12 ∷ version_3

-- the two pieces are the record
is_record : fragment true version_3 ≡ both
unfolding header
is_record = refl

abbrev pub mismatch_bytes : List ℕ
mismatch_bytes = 128 ∷ 0 ∷ 0 ∷ 24 ∷ reply mismatch

abbrev pub refusal_bytes : List ℕ
refusal_bytes = 128 ∷ 0 ∷ 0 ∷ 24 ∷ reply refusal

marked_mismatch : fragment true (reply mismatch) ≡ mismatch_bytes
unfolding header
marked_mismatch = refl

marked_refusal : fragment true (reply refusal) ≡ refusal_bytes
unfolding header
marked_refusal = refl

-- the one record at the front of these bytes is that call, and none of the bytes are more
only_record : (m bytes rest : List ℕ) → Longest most_record (m ∷ []) bytes → bytes ++ rest ≡ both
    → (m ≡ version_3) × (rest ≡ [])
only_record m bytes rest h e =
    let front = h.stream.0 in
    let after = h.stream.1.0 in
    let tail = after ++ (h.part ++ rest) in
    let joined : front ++ tail ≡ fragment true version_3 ++ [] =
    sym (append_assoc front after (h.part ++ rest)) ∙ ap (λ x. x ++ (h.part ++ rest)) (sym h.stream.1.1.2)
    ∙ sym (append_assoc h.whole h.part rest) ∙ ap (λ x. x ++ rest) (sym h.spelled) ∙ e ∙ sym is_record
    ∙ sym (append-nil (fragment true version_3)) in
    let same = Marked-same m version_3 front (fragment true version_3) tail [] h.stream.1.1.0
    (Marked-one version_3 (omega arith)) joined in
    (same.0, no_rest (ap length same.1))
  where
    no_rest : length (h.stream.1.0 ++ (h.part ++ rest)) ≡ 0 → rest ≡ []
    no_rest k = empty rest (omega (
      arith,
      k,
      length-append h.stream.1.0 (h.part ++ rest),
      length-append h.part rest,
    ))
      where
        empty : (xs : List ℕ) → length xs ≡ 0 → xs ≡ []
        empty [] z = refl
        empty (x ∷ xs) z = absurd (omega (arith, z))

-- a call of version 3 of RPC is none of version 2
no_call : (c : CallView) → CallBytes c version_3 → (is_change c || is_look_up c) ≡ false
no_call c h = let f : 3 ≡ 2 = ap (λ (l : List ℕ). get_or l 11 0) h.parts in absurd (omega (arith, f))

module _ (one : OneAnswer) (others : OthersAreAsEver) (start next last : Session) (rows mid after : List Row) where
  -- the record is whole with the second piece, and it is answered
  pub answered : (used : ℕ) → netid_of (origin_of next).transport ≡ tcp → HasRead start [] [] → Holds start [] 0
      → Takes start next rows mid first_piece taken.More
      → Takes next last mid after second_piece (taken.Answered used)
      → ((bytes : List ℕ) (rs : List (List ℕ)) → HasRead last bytes rs → Longest most_record rs bytes)
      → (after ≡ rows) × ((output_of last ≡ mismatch_bytes) ⊎ (output_of last ≡ refusal_bytes))
  answered used over read held first second longest =
      let a = second.2 in
      let bytes = first_piece ++ take used second_piece in
      let whole : HasRead last bytes (a.message ∷ []) = a.reads first_piece [] (first.1 [] [] read) in
      let waits : Holds last (listed a.sent) 0 = a.replies [] 0 (first.2 [] 0 held) in
      let joined : bytes ++ drop used second_piece ≡ both =
      append_assoc first_piece (take used second_piece) (drop used second_piece)
      ∙ ap (λ x. first_piece ++ x) (take-append-drop used second_piece) in
      let is_call = (only_record a.message bytes (drop used second_piece) (longest bytes (a.message ∷ []) whole)
      joined).0 in
      let said = mismatched one mid after a.refused a.sent
      (others (origin_of next).caller mid after tcp version_3 a.refused a.sent no_call
      (subst (λ m. AnswerFrom (origin_of next).caller mid tcp m a.refused after a.sent) is_call
      (subst (λ (n : List ℕ). AnswerFrom (origin_of next).caller mid n a.message a.refused after a.sent) over
      a.answer))) in
      (said.0 ∙ first.0, by a.sent waits.waits said.1)
    where
      by : (sent : Option (List ℕ)) → output_of last ≡ normal (listed sent)
          → (sent ≡ Some (reply mismatch)) ⊎ (sent ≡ Some (reply refusal))
          → (output_of last ≡ mismatch_bytes) ⊎ (output_of last ≡ refusal_bytes)
      by sent e (inl is) = inl (e ∙ ap (λ s. normal (listed s)) is ∙ append-nil (fragment true (reply mismatch))
          ∙ marked_mismatch)
      by sent e (inr is) = inr (e ∙ ap (λ s. normal (listed s)) is ∙ append-nil (fragment true (reply refusal))
          ∙ marked_refusal)

-- what an answer says that is known
pub takes_at : (old new : Session) (rows after : List Row) (piece : List ℕ) (result : Result Taken SessionFault)
    (t : Taken) → result ≡ Ok t → IfOk result (λ k. Takes old new rows after piece k)
    → Takes old new rows after piece t
takes_at old new rows after piece result t e h = subst (λ r. IfOk r (λ k. Takes old new rows after piece k)) e h

-- half a record is none
pub half : (start last : Session) (rows after : List Row) → HasRead start [] []
    → ((bytes : List ℕ) (rs : List (List ℕ)) → HasRead last bytes rs → Longest most_record rs bytes)
    → (result : Result Taken SessionFault) → IfOk result (λ t. Takes start last rows after first_piece t)
    → IfErr result (λ f. Breaks start last rows after first_piece f) → after ≡ rows
half start last rows after read longest (Err f) takes breaks = breaks.same_rows
half start last rows after read longest (Ok taken.More) takes breaks = takes.0
half start last rows after read longest (Ok taken.Full) takes breaks = takes.0
half start last rows after read longest (Ok (taken.Answered used)) takes breaks =
    let a = takes.2 in
    let whole : HasRead last (take used first_piece) (a.message ∷ []) = a.reads [] [] read in
    let rest = drop used first_piece ++ second_piece in
    let joined : take used first_piece ++ rest ≡ both =
    sym (append_assoc (take used first_piece) (drop used first_piece) second_piece)
    ∙ ap (λ x. x ++ second_piece) (take-append-drop used first_piece) in
    let none = (only_record a.message (take used first_piece) rest
    (longest (take used first_piece) (a.message ∷ []) whole) joined).1 in
    absurd (omega (arith, ap length none, length-append (drop used first_piece) second_piece))
