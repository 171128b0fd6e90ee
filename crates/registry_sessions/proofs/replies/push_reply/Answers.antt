use Rattle.std.proofs.Common.{◌≡◌, ◌++◌, ◌∷◌, [], ℕ, List, length, true, false, refl, sym, ap, ◌∙◌, arith, append_assoc}
use Rattle.rpc_message.specs.Message.{SystemErr}
use Rattle.rpc_message.specs.Spelling.{reply}
use Rattle.rpc_message.specs.Heads.{accepted}
use Rattle.registry_answer.specs.Views.{netid_of}
use Rattle.registry_sessions.proofs.Marks.{refused_stays, pushes_reply, extended}
use Rattle.registry_sessions.proofs.replies.push_reply.Goals as goal

abbrev zeros : List ℕ
zeros = 0 ∷ 0 ∷ 0 ∷ 0 ∷ []

pub returns-then-is_err-2-clause-rows : goal.returns-then-is_err-2-clause-rows
returns-then-is_err-2-clause-rows g c =
    refused_stays c.refused_rows_stay.ensures c.args.origin.caller c.args.directory.now
    c.append_answer_from.new.directory (netid_of c.args.origin.transport) c.args.message.now _
    c.in-OutOfMemory.ensures.0

pub returns-in-Reply-clause-ok : goal.returns-in-Reply-clause-ok
returns-in-Reply-clause-ok g c =
    let p = c.in-Reply.ensures in
    let old = c.args.out.now.items in
    let front : c.extend_from_slice.new.self.items ≡ old ++ zeros =
    extended c.extend_from_slice.result _ zeros old (sym c.is_err.ensures.value ∙ c.if-is_err.false)
    c.extend_from_slice.ensures.items in
    let len : length old ≡ c.len-before.result = omega (arith, c.len-before.ensures, c.args.out.now.ok.0) in
    pushes_reply c.normal_forms_join.ensures.length c.args.origin c.args.directory.now
    c.append_answer_from.new.directory c.args.message.now old zeros p.0 c.append_answer_from.new.out.items _ false
    c.len-before.result p.1.0
    (p.1.1.added ∙ ap (λ l. l ++ p.0) front ∙ append_assoc old zeros p.0) refl p.1.1.short len c.mark_behind.ensures

pub returns-else-is_err-2-clause-ok : goal.returns-else-is_err-2-clause-ok
returns-else-is_err-2-clause-ok g c =
    let p = c.in-OutOfMemory.ensures in
    let old = c.args.out.now.items in
    let said : List ℕ = reply (accepted c.in-OutOfMemory.xid SystemErr) in
    let front : c.extend_from_slice.new.self.items ≡ old ++ zeros =
    extended c.extend_from_slice.result _ zeros old (sym c.is_err.ensures.value ∙ c.if-is_err.false)
    c.extend_from_slice.ensures.items in
    let behind : c.extend_from_slice-in-OutOfMemory.new.self.items ≡ c.append_answer_from.new.out.items ++ said =
    extended c.extend_from_slice-in-OutOfMemory.result _ c.system_error.result c.append_answer_from.new.out.items
    (sym c.is_err-in-OutOfMemory.ensures.value ∙ c.if-is_err-2.false)
    c.extend_from_slice-in-OutOfMemory.ensures.items
    ∙ ap (λ l. c.append_answer_from.new.out.items ++ l) c.system_error.ensures in
    let len : length old ≡ c.len-before.result = omega (arith, c.len-before.ensures, c.args.out.now.ok.0) in
    let short : length said ≡ 24 = refl in
    pushes_reply c.normal_forms_join.ensures.length c.args.origin c.args.directory.now
    c.append_answer_from.new.directory c.args.message.now old zeros said
    c.extend_from_slice-in-OutOfMemory.new.self.items _ true c.len-before.result p.0
    (behind ∙ ap (λ l. l ++ said) (p.1 ∙ front) ∙ append_assoc old zeros said) refl (omega (arith, short)) len
    c.mark_behind-in-OutOfMemory.ensures
