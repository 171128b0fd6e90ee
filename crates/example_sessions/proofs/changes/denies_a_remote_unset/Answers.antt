use Rattle.std.proofs.Common.{refl}
use Rattle.example_sessions.proofs.Denied.{afar_here, an_unset, unset_bytes, unset_spelled, is_denied}
use Rattle.example_sessions.proofs.changes.denies_a_remote_unset.Goals as goal

pub returns-clause-replies : goal.returns-clause-replies
returns-clause-replies g c =
    (is_denied c.remote_is_denied.ensures afar_here refl an_unset unset_bytes unset_spelled refl refl _ _ _ _ _
    c.append_answer_from.result c.append_answer_from.ensures).replies

pub returns-clause-reply : goal.returns-clause-reply
returns-clause-reply g c =
    (is_denied c.remote_is_denied.ensures afar_here refl an_unset unset_bytes unset_spelled refl refl _ _ _ _ _
    c.append_answer_from.result c.append_answer_from.ensures).reply_is

pub returns-clause-rows : goal.returns-clause-rows
returns-clause-rows g c =
    (is_denied c.remote_is_denied.ensures afar_here refl an_unset unset_bytes unset_spelled refl refl _ _ _ _ _
    c.append_answer_from.result c.append_answer_from.ensures).rows_stay
