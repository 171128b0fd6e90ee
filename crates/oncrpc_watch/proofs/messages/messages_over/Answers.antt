use Rattle.std.proofs.Common.{Err, ap, arith, inl, inr, refl, subst, ⊎_elim}
use Rattle.oncrpc_tasks.specs.Sources.{Declares, FileFails, HasNone}
use Rattle.xdr_lang.specs.Views.{declared_of}
use Rattle.oncrpc_watch.specs.Terms.{each_declared}
use Rattle.oncrpc_watch.proofs.Begun.{messages_part}
use Rattle.oncrpc_watch.proofs.Closed.{prints_messages}
use Rattle.oncrpc_watch.proofs.Ended.{ends_failed, ends_unopened, ends_unusable, files_more, printing_fails}
use Rattle.oncrpc_watch.proofs.messages.messages_over.Goals as goal

pub returns-in-Err : goal.returns-in-Err
returns-in-Err g c = ends_unopened _ _ _ _ _ _ _ _ _ _ _ _ c.report.ensures refl c.in-Err.ensures.unopened

pub returns-in-Err-declared : goal.returns-in-Err-declared
returns-in-Err-declared g c = ends_unusable _ _ _ _ _ _ _ _ _ _ c.in-Err-declared.why _
    c.refuse_texts.ensures.status
    (subst (λ r. HasNone r c.args.what.now.types c.in-Err-declared.why) c.replies_of.ensures.same
    c.in-Err-declared.ensures.refused) refl
    (λ e. files_more g.P.Text.Source.left g.P.Text.Source.failures (g.P.Opener.reported c.args.opener.now)
    c.args.what.now.types.files.items (g.P.Opener.failures c.args.opener.now)
    (g.P.Opener.failures c.replies_of.new.opener) (g.P.Opener.failures c.declared.new.opener)
    c.in-Ok.ensures.none_failed
    (subst (λ r. FileFails g.P.Text.Source.left g.P.Text.Source.failures r c.args.what.now.types.files.items
    (g.P.Opener.failures c.replies_of.new.opener) (g.P.Opener.failures c.declared.new.opener))
    c.replies_of.ensures.same (c.in-Err-declared.ensures.failed (ap Err e))))

pub returns-in-Ok-print_by : goal.returns-in-Ok-print_by
returns-in-Ok-print_by g c = record {
  some_status = omega (arith, c.in-Ok-print_by.ensures.few);
  printed = λ x. prints_messages _ _ (g.P.Opener.reported c.args.opener.now) c.args.what.now _ c.in-Ok.other _ _ _ _
      (subst (λ r. Declares r c.args.what.now.types (declared_of c.in-Ok-declared.declared)) c.replies_of.ensures.same
      c.in-Ok-declared.ensures.declares) c.in-Ok.ensures.opened c.in-Ok-print_by.ensures.prints;
  refused = λ two. absurd (omega (arith, two, c.in-Ok-print_by.ensures.few));
  in_part = λ x. absurd (elim x [
    | inl e ↦ omega (arith, e, c.in-Ok-print_by.ensures.few)
    | inr e ↦ omega (arith, e, c.in-Ok-print_by.ensures.few)
  ]);
  device = λ e. absurd (omega (arith, e, c.in-Ok-print_by.ensures.few));
  wanting = λ e. absurd (omega (arith, e, c.in-Ok-print_by.ensures.few));
}

pub returns : goal.returns
returns g c = ends_failed _ _ _ _ _ _ _ _ _ _ c.in-Err-print_by.failure _ c.report-in-Err-print_by.ensures
    (elim c.in-Err-print_by.ensures.part [
      | inl same ↦ inl same
      | inr part ↦ inr (messages_part _ _ (g.P.Opener.reported c.args.opener.now) c.args.what.now _ c.in-Ok.other _ _ _
          (subst (λ r. Declares r c.args.what.now.types (declared_of c.in-Ok-declared.declared))
          c.replies_of.ensures.same c.in-Ok-declared.ensures.declares) c.in-Ok.ensures.opened part)
    ])
    (printing_fails (each_declared c.args.known.texts.now) (g.P.Opener.reported c.args.opener.now) c.args.what.now
    (record {
      left = g.I.Source.left;
      reads = g.I.Source.reads;
      failures = g.I.Source.failures;
      taken = g.O.Sink.taken;
      lost = g.O.Sink.failures;
    })
    (record {
      left = g.P.Text.Source.left;
      reads = g.P.Text.Source.reads;
      failures = g.P.Text.Source.failures;
      taken = g.O.Sink.taken;
      lost = g.O.Sink.failures;
    })
    (g.P.Opener.failures c.args.opener.now) (g.P.Opener.failures c.declared.new.opener) c.args.input
    c.args.output.now c.print_by.new.output c.in-Ok.other c.in-Err-print_by.failure c.in-Ok.ensures.opened refl
    c.in-Err-print_by.ensures.fails)
