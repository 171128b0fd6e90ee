-- What is made of values is made of a text around what is made of theirs.
use Rattle.std.proofs.Common.{ℕ, List, true, refl, ap, ◌∙◌, subst}
use Rattle.xdr_lang.specs.Views.{places}
use Rattle.oncrpc_messages.specs.declared.show.Show.{Show}
use Rattle.oncrpc_messages.specs.declared.values.Values.{Values}
use Rattle.oncrpc_messages.specs.Bodies.{body_text}
use Rattle.oncrpc_messages.specs.Private.Kept.{kept}
use Rattle.oncrpc_messages.specs.Private.Told.{AreTold}
use Rattle.oncrpc_messages.specs.Settings.{settings_of}
use Rattle.oncrpc_messages.proofs.Kept.{kept_body}
use Rattle.oncrpc_messages.proofs.bodies.body_of.Goals as goal

pub returns-in_ok-values_body-in-Shown : goal.returns-in_ok-values_body-in-Shown
returns-in_ok-values_body-in-Shown c =
    let s = settings_of c.args.reading.now.settings.now in
    let w = c.args.reading.now.show in
    let call = c.args.call in
    let around = λ (x : List ℕ). body_text s.brief s.form call x in
    let told = subst
    (λ (v : Values). AreTold c.values_show.result s.form s.declared.schema.kinds s.limits true
    (places c.in-Some.kinds.now) c.args.bytes.now v) c.in-Shown.is c.in_ok-values.ensures.told in (
      around told.0,
      rw c.in-Some.is (told.0, told.1, refl),
      c.in_ok-values_body-in-Shown.ensures ∙ ap (λ (x : List ℕ). kept w (around x)) c.deref.ensures.value
          ∙ kept_body s.brief w s.form call c.in-Shown.values.items told.0
          (told.2 ∙ ap (λ (x : Show). kept x told.0) c.values_show.ensures),
    )
