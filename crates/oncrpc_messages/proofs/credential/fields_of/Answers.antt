use Rattle.std.proofs.Common.{ℕ, List, [], ◌∷◌, Some, true, ap, subst}
use Rattle.oncrpc_messages.specs.declared.form.Form.TheVariants as form
use Rattle.oncrpc_messages.specs.declared.values.Values.{Values}
use Rattle.oncrpc_messages.specs.Private.Told.{AreTold}
use Rattle.oncrpc_messages.specs.Settings.{settings_of}
use Rattle.oncrpc_messages.proofs.credential.fields_of.Goals as goal

pub returns-in-Shown : goal.returns-in-Shown
returns-in-Shown c =
    let s = settings_of c.args.reading.now.settings.now in
    let told = subst
    (λ (v : Values). AreTold c.args.reading.now.show form.Json s.heads.kinds s.limits true (s.heads.auth_sys ∷ [])
    c.args.cred.body.now v) c.in-Shown.is c.in_ok-text.ensures.told in
    (Some told.0, (c.if-cred-ne-AUTH_SYS.false, told.1), ap (λ (x : List ℕ). Some x) told.2)
