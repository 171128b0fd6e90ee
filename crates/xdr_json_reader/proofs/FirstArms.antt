-- Unions whose discriminant tells no arm have no members by name.
use Rattle.std.proofs.Common.{◌≡◌, ℕ, ℤ, List, refl, sym, ap, ◌∙◌, subst, false, Option, None, is_some}
use Rattle.std.proofs.lemmas.Bool.{true≢false}
use Rattle.json.specs.Json as json
use Rattle.json.specs.Json.{Json, Members}
use Rattle.xdr_types.specs.Fits.{part_of}
use Rattle.xdr_types.specs.Kinds as xdr
use Rattle.xdr_types.specs.Kinds.{KindView, Part, Branch, kind_at}
use Rattle.xdr_json.specs.Mapping.{case_key}
use Rattle.xdr_json.specs.Spelled.{has_key, at_key}
use Rattle.xdr_json.proofs.Once.{AreApart, one_tag}
use Rattle.xdr_json_reader.specs.Reasons.{Wrong, TellsTag, WantsNone}
use Rattle.xdr_json_reader.specs.Private.Wanted.{IsLoneWrong}
use Rattle.xdr_json_reader.specs.declared.fault.JsonReason.{JsonReason}
use Rattle.xdr_json_reader.proofs.Groups.{wrong_as}

pub wants_no_case : (kinds : List KindView) (tag : ℕ) (arms : List Branch) (other : Option Part) (ms : Members)
    → has_key ms case_key ≡ false → WantsNone kinds (xdr.choice tag arms other) (json.object ms)
wants_no_case kinds tag arms other ms none = λ ps w. true≢false (sym w.1.named ∙ none)

pub wants_bad_case : (kinds : List KindView) (tag : ℕ) (arms : List Branch) (other : Option Part) (ms : Members)
    → ((z : ℤ) → TellsTag (kind_at kinds tag) ms z → ⊥)
    → WantsNone kinds (xdr.choice tag arms other) (json.object ms)
wants_bad_case kinds tag arms other ms none = λ ps w. none w.1.number w.1.tells

pub wants_no_arm : (kinds : List KindView) → AreApart kinds → (tag : ℕ) (arms : List Branch) (other : Option Part)
    (ms : Members) (z : ℤ) → TellsTag (kind_at kinds tag) ms z → part_of arms other z ≡ None
    → WantsNone kinds (xdr.choice tag arms other) (json.object ms)
wants_no_arm kinds apart tag arms other ms z t none = λ ps w.
    let same : w.1.number ≡ z =
    one_tag (kind_at kinds tag) w.1.number z (at_key ms case_key) (apart tag) w.1.tells.legal t.legal w.1.tells.shown
    t.shown in
    true≢false (ap is_some (sym w.1.is ∙ ap (part_of arms other) same ∙ none))

-- the same of a kind that is known by its place
pub lone_as : (kinds : List KindView) (f g : KindView) (j : Json) (w : JsonReason) → g ≡ f → WantsNone kinds f j
    → Wrong kinds f j w → IsLoneWrong kinds g j w
lone_as kinds f g j w e none wrong =
    (subst (λ (x : KindView). WantsNone kinds x j) (sym e) none, wrong_as kinds f g j j w e refl wrong)
