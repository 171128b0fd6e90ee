-- What is found first is what the definitions find.
use Rattle.std.proofs.Common.{◌≡◌, ℕ, List, [], ◌∷◌, ◌++◌, Bool, true, false, cond, Option, None, Some, nat_eq, find}
use Rattle.std.proofs.Common.{if◌then◌else◌, refl, ap, sym, ◌∙◌}
use Rattle.std.specs.List.{filter, flat_map}
use Rattle.std.specs.Option.{option_map, option_or}
use Rattle.std.specs.Str.{bytes_eq}
use Rattle.std.proofs.lemmas.List.Folds.{find-append}
use Rattle.xdr_lang.specs.Declarations.{Program, Version}
use Rattle.oncrpc_procedures.specs.Installed.{Installed}
use Rattle.oncrpc_procedures.specs.Meant.{means}
use Rattle.oncrpc_procedures.specs.Private.Search.{first_called, first_text, first_version, first_version_of}
use Rattle.oncrpc_procedures.specs.Programs.{program_called, version_called}

pub first_called_is : (name : List ℕ) (xs : List Program) → first_called name xs ≡ program_called name xs
unfolding first_called
first_called_is name [] = refl
first_called_is name (x ∷ xs) =
    elim (bytes_eq name x.name) as (λ b. (if b then Some x.number else first_called name xs)
    ≡ option_map (λ (y : Program). y.number)
    (cond b (Some x) (find (λ (y : Program). bytes_eq name y.name) xs))) [
      | true ↦ refl
      | false ↦ first_called_is name xs
    ]

abbrev found : (name : List ℕ) → List Version → Option ℕ
found name vs = option_map (λ (v : Version). v.number) (find (λ (v : Version). bytes_eq name v.name) vs)

first_version_is : (name : List ℕ) (vs : List Version) → first_version name vs ≡ found name vs
unfolding first_version
first_version_is name [] = refl
first_version_is name (v ∷ vs) =
    elim (bytes_eq name v.name) as (λ b. (if b then Some v.number else first_version name vs)
    ≡ option_map (λ (y : Version). y.number)
    (cond b (Some v) (find (λ (y : Version). bytes_eq name y.name) vs))) [
      | true ↦ refl
      | false ↦ first_version_is name vs
    ]

number_or : (a b : Option Version) → option_map (λ (v : Version). v.number) (option_or a b)
    ≡ option_or (option_map (λ (v : Version). v.number) a) (option_map (λ (v : Version). v.number) b)
number_or None b = refl
number_or (Some v) b = refl

pub first_version_of_is : (name : List ℕ) (program : ℕ) (xs : List Program)
    → first_version_of name program xs ≡ version_called name program xs
unfolding first_version_of
first_version_of_is name program [] = refl
first_version_of_is name program (x ∷ xs) =
    let others = filter (λ (y : Program). nat_eq y.number program) xs in
    let rest = flat_map (λ (y : Program). y.versions) others in
    let test = λ (v : Version). bytes_eq name v.name in
    let more = first_version_of_is name program xs in
    elim (nat_eq x.number program) as (λ b. (if b then option_or (first_version name x.versions)
    (first_version_of name program xs) else first_version_of name program xs)
    ≡ found name (flat_map (λ (y : Program). y.versions) (cond b (x ∷ others) others))) [
      | true ↦
          ap (λ (o : Option ℕ). option_or o (first_version_of name program xs)) (first_version_is name x.versions)
          ∙ ap (λ (o : Option ℕ). option_or (found name x.versions) o) more
          ∙ sym (number_or (find test x.versions) (find test rest))
          ∙ ap (option_map (λ (v : Version). v.number)) (sym (find-append test x.versions rest))
      | false ↦ more
    ]

pub first_text_is : (part : List ℕ) (rs : List Installed) → first_text part rs
    ≡ option_map (λ (r : Installed). r.name) (find (λ (r : Installed). means part r.name r.number) rs)
unfolding first_text
first_text_is part [] = refl
first_text_is part (r ∷ rs) =
    elim (means part r.name r.number) as (λ b. (if b then Some r.name else first_text part rs)
    ≡ option_map (λ (y : Installed). y.name)
    (cond b (Some r) (find (λ (y : Installed). means part y.name y.number) rs))) [
      | true ↦ refl
      | false ↦ first_text_is part rs
    ]
