-- The procedure that is found first is the first that is meant.
use Rattle.std.proofs.Common.{◌≡◌, ℕ, List, [], ◌∷◌, ◌++◌, true, false, cond, Option, None, Some, map}
use Rattle.std.proofs.Common.{refl, ap, sym, ◌∙◌, if◌then◌else◌}
use Rattle.std.specs.List.{filter, flat_map}
use Rattle.std.specs.Option.{option_or}
use Rattle.xdr_lang.specs.Declarations.{Procedure, Program, Version}
use Rattle.oncrpc_procedures.specs.Meant.{Parts, Target, means, targets_of, targets_in, procedures_meant}
use Rattle.oncrpc_procedures.specs.Names.{AreReadable, IsCut, Names}
use Rattle.oncrpc_procedures.specs.Private.Search.{HasNoParts, IsFar, first_in_programs, first_in_versions}
use Rattle.oncrpc_procedures.specs.Private.Search.{first_procedure}
use Rattle.oncrpc_procedures.specs.Unnamed.{NamesNone}
use Rattle.oncrpc_procedures.specs.declared.unnamed.Unnamed.{Unnamed}
use Rattle.oncrpc_procedures.specs.declared.unnamed.Unnamed.TheVariants as unnamed

-- the first of a list
abbrev pub head : {X : Type 0} → List X → Option X
head [] = None
head (x ∷ xs) = Some x

head-append : {X : Type 0} (xs ys : List X) → head (xs ++ ys) ≡ option_or (head xs) (head ys)
head-append [] ys = refl
head-append (x ∷ xs) ys = refl

abbrev target : (program version : ℕ) → Procedure → Target
target program version q = record { program = program; version = version; procedure = q }

first_procedure_is : (p : Parts) (program version : ℕ) (qs : List Procedure) → first_procedure p program version qs
    ≡ head (map (target program version) (filter (λ (q : Procedure). means p.procedure q.name q.number) qs))
unfolding first_procedure
first_procedure_is p program version [] = refl
first_procedure_is p program version (q ∷ qs) =
    let rest = filter (λ (x : Procedure). means p.procedure x.name x.number) qs in
    elim (means p.procedure q.name q.number) as (λ b.
    (if b then Some (target program version q) else first_procedure p program version qs)
    ≡ head (map (target program version) (cond b (q ∷ rest) rest))) [
      | true ↦ refl
      | false ↦ first_procedure_is p program version qs
    ]

first_in_versions_is : (p : Parts) (program : ℕ) (vs : List Version) → first_in_versions p program vs
    ≡ head (flat_map (targets_of p program) (filter (λ (v : Version). means p.version v.name v.number) vs))
unfolding first_in_versions
first_in_versions_is p program [] = refl
first_in_versions_is p program (v ∷ vs) =
    let rest = filter (λ (x : Version). means p.version x.name x.number) vs in
    let more = first_in_versions_is p program vs in
    elim (means p.version v.name v.number) as (λ b.
    (if b then option_or (first_procedure p program v.number v.procedures) (first_in_versions p program vs)
    else first_in_versions p program vs)
    ≡ head (flat_map (targets_of p program) (cond b (v ∷ rest) rest))) [
      | true ↦
          ap (λ (o : Option Target). option_or o (first_in_versions p program vs))
          (first_procedure_is p program v.number v.procedures)
          ∙ ap (λ (o : Option Target). option_or (head (targets_of p program v)) o) more
          ∙ sym (head-append (targets_of p program v) (flat_map (targets_of p program) rest))
      | false ↦ more
    ]

pub first_in_programs_is : (p : Parts) (xs : List Program) → first_in_programs p xs ≡ head (procedures_meant p xs)
unfolding first_in_programs
first_in_programs_is p [] = refl
first_in_programs_is p (x ∷ xs) =
    let rest = filter (λ (y : Program). means p.program y.name y.number) xs in
    let more = first_in_programs_is p xs in
    elim (means p.program x.name x.number) as (λ b.
    (if b then option_or (first_in_versions p x.number x.versions) (first_in_programs p xs)
    else first_in_programs p xs) ≡ head (flat_map (targets_in p) (cond b (x ∷ rest) rest))) [
      | true ↦
          ap (λ (o : Option Target). option_or o (first_in_programs p xs)) (first_in_versions_is p x.number x.versions)
          ∙ ap (λ (o : Option Target). option_or (head (targets_in p x)) o) more
          ∙ sym (head-append (targets_in p x) (flat_map (targets_in p) rest))
      | false ↦ more
    ]

pub head_some : {X : Type 0} (xs : List X) (x : X) → Some x ≡ head xs → (rest : List X) × (xs ≡ x ∷ rest)
head_some [] x e = cc
head_some (y ∷ ys) x e = let same : y ≡ x = cc in (ys, ap (λ z. z ∷ ys) same)

pub head_none : {X : Type 0} (xs : List X) → None ≡ head xs → xs ≡ []
head_none [] e = refl
head_none (x ∷ xs) e = cc

-- what is found is named
pub found_named : (text : List ℕ) (p : Parts) (xs : List Program) (t : Target) → IsCut p text
    → AreReadable p → Some t ≡ first_in_programs p xs → Names text xs t
found_named text p xs t cut readable e =
    let first = head_some (procedures_meant p xs) t (e ∙ first_in_programs_is p xs) in
    record { parts = p; cut = cut; readable = readable; others = first.0; meant = first.1 }

-- where nothing is found, nothing is meant
none_meant : (p : Parts) (xs : List Program) → None ≡ first_in_programs p xs → procedures_meant p xs ≡ []
none_meant p xs e = head_none (procedures_meant p xs) (e ∙ first_in_programs_is p xs)

-- so the text names nothing
pub none_named : (text : List ℕ) (p : Parts) (xs : List Program) (why : Unnamed) → IsCut p text → AreReadable p
    → None ≡ first_in_programs p xs → IsFar p xs why → NamesNone text xs why
none_named text p xs unnamed.NotThreeParts cut readable e far = absurd far
none_named text p xs (unnamed.NotANumber k) cut readable e far = absurd far
none_named text p xs unnamed.NoProgram cut readable e far = (p, cut, (readable, far))
none_named text p xs unnamed.NoVersion cut readable e far = (p, cut, (readable, far.0, far.1))
none_named text p xs unnamed.NoProcedure cut readable e far = (p, cut, (readable, far, none_meant p xs e))

-- neither does a text without three parts that are numbers or names
pub no_parts_named : (text : List ℕ) (xs : List Program) (why : Unnamed) → HasNoParts text why → NamesNone text xs why
no_parts_named text xs unnamed.NotThreeParts none = none
no_parts_named text xs (unnamed.NotANumber k) none = none
no_parts_named text xs unnamed.NoProgram none = absurd none
no_parts_named text xs unnamed.NoVersion none = absurd none
no_parts_named text xs unnamed.NoProcedure none = absurd none
