-- A meaning with distinct names, in its parts.
use Rattle.std.proofs.Common.{◌≡◌, ℕ, inl, inr, Bool, true, false, cond, List, [], ◌∷◌, ◌++◌, map}
use Rattle.std.proofs.Common.{Option, Some, None, refl, sym, ap, ◌∙◌}
use Rattle.std.specs.Prelude.{codes}
use Rattle.std.proofs.Common.{Result, Ok, Err, IfOk}
use Rattle.xdr_tokens.specs.declared.fault.Fault.{Fault}
use Rattle.xdr_tokens.specs.declared.fault.Fault.TheVariants as fault
use Rattle.xdr_tokens.specs.Due.{RefusesRightly}
use Rattle.xdr_tokens.proofs.Options.{chosen}
use Rattle.xdr_types.specs.Faults.{IsWellFormed}
use Rattle.xdr_types.specs.Sound.{IsSound}
use Rattle.xdr_grammar.specs.Outline.{Outline, Entry, Field, Program}
use Rattle.xdr_constants.specs.Constants.{Known, numbers}
use Rattle.xdr_lang.specs.Declarations.{Declared}
use Rattle.xdr_lang.specs.Distinct.{has_twice, names_repeat, declared_names}
use Rattle.xdr_lang.specs.Means.{IsMeant}
use Rattle.xdr_lang.specs.Views.{declared_of}
use Rattle.xdr_lang.specs.declared.declarations.Declared.{Declared as Made}
use Rattle.xdr_lang.specs.Meaning.{meaning}
use Rattle.xdr_lang.specs.Private.Meaning.{distinct_meaning, meaning_with}

none_is_not : {A : Type 0} (x : A) → None ≡ Some x → ⊥
none_is_not x e = absurd cc

pub parted : (o : Outline) (d : Declared) → distinct_meaning o ≡ Some d → (has_twice o ≡ false) × (meaning o ≡ Some d)
unfolding distinct_meaning
parted o d e =
    elim (chosen (has_twice o) None (meaning o) (Some d) e) [
      | inl twice ↦ absurd (none_is_not d twice.1)
      | inr once ↦ once
    ]

pub joined : (o : Outline) (d : Declared) → has_twice o ≡ false → meaning o ≡ Some d → distinct_meaning o ≡ Some d
unfolding distinct_meaning
joined o d once e = rw once e

pub found_meant : (o : Outline) (l : Declared) (r : Result Made Fault) → distinct_meaning o ≡ Some l
    → IfOk r (λ v. declared_of v ≡ l) → IfOk r (λ v. IsWellFormed (declared_of v).schema)
    → IfOk r (λ v. IsSound (declared_of v).schema.kinds) → IfOk r (λ v. IsMeant o (declared_of v))
found_meant o l (Ok v) e same wf so =
    let p = parted o l e in
    record { distinct = p.0; meant = p.1 ∙ ap (λ (x : Declared). Some x) (sym same); well_formed = wf; sound = so }
found_meant o l (Err f) e same wf so = tt

-- where something is due, it is refused by an allocation failure alone, and that is reported
pub fails_on : {A : Type 0} (e f : Fault) (due : Option A) (d : A) → due ≡ Some d → RefusesRightly e due
    → (e ≡ fault.NoMemory → f ≡ fault.NoMemory) → RefusesRightly f (Some d)
fails_on fault.NoMemory f due d is h reported = rw (reported refl) tt
fails_on (fault.Refused wrong left) f due d is h reported = absurd (none_is_not d (sym h ∙ is))

-- ---- in the order of the code

none_anyway : {A : Type 0} (b : Bool) (o : Option A) → o ≡ None → cond b None o ≡ None
none_anyway true o e = refl
none_anyway false o e = e

-- where the numbers of constants are refused, there is no meaning
pub no_numbers : (e : Fault) (o : Outline) → RefusesRightly e (numbers o.constants [])
    → RefusesRightly e (distinct_meaning o)
unfolding distinct_meaning meaning
no_numbers fault.NoMemory o r = tt
no_numbers (fault.Refused wrong left) o r = none_anyway (has_twice o) (meaning o) (rw r refl)

-- where no name is there twice, the meaning is that with the constants and types
pub once : (o : Outline) (ks : List Known) (ts : List Field) → numbers o.constants [] ≡ Some ks → ts ≡ o.types
    → has_twice o ≡ false → distinct_meaning o ≡ meaning_with ks ts o
unfolding distinct_meaning meaning meaning_with
once o ks ts e t h = rw (h, e, t) refl

-- the names of what is declared
pub declared_once : (o : Outline) (ns : List (List ℕ)) (ts : List Field) (ps : List Program)
    → ns ≡ map (λ (e : Entry). e.name) o.constants → ts ≡ o.types → ps ≡ o.programs
    → names_repeat (((codes "TRUE" ∷ codes "FALSE" ∷ ns) ++ map (λ (t : Field). t.name) ts)
    ++ map (λ (p : Program). p.name) ps) ≡ false
    → names_repeat (declared_names o) ≡ false
declared_once o ns ts ps a b c h = rw (← a, ← b, ← c) h
