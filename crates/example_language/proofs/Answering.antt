-- What an answer is where it is known what is due.
use Rattle.std.proofs.Common.{◌≡◌, ◌≢◌, ℕ, List, Result, Ok, Err, Vec, Global, IfOk, IfErr, OnOk, refl}
use Rattle.xdr_tokens.specs.declared.fault.Fault.{Fault}
use Rattle.xdr_tokens.specs.declared.fault.Fault.TheVariants as fault
use Rattle.xdr_dialect.specs.Answers.{Answers}

-- bytes
abbrev IsAnswer : Result (Vec ℕ Global) Fault → Result (List ℕ) Fault → Type 0
IsAnswer r due = Answers (λ (v : Vec ℕ Global). v.items) r due

pub answered : (due : Result (List ℕ) Fault) (bs : List ℕ) (r : Result (Vec ℕ Global) Fault) → due ≡ Ok bs
    → IsAnswer r due → IfOk r (λ v. v.items ≡ bs)
answered due bs (Ok v) is a = cc
answered due bs (Err e) is a = tt

pub memory_alone : (due : Result (List ℕ) Fault) (bs : List ℕ) (r : Result (Vec ℕ Global) Fault)
    → due ≡ Ok bs → IsAnswer r due → IfErr r (λ e. e ≡ fault.NoMemory)
memory_alone due bs (Ok v) is a = tt
memory_alone due bs (Err fault.NoMemory) is a = refl
memory_alone due bs (Err (fault.Refused w l)) is a = absurd cc

pub refused : (due : Result (List ℕ) Fault) (f : Fault) (r : Result (Vec ℕ Global) Fault) → due ≡ Err f
    → IsAnswer r due → OnOk r ⊥
refused due f (Ok v) is a = absurd cc
refused due f (Err e) is a = tt

pub placed_fault : (due : Result (List ℕ) Fault) (f : Fault) (r : Result (Vec ℕ Global) Fault)
    → due ≡ Err f → IsAnswer r due → IfErr r (λ e. e ≢ fault.NoMemory → e ≡ f)
placed_fault due f (Ok v) is a = tt
placed_fault due f (Err fault.NoMemory) is a = λ no. absurd (no refl)
placed_fault due f (Err (fault.Refused w l)) is a = λ no. cc
