-- What a call answers, against what is due. An allocation failure may come at any time.
use Rattle.std.specs.Borrow.{Bor}
use Rattle.std.specs.Prelude.{◌≡◌, ℕ, List, map, Result, Ok, Err}
use Rattle.xdr_tokens.specs.declared.fault.Fault.{Fault}
use Rattle.xdr_tokens.specs.declared.fault.Fault.TheVariants as fault

-- the bytes of names
abbrev pub texts : List (Bor (List ℕ)) → List (List ℕ)
texts ns = map (λ n. n.now) ns

-- a refusal is the one that is due
abbrev pub Refuses : {Y : Type 0} → Fault → Result Y Fault → Type 0
Refuses fault.NoMemory due = Unit {0}
Refuses (fault.Refused wrong left) due = due ≡ Err (fault.Refused wrong left)

-- an answer, seen by view, is the one that is due, unless memory ran out
abbrev pub Answers : {X Y : Type 0} → (X → Y) → Result X Fault → Result Y Fault → Type 0
Answers view (Ok x) due = due ≡ Ok (view x)
Answers view (Err e) due = Refuses e due
