-- Laws of the run, of an exchange and of a message.
use Rattle.std.specs.Prelude.{◌≡◌, ℕ, List, ◌++◌, Bool}
use Rattle.registry_rows.specs.Rows.{Row}
use Rattle.rpc_engine.specs.Run.{Run}
use Rattle.rpc_engine.specs.DatagramExchange.{MessageCase, IsMessageCase}
use Rattle.rpc_engine.specs.Exchanged.{Outcome, Truncated, IsOutcome}

-- Two runs, the second along the records that follow and from the rows that the first left, are one.
abbrev pub RunsJoin : Type 0
RunsJoin = (rows mid new : List Row) (netid : List ℕ) (rs more : List (List ℕ)) (ys zs : List Bool)
    (replies others : List (List ℕ)) → Run rows netid rs ys mid replies → Run mid netid more zs new others
    → Run rows netid (rs ++ more) (ys ++ zs) new (replies ++ others)

-- No input has two of the cases.
abbrev pub OneOutcome : Type 0
OneOutcome = (xid : ℕ) (input : List ℕ) (o p : Outcome) → IsOutcome xid input o → IsOutcome xid input p → o ≡ p

-- No input has none of them.
abbrev pub SomeOutcome : Type 0
SomeOutcome = (xid : ℕ) (input : List ℕ) → ((o : Outcome) → IsOutcome xid input o → ⊥) → ⊥

-- the input has ended
abbrev pub HasEnded : Outcome → Type 0
HasEnded (Truncated at) = Unit {0}
HasEnded _ = ⊥

-- However an input goes on, its case stays, but for one that has ended.
abbrev pub OutcomesStay : Type 0
OutcomesStay = (xid : ℕ) (input more : List ℕ) (o : Outcome) → (HasEnded o → ⊥) → IsOutcome xid input o
    → IsOutcome xid (input ++ more) o

-- No message has two of the cases.
abbrev pub OneCase : Type 0
OneCase = (xid : ℕ) (message : List ℕ) (o p : MessageCase) → IsMessageCase xid message o → IsMessageCase xid message p
    → o ≡ p

-- No message has none of them.
abbrev pub SomeCase : Type 0
SomeCase = (xid : ℕ) (message : List ℕ) → ((o : MessageCase) → IsMessageCase xid message o → ⊥) → ⊥
