-- What a receive and a send do to the datagrams and the counts that a port reports.
use Rattle.std.specs.Prelude.{◌≡◌, ℕ, List, [], ◌∷◌, ◌++◌, take, drop, map, ⊤, None, Some, Ok, Err, Option, Result}
use Rattle.std.specs.Borrow.{Bor}

-- datagrams, where they are reported
abbrev pub Reported : Type 0
Reported = Option (List (List ℕ))

-- The datagrams that are left lose these at their front.
abbrev pub Receives : Reported → Reported → List (List ℕ) → Type 0
Receives None new ds = ⊤
Receives (Some all) None ds = ⊥
Receives (Some all) (Some rest) ds = all ≡ ds ++ rest

-- The datagrams that were sent gain these at their end.
abbrev pub Sends : Reported → Reported → List (List ℕ) → Type 0
Sends None new ds = ⊤
Sends (Some before) None ds = ⊥
Sends (Some before) (Some all) ds = all ≡ before ++ ds

-- Ok(n) receives the next datagram, the first n bytes of the array. An Err receives none.
abbrev pub ReceiveMoves : {E : Type 0} → Reported → Reported → Result ℕ E → List ℕ → Type 0
ReceiveMoves old new (Ok n) array = Receives old new (take n array ∷ [])
ReceiveMoves old new (Err e) array = Receives old new []

-- Ok sends the datagram whole. An Err sends none.
abbrev pub SendMoves : {T E : Type 0} → Reported → Reported → Result T E → List ℕ → Type 0
SendMoves old new (Ok u) datagram = Sends old new (datagram ∷ [])
SendMoves old new (Err e) datagram = Sends old new []

-- an Err is a failed call
abbrev pub failures_of : {T E : Type 0} → Result T E → ℕ
failures_of (Ok x) = 0
failures_of (Err e) = 1

-- the most bytes of a datagram that are received
abbrev pub most_received : ℕ
most_received = 65536

-- what is received of lent datagrams from this place on
abbrev pub received_from : (next : ℕ) → (datagrams : List (Bor (List ℕ))) → List (List ℕ)
received_from next datagrams = map (λ d. take most_received d.now) (drop next datagrams)

-- bytes cut into pieces of these sizes
abbrev pub pieces : (sizes : List ℕ) → (bytes : List ℕ) → List (List ℕ)
pieces [] bytes = []
pieces (n ∷ ns) bytes = take n bytes ∷ pieces ns (drop n bytes)
