-- What a listener tells of its clients: those that wait, and those that it has served.
use Rattle.std.specs.Prelude.{◌≡◌, ℕ, List, [], ◌∷◌, ◌++◌, Option, None, Some, ⊤}

-- What the clients that wait send, and what went to those whose connections have ended, of each client all of it.
pub record Clients : Type 0 where
  pub waiting : Option (List (List ℕ))
  pub sent : Option (List (List ℕ))

-- the same by what waits and what was sent
abbrev pub clients_of : (waiting sent : Option (List (List ℕ))) → Clients
clients_of waiting sent = record { waiting = waiting; sent = sent }

-- The next of the connections that wait was handed out, with what its client sends.
abbrev pub Arrives : (waiting waiting' : Option (List (List ℕ))) → (sends : Option (List ℕ)) → Type 0
Arrives None waiting' sends = ⊤
Arrives (Some []) waiting' sends = ⊥
Arrives (Some (c ∷ cs)) waiting' sends = (waiting' ≡ Some cs) × (sends ≡ Some c)

-- Nothing went yet to a client. Where a listener tells what went to its clients, so does the writer to each of them.
abbrev pub IsFresh : (sent : Option (List (List ℕ))) → (went : Option (List ℕ)) → Type 0
IsFresh sent (Some bytes) = bytes ≡ []
IsFresh None None = ⊤
IsFresh (Some all) None = ⊥

-- One more connection has ended, and this is all that went to its client.
abbrev pub Leaves : (sent sent' : Option (List (List ℕ))) → (went : Option (List ℕ)) → Type 0
Leaves None sent' went = ⊤
Leaves (Some all) sent' None = ⊥
Leaves (Some all) sent' (Some bytes) = sent' ≡ Some (all ++ bytes ∷ [])
