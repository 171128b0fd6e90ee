-- An exchange over datagrams whose call was sent and to which a datagram came.
use Rattle.std.proofs.Common.{◌≡◌, ℕ, inr, List, [], ◌∷◌, Result, Ok, Err, refl, subst}
use Rattle.rpc_message.specs.declared.message.Reply.{Reply}
use Rattle.rpc_engine.specs.declared.fault.ClientFault.{ClientFault}
use Rattle.rpc_engine.specs.declared.fault.ClientFault.TheVariants as fault
use Rattle.rpc_engine.specs.DatagramExchange.{Replies, ExchangesDatagram}
use Rattle.rpc_engine.specs.Ports.{Reported, Receives, Sends}
use Rattle.rpc_engine.proofs.Ports.{Receives-trans, Sends-trans}

module _ (xid : ℕ) (call given message : List ℕ) (l m n s t u : Reported) (is : given ≡ call)
    (sent : Sends s t (given ∷ [])) (retained : Receives l m []) (received : Receives m n (message ∷ []))
    (unsent : Sends t u []) where
  out : Sends s u (call ∷ [])
  out = Sends-trans s t u (call ∷ []) [] (call ∷ []) refl
      (subst (λ k. Sends s t (k ∷ [])) is sent) unsent

  came : Receives l n (message ∷ [])
  came = Receives-trans l m n [] (message ∷ []) (message ∷ []) refl retained received

  pub exchanged_datagram : (result : Result Reply ClientFault) → Replies xid message result
      → ExchangesDatagram xid call l n s u result
  exchanged_datagram (Ok reply) h = (out, (message, (came, h)))
  exchanged_datagram (Err (fault.WrongXid got)) h = (out, (message, (came, h)))
  exchanged_datagram (Err (fault.Reply f)) h = (out, (message, (came, h)))
  exchanged_datagram (Err fault.NoMemory) h = inr (out, (message, came))
  exchanged_datagram (Err (fault.Record f)) h = absurd h
  exchanged_datagram (Err fault.Read) h = absurd h
  exchanged_datagram (Err (fault.Write written)) h = absurd h
  exchanged_datagram (Err fault.TooManyReads) h = absurd h
