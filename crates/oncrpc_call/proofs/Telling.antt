-- A page of results, as one of the reply that has them.
use Rattle.std.proofs.Common.{◌≡◌, ℕ, List, Result, Vec, subst}
use Rattle.std.specs.declared.alloc.Global.{Global}
use Rattle.rpc_message.specs.declared.message.Reply.{Reply}
use Rattle.rpc_engine.specs.declared.fault.ClientFault.{ClientFault}
use Rattle.rpc_message.specs.Message.{AuthView, StatusView, Accepted, Success}
use Rattle.oncrpc_call.specs.Asked.{Wanted}
use Rattle.oncrpc_call.specs.Private.Told.{Tells, TellsReply, TellsResults, TellsStatus}
use Rattle.oncrpc_call.specs.Replies.{Refuses, Shows}
use Rattle.oncrpc_call.specs.declared.page.Page.{Page}
use Rattle.oncrpc_call.specs.declared.page.Page.TheVariants as page

pub of_success : (w : Wanted) (results : List ℕ) (p : Page) → TellsResults w results p
    → TellsStatus w (Success results) p
of_success w results (page.Value text) told = told
of_success w results (page.Refusal line) told = told

pub of_accepted : (w : Wanted) (xid : ℕ) (verf : AuthView) (s : StatusView) (p : Page) → TellsStatus w s p
    → TellsReply w (Accepted xid verf s) p
of_accepted w xid verf s (page.Value text) told = told
of_accepted w xid verf s (page.Refusal line) told = told

module _ (w : Wanted) (answer : Result Reply ClientFault) (p : Page) (told : Tells w answer p) where
  pub value_shown : (text : Vec ℕ Global) → p ≡ page.Value text → Shows w answer text.items
  value_shown text is = subst (λ (q : Page). Tells w answer q) is told

  pub refusal_told : (line : Vec ℕ Global) → p ≡ page.Refusal line → Refuses w answer line.items
  refusal_told line is = subst (λ (q : Page). Tells w answer q) is told
