-- What a page says of an answer.
use Rattle.std.specs.Prelude.{◌≡◌, ℕ, ◌≤◌, List, length, take, Result}
use Rattle.xdr_types.specs.Tree.{Tree}
use Rattle.xdr_types.specs.Spelling.{bytes_of}
use Rattle.xdr_types.specs.Within.{FitsWithin}
use Rattle.rpc_message.specs.declared.message.Reply.{Reply}
use Rattle.rpc_message.specs.Message.{ReplyView, StatusView}
use Rattle.rpc_engine.specs.declared.fault.ClientFault.{ClientFault}
use Rattle.oncrpc_call.specs.Asked.{Wanted}
use Rattle.oncrpc_call.specs.Replies.{Refuses, RefusesReply, RefusesStatus, Shows, ShowsReply, ShowsStatus}
use Rattle.oncrpc_call.specs.Results.{RefusesResults, ShowsResults}
use Rattle.oncrpc_call.specs.declared.page.Page.{Page}
use Rattle.oncrpc_call.specs.declared.page.Page.TheVariants as page

-- the results begin with a value of the kind within the limits, of so many bytes
pub record Begins (w : Wanted) (results : List ℕ) (used : ℕ) : Type 0 where
  pub value : Tree
  pub fits : FitsWithin w.kinds w.place w.limits value
  pub within : used ≤ length results
  pub spelled : bytes_of w.kinds w.place value ≡ take used results

-- it is this refusal
abbrev pub IsRefusal : (line : List ℕ) → Page → Type 0
IsRefusal line (page.Value text) = ⊥
IsRefusal line (page.Refusal said) = said.items ≡ line

-- the value of results, or the line of why they are none
abbrev pub TellsResults : Wanted → (results : List ℕ) → Page → Type 0
TellsResults w results (page.Value text) = ShowsResults w results text.items
TellsResults w results (page.Refusal line) = RefusesResults w results line.items

-- what an accepted call came to
abbrev pub TellsStatus : Wanted → StatusView → Page → Type 0
TellsStatus w s (page.Value text) = ShowsStatus w s text.items
TellsStatus w s (page.Refusal line) = RefusesStatus w s line.items

-- a reply
abbrev pub TellsReply : Wanted → ReplyView → Page → Type 0
TellsReply w r (page.Value text) = ShowsReply w r text.items
TellsReply w r (page.Refusal line) = RefusesReply w r line.items

-- any answer
abbrev pub Tells : Wanted → Result Reply ClientFault → Page → Type 0
Tells w answer (page.Value text) = Shows w answer text.items
Tells w answer (page.Refusal line) = Refuses w answer line.items
