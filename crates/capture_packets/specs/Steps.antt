-- Rules of headers that apply one after another: the first reason that is met is the answer.
use Rattle.std.specs.Prelude.{◌≡◌, Result, Ok, Err}
use Rattle.capture_packets.specs.declared.reason.Reason.{Reason}

infixl 10 ◌>>=◌
abbrev pub ◌>>=◌ : {A B : Type 0} → Result A Reason → (A → Result B Reason) → Result B Reason
(Ok x) >>= f = f x
(Err e) >>= f = Err e

-- What a function returned, seen by view, is what the rules give.
abbrev pub Reads : {X Y : Type 0} → (X → Y) → Result X Reason → Result Y Reason → Type 0
Reads view (Ok x) read = read ≡ Ok (view x)
Reads view (Err e) read = read ≡ Err e
