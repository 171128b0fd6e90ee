-- What is left of AUTH_SYS where only the uid is wanted: a step between the code and what the public contracts say, and
-- none of them names it.
use Rattle.std.specs.Prelude.{ℕ, List, Result, Ok}
use Rattle.rpc_message.specs.declared.fault.ReplyFault.{ReplyFault}
use Rattle.rpc_message.specs.Private.Reading.{◌>>=◌, words_at, gids_at, auth_sys_at}

-- the bytes after what was read
abbrev pub behind : {A : Type 0} → Result (A × List ℕ) ReplyFault → Result (List ℕ) ReplyFault
behind read = read >>= λ x. Ok x.1

-- what follows so many words
abbrev pub behind_words : ℕ → List ℕ → Result (List ℕ) ReplyFault
behind_words n bytes = behind (words_at n bytes)

-- that the gids end the bytes
abbrev pub gids_passed : List ℕ → Result (Unit {0}) ReplyFault
gids_passed bytes = gids_at bytes >>= λ gids. Ok tt

abbrev pub uid_at : List ℕ → Result ℕ ReplyFault
uid_at bytes = auth_sys_at bytes >>= λ a. Ok a.uid
