-- The key under which a row stands.
use Rattle.std.specs.Prelude.{ℕ, ◌-◌, List, ◌++◌, length, replicate}
use Rattle.registry_rows.specs.declared.key.Key.{Key}

abbrev pub key_of : ℕ → ℕ → List ℕ → Key
key_of prog vers netid =
    record { prog = prog; vers = vers; name = netid ++ replicate (64 - length netid) 0; len = length netid }
