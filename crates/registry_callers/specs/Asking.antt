-- Which calls change rows, and which look addresses up (RFC 1833 sections 2.2.1 and 3.2).
use Rattle.std.specs.Prelude.{Bool, ◌&&◌, ◌||◌, nat_eq, nat_le}
use Rattle.rpc_message.specs.Message.{CallView}
use Rattle.registry_rows.specs.Program.{program, lowest_version, highest_version}

-- a call of the registry, in one of its versions (RFC 1833 sections 2 and 3)
abbrev pub is_registry : CallView → Bool
is_registry c = nat_eq c.prog program && (nat_le lowest_version c.vers && nat_le c.vers highest_version)

-- SET, procedure 1 of each version (RFC 1833 sections 2.2.1 and 3.2)
abbrev pub is_set : CallView → Bool
is_set c = is_registry c && nat_eq c.proc 1

-- SET, and UNSET, procedure 2 of each version (RFC 1833 sections 2.2.1 and 3.2)
abbrev pub is_change : CallView → Bool
is_change c = is_registry c && (nat_eq c.proc 1 || nat_eq c.proc 2)

-- GETADDR, procedure 3 of versions 3 and 4, and GETVERSADDR, procedure 9 of version 4 (RFC 1833 section 2.2.1)
abbrev pub is_look_up : CallView → Bool
is_look_up c =
    nat_eq c.prog program
    && ((nat_eq c.vers 3 && nat_eq c.proc 3) || (nat_eq c.vers 4 && (nat_eq c.proc 3 || nat_eq c.proc 9)))
