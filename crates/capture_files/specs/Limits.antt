-- How much is kept at most.
use Rattle.std.specs.Prelude.{ℕ}

-- the longest packet that is taken
abbrev pub most_packet : ℕ
most_packet = 262144

-- the longest unit that is gathered: the head of an enhanced packet's block, and the longest packet
abbrev pub most_unit : ℕ
most_unit = 262172

-- how many interfaces a section may describe
abbrev pub most_interfaces : ℕ
most_interfaces = 256
