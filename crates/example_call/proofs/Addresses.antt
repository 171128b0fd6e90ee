-- What registries tell by the texts of addresses and by a number.
use Rattle.std.proofs.Common.{◌≡◌, ℕ, List, [], ◌∷◌, ◌++◌, codes, refl, inl, inr, arith, sym}
use Rattle.std.specs.Fmt.{digits}
use Rattle.std.specs.Net.Addr.{ipv6_segments}
use Rattle.std.specs.Net.Grammar.{IsElided, IsIpv6Text}
use Rattle.std.specs.declared.net.ipv6_addr.Ipv6Addr.{Ipv6Addr}
use Rattle.oncrpc_call.specs.Ports.{TellsPort}
use Rattle.oncrpc_call.specs.declared.transport.Transport.TheVariants as over

-- the address ::1 is written as `::1`
loopback : (a : Ipv6Addr) → ipv6_segments a ≡ 0 ∷ 0 ∷ 0 ∷ 0 ∷ 0 ∷ 0 ∷ 0 ∷ 1 ∷ [] → IsIpv6Text (codes "::1") a
loopback a is = inr (record {
  head_text = [];
  tail_text = codes "1";
  head = [];
  tail = 1 ∷ [];
  spelled = refl;
  head_groups = refl;
  tail_groups = inl (codes "1", [], refl, (((omega arith, (omega arith, tt)), refl), omega arith), refl);
  room = omega arith;
  value = is;
})

pub over_ipv6 : (a : Ipv6Addr) → ipv6_segments a ≡ 0 ∷ 0 ∷ 0 ∷ 0 ∷ 0 ∷ 0 ∷ 0 ∷ 1 ∷ []
    → TellsPort 4 over.Tcp6 (0 ∷ 0 ∷ 0 ∷ 7 ∷ codes "::1.8.1" ++ 0 ∷ []) 2049
unfolding digits
over_ipv6 a is = record {
  some = omega arith;
  told = record {
    text = codes "::1.8.1";
    more = [];
    short = omega arith;
    begins = refl;
    address = record {
      host = a;
      written = codes "::1";
      spells = loopback a is;
      small = omega arith;
      whole = refl;
    };
  };
}

pub over_ipv4 : TellsPort 3 over.Udp (0 ∷ 0 ∷ 0 ∷ 13 ∷ codes "127.0.0.1.8.1" ++ 0 ∷ 0 ∷ 0 ∷ []) 2049
unfolding digits
over_ipv4 = record {
  some = omega arith;
  told = record {
    text = codes "127.0.0.1.8.1";
    more = [];
    short = omega arith;
    begins = refl;
    address = refl;
  };
}

pub as_a_number : TellsPort 2 over.Udp (0 ∷ 0 ∷ 8 ∷ 1 ∷ []) 2049
as_a_number = record {
  some = omega arith;
  told = record { more = []; small = omega arith; begins = refl };
}
