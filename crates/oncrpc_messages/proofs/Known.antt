-- Places that are all those of kinds, and a message that is a call.
use Rattle.std.proofs.Common.{◌≡◌, ℕ, ◌<◌, Bool, true, false, List, [], ◌∷◌, length, arith, rules, subst, sym}
use Rattle.std.specs.Prelude.{nat_lt, ◌&&◌, ⊤}
use Rattle.std.specs.List.{list_all}
use Rattle.xdr_types.specs.Kinds.{KindView}
use Rattle.rpc_message.specs.Message.{CallView, CaseView, Whole, OtherVersion, BadCred, BadVerf, NotACall}
use Rattle.oncrpc_messages.specs.Private.Told.{AreKinds}

pub all_known : (kinds : List KindView) (ks : List ℕ) → list_all (λ (k : ℕ). nat_lt k (length kinds)) ks ≡ true
    → AreKinds kinds ks
all_known kinds [] h = tt
all_known kinds (k ∷ ks) h = (grind (arith, h), all_known kinds ks (grind (arith, h)))

-- a case that is a whole call is no other
abbrev pub IsWholeCase : CaseView → Type 0
IsWholeCase (Whole c) = ⊤
IsWholeCase _ = ⊥

pub not_whole : (k : CaseView) (c : CallView) → k ≡ Whole c → IsWholeCase k
not_whole k c e = subst (λ (x : CaseView). IsWholeCase x) (sym e) tt
