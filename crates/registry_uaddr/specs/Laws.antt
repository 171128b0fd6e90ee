-- What holds of universal addresses and their texts.
use Rattle.std.specs.Prelude.{◌≡◌, ℕ, List, Some}
use Rattle.registry_uaddr.specs.declared.address.Uaddr.{Uaddr}
use Rattle.registry_uaddr.specs.Uaddrs.{uaddr_of, uaddr_text, IsUaddr}

-- a text that is read is the text of its address (RFC 5665 section 5.2.3.3)
abbrev pub ReadsOnlyTexts : Type 0
ReadsOnlyTexts = (t : List ℕ) (a : Uaddr) → uaddr_of t ≡ Some a → t ≡ uaddr_text a

-- the text of an address is read as it
abbrev pub ReadsAllTexts : Type 0
ReadsAllTexts = (a : Uaddr) → IsUaddr a → uaddr_of (uaddr_text a) ≡ Some a

-- two addresses with the same text are one address
abbrev pub EachTextIsOneAddress : Type 0
EachTextIsOneAddress = (a b : Uaddr) → IsUaddr a → IsUaddr b → uaddr_text a ≡ uaddr_text b → a ≡ b
