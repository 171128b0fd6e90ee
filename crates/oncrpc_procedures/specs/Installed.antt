-- The programs whose declarations are installed (RFC 1833, RFC 1813, and the public documents of the others).
use Rattle.std.specs.Prelude.{◌≡◌, ◌⊎◌, ℕ, List, [], ◌∷◌, ◌++◌, codes, find, Option, option_map}
use Rattle.xdr_units.specs.Texts.{HasNoDot}
use Rattle.oncrpc_procedures.specs.Meant.{means}

-- a program's number, and the name of the text that declares it
pub record Installed : Type 0 where
  pub number : ℕ
  pub name : List ℕ

abbrev pub installed : List Installed
installed =
    record { number = 100000; name = codes "rpcbind" }
    ∷ record { number = 100003; name = codes "nfs" }
    ∷ record { number = 100004; name = codes "yp" }
    ∷ record { number = 100005; name = codes "mount" }
    ∷ record { number = 100007; name = codes "ypbind" }
    ∷ record { number = 100021; name = codes "nlm" }
    ∷ record { number = 100024; name = codes "nsm" }
    ∷ record { number = 100026; name = codes "bootparam" }
    ∷ []

-- the part is what stands before the first dot of the text, or all of it
abbrev pub IsFirstPart : (part text : List ℕ) → Type 0
IsFirstPart part text = HasNoDot part × ((text ≡ part) ⊎ ((rest : List ℕ) × (text ≡ part ++ 46 ∷ rest)))

-- the text of the program that a part means, by its number or by its name
abbrev pub text_for : (part : List ℕ) → Option (List ℕ)
text_for part = option_map (λ r. r.name) (find (λ r. means part r.name r.number) installed)
