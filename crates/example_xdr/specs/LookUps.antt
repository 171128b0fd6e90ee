-- An enumeration and two unions whose numbers are many and in no order (RFC 4506 sections 4.3, 4.15).
use Rattle.std.specs.Prelude.{ℕ, ℤ, pos, negsuc, List, [], ◌∷◌, Some, None, codes}
use Rattle.xdr_types.specs.Kinds as xdr
use Rattle.xdr_types.specs.Kinds.{KindView, Part, Branch, Constant}
use Rattle.example_xdr.specs.Rfc.{part}

-- a member of an enumeration
abbrev pub member : (name : List ℕ) → (number : ℤ) → Constant
member name number = record { name = name; number = number }

-- an arm under these cases
abbrev pub under : (cases : List ℤ) → Part → Branch
under cases p = record { cases = cases; part = p }

-- ten members, of which RED and OLIVE have one number; GREEN is -2, PINK is -2147483648
abbrev pub colours : List Constant
colours =
    member (codes "RED") (pos 4) ∷ member (codes "GREEN") (negsuc 1) ∷ member (codes "BLUE") (pos 9)
    ∷ member (codes "WHITE") (pos 0) ∷ member (codes "BLACK") (pos 2147483647) ∷ member (codes "GREY") (pos 7)
    ∷ member (codes "PINK") (negsuc 2147483647) ∷ member (codes "BROWN") (pos 12) ∷ member (codes "OLIVE") (pos 4)
    ∷ member (codes "TEAL") (pos 3) ∷ []

-- nine cases, of which one is -4
abbrev pub nine_cases : List ℤ
nine_cases =
    pos 30 ∷ pos 7 ∷ negsuc 3 ∷ pos 12 ∷ pos 100 ∷ pos 2 ∷ pos 55 ∷ pos 0 ∷ pos 41 ∷ []

-- three arms, of which one stands under nine cases and one is void
abbrev pub long_arms : List Branch
long_arms =
    under (pos 20 ∷ []) (part (codes "count") 3) ∷ under nine_cases (part (codes "text") 2)
    ∷ under (pos 3 ∷ pos 1 ∷ []) (part [] 4) ∷ []

-- nine arms under a case each
abbrev pub many_arms : List Branch
many_arms =
    under (pos 9 ∷ []) (part (codes "a") 1) ∷ under (pos 5 ∷ []) (part (codes "b") 2)
    ∷ under (pos 8 ∷ []) (part (codes "c") 3) ∷ under (negsuc 0 ∷ []) (part (codes "d") 2)
    ∷ under (pos 6 ∷ []) (part (codes "e") 1) ∷ under (pos 2 ∷ []) (part [] 4)
    ∷ under (pos 1 ∷ []) (part (codes "g") 3) ∷ under (pos 4 ∷ []) (part (codes "h") 2)
    ∷ under (pos 3 ∷ []) (part (codes "i") 1) ∷ []

-- the enumeration at place 0; the union with a default at place 5, and the one without at place 6
abbrev pub many_numbers : List KindView
many_numbers =
    xdr.numbered colours
    ∷ xdr.int
    ∷ xdr.text 255
    ∷ xdr.hyper
    ∷ xdr.nothing
    ∷ xdr.choice 1 long_arms (Some (part (codes "other") 1))
    ∷ xdr.choice 1 many_arms None
    ∷ []
