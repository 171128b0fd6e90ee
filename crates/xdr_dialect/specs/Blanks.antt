-- What stands between the words of a line of #, and where such a line ends (own, after the C preprocessor).
use Rattle.std.specs.Prelude.{ℕ, ◌==◌, ◌&&◌, ◌||◌, not, Bool, true, false, List, [], ◌∷◌, if◌then◌else◌}
use Rattle.xdr_dialect.specs.declared.part.Part.{Part}
use Rattle.xdr_dialect.specs.declared.part.Part.TheVariants as part
use Rattle.xdr_dialect.specs.declared.spot.Spot.{Spot}
use Rattle.xdr_dialect.specs.declared.spot.Spot.TheVariants as spot
use Rattle.xdr_dialect.specs.Spots.{is_remark, next_part, next_spot, is_line, is_line_remark}

-- this byte is in front
abbrev pub begins : (wanted : ℕ) → List ℕ → Bool
begins wanted [] = false
begins wanted (b ∷ bs) = b == wanted

-- b stands between words, before bs: it is a space or a tab, or in a comment
abbrev pub is_between : Part → ℕ → List ℕ → Bool
is_between p b bs = is_remark p || (b == 32) || (b == 9) || (b == 47) && begins 42 bs

-- what follows spaces, tabs and comments, from such a place on
unfoldable pub after_blanks_from : Part → List ℕ → List ℕ
after_blanks_from p [] = []
after_blanks_from p (b ∷ bs) = if is_between p b bs then after_blanks_from (next_part p b) bs else b ∷ bs

-- what follows spaces, tabs and comments
abbrev pub after_blanks : List ℕ → List ℕ
after_blanks bs = after_blanks_from part.Words bs

-- the line ends here, or // begins what the preprocessor passes over
abbrev pub ends : List ℕ → Bool
ends [] = true
ends (b ∷ bs) = (b == 10) || (b == 13) || (b == 47) && begins 47 bs

-- each comment of the rest of a line ends
unfoldable pub closes_from : Spot → List ℕ → Bool
closes_from s [] = not (is_line_remark s)
closes_from s (b ∷ bs) = if is_line (next_spot s b) then closes_from (next_spot s b) bs else true

-- each comment of a line of # ends, from what follows the #
abbrev pub closes : List ℕ → Bool
closes bs = closes_from (spot.Line part.Words) bs
