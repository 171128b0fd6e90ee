-- Tokens without names that stand for numbers stay what they are.
use Rattle.std.proofs.Common.{◌≡◌, Bool, true, false, List, [], ◌∷◌, refl, ap}
use Rattle.std.specs.Prelude.{◌&&◌, not}
use Rattle.xdr_tokens.specs.declared.token.Mark.TheVariants as mark
use Rattle.xdr_tokens.specs.Tokens.{Lexeme, Word, Name, Number, Sign}
use Rattle.xdr_constants.specs.Constants.{Known}
use Rattle.xdr_dialect.specs.Tests.{is_sign, is_name, first_is}
use Rattle.xdr_aliases.specs.Aliases.{valued, resolved_from, given, apart, followed_one, followed, has_clash}
use Rattle.xdr_aliases.specs.Laws.{HasNoAlias, AliasesStay}

one_stays : (ks : List Known) (value : Bool) (t : Lexeme) (ts : List Lexeme)
    → (value && is_name t && first_is (is_sign mark.Semicolon) ts) ≡ false → valued ks value t ts ≡ t
one_stays ks value (Word w) ts h = refl
one_stays ks false (Name n) ts h = refl
one_stays ks true (Name n) ts h = rw h refl
one_stays ks value (Number n) ts h = refl
one_stays ks value (Sign m) ts h = refl

all_stay : (f : Bool) (ks : List Known) (value : Bool) (ts : List Lexeme) → HasNoAlias value ts
    → resolved_from f ks value ts ≡ ts
unfolding resolved_from HasNoAlias
all_stay f ks value [] h = refl
all_stay f ks value (t ∷ ts) h =
    rw (one_stays ks value t ts h.0)
    (ap (λ (l : List Lexeme). t ∷ l) (all_stay f (followed_one f ks t ts) (is_sign mark.Equal t) ts h.1))

pub aliases_stay : AliasesStay
aliases_stay ts h = all_stay (not (has_clash (followed true (apart (given ts)) ts))) (apart (given ts)) false ts h
