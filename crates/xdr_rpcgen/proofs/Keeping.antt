-- A text without a construct of the dialect means there what it means.
use Rattle.std.proofs.Common.{◌≡◌, ℕ, false, List, [], ◌++◌, Ok, sym, ap, subst, ◌∙◌}
use Rattle.xdr_tokens.specs.Tokens.{Lexeme}
use Rattle.xdr_tokens.specs.Text.{Tokens}
use Rattle.xdr_lang.specs.Declarations.{Declared}
use Rattle.xdr_lang.specs.Means.{Means}
use Rattle.xdr_lang.specs.OfTokens.{TokensMean}
use Rattle.xdr_dialect.specs.declared.scope.Scope.TheVariants as scope
use Rattle.xdr_dialect.specs.Laws.{HasNone}
use Rattle.xdr_dialect.specs.Library.{library}
use Rattle.xdr_dialect.specs.Dialect.{meant}
use Rattle.xdr_dialect.specs.Plain.{plain}
use Rattle.xdr_dialect.proofs.Staying.{texts_stay}
use Rattle.xdr_dialect.proofs.Same.{tokens_stay}
use Rattle.xdr_aliases.specs.Aliases.{resolved}
use Rattle.xdr_aliases.specs.Laws.{HasNoAlias}
use Rattle.xdr_aliases.proofs.Staying.{aliases_stay}
use Rattle.xdr_rpcgen.specs.DialectMeans.{DialectMeans}
use Rattle.xdr_rpcgen.specs.Laws.{HasNoConstruct, KeepsMeanings}

-- tokens without a construct are those that are meant
meant_same : (ts : List Lexeme) → HasNone scope.Elsewhere ts → library ts ≡ [] → meant ts ≡ ts
meant_same ts none lib =
    let same = tokens_stay ts none in
    ap (λ (l : List Lexeme). library l ++ l) same ∙ ap (λ (l : List Lexeme). l ++ ts) lib

-- with numbers in place of names, too
resolved_same : (ts : List Lexeme) → HasNone scope.Elsewhere ts → library ts ≡ [] → HasNoAlias false ts
    → resolved (meant ts) ≡ ts
resolved_same ts none lib named = ap resolved (meant_same ts none lib) ∙ aliases_stay ts named

forth : (names : List (List ℕ)) (text : List ℕ) (d : Declared) → HasNoConstruct text → Means text d
    → DialectMeans names text d
forth names text d none m =
    let of = none m.tokens m.cut in
    record {
      short = m.short;
      plain = text;
      without = texts_stay names text m.tokens m.cut;
      means = record {
        tokens = m.tokens;
        cut = m.cut;
        means = subst (λ (ts : List Lexeme). TokensMean ts d) (sym (resolved_same m.tokens of.0 of.1 of.2))
            (record { outline = m.outline; spelled = m.spelled; meant = m.meant });
      };
    }

same_text : (names : List (List ℕ)) (text : List ℕ) (bs : List ℕ) → plain names text ≡ Ok text
    → plain names text ≡ Ok bs → bs ≡ text
same_text names text bs stays is = cc

back : (names : List (List ℕ)) (text : List ℕ) (d : Declared) (ts : List Lexeme) → HasNoConstruct text → Tokens text ts
    → DialectMeans names text d → Means text d
back names text d ts none t m =
    let same = same_text names text m.plain (texts_stay names text ts t) m.without in
    let us = m.means.tokens in
    let cut = subst (λ (bs : List ℕ). Tokens bs us) same m.means.cut in
    let of = none us cut in
    let means = subst (λ (l : List Lexeme). TokensMean l d) (resolved_same us of.0 of.1 of.2) m.means.means in
    record {
      short = m.short;
      tokens = us;
      cut = cut;
      outline = means.outline;
      spelled = means.spelled;
      meant = means.meant;
    }

pub keeps_meanings : KeepsMeanings
keeps_meanings names text d none = (forth names text d none, λ ts t m. back names text d ts none t m)
