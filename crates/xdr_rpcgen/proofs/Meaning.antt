-- What an answer says of the meaning of a text.
use Rattle.std.proofs.Common.{◌≡◌, ◌≢◌, ℕ, List, Some, Ok, Result, refl, subst}
use Rattle.xdr_tokens.specs.declared.fault.Fault.{Fault}
use Rattle.xdr_tokens.specs.declared.fault.Fault.TheVariants as fault
use Rattle.xdr_tokens.specs.Due.{RefusesRightly}
use Rattle.xdr_tokens.specs.Tokens.{Lexeme}
use Rattle.xdr_tokens.specs.Text.{Tokens}
use Rattle.xdr_tokens.proofs.Options.{some_is}
use Rattle.xdr_lang.specs.Declarations.{Declared}
use Rattle.xdr_lang.specs.OfTokens.{TokensMean}
use Rattle.xdr_dialect.specs.Answers.{Refuses}
use Rattle.xdr_dialect.specs.Dialect.{meant}
use Rattle.xdr_aliases.specs.Aliases.{resolved}
use Rattle.xdr_dialect.specs.Plain as dialect
use Rattle.xdr_rpcgen.specs.DialectMeans.{PlainMeans, DialectMeans}

-- a fault that is no allocation failure says that nothing is due
pub nothing_due : {A : Type 0} (f : Fault) (number : ℕ) (x : A) → (f ≡ fault.NoMemory → number ≡ 13) → number ≢ 13
    → RefusesRightly f (Some x) → ⊥
nothing_due fault.NoMemory number x memory not due = not (memory refl)
nothing_due (fault.Refused w l) number x memory not due = absurd cc

-- nor is a text without its lines
pub no_plain : {A : Type 0} (f : Fault) (number : ℕ) (due : Result A Fault) (x : A) → (f ≡ fault.NoMemory → number ≡ 13)
    → number ≢ 13 → Refuses f due → due ≡ Ok x → ⊥
no_plain fault.NoMemory number due x memory not is e = not (memory refl)
no_plain (fault.Refused w l) number due x memory not is e = absurd cc

-- the tokens of a text are those that were cut
pub of_cut : (plain : List ℕ) (cut : List Lexeme) (d : Declared)
    → ((ts : List Lexeme) → Tokens plain ts → Some ts ≡ Some cut) → PlainMeans plain d
    → TokensMean (resolved (meant cut)) d
of_cut plain cut d only m =
    let same = some_is m.tokens cut (only m.tokens m.cut) in
    subst (λ (ts : List Lexeme). TokensMean (resolved (meant ts)) d) same m.means

-- the text without its lines is the one that was made
pub of_plain : (names : List (List ℕ)) (text plain : List ℕ) (d : Declared) → dialect.plain names text ≡ Ok plain
    → DialectMeans names text d → PlainMeans plain d
of_plain names text plain d made m =
    let same : m.plain ≡ plain = cc (made, m.without) in
    subst (λ (bs : List ℕ). PlainMeans bs d) same m.means
