-- One step of the code.
use Rattle.std.specs.Prelude.{◌≡◌, ℕ, List, [], ◌∷◌, reverse, Option, Some, None, Result, Ok, Err}
use Rattle.xdr_tokens.specs.declared.fault.Fault.{Fault}
use Rattle.xdr_tokens.specs.declared.fault.Fault.TheVariants as fault
use Rattle.xdr_tokens.specs.declared.fault.Wrong.TheVariants as wrong
use Rattle.xdr_dialect.specs.declared.standing.Standing.{Standing}
use Rattle.xdr_dialect.specs.Plain as plain
use Rattle.xdr_tokens.specs.declared.token.Token.{Token}
use Rattle.xdr_dialect.specs.declared.turn.Out.{Out}
use Rattle.xdr_dialect.specs.declared.turn.Out.TheVariants as out
use Rattle.xdr_dialect.specs.declared.turn.Replaced.{Replaced}
use Rattle.xdr_dialect.specs.Rewriting.{Turned}
use Rattle.xdr_dialect.specs.Dialect.{all_placed, standing_at}
use Rattle.xdr_dialect.specs.Answers.{texts}

-- the sections around a byte, the innermost first
abbrev pub standing_of : Standing → plain.Standing
standing_of s = record {
  spot = s.spot;
  gate = s.gate;
  outer = reverse s.outer.items;
  defines = texts s.defines.list.items;
}

-- what a refusal of a step is
abbrev pub RefusesStep : Fault → Option plain.Turn → (left : ℕ) → Type 0
RefusesStep fault.NoMemory due left = Unit {0}
RefusesStep (fault.Refused w l) due left = (due ≡ None) × (fault.Refused w l ≡ fault.Refused wrong.BadCharacter left)

-- a step gives the byte and the standing that are due
abbrev pub Turns : Result ℕ Fault → Option plain.Turn → Standing → (left : ℕ) → Type 0
Turns (Ok b) due s left = due ≡ Some (record { byte = b; next = standing_of s })
Turns (Err e) due s left = RefusesStep e due left

-- a section is left, where one is open
abbrev pub Closes : Result Unit Fault → Standing → Standing → (left : ℕ) → Type 0
Closes (Ok u) a b left =
    ((standing_of a).outer ≡ b.gate ∷ (standing_of b).outer) × (b.spot ≡ a.spot) × (b.defines ≡ a.defines)
Closes (Err e) a b left = ((standing_of a).outer ≡ []) × (e ≡ fault.Refused wrong.BadCharacter left)

-- the tokens in place of one
abbrev pub tokens_of : Out → List Token
tokens_of out.Nothing = []
tokens_of (out.One t) = t ∷ []
tokens_of (out.Two t u) = t ∷ u ∷ []
tokens_of (out.Three t u v) = t ∷ u ∷ v ∷ []

-- The turn of the code is this one, each of its tokens at one place.
pub record Stands (t : Replaced) (due : Turned) (left : ℕ) : Type 0 where
  pub out : all_placed (tokens_of t.out) ≡ standing_at left due.out
  pub scope : t.scope ≡ due.scope
  pub skip : t.skip ≡ due.skip
