-- The name of an argument that is there is no unknown one.
use Rattle.std.proofs.Common.{◌≡◌, ◌<◌, ℕ, List, [], ◌∷◌, Option, Some, None, inr, refl, ap, arith}
use Rattle.std.proofs.Common.{◌∙◌, option_and_then, slice_get}
use Rattle.std.specs.Prelude.{codes, ⊤}
use Rattle.std.specs.Fmt.{digits}
use Rattle.std.specs.Str.{IsAscii, IsUtf8}
use Rattle.std.proofs.lemmas.Str.{IsUtf8-from_ascii}
use Rattle.std.proofs.lemmas.Str.Ascii.{IsAscii-cons, IsAscii-nil}
use Rattle.xdr_lang.specs.Declarations.{Declared, Procedure, procedure_of_program}
use Rattle.oncrpc_names.specs.Names.{name_text}
use Rattle.oncrpc_names.specs.declared.reading.Part.TheVariants.{Argument}
use Rattle.oncrpc_names.specs.declared.reading.PartName.{PartName}
use Rattle.oncrpc_kinds.specs.Naming.{part_named, place_of_part}
use Rattle.c_values.specs.Answers.{Names}
use Rattle.c_values.specs.Argument.{HasArgument}
use Rattle.c_values.specs.Held.{IsRightByHeld}
use Rattle.c_values.specs.Statuses.{status_of}
use Rattle.c_values.specs.declared.answer.Answer.{Answer}
use Rattle.c_values.specs.declared.answer.Answer.TheVariants as answer

abbrev first : PartName
first = record { program = 100003; version = 3; procedure = 16; part = Argument 1 }

-- each is a character of ASCII
abbrev AreLow : List ℕ → Type 0
AreLow [] = ⊤
AreLow (b ∷ bs) = (b < 128) × AreLow bs

ascii : (bs : List ℕ) → AreLow bs → IsAscii bs
ascii [] are = IsAscii-nil
ascii (b ∷ bs) are = IsAscii-cons b bs are.0 (ascii bs are.1)

is_text : IsUtf8 (codes "100003.3.16.1")
is_text = IsUtf8-from_ascii (codes "100003.3.16.1") (ascii (codes "100003.3.16.1") (omega arith))

spelled : codes "100003.3.16.1" ≡ name_text first
unfolding digits
spelled = refl

found : (d : Declared) (p : Procedure) (place : ℕ) → procedure_of_program 100003 3 16 d.programs ≡ Some p
    → p.arguments ≡ place ∷ [] → part_named d first ≡ Some place
found d p place there only =
    ap (option_and_then (λ q. place_of_part q (Argument 1))) there
    ∙ ap (λ (xs : List ℕ). slice_get xs 0) only

named : (d : Declared) → HasArgument (Some d) → (place : ℕ) × Names d (codes "100003.3.16.1") place
named d (p, place, there, only, known, none) = (
  place,
  record {
    named = inr (
      none,
      record {
        name = first;
        unsigned = record {
          program = omega arith;
          version = omega arith;
          procedure = omega arith;
          part = omega arith;
        };
        spelled = spelled;
        found = found d p place there only;
      },
    );
    known = known;
  },
)

pub argument_reported : (held : Option Declared) → HasArgument held → (depth bytes : ℕ) (input : List ℕ) (a : Answer)
    → IsRightByHeld held (codes "100003.3.16.1") depth bytes input a → 4 ≡ status_of a → ⊥
argument_reported None has depth bytes input a r e = has
argument_reported (Some d) has depth bytes input answer.NoKind r e =
    let it = named d has in r.none is_text it.0 it.1
argument_reported (Some d) has depth bytes input (answer.Whole used) r e = absurd (omega (arith, e))
argument_reported (Some d) has depth bytes input (answer.Followed used) r e = absurd (omega (arith, e))
argument_reported (Some d) has depth bytes input (answer.Refused f) r e = absurd (omega (arith, e))
argument_reported (Some d) has depth bytes input (answer.Undeclared f) r e = absurd (omega (arith, e))
argument_reported (Some d) has depth bytes input answer.BadLimits r e = absurd (omega (arith, e))
argument_reported (Some d) has depth bytes input answer.NoMemory r e = absurd (omega (arith, e))
argument_reported (Some d) has depth bytes input answer.NoDeclarations r e = absurd (omega (arith, e))
argument_reported (Some d) has depth bytes input (answer.NoRoom n) r e = absurd (omega (arith, e))
argument_reported (Some d) has depth bytes input (answer.BadItem f) r e = absurd (omega (arith, e))
