-- What a handle holds when a cursor has begun.
use Rattle.std.proofs.Common.{◌≡◌, ℕ, ◌%◌, List, subst, Option, Some, refl, sym, ◌∙◌}
use Rattle.xdr_types.specs.Layout.{entries}
use Rattle.xdr_types.specs.Tree.{Tree}
use Rattle.xdr_types.specs.Within.{AreBounds}
use Rattle.xdr_types.specs.Outcome.{Outcome, Whole}
use Rattle.xdr_lang.specs.Declarations.{Declared}
use Rattle.xdr_stream.specs.Finish.{EndsWith}
use Rattle.xdr_stream.specs.declared.fault.DecodeFault.{DecodeFault}
use Rattle.xdr_cursor.specs.Coming.{Awaits}
use Rattle.xdr_cursor.specs.declared.cursor.Cursor.{Cursor}
use Rattle.xdr_codec.proofs.Outcomes.{whole}
use Rattle.c_values.specs.Answers.{Question, IsRefusal, Names, question}
use Rattle.c_values.specs.declared.answer.Answer.{Answer}
use Rattle.c_values.specs.declared.answer.Answer.TheVariants as answer
use Rattle.c_values.proofs.Judging.{refusal_of}
use Rattle.c_cursors.specs.Begun.{HoldsAll, IsBegun, IsBegunBy, IsBegunByHeld}
use Rattle.c_cursors.specs.Private.Beginning.{IsUnbegun, IsCounted, IsKept}

-- the answer to how much of the input the value is, where the cursor is held
pub kept : (c : Cursor) (input : List ℕ) (old new : Option Cursor) (used : ℕ) → used ≡ c.used → new ≡ Some c
    → (a : Answer) → IsCounted used input a → IsKept c input old new a
kept c input old new used same is (answer.Whole n) k = (k.0 ∙ same, k.1, is)
kept c input old new used same is (answer.Followed n) k = (k.0 ∙ same, k.1, is)
kept c input old new used same is (answer.Refused f) k = absurd k
kept c input old new used same is (answer.Undeclared f) k = absurd k
kept c input old new used same is answer.NoKind k = absurd k
kept c input old new used same is answer.BadLimits k = absurd k
kept c input old new used same is answer.NoMemory k = absurd k
kept c input old new used same is answer.NoDeclarations k = absurd k
kept c input old new used same is (answer.NoRoom needed) k = absurd k
kept c input old new used same is (answer.BadItem f) k = absurd k

module _ (q : Question) (units : q.limits.bytes % 4 ≡ 0) (input : List ℕ) where
  holds_all : (c : Cursor) (v : Tree) → Outcome q.kinds q.place q.limits input (Whole v c.used)
      → Awaits c q.kinds input (entries q.kinds q.place v) → (held : Option Cursor) → held ≡ Some c
      → HoldsAll q input held c.used
  holds_all c v o a held is =
      let w = whole q.kinds q.place q.limits units input v c.used o in record {
        begins = record { value = v; outcome = o; fits = w.0; within = w.1; spelled = w.2 };
        cursor = c;
        held_is = is;
        awaits = a;
      }

  -- the cursor that is held has all parts before it
  pub begun : (c : Cursor) (v : Tree) → Outcome q.kinds q.place q.limits input (Whole v c.used)
      → Awaits c q.kinds input (entries q.kinds q.place v) → (old new : Option Cursor) (a : Answer)
      → IsKept c input old new a → IsBegun q input old new a
  begun c v o a old new (answer.Whole n) k =
      (subst (λ (m : ℕ). HoldsAll q input new m) (sym k.0) (holds_all c v o a new k.2), k.1)
  begun c v o a old new (answer.Followed n) k =
      (subst (λ (m : ℕ). HoldsAll q input new m) (sym k.0) (holds_all c v o a new k.2), k.1)
  begun c v o a old new (answer.Refused f) k = absurd k
  begun c v o a old new (answer.Undeclared f) k = absurd k
  begun c v o a old new answer.NoKind k = absurd k
  begun c v o a old new answer.BadLimits k = absurd k
  begun c v o a old new answer.NoMemory k = k
  begun c v o a old new answer.NoDeclarations k = absurd k
  begun c v o a old new (answer.NoRoom needed) k = absurd k
  begun c v o a old new (answer.BadItem f) k = absurd k

  -- a fault begins nothing
  pub unbegun : (f : DecodeFault) → EndsWith q.kinds q.place q.limits input f → (a : Answer) → IsUnbegun f a
      → (held : Option Cursor) → IsBegun q input held held a
  unbegun f ends (answer.Refused g) is held =
      (subst (λ (x : DecodeFault). IsRefusal q input x) (sym is.0) (refusal_of q units input f is.1 ends), refl)
  unbegun f ends answer.NoMemory is held = refl
  unbegun f ends (answer.Whole n) is held = absurd is
  unbegun f ends (answer.Followed n) is held = absurd is
  unbegun f ends (answer.Undeclared g) is held = absurd is
  unbegun f ends answer.NoKind is held = absurd is
  unbegun f ends answer.BadLimits is held = absurd is
  unbegun f ends answer.NoDeclarations is held = absurd is
  unbegun f ends (answer.NoRoom needed) is held = absurd is
  unbegun f ends (answer.BadItem g) is held = absurd is

-- what begins by a kind that the name names
module _ (d : Declared) (name : List ℕ) (depth bytes : ℕ) (input : List ℕ) (old new : Option Cursor) (place : ℕ)
    (names : Names d name place) (in_range : AreBounds depth bytes) where
  by_name : (a : Answer) → IsBegun (question d place depth bytes) input old new a
      → IsBegunBy d name depth bytes input old new a
  by_name a h = record { place = place; names = names; in_range = in_range; right = h }

  pub begun_by : (a : Answer) → IsBegun (question d place depth bytes) input old new a
      → IsBegunByHeld (Some d) name depth bytes input old new a
  begun_by (answer.Whole n) h = by_name (answer.Whole n) h
  begun_by (answer.Followed n) h = by_name (answer.Followed n) h
  begun_by (answer.Refused f) h = by_name (answer.Refused f) h
  begun_by (answer.Undeclared f) h = absurd h
  begun_by answer.NoKind h = absurd h
  begun_by answer.BadLimits h = absurd h
  begun_by answer.NoMemory h = by_name answer.NoMemory h
  begun_by answer.NoDeclarations h = absurd h
  begun_by (answer.NoRoom needed) h = absurd h
  begun_by (answer.BadItem f) h = absurd h
