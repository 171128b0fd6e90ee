-- Which procedure of the program that squares is named, and what its arguments are.
use Rattle.std.proofs.Common.{◌≡◌, ◌⊎◌, ℕ, ◌<◌, ◌≤◌, ◌&&◌, Bool, true, false, not, nat_eq, List, [], ◌∷◌, codes, length}
use Rattle.std.proofs.Common.{slice_index, true≢false}
use Rattle.std.proofs.Common.{refl, sym, ◌∙◌, ap, subst, arith, inl, inr, Result, Ok, Err, IfOk, IfErr, MatchResult}
use Rattle.std.specs.List.{list_all}
use Rattle.xdr_units.specs.Texts.{HasNoDot}
use Rattle.xdr_types.specs.Kinds.{KindView, kind_at}
use Rattle.xdr_types.specs.Named.{basic}
use Rattle.xdr_types.specs.Tree as value
use Rattle.xdr_types.specs.Within.{Bounds}
use Rattle.xdr_stream.specs.Spared.{IsFlat}
use Rattle.rpc_message.specs.View.{call_view}
use Rattle.xdr_lang.specs.Declarations.{Declared, Program}
use Rattle.oncrpc_procedures.specs.Meant.{Parts, Target, begins_with_digit, procedures_meant, programs_meant}
use Rattle.oncrpc_procedures.specs.Meant.{versions_meant}
use Rattle.oncrpc_procedures.specs.Names.{IsCut, IsNoNumber, Names, OneReading}
use Rattle.oncrpc_procedures.specs.Unnamed.{IsFirstUnread, NamesNone}
use Rattle.oncrpc_procedures.specs.declared.unnamed.Unnamed.{Unnamed}
use Rattle.oncrpc_procedures.specs.declared.unnamed.Unnamed.TheVariants as unnamed
use Rattle.oncrpc_call.specs.Asking.{AreArguments, AreRefused, AsksFor, AsksNothing, IsResultKind, LacksKind}
use Rattle.oncrpc_call.specs.Asking.{LacksMemory, LacksResult, Mismatches, Terms, call_for}
use Rattle.oncrpc_call.specs.declared.asked.Asked.{Asked}
use Rattle.oncrpc_call.specs.declared.unasked.Unasked.{Unasked}
use Rattle.oncrpc_call.specs.declared.unasked.Unasked.TheVariants as unasked
use Rattle.example_call.specs.Squares.{programs, question, square}

first_of : (a b : Bool) → (not a && b) ≡ true → (a ≡ false) × (b ≡ true)
first_of false b e = (refl, e)
first_of true b e = absurd (true≢false (sym e))

has_no_dot : (xs : List ℕ) → list_all (λ (b : ℕ). not (nat_eq b 46)) xs ≡ true → HasNoDot xs
has_no_dot [] e = tt
has_no_dot (x ∷ xs) e =
    let both = first_of (nat_eq x 46) (list_all (λ (b : ℕ). not (nat_eq b 46)) xs) e in (both.0, has_no_dot xs both.1)

abbrev squares : Parts
squares = record { program = codes "SQUARES"; version = codes "FIRST"; procedure = codes "SQUARE" }

abbrev cubes : Parts
cubes = record { program = codes "SQUARES"; version = codes "FIRST"; procedure = codes "CUBE" }

squares_cut : IsCut squares (codes "SQUARES.FIRST.SQUARE")
squares_cut = record {
  program = has_no_dot (codes "SQUARES") refl;
  version = has_no_dot (codes "FIRST") refl;
  procedure = has_no_dot (codes "SQUARE") refl;
  joined = refl;
}

cubes_cut : IsCut cubes (codes "SQUARES.FIRST.CUBE")
cubes_cut = record {
  program = has_no_dot (codes "SQUARES") refl;
  version = has_no_dot (codes "FIRST") refl;
  procedure = has_no_dot (codes "CUBE") refl;
  joined = refl;
}

a_name : (part : List ℕ) → begins_with_digit part ≡ false → IsNoNumber part → ⊥
a_name part e bad = true≢false (sym bad.0 ∙ e)

-- parts that are names are read
all_read : (p : Parts) → begins_with_digit p.program ≡ false → begins_with_digit p.version ≡ false
    → begins_with_digit p.procedure ≡ false → (k : ℕ) → IsFirstUnread k p → ⊥
all_read p a b c k (inl first) = a_name p.program a first.1
all_read p a b c k (inr (inl second)) = a_name p.version b second.2
all_read p a b c k (inr (inr third)) = a_name p.procedure c third.3

module _ (one : OneReading) (p : Parts) (text : List ℕ) (cut : IsCut p text) where
  -- what is said of parts of a text is said of these
  of_these : (Said : Parts → Type 0) (q : Parts) → IsCut q text → Said q → Said p
  of_these Said q own said = subst Said (one q p text own cut) said

module _ (one : OneReading) where
  -- the first name names the procedure,
  the_square : (t : Target) → Names (codes "SQUARES.FIRST.SQUARE") programs t → t ≡ square
  the_square t n =
      let first : square ∷ [] ≡ t ∷ n.others =
      of_these one squares _ squares_cut (λ q. procedures_meant q programs ≡ t ∷ n.others) n.parts n.cut n.meant in cc

  is_named : (why : Unnamed) → NamesNone (codes "SQUARES.FIRST.SQUARE") programs why → ⊥
  is_named unnamed.NotThreeParts h = h squares squares_cut
  is_named (unnamed.NotANumber k) h =
      all_read squares refl refl refl k
      (of_these one squares _ squares_cut (λ q. IsFirstUnread k q) h.0 h.1 h.2)
  is_named unnamed.NoProgram h =
      let none = of_these one squares _ squares_cut (λ q. programs_meant q programs ≡ []) h.0 h.1 h.2.1 in cc
  is_named unnamed.NoVersion h =
      let none = of_these one squares _ squares_cut (λ q. versions_meant q programs ≡ []) h.0 h.1 h.2.2 in cc
  is_named unnamed.NoProcedure h =
      let none = of_these one squares _ squares_cut (λ q. procedures_meant q programs ≡ []) h.0 h.1 h.2.2 in cc

  -- and the second none
  no_cube : (t : Target) → Names (codes "SQUARES.FIRST.CUBE") programs t → ⊥
  no_cube t n =
      let first : [] ≡ t ∷ n.others =
      of_these one cubes _ cubes_cut (λ q. procedures_meant q programs ≡ t ∷ n.others) n.parts n.cut n.meant in cc

  is_unnamed : (why : Unnamed) → NamesNone (codes "SQUARES.FIRST.CUBE") programs why → why ≡ unnamed.NoProcedure
  is_unnamed unnamed.NotThreeParts h = absurd (h cubes cubes_cut)
  is_unnamed (unnamed.NotANumber k) h =
      absurd
      (all_read cubes refl refl refl k (of_these one cubes _ cubes_cut (λ q. IsFirstUnread k q) h.0 h.1 h.2))
  is_unnamed unnamed.NoProgram h =
      let none = of_these one cubes _ cubes_cut (λ q. programs_meant q programs ≡ []) h.0 h.1 h.2.1 in cc
  is_unnamed unnamed.NoVersion h =
      let none = of_these one cubes _ cubes_cut (λ q. versions_meant q programs ≡ []) h.0 h.1 h.2.2 in cc
  is_unnamed unnamed.NoProcedure h = refl

-- the bytes of 7 are the argument of the procedure
seven : (limits : Bounds) → 1 ≤ limits.depth → 4 ≤ limits.bytes
    → AreArguments basic.kinds (1 ∷ []) limits (0 ∷ 0 ∷ 0 ∷ 7 ∷ [])
seven limits deep long = (
  (value.unsigned 7, value.none),
  [],
  (refl, (omega (arith, deep), omega (arith, long))),
  refl,
  refl,
)

-- the kind of an argument of the procedure is unsigned
is_unsigned : (at kind : ℕ) → at < 1 → kind ≡ slice_index (1 ∷ []) at → kind ≡ 1
is_unsigned at kind within is =
    let zero : at ≡ 0 = omega (arith, within) in is ∙ ap (λ (n : ℕ). slice_index (1 ∷ []) n) zero

module _ (one : OneReading) (d : Declared) (declares : d.programs ≡ programs) (args : List ℕ) where
  unmeant : (t : Target) → Names (codes "SQUARES.FIRST.CUBE") d.programs t → ⊥
  unmeant t n = no_cube one t (subst (λ (ps : List Program). Names (codes "SQUARES.FIRST.CUBE") ps t) declares n)

  -- cubes are asked for in vain, and that is told first
  named_none : (limits : Bounds) (why : Unasked) → length args ≤ 16777216
      → AsksNothing (codes "SQUARES.FIRST.CUBE") d args limits why → why ≡ unasked.Name unnamed.NoProcedure
  named_none limits (unasked.Name why) short h =
      ap unasked.Name
      (is_unnamed one why (subst (λ (ps : List Program). NamesNone (codes "SQUARES.FIRST.CUBE") ps why) declares h.1))
  named_none limits unasked.TooLong short h = absurd (omega (arith, short, h))
  named_none limits (unasked.Argument at f) short h = absurd (unmeant h.target h.named)
  named_none limits (unasked.Follows count) short h = absurd (unmeant h.target h.named)
  named_none limits unasked.Kind short h = absurd (unmeant h.target h.named)
  named_none limits unasked.NoMemory short h = absurd (unmeant h.target h.named)

  pub named_well : (terms : Terms) → length args ≤ 16777216 → (r : Result Asked Unasked)
      → IfOk r (λ a. AsksFor (codes "SQUARES.FIRST.CUBE") d args terms a)
      → IfErr r (λ why. AsksNothing (codes "SQUARES.FIRST.CUBE") d args terms.limits why)
      → MatchResult r (λ _. ⊥) (λ why. why ≡ unasked.Name unnamed.NoProcedure)
  named_well terms short (Ok a) found refused = unmeant found.target found.named
  named_well terms short (Err why) found refused = named_none terms.limits why short refused

  module _ (bytes : args ≡ 0 ∷ 0 ∷ 0 ∷ 7 ∷ []) where
    meant : (t : Target) → Names (codes "SQUARES.FIRST.SQUARE") d.programs t → t ≡ square
    meant t n =
        the_square one t (subst (λ (ps : List Program). Names (codes "SQUARES.FIRST.SQUARE") ps t) declares n)

    -- the call that is asked for
    is_asked : (terms : Terms) (a : Asked) → AsksFor (codes "SQUARES.FIRST.SQUARE") d args terms a
        → call_view a.call ≡ question terms.xid terms.cred
    is_asked terms a h =
        h.call_is ∙ ap (λ (t : Target). call_for t terms.xid terms.cred args) (meant h.target h.named)
        ∙ ap (λ (b : List ℕ). call_for square terms.xid terms.cred b) bytes

    -- its result
    pub is_answered : (terms : Terms) (a : Asked) → AsksFor (codes "SQUARES.FIRST.SQUARE") d args terms a
        → a.result.place ≡ 1
    is_answered terms a h =
        (subst (λ (t : Target). IsResultKind d.schema.kinds t.procedure.result a.schema.kinds a.result.place)
        (meant h.target h.named) h.result_is).1

    module _ (kinds : d.schema.kinds ≡ basic.kinds) (limits : Bounds) (deep : 1 ≤ limits.depth)
        (long : 4 ≤ limits.bytes) where
      are_arguments : AreArguments d.schema.kinds (1 ∷ []) limits args
      are_arguments =
          subst (λ (k : List KindView). AreArguments k (1 ∷ []) limits args) (sym kinds)
          (subst (λ (b : List ℕ). AreArguments basic.kinds (1 ∷ []) limits b) (sym bytes) (seven limits deep long))

      eight : length d.schema.kinds ≡ 8
      eight = ap (λ (k : List KindView). length k) kinds

      has_kind : LacksKind d.schema.kinds (1 ∷ []) limits args → ⊥
      has_kind h =
          let own = is_unsigned h.at h.kind h.reached.within h.reached.place_is in
          let unknown = h.unknown in omega (arith, own, unknown, eight)

      takes_memory : LacksMemory d.schema.kinds (1 ∷ []) limits args → ⊥
      takes_memory h =
          let own = is_unsigned h.at h.kind h.reached.within h.reached.place_is in
          let takes : IsFlat (kind_at basic.kinds 1) → ⊥ =
          subst (λ (n : ℕ). IsFlat (kind_at basic.kinds n) → ⊥) own
          (subst (λ (k : List KindView). IsFlat (kind_at k h.kind) → ⊥) kinds h.takes) in takes tt

      abbrev Fault : Target → Unasked → Type 0
      Fault t why =
          AreRefused d.schema.kinds t.procedure.arguments limits args why
          ⊎ (AreArguments d.schema.kinds t.procedure.arguments limits args
          × LacksResult d.schema.kinds t.procedure.result why)

      faultless : (why : Unasked) → Fault square why → ⊥
      faultless (unasked.Argument at f) (inl h) = h.1 are_arguments
      faultless (unasked.Follows count) (inl h) = h.1 are_arguments
      faultless unasked.Kind (inl h) = has_kind h
      faultless unasked.NoMemory (inl h) = takes_memory h
      faultless unasked.TooLong (inl h) = h
      faultless (unasked.Name why) (inl h) = h
      faultless (unasked.Argument at f) (inr h) = h.1
      faultless (unasked.Follows count) (inr h) = h.1
      faultless unasked.Kind (inr h) = let few = h.1 in omega (arith, few, eight)
      faultless unasked.NoMemory (inr h) = let none = h.1 in cc
      faultless unasked.TooLong (inr h) = h.1
      faultless (unasked.Name why) (inr h) = h.1

      matched : (why : Unasked) → Mismatches (codes "SQUARES.FIRST.SQUARE") d args limits why → ⊥
      matched why h = faultless why (subst (λ (t : Target). Fault t why) (meant h.target h.named) h.refused)

      -- nothing is wanting
      wants_nothing : (why : Unasked) → AsksNothing (codes "SQUARES.FIRST.SQUARE") d args limits why → ⊥
      wants_nothing unasked.TooLong h =
          let four : length args ≡ 4 = ap (λ (b : List ℕ). length b) bytes in omega (arith, four, h)
      wants_nothing (unasked.Name why) h =
          is_named one why
          (subst (λ (ps : List Program). NamesNone (codes "SQUARES.FIRST.SQUARE") ps why) declares h.1)
      wants_nothing (unasked.Argument at f) h = matched (unasked.Argument at f) h
      wants_nothing (unasked.Follows count) h = matched (unasked.Follows count) h
      wants_nothing unasked.Kind h = matched unasked.Kind h
      wants_nothing unasked.NoMemory h = matched unasked.NoMemory h

      pub asked_well : (terms : Terms) (r : Result Asked Unasked)
          → IfOk r (λ a. AsksFor (codes "SQUARES.FIRST.SQUARE") d args terms a)
          → IfErr r (λ why. AsksNothing (codes "SQUARES.FIRST.SQUARE") d args limits why)
          → MatchResult r (λ a. call_view a.call ≡ question terms.xid terms.cred) (λ _. ⊥)
      asked_well terms (Ok a) found refused = is_asked terms a found
      asked_well terms (Err why) found refused = wants_nothing why refused
