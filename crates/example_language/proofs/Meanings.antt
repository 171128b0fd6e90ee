-- What the texts of the examples mean, computed once each.
use Rattle.std.proofs.Common.{◌≡◌, ℕ, List, [], ◌∷◌, ◌++◌, None, codes, lit≤, refl}
use Rattle.xdr_types.specs.Kinds as xdr
use Rattle.xdr_types.specs.Kinds.{KindView, Part}
use Rattle.xdr_types.specs.Named.{basic, named}
use Rattle.xdr_lang.specs.Declarations.{Declared}
use Rattle.xdr_lang.specs.Means.{Means}
use Rattle.xdr_tokens.specs.Bytes.{run_length, after_comment, value_from, number_of}
use Rattle.xdr_tokens.specs.Keywords.{word_among, word_or_name}
use Rattle.xdr_tokens.specs.Private.Front.{comment_at, piece_at}
use Rattle.xdr_grammar.specs.Private.Taking.{after_word, after_sign, name_at, number_at, value_at, size_at, limit_at}
use Rattle.xdr_grammar.specs.Private.Taking.{either_sign, numbered_at}
use Rattle.xdr_grammar.specs.Private.Reading.{repeat, opaque_at, text_at, declared_at}
use Rattle.xdr_grammar.specs.Private.Reading.{declaration_with, content_with, basic_at, member_at, enum_at, field_with}
use Rattle.xdr_grammar.specs.Private.Reading.{struct_with, case_at, arm_with, default_with, switch_with, union_with}
use Rattle.xdr_grammar.specs.Private.Reading.{body_word_at, body_with, specifier_at, passed_with, argument_with}
use Rattle.xdr_grammar.specs.Private.Reading.{arguments_with, result_with, procedure_with, version_with, program_with}
use Rattle.xdr_grammar.specs.Private.Reading.{const_at, typedef_with, defined_with, definition_at, definitions_at}
use Rattle.xdr_grammar.specs.Private.Reading.{int_at, inner_word_at}
use Rattle.xdr_constants.specs.Constants.{known, earlier, looked_up, size, limit, entry_number, numbers}
use Rattle.xdr_lang.specs.LookUp.{type_named, named_place}
use Rattle.xdr_lang.specs.Kinds.{each_onto, where_given, one_member, one_case, one_field, one_arm, one_kind}
use Rattle.xdr_lang.specs.Programs.{signature, one_procedure, one_version, one_program}
use Rattle.xdr_lang.specs.Distinct.{repeats, names_repeat, kind_repeats, version_repeats, program_repeats, pairs_of}
use Rattle.xdr_lang.specs.Distinct.{pairs, has_twice}
use Rattle.xdr_lang.specs.Meaning.{given_constants, meaning}
use Rattle.xdr_lang.specs.Private.Meaning.{distinct_meaning}
use Rattle.example_language.proofs.Cutting.{cut}
use Rattle.example_language.proofs.Reporting.{reported, reported_means}
use Rattle.example_language.proofs.Schemas.{well, sound_eight, sound_nine, sound_ten}

-- these kinds and names after the basic ones, and no program
abbrev pub types : List KindView → List Part → Declared
types kinds names = record {
  schema = record { kinds = basic.kinds ++ kinds; names = basic.names ++ names };
  constants = given_constants;
  programs = [];
}

-- 2 ints, and up to 2 of another kind
abbrev pub two_arrays : ℕ → Declared
two_arrays item = types (xdr.fixed 0 2 ∷ xdr.up_to item 2 ∷ []) (named (codes "a") 8 ∷ named (codes "b") 9 ∷ [])

-- a string of any length
abbrev pub any_string : Declared
any_string = types (xdr.text 4294967295 ∷ []) (named (codes "a") 8 ∷ [])

-- an entry of a list: a number, and perhaps the next entry
abbrev pub entry : List Part
entry = named (codes "n") 0 ∷ named (codes "next") 8 ∷ []

-- a list of such entries
abbrev pub entries : Declared
entries = types (xdr.maybe 9 ∷ xdr.structure entry ∷ []) (named (codes "e") 9 ∷ [])

-- a program whose one procedure takes a string
abbrev pub takes_string : Declared
takes_string = record {
  schema = basic;
  constants = given_constants;
  programs = (record {
    name = codes "P";
    number = 1;
    versions = (record {
      name = codes "V";
      number = 2;
      procedures = (record { name = codes "N"; number = 0; arguments = 7 ∷ []; result = None }) ∷ [];
    }) ∷ [];
  }) ∷ [];
}

-- what each text means, and which mean nothing
pub record Meanings : Type 0 where
  pub arrays : Means (codes "typedef int a[2]; typedef int b<2>;") (two_arrays 0)
  pub long_numbers : Means (codes "typedef long a[2]; typedef unsigned long b<2>;") (two_arrays 1)
  pub missing_size : Means (codes "typedef string a<>;") any_string
  pub linked_list : Means (codes "struct e{int n;e*next;};") entries
  pub list_of_structs : Means (codes "struct e{long n;struct e*next;};") entries
  pub string_argument : Means (codes "program P{version V{void N(string)=0;}=2;}=1;") takes_string
  pub const_used_before_it_is_declared : reported (codes "typedef int t<N>; const N = 3;") ≡ None
  pub eight_is_no_octal_digit : reported (codes "const N = 08;") ≡ None
  pub long_as_a_name : reported (codes "const long = 3;") ≡ None
  pub struct_before_a_union : reported (codes "union u switch(int d){case 1:void;};typedef struct u t;") ≡ None
  pub struct_before_an_enumeration : reported (codes "enum e{A=1};typedef struct e t;") ≡ None
  pub struct_before_a_typedef : reported (codes "typedef struct{int x;} s;typedef struct s t;") ≡ None
  pub true_as_a_size : reported (codes "typedef int t<TRUE>;") ≡ None
  pub member_as_a_size : reported (codes "enum e { A = 1 }; typedef int t[A];") ≡ None
  pub field_name_there_twice : reported (codes "struct s { int a; bool a; };") ≡ None
  pub pair_of_numbers_there_twice :
      reported (codes "program P{version V{void N(void)=0;}=2;version W{void N(void)=0;}=2;}=1;") ≡ None

-- so it is: each text is read by computing
pub meanings : Meanings
unfolding reported cut run_length after_comment value_from number_of word_among word_or_name comment_at piece_at
    after_word after_sign name_at number_at value_at size_at limit_at either_sign numbered_at repeat opaque_at text_at
    declared_at declaration_with content_with int_at basic_at member_at enum_at field_with struct_with case_at
    arm_with default_with switch_with union_with body_word_at inner_word_at body_with specifier_at passed_with
    argument_with arguments_with result_with procedure_with version_with program_with const_at typedef_with
    defined_with definition_at definitions_at known earlier looked_up size limit entry_number numbers type_named
    named_place each_onto where_given one_member one_case one_field one_arm one_kind signature one_procedure
    one_version one_program repeats names_repeat kind_repeats version_repeats program_repeats pairs_of pairs has_twice
    meaning distinct_meaning
meanings = record {
  arrays = reported_means _ (two_arrays 0) refl (lit≤ tt) (well _ (lit≤ tt) refl refl)
      (sound_ten (xdr.fixed 0 2) (xdr.up_to 0 2) (0, refl, lit≤ tt) tt);
  long_numbers = reported_means _ (two_arrays 1) refl (lit≤ tt) (well _ (lit≤ tt) refl refl)
      (sound_ten (xdr.fixed 0 2) (xdr.up_to 1 2) (0, refl, lit≤ tt) tt);
  missing_size = reported_means _ any_string refl (lit≤ tt) (well _ (lit≤ tt) refl refl)
      (sound_nine (xdr.text 4294967295) tt);
  linked_list = reported_means _ entries refl (lit≤ tt) (well _ (lit≤ tt) refl refl)
      (sound_ten (xdr.maybe 9) (xdr.structure entry) tt ((0, refl, lit≤ tt), ((1, refl, lit≤ tt), tt)));
  list_of_structs = reported_means _ entries refl (lit≤ tt) (well _ (lit≤ tt) refl refl)
      (sound_ten (xdr.maybe 9) (xdr.structure entry) tt ((0, refl, lit≤ tt), ((1, refl, lit≤ tt), tt)));
  string_argument = reported_means _ takes_string refl (lit≤ tt) (well _ (lit≤ tt) refl refl) sound_eight;
  const_used_before_it_is_declared = refl;
  eight_is_no_octal_digit = refl;
  long_as_a_name = refl;
  struct_before_a_union = refl;
  struct_before_an_enumeration = refl;
  struct_before_a_typedef = refl;
  true_as_a_size = refl;
  member_as_a_size = refl;
  field_name_there_twice = refl;
  pair_of_numbers_there_twice = refl;
}
