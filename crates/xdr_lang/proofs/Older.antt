-- That a text without long and "struct" identifier means what it meant.
use Rattle.std.proofs.Common.{◌≡◌, ℕ, zero, suc, Bool, true, false, cond, List, [], ◌∷◌, ◌++◌, length, map}
use Rattle.std.proofs.Common.{Option, Some, None, option_map, refl, sym, ap, subst, ◌∙◌, arith}
use Rattle.std.specs.Prelude.{All, IfSome, filter, codes}
use Rattle.std.specs.Str.{bytes_eq}
use Rattle.std.proofs.lemmas.Slice.Eq.{bytes_eq-Decides}
use Rattle.xdr_tokens.specs.declared.token.Keyword.{Keyword}
use Rattle.xdr_tokens.specs.declared.token.Keyword.TheVariants as word
use Rattle.xdr_tokens.specs.Options.{◌>>=◌}
use Rattle.xdr_tokens.specs.Tokens.{Lexeme, Word}
use Rattle.xdr_tokens.specs.Keywords.{keyword, keywords, word_among, word_or_name}
use Rattle.xdr_tokens.proofs.Options.{some_is}
use Rattle.xdr_grammar.specs.Outline.{Part, IsBasic, IsNamed, IsStruct, IsMade, IsStructMade, IsText, IsVoid, Field}
use Rattle.xdr_grammar.specs.Outline.{Arm, Draft, DNumbered, DOpaque, DOpaqueUpTo, DText, DFixed, DUpTo, DStructure}
use Rattle.xdr_grammar.specs.Outline.{DChoice, DMaybe, Procedure, Version, Program, Outline}
use Rattle.xdr_constants.specs.Constants.{Known, numbers}
use Rattle.xdr_lang.specs.LookUp.{type_named, place_with, named_place, place_of}
use Rattle.xdr_lang.specs.Kinds.{each_onto, where_given, one_field, one_arm, one_kind}
use Rattle.xdr_lang.specs.Programs.{signature, one_procedure, one_version, one_program}
use Rattle.xdr_lang.specs.Meaning.{meaning}
use Rattle.xdr_lang.specs.Distinct.{has_twice}
use Rattle.xdr_lang.specs.Before.{as_name, was_keyword, IsNoStruct, HasNoStruct, NoneInDraft, NoneInProcedure}
use Rattle.xdr_lang.specs.Before.{NoneInVersion, NoneInProgram, NoneInOutline, as_made, type_before, declared_before}

-- ---- all of a list, in its parts

head : {A : Type 0} (P : A → Type 0) (x : A) (xs : List A) → All P (x ∷ xs) → P x
head P x xs all = all 0 x (omega arith)

tail : {A : Type 0} (P : A → Type 0) (x : A) (xs : List A) → All P (x ∷ xs) → All P xs
tail P x xs all = λ k d lt. all (suc k) d (omega (arith, lt))

-- ---- tokens

same_token : (t : Lexeme) → (t ≡ Word word.Long → ⊥) → as_name t ≡ t
same_token (Word word.Long) not = absurd (not refl)
same_token t not = refl

-- without the token long nothing was another token
pub same_tokens : (ts : List Lexeme) → All (λ (t : Lexeme). t ≡ Word word.Long → ⊥) ts → map as_name ts ≡ ts
same_tokens [] none = refl
same_tokens (t ∷ ts) none =
    let first = same_token t (head (λ (t : Lexeme). t ≡ Word word.Long → ⊥) t ts none) in
    rw (first, same_tokens ts (tail (λ (t : Lexeme). t ≡ Word word.Long → ⊥) t ts none)) refl

-- ---- names of types

pick : (b : Bool) (p : Part) (x y : Option Part) → y ≡ option_map as_made x
    → cond b (Some (as_made p)) y ≡ option_map as_made (cond b (Some p) x)
pick true p x y e = refl
pick false p x y e = e

named_before : (n : List ℕ) (ts : List Field)
    → type_named n (map type_before ts) ≡ option_map as_made (type_named n ts)
unfolding type_named
named_before n [] = refl
named_before n (t ∷ ts) = pick (bytes_eq t.name n) t.part (type_named n ts) (type_named n (map type_before ts))
    (named_before n ts)

picked : (b : Bool) (q p : Part) (x : Option Part) → IsNoStruct q → (x ≡ Some p → IsNoStruct p)
    → cond b (Some q) x ≡ Some p → IsNoStruct p
picked true q p x is later e = subst IsNoStruct (some_is q p e) is
picked false q p x is later e = later e

named_none : (n : List ℕ) (ts : List Field) (p : Part) → All HasNoStruct ts → type_named n ts ≡ Some p → IsNoStruct p
unfolding type_named
named_none n [] p all e = absurd cc
named_none n (t ∷ ts) p all e = picked (bytes_eq t.name n) t.part p (type_named n ts) (head HasNoStruct t ts all)
    (named_none n ts p (tail HasNoStruct t ts all)) e

-- ---- places

one_part : (ts us : List Field) (f g : List ℕ → Option ℕ) (p : Part) → ((n : List ℕ) → f n ≡ g n) → IsNoStruct p
    → place_with us f (as_made p) ≡ place_with ts g p
one_part ts us f g (IsBasic b) same is = refl
one_part ts us f g (IsNamed n) same is = same n
one_part ts us f g (IsStruct n) same is = absurd is
one_part ts us f g (IsMade k) same is = refl
one_part ts us f g (IsStructMade k) same is = refl
one_part ts us f g IsText same is = refl
one_part ts us f g IsVoid same is = refl

step : (ts us : List Field) (f g : List ℕ → Option ℕ) (o : Option Part) → ((n : List ℕ) → f n ≡ g n)
    → ((p : Part) → o ≡ Some p → IsNoStruct p)
    → (option_map as_made o >>= place_with us f) ≡ (o >>= place_with ts g)
step ts us f g None same is = refl
step ts us f g (Some p) same is = one_part ts us f g p same (is p refl)

chain_before : (steps : ℕ) (ts : List Field) → All HasNoStruct ts → (n : List ℕ)
    → named_place steps (map type_before ts) n ≡ named_place steps ts n
unfolding named_place
chain_before zero ts all n = refl
chain_before (suc steps) ts all n =
    ap (λ (o : Option Part). o >>= place_with (map type_before ts) (named_place steps (map type_before ts)))
    (named_before n ts)
    ∙ step ts (map type_before ts) (named_place steps (map type_before ts)) (named_place steps ts) (type_named n ts)
    (chain_before steps ts all) (λ p e. named_none n ts p all e)

same_length : (ts : List Field) → length (map type_before ts) ≡ length ts
same_length [] = refl
same_length (t ∷ ts) = ap suc (same_length ts)

whole_chain : (ts : List Field) → All HasNoStruct ts → (n : List ℕ)
    → named_place (length (map type_before ts)) (map type_before ts) n ≡ named_place (length ts) ts n
whole_chain ts all n = ap (λ (k : ℕ). named_place k (map type_before ts) n) (same_length ts)
    ∙ chain_before (length ts) ts all n

made_place : (ts : List Field) → All HasNoStruct ts → (p : Part) → IsNoStruct p
    → place_of (map type_before ts) (as_made p) ≡ place_of ts p
made_place ts all p is = one_part ts (map type_before ts) _ _ p (whole_chain ts all) is

same_place : (ts : List Field) → All HasNoStruct ts → (p : Part) → IsNoStruct p
    → place_of (map type_before ts) p ≡ place_of ts p
same_place ts all (IsBasic b) is = refl
same_place ts all (IsNamed n) is = whole_chain ts all n
same_place ts all (IsStruct n) is = absurd is
same_place ts all (IsMade k) is = refl
same_place ts all (IsStructMade k) is = refl
same_place ts all IsText is = refl
same_place ts all IsVoid is = refl

-- ---- lists

bound : {A B : Type 0} (o : Option A) (f g : A → Option B) → ((a : A) → f a ≡ g a) → (o >>= f) ≡ (o >>= g)
bound None f g same = refl
bound (Some a) f g same = same a

onto : {A B : Type 0} (P : A → Type 0) (f g : A → Option B) → ((a : A) → P a → f a ≡ g a) → (xs : List A)
    → All P xs → (before : List B) → each_onto f xs before ≡ each_onto g xs before
unfolding each_onto
onto P f g same [] all before = refl
onto P f g same (a ∷ rest) all before = rw (same a (head P a rest all)) (bound (g a) _ _
    (λ b. onto P f g same rest (tail P a rest all) (before ++ b ∷ [])))

given : {A B : Type 0} (P : A → Type 0) (f g : A → Option B) → ((a : A) → P a → f a ≡ g a) → (o : Option A)
    → IfSome o P → where_given f o ≡ where_given g o
unfolding where_given
given P f g same None all = refl
given P f g same (Some a) all = rw (same a all) refl

-- ---- kinds

same_field : (ts : List Field) → All HasNoStruct ts → (f : Field) → HasNoStruct f
    → one_field (map type_before ts) f ≡ one_field ts f
unfolding one_field
same_field ts all f is = rw (same_place ts all f.part is) refl

made_field : (ts : List Field) → All HasNoStruct ts → (f : Field) → HasNoStruct f
    → one_field (map type_before ts) (type_before f) ≡ one_field ts f
unfolding one_field
made_field ts all f is = rw (made_place ts all f.part is) refl

same_arm : (ks : List Known) (ts : List Field) → All HasNoStruct ts → (a : Arm) → HasNoStruct a.member
    → one_arm ks (map type_before ts) a ≡ one_arm ks ts a
unfolding one_arm
same_arm ks ts all a is = rw (same_field ts all a.member is) refl

same_kind : (ks : List Known) (ts : List Field) → All HasNoStruct ts → (d : Draft) → NoneInDraft d
    → one_kind ks (map type_before ts) d ≡ one_kind ks ts d
unfolding one_kind
same_kind ks ts all (DNumbered ms) is = refl
same_kind ks ts all (DOpaque v) is = refl
same_kind ks ts all (DOpaqueUpTo v) is = refl
same_kind ks ts all (DText v) is = refl
same_kind ks ts all (DFixed p v) is = rw (same_place ts all p is) refl
same_kind ks ts all (DUpTo p v) is = rw (same_place ts all p is) refl
same_kind ks ts all (DStructure fs) is =
    rw (onto HasNoStruct (one_field (map type_before ts)) (one_field ts) (same_field ts all) fs is []) refl
same_kind ks ts all (DChoice t arms other) is = rw (
  same_place ts all t is.0,
  onto (λ (a : Arm). HasNoStruct a.member) (one_arm ks (map type_before ts)) (one_arm ks ts) (same_arm ks ts all)
      arms is.1 [],
  given HasNoStruct (one_field (map type_before ts)) (one_field ts) (same_field ts all) other is.2,
) refl
same_kind ks ts all (DMaybe p) is = rw (same_place ts all p is) refl

made_types : {B : Type 0} (f g : Field → Option B) → ((t : Field) → HasNoStruct t → f (type_before t) ≡ g t)
    → (xs : List Field) → All HasNoStruct xs → (before : List B)
    → each_onto f (map type_before xs) before ≡ each_onto g xs before
unfolding each_onto
made_types f g same [] all before = refl
made_types f g same (t ∷ rest) all before = rw (same t (head HasNoStruct t rest all)) (bound (g t) _ _
    (λ b. made_types f g same rest (tail HasNoStruct t rest all) (before ++ b ∷ [])))

-- ---- programs

same_signature : (ts : List Field) → All HasNoStruct ts → (p : Procedure) → NoneInProcedure p
    → signature (map type_before ts) p ≡ signature ts p
unfolding signature
same_signature ts all p is = rw (
  onto IsNoStruct (place_of (map type_before ts)) (place_of ts) (same_place ts all) p.arguments is.0 [],
  given IsNoStruct (place_of (map type_before ts)) (place_of ts) (same_place ts all) p.result is.1,
) refl

same_procedure : (ts : List Field) → All HasNoStruct ts → (p : Procedure) → NoneInProcedure p
    → one_procedure (map type_before ts) p ≡ one_procedure ts p
unfolding one_procedure
same_procedure ts all p is = rw (same_signature ts all p is) refl

same_version : (ts : List Field) → All HasNoStruct ts → (v : Version) → NoneInVersion v
    → one_version (map type_before ts) v ≡ one_version ts v
unfolding one_version
same_version ts all v is = rw (onto NoneInProcedure (one_procedure (map type_before ts)) (one_procedure ts)
    (same_procedure ts all) v.procedures is []) refl

same_program : (ts : List Field) → All HasNoStruct ts → (p : Program) → NoneInProgram p
    → one_program (map type_before ts) p ≡ one_program ts p
unfolding one_program
same_program ts all p is = rw (onto NoneInVersion (one_version (map type_before ts)) (one_version ts)
    (same_version ts all) p.versions is []) refl

-- ---- all that definitions declare

pub same_meaning : (o : Outline) → NoneInOutline o → meaning (declared_before o) ≡ meaning o
unfolding meaning
same_meaning o none = bound (numbers o.constants []) _ _ (λ ks.
    rw (
      onto NoneInDraft (one_kind ks (map type_before o.types)) (one_kind ks o.types) (same_kind ks o.types none.1)
          o.drafts none.0 _,
      made_types (one_field (map type_before o.types)) (one_field o.types) (made_field o.types none.1) o.types none.1 _,
      onto NoneInProgram (one_program (map type_before o.types)) (one_program o.types) (same_program o.types none.1)
          o.programs none.2 [],
    ) refl)

same_type_names : (ts : List Field) → map (λ (t : Field). t.name) (map type_before ts) ≡ map (λ (t : Field). t.name) ts
same_type_names [] = refl
same_type_names (t ∷ ts) = ap (λ (ns : List (List ℕ)). t.name ∷ ns) (same_type_names ts)

pub same_names : (o : Outline) → has_twice (declared_before o) ≡ has_twice o
unfolding has_twice
same_names o = rw (same_type_names o.types) refl

-- ---- runs of letters

same_word : (b : Bool) (t u v : Lexeme) → as_name t ≡ t → u ≡ as_name v → cond b t u ≡ as_name (cond b t v)
same_word true t u v is later = sym is
same_word false t u v is later = later

after_long : List Keyword
after_long =
    word.Opaque ∷ word.Program ∷ word.Quadruple ∷ word.String ∷ word.Struct ∷ word.Switch ∷ word.Typedef ∷
    word.Union ∷ word.Unsigned ∷ word.Version ∷ word.Void ∷ []

one_word : (run : List ℕ) (w : Keyword) (u v : Lexeme) → as_name (Word w) ≡ Word w → u ≡ as_name v
    → cond (bytes_eq run (keyword w)) (Word w) u ≡ as_name (cond (bytes_eq run (keyword w)) (Word w) v)
one_word run w u v is later = same_word (bytes_eq run (keyword w)) (Word w) u v is later

words_after : (run : List ℕ) → word_among after_long run ≡ as_name (word_among after_long run)
unfolding word_among after_long
words_after run =
    one_word run word.Opaque _ _ refl
    (one_word run word.Program _ _ refl
    (one_word run word.Quadruple _ _ refl
    (one_word run word.String _ _ refl
    (one_word run word.Struct _ _ refl
    (one_word run word.Switch _ _ refl
    (one_word run word.Typedef _ _ refl
    (one_word run word.Union _ _ refl
    (one_word run word.Unsigned _ _ refl
    (one_word run word.Version _ _ refl
    (one_word run word.Void _ _ refl
    refl))))))))))

at_long : (run : List ℕ) (b : Bool) → (b ≡ true → run ≡ codes "long")
    → word_among after_long run ≡ as_name (cond b (Word word.Long) (word_among after_long run))
unfolding word_among after_long
at_long run true is = ap (word_among after_long) (is refl)
at_long run false is = words_after run

pub long_was_a_name : (run : List ℕ) → word_among (filter was_keyword keywords) run ≡ as_name (word_or_name run)
unfolding word_or_name word_among after_long
long_was_a_name run =
    one_word run word.Bool _ _ refl
    (one_word run word.Case _ _ refl
    (one_word run word.Const _ _ refl
    (one_word run word.Default _ _ refl
    (one_word run word.Double _ _ refl
    (one_word run word.Enum _ _ refl
    (one_word run word.Float _ _ refl
    (one_word run word.Hyper _ _ refl
    (one_word run word.Int _ _ refl
    (at_long run (bytes_eq run (codes "long")) (bytes_eq-Decides run (codes "long")).0)))))))))
