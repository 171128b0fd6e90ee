-- Where the declarations of a task come from: texts, or the basic schema alone.
use Rattle.std.specs.Prelude.{◌≡◌, ◌⊎◌, ℕ, List, [], ◌∷◌, map, Option, None, Some, ⊤, String, string_bytes}
use Rattle.std.specs.declared.alloc.Global.{Global}
use Rattle.std.specs.Io.KnownBytes.{Keeps}
use Rattle.xdr_io.specs.Reported.{Counts}
use Rattle.xdr_types.specs.Named.{basic}
use Rattle.xdr_lang.specs.Declarations.{Declared}
use Rattle.xdr_lang.specs.Means.{Means}
use Rattle.xdr_rpcgen.specs.DialectMeans.{DialectMeans}
use Rattle.xdr_rpcgen.specs.Files.{joined}
use Rattle.oncrpc_answers.specs.declared.failure.Failure.TheVariants as failure
use Rattle.oncrpc_answers.specs.declared.task.Dialect.{Dialect}
use Rattle.oncrpc_answers.specs.declared.task.Dialect.TheVariants as dialect
use Rattle.oncrpc_answers.specs.declared.task.Texts.{Texts}
use Rattle.oncrpc_tasks.specs.declared.unusable.Unusable.{Unusable}
use Rattle.oncrpc_tasks.specs.declared.unusable.Unusable.TheVariants as unusable

-- the basic schema, no constants and no programs
abbrev pub bare : Declared
bare = record { schema = basic; constants = []; programs = [] }

-- the text is the one that is reported, where one is
abbrev pub IsReported : Option (List ℕ) → List ℕ → Type 0
IsReported None text = ⊤
IsReported (Some reported) text = text ≡ reported

-- the texts are those of the files, in their order, each the one that is reported of its file, where one is
abbrev pub AreReported : (List ℕ → Option (List ℕ)) → List (String Global) → List (List ℕ) → Type 0
AreReported reported [] [] = ⊤
AreReported reported (f ∷ fs) (t ∷ ts) = IsReported (reported (string_bytes f)) t × AreReported reported fs ts
AreReported reported [] (t ∷ ts) = ⊥
AreReported reported (f ∷ fs) [] = ⊥

-- what a text means: in the RFCs' language (RFC 4506 section 6, RFC 5531 section 12), or in rpcgen's dialect with these
-- names defined (own)
abbrev pub MeansIn : Dialect → List ℕ → Declared → Type 0
MeansIn dialect.Rfc text d = Means text d
MeansIn (dialect.Rpcgen names) text d = DialectMeans (map string_bytes names.items) text d

-- what texts declare: the basic schema where there is none, else what they mean as one, a line feed between two
abbrev pub IsDeclared : Dialect → List (List ℕ) → Declared → Type 0
IsDeclared dialect [] d = d ≡ bare
IsDeclared dialect (t ∷ ts) d = MeansIn dialect (joined (t ∷ ts)) d

-- Texts that are reported declare this, and nothing else.
pub record Declares (reported : List ℕ → Option (List ℕ)) (types : Texts) (d : Declared) : Type 0 where
  pub texts : List (List ℕ)
  pub are_reported : AreReported reported types.files.items texts
  pub declared : IsDeclared types.dialect texts d
  pub only : (e : Declared) → IsDeclared types.dialect texts e → e ≡ d

-- Texts that are reported have no meaning.
pub record DeclaresNothing (reported : List ℕ → Option (List ℕ)) (types : Texts) : Type 0 where
  pub texts : List (List ℕ)
  pub are_reported : AreReported reported types.files.items texts
  pub none : (d : Declared) → IsDeclared types.dialect texts d → ⊥

-- why there are no declarations: the texts have no meaning, could not be read, or there was no memory for them
abbrev pub HasNone : (List ℕ → Option (List ℕ)) → Texts → Unusable → Type 0
HasNone reported types (unusable.Declaration file fault) = DeclaresNothing reported types
HasNone reported types (unusable.Failed f) = (f ≡ failure.Read) ⊎ (f ≡ failure.NoMemory)
HasNone reported types _ = ⊥

-- a text that was opened, and is the one that is reported, had a read that failed
abbrev pub FailsToRead : {T : Type 0} → (T → Option (List ℕ)) → (T → Option ℕ) → Option (List ℕ) → Type 0
FailsToRead {T} left failures reported =
    (text text' : T) × Keeps reported (left text) × Counts 1 (failures text) (failures text')

-- One of the files could not be opened, or was opened and had a read that failed.
abbrev pub FileFails : {T : Type 0} → (T → Option (List ℕ)) → (T → Option ℕ) → (List ℕ → Option (List ℕ))
    → List (String Global) → Option ℕ → Option ℕ → Type 0
FileFails {T} left text_failures reported [] failures failures' = ⊥
FileFails {T} left text_failures reported (f ∷ fs) failures failures' =
    (Counts 1 failures failures' ⊎ FailsToRead left text_failures (reported (string_bytes f)))
    ⊎ FileFails left text_failures reported fs failures failures'
