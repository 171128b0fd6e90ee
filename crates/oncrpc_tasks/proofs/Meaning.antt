-- What a text means in the language that it is in.
use Rattle.std.proofs.Common.{◌≡◌, ◌≢◌, ℕ, List, map, sym, subst, String, string_bytes, Vec}
use Rattle.std.specs.declared.alloc.Global.{Global}
use Rattle.xdr_lang.specs.Declarations.{Declared}
use Rattle.xdr_lang.specs.Means.{Means}
use Rattle.xdr_lang.specs.declared.lang_fault.LangFault.{LangFault}
use Rattle.xdr_rpcgen.specs.DialectMeans.{DialectMeans}
use Rattle.oncrpc_answers.specs.declared.task.Dialect.{Dialect}
use Rattle.oncrpc_answers.specs.declared.task.Dialect.TheVariants as dialect
use Rattle.oncrpc_tasks.specs.declared.unusable.Unusable.{Unusable}
use Rattle.oncrpc_tasks.specs.declared.unusable.Unusable.TheVariants as unusable
use Rattle.oncrpc_tasks.specs.Private.Meant.{MeansNone, RefusedFor}
use Rattle.oncrpc_tasks.specs.Sources.{MeansIn}

-- a refusal of a text that means nothing else
none_meant : (k : Dialect) (t : List ℕ) (e : LangFault) (w : Unusable) → RefusedFor e w
    → (e.number ≢ 13 → (d : Declared) → MeansIn k t d → ⊥) → MeansNone k t w
none_meant k t e (unusable.Declaration file fault) not none = none not
none_meant k t e (unusable.Failed f) memory none = memory
none_meant k t e unusable.Name h none = absurd h
none_meant k t e unusable.Limits h none = absurd h

-- ---- the RFCs' language

module _ (k : Dialect) (t : List ℕ) (is : k ≡ dialect.Rfc) where
  pub rfc_means : (d : Declared) → Means t d → MeansIn k t d
  rfc_means d m = subst (λ (x : Dialect). MeansIn x t d) (sym is) m

  pub means_rfc : (d : Declared) → MeansIn k t d → Means t d
  means_rfc d m = subst (λ (x : Dialect). MeansIn x t d) is m

  pub none_rfc : (e : LangFault) (w : Unusable) → RefusedFor e w
      → (e.number ≢ 13 → (d : Declared) → Means t d → ⊥) → MeansNone k t w
  none_rfc e w refused none = none_meant k t e w refused (λ not d m. none not d (means_rfc d m))

-- ---- rpcgen's dialect

module _ (k : Dialect) (t : List ℕ) (names : Vec (String Global) Global) (is : k ≡ dialect.Rpcgen names) where
  pub dialect_means : (d : Declared) → DialectMeans (map string_bytes names.items) t d → MeansIn k t d
  dialect_means d m = subst (λ (x : Dialect). MeansIn x t d) (sym is) m

  pub means_dialect : (d : Declared) → MeansIn k t d → DialectMeans (map string_bytes names.items) t d
  means_dialect d m = subst (λ (x : Dialect). MeansIn x t d) is m

  pub none_dialect : (e : LangFault) (w : Unusable) → RefusedFor e w
      → (e.number ≢ 13 → (d : Declared) → DialectMeans (map string_bytes names.items) t d → ⊥) → MeansNone k t w
  none_dialect e w refused none = none_meant k t e w refused (λ not d m. none not d (means_dialect d m))
