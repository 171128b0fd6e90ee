-- What the files of a task declare.
use Rattle.std.proofs.Common.{◌≡◌, ℕ, List, [], ◌∷◌, ◌++◌, Option, Some, None, IfSome, subst, ap, ◌∙◌, map}
use Rattle.std.proofs.Common.{String, string_bytes, Vec}
use Rattle.std.specs.declared.alloc.Global.{Global}
use Rattle.std.proofs.lemmas.List.{append-nil}
use Rattle.xdr_lang.specs.Declarations.{Declared}
use Rattle.xdr_lang.specs.Means.{Means}
use Rattle.xdr_rpcgen.specs.DialectMeans.{DialectMeans}
use Rattle.xdr_rpcgen.specs.Files.{behind_feeds, joined}
use Rattle.oncrpc_answers.specs.declared.task.Dialect.{Dialect}
use Rattle.oncrpc_answers.specs.declared.task.Dialect.TheVariants as dialect
use Rattle.oncrpc_tasks.specs.Sources.{bare, AreReported, IsDeclared, IsReported, MeansIn}

-- one text is itself
pub joined_one : (t : List ℕ) → joined (t ∷ []) ≡ t
unfolding behind_feeds
joined_one t = append-nil t

joined_two : (t u : List ℕ) → joined (t ∷ u ∷ []) ≡ t ++ 10 ∷ u
unfolding behind_feeds
joined_two t u = ap (λ (x : List ℕ). t ++ x) (append-nil (10 ∷ u))

-- without a file the basic kinds are declared
of_none : (reported : List ℕ → Option (List ℕ)) (k : Dialect) (texts : List (List ℕ)) (d : Declared)
    → AreReported reported [] texts → IsDeclared k texts d → d ≡ bare
of_none reported k [] d are m = m
of_none reported k (t ∷ ts) d are m = absurd are

pub no_file : (reported : List ℕ → Option (List ℕ)) (files : List (String Global)) (k : Dialect)
    (texts : List (List ℕ)) (d : Declared) → files ≡ [] → AreReported reported files texts → IsDeclared k texts d
    → d ≡ bare
no_file reported files k texts d none are m =
    of_none reported k texts d (subst (λ (fs : List (String Global)). AreReported reported fs texts) none are) m

-- of one file its text
reported_is : (r : Option (List ℕ)) (t : List ℕ) (P : List ℕ → Type 0) → IsReported r t → P t → IfSome r P
reported_is None t P is h = tt
reported_is (Some text) t P is h = subst (λ (x : List ℕ). P x) is h

of_one : (reported : List ℕ → Option (List ℕ)) (k : Dialect) (f : String Global) (texts : List (List ℕ)) (d : Declared)
    → AreReported reported (f ∷ []) texts → IsDeclared k texts d
    → IfSome (reported (string_bytes f)) (λ text. (e : Declared) × MeansIn k text e)
of_one reported k f [] d are m = absurd are
of_one reported k f (t ∷ []) d are m =
    reported_is (reported (string_bytes f)) t (λ text. (e : Declared) × MeansIn k text e) are.0
    (d, subst (λ (x : List ℕ). MeansIn k x d) (joined_one t) m)
of_one reported k f (t ∷ u ∷ ts) d are m = absurd are.1

pub one_file : (reported : List ℕ → Option (List ℕ)) (files : List (String Global)) (k : Dialect) (f : String Global)
    (texts : List (List ℕ)) (d : Declared) → files ≡ f ∷ [] → AreReported reported files texts → IsDeclared k texts d
    → IfSome (reported (string_bytes f)) (λ text. (e : Declared) × MeansIn k text e)
one_file reported files k f texts d one are m =
    of_one reported k f texts d (subst (λ (fs : List (String Global)). AreReported reported fs texts) one are) m

pub in_language : (k : Dialect) (r : Option (List ℕ)) → k ≡ dialect.Rfc
    → IfSome r (λ text. (e : Declared) × MeansIn k text e) → IfSome r (λ text. (e : Declared) × Means text e)
in_language k r is h =
    subst (λ (x : Dialect). IfSome r (λ text. (e : Declared) × MeansIn x text e)) is h

pub in_dialect : (k : Dialect) (names : Vec (String Global) Global) (r : Option (List ℕ)) → k ≡ dialect.Rpcgen names
    → IfSome r (λ text. (e : Declared) × MeansIn k text e)
    → IfSome r (λ text. (e : Declared) × DialectMeans (map string_bytes names.items) text e)
in_dialect k names r is h =
    subst (λ (x : Dialect). IfSome r (λ text. (e : Declared) × MeansIn x text e)) is h

-- of two files both texts
of_two : (reported : List ℕ → Option (List ℕ)) (k : Dialect) (f g : String Global) (texts : List (List ℕ))
    (d : Declared) (first second : List ℕ) → AreReported reported (f ∷ g ∷ []) texts → IsDeclared k texts d
    → reported (string_bytes f) ≡ Some first → reported (string_bytes g) ≡ Some second
    → MeansIn k (first ++ 10 ∷ second) d
of_two reported k f g [] d first second are m p q = absurd are
of_two reported k f g (t ∷ []) d first second are m p q = absurd are.1
of_two reported k f g (t ∷ u ∷ []) d first second are m p q =
    let one : t ≡ first = subst (λ (r : Option (List ℕ)). IsReported r t) p are.0 in
    let two : u ≡ second = subst (λ (r : Option (List ℕ)). IsReported r u) q are.1.0 in
    subst (λ (x : List ℕ). MeansIn k x d) (joined_two t u
    ∙ ap (λ (x : List ℕ). x ++ 10 ∷ u) one ∙ ap (λ (x : List ℕ). first ++ 10 ∷ x) two) m
of_two reported k f g (t ∷ u ∷ v ∷ ts) d first second are m p q = absurd are.1.1

pub two_files : (reported : List ℕ → Option (List ℕ)) (files : List (String Global)) (k : Dialect) (f g : String Global)
    (texts : List (List ℕ)) (d : Declared) (first second : List ℕ) → files ≡ f ∷ g ∷ [] → k ≡ dialect.Rfc
    → AreReported reported files texts → IsDeclared k texts d → reported (string_bytes f) ≡ Some first
    → reported (string_bytes g) ≡ Some second → (e : Declared) × Means (first ++ 10 ∷ second) e
two_files reported files k f g texts d first second two is are m p q = (
  d,
  subst (λ (x : Dialect). MeansIn x (first ++ 10 ∷ second) d) is
      (of_two reported k f g texts d first second
      (subst (λ (fs : List (String Global)). AreReported reported fs texts) two are) m p q),
)
