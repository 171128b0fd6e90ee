-- From the bytes that were read of texts to the texts that are reported.
use Rattle.std.proofs.Common.{◌≡◌, ℕ, ◌+◌, ◌≤◌, List, [], ◌∷◌, ◌++◌, length, Option, None, Some, String, sym, ◌∙◌, ap}
use Rattle.std.proofs.Common.{refl, subst, arith, length-append, inr, ◌<◌, Result, Ok, Err, IfOk, IfErr, IsErrOf}
use Rattle.std.specs.declared.alloc.Global.{Global}
use Rattle.std.proofs.lemmas.List.{append-nil}
use Rattle.std.specs.Io.KnownBytes.{Keeps, Consumes, IsAtEnd}
use Rattle.xdr_lang.specs.Declarations.{Declared}
use Rattle.xdr_lang.specs.Views.{declared_of}
use Rattle.xdr_lang.specs.declared.declarations.Declared as declared
use Rattle.xdr_rpcgen.specs.Files.{behind_feeds, joined}
use Rattle.oncrpc_answers.specs.declared.failure.Failure.TheVariants as failure
use Rattle.oncrpc_answers.specs.declared.task.Dialect.{Dialect}
use Rattle.oncrpc_answers.specs.declared.task.Dialect.TheVariants as dialect
use Rattle.oncrpc_answers.specs.declared.task.Texts.{Texts}
use Rattle.oncrpc_tasks.specs.Input.{BeginsInput}
use Rattle.oncrpc_tasks.specs.declared.unusable.Unusable.{Unusable}
use Rattle.oncrpc_tasks.specs.declared.unusable.Unusable.TheVariants as unusable
use Rattle.oncrpc_tasks.specs.Private.Gathered.{IsRead, AreRead}
use Rattle.oncrpc_tasks.specs.Private.Meant.{DeclareNone, IsSame, MeansNone}
use Rattle.oncrpc_tasks.specs.Sources.{AreReported, Declares, DeclaresNothing, HasNone, IsDeclared, IsReported, MeansIn}
use Rattle.oncrpc_tasks.specs.Sources.{bare}

-- The bytes that were read begin the text that is reported, and are all of it where they are no more than enough.
pub begins_reported : (reported left left' : Option (List ℕ)) (bytes : List ℕ) → Keeps reported left
    → Consumes left left' bytes → (length bytes ≤ 262144 → IsAtEnd left') → IsRead reported bytes
begins_reported None left left' bytes retained read end = (bytes, tt, ([], sym (append-nil bytes), λ _. refl))
begins_reported (Some reported) None left' bytes retained read end = absurd retained
begins_reported (Some reported) (Some left) None bytes retained read end = absurd read
begins_reported (Some reported) (Some left) (Some left') bytes retained read end =
    (reported, refl, (left', sym retained ∙ read, end))

-- the texts, each with the bytes that were read of it
EachBegins : (ts bs : List (List ℕ)) → Type 0
EachBegins [] [] = Unit {0}
EachBegins (t ∷ ts) (b ∷ bs) = BeginsInput 262144 t b × EachBegins ts bs
EachBegins [] (b ∷ bs) = ⊥
EachBegins (t ∷ ts) [] = ⊥

texts_read : (reported : List ℕ → Option (List ℕ)) (fs : List (String Global)) (bs : List (List ℕ))
    → AreRead reported fs bs → (ts : List (List ℕ)) × AreReported reported fs ts × EachBegins ts bs
unfolding EachBegins
texts_read reported [] [] h = ([], tt, tt)
texts_read reported (f ∷ fs) (b ∷ bs) h =
    let others = texts_read reported fs bs h.1 in
    (h.0.0 ∷ others.0, (h.0.1, others.1), (h.0.2, others.2))
texts_read reported [] (b ∷ bs) h = absurd h
texts_read reported (f ∷ fs) [] h = absurd h

-- A text that is not too long was read to its end.
all_read : (text bytes : List ℕ) → BeginsInput 262144 text bytes → length bytes ≤ 262144 → text ≡ bytes
all_read text bytes begins short = begins.1 ∙ ap (λ rest. bytes ++ rest) (begins.2 short) ∙ append-nil bytes

no_shorter : (text bytes : List ℕ) → BeginsInput 262144 text bytes → length text ≤ 262144 → length bytes ≤ 262144
no_shorter text bytes begins short =
    let counts : length text ≡ length bytes + length begins.0 = ap length begins.1 ∙ length-append bytes begins.0 in
    omega arith

-- the length of texts behind line feeds
feed_length : (t : List ℕ) (ts : List (List ℕ))
    → length (behind_feeds (t ∷ ts)) ≡ length t + 1 + length (behind_feeds ts)
unfolding behind_feeds
feed_length t ts = omega (arith, length-append (10 ∷ t) (behind_feeds ts))

joined_length : (t : List ℕ) (ts : List (List ℕ)) → length (joined (t ∷ ts)) ≡ length t + length (behind_feeds ts)
joined_length t ts = length-append t (behind_feeds ts)

both : (t b : List ℕ) (ts bs : List (List ℕ)) → t ≡ b → ts ≡ bs → t ∷ ts ≡ b ∷ bs
both t b ts bs first others = ap (λ (x : List ℕ). x ∷ ts) first ∙ ap (λ (xs : List (List ℕ)). b ∷ xs) others

-- Texts of which few bytes were read were read to their end,
feeds_read : (ts bs : List (List ℕ)) → EachBegins ts bs → length (behind_feeds bs) ≤ 262144 → ts ≡ bs
unfolding EachBegins
feeds_read [] [] h short = refl
feeds_read (t ∷ ts) (b ∷ bs) h short =
    let counts = feed_length b bs in
    both t b ts bs (all_read t b h.0 (omega arith)) (feeds_read ts bs h.1 (omega arith))
feeds_read [] (b ∷ bs) h short = absurd h
feeds_read (t ∷ ts) [] h short = absurd h

each_read : (ts bs : List (List ℕ)) → EachBegins ts bs → length (joined bs) ≤ 262144 → ts ≡ bs
unfolding EachBegins
each_read [] [] h short = refl
each_read (t ∷ ts) (b ∷ bs) h short =
    let counts = joined_length b bs in
    both t b ts bs (all_read t b h.0 (omega arith)) (feeds_read ts bs h.1 (omega arith))
each_read [] (b ∷ bs) h short = absurd h
each_read (t ∷ ts) [] h short = absurd h

-- and so were texts that are short themselves.
feeds_short : (ts bs : List (List ℕ)) → EachBegins ts bs → length (behind_feeds ts) ≤ 262144 → ts ≡ bs
unfolding EachBegins
feeds_short [] [] h short = refl
feeds_short (t ∷ ts) (b ∷ bs) h short =
    let counts = feed_length t ts in
    both t b ts bs (all_read t b h.0 (no_shorter t b h.0 (omega arith))) (feeds_short ts bs h.1 (omega arith))
feeds_short [] (b ∷ bs) h short = absurd h
feeds_short (t ∷ ts) [] h short = absurd h

each_short : (ts bs : List (List ℕ)) → EachBegins ts bs → length (joined ts) ≤ 262144 → ts ≡ bs
unfolding EachBegins
each_short [] [] h short = refl
each_short (t ∷ ts) (b ∷ bs) h short =
    let counts = joined_length t ts in
    both t b ts bs (all_read t b h.0 (no_shorter t b h.0 (omega arith))) (feeds_short ts bs h.1 (omega arith))
each_short [] (b ∷ bs) h short = absurd h
each_short (t ∷ ts) [] h short = absurd h

-- A text that means something is not too long,
short_in : (d : Dialect) (text : List ℕ) (v : Declared) → MeansIn d text v → length text ≤ 262144
short_in dialect.Rfc text v m = m.short
short_in (dialect.Rpcgen names) text v m = m.short

-- so texts declare what was read of them declares.
declared_read : (d : Dialect) (ts bs : List (List ℕ)) (v : Declared) → EachBegins ts bs → IsDeclared d bs v → ts ≡ bs
unfolding EachBegins
declared_read d [] [] v h m = refl
declared_read d (t ∷ ts) (b ∷ bs) v h m = each_read (t ∷ ts) (b ∷ bs) h (short_in d (joined (b ∷ bs)) v m)
declared_read d [] (b ∷ bs) v h m = absurd h
declared_read d (t ∷ ts) [] v h m = absurd h

declared_short : (d : Dialect) (ts bs : List (List ℕ)) (v : Declared) → EachBegins ts bs → IsDeclared d ts v → ts ≡ bs
unfolding EachBegins
declared_short d [] [] v h m = refl
declared_short d (t ∷ ts) (b ∷ bs) v h m = each_short (t ∷ ts) (b ∷ bs) h (short_in d (joined (t ∷ ts)) v m)
declared_short d [] (b ∷ bs) v h m = absurd h
declared_short d (t ∷ ts) [] v h m = absurd h

pub declares_texts : (reported : List ℕ → Option (List ℕ)) (types : Texts) (bs : List (List ℕ)) (d : Declared)
    → AreRead reported types.files.items bs → IsDeclared types.dialect bs d
    → ((e : Declared) → IsDeclared types.dialect bs e → d ≡ e) → Declares reported types d
declares_texts reported types bs d read means one =
    let begun = texts_read reported types.files.items bs read in
    let same : begun.0 ≡ bs = declared_read types.dialect begun.0 bs d begun.2 means in
    record {
      texts = begun.0;
      are_reported = begun.1;
      declared = subst (λ (ts : List (List ℕ)). IsDeclared types.dialect ts d) (sym same) means;
      only = λ e m. sym (one e (subst (λ (ts : List (List ℕ)). IsDeclared types.dialect ts e) same m));
    }

-- Where what was read declares nothing, neither do the texts.
pub declares_nothing : (reported : List ℕ → Option (List ℕ)) (types : Texts) (bs : List (List ℕ))
    → AreRead reported types.files.items bs → ((d : Declared) → IsDeclared types.dialect bs d → ⊥)
    → DeclaresNothing reported types
declares_nothing reported types bs read none =
    let begun = texts_read reported types.files.items bs read in
    record {
      texts = begun.0;
      are_reported = begun.1;
      none = λ d m.
          let same : begun.0 ≡ bs = declared_short types.dialect begun.0 bs d begun.2 m in
          none d (subst (λ (ts : List (List ℕ)). IsDeclared types.dialect ts d) same m);
    }

-- The same of the answer to reading them.
pub declares_by : (reported : List ℕ → Option (List ℕ)) (types : Texts) (bs : List (List ℕ))
    → AreRead reported types.files.items bs → (r : Result declared.Declared Unusable)
    → IfOk r (λ d. IsDeclared types.dialect bs (declared_of d))
    → ((e : Declared) → IsDeclared types.dialect bs e → IfOk r (λ v. declared_of v ≡ e))
    → IfOk r (λ d. Declares reported types (declared_of d))
declares_by reported types bs read (Ok d) found only = declares_texts reported types bs (declared_of d) read found only
declares_by reported types bs read (Err why) found only = tt

pub refuses_by : (reported : List ℕ → Option (List ℕ)) (types : Texts) (bs : List (List ℕ))
    → AreRead reported types.files.items bs → (r : Result declared.Declared Unusable)
    → IfErr r (λ why. DeclareNone types.dialect bs why) → IfErr r (λ why. HasNone reported types why)
refuses_by reported types bs read (Ok d) none = tt
refuses_by reported types bs read (Err (unusable.Declaration file fault)) none =
    declares_nothing reported types bs read none
refuses_by reported types bs read (Err (unusable.Failed f)) none = inr none
refuses_by reported types bs read (Err unusable.Name) none = absurd none
refuses_by reported types bs read (Err unusable.Limits) none = absurd none

-- No read fails once all texts are there.
pub unread_none : (k : Dialect) (bs : List (List ℕ)) (r : Result declared.Declared Unusable)
    → IfErr r (λ why. DeclareNone k bs why) → IsErrOf r (unusable.Failed failure.Read) → ⊥
unread_none k bs (Ok d) none is = cc
unread_none k bs (Err (unusable.Declaration file fault)) none is = cc
unread_none k bs (Err (unusable.Failed f)) none is = cc
unread_none k bs (Err unusable.Name) none is = cc
unread_none k bs (Err unusable.Limits) none is = cc

-- ---- what no texts declare, and what some do

pub none_declare : (k : Dialect) (bs : List (List ℕ)) (d : Declared) → bs ≡ [] → d ≡ bare → IsDeclared k bs d
none_declare k bs d none is = subst (λ (ts : List (List ℕ)). IsDeclared k ts d) (sym none) is

pub none_only : (k : Dialect) (bs : List (List ℕ)) (d e : Declared) → bs ≡ [] → d ≡ bare → IsDeclared k bs e → d ≡ e
none_only k bs d e none is m =
    is ∙ sym (subst (λ (ts : List (List ℕ)). IsDeclared k ts e) none m)

pub some_declare : (k : Dialect) (bs : List (List ℕ)) (d : Declared) → 0 < length bs → MeansIn k (joined bs) d
    → IsDeclared k bs d
some_declare k [] d some m = absurd (omega (arith, some))
some_declare k (b ∷ bs) d some m = m

pub some_mean : (k : Dialect) (bs : List (List ℕ)) (d : Declared) → 0 < length bs → IsDeclared k bs d
    → MeansIn k (joined bs) d
some_mean k [] d some m = absurd (omega (arith, some))
some_mean k (b ∷ bs) d some m = m

-- a refusal of the texts as one
pub refused_as_one : (k : Dialect) (bs : List (List ℕ)) (w v : Unusable) → 0 < length bs
    → MeansNone k (joined bs) w → IsSame w v → DeclareNone k bs v
refused_as_one k bs (unusable.Declaration file fault) (unusable.Declaration file' fault') some none same =
    λ d m. none d (some_mean k bs d some m)
refused_as_one k bs (unusable.Declaration file fault) (unusable.Failed f) some none same = absurd same
refused_as_one k bs (unusable.Declaration file fault) unusable.Name some none same = absurd same
refused_as_one k bs (unusable.Declaration file fault) unusable.Limits some none same = absurd same
refused_as_one k bs (unusable.Failed f) v some none same = subst (λ (x : Unusable). DeclareNone k bs x) (sym same) none
refused_as_one k bs unusable.Name v some none same = absurd none
refused_as_one k bs unusable.Limits v some none same = absurd none
