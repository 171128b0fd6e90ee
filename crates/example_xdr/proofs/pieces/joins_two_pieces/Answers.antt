use Rattle.std.proofs.Common.{◌≡◌, ◌≤◌, ◌++◌, [], List, ℕ, subst, sym, ap, ◌∙◌, Result, Ok, IfErr, refl}
use Rattle.std.proofs.lemmas.List.{append-nil}
use Rattle.std.proofs.lemmas.Result.{err_from_is_err_and}
use Rattle.xdr_types.specs.Kinds.{KindView, Lists}
use Rattle.xdr_types.specs.Spelling.{bytes_of}
use Rattle.xdr_types.specs.Within.{Bounds, FitsWithin}
use Rattle.xdr_types.specs.declared.kind.KindId.{KindId}
use Rattle.xdr_stream.specs.Represents.{taken}
use Rattle.xdr_codec.specs.Represents.{AnswersAs, FinishesAs}
use Rattle.xdr_stream.specs.declared.fault.Reason.TheVariants.{NoMemory}
use Rattle.xdr_stream.specs.declared.fault.DecodeFault.{DecodeFault}
use Rattle.xdr_stream.specs.declared.reader.Progress.{Progress}
use Rattle.xdr_stream.specs.declared.reader.Progress.TheVariants.{Done}
use Rattle.example_xdr.specs.Rfc.{file_kinds, sillyprog, sillyprog_bytes}
use Rattle.example_xdr.proofs.Accepted.{ended, ended_whole, joined, waits, waits_second}
use Rattle.example_xdr.proofs.pieces.joins_two_pieces.Goals as goal

moved : (kinds : List KindView) (place : ℕ) (limits : Bounds) → kinds ≡ file_kinds → place ≡ 6 → 3 ≤ limits.depth
    → 48 ≤ limits.bytes → FitsWithin kinds place limits sillyprog
moved kinds place limits e f deep buffer =
    subst (λ (k : List KindView). FitsWithin k place limits sillyprog) (sym e)
    (subst (λ (p : ℕ). FitsWithin file_kinds p limits sillyprog) (sym f) (refl, (deep, buffer)))

-- what is said of a decoder's settings is said of these
settled : (Said : List KindView → ℕ → Bounds → Type 0) (kinds : List KindView) (place : ℕ) (limits l : Bounds)
    → kinds ≡ file_kinds → place ≡ 6 → limits ≡ l → Said kinds place limits → Said file_kinds 6 l
settled Said kinds place limits l e f g h =
    subst (λ (x : Bounds). Said file_kinds 6 x) g
    (subst (λ (n : ℕ). Said file_kinds n limits) f (subst (λ (k : List KindView). Said k place limits) e h))

pub returns-clause-value : goal.returns-clause-value
returns-clause-value c =
    let start = c.start-decoder.result in
    let one = c.feed.ensures.same in
    let two = c.feed-2.ensures.same in
    let d = c.feed-2.new.self in
    let set = c.start-decoder.ensures.settings in
    let p = c.in_ok-feed.field-0 in
    let q = c.in_ok-feed-2.field-0 in
    let kinds : d.reader.schema.now.kinds ≡ file_kinds =
    ap (λ (s : Lists). s.kinds) (two.schema_is ∙ one.schema_is ∙ set.schema_is) ∙ c.requires.kinds in
    let place : d.reader.kind.place ≡ 6 = ap (λ (k : KindId). k.place) (two.kind_is ∙ one.kind_is ∙ set.kind_is) in
    let limits : d.reader.limits ≡ c.args.limits = two.limits_are ∙ one.limits_are ∙ set.limits_are in
    let fit : FitsWithin d.reader.schema.now.kinds d.reader.kind.place d.reader.limits sillyprog =
    moved d.reader.schema.now.kinds d.reader.kind.place d.reader.limits kinds place
    (subst (λ (l : Bounds). 3 ≤ l.depth) (sym limits) c.requires.deep)
    (subst (λ (l : Bounds). 48 ≤ l.bytes) (sym limits) c.requires.buffer) in
    let bytes : bytes_of d.reader.schema.now.kinds d.reader.kind.place sillyprog ≡ sillyprog_bytes =
    ap (λ (k : List KindView). bytes_of k d.reader.kind.place sillyprog) kinds
    ∙ ap (λ (n : ℕ). bytes_of file_kinds n sillyprog) place in
    let first = c.in_ok-feed.ensures.represents [] c.start-decoder.ensures.represents in
    let second = c.in_ok-feed-2.ensures.represents ([] ++ taken c.args.first.now (Ok p)) first in
    let end = c.finish.ensures.answer (([] ++ taken c.args.first.now (Ok p)) ++ taken c.args.second.now (Ok q)) second
    in
    ended d.reader.schema.now.kinds d.reader.kind.place d.reader.limits sillyprog
    (([] ++ taken c.args.first.now (Ok p)) ++ taken c.args.second.now (Ok q)) c.finish.result end
    (λ v fits reported. joined d.reader.schema.now.kinds d.reader.kind.place d.reader.limits sillyprog v
    c.args.first.now c.args.second.now p q
    (λ used is. let again = c.feed-2.ensures.stays.again (c.in_ok-feed.ensures.leaves.done used is) in let same : q
    ≡ Done 0 = cc (again, c.in_ok-feed-2.was) in same)
    fit fits reported (bytes ∙ sym c.requires.input))

pub returns-in_err-feed-clause-taken : goal.returns-in_err-feed-clause-taken
returns-in_err-feed-clause-taken c =
    let d = c.start-decoder.result in
    let set = c.start-decoder.ensures.settings in
    let l = c.args.limits in
    let first = c.args.first.now in
    let second = c.args.second.now in
    let fit : FitsWithin file_kinds 6 l sillyprog = (refl, (c.requires.deep, c.requires.buffer)) in
    let whole : bytes_of file_kinds 6 sillyprog ++ [] ≡ first ++ second =
    append-nil (bytes_of file_kinds 6 sillyprog) ∙ sym c.requires.input in
    let answer = settled (λ (k : List KindView) (n : ℕ) (b : Bounds).
    AnswersAs k n b ([] ++ taken first c.feed.result) c.feed.result)
    d.reader.schema.now.kinds d.reader.kind.place d.reader.limits l
    (ap (λ (s : Lists). s.kinds) set.schema_is ∙ c.requires.kinds) (ap (λ (k : KindId). k.place) set.kind_is)
    set.limits_are (c.feed.ensures.answer [] c.start-decoder.ensures.represents) in
    let reported : IfErr c.feed.result (λ f. f.why ≡ NoMemory) =
    waits file_kinds 6 l first second sillyprog fit whole c.feed.result answer in
    let why : c.in_err-feed.field-0.0.why ≡ NoMemory =
    subst (λ (x : Result Progress DecodeFault). IfErr x (λ f. f.why ≡ NoMemory)) c.in_err-feed.was reported in
    let p = err_from_is_err_and c.from_residual.result c.from_residual.ensures.1 in
    rw (p.1, p.2) why

pub returns-in_err-feed-2-clause-taken : goal.returns-in_err-feed-2-clause-taken
returns-in_err-feed-2-clause-taken c =
    let one = c.feed.ensures.same in
    let d = c.feed.new.self in
    let set = c.start-decoder.ensures.settings in
    let p = c.in_ok-feed.field-0 in
    let r = c.feed-2.result in
    let l = c.args.limits in
    let first = c.args.first.now in
    let second = c.args.second.now in
    let fit : FitsWithin file_kinds 6 l sillyprog = (refl, (c.requires.deep, c.requires.buffer)) in
    let whole : bytes_of file_kinds 6 sillyprog ≡ first ++ second = sym c.requires.input in
    let represents = c.in_ok-feed.ensures.represents [] c.start-decoder.ensures.represents in
    let answer = settled (λ (k : List KindView) (n : ℕ) (b : Bounds).
    AnswersAs k n b (([] ++ taken first (Ok p)) ++ taken second r) r)
    d.reader.schema.now.kinds d.reader.kind.place d.reader.limits l
    (ap (λ (s : Lists). s.kinds) (one.schema_is ∙ set.schema_is) ∙ c.requires.kinds)
    (ap (λ (k : KindId). k.place) (one.kind_is ∙ set.kind_is))
    (one.limits_are ∙ set.limits_are) (c.feed-2.ensures.answer ([] ++ taken first (Ok p)) represents) in
    let reported : IfErr r (λ f. f.why ≡ NoMemory) =
    waits_second file_kinds 6 l first second sillyprog p r
    (λ used is. c.feed-2.ensures.stays.again (c.in_ok-feed.ensures.leaves.done used is)) fit whole answer in
    let why : c.in_err-feed-2.field-0.0.why ≡ NoMemory =
    subst (λ (x : Result Progress DecodeFault). IfErr x (λ f. f.why ≡ NoMemory)) c.in_err-feed-2.was reported in
    let p = err_from_is_err_and c.from_residual-in_err-feed-2.result c.from_residual-in_err-feed-2.ensures.1 in
    rw (p.1, p.2) why

pub returns-clause-taken : goal.returns-clause-taken
returns-clause-taken c =
    let one = c.feed.ensures.same in
    let two = c.feed-2.ensures.same in
    let d = c.feed-2.new.self in
    let set = c.start-decoder.ensures.settings in
    let p = c.in_ok-feed.field-0 in
    let q = c.in_ok-feed-2.field-0 in
    let l = c.args.limits in
    let first = c.args.first.now in
    let second = c.args.second.now in
    let fit : FitsWithin file_kinds 6 l sillyprog = (refl, (c.requires.deep, c.requires.buffer)) in
    let whole : bytes_of file_kinds 6 sillyprog ≡ first ++ second = sym c.requires.input in
    let both = ([] ++ taken first (Ok p)) ++ taken second (Ok q) in
    let represents = c.in_ok-feed.ensures.represents [] c.start-decoder.ensures.represents in
    let after = c.in_ok-feed-2.ensures.represents ([] ++ taken first (Ok p)) represents in
    let before = c.feed.new.self in
    let answer = settled (λ (k : List KindView) (n : ℕ) (b : Bounds). AnswersAs k n b both (Ok q))
    before.reader.schema.now.kinds before.reader.kind.place before.reader.limits l
    (ap (λ (s : Lists). s.kinds) (one.schema_is ∙ set.schema_is) ∙ c.requires.kinds)
    (ap (λ (k : KindId). k.place) (one.kind_is ∙ set.kind_is))
    (one.limits_are ∙ set.limits_are) (c.in_ok-feed-2.ensures.answer ([] ++ taken first (Ok p)) represents) in
    let end = settled (λ (k : List KindView) (n : ℕ) (b : Bounds). FinishesAs k n b both c.finish.result)
    d.reader.schema.now.kinds d.reader.kind.place d.reader.limits l
    (ap (λ (s : Lists). s.kinds) (two.schema_is ∙ one.schema_is ∙ set.schema_is) ∙ c.requires.kinds)
    (ap (λ (k : KindId). k.place) (two.kind_is ∙ one.kind_is ∙ set.kind_is))
    (two.limits_are ∙ one.limits_are ∙ set.limits_are) (c.finish.ensures.answer both after) in
    ended_whole file_kinds 6 l sillyprog first second p q
    (λ used is. let again = c.feed-2.ensures.stays.again (c.in_ok-feed.ensures.leaves.done used is) in let same : q
    ≡ Done 0 = cc (again, c.in_ok-feed-2.was) in same)
    fit whole answer c.finish.result end
