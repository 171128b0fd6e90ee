use Rattle.std.proofs.Common.{◌≡◌, ℕ, List, [], ◌∷◌, ◌++◌, take, drop, refl, sym, ap, subst, ◌∙◌, append-nil}
use Rattle.std.specs.Prelude.{Ok}
use Rattle.std.proofs.lemmas.List.{take-append-drop}
use Rattle.xdr_types.specs.Kinds.{Lists, kind_at, opaque_up_to}
use Rattle.xdr_types.specs.Tree.{Tree}
use Rattle.xdr_types.specs.Fits.{Fits}
use Rattle.xdr_types.specs.Spelling.{bytes_of}
use Rattle.xdr_types.specs.declared.kind.KindId.{KindId}
use Rattle.xdr_laws.specs.Held.{node_count, byte_count}
use Rattle.xdr_stream.specs.Represents.{taken}
use Rattle.xdr_stream.specs.declared.holding.Held.{Held}
use Rattle.xdr_stream.specs.declared.reader.Progress.{Progress}
use Rattle.xdr_codec.specs.Settings.{kinds_of, kind_of}
use Rattle.xdr_codec.specs.Represents.{RepresentsBytes}
use Rattle.example_xdr.specs.Rfc.{content}
use Rattle.example_xdr.proofs.Refusing.{take_self}
use Rattle.example_xdr.proofs.holding.holds_the_whole_value.Goals as goal

counts : (h : Held) (f n b p : ℕ) → h.frames ≡ f → h.nodes ≡ n → h.bytes ≡ b → h.pending ≡ p
    → h ≡ record { frames = f; nodes = n; bytes = b; pending = p }
counts h f n b p one two three four =
    ap (λ (x : ℕ). let r : Held = record { frames = x; nodes = h.nodes; bytes = h.bytes; pending = h.pending } in r) one
    ∙ ap (λ (x : ℕ). let r : Held = record { frames = f; nodes = x; bytes = h.bytes; pending = h.pending } in r) two
    ∙ ap (λ (x : ℕ). let r : Held = record { frames = f; nodes = n; bytes = x; pending = h.pending } in r) three
    ∙ ap (λ (x : ℕ). let r : Held = record { frames = f; nodes = n; bytes = b; pending = x } in r) four

pub returns : goal.returns
returns c =
    let input : List ℕ = 0 ∷ 0 ∷ 0 ∷ 4 ∷ 97 ∷ 97 ∷ 97 ∷ 97 ∷ [] in
    let n = c.feed.new.self in
    let done = c.in-Ok-Done.ensures in
    let set = c.start-decoder.ensures.settings in
    let used : ℕ = c.in-Ok-Done.field-0-0 in
    let b : List ℕ = take used input in
    let represents : RepresentsBytes n b = subst (λ (p : Progress). RepresentsBytes n ([] ++ taken input (Ok p)))
    c.in-Ok-Done.field-0-is (done.represents [] c.start-decoder.ensures.represents) in
    let w = c.held.ensures.whole b represents (done.leaves.done used c.in-Ok-Done.field-0-is) in
    let s = kinds_of n in
    let t : ℕ = (kind_of n).place in
    let kind : kind_at s t ≡ opaque_up_to 4294967295 =
    ap (λ (x : Lists). kind_at x.kinds t) (done.same.schema_is ∙ set.schema_is)
    ∙ ap (λ (k : KindId). kind_at c.args.schema.now.kinds k.place) (done.same.kind_is ∙ set.kind_is)
    ∙ c.requires.kind in
    let full = w.outcome.2 in
    let u : Tree = content (97 ∷ 97 ∷ 97 ∷ 97 ∷ []) in
    let fit : Fits s t u = rw kind refl in
    let is : bytes_of s t u ≡ input = rw kind refl in
    let same = c.each_spelling_is_one_value.ensures.one s t w.value u (drop used input) [] full.fits fit
    (ap (λ (x : List ℕ). x ++ drop used input) (full.spelled ∙ take_self b) ∙ take-append-drop used input
    ∙ sym is ∙ sym (append-nil (bytes_of s t u))) in
    counts c.held.result 0 1 4 0 w.frames (w.nodes ∙ ap (λ (v : Tree). node_count v) same.0)
    (w.bytes ∙ ap (λ (v : Tree). byte_count v) same.0) w.pending
