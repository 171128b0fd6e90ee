use Rattle.std.proofs.Common.{◌≡◌, ◌+◌, ℕ, List, [], ◌∷◌, ◌++◌, length, refl, sym, ap, subst, ◌∙◌, append-nil, arith}
use Rattle.std.specs.Prelude.{Ok}
use Rattle.std.proofs.lemmas.List.{length-append}
use Rattle.xdr_types.specs.Kinds.{Lists, kind_at, int, up_to}
use Rattle.xdr_types.specs.Tree as value
use Rattle.xdr_types.specs.Tree.{Tree, from_list}
use Rattle.xdr_types.specs.Fits.{Fits}
use Rattle.xdr_types.specs.Spelling.{bytes_of}
use Rattle.xdr_types.specs.declared.kind.KindId.{KindId}
use Rattle.xdr_laws.specs.Held.{Holds}
use Rattle.xdr_stream.specs.Represents.{taken}
use Rattle.xdr_stream.specs.declared.holding.Held.{Held}
use Rattle.xdr_stream.specs.declared.reader.Progress.{Progress}
use Rattle.xdr_codec.specs.Settings.{kinds_of, kind_of}
use Rattle.xdr_codec.specs.Represents.{RepresentsBytes}
use Rattle.std.proofs.Common.{pos}
use Rattle.example_xdr.proofs.holding.holds_two_nodes_of_an_array.Goals as goal

no_items : (x : List ℕ) → length x ≡ 0 → x ≡ []
no_items [] e = refl
no_items (y ∷ ys) e = absurd (omega (arith, e))

pub returns : goal.returns
returns c =
    let input : List ℕ = 0 ∷ 0 ∷ 0 ∷ 3 ∷ [] in
    let n = c.feed.new.self in
    let more = c.in-Ok-More.ensures in
    let set = c.start-decoder.ensures.settings in
    let h : Held = c.held-2.result in
    let represents : RepresentsBytes n input = subst (λ (p : Progress). RepresentsBytes n ([] ++ taken input (Ok p)))
    c.in-Ok-More.field-0-is (more.represents [] c.start-decoder.ensures.represents) in
    let w = c.held-2.ensures.due input represents (more.leaves.more c.in-Ok-More.field-0-is) in
    let few = c.held-2.ensures.bounds input represents in
    let s = kinds_of n in
    let t : ℕ = (kind_of n).place in
    let schema = more.same.schema_is ∙ set.schema_is in
    let kind : kind_at s t ≡ up_to c.args.item.place 4294967295 =
    ap (λ (x : Lists). kind_at x.kinds t) schema
    ∙ ap (λ (k : KindId). kind_at c.args.schema.now.kinds k.place) (more.same.kind_is ∙ set.kind_is)
    ∙ c.requires.kind in
    let item : kind_at s c.args.item.place ≡ int =
    ap (λ (x : Lists). kind_at x.kinds c.args.item.place) schema ∙ c.requires.item in
    let sizes : length w.whole + length w.rest ≡ 4 =
    omega (arith, ap (λ (x : List ℕ). length x) w.parts, length-append w.whole w.rest) in
    let none : w.rest ≡ [] = no_items w.rest (omega (arith, sizes, w.units, w.pending, few.pending)) in
    let at : w.whole ≡ input =
    sym (append-nil w.whole) ∙ ap (λ (x : List ℕ). w.whole ++ x) (sym none) ∙ sym w.parts in
    let zero : Tree = (value.int (pos 0), value.none) in
    let v : Tree = (value.items 3, from_list (zero ∷ zero ∷ zero ∷ [])) in
    let fit : Fits s t v = rw (kind, item) refl in
    let rest : List ℕ = 0 ∷ 0 ∷ 0 ∷ 0 ∷ 0 ∷ 0 ∷ 0 ∷ 0 ∷ 0 ∷ 0 ∷ 0 ∷ 0 ∷ [] in
    let is : bytes_of s t v ≡ input ++ rest = rw (kind, item) refl in
    let mine : Holds s t input 2 0 = record {
      value = v;
      begins = (fit, rest, is);
      nodes = rw (kind, item) refl;
      content = rw (kind, item) refl;
    } in
    (c.held.ensures.once s t input h.nodes w.content 2 0 refl
    (subst (λ (q : List ℕ). Holds s t q h.nodes w.content) at w.holds) mine).0
