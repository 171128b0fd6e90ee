-- The parts are those of the file, whose lines are known.
use Rattle.std.proofs.Common.{◌≡◌, ◌++◌, [], ℕ, List, Option, IfSome, Result, Ok, Err, Vec, Global, IfOk}
use Rattle.std.proofs.Common.{subst, sym, refl, ap, ◌∙◌}
use Rattle.std.specs.Fmt.{digits}
use Rattle.std.specs.Result.{result_ok}
use Rattle.hex.specs.Hex.{encode_with}
use Rattle.xdr_units.specs.declared.memory.NoMemory.{NoMemory}
use Rattle.xdr_types.specs.Kinds.{KindView}
use Rattle.xdr_types.specs.Tree.{Tree}
use Rattle.xdr_types.specs.Spelling.{bytes_of}
use Rattle.xdr_types.specs.Within.{FitsWithin}
use Rattle.xdr_parts.specs.declared.part.Lent.{Lent}
use Rattle.xdr_show.specs.Lent.{ArePartsOf}
use Rattle.xdr_show.specs.Shown.{show_text}
use Rattle.xdr_show.proofs.Parts.{are_parts, lent_by_parts}
use Rattle.example_xdr.specs.Rfc.{file_kinds, sillyprog, sillyprog_bytes, sillyprog_lines}
use Rattle.example_xdr.proofs.LentBytes.{that_value}
use Rattle.example_xdr.proofs.lines.shows_the_lent_file.Goals as goal

-- what is shown of the parts of a value is what is known of that value
by_parts : (kinds : List KindView) (ls : List Lent) (r : Result (Vec ℕ Global) NoMemory) (o : Option (Vec ℕ Global))
    → o ≡ result_ok r → IfOk r (λ text. (kind : ℕ) (v : Tree) (input : List ℕ) → ArePartsOf kinds kind v input ls
    → text.items ≡ show_text kinds kind v) → (kind : ℕ) (v : Tree) (input : List ℕ) → ArePartsOf kinds kind v input ls
    → (lines : List ℕ) → show_text kinds kind v ≡ lines → IfSome o (λ b. b.items ≡ lines)
by_parts kinds ls (Ok text) o is each kind v input are lines e = rw is (each kind v input are ∙ e)
by_parts kinds ls (Err f) o is each kind v input are lines e = rw is tt

file_lines : show_text file_kinds 6 sillyprog ≡ sillyprog_lines
unfolding digits encode_with
file_lines = refl

pub show_parts-requires : goal.show_parts-requires
show_parts-requires c =
    rw c.deref.ensures.value
    (lent_by_parts c.args.schema.now.kinds 6 c.args.limits c.args.input.now _ c.in-Ok.ensures.outcome
    c.in-Ok.ensures.lent)

pub returns-in-Ok : goal.returns-in-Ok
returns-in-Ok c =
    let kinds = c.args.schema.now.kinds in
    let input = c.args.input.now in
    let h = c.in-Ok.ensures.outcome in
    let fit : FitsWithin kinds 6 c.args.limits sillyprog =
    subst (λ (k : List KindView). FitsWithin k 6 c.args.limits sillyprog) (sym c.requires.kinds)
    (refl, (c.requires.deep, c.requires.buffer)) in
    let bytes : bytes_of kinds 6 sillyprog ++ [] ≡ sillyprog_bytes =
    ap (λ (k : List KindView). bytes_of k 6 sillyprog ++ []) c.requires.kinds in
    let same : h.0 ≡ sillyprog =
    that_value kinds 6 c.args.limits c.depth-in_range.ensures.range.units input h.0 sillyprog h.1 [] h.2 fit
    (c.requires.input ∙ sym bytes) in
    let lines : show_text kinds 6 h.0 ≡ sillyprog_lines =
    ap (λ (v : Tree). show_text kinds 6 v) same ∙ ap (λ (k : List KindView). show_text k 6 sillyprog) c.requires.kinds
    ∙ file_lines in
    by_parts kinds c.deref.result.now c.show_parts.result c.ok.result c.ok.ensures.value c.show_parts.ensures 6 h.0
    input
    (rw c.deref.ensures.value (are_parts kinds 6 c.args.limits input h.0 h.1 _ h.2 h.3 c.in-Ok.ensures.lent))
    sillyprog_lines lines
