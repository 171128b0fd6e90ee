use Rattle.std.proofs.Common.{◌≡◌, ◌<◌, ◌+◌, true, false, [], ◌∷◌, ◌++◌, length, take, get_or, add-one, arith, refl}
use Rattle.std.proofs.Common.{sym, ◌∙◌}
use Rattle.std.proofs.Math.Seq.{take-suc}
use Rattle.std.proofs.lemmas.List.{map-append}
use Rattle.std.specs.List.{list_any}
use Rattle.std.specs.Str.{bytes_eq}
use Rattle.xdr_grammar.specs.declared.outline.Basic.TheVariants.{Int}
use Rattle.xdr_grammar.specs.declared.outline.Part.TheVariants.{Basic}
use Rattle.xdr_grammar.specs.declared.outline.Field.{Field}
use Rattle.xdr_grammar.specs.Outline as out
use Rattle.xdr_grammar.specs.View.{field_of}
use Rattle.xdr_lang.specs.Distinct.{repeats}
use Rattle.xdr_lang.specs.Views.{types_of}
use Rattle.xdr_lang.specs.Private.Tables.{type_names}
use Rattle.xdr_lang.proofs.Sharing.{repeats_more}
use Rattle.xdr_lang.proofs.Tables.{no_parts}
use Rattle.xdr_lang.proofs.type_table.parts_of.Goals.{then-apart, else-apart}
use Rattle.xdr_lang.proofs.type_table.parts_of.Goals as goal

pub loop-field-init : goal.loop-field-init
unfolding repeats
loop-field-init c = record {
  parts = no_parts c.new-parts.result c.new-parts.ensures.empty;
  apart = λ e. refl;
}

pub loop-field-preserved : goal.loop-field-preserved
loop-field-preserved c =
    let d : Field = record {
      name = record { text = record { ref_ptr = (0, 0); now = [] }; left = 0 };
      part = Basic Int;
    } in
    let i = c.loop-field.field-index in
    let so_far = take i c.args.types.now in
    let one = get_or c.args.types.now i d in
    let lt : i < length c.args.types.now = omega arith in
    let next : take (i + 1) c.args.types.now ≡ so_far ++ one ∷ [] = rw add-one (take-suc c.args.types.now i d lt) in
    record {
      parts = rw (next, map-append) (c.in_ok-is_first.ensures.retained (types_of so_far) c.loop-field.invariant.parts);
      apart = λ yes. elim c.if-apart.branch [
        | then-apart w ↦
            let before : repeats bytes_eq [] (type_names (types_of so_far)) ≡ false = c.loop-field.invariant.apart
            w.if-apart.true in
            let alone : list_any (bytes_eq one.name.text.now) (type_names (types_of so_far)) ≡ false =
            c.in_ok-is_first.ensures.alone (types_of so_far) c.loop-field.invariant.parts (sym w.apart-is ∙ yes) in
            let more : type_names (types_of (take (i + 1) c.args.types.now)) ≡ type_names (types_of so_far)
            ++ one.name.text.now ∷ [] = rw (next, map-append field_of so_far (one ∷ []))
            (map-append (λ (t : out.Field). t.name) (types_of so_far) (field_of one ∷ [])) in
            rw (more, repeats_more [] (type_names (types_of so_far)) one.name.text.now, before, alone) refl
        | else-apart w ↦ let no : false ≡ true = sym w.if-apart.false ∙ (sym w.apart-is ∙ yes) in absurd cc
      ];
    }
