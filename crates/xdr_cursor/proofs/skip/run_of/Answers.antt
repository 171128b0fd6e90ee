-- All items, or one field.
use Rattle.std.proofs.Common.{◌≡◌, ℕ, zero, suc, ◌<◌, List, [], ◌∷◌, replicate, refl, sym, ap, subst}
use Rattle.std.proofs.Common.{◌∙◌, arith, append-nil}
use Rattle.std.specs.List.{AllByRecursion}
use Rattle.std.proofs.lemmas.List.{length-replicate}
use Rattle.xdr_types.specs.Kinds.{KindView, Part}
use Rattle.xdr_types.specs.Fits.{item_part}
use Rattle.xdr_types.specs.declared.kind.KindId.{KindId}
use Rattle.xdr_cursor.specs.Private.Passing.{BeginsWith, IsRun}
use Rattle.xdr_cursor.specs.declared.frame.Frame.{Frame}
use Rattle.xdr_cursor.specs.declared.frame.Frame.TheVariants.{Items}
use Rattle.xdr_cursor.proofs.skip.run_of.Goals as goal

each_item : (item place n : ℕ) → item ≡ place
    → AllByRecursion (λ (p : Part). p.kind ≡ place) (replicate n (item_part item))
each_item item place zero e = tt
each_item item place (suc n) e = (e, each_item item place n e)

some_items : (n : ℕ) (q p : Part) (ps : List Part) → replicate n q ≡ p ∷ ps → (0 < n) × (p ≡ q)
some_items zero q p ps e = absurd cc
some_items (suc n) q p ps e = (omega arith, cc)

run_items : (kinds : List KindView) (item : KindId) (n place : ℕ) (rest : Frame)
    → BeginsWith kinds (Items item n) place rest → IsRun kinds (Items item n) place n (Items item 0)
run_items kinds item n place rest b =
    let some = some_items n (item_part item.place) b.0 _ b.2 in
    let same : item.place ≡ place = ap (λ (p : Part). p.kind) (sym some.1) ∙ b.1 in
    record {
      run = replicate n (item_part item.place);
      each = each_item item.place place n same;
      count_is = sym (length-replicate n (item_part item.place));
      some = some.0;
      joined = sym (append-nil (replicate n (item_part item.place)));
    }

pub returns-in-Items : goal.returns-in-Items
returns-in-Items c =
    λ kinds place b.
    subst (λ (f : Frame). IsRun kinds f place c.in-Items.left (Items c.in-Items.item 0)) (sym c.in-Items.is)
    (run_items kinds c.in-Items.item c.in-Items.left place c.args.rest
    (subst (λ (f : Frame). BeginsWith kinds f place c.args.rest) c.in-Items.is b))

pub returns-in_default : goal.returns-in_default
returns-in_default c =
    λ kinds place b.
    record { run = b.0 ∷ []; each = (b.1, tt); count_is = refl; some = omega arith; joined = b.2 }
