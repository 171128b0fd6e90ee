-- A hole that is skipped.
use Rattle.std.proofs.Common.{◌≡◌, ℕ, ◌-◌, ◌≤◌, Some, sym, ap}
use Rattle.std.proofs.Common.{subst, ◌∙◌, arith}
use Rattle.std.specs.BTreeMap.{BTreeMap}
use Rattle.capture_streams.specs.declared.piece.Piece.{Piece}
use Rattle.capture_streams.specs.declared.direction.Direction.{Direction}
use Rattle.capture_streams.specs.Segments.{given}
use Rattle.capture_streams.specs.Held.{HoldsAt, AreApart}
use Rattle.capture_streams.specs.Taking.{Skips}
use Rattle.capture_streams.specs.Private.Pieces.{HasFirst}
use Rattle.capture_streams.proofs.Holding.{none_held, begins_low, piece_has}
use Rattle.capture_streams.proofs.Firsts.{before_first, first_gives}

pub skips_some : (old new : Direction) (v : Piece) (missing : ℕ) → AreApart old.pieces.by_last
    → HasFirst old.pieces.by_last v → old.due ≤ v.at → new.due ≡ v.at → new.first ≡ old.first
    → new.pieces.by_last ≡ old.pieces.by_last → missing ≡ v.at - old.due → Skips old new (Some missing)
skips_some old new v missing a first low due same pieces e =
    let l = first.0 in
    let f = first.1 in (
      omega arith,
      λ arrivals base before r. record {
        missing = λ place from less.
            none_held old.pieces.by_last place (given old.first arrivals place) (r.held place from)
            (before_first old.pieces.by_last l v a f place (omega arith));
        next =
            let whole = a.whole l v f.there in
            let b = piece_has l v.at v whole (omega arith) (begins_low l v whole) in
            let given_there : given old.first arrivals v.at ≡ Some b.0 =
            first_gives old.pieces.by_last l v.at b.0 v a f.there b.1 (given old.first arrivals v.at)
            (r.held v.at low) in
            (b.0, ap (given old.first arrivals) due ∙ given_there);
        stands = record {
          due = omega arith;
          front = tt;
          held = λ place from.
              let k : old.due ≤ place = omega arith in
              subst (λ (x : ℕ). HoldsAt new.pieces.by_last place (given x arrivals place)) (sym same)
              (subst (λ (m : BTreeMap ℕ Piece). HoldsAt m place (given old.first arrivals place)) (sym pieces)
              (r.held place k));
        };
      },
    )
