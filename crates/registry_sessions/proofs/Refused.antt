-- Memory refused for a record that is whole: the bytes before its last one end inside it.
use Rattle.std.proofs.Common.{◌≡◌, ℕ, ◌+◌, ◌-◌, ◌≤◌, ◌<◌, List, [], ◌∷◌, ◌++◌, length, take, drop, refl, sym, ap}
use Rattle.std.proofs.Common.{◌∙◌, subst, arith, append_assoc, length-append, length-take, length-drop}
use Rattle.std.proofs.lemmas.List.{append-nil, take-append-drop, take-append-le}
use Rattle.std.proofs.lemmas.List.Elements.{All-take}
use Rattle.std.proofs.Math.Seq.{take-length}
use Rattle.rpc_record.specs.Marked.{Marked, Stream, Within}
use Rattle.rpc_record.specs.Reading.{IsInside, IsWhole, RefusedIn}
use Rattle.rpc_record.proofs.Long.{Marked-length}
use Rattle.rpc_record.proofs.Longest.{Marked-same}
use Rattle.rpc_record.proofs.Places.{Longest-inside}

-- the last of some records, and the bytes of those before it
stream_last : (rs : List (List ℕ)) (r bytes : List ℕ) → Stream (rs ++ r ∷ []) bytes
    → (whole : List ℕ) × ((front : List ℕ) × (Stream rs whole × Marked r front × (bytes ≡ whole ++ front)))
stream_last [] r bytes s = ([], (s.0, (refl, s.1.1.0, s.1.1.2 ∙ ap (λ x. s.0 ++ x) s.1.1.1 ∙ append-nil s.0)))
stream_last (x ∷ xs) r bytes s =
    let k = stream_last xs r s.1.0 s.1.1.1 in (
      s.0 ++ k.0,
      (
        k.1.0,
        (
          (s.0, (k.0, (s.1.1.0, k.1.1.0, refl))),
          k.1.1.1,
          s.1.1.2 ∙ ap (λ z. s.0 ++ z) k.1.1.2 ∙ sym (append_assoc s.0 k.0 k.1.0),
        ),
      ),
    )

-- what stands before the last byte of a record is no record, and no record stands at its front
unfinished : (limit : ℕ) (r front part last : List ℕ) → Marked r front → front ≡ part ++ last → 0 < length last
    → (other begin back : List ℕ) → Marked other begin → length other ≤ limit → part ≡ begin ++ back → ⊥
unfinished limit r front part last m e some other begin back k within p =
    let same = Marked-same other r begin front (back ++ last) [] k m
    (sym (append_assoc begin back last) ∙ ap (λ x. x ++ last) (sym p) ∙ sym e ∙ sym (append-nil front)) in
    absurd (omega (arith, some, length-append back last, ap length same.1))

first_within : (limit : ℕ) (rs : List (List ℕ)) (r : List ℕ) → Within limit (rs ++ r ∷ []) → Within limit rs
first_within limit rs r h =
    subst (λ x. Within limit x) (take-append-le (length rs) rs (r ∷ []) (omega arith) ∙ take-length rs)
    (All-take (λ x. length x ≤ limit) (length rs) (rs ++ r ∷ []) h)

pub refused_whole : (limit : ℕ) (rs : List (List ℕ)) (bytes piece r : List ℕ) (used : ℕ) → 0 < used
    → used ≤ length piece → IsWhole limit (rs ++ r ∷ []) (bytes ++ take used piece)
    → RefusedIn limit rs (length piece) (bytes ++ piece)
refused_whole limit rs bytes piece r used some within w =
    let k = stream_last rs r (bytes ++ take used piece) w.stream in
    let whole = k.0 in
    let front = k.1.0 in
    let long : 4 ≤ length front = Marked-length r front k.1.1.1 in
    let n : ℕ = length front - 1 in
    let part = take n front in
    let last = drop n front in
    let cut : front ≡ part ++ last = sym (take-append-drop n front) in
    let counts : length (bytes ++ take used piece) ≡ length bytes + used = omega (
      arith,
      length-append bytes (take used piece),
      length-take used piece,
    ) in
    let one : length last ≡ 1 = omega (arith, long, length-drop n front) in
    let spelled : bytes ++ piece ≡ (whole ++ part) ++ (last ++ drop used piece) =
    ap (λ x. bytes ++ x) (sym (take-append-drop used piece))
    ∙ sym (append_assoc bytes (take used piece) (drop used piece))
    ∙ ap (λ x. x ++ drop used piece) (k.1.1.2 ∙ ap (λ x. whole ++ x) cut ∙ sym (append_assoc whole part last))
    ∙ append_assoc (whole ++ part) last (drop used piece) in
    let inside : IsInside limit rs (whole ++ part) = record {
      whole = whole;
      part = part;
      stream = k.1.1.0;
      within = first_within limit rs r w.within;
      some = omega (arith, long, length-take n front);
      unfinished = unfinished limit r front part last k.1.1.1 cut (omega (arith, one));
      spelled = refl;
    } in
    record {
      here = whole ++ part;
      rest = last ++ drop used piece;
      inside = inside;
      longest = Longest-inside limit rs (whole ++ part) inside;
      some = omega (arith, one, length-append last (drop used piece));
      few = omega (arith, one, length-append last (drop used piece), length-drop used piece, within, some);
      spelled = spelled;
    }
