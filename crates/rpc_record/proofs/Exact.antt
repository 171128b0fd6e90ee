-- A reader that still takes bytes has met no header that passes the limit.
use Rattle.std.proofs.Common.{◌≡◌, ℕ, ◌+◌, ◌^◌, ◌<◌, ◌≤◌, suc, Bool, false, List, [], ◌∷◌, ◌++◌, length, All, refl, sym}
use Rattle.std.proofs.Common.{ap, ◌∙◌, subst, append_assoc, length-append, arith}
use Rattle.std.specs.List.{flat_map, concat}
use Rattle.std.proofs.lemmas.List.{append-nil}
use Rattle.rpc_record.proofs.Streams.{begin_each_other}
use Rattle.rpc_record.specs.Marked.{header, fragment, IsContent, Stream, OneLongest}
use Rattle.rpc_record.specs.declared.place.Place.{Place}
use Rattle.rpc_record.specs.declared.place.Place.TheVariants as place
use Rattle.rpc_record.specs.declared.reader.RecordReader.{RecordReader}
use Rattle.rpc_record.specs.Reading.{Upto, TooLongAt, WholeHasNoLong, OneTooLong}
use Rattle.rpc_record.specs.Fields.{StandsAt, IsTakingAt, begun_bytes}
use Rattle.rpc_record.specs.Reading.{capped}
use Rattle.rpc_record.specs.Represents.{Represents, IsTaking, limit_of}
use Rattle.rpc_record.proofs.Headers.{length-header}
use Rattle.rpc_record.proofs.Longest.{Marked-same, header-same, fragment-same}
use Rattle.rpc_record.proofs.Partial.{HasNoFragment, HasNoFragment-short, HasNoFragment-part}
use Rattle.rpc_record.proofs.Places.{Longest-at, Longest-long, Longest-whole, begun_short}

-- a header that begins the tail has space behind so many bytes
abbrev HasSpace : ℕ → ℕ → List ℕ → Type 0
HasSpace limit used tail =
    (l : Bool) (n : ℕ) (more : List ℕ) → n < 2 ^ 31 → tail ≡ header l n ++ more → used + n ≤ limit

no_long : (limit used : ℕ) (firsts gs : List (List ℕ)) (tail more : List ℕ) (l : Bool) (n : ℕ) → All IsContent firsts
    → All IsContent gs → n < 2 ^ 31
    → HasNoFragment limit (used + length (concat firsts)) tail → HasSpace limit (used + length (concat firsts)) tail
    → used + length (concat firsts) ≤ limit → used + length (concat gs) ≤ limit → limit < used + length (concat gs) + n
    → flat_map (fragment false) firsts ++ tail ≡ flat_map (fragment false) gs ++ (header l n ++ more) → ⊥
no_long limit used [] [] tail more l n p q i none space a b passes e = let fits = space l n more i e in omega arith
no_long limit used [] (g ∷ gs) tail more l n p q i none space a b passes e =
    none false g _ (q 0 [] (omega arith)) (omega (arith, b, length-append g (concat gs)))
    (e ∙ append_assoc (fragment false g) _ _)
no_long limit used (f ∷ fs) [] tail more l n p q i none space a b passes e =
    let s = header-same false l (length f) n (f ++ (flat_map (fragment false) fs ++ tail)) more (p 0 [] (omega arith)) i
    (sym (append_assoc (fragment false f) (flat_map (fragment false) fs) tail
    ∙ append_assoc (header false (length f)) f _) ∙ e) in
    omega (arith, s.1, a, passes, length-append f (concat fs))
no_long limit used (f ∷ fs) (g ∷ gs) tail more l n p q i none space a b passes e =
    let s = fragment-same false false f g _ _ (p 0 [] (omega arith)) (q 0 [] (omega arith))
    (sym (append_assoc (fragment false f) _ _) ∙ e ∙ append_assoc (fragment false g) _ _) in
    let same : length f ≡ length g = ap length s.1 in
    let lf = length-append f (concat fs) in
    let lg = length-append g (concat gs) in
    let none' : HasNoFragment limit (used + length f + length (concat fs)) tail = λ k c z j h t. none k c z j
    (omega (arith, h, lf)) t in
    let space' : HasSpace limit (used + length f + length (concat fs)) tail = λ k m z j t. omega
    (arith, space k m z j t, lf) in
    no_long limit (used + length f) fs gs tail more l n (λ k d lt. p (suc k) d (omega arith))
    (λ k d lt. q (suc k) d (omega arith)) i none' space'
    (omega (arith, a, lf)) (omega (arith, b, lg, same)) (omega (arith, passes, lg, same)) s.2

Stream-rest : (rs : List (List ℕ)) (w v p q : List ℕ) → Stream rs w → Stream rs v → w ++ p ≡ v ++ q → p ≡ q
Stream-rest [] w v p q s t e = sym (ap (λ k. k ++ p) s) ∙ e ∙ ap (λ k. k ++ q) t
Stream-rest (r ∷ rs) w v p q s t e =
    let m = Marked-same r r s.0 t.0 (s.1.0 ++ p) (t.1.0 ++ q) s.1.1.0 t.1.1.0
    (sym (ap (λ k. k ++ p) s.1.1.2 ∙ append_assoc s.0 s.1.0 p) ∙ e ∙ ap (λ k. k ++ q) t.1.1.2
    ∙ append_assoc t.0 t.1.0 q) in
    Stream-rest rs s.1.0 t.1.0 p q s.1.1.1 t.1.1.1 m.1

pub Longest-same : OneLongest
Longest-same limit rs others bytes h k =
    let more = h.only others k.whole k.part k.within k.stream k.spelled in
    let back = k.only rs h.whole h.part h.within h.stream h.spelled in
    begin_each_other rs others more.0 back.0 more.1 back.1

-- the same stream up to a header that passes the limit, and up to a tail that has none
apart : (limit at : ℕ) (rs others : List (List ℕ)) (content bytes before tail : List ℕ)
    (u : Upto limit rs content before) → HasNoFragment limit (length (concat u.firsts)) tail
    → HasSpace limit (length (concat u.firsts)) tail
    → bytes ≡ before ++ tail → rs ≡ others → TooLongAt limit others at bytes → ⊥
apart limit at rs others content bytes before tail u none space e same h =
    let rest = Stream-rest others u.whole h.upto.whole (flat_map (fragment false) u.firsts ++ tail)
    (flat_map (fragment false) h.upto.firsts ++ (header h.last h.count ++ h.more))
    (subst (λ x. Stream x u.whole) same u.stream) h.upto.stream
    (sym (e ∙ ap (λ b. b ++ tail) u.spelled ∙ append_assoc u.whole _ tail) ∙ h.spelled
    ∙ ap (λ b. b ++ (header h.last h.count ++ h.more)) h.upto.spelled ∙ append_assoc h.upto.whole _ _) in
    let none' : HasNoFragment limit (0 + length (concat u.firsts)) tail = λ k c z j b t. none k c z j (omega arith) t in
    let space' : HasSpace limit (0 + length (concat u.firsts)) tail = λ k m z j t. omega (arith, space k m z j t) in
    no_long limit 0 u.firsts h.upto.firsts tail h.more h.last h.count u.each h.upto.each h.counted none' space'
    (omega (arith, u.fits, ap length u.joined)) (omega (arith, h.upto.fits, ap length h.upto.joined))
    (omega (arith, h.passes, ap length h.upto.joined)) rest

HasSpace-short : (limit used : ℕ) (tail : List ℕ) → length tail < 4 → HasSpace limit used tail
HasSpace-short limit used tail h l n more i e = absurd
    (omega (arith, h, ap length e, length-append (header l n) more, length-header l n))

not_long_at : (limit at taken : ℕ) (p : Place) (content bytes : List ℕ) (rs others : List (List ℕ)) → IsTakingAt p
    → StandsAt limit p content taken bytes rs → rs ≡ others → TooLongAt limit others at bytes → ⊥
not_long_at limit at taken place.Between content bytes rs others i h same t =
    let u : Upto limit rs [] bytes = record {
      whole = bytes;
      firsts = [];
      stream = h.1.stream;
      within = h.1.within;
      each = λ k d lt. absurd (omega arith);
      fits = omega arith;
      joined = refl;
      spelled = sym (append-nil bytes);
    } in
    apart limit at rs others [] bytes bytes [] u (HasNoFragment-short limit _ [] (omega arith))
    (HasSpace-short limit _ [] (omega arith)) (sym (append-nil bytes)) same t
not_long_at limit at taken (place.Header start part) content bytes rs others i h same t =
    apart limit at rs others content bytes h.0.0.before (begun_bytes part) h.0.0.upto
    (HasNoFragment-short limit _ _ (begun_short part))
    (HasSpace-short limit _ _ (begun_short part)) h.0.0.spelled same t
not_long_at limit at taken (place.Content f) content bytes rs others i (h, k) same t =
    let space : HasSpace limit (length (concat h.upto.firsts)) (header f.last (length h.part + f.left) ++ h.part) =
    λ l n more j e.
    let s = header-same f.last l (length h.part + f.left) n h.part more h.counted j e in
    omega (arith, s.1, h.fits, ap length h.joined, length-append h.first h.part, ap length h.upto.joined) in
    apart limit at rs others h.first bytes h.before _ h.upto
    (HasNoFragment-part limit _ f.left f.last h.part f.some h.counted) space h.spelled same t
not_long_at limit at taken place.Whole content bytes rs others i h same t = absurd i
not_long_at limit at taken (place.Broken f) content bytes rs others i h same t = absurd i

pub not_long : (reader : RecordReader) (at : ℕ) (bytes : List ℕ) (rs others : List (List ℕ)) → IsTaking reader
    → Represents reader bytes rs → TooLongAt (limit_of reader) others at bytes → ⊥
not_long reader at bytes rs others i h t =
    not_long_at reader.limit at reader.taken reader.place reader.content.items bytes rs others i h
    (Longest-same reader.limit rs others bytes
    (Longest-at reader.limit reader.taken reader.place reader.content.items bytes rs i h)
    (Longest-long reader.limit at others bytes t)) t

pub whole_not_long : WholeHasNoLong
whole_not_long limit rs bytes w others at t =
    not_long_at limit at (capped (length bytes)) place.Between [] bytes rs others tt (refl, w, refl)
    (Longest-same limit rs others bytes (Longest-whole limit rs bytes w) (Longest-long limit at others bytes t)) t

-- two headers that pass the limit, each behind fragments that do not
one_header : (limit used : ℕ) (firsts gs : List (List ℕ)) (l k : Bool) (n m : ℕ) (x y : List ℕ) → All IsContent firsts
    → All IsContent gs → n < 2 ^ 31 → m < 2 ^ 31 → used + length (concat firsts) ≤ limit
    → used + length (concat gs) ≤ limit → limit < used + length (concat firsts) + n
    → limit < used + length (concat gs) + m
    → flat_map (fragment false) firsts ++ (header l n ++ x) ≡ flat_map (fragment false) gs ++ (header k m ++ y)
    → firsts ≡ gs
one_header limit used [] [] l k n m x y p q i j a b long other e = refl
one_header limit used [] (g ∷ gs) l k n m x y p q i j a b long other e =
    let s = header-same l false n (length g) x (g ++ (flat_map (fragment false) gs ++ (header k m ++ y))) i
    (q 0 [] (omega arith))
    (e ∙ append_assoc (fragment false g) (flat_map (fragment false) gs) (header k m ++ y)
    ∙ append_assoc (header false (length g)) g _) in
    absurd (omega (arith, s.1, b, long, length-append g (concat gs)))
one_header limit used (f ∷ fs) [] l k n m x y p q i j a b long other e =
    let s = header-same k false m (length f) y (f ++ (flat_map (fragment false) fs ++ (header l n ++ x))) j
    (p 0 [] (omega arith))
    (sym e ∙ append_assoc (fragment false f) (flat_map (fragment false) fs) (header l n ++ x)
    ∙ append_assoc (header false (length f)) f _) in
    absurd (omega (arith, s.1, a, other, length-append f (concat fs)))
one_header limit used (f ∷ fs) (g ∷ gs) l k n m x y p q i j a b long other e =
    let s = fragment-same false false f g _ _ (p 0 [] (omega arith)) (q 0 [] (omega arith))
    (sym (append_assoc (fragment false f) _ _) ∙ e ∙ append_assoc (fragment false g) _ _) in
    let same : length f ≡ length g = ap length s.1 in
    let lf = length-append f (concat fs) in
    let lg = length-append g (concat gs) in
    let rest = one_header limit (used + length f) fs gs l k n m x y (λ h d lt. p (suc h) d (omega arith))
    (λ h d lt. q (suc h) d (omega arith)) i j (omega (arith, a, lf)) (omega (arith, b, lg, same))
    (omega (arith, long, lf)) (omega (arith, other, lg, same)) s.2 in
    ap (λ z. z ∷ fs) s.1 ∙ ap (λ z. g ∷ z) rest

pub one_too_long : OneTooLong
one_too_long limit at other rs bytes h k =
    let rest = Stream-rest rs h.upto.whole k.upto.whole
    (flat_map (fragment false) h.upto.firsts ++ (header h.last h.count ++ h.more))
    (flat_map (fragment false) k.upto.firsts ++ (header k.last k.count ++ k.more)) h.upto.stream k.upto.stream
    (sym (h.spelled ∙ ap (λ b. b ++ (header h.last h.count ++ h.more)) h.upto.spelled
    ∙ append_assoc h.upto.whole _ _) ∙ k.spelled
    ∙ ap (λ b. b ++ (header k.last k.count ++ k.more)) k.upto.spelled ∙ append_assoc k.upto.whole _ _) in
    let same = one_header limit 0 h.upto.firsts k.upto.firsts h.last k.last h.count k.count h.more k.more h.upto.each
    k.upto.each h.counted k.counted (omega (arith, h.upto.fits, ap length h.upto.joined))
    (omega (arith, k.upto.fits, ap length k.upto.joined)) (omega (arith, h.passes, ap length h.upto.joined))
    (omega (arith, k.passes, ap length k.upto.joined)) rest in
    let joined = flat_map (fragment false) h.upto.firsts in
    let other_joined = flat_map (fragment false) k.upto.firsts in
    h.place ∙ ap capped (omega (
      arith,
      ap length h.spelled,
      ap length k.spelled,
      ap length rest,
      length-append h.before (header h.last h.count ++ h.more),
      length-append k.before (header k.last k.count ++ k.more),
      length-append joined (header h.last h.count ++ h.more),
      length-append other_joined (header k.last k.count ++ k.more),
      ap (λ z. length (flat_map (fragment false) z)) same,
    )) ∙ sym k.place
