-- What a place stands for, one step further.
use Rattle.std.proofs.Common.{◌≡◌, ℕ, ◌+◌, ◌-◌, ◌<◌, ◌≤◌, Bool, true, false, List, [], ◌∷◌, ◌++◌, length, sym, ap, ◌∙◌}
use Rattle.std.proofs.Common.{subst, append_assoc, length-append, arith}
use Rattle.std.proofs.lemmas.List.{append-nil}
use Rattle.rpc_record.specs.Marked.{header, fragment, IsContent, Longest}
use Rattle.rpc_record.specs.declared.place.Begun.{Begun}
use Rattle.rpc_record.specs.declared.place.Begun.TheVariants as begun
use Rattle.rpc_record.specs.declared.place.Place.{Place}
use Rattle.rpc_record.proofs.Partial.{IsUnfinished-fragments, HasNoFragment-short, HasNoFragment-part}
use Rattle.rpc_record.proofs.Partial.{HasNoFragment-long, Longest-from}
use Rattle.rpc_record.specs.declared.place.Place.TheVariants as place
use Rattle.std.specs.List.{flat_map, concat}
use Rattle.rpc_record.proofs.Headers.{length-header}
use Rattle.rpc_record.specs.Reading.{Upto, IsWhole, IsInside}
use Rattle.rpc_record.specs.Fields.{IsTakingAt, begun_bytes, InHeader, InContent}
use Rattle.rpc_record.specs.Reading.{TooLongAt, capped}
use Rattle.rpc_record.specs.Fields.{StandsAt}
use Rattle.rpc_record.proofs.Streams.{Upto-first, Upto-last, Upto-first_some}

pub StandsAt-same : (limit taken : ℕ) (p : Place) (rs : List (List ℕ)) (content content' bytes bytes' : List ℕ)
    → content ≡ content' → bytes ≡ bytes' → StandsAt limit p content taken bytes rs
    → StandsAt limit p content' taken bytes' rs
StandsAt-same limit taken p rs content content' bytes bytes' e f h =
    subst (λ b. StandsAt limit p content' taken b rs) f (subst (λ k. StandsAt limit p k taken bytes rs) e h)

pub Upto-at_last : (limit : ℕ) (rs : List (List ℕ)) (first part before : List ℕ) (last : Bool) → last ≡ true
    → Upto limit rs first before → IsContent part → length (first ++ part) ≤ limit
    → IsWhole limit (rs ++ (first ++ part) ∷ []) (before ++ fragment last part)
Upto-at_last limit rs first part before last e u h fits = rw e (Upto-last limit rs first before part u h fits)

pub InHeader-at_next : (limit taken : ℕ) (rs : List (List ℕ)) (first part before : List ℕ) (last : Bool) → last ≡ false
    → Upto limit rs first before → IsContent part → length (first ++ part) ≤ limit
    → taken ≡ capped (length (before ++ fragment last part))
    → (h : InHeader limit rs (first ++ part) taken [] (before ++ fragment last part)) × (0 < length h.upto.firsts + 0)
InHeader-at_next limit taken rs first part before last e u h fits t =
    let next : Upto limit rs (first ++ part) (before ++ fragment false part) =
    Upto-first limit rs first before part u h fits in
    let P : Bool → Type 0 = λ b. taken ≡ capped (length (before ++ fragment b part))
    → (h : InHeader limit rs (first ++ part) taken [] (before ++ fragment b part))
    × (0 < length h.upto.firsts + 0) in
    subst P (sym e) (λ t'. (
      record { before = before ++ fragment false part; upto = next; place = t'; spelled = sym (append-nil _) },
      Upto-first_some limit rs first before part u h fits,
    )) t

-- between two records no fragment of the next has come
pub Upto-between : (limit : ℕ) (rs : List (List ℕ)) (content bytes : List ℕ) → content ≡ [] → IsWhole limit rs bytes
    → Upto limit rs content bytes
Upto-between limit rs content bytes e w =
    let none : length content ≤ limit = omega (arith, ap length e) in
    record {
      whole = bytes;
      firsts = [];
      stream = w.stream;
      within = w.within;
      each = λ k d h. absurd (omega arith);
      fits = none;
      joined = e;
      spelled = sym (append-nil bytes);
    }

-- between two records the next header is due
pub InHeader-between : (limit taken : ℕ) (rs : List (List ℕ)) (content bytes : List ℕ) → content ≡ []
    → IsWhole limit rs bytes → taken ≡ capped (length bytes) → InHeader limit rs content taken [] bytes
InHeader-between limit taken rs content bytes e w t = record {
  before = bytes;
  upto = Upto-between limit rs content bytes e w;
  place = t;
  spelled = sym (append-nil bytes);
}

-- the bytes so far, where the last of a fragment's have come
pub content_whole : (before part more bytes : List ℕ) (last : Bool) (left : ℕ) → length more ≡ left
    → bytes ≡ before ++ (header last (length part + left) ++ part)
    → before ++ fragment last (part ++ more) ≡ bytes ++ more
content_whole before part more bytes last left e s =
    let counted : length (part ++ more) ≡ length part + left = length-append part more ∙ ap (λ k. length part + k) e in
    ap (λ k. before ++ (header last k ++ (part ++ more))) counted
    ∙ sym (ap (λ b. b ++ more) s ∙ append_assoc before _ more
    ∙ ap (λ b. before ++ b) (append_assoc (header last (length part + left)) part more))

-- more of a fragment, which isn't whole
pub InContent-more : (limit left n : ℕ) (rs : List (List ℕ)) (content bytes more : List ℕ) (last : Bool)
    → length more ≡ n → n ≤ left → InContent limit rs content last left bytes
    → InContent limit rs (content ++ more) last (left - n) (bytes ++ more)
InContent-more limit left n rs content bytes more last e h i =
    let len = length-append i.part more in
    let len_content = length-append content more in
    let same : length (i.part ++ more) + (left - n) ≡ length i.part + left = omega (arith, len, e, h) in
    record {
      before = i.before;
      first = i.first;
      part = i.part ++ more;
      upto = i.upto;
      joined = ap (λ k. k ++ more) i.joined ∙ append_assoc i.first i.part more;
      spelled = ap (λ b. b ++ more) i.spelled ∙ append_assoc i.before _ more
          ∙ ap (λ b. i.before ++ b) (append_assoc (header last (length i.part + left)) i.part more)
          ∙ ap (λ k. i.before ++ (header last k ++ (i.part ++ more))) (sym same);
      counted = omega (arith, same, i.counted);
      fits = omega (arith, len_content, e, h, i.fits);
    }

fragments_some : (firsts : List (List ℕ)) → length firsts ≤ length (flat_map (fragment false) firsts)
fragments_some [] = omega arith
fragments_some (x ∷ xs) = omega (
  arith,
  length-append (header false (length x) ++ x) (flat_map (fragment false) xs),
  length-append (header false (length x)) x,
  length-header false (length x),
  fragments_some xs,
)

pub begun_short : (part : Begun) → length (begun_bytes part) < 4
begun_short begun.Nothing = omega arith
begun_short (begun.One a) = omega arith
begun_short (begun.Two a b) = omega arith
begun_short (begun.Three a b c) = omega arith

-- some of a record has come
abbrev pub IsInsideAt : Place → Type 0
IsInsideAt (place.Header at part) = Unit {0}
IsInsideAt (place.Content f) = Unit {0}
IsInsideAt _ = ⊥

pub IsInside-at : (limit taken : ℕ) (p : Place) (content bytes : List ℕ) (rs : List (List ℕ)) → IsInsideAt p
    → StandsAt limit p content taken bytes rs → (taken ≡ capped (length bytes)) × IsInside limit rs bytes
IsInside-at limit taken (place.Header at part) content bytes rs i ((h, some), t) = (
  t,
  record {
    whole = h.upto.whole;
    part = flat_map (fragment false) h.upto.firsts ++ begun_bytes part;
    stream = h.upto.stream;
    within = h.upto.within;
    unfinished = IsUnfinished-fragments limit h.upto.firsts (begun_bytes part) h.upto.each
        (HasNoFragment-short limit _ (begun_bytes part) (begun_short part));
    some = omega (
      arith,
      length-append (flat_map (fragment false) h.upto.firsts) (begun_bytes part),
      fragments_some h.upto.firsts,
      some,
    );
    spelled = h.spelled ∙ ap (λ b. b ++ begun_bytes part) h.upto.spelled ∙ append_assoc h.upto.whole _ _;
  },
)
IsInside-at limit taken (place.Content f) content bytes rs i (h, t) =
    let head = header f.last (length h.part + f.left) in (
      t,
      record {
        whole = h.upto.whole;
        part = flat_map (fragment false) h.upto.firsts ++ (head ++ h.part);
        stream = h.upto.stream;
        within = h.upto.within;
        unfinished = IsUnfinished-fragments limit h.upto.firsts (head ++ h.part) h.upto.each
            (HasNoFragment-part limit _ f.left f.last h.part f.some h.counted);
        some = omega (
          arith,
          length-append (flat_map (fragment false) h.upto.firsts) (head ++ h.part),
          length-append head h.part,
          length-header f.last (length h.part + f.left),
        );
        spelled = h.spelled ∙ ap (λ b. b ++ (head ++ h.part)) h.upto.spelled ∙ append_assoc h.upto.whole _ _;
      },
    )
IsInside-at limit taken place.Between content bytes rs i h = absurd i
IsInside-at limit taken place.Whole content bytes rs i h = absurd i
IsInside-at limit taken (place.Broken f) content bytes rs i h = absurd i

pub Longest-inside : (limit : ℕ) (rs : List (List ℕ)) (bytes : List ℕ) → IsInside limit rs bytes
    → Longest limit rs bytes
Longest-inside limit rs bytes h = Longest-from limit rs bytes h.whole h.part h.stream h.within h.unfinished h.spelled

pub Longest-whole : (limit : ℕ) (rs : List (List ℕ)) (bytes : List ℕ) → IsWhole limit rs bytes → Longest limit rs bytes
Longest-whole limit rs bytes h = Longest-from limit rs bytes bytes [] h.stream h.within
    (IsUnfinished-fragments limit [] [] (λ k d lt. absurd (omega arith)) (HasNoFragment-short limit 0 [] (omega arith)))
    (sym (append-nil bytes))

pub Longest-at : (limit taken : ℕ) (p : Place) (content bytes : List ℕ) (rs : List (List ℕ)) → IsTakingAt p
    → StandsAt limit p content taken bytes rs → Longest limit rs bytes
Longest-at limit taken place.Between content bytes rs i h = Longest-whole limit rs bytes h.1
Longest-at limit taken (place.Header at part) content bytes rs i h = Longest-inside limit rs bytes
    (IsInside-at limit taken (place.Header at part) content bytes rs tt h).1
Longest-at limit taken (place.Content f) content bytes rs i h = Longest-inside limit rs bytes
    (IsInside-at limit taken (place.Content f) content bytes rs tt h).1
Longest-at limit taken place.Whole content bytes rs i h = absurd i
Longest-at limit taken (place.Broken f) content bytes rs i h = absurd i

-- before a header that passes the limit
pub Longest-long : (limit at : ℕ) (rs : List (List ℕ)) (bytes : List ℕ) → TooLongAt limit rs at bytes
    → Longest limit rs bytes
Longest-long limit at rs bytes h =
    let passes : limit < length (concat h.upto.firsts) + h.count = omega (arith, h.passes, ap length h.upto.joined) in
    Longest-from limit rs bytes h.upto.whole
    (flat_map (fragment false) h.upto.firsts ++ (header h.last h.count ++ h.more)) h.upto.stream h.upto.within
    (IsUnfinished-fragments limit h.upto.firsts _ h.upto.each
    (HasNoFragment-long limit _ h.count h.last h.more h.counted passes))
    (h.spelled ∙ ap (λ b. b ++ (header h.last h.count ++ h.more)) h.upto.spelled ∙ append_assoc h.upto.whole _ _)
