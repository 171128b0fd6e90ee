-- A record that is one fragment, behind whole records.
use Rattle.std.proofs.Common.{◌≡◌, ℕ, ◌+◌, ◌<◌, ◌≤◌, true, List, [], ◌∷◌, ◌++◌, length, take, refl, sym, ap}
use Rattle.std.proofs.Common.{subst, ◌∙◌, Ok, Err, Result, IfOk, IfErr, append_assoc, length-append, arith}
use Rattle.std.proofs.lemmas.List.{append-nil}
use Rattle.rpc_record.specs.Marked.{header, fragment, IsContent}
use Rattle.rpc_record.specs.Reading.{IsWhole, IsInside, RefusedIn, capped}
use Rattle.rpc_record.specs.Reading.{IsFeedFault}
use Rattle.rpc_record.specs.Fields.{StandsAt, IsBrokenAt}
use Rattle.rpc_record.specs.Represents.{Represents, IsBetween, IsWaiting, IsBroken, Takes, Feeds, Reports, limit_of}
use Rattle.rpc_record.specs.Represents.{Moves, Fills, After}
use Rattle.rpc_record.specs.Private.Steps.{Refuses}
use Rattle.rpc_record.specs.declared.fault.RecordFault.{RecordFault}
use Rattle.rpc_record.specs.declared.fault.RecordFault.TheVariants as fault
use Rattle.rpc_record.specs.declared.fault.RecordStep.{RecordStep}
use Rattle.rpc_record.specs.declared.fault.RecordStep.TheVariants as step
use Rattle.rpc_record.specs.declared.place.Fragment.{Fragment}
use Rattle.rpc_record.specs.declared.place.Place.TheVariants as place
use Rattle.rpc_record.specs.declared.reader.RecordReader.{RecordReader}
use Rattle.rpc_record.proofs.Streams.{Upto-last}
use Rattle.rpc_record.proofs.Places.{Upto-between, IsInside-at}
use Rattle.rpc_record.proofs.Readers.{RefusedIn-now, Takes-broken}
use Rattle.rpc_record.proofs.Reported.{Reports-whole, Reports-broken}

pub Represents-between : (reader : RecordReader) (bytes : List ℕ) (rs : List (List ℕ)) → IsBetween reader
    → Represents reader bytes rs → (reader.content.items ≡ []) × IsWhole reader.limit rs bytes
    × (reader.taken ≡ capped (length bytes))
Represents-between reader bytes rs e h =
    subst (λ p. StandsAt reader.limit p reader.content.items reader.taken bytes rs) e h

module _ (limit : ℕ) (rs : List (List ℕ)) (content bytes part : List ℕ) (none : content ≡ [])
    (w : IsWhole limit rs bytes) (counted : IsContent part) (fits : length content + length part ≤ limit) where
  -- it is whole
  pub Whole-single : IsWhole limit (rs ++ (content ++ part) ∷ []) (bytes ++ fragment true part)
  Whole-single = Upto-last limit rs content bytes part (Upto-between limit rs content bytes none w) counted
      (omega (arith, length-append content part, fits))

  inside_single : 0 < length part → IsInside limit rs (bytes ++ header true (length part))
  inside_single some =
      let head = header true (length part) in
      let same : length part ≡ 0 + length part = omega arith in
      let f : Fragment = record { left = length part; last = true; some = some } in
      (IsInside-at limit (capped (length (bytes ++ head))) (place.Content f) content (bytes ++ head) rs tt (
        record {
          before = bytes;
          first = content;
          part = [];
          upto = Upto-between limit rs content bytes none w;
          joined = sym (append-nil content);
          spelled = ap (λ b. bytes ++ b) (sym (append-nil head)) ∙ ap (λ k. bytes ++ (header true k ++ [])) same;
          counted = omega (arith, counted);
          fits = fits;
        },
        refl,
      )).1

  -- memory was refused for it
  pub Refused-single : (n : ℕ) → 0 < length part → length part ≤ n → RefusedIn limit rs n (bytes ++ fragment true part)
  Refused-single n some few =
      let head = header true (length part) in
      subst (λ b. RefusedIn limit rs n b) (append_assoc bytes head part)
      (RefusedIn-now limit n rs (bytes ++ head) part some few (inside_single some))

is_broken : (reader : RecordReader) (f : RecordFault) → reader.place ≡ place.Broken f → IsBroken reader f
is_broken reader f e = subst (λ p. IsBrokenAt p f) (sym e) refl

-- it stands at the front of a piece, and was taken or refused
module _ (old new : RecordReader) (piece part : List ℕ) (same : limit_of new ≡ limit_of old)
    (front : take (4 + length part) piece ≡ fragment true part) (within : 4 + length part ≤ length piece)
    (takes : Takes old new (fragment true part)) (refuses : Refuses old new (fragment true part)) where
  takes_front : Takes old new (take (4 + length part) piece)
  takes_front = subst (λ b. Takes old new b) (sym front) takes

  pub Feeds-single : (r : Result RecordStep RecordFault)
      → IfOk r (λ s. (s ≡ step.Whole (4 + length part)) × IsWaiting new)
      → IfErr r (λ f. (f ≡ fault.NoMemory) × (new.place ≡ place.Broken f)) → Feeds old new piece r
  Feeds-single (Ok s) a b = subst (λ k. Feeds old new piece (Ok k)) (sym a.0)
      (a.1, within, takes_front, λ taking. omega arith)
  Feeds-single (Err f) a b = (
    is_broken new f b.1,
    Takes-broken old new f (4 + length part) piece b.1 takes_front,
    λ taking. subst IsFeedFault (sym b.0) tt,
  )

  pub Reports-single : (r : Result RecordStep RecordFault)
      → IfOk r (λ s. (s ≡ step.Whole (4 + length part)) × IsWaiting new)
      → IfErr r (λ f. (f ≡ fault.NoMemory) × (new.place ≡ place.Broken f)) → Reports old piece r
  Reports-single (Ok s) a b = subst (λ k. Reports old piece (Ok k)) (sym a.0)
      (Reports-whole old new (4 + length part) piece same a.1 takes_front)
  Reports-single (Err f) a b = Reports-broken old new f (4 + length part) piece same (is_broken new f b.1)
      (Takes-broken old new f (4 + length part) piece b.1 takes_front)
      (subst (λ b. Refuses old new b) (sym front) refuses)

-- the same, and it was put into a buffer
module _ (old new : RecordReader) (piece part r : List ℕ) (same : limit_of new ≡ limit_of old)
    (front : take (4 + length part) piece ≡ fragment true part) (within : 4 + length part ≤ length piece)
    (refuses : Refuses old new (fragment true part)) where
  abbrev IsPut : RecordStep → Type 0
  IsPut s = (s ≡ step.Whole (4 + length part)) × (r ≡ part) × IsBetween new
      × Moves old new (fragment true part) (part ∷ [])

  abbrev IsRefused : RecordFault → Type 0
  IsRefused f = (f ≡ fault.NoMemory) × (new.place ≡ place.Broken f) × Takes old new (fragment true part)

  put : (k : List ℕ) → k ≡ part → Moves old new (fragment true part) (part ∷ [])
      → Moves old new (take (4 + length part) piece) (k ∷ [])
  put k e m = subst (λ b. Moves old new b (k ∷ [])) (sym front)
      (subst (λ x. Moves old new (fragment true part) (x ∷ [])) (sym e) m)

  all_taken : (f : RecordFault) → new.place ≡ place.Broken f → Takes old new (fragment true part)
      → Takes old new piece
  all_taken f e t = Takes-broken old new f (4 + length part) piece e (subst (λ b. Takes old new b) (sym front) t)

  is_whole : IsBetween new → Moves old new (fragment true part) (part ∷ [])
      → After old (take (4 + length part) piece) (λ rs bytes. IsWhole old.limit (rs ++ part ∷ []) bytes)
  is_whole e m bytes rs h =
      let all = bytes ++ take (4 + length part) piece in
      subst (λ l. IsWhole l (rs ++ part ∷ []) all) same
      (Represents-between new all (rs ++ part ∷ []) e (put part refl m bytes rs h)).1

  pub Fills-single : (k : Result RecordStep RecordFault) → IfOk k IsPut → IfErr k IsRefused
      → Fills old new piece r k
  Fills-single (Ok s) a b = subst (λ k. Fills old new piece r (Ok k)) (sym a.0)
      (a.2, within, put r a.1 a.3, λ i. omega arith)
  Fills-single (Err f) a b = (is_broken new f b.1, all_taken f b.1 b.2, λ i. subst IsFeedFault (sym b.0) tt)

  pub Reports-filled : (k : Result RecordStep RecordFault) → IfOk k IsPut → IfErr k IsRefused → Reports old piece k
  Reports-filled (Ok s) a b = subst (λ k. Reports old piece (Ok k)) (sym a.0)
      (λ bytes rs h. (part, is_whole a.2 a.3 bytes rs h))
  Reports-filled (Err f) a b = Reports-broken old new f (4 + length part) piece same (is_broken new f b.1)
      (all_taken f b.1 b.2) (subst (λ x. Refuses old new x) (sym front) refuses)
