-- What a reader's answers tell of the bytes taken.
use Rattle.std.proofs.Common.{◌≡◌, ℕ, ◌+◌, ◌-◌, ◌≤◌, List, [], ◌∷◌, ◌++◌, length, take, drop, Ok, Err, refl, sym, ap}
use Rattle.std.proofs.Common.{◌∙◌, subst, append_assoc, length-append, arith}
use Rattle.std.proofs.lemmas.List.{append-nil, take_rest, take-append-drop}
use Rattle.xdr_io.proofs.Chained.{take-add}
use Rattle.rpc_record.specs.declared.place.Place.{Place}
use Rattle.rpc_record.specs.declared.place.Place.TheVariants as place
use Rattle.rpc_record.specs.declared.fault.RecordFault.{RecordFault}
use Rattle.rpc_record.specs.declared.fault.RecordFault.TheVariants as fault
use Rattle.rpc_record.specs.declared.fault.RecordStep.TheVariants as step
use Rattle.rpc_record.specs.declared.reader.RecordReader.{RecordReader}
use Rattle.rpc_record.specs.Reading.{IsWhole, IsInside, TooLongAt, RefusedIn, Faulty, FaultyIn}
use Rattle.rpc_record.specs.Fields.{IsBrokenAt, IsTakingAt, StandsAt}
use Rattle.rpc_record.specs.Private.Steps.{IsSteppedAt, IsFedAt}
use Rattle.rpc_record.specs.Reading.{capped}
use Rattle.rpc_record.specs.Represents.{Represents, IsTaking, IsWaiting, IsBroken, Takes, Reports}
use Rattle.rpc_record.specs.Private.Steps.{IsStepped, IsFed, Refuses}
use Rattle.rpc_record.specs.Represents.{Concludes, limit_of}
use Rattle.rpc_record.proofs.Readers.{FaultyIn-more, FaultyIn-other, FaultyIn-space, CutAt-end, Longest-taking}
use Rattle.rpc_record.proofs.Readers.{Represents-waiting, Represents-faulty}
use Rattle.rpc_record.proofs.Exact.{not_long}

stepped_retained : (p : Place) → IsSteppedAt p → IsBrokenAt p fault.NoMemory → ⊥
stepped_retained place.Between s b = b
stepped_retained (place.Header at part) s b = b
stepped_retained (place.Content f) s b = b
stepped_retained place.Whole s b = b
stepped_retained (place.Broken (fault.TooLong at)) s b = cc
stepped_retained (place.Broken (fault.Truncated at)) s b = s
stepped_retained (place.Broken fault.Read) s b = s
stepped_retained (place.Broken (fault.Write written)) s b = s
stepped_retained (place.Broken fault.TooManyReads) s b = s
stepped_retained (place.Broken fault.NoMemory) s b = s

fed_at : (p : Place) → IsSteppedAt p → IsFedAt p
fed_at place.Between s = tt
fed_at (place.Header at part) s = tt
fed_at (place.Content f) s = tt
fed_at place.Whole s = tt
fed_at (place.Broken (fault.TooLong at)) s = tt
fed_at (place.Broken (fault.Truncated at)) s = absurd s
fed_at (place.Broken fault.Read) s = absurd s
fed_at (place.Broken (fault.Write written)) s = absurd s
fed_at (place.Broken fault.TooManyReads) s = absurd s
fed_at (place.Broken fault.NoMemory) s = absurd s

pub IsFed-stepped : (reader : RecordReader) → IsStepped reader → IsFed reader
IsFed-stepped reader s = fed_at reader.place s

pub Refuses-none : (old new : RecordReader) (more : List ℕ) → IsStepped new → Refuses old new more
Refuses-none old new more s broken taking bytes rs h = absurd (stepped_retained new.place s broken)

-- a piece from n on, as a call is given it
pub Refuses-piece : (a b c : RecordReader) (n m : ℕ) (piece : List ℕ) → limit_of b ≡ limit_of a → IsTaking b
    → Takes a b (take n piece)
    → Refuses b c (take m (take (length piece - n) (drop n piece))) → Refuses a c (take (n + m) piece)
Refuses-piece a b c n m piece e i p q broken taking bytes rs h =
    let rest = take m (take (length piece - n) (drop n piece)) in
    let all : take n piece ++ rest ≡ take (n + m) piece = ap (λ k. take n piece ++ take m k) (take_rest piece n)
    ∙ take-add n m piece in
    let space : length rest ≤ length (take (n + m) piece) = omega
    (arith, ap length all, length-append (take n piece) rest) in
    FaultyIn-space a.limit (length rest) (length (take (n + m) piece)) rs fault.NoMemory
    (bytes ++ take (n + m) piece) space
    (subst (λ k. FaultyIn k rs fault.NoMemory (length rest) (bytes ++ take (n + m) piece)) e
    (subst (λ k. FaultyIn b.limit rs fault.NoMemory (length rest) k) (append_assoc bytes (take n piece) rest
    ∙ ap (λ k. bytes ++ k) all)
    (q broken i (bytes ++ take n piece) rs (p bytes rs h))))

pub Reports-more : (old new : RecordReader) (piece : List ℕ) → limit_of new ≡ limit_of old → IsTaking new
    → Takes old new piece → Reports old piece (Ok step.More)
Reports-more old new piece e i k bytes rs h =
    let s = k bytes rs h in (
      Longest-taking old.limit new (bytes ++ piece) rs e i s,
      λ others at t. not_long new at (bytes ++ piece) rs others i s
          (subst (λ l. TooLongAt l others at (bytes ++ piece)) (sym e) t),
    )

pub Reports-whole : (old new : RecordReader) (used : ℕ) (piece : List ℕ) → limit_of new ≡ limit_of old → IsWaiting new
    → Takes old new (take used piece)
    → Reports old piece (Ok (step.Whole used))
Reports-whole old new used piece e w k bytes rs h =
    let s = Represents-waiting new (bytes ++ take used piece) rs w (k bytes rs h) in
    (new.content.items, subst (λ l. IsWhole l (rs ++ new.content.items ∷ []) (bytes ++ take used piece)) e s.0)

pub Reports-broken : (old new : RecordReader) (f : RecordFault) (n : ℕ) (piece : List ℕ) → limit_of new ≡ limit_of old
    → IsBroken new f
    → Takes old new piece → Refuses old new (take n piece) → Reports old piece (Err f)
Reports-broken old new f n piece e b k r bytes rs h =
    let faulty = subst (λ l. Faulty l rs f (bytes ++ piece)) e
    (Represents-faulty new f (bytes ++ piece) rs b (k bytes rs h)) in
    let all = take-append-drop n piece in
    let space : length (take n piece) + length (drop n piece) ≤ length piece = omega
    (arith, ap length all, length-append (take n piece) (drop n piece)) in (
      faulty,
      λ taking. FaultyIn-other old.limit (length (bytes ++ piece)) (length piece) rs f (bytes ++ piece)
          (λ (same : f ≡ fault.NoMemory). subst (λ x. RefusedIn old.limit rs (length piece) x)
          (append_assoc bytes (take n piece) (drop n piece) ∙ ap (λ x. bytes ++ x) all)
          (FaultyIn-more old.limit (length (take n piece)) (length piece) rs fault.NoMemory (bytes ++ take n piece)
          (drop n piece) space
          (r (subst (λ x. IsBroken new x) same b) taking bytes rs h))) faulty,
    )

-- the input ends between two records, while one waits, and inside one
pub Concludes-between : (reader : RecordReader) (u : Unit {0}) → reader.place ≡ place.Between → Concludes reader (Ok u)
Concludes-between reader u e bytes rs h =
    let s = subst (λ p. StandsAt reader.limit p reader.content.items reader.taken bytes rs) e h in
    ([], (omega arith, subst (λ x. IsWhole reader.limit x bytes) (sym (append-nil rs)) s.1, λ taking. refl))

pub Concludes-waiting : (reader : RecordReader) (u : Unit {0}) → IsWaiting reader → Concludes reader (Ok u)
Concludes-waiting reader u w bytes rs h = (
  reader.content.items ∷ [],
  (omega arith, (Represents-waiting reader bytes rs w h).0, λ taking. absurd (subst IsTakingAt w taking)),
)

pub not_broken : (p : Place) (f : RecordFault) → IsTakingAt p → IsBrokenAt p f → ⊥
not_broken (place.Broken g) f i e = i
not_broken place.Between f i e = e
not_broken (place.Header at part) f i e = e
not_broken (place.Content w) f i e = e
not_broken place.Whole f i e = e

pub Concludes-broken : (reader : RecordReader) (f : RecordFault) → IsBroken reader f → Concludes reader (Err f)
Concludes-broken reader f b bytes rs h = (
  Represents-faulty reader f bytes rs b h,
  λ taking. absurd (not_broken reader.place f taking b),
)

pub Concludes-inside : (reader : RecordReader)
    → ((bytes : List ℕ) (rs : List (List ℕ)) → Represents reader bytes rs
    → (reader.taken ≡ capped (length bytes)) × IsInside reader.limit rs bytes)
    → Concludes reader (Err (fault.Truncated reader.taken))
Concludes-inside reader inside bytes rs h =
    let i = inside bytes rs h in (
      subst (λ b. Faulty reader.limit rs (fault.Truncated reader.taken) b) (append-nil bytes)
          (CutAt-end reader.limit reader.taken rs bytes i.0 i.1),
      λ taking. (ap (λ n. fault.Truncated n) i.0, i.1),
    )
