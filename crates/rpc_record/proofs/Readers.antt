-- What a reader stands for, with more bytes.
use Rattle.std.proofs.Common.{◌≡◌, ℕ, ◌+◌, ◌-◌, ◌<◌, ◌≤◌, false, List, [], ◌∷◌, ◌++◌, length, take, drop, refl, sym, ap}
use Rattle.std.proofs.Common.{◌∙◌, subst, append_assoc, length-append, arith}
use Rattle.std.proofs.lemmas.List.{append-nil, take_rest, take-append-drop}
use Rattle.xdr_io.proofs.Chained.{take-add}
use Rattle.std.specs.List.{flat_map}
use Rattle.rpc_record.specs.Marked.{header, fragment, Longest}
use Rattle.rpc_record.specs.declared.place.Place.{Place}
use Rattle.rpc_record.specs.declared.place.Place.TheVariants as place
use Rattle.rpc_record.specs.declared.fault.RecordFault.{RecordFault}
use Rattle.rpc_record.specs.declared.fault.RecordFault.TheVariants as fault
use Rattle.rpc_record.specs.declared.reader.RecordReader.{RecordReader}
use Rattle.rpc_record.specs.Reading.{Begins, IsWhole, IsInside, capped, TooLongAt, CutAt, RefusedIn, Faulty}
use Rattle.rpc_record.specs.Fields.{IsTakingAt}
use Rattle.rpc_record.specs.Reading.{FaultyIn, FaultsBegin}
use Rattle.rpc_record.specs.Fields.{IsBrokenAt, StandsAt}
use Rattle.rpc_record.specs.Represents.{Represents, IsTaking, IsBetween, IsWaiting, IsBroken, Takes, limit_of}
use Rattle.rpc_record.proofs.Places.{IsInside-at, Longest-at, Longest-inside}

pub Begins-more : (limit : ℕ) (rs : List (List ℕ)) (bytes more : List ℕ) → Begins limit rs bytes
    → Begins limit rs (bytes ++ more)
Begins-more limit rs bytes more h = record {
  whole = h.whole;
  more = h.more ++ more;
  stream = h.stream;
  within = h.within;
  spelled = ap (λ b. b ++ more) h.spelled ∙ append_assoc h.whole h.more more;
}

pub TooLongAt-more : (limit at : ℕ) (rs : List (List ℕ)) (bytes more : List ℕ) → TooLongAt limit rs at bytes
    → TooLongAt limit rs at (bytes ++ more)
TooLongAt-more limit at rs bytes more h = record {
  before = h.before;
  content = h.content;
  last = h.last;
  count = h.count;
  more = h.more ++ more;
  upto = h.upto;
  place = h.place;
  counted = h.counted;
  passes = h.passes;
  spelled = ap (λ b. b ++ more) h.spelled ∙ append_assoc h.before _ more
      ∙ ap (λ b. h.before ++ b) (append_assoc (header h.last h.count) h.more more);
}

CutAt-more : (limit at : ℕ) (rs : List (List ℕ)) (bytes more : List ℕ) → CutAt limit rs at bytes
    → CutAt limit rs at (bytes ++ more)
CutAt-more limit at rs bytes more h = record {
  here = h.here;
  more = h.more ++ more;
  inside = h.inside;
  place = h.place;
  spelled = ap (λ b. b ++ more) h.spelled ∙ append_assoc h.here h.more more;
}

RefusedIn-more : (limit n m : ℕ) (rs : List (List ℕ)) (bytes more : List ℕ) → n + length more ≤ m
    → RefusedIn limit rs n bytes → RefusedIn limit rs m (bytes ++ more)
RefusedIn-more limit n m rs bytes more e h =
    let long = length-append h.rest more in
    record {
      here = h.here;
      rest = h.rest ++ more;
      inside = h.inside;
      longest = h.longest;
      some = omega (arith, long, h.some);
      few = omega (arith, long, h.few);
      spelled = ap (λ b. b ++ more) h.spelled ∙ append_assoc h.here h.rest more;
    }

pub FaultyIn-more : (limit n m : ℕ) (rs : List (List ℕ)) (f : RecordFault) (bytes more : List ℕ) → n + length more ≤ m
    → FaultyIn limit rs f n bytes → FaultyIn limit rs f m (bytes ++ more)
FaultyIn-more limit n m rs (fault.TooLong at) bytes more e h = TooLongAt-more limit at rs bytes more h
FaultyIn-more limit n m rs (fault.Truncated at) bytes more e h = CutAt-more limit at rs bytes more h
FaultyIn-more limit n m rs fault.Read bytes more e h = Begins-more limit rs bytes more h
FaultyIn-more limit n m rs (fault.Write written) bytes more e h = Begins-more limit rs bytes more h
FaultyIn-more limit n m rs fault.TooManyReads bytes more e h = Begins-more limit rs bytes more h
FaultyIn-more limit n m rs fault.NoMemory bytes more e h = RefusedIn-more limit n m rs bytes more e h

pub Faulty-more : (limit : ℕ) (rs : List (List ℕ)) (f : RecordFault) (bytes more : List ℕ) → Faulty limit rs f bytes
    → Faulty limit rs f (bytes ++ more)
Faulty-more limit rs f bytes more h = FaultyIn-more limit (length bytes) (length (bytes ++ more)) rs f bytes more
    (omega (arith, length-append bytes more)) h

-- where it came matters at an allocation failure alone
pub FaultyIn-other : (limit n m : ℕ) (rs : List (List ℕ)) (f : RecordFault) (bytes : List ℕ)
    → (f ≡ fault.NoMemory → RefusedIn limit rs m bytes)
    → FaultyIn limit rs f n bytes → FaultyIn limit rs f m bytes
FaultyIn-other limit n m rs (fault.TooLong at) bytes k h = h
FaultyIn-other limit n m rs (fault.Truncated at) bytes k h = h
FaultyIn-other limit n m rs fault.Read bytes k h = h
FaultyIn-other limit n m rs (fault.Write written) bytes k h = h
FaultyIn-other limit n m rs fault.TooManyReads bytes k h = h
FaultyIn-other limit n m rs fault.NoMemory bytes k h = k refl

-- what is left of them says how few they may be
RefusedIn-few : (limit n m : ℕ) (rs : List (List ℕ)) (bytes : List ℕ) (h : RefusedIn limit rs n bytes)
    → length h.rest ≤ m → RefusedIn limit rs m bytes
RefusedIn-few limit n m rs bytes h few = record {
  here = h.here;
  rest = h.rest;
  inside = h.inside;
  longest = h.longest;
  some = h.some;
  few = few;
  spelled = h.spelled;
}

-- it was refused somewhere in all of the bytes
pub RefusedIn-all : (limit n : ℕ) (rs : List (List ℕ)) (bytes : List ℕ) → RefusedIn limit rs n bytes
    → RefusedIn limit rs (length bytes) bytes
RefusedIn-all limit n rs bytes h =
    RefusedIn-few limit n (length bytes) rs bytes h (omega (arith, ap length h.spelled, length-append h.here h.rest))

pub FaultyIn-space : (limit n m : ℕ) (rs : List (List ℕ)) (f : RecordFault) (bytes : List ℕ) → n ≤ m
    → FaultyIn limit rs f n bytes → FaultyIn limit rs f m bytes
FaultyIn-space limit n m rs f bytes e h =
    FaultyIn-other limit n m rs f bytes
    (λ is. let r = subst (λ g. FaultyIn limit rs g n bytes) is h in
    RefusedIn-few limit n m rs bytes r (omega (arith, r.few, e))) h

pub Represents-broken : (reader : RecordReader) (f : RecordFault) (bytes more : List ℕ) (rs : List (List ℕ))
    → reader.place ≡ place.Broken f → Represents reader bytes rs → Represents reader (bytes ++ more) rs
Represents-broken reader f bytes more rs e h =
    subst (λ p. StandsAt reader.limit p reader.content.items reader.taken (bytes ++ more) rs) (sym e)
    (Faulty-more reader.limit rs f bytes more
    (subst (λ p. StandsAt reader.limit p reader.content.items reader.taken bytes rs) e h))

-- a broken reader takes the rest too
pub Takes-broken : (old new : RecordReader) (f : RecordFault) (n : ℕ) (piece : List ℕ) → new.place ≡ place.Broken f
    → Takes old new (take n piece) → Takes old new piece
Takes-broken old new f n piece e t bytes rs h =
    subst (λ b. Represents new b rs) (append_assoc bytes (take n piece) (drop n piece)
    ∙ ap (λ p. bytes ++ p) (take-append-drop n piece))
    (Represents-broken new f (bytes ++ take n piece) (drop n piece) rs e (t bytes rs h))

-- a piece from n on, as a call is given it
pub Takes-piece : (a b c : RecordReader) (n m : ℕ) (piece : List ℕ) → Takes a b (take n piece)
    → Takes b c (take m (take (length piece - n) (drop n piece))) → Takes a c (take (n + m) piece)
Takes-piece a b c n m piece p q bytes rs h =
    subst (λ b. Represents c b rs) (append_assoc bytes (take n piece) _
    ∙ ap (λ k. bytes ++ (take n piece ++ take m k)) (take_rest piece n) ∙ ap (λ k. bytes ++ k) (take-add n m piece))
    (q (bytes ++ take n piece) rs (p bytes rs h))

pub between_taking : (reader : RecordReader) → IsBetween reader → IsTaking reader
between_taking reader e = subst (λ p. IsTakingAt p) (sym e) tt

pub Represents-waiting : (reader : RecordReader) (bytes : List ℕ) (rs : List (List ℕ)) → IsWaiting reader
    → Represents reader bytes rs → IsWhole reader.limit (rs ++ reader.content.items ∷ []) bytes
    × (reader.taken ≡ capped (length bytes))
Represents-waiting reader bytes rs e h =
    subst (λ p. StandsAt reader.limit p reader.content.items reader.taken bytes rs) e h

pub Begins-inside : (limit : ℕ) (rs : List (List ℕ)) (bytes : List ℕ) → IsInside limit rs bytes
    → Begins limit rs (bytes ++ [])
Begins-inside limit rs bytes h = record {
  whole = h.whole;
  more = h.part;
  stream = h.stream;
  within = h.within;
  spelled = append-nil bytes ∙ h.spelled;
}

-- the input was told to end inside a record
pub CutAt-end : (limit at : ℕ) (rs : List (List ℕ)) (bytes : List ℕ) → at ≡ capped (length bytes)
    → IsInside limit rs bytes → CutAt limit rs at (bytes ++ [])
CutAt-end limit at rs bytes e h = record { here = bytes; more = []; inside = h; place = e; spelled = refl }

-- memory was refused for these bytes, inside a record
pub RefusedIn-now : (limit n : ℕ) (rs : List (List ℕ)) (bytes more : List ℕ) → 0 < length more → length more ≤ n
    → IsInside limit rs bytes
    → RefusedIn limit rs n (bytes ++ more)
RefusedIn-now limit n rs bytes more some few h =
    record {
      here = bytes;
      rest = more;
      inside = h;
      longest = Longest-inside limit rs bytes h;
      some = some;
      few = few;
      spelled = refl;
    }

begins_before : (limit : ℕ) (rs : List (List ℕ)) (here more bytes : List ℕ) → bytes ≡ here ++ more
    → IsInside limit rs here → Begins limit rs bytes
begins_before limit rs here more bytes e h = record {
  whole = h.whole;
  more = h.part ++ more;
  stream = h.stream;
  within = h.within;
  spelled = e ∙ ap (λ b. b ++ more) h.spelled ∙ append_assoc h.whole h.part more;
}

long_begins : (limit at : ℕ) (rs : List (List ℕ)) (bytes : List ℕ) → TooLongAt limit rs at bytes → Begins limit rs bytes
long_begins limit at rs bytes h =
    let tail = header h.last h.count ++ h.more in
    let firsts = flat_map (fragment false) h.upto.firsts in
    record {
      whole = h.upto.whole;
      more = firsts ++ tail;
      stream = h.upto.stream;
      within = h.upto.within;
      spelled = h.spelled ∙ ap (λ k. k ++ tail) h.upto.spelled ∙ append_assoc h.upto.whole firsts tail;
    }

pub faults_begin : FaultsBegin
faults_begin limit rs (fault.TooLong at) bytes h = long_begins limit at rs bytes h
faults_begin limit rs (fault.Truncated at) bytes h = begins_before limit rs h.here h.more bytes h.spelled h.inside
faults_begin limit rs fault.Read bytes h = h
faults_begin limit rs (fault.Write written) bytes h = h
faults_begin limit rs fault.TooManyReads bytes h = h
faults_begin limit rs fault.NoMemory bytes h = begins_before limit rs h.here h.rest bytes h.spelled h.inside

Begins-at : (limit taken : ℕ) (p : Place) (content bytes : List ℕ) (rs : List (List ℕ)) → IsTakingAt p
    → StandsAt limit p content taken bytes rs → Begins limit rs (bytes ++ [])
Begins-at limit taken place.Between content bytes rs i h = record {
  whole = bytes;
  more = [];
  stream = h.1.stream;
  within = h.1.within;
  spelled = refl;
}
Begins-at limit taken (place.Header at part) content bytes rs i h = Begins-inside limit rs bytes
    (IsInside-at limit taken (place.Header at part) content bytes rs tt h).1
Begins-at limit taken (place.Content f) content bytes rs i h = Begins-inside limit rs bytes
    (IsInside-at limit taken (place.Content f) content bytes rs tt h).1
Begins-at limit taken place.Whole content bytes rs i h = absurd i
Begins-at limit taken (place.Broken f) content bytes rs i h = absurd i

-- a reader that takes bytes has met whole records
pub Begins-taking : (limit : ℕ) (reader : RecordReader) (bytes : List ℕ) (rs : List (List ℕ)) → limit_of reader ≡ limit
    → IsTaking reader → Represents reader bytes rs → Begins limit rs (bytes ++ [])
Begins-taking limit reader bytes rs e i h = subst (λ l. Begins l rs (bytes ++ [])) e
    (Begins-at reader.limit reader.taken reader.place reader.content.items bytes rs i h)

pub Represents-same : (reader : RecordReader) (bytes : List ℕ) (rs : List (List ℕ)) → Represents reader bytes rs
    → Represents reader (bytes ++ []) rs
Represents-same reader bytes rs h = subst (λ b. Represents reader b rs) (sym (append-nil bytes)) h

-- the records of a reader that takes bytes are those of the longest front
pub Longest-taking : (limit : ℕ) (reader : RecordReader) (bytes : List ℕ) (rs : List (List ℕ)) → limit_of reader ≡ limit
    → IsTaking reader → Represents reader bytes rs → Longest limit rs bytes
Longest-taking limit reader bytes rs e i h = subst (λ l. Longest l rs bytes) e
    (Longest-at reader.limit reader.taken reader.place reader.content.items bytes rs i h)

Faulty-at : (limit taken : ℕ) (p : Place) (f : RecordFault) (content bytes : List ℕ) (rs : List (List ℕ))
    → IsBrokenAt p f → StandsAt limit p content taken bytes rs → Faulty limit rs f bytes
Faulty-at limit taken (place.Broken g) f content bytes rs e h = subst (λ k. Faulty limit rs k bytes) e h
Faulty-at limit taken place.Between f content bytes rs e h = absurd e
Faulty-at limit taken (place.Header at part) f content bytes rs e h = absurd e
Faulty-at limit taken (place.Content w) f content bytes rs e h = absurd e
Faulty-at limit taken place.Whole f content bytes rs e h = absurd e

pub Represents-faulty : (reader : RecordReader) (f : RecordFault) (bytes : List ℕ) (rs : List (List ℕ))
    → IsBroken reader f → Represents reader bytes rs → Faulty (limit_of reader) rs f bytes
Represents-faulty reader f bytes rs e h =
    Faulty-at reader.limit reader.taken reader.place f reader.content.items bytes rs e h
