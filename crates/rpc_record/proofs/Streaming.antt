-- A stream of records, one record further, and its ends.
use Rattle.std.proofs.Common.{◌≡◌, ℕ, ◌≤◌, ◌⊎◌, inl, inr, List, [], ◌∷◌, ◌++◌, length, take, drop, Option, Some}
use Rattle.std.proofs.Common.{None, Ok, Err, refl, sym, ap, ◌∙◌, subst, append_assoc}
use Rattle.std.proofs.lemmas.List.{append-nil, take-append-drop}
use Rattle.std.specs.declared.vec.Vec.{Vec}
use Rattle.std.specs.declared.alloc.Global.{Global}
use Rattle.std.specs.Io.KnownBytes.{Keeps, Consumes, IsAtEnd}
use Rattle.xdr_io.proofs.Chained.{Consumes-trans, Consumes-none, Consumes-retained, Consumes-at_end}
use Rattle.rpc_record.specs.declared.fault.RecordFault.{RecordFault}
use Rattle.rpc_record.specs.declared.fault.RecordFault.TheVariants as fault
use Rattle.rpc_record.specs.declared.reader.RecordReader.{RecordReader}
use Rattle.rpc_record.specs.Marked.{Longest}
use Rattle.rpc_record.specs.Reading.{IsWhole, IsInside, Begins, HasNoLong, Faulty, FaultyIn, IsFeedFault}
use Rattle.rpc_record.specs.Fields.{IsTakingAt, StandsAt}
use Rattle.rpc_record.specs.Represents.{Represents, IsTaking, IsBroken, IsBetween, IsWaiting, Takes, Moves, Reports}
use Rattle.rpc_record.specs.Represents.{TruncatedAt, limit_of}
use Rattle.rpc_record.specs.Failures.{reads_failed}
use Rattle.rpc_record.specs.Streamed.{HasTaken, IsRead, FailsAt, Fails, HandsOf}
use Rattle.rpc_record.proofs.Readers.{Begins-more, Begins-taking, Longest-taking, FaultyIn-space, faults_begin}
use Rattle.rpc_record.proofs.Readers.{between_taking}
use Rattle.rpc_record.proofs.Places.{Longest-long}
use Rattle.rpc_record.proofs.Exact.{not_long}
use Rattle.rpc_record.proofs.Reported.{not_broken}

made : (limit : ℕ) (r : RecordReader) (fed w input : List ℕ) (rs : List (List ℕ)) (l m : Option (List ℕ))
    → Consumes l m input → input ≡ fed ++ w → limit_of r ≡ limit → IsTaking r → Represents r fed rs
    → HasTaken limit r w rs l m
made limit r fed w input rs l m read joined same taking represents = record {
  input = input;
  fed = fed;
  read = read;
  joined = joined;
  same = same;
  taking = taking;
  represents = represents;
  begins = subst (λ b. Begins limit rs b) (sym joined) (Begins-more limit rs fed w
      (subst (λ b. Begins limit rs b) (append-nil fed) (Begins-taking limit r fed rs same taking represents)));
}

pub taken_none : (limit : ℕ) (r : RecordReader) (l : Option (List ℕ)) → limit_of r ≡ limit → IsTaking r
    → Represents r [] [] → HasTaken limit r [] [] l l
taken_none limit r l e i s = made limit r [] [] [] [] l l (Consumes-none l) refl e i s

-- ---- the bytes that are held

-- a record is handed out
pub hands_filled : (old new : RecordReader) (w piece rest : List ℕ) (used : ℕ) (buffer : Vec ℕ Global) → piece ≡ w
    → limit_of new ≡ limit_of old → IsBetween new → Moves old new (take used piece) (buffer.items ∷ [])
    → rest ≡ drop used w → HandsOf old w new rest (Ok (Some buffer))
hands_filled old new w piece rest used buffer is e between moves h =
    λ limit rs l m p. made limit new (p.fed ++ take used w) rest p.input (rs ++ buffer.items ∷ []) l m p.read
    (p.joined ∙ ap (λ k. p.fed ++ k) (sym (take-append-drop used w) ∙ ap (λ k. take used w ++ k) (sym h))
    ∙ sym (append_assoc p.fed (take used w) rest)) (e ∙ p.same) (between_taking new between)
    (subst (λ k. Represents new (p.fed ++ take used k) (rs ++ buffer.items ∷ [])) is (moves p.fed rs p.represents))

-- no more record is whole
pub hands_none : (old new : RecordReader) (w piece rest : List ℕ) → piece ≡ w → limit_of new ≡ limit_of old
    → IsTaking new → Takes old new piece → rest ≡ [] → HandsOf old w new rest (Ok None)
hands_none old new w piece rest is e i t none = (
  none,
  λ limit rs l m p. made limit new (p.fed ++ w) rest p.input rs l m p.read
      (p.joined ∙ sym (append-nil (p.fed ++ w)) ∙ ap (λ k. (p.fed ++ w) ++ k) (sym none)) (e ∙ p.same) i
      (subst (λ k. Represents new (p.fed ++ k) rs) is (t p.fed rs p.represents)),
)

fails_at : (limit : ℕ) (rs : List (List ℕ)) (n : ℕ) (input : List ℕ) (m : Option (List ℕ)) (f : RecordFault)
    → IsFeedFault f → n ≤ 4096 → Faulty limit rs f input → FaultyIn limit rs f n input → FailsAt limit rs input m f
fails_at limit rs n input m (fault.TooLong at) i few h k = (h, Longest-long limit at rs input h)
fails_at limit rs n input m fault.NoMemory i few h k =
    (faults_begin limit rs fault.NoMemory input h, FaultyIn-space limit n 4096 rs fault.NoMemory input few k)
fails_at limit rs n input m (fault.Truncated at) i few h k = absurd i
fails_at limit rs n input m fault.Read i few h k = absurd i
fails_at limit rs n input m (fault.Write written) i few h k = absurd i
fails_at limit rs n input m fault.TooManyReads i few h k = absurd i

-- a fault comes
pub hands_fault : (old new : RecordReader) (w piece rest : List ℕ) (f : RecordFault) → piece ≡ w → length piece ≤ 4096
    → IsFeedFault f → Reports old piece (Err f) → HandsOf old w new rest (Err f)
hands_fault old new w piece rest f is few i reports limit rs l m p =
    let e : p.fed ++ piece ≡ p.input = ap (λ k. p.fed ++ k) is ∙ sym p.joined in
    let h = reports p.fed rs p.represents in
    let faulty = subst (λ n. Faulty n rs f (p.fed ++ piece)) p.same h.0 in
    let faulty_in = subst (λ n. FaultyIn n rs f (length piece) (p.fed ++ piece)) p.same (h.1 p.taking) in
    record {
      input = p.input;
      read = p.read;
      fails = fails_at limit rs (length piece) p.input m f i few (subst (λ b. Faulty limit rs f b) e faulty)
          (subst (λ b. FaultyIn limit rs f (length piece) b) e faulty_in);
    }

-- ---- a read, where no byte is held

module _ (limit : ℕ) (r : RecordReader) (w : List ℕ) (rs : List (List ℕ)) (l m : Option (List ℕ)) (none : w ≡ [])
    (p : HasTaken limit r w rs l m) where
  all_fed : p.input ≡ p.fed
  all_fed = p.joined ∙ ap (λ k. p.fed ++ k) none ∙ append-nil p.fed

  represents : Represents r p.input rs
  represents = subst (λ b. Represents r b rs) (sym all_fed) p.represents

  longest : Longest limit rs p.input
  longest = Longest-taking limit r p.input rs p.same p.taking represents

  has_no_long : HasNoLong limit p.input
  has_no_long = subst (λ x. HasNoLong x p.input) p.same
      (λ others at t. not_long r at p.input rs others p.taking represents t)

  pub taken_more : (x : List ℕ) (n : Option (List ℕ)) → Consumes m n x → HasTaken limit r x rs l n
  taken_more x n k = made limit r p.fed x (p.input ++ x) rs l n
      (Consumes-trans l m n p.input x (p.input ++ x) refl p.read k) (ap (λ b. b ++ x) all_fed) p.same p.taking
      p.represents

  pub fails_many : Fails limit rs l m fault.TooManyReads
  fails_many = record { input = p.input; read = p.read; fails = (longest, has_no_long) }

  pub fails_read : (n : Option (List ℕ)) → Keeps m n → Fails limit rs l n fault.Read
  fails_read n k = record {
    input = p.input;
    read = Consumes-trans l m n p.input [] p.input (append-nil p.input) p.read (Consumes-retained m n k);
    fails = (longest, has_no_long);
  }

  module _ (n : Option (List ℕ)) (array : List ℕ) (size : ℕ) (nothing : size ≡ 0) (k : Consumes m n (take size array))
      (end : IsAtEnd n) where
    read_all : Consumes l n p.input
    read_all = Consumes-at_end l m n p.input array size nothing p.read k

    pub is_read : IsBetween r ⊎ IsWaiting r → IsRead limit rs l n
    is_read between = record {
      input = p.input;
      read = read_all;
      end = end;
      whole = subst (λ x. IsWhole x rs p.input) p.same (by between);
      longest = longest;
      no_long = has_no_long;
    }
      where
        by : IsBetween r ⊎ IsWaiting r → IsWhole r.limit rs p.input
        by (inl e) = (subst (λ q. StandsAt r.limit q r.content.items r.taken p.input rs) e represents).1
        by (inr e) = absurd (subst IsTakingAt e p.taking)

    pub fails_inside : (f : RecordFault) → IsBroken r f ⊎ (IsTaking r × TruncatedAt r f) → Fails limit rs l n f
    fails_inside f (inl b) = absurd (not_broken r.place f p.taking b)
    fails_inside (fault.Truncated at) (inr (i, h)) = record {
      input = p.input;
      read = read_all;
      fails = (
        (h p.input rs represents).0,
        subst (λ x. IsInside x rs p.input) p.same (h p.input rs represents).1,
        longest,
        end,
        has_no_long,
      );
    }
    fails_inside (fault.TooLong at) (inr (i, h)) = absurd h
    fails_inside fault.Read (inr (i, h)) = absurd h
    fails_inside (fault.Write written) (inr (i, h)) = absurd h
    fails_inside fault.TooManyReads (inr (i, h)) = absurd h
    fails_inside fault.NoMemory (inr (i, h)) = absurd h

-- ---- which faults are no failed read

pub feed_unread : (f : RecordFault) → IsFeedFault f → 0 ≡ reads_failed f
feed_unread (fault.TooLong at) h = refl
feed_unread fault.NoMemory h = refl
feed_unread (fault.Truncated at) h = refl
feed_unread (fault.Write written) h = refl
feed_unread fault.TooManyReads h = refl
feed_unread fault.Read h = absurd h

pub end_unread : (r : RecordReader) (f : RecordFault) → IsTaking r → IsBroken r f ⊎ (IsTaking r × TruncatedAt r f)
    → 0 ≡ reads_failed f
end_unread r (fault.TooLong at) i h = refl
end_unread r fault.NoMemory i h = refl
end_unread r (fault.Truncated at) i h = refl
end_unread r (fault.Write written) i h = refl
end_unread r fault.TooManyReads i h = refl
end_unread r fault.Read i (inl b) = absurd (not_broken r.place fault.Read i b)
end_unread r fault.Read i (inr (j, t)) = absurd t
