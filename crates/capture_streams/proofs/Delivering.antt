-- Steps of a direction, one after another.
use Rattle.std.proofs.Common.{◌≡◌, ℕ, ◌+◌, ◌-◌, ◌^◌, ◌≤◌, min, List, [], ◌∷◌, ◌++◌, length, take, drop, Option}
use Rattle.std.proofs.Common.{None}
use Rattle.std.proofs.Common.{sym, ap, subst, ◌∙◌, inl, inr, arith, Result, Ok, Err, OnOk, is_err, false}
use Rattle.std.proofs.lemmas.Bool.{cases_lt}
use Rattle.std.proofs.lemmas.List.{append_assoc, append-nil, length-take, length-take-le, take-take}
use Rattle.std.proofs.lemmas.List.{drop_all}
use Rattle.std.proofs.lemmas.List.{drop-take, take-append-drop, length-drop}
use Rattle.std.proofs.Math.Seq.{take-add}
use Rattle.std.specs.BTreeMap.{BTreeMap}
use Rattle.std.specs.Option.{option_or}
use Rattle.capture_streams.specs.declared.piece.Piece.{Piece}
use Rattle.capture_streams.specs.declared.direction.Direction.{Direction}
use Rattle.capture_streams.specs.Segments.{Arrival, lead_of, byte_from, byte_of, given}
use Rattle.capture_streams.specs.Held.{HoldsAt}
use Rattle.capture_streams.specs.Represents.{Represents}
use Rattle.capture_streams.specs.Taking.{Takes, HandsOn, arrival_at}
use Rattle.capture_streams.specs.Private.Pieces.{Fills}
use Rattle.capture_streams.specs.Private.Steps.{patched, Pops, PopsAll, Steps}
use Rattle.capture_streams.proofs.Bytes.{byte_from-past, byte_from-shift, byte_from-split, front_same, front_at}
use Rattle.capture_streams.proofs.Bytes.{option_or-none}
use Rattle.capture_streams.proofs.Stepping.{same_represents, patched_some, patched-nil, patched-append, covered}
use Rattle.capture_streams.proofs.Given.{given-push}

-- ---- bytes handed on so far

more_handed : (out a b x y : List ℕ) → x ≡ out ++ a → y ≡ x ++ b → y ≡ out ++ (a ++ b)
more_handed out a b x y e f = f ∙ ap (λ (z : List ℕ). z ++ b) e ∙ append_assoc out a b

joined : (d : Direction) (g : ℕ → Option ℕ) (base : ℕ) (before a b : List ℕ)
    → Represents d g base ((before ++ a) ++ b) → Represents d g base (before ++ (a ++ b))
joined d g base before a b r = subst (λ (z : List ℕ). Represents d g base z) (append_assoc before a b) r

nothing_more : (d : Direction) (g : ℕ → Option ℕ) (base : ℕ) (before : List ℕ)
    → Represents d g base before → Represents d g base (before ++ [])
nothing_more d g base before r = subst (λ (z : List ℕ). Represents d g base z) (sym (append-nil before)) r

pub no_steps : (d : Direction) (at : ℕ) (out : List ℕ) → Steps d d at [] out out
no_steps d at out = record {
  handed = [];
  appended = sym (append-nil out);
  moves = λ g base before r.
      nothing_more d (patched g at []) base before
      (same_represents d g (patched g at []) base before (λ p low. sym (patched-nil g at p)) r);
}

-- more of the bytes were taken
pub steps_more : (old mid new : Direction) (at done n : ℕ) (bytes out out' out'' : List ℕ)
    → Steps old mid at (take done bytes) out out' → mid.due ≡ at + done → done ≤ length bytes
    → Steps mid new mid.due (take n (drop done bytes)) out' out'' → Steps old new at (take (done + n) bytes) out out''
steps_more old mid new at done n bytes out out' out'' s due few t =
    let xs = take done bytes in
    let ys = take n (drop done bytes) in
    let long : length xs ≡ done = length-take-le done bytes few in
    let e : mid.due ≡ at + length xs = due ∙ ap (λ (k : ℕ). at + k) (sym long) in
    record {
      handed = s.handed ++ t.handed;
      appended = more_handed out s.handed t.handed out' out'' s.appended t.appended;
      moves = λ g base before r.
          let step : Represents new (patched (patched g at xs) mid.due ys) base ((before ++ s.handed) ++ t.handed) =
          t.moves (patched g at xs) base (before ++ s.handed) (s.moves g base before r) in
          joined new (patched g at (take (done + n) bytes)) base before s.handed t.handed
          (same_represents new (patched (patched g at xs) mid.due ys) (patched g at (take (done + n) bytes)) base
          ((before ++ s.handed) ++ t.handed) (λ p low.
          ap (λ (k : ℕ). patched (patched g at xs) k ys p) e
          ∙ patched-append g at xs ys p
          ∙ ap (λ (zs : List ℕ). patched g at zs p) (sym (take-add done n bytes))) step);
    }

-- a held piece is handed on, and covers what of the bytes has its places
pub steps_pop : (old mid new : Direction) (at done more : ℕ) (bytes out out' out'' : List ℕ)
    → Steps old mid at (take done bytes) out out' → done ≤ more → at + more ≤ new.due → Pops mid new out' out''
    → Steps old new at (take more bytes) out out''
steps_pop old mid new at done more bytes out out' out'' s few far t =
    let xs = take done bytes in
    let ys = drop done (take more bytes) in
    let whole : xs ++ ys ≡ take more bytes =
    ap (λ (zs : List ℕ). zs ++ ys) (sym (take-take done more bytes few)) ∙ take-append-drop done (take more bytes) in
    let short = length-take more bytes in
    let e : length (xs ++ ys) ≡ length (take more bytes) = ap length whole in
    record {
      handed = s.handed ++ t.handed;
      appended = more_handed out s.handed t.handed out' out'' s.appended t.appended;
      moves = λ g base before r.
          let step : Represents new (patched g at xs) base ((before ++ s.handed) ++ t.handed) =
          t.moves (patched g at xs) base (before ++ s.handed) (s.moves g base before r) in
          let all : Represents new (patched g at (xs ++ ys)) base ((before ++ s.handed) ++ t.handed) =
          covered new g at xs ys base ((before ++ s.handed) ++ t.handed) (omega arith) step in
          joined new (patched g at (take more bytes)) base before s.handed t.handed
          (subst (λ (zs : List ℕ). Represents new (patched g at zs) base ((before ++ s.handed) ++ t.handed)) whole
          all);
    }

-- the same due place and the same pieces
pub pops_as : (old same new : Direction) (out out' : List ℕ) → same.due ≡ old.due
    → same.pieces.by_last ≡ old.pieces.by_last → Pops same new out out' → Pops old new out out'
pops_as old same new out out' due pieces t = record {
  handed = t.handed;
  appended = t.appended;
  moves = λ g base before r. t.moves g base before (record {
    due = due ∙ r.due;
    front = r.front;
    held = λ p low.
        let k : old.due ≤ p = omega arith in
        subst (λ (m : BTreeMap ℕ Piece). HoldsAt m p (g p)) (sym pieces) (r.held p k);
  });
  further = let x = t.further in omega arith;
}

-- a held piece is handed on at the due place
pub steps_popped : (old new : Direction) (bytes out out' : List ℕ) → Pops old new out out'
    → Steps old new old.due (take (new.due - old.due) bytes) out out'
steps_popped old new bytes out out' t =
    let further = t.further in
    steps_pop old old new old.due 0 (new.due - old.due) bytes out out out' (no_steps old old.due out) (omega arith)
    (omega arith) t

-- what was held was handed on
pub steps_pops : (old mid new : Direction) (at : ℕ) (bytes out out' out'' : List ℕ)
    → Steps old mid at bytes out out' → PopsAll mid new out' out'' → Steps old new at bytes out out''
steps_pops old mid new at bytes out out' out'' s t = record {
  handed = s.handed ++ t.handed;
  appended = more_handed out s.handed t.handed out' out'' s.appended t.appended;
  moves = λ g base before r.
      joined new (patched g at bytes) base before s.handed t.handed
      (t.moves (patched g at bytes) base (before ++ s.handed) (s.moves g base before r));
}

-- bytes ahead of the due place are held
pub steps_fill : (old new : Direction) (at : ℕ) (bytes out : List ℕ) → new.due ≡ old.due
    → Fills old.pieces.by_last new.pieces.by_last at bytes → Steps old new at bytes out out
steps_fill old new at bytes out due f = record {
  handed = [];
  appended = sym (append-nil out);
  moves = λ g base before r.
      nothing_more new (patched g at bytes) base before (record {
        due = due ∙ r.due;
        front = front_same g (patched g at bytes) base before
            (λ p b low high e. patched_some g at bytes p b e) r.front;
        held = λ p low.
            let k : old.due ≤ p = omega arith in
            f p (g p) (r.held p k);
      });
}

-- ---- a segment, by its sequence number

shifted : (first due sequence n : ℕ) (bytes : List ℕ) (p : ℕ) → lead_of first due sequence ≡ 2 ^ 31 + n
    → byte_from (due + lead_of first due sequence) bytes (p + 2 ^ 31) ≡ byte_from (due + n) bytes p
shifted first due sequence n bytes p lead =
    let e : due + lead_of first due sequence ≡ (due + n) + 2 ^ 31 = omega (arith, lead) in
    ap (λ (k : ℕ). byte_from k bytes (p + 2 ^ 31)) e ∙ byte_from-shift (due + n) (2 ^ 31) bytes p

pub takes_ahead : (old new : Direction) (sequence n : ℕ) (bytes out out' : List ℕ) → new.first ≡ old.first
    → lead_of old.first old.due sequence ≡ 2 ^ 31 + n → Steps old new (old.due + n) bytes out out'
    → Takes old new sequence bytes out out'
takes_ahead old new sequence n bytes out out' first lead s = record {
  handed = s.handed;
  appended = s.appended;
  stands = λ arrivals base before r.
      let a : Arrival = arrival_at old sequence bytes in
      let h : ℕ → Option ℕ = given old.first (arrivals ++ a ∷ []) in
      let step : Represents new h base (before ++ s.handed) =
      same_represents new (patched (given old.first arrivals) (old.due + n) bytes) h base (before ++ s.handed)
      (λ p low.
      ap (option_or (given old.first arrivals p)) (sym (shifted old.first old.due sequence n bytes p lead))
      ∙ sym (given-push old.first arrivals a p)) (s.moves (given old.first arrivals) base before r) in
      subst (λ (f : ℕ). Represents new (given f (arrivals ++ a ∷ [])) base (before ++ s.handed)) (sym first) step;
}

past_due : (begin due n : ℕ) (bytes : List ℕ) (p : ℕ) → begin + n ≡ due + 2 ^ 31 → due ≤ p
    → byte_from begin bytes (p + 2 ^ 31) ≡ byte_from due (drop n bytes) p
past_due begin due n bytes p e low =
    elim (cases_lt (length bytes) n) [
      | inl short ↦
          let none : drop n bytes ≡ [] = drop_all n bytes (omega arith) in
          byte_from-past begin bytes (p + 2 ^ 31) (omega arith)
          ∙ sym (ap (λ (zs : List ℕ). byte_from due zs p) none)
      | inr long ↦
          let front = length-take-le n bytes long in
          let none : byte_from begin (take n bytes) (p + 2 ^ 31) ≡ None =
          byte_from-past begin (take n bytes) (p + 2 ^ 31) (omega arith) in
          byte_from-split begin n bytes (p + 2 ^ 31) long
          ∙ ap (λ (o : Option ℕ). option_or o (byte_from (begin + n) (drop n bytes) (p + 2 ^ 31))) none
          ∙ ap (λ (k : ℕ). byte_from k (drop n bytes) (p + 2 ^ 31)) e
          ∙ byte_from-shift due (2 ^ 31) (drop n bytes) p
    ]

pub takes_behind : (old new : Direction) (sequence n : ℕ) (bytes out out' : List ℕ) → new.first ≡ old.first
    → lead_of old.first old.due sequence + n ≡ 2 ^ 31 → Steps old new old.due (drop n bytes) out out'
    → Takes old new sequence bytes out out'
takes_behind old new sequence n bytes out out' first lead s = record {
  handed = s.handed;
  appended = s.appended;
  stands = λ arrivals base before r.
      let a : Arrival = arrival_at old sequence bytes in
      let g : ℕ → Option ℕ = given old.first arrivals in
      let h : ℕ → Option ℕ = given old.first (arrivals ++ a ∷ []) in
      let begin : ℕ = old.due + lead_of old.first old.due sequence in
      let at = r.due in
      let e : begin + n ≡ old.due + 2 ^ 31 = omega (arith, lead) in
      let step : Represents new h base (before ++ s.handed) =
      same_represents new (patched g old.due (drop n bytes)) h base (before ++ s.handed)
      (λ p low. elim (cases_lt p old.due) [
        | inl before_due ↦
            let there = front_at g base before r.front p low (omega arith) in
            patched_some g old.due (drop n bytes) p there.0 there.1
            ∙ sym (given-push old.first arrivals a p
            ∙ ap (λ (o : Option ℕ). option_or o (byte_of old.first a p)) there.1)
        | inr from_due ↦
            ap (option_or (g p)) (sym (past_due begin old.due n bytes p e from_due))
            ∙ sym (given-push old.first arrivals a p)
      ]) (s.moves g base before r) in
      subst (λ (f : ℕ). Represents new (given f (arrivals ++ a ∷ [])) base (before ++ s.handed)) (sym first) step;
}

-- what was taken behind the due place, where memory was refused after so many bytes
pub behind_part : (passed n count : ℕ) (bytes : List ℕ) → passed ≡ min (length bytes) n
    → count ≤ length (drop passed bytes) → drop n (take (passed + count) bytes) ≡ take count (drop passed bytes)
behind_part passed n count bytes e few =
    let long = length-drop passed bytes in
    elim (cases_lt (length bytes) n) [
      | inl short ↦
          let all = length-take (passed + count) bytes in
          let none : drop passed bytes ≡ [] = drop_all passed bytes (omega arith) in
          let zero : count ≡ 0 = omega arith in
          drop_all n (take (passed + count) bytes) (omega arith)
          ∙ sym (ap (λ (zs : List ℕ). take count zs) none ∙ ap (λ (k : ℕ). take k []) zero)
      | inr more ↦
          let same : passed ≡ n = omega arith in
          ap (λ (k : ℕ). drop k (take (passed + count) bytes)) (sym same) ∙ drop-take passed count bytes
    ]

-- handing on is for whatever segments came
pub hands_on : (old new : Direction) (out out' : List ℕ) → new.first ≡ old.first → PopsAll old new out out'
    → HandsOn old new out out'
hands_on old new out out' first s = record {
  handed = s.handed;
  appended = s.appended;
  stands = λ arrivals base before r.
      subst (λ (f : ℕ). Represents new (given f arrivals) base (before ++ s.handed)) (sym first)
      (s.moves (given old.first arrivals) base before r);
}

-- a segment of which nothing was taken
pub takes_nothing : (d : Direction) (sequence : ℕ) (out : List ℕ) → Takes d d sequence [] out out
takes_nothing d sequence out = record {
  handed = [];
  appended = sym (append-nil out);
  stands = λ arrivals base before r.
      let a : Arrival = arrival_at d sequence [] in
      nothing_more d (given d.first (arrivals ++ a ∷ [])) base before
      (same_represents d (given d.first arrivals) (given d.first (arrivals ++ a ∷ [])) base before
      (λ p low. sym (given-push d.first arrivals a p ∙ option_or-none (given d.first arrivals p))) r);
}

-- what an answer says where it is Ok
pub ok_then : {T E : Type 0} {P Q : Type 0} (result : Result T E) → OnOk result P → (P → Q) → OnOk result Q
ok_then (Ok x) p f = f p
ok_then (Err e) p f = tt

pub where_ok : {T E P : Type 0} (result : Result T E) → is_err result ≡ false → OnOk result P → P
where_ok (Ok x) ok p = p
where_ok (Err e) ok p = absurd cc
