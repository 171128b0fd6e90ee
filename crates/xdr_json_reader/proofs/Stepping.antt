-- One step of the reader over all that is open.
use Rattle.std.proofs.Common.{◌≡◌, ℕ, suc, ◌+◌, ◌-◌, ◌≤◌, ◌⊎◌, inl, inr, List, [], ◌∷◌, ◌++◌}
use Rattle.std.proofs.Common.{length, map, reverse, Option, Some, None}
use Rattle.std.proofs.Common.{option_and_then, refl, sym, ap, ◌∙◌, arith, subst, MatchResult, Result, Ok, Err}
use Rattle.std.proofs.lemmas.List.{map-append, reverse-append, length-append}
use Rattle.json.specs.Token.{Token}
use Rattle.json.specs.Json.{Json, value, if_last}
use Rattle.json.specs.Lex.{tokens}
use Rattle.xdr_json.specs.Text.{json_text}
use Rattle.xdr_json_reader.specs.Reasons.{nested_text}
use Rattle.xdr_json_reader.specs.Tape.{json_in}
use Rattle.xdr_json_reader.specs.Private.Frames.{Frame, array_of, object_of, inner, put, closed, key_of}
use Rattle.xdr_json_reader.specs.Private.Frames.{frame_of, after, rest, made}
use Rattle.xdr_json_reader.specs.Private.Begun.{IsOpened, Goes}
use Rattle.xdr_json_reader.specs.Private.Steps.{AreFew, Deep, Steps, NoneRead, Closes, Opens, Puts}
use Rattle.xdr_json_reader.specs.declared.fault.JsonFault.{JsonFault}
use Rattle.xdr_json_reader.specs.declared.fault.JsonReason.{JsonReason}
use Rattle.xdr_json_reader.specs.declared.fault.JsonReason.TheVariants.{NoMemory, TooDeep, NotJson}
use Rattle.xdr_json_reader.specs.declared.tape.Node.{Node}
use Rattle.xdr_json_reader.specs.declared.tape_frames.Open.{Open}
use Rattle.xdr_json_reader.specs.declared.tape_frames.Begun.TheVariants as begun
use Rattle.xdr_json_reader.specs.declared.tape_stack.Frames.{Frames}
use Rattle.xdr_json_reader.specs.declared.tape_stack.Step.{Step}
use Rattle.xdr_json_reader.specs.declared.tape_stack.Step.TheVariants as step

abbrev Answer : Type 0
Answer = Option (Json × List Token)

twice : (f g : Json × List Token → Answer) (o : Answer)
    → option_and_then f (option_and_then g o) ≡ option_and_then (λ p. option_and_then f (g p)) o
twice f g None = refl
twice f g (Some p) = refl

-- ---- over plain frames

none_goes : (d : ℕ) (f : Frame) (fs : List Frame) (ts : List Token) → inner d f ts ≡ None → rest d f fs ts ≡ None
none_goes d f fs ts e = ap (option_and_then (after (suc d) fs (key_of f))) e

ends_last : (d : ℕ) (f : Frame) (j : Json) (ts new : List Token) → inner d f ts ≡ Some (j, new)
    → rest d f [] ts ≡ Some (j, new)
ends_last d f j ts new e = ap (option_and_then (after (suc d) [] (key_of f))) e

ends : (d : ℕ) (f g : Frame) (fs : List Frame) (j : Json) (ts new : List Token) → inner d f ts ≡ Some (j, new)
    → rest d f (g ∷ fs) ts ≡ rest (suc d) (put g (key_of f) j) fs new
ends d f g fs j ts new e =
    ap (option_and_then (after (suc d) (g ∷ fs) (key_of f))) e ∙ same g
  where
    same : (g : Frame) → after (suc d) (g ∷ fs) (key_of f) (j, new) ≡ rest (suc d) (put g (key_of f) j) fs new
    same (array_of k done) = refl
    same (object_of k done) = refl

key-put : (f : Frame) (k : List ℕ) (j : Json) → key_of (put f k j) ≡ key_of f
key-put (array_of k done) key j = refl
key-put (object_of k done) key j = refl

goes_whole : (d : ℕ) (f : Frame) (fs : List Frame) (k : List ℕ) (n : Node) (ts new : List Token)
    → Goes f k ts (begun.Whole n) new → rest d f fs ts ≡ rest d (put f k (json_in n)) fs new
goes_whole d f fs k n ts new g =
    ap (option_and_then (after (suc d) fs (key_of f)))
    (g.turn d ∙ ap (option_and_then (λ p. inner d (put f k p.0) p.1)) (g.begins d))
    ∙ ap (λ (key : List ℕ). option_and_then (after (suc d) fs key) (inner d (put f k (json_in n)) new))
    (sym (key-put f k (json_in n)))

goes_in : (d : ℕ) (f : Frame) (fs : List Frame) (k : List ℕ) (o : Open) (ts new : List Token)
    → Goes f k ts (begun.Opened o) new → rest (suc d) f fs ts ≡ rest d (frame_of o) (f ∷ fs) new
goes_in d f fs k o ts new g =
    ap (option_and_then (after (suc (suc d)) fs (key_of f)))
    (g.turn (suc d) ∙ ap (option_and_then (λ p. inner (suc d) (put f k p.0) p.1)) (g.begins.inside d))
    ∙ twice (after (suc (suc d)) fs (key_of f)) (λ p. inner (suc d) (put f k p.0) p.1) (inner d (frame_of o) new)
    ∙ same f (inner d (frame_of o) new)
    ∙ ap (λ (key : List ℕ). option_and_then (after (suc d) (f ∷ fs) key) (inner d (frame_of o) new))
    (sym g.begins.named)
  where
    same : (f : Frame) (x : Answer)
        → option_and_then (λ p. option_and_then (after (suc (suc d)) fs (key_of f)) (inner (suc d) (put f k p.0) p.1)) x
        ≡ option_and_then (after (suc d) (f ∷ fs) k) x
    same (array_of key done) x = refl
    same (object_of key done) x = refl

too_deep : (f : Frame) (fs : List Frame) (k : List ℕ) (o : Open) (ts new : List Token)
    → Goes f k ts (begun.Opened o) new → rest 0 f fs ts ≡ None
too_deep f fs k o ts new g =
    none_goes 0 f fs ts
    (g.turn 0 ∙ ap (option_and_then (λ p. inner 0 (put f k p.0) p.1)) g.begins.deepest)

-- ---- over the frames that are held

some_then : (k : List ℕ) (d : ℕ) (x : Answer) → x ≡ option_and_then (after (suc d) [] k) x
some_then k d None = refl
some_then k d (Some p) = refl

snoc : (ns : List Open) (p : Open) → reverse (map frame_of (ns ++ p ∷ [])) ≡ frame_of p ∷ reverse (map frame_of ns)
snoc ns p =
    ap reverse (map-append frame_of ns (p ∷ [])) ∙ reverse-append (map frame_of ns) (frame_of p ∷ [])

abbrev held : (depth : ℕ) → Frame → List Open → List Token → Answer
held depth f outer ts = rest (depth - length outer) f (reverse (map frame_of outer)) ts

starts : (d : ℕ) (o : Open) (outer : List Open) (old new : List Token) (k : List ℕ) → outer ≡ [] → IsOpened k old o new
    → value (suc d) old ≡ held d (frame_of o) outer new
starts d o outer old new k none opened =
    let all : d - 0 ≡ d = omega arith in
    opened.inside d ∙ some_then (key_of (frame_of o)) d (inner d (frame_of o) new)
    ∙ ap (λ (n : ℕ). rest n (frame_of o) [] new) (sym all)
    ∙ sym (ap (λ (os : List Open). held d (frame_of o) os new) none)

ends_held : (d : ℕ) → 4095 ≤ d → (f : Frame) (outer ns : List Open) (p : Open) (j : Json) (old new : List Token)
    → outer ≡ ns ++ p ∷ [] → length outer ≤ 4095 → ((n : ℕ) → inner n f old ≡ Some (j, new))
    → held d f outer old ≡ held d (put (frame_of p) (key_of f) j) ns new
ends_held d low f outer ns p j old new e few end =
    let long : length (ns ++ p ∷ []) ≡ length ns + 1 = length-append ns (p ∷ []) in
    let few' : length (ns ++ p ∷ []) ≤ 4095 = subst (λ (os : List Open). length os ≤ 4095) e few in
    let deep : suc (d - length (ns ++ p ∷ [])) ≡ d - length ns = omega (arith, long, few', low) in
    ap (λ (os : List Open). held d f os old) e
    ∙ ap (λ (fs : List Frame). rest (d - length (ns ++ p ∷ [])) f fs old) (snoc ns p)
    ∙ ends (d - length (ns ++ p ∷ [])) f (frame_of p) (reverse (map frame_of ns)) j old new
    (end (d - length (ns ++ p ∷ [])))
    ∙ ap (λ (n : ℕ). rest n (put (frame_of p) (key_of f) j) (reverse (map frame_of ns)) new) deep

goes_held : (d : ℕ) → 4095 ≤ d → (top : Open) (outer next : List Open) (o : Open) (k : List ℕ) (old new : List Token)
    → next ≡ outer ++ top ∷ [] → length next ≤ 4095 → Goes (frame_of top) k old (begun.Opened o) new
    → held d (frame_of top) outer old ≡ held d (frame_of o) next new
goes_held d low top outer next o k old new e few g =
    let long : length (outer ++ top ∷ []) ≡ length outer + 1 = length-append outer (top ∷ []) in
    let few' : length (outer ++ top ∷ []) ≤ 4095 = subst (λ (os : List Open). length os ≤ 4095) e few in
    let deep : d - length outer ≡ suc (d - length (outer ++ top ∷ [])) = omega (arith, long, few', low) in
    ap (λ (n : ℕ). rest n (frame_of top) (reverse (map frame_of outer)) old) deep
    ∙ goes_in (d - length (outer ++ top ∷ [])) (frame_of top) (reverse (map frame_of outer)) k o old new g
    ∙ ap (λ (fs : List Frame). rest (d - length (outer ++ top ∷ [])) (frame_of o) fs new) (sym (snoc outer top))
    ∙ ap (λ (os : List Open). held d (frame_of o) os new) (sym e)

abbrev IsMade : Frames → List Token → List Token → Result Step JsonFault → Type 0
IsMade frames old new r =
    MatchResult r (λ s. Steps frames old s new) (λ f. NoneRead f.why (λ d. made d frames old ≡ None))

pub opened : (frames : Frames) (o : Open) (k : List ℕ) (old new : List Token) (r : Result Step JsonFault)
    → Goes (frame_of frames.top) k old (begun.Opened o) new
    → MatchResult r (λ s. Opens frames o s)
    (λ f. (f.why ≡ NoMemory) ⊎ ((f.why ≡ TooDeep) × (length frames.outer.items ≡ 4095)))
    → IsMade frames old new r
opened frames o k old new (Ok (step.Done n)) g h = absurd h
opened frames o k old new (Ok (step.On next)) g h = (
  (λ d low.
      goes_held d low frames.top frames.outer.items next.outer.items o k old new h.1 h.2 g
      ∙ ap (λ (p : Open). held d (frame_of p) next.outer.items new) (sym h.0)),
  h.2,
)
opened frames o k old new (Err f) g (inl e) = inl e
opened frames o k old new (Err f) g (inr e) =
    inr (inl (
      e.0,
      ap (λ (n : ℕ). rest (4095 - n) (frame_of frames.top) (reverse (map frame_of frames.outer.items)) old) e.1
          ∙ too_deep (frame_of frames.top) (reverse (map frame_of frames.outer.items)) k o old new g,
    ))

pub ended : (frames : Frames) (old new : List Token) (r : Result Step JsonFault) → AreFew frames
    → ((d : ℕ) → inner d (frame_of frames.top) old ≡ Some (closed (frame_of frames.top), new))
    → MatchResult r (λ s. Closes frames s) (λ f. f.why ≡ NoMemory) → IsMade frames old new r
ended frames old new (Ok (step.Done n)) few end h = λ d low.
    ap (λ (os : List Open). held d (frame_of frames.top) os old) h.0
    ∙ ends_last (d - 0) (frame_of frames.top) (closed (frame_of frames.top)) old new (end (d - 0))
    ∙ ap (λ (j : Json). Some (j, new)) (sym h.1)
ended frames old new (Ok (step.On next)) few end h =
    let long = ap length h.outer ∙ length-append next.outer.items (h.parent ∷ []) in (
      (λ d low.
          ends_held d low (frame_of frames.top) frames.outer.items next.outer.items h.parent
          (closed (frame_of frames.top))
          old new h.outer few end
          ∙ ap (λ (f : Frame). held d f next.outer.items new) (sym h.top)),
      omega (arith, few, long),
    )
ended frames old new (Err f) few end e = inl e

pub over : (frames : Frames) (k : List ℕ) (n : Node) (old new : List Token) (r : Result Step JsonFault)
    → AreFew frames → Goes (frame_of frames.top) k old (begun.Whole n) new
    → MatchResult r (λ s. Puts frames k n s) (λ f. f.why ≡ NoMemory) → IsMade frames old new r
over frames k n old new (Ok (step.Done m)) few g h = absurd h
over frames k n old new (Ok (step.On next)) few g h = (
  (λ d low.
      goes_whole (d - length frames.outer.items) (frame_of frames.top) (reverse (map frame_of frames.outer.items)) k n
      old
      new g
      ∙ ap (λ (f : Frame). held d f frames.outer.items new) (sym h.0)
      ∙ ap (λ (os : List Open). held d (frame_of next.top) os new) (sym h.1)),
  subst (λ (os : List Open). length os ≤ 4095) (sym h.1) few,
)
over frames k n old new (Err f) few g e = inl e

pub none_made : (frames : Frames) (old : List Token) → ((d : ℕ) → inner d (frame_of frames.top) old ≡ None)
    → NoneRead NotJson (λ d. made d frames old ≡ None)
none_made frames old none =
    inr (inr (
      refl,
      λ d low.
          none_goes (d - length frames.outer.items) (frame_of frames.top) (reverse (map frame_of frames.outer.items))
          old
          (none (d - length frames.outer.items)),
    ))

pub none_begun : (old : List Token) → ((d : ℕ) → value d old ≡ None) → NoneRead NotJson (λ d. value (suc d) old ≡ None)
none_begun old none = inr (inr (refl, λ d low. none (suc d)))

pub begun_made : (frames : Frames) (k : List ℕ) (old new : List Token) → frames.outer.items ≡ []
    → IsOpened k old frames.top new → Deep (λ d. value (suc d) old ≡ made d frames new)
begun_made frames k old new none o = λ d low. starts d frames.top frames.outer.items old new k none o

-- ---- what was read before: the first tokens make what those make that are left

pub goes_on_made : (frames next : Frames) (first old new : List Token)
    → Deep (λ d. value (suc d) first ≡ made d frames old) → Deep (λ d. made d frames old ≡ made d next new)
    → Deep (λ d. value (suc d) first ≡ made d next new)
goes_on_made frames next first old new before same = λ d low. before d low ∙ same d low

pub ends_made : (frames : Frames) (first old new : List Token) (n : Node)
    → Deep (λ d. value (suc d) first ≡ made d frames old) → Deep (λ d. made d frames old ≡ Some (json_in n, new))
    → Deep (λ d. value (suc d) first ≡ Some (json_in n, new))
ends_made frames first old new n before same = λ d low. before d low ∙ same d low

pub none_left : (w : JsonReason) (frames : Frames) (first old : List Token)
    → Deep (λ d. value (suc d) first ≡ made d frames old) → NoneRead w (λ d. made d frames old ≡ None)
    → NoneRead w (λ d. value (suc d) first ≡ None)
none_left w frames first old before (inl m) = inl m
none_left w frames first old before (inr (inl e)) = inr (inl (e.0, before 4095 (omega arith) ∙ e.1))
none_left w frames first old before (inr (inr n)) = inr (inr (n.0, λ d low. before d low ∙ n.1 d low))

-- ---- the whole text

abbrev last_of : ℕ → List Token → Option Json
last_of most ts = option_and_then (λ p. if_last p.0 p.1) (value most ts)

pub text_read : (text : List ℕ) (j : Json) (old new : List Token) → old ≡ tokens text
    → Deep (λ d. value (suc d) old ≡ Some (j, new)) → new ≡ [] → json_text text ≡ Some j
text_read text j old new e read end =
    ap (last_of 4096) (sym e) ∙ ap (option_and_then (λ p. if_last p.0 p.1)) (read 4095 (omega arith))
    ∙ ap (if_last j) end

pub text_goes_on : (text : List ℕ) (j : Json) (old new more : List Token) (t : Token) → old ≡ tokens text
    → Deep (λ d. value (suc d) old ≡ Some (j, new)) → new ≡ t ∷ more
    → NoneRead NotJson (λ d. nested_text (suc d) text ≡ None)
text_goes_on text j old new more t e read next =
    inr (inr (
      refl,
      λ d low.
          ap (last_of (suc d)) (sym e) ∙ ap (option_and_then (λ p. if_last p.0 p.1)) (read d low) ∙ ap (if_last j) next,
    ))

pub text_refused : (text : List ℕ) (old : List Token) (w : JsonReason) → old ≡ tokens text
    → NoneRead w (λ d. value (suc d) old ≡ None) → NoneRead w (λ d. nested_text (suc d) text ≡ None)
text_refused text old w e (inl m) = inl m
text_refused text old w e (inr (inl h)) =
    inr (inl (h.0, ap (last_of 4096) (sym e) ∙ ap (option_and_then (λ p. if_last p.0 p.1)) h.1))
text_refused text old w e (inr (inr n)) =
    inr (inr (
      n.0,
      λ d low.
          ap (last_of (suc d)) (sym e) ∙ ap (option_and_then (λ p. if_last p.0 p.1)) (n.1 d low),
    ))
