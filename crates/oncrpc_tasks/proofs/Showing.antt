-- What is shown of bytes whose answer is known without lines.
use Rattle.std.proofs.Common.{◌≡◌, ◌⊎◌, inl, inr, ℕ, ◌≤◌, Bool, true, false, List, [], ◌++◌, length, take, refl, sym}
use Rattle.std.proofs.Common.{ap, subst, ◌∙◌, arith, Option, Some, None, Result, Ok, Err, IfOk, Vec, Global}
use Rattle.std.proofs.lemmas.List.{append-nil, length-append, take_at}
use Rattle.std.proofs.lemmas.Bool.{false≢true}
use Rattle.xdr_types.specs.Kinds.{KindView}
use Rattle.xdr_types.specs.Tree.{Tree}
use Rattle.xdr_types.specs.Within.{Bounds}
use Rattle.xdr_types.specs.Outcome.{Outcome, Whole}
use Rattle.xdr_laws.proofs.Longer.{stays}
use Rattle.xdr_laws.proofs.OneOutcome.{one_whole}
use Rattle.xdr_parts.specs.Coming.{IsOneValue}
use Rattle.xdr_types.specs.Spelling.{bytes_of}
use Rattle.xdr_stream.specs.declared.fault.DecodeFault.{DecodeFault}
use Rattle.xdr_stream.specs.declared.fault.Reason.{Reason}
use Rattle.xdr_stream.specs.declared.fault.Reason.TheVariants as reason
use Rattle.oncrpc_answers.specs.declared.answer.Answer.{Answer}
use Rattle.oncrpc_answers.specs.declared.answer.Answer.TheVariants as answer
use Rattle.oncrpc_answers.specs.declared.failure.Failure.{Failure}
use Rattle.oncrpc_tasks.specs.declared.question.Form.{Form}
use Rattle.oncrpc_tasks.specs.declared.question.Form.TheVariants as form
use Rattle.oncrpc_tasks.specs.Right.{Question, BeginsWithValue, HasOutcome, HasNoValue, IsWhole, IsRefusal, IsRight}
use Rattle.oncrpc_tasks.specs.Right.{IsRightFor, shown_in, shown_of}
use Rattle.oncrpc_tasks.specs.Stopping.{LastRead, IsUnread}
use Rattle.oncrpc_tasks.specs.Private.Judged.{IsRetained, Shows, keeps_of, unshown}
use Rattle.oncrpc_tasks.specs.Private.Reading.{ReadsInput}

same_value : (s : List KindView) (t : ℕ) (l : Bounds) (b more : List ℕ) (v w : Tree) (m n : ℕ)
    → Outcome s t l b (Whole v m) → Outcome s t l (b ++ more) (Whole w n) → v ≡ w
same_value s t l b more v w m n o p =
    one_whole s t l (b ++ more) v w m n (stays s t l b more (Whole v m) tt o) p

-- the bytes of an answer that has a value are its encoding, all of them
pub whole_value : (q : Question) (b : List ℕ) (used : ℕ) (h : IsRight q b (answer.Whole used) [])
    → IsOneValue q.kinds q.place q.limits b h.0.value
whole_value q b used h = (h.0.fits, h.0.joined ∙ append-nil (bytes_of q.kinds q.place h.0.value))

-- and so are those before what follows it
pub value_before : (q : Question) (b : List ℕ) (used : ℕ) (h : IsRight q b (answer.MoreFollows used) [])
    → IsOneValue q.kinds q.place q.limits (take used b) h.2.0.value
value_before q b used h =
    let w = h.2.0 in
    let own : List ℕ = bytes_of q.kinds q.place w.value in
    (w.fits, ap (λ (x : List ℕ). take used x) w.joined ∙ take_at own h.0 used (sym w.counted))

pub used_within : (q : Question) (b : List ℕ) (used : ℕ) → IsRight q b (answer.MoreFollows used) [] → used ≤ length b
used_within q b used h =
    let w = h.2.0 in
    let own : List ℕ = bytes_of q.kinds q.place w.value in
    omega (arith, w.counted, ap (λ (x : List ℕ). length x) w.joined, length-append own h.0)

-- ---- the same question with lines and without

module _ (q : Question) where
  -- a value with its lines, in place of one without
  lined : (shown : List ℕ) (b : List ℕ) (used : ℕ) (more : List ℕ) (h : IsWhole (unshown q) b used more [])
      → shown ≡ shown_of q h.0.value → IsWhole q b used more shown
  lined shown b used more h is = (
    record {
      value = h.0.value;
      fits = h.0.fits;
      joined = h.0.joined;
      counted = h.0.counted;
      lines = is;
    },
    h.1,
  )

  -- no value without lines is none with them
  none_lined : (b : List ℕ) → HasNoValue (unshown q) b → HasNoValue q b
  none_lined b none used more shown h = none used more []
      (record { value = h.value; fits = h.fits; joined = h.joined; counted = h.counted; lines = refl })

  refusal_lined : (b : List ℕ) (why : Reason) (at : ℕ) → IsRefusal (unshown q) b why at → IsRefusal q b why at
  refusal_lined b reason.NoMemory at h = absurd h
  refusal_lined b reason.Truncated at h = (h.0, h.1, none_lined b h.2)
  refusal_lined b reason.BadBool at h = λ more. ((h more).0, none_lined (b ++ more) (h more).1)
  refusal_lined b reason.BadNumbered at h = λ more. ((h more).0, none_lined (b ++ more) (h more).1)
  refusal_lined b reason.BadCase at h = λ more. ((h more).0, none_lined (b ++ more) (h more).1)
  refusal_lined b reason.TooLong at h = λ more. ((h more).0, none_lined (b ++ more) (h more).1)
  refusal_lined b reason.BadPadding at h = λ more. ((h more).0, none_lined (b ++ more) (h more).1)
  refusal_lined b reason.TooDeep at h = λ more. ((h more).0, none_lined (b ++ more) (h more).1)
  refusal_lined b reason.TooLarge at h = λ more. ((h more).0, none_lined (b ++ more) (h more).1)

  -- a refusal is shown without lines
  shows_refusal : (b : List ℕ) (f : DecodeFault) → Shows q b (answer.Refused f) []
  shows_refusal b f = λ more h. (refusal_lined (b ++ more) f.why f.at h.0, refl)

  pub shows_none : (b : List ℕ) (a : Answer) (text : List ℕ) → text ≡ []
      → ((f : DecodeFault) × (a ≡ answer.Refused f)) ⊎ ((a ≡ answer.BadHex) ⊎ (a ≡ answer.HexTooLong))
      → Shows q b a text
  shows_none b a text none (inl h) = rw none (rw h.1 (shows_refusal b h.0))
  shows_none b a text none (inr (inl is)) = rw is (λ more h. absurd h)
  shows_none b a text none (inr (inr is)) = rw is (λ more h. absurd h)

  -- nothing is shown where nothing is asked for
  without : (f : Form) → keeps_of f ≡ false → (v : Tree) → [] ≡ shown_in f q.kinds q.place v
  without form.Outcome none v = refl
  without form.Lines none v = cc
  without (form.Json layout) none v = cc

  pub shows_nothing : keeps_of q.form ≡ false → (b : List ℕ) (a : Answer) → Shows q b a []
  shows_nothing none b (answer.Whole used) = λ more h. lined [] (b ++ more) used [] h (without q.form none h.0.value)
  shows_nothing none b (answer.MoreFollows used) = λ more h.
      (h.0, h.1, lined [] (b ++ more) used h.0 h.2 (without q.form none h.2.0.value))
  shows_nothing none b (answer.Refused f) = shows_refusal b f
  shows_nothing none b answer.BadHex = λ more h. absurd h
  shows_nothing none b answer.HexTooLong = λ more h. absurd h

  -- the lines of a value that begins the bytes
  module _ (b text : List ℕ) (v : Tree) (n : ℕ) (whole : HasOutcome q b (Whole v n)) (lines : text ≡ shown_of q v) where
    of_value : (more : List ℕ) (w : Tree) (m : ℕ) → HasOutcome q (b ++ more) (Whole w m) → text ≡ shown_of q w
    of_value more w m o =
        let same : v ≡ w = same_value q.kinds q.place q.limits b more v w n m whole o in
        lines ∙ ap (λ (x : Tree). shown_of q x) same

    pub shows_whole : (used : ℕ) → Shows q b (answer.Whole used) text
    shows_whole used = λ more h. lined text (b ++ more) used [] h (of_value more h.0.value used h.1)

    pub shows_value : (used : ℕ) → Shows q b (answer.MoreFollows used) text
    shows_value used = λ more h.
        (h.0, h.1, lined text (b ++ more) used h.0 h.2 (of_value more h.2.0.value used h.2.1))

  -- the same of the answer to making them
  pub lines_whole : (b : List ℕ) (a : Answer) (used : ℕ) → a ≡ answer.Whole used
      → IsRight (unshown q) b a [] → (r : Result (Vec ℕ Global) Failure)
      → IfOk r (λ text. (v : Tree) → IsOneValue q.kinds q.place q.limits b v
      → text.items ≡ shown_of q v)
      → IfOk r (λ text. Shows q b a text.items)
  lines_whole b a used is right (Ok text) lines =
      let h = subst (λ (x : Answer). IsRight (unshown q) b x []) is right in
      subst (λ (x : Answer). Shows q b x text.items) (sym is)
      (shows_whole b text.items h.0.value used h.1 (lines h.0.value (whole_value (unshown q) b used h)) used)
  lines_whole b a used is right (Err f) lines = tt

  pub lines_before : (b : List ℕ) (a : Answer) (used : ℕ) → a ≡ answer.MoreFollows used
      → IsRight (unshown q) b a [] → (r : Result (Vec ℕ Global) Failure)
      → IfOk r (λ text. (v : Tree) → IsOneValue q.kinds q.place q.limits (take used b) v
      → text.items ≡ shown_of q v)
      → IfOk r (λ text. Shows q b a text.items)
  lines_before b a used is right (Ok text) lines =
      let h = subst (λ (x : Answer). IsRight (unshown q) b x []) is right in
      let v : Tree = h.2.0.value in
      subst (λ (x : Answer). Shows q b x text.items) (sym is)
      (shows_value b text.items v used h.2.1 (lines v (value_before (unshown q) b used h)) used)
  lines_before b a used is right (Err f) lines = tt

  -- what is shown of all bytes
  pub shows_all : (b : List ℕ) (a : Answer) (text : List ℕ) → IsRight (unshown q) b a [] → Shows q b a text
      → IsRight q b a text
  shows_all b a text right shows =
      subst (λ (x : List ℕ). IsRight q x a text) (append-nil b)
      (shows [] (subst (λ (x : List ℕ). IsRight (unshown q) x a []) (sym (append-nil b)) right))

  -- what is shown of the bytes that were kept of an input is right for the input
  pub shows_retained : (keeps : Bool) (left left' : Option (List ℕ)) (b : List ℕ) (a : Answer) (text : List ℕ)
      → IsRetained keeps (unshown q) left left' a b → IsRightFor (unshown q) false left a [] → Shows q b a text
      → IsRightFor q false left a text
  shows_retained keeps None left' b a text retained right shows = tt
  shows_retained true (Some input) None b a text retained right shows = absurd retained.0
  shows_retained true (Some input) (Some rest) b a text retained right shows =
      subst (λ (x : List ℕ). IsRight q x a text) (sym retained.0)
      (shows rest (subst (λ (x : List ℕ). IsRight (unshown q) x a []) retained.0 right))
  shows_retained false (Some input) left' b a text retained right shows =
      (subst (λ (x : List ℕ). Shows q x a text) retained shows) input right

  -- what was read is said of either question
  stops_shown : (left left' : Option (List ℕ)) (reads reads' : Option ℕ)
      → IsUnread left left' reads reads' ⊎ LastRead (unshown q) left left' reads reads'
      → IsUnread left left' reads reads' ⊎ LastRead q left left' reads reads'
  stops_shown left left' reads reads' (inl unread) = inl unread
  stops_shown left left' reads reads' (inr h) = inr (record {
    before = h.before;
    last = h.last;
    unsettled = h.unsettled;
    page = h.page;
    read = h.read;
    few = h.few;
  })

  pub input_shown : (hex : Bool) → hex ≡ false → (left left' : Option (List ℕ)) (reads reads' : Option ℕ)
      → ReadsInput (unshown q) false left left' reads reads' → ReadsInput q hex left left' reads reads'
  input_shown true plain left left' reads reads' h = absurd (false≢true (sym plain))
  input_shown false plain left left' reads reads' h = record {
    few_reads = h.few_reads;
    bounded = h.bounded;
    stops = λ p. stops_shown left left' reads reads' (h.stops tt);
  }
