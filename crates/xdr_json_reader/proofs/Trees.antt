-- All nodes of a tree, one after another.
use Rattle.std.proofs.Common.{◌≡◌, ℕ, ◌<◌, List, [], ◌∷◌, ◌++◌, length, refl, ap, sym, ◌∙◌}
use Rattle.std.proofs.Common.{subst, arith, Result, Ok, Err, OnOk, is_err, Bool, false}
use Rattle.std.proofs.lemmas.Bool.{true≢false}
use Rattle.xdr_types.specs.Kinds.{KindView, Lists, kind_at}
use Rattle.xdr_types.specs.Faults.{IsWellFormed}
use Rattle.xdr_json_reader.specs.Tape.{json_in}
use Rattle.xdr_json_reader.specs.Private.Entries.{dues, due_of}
use Rattle.xdr_json_reader.specs.Nodes.{Due, ShowsNone}
use Rattle.xdr_json_reader.specs.Private.Pending.{Took, Means, Stands, work}
use Rattle.xdr_json_reader.specs.declared.reading_entry.Entry.{Entry}
use Rattle.xdr_json.proofs.Apart.{are_apart}
use Rattle.xdr_json_reader.proofs.Fields.{dues_push}
use Rattle.xdr_json_reader.proofs.Meant.{stands_start, stands_took, stands_refused, stands_end}
use Rattle.xdr_json_reader.proofs.Sizes.{took_less}

pub tree_starts : (kinds : List KindView) (root due : List Due) (out : List ℕ) → out ≡ [] → due ≡ root
    → Stands kinds root out due
tree_starts kinds root due out e h =
    subst (λ (bs : List ℕ). Stands kinds root bs due) (sym e)
    (subst (λ (ds : List Due). Stands kinds root [] ds) (sym h) (stands_start kinds root))

taken : (kinds : List KindView) (root : List Due) (out : List ℕ) (es rest : List Entry) (e : Entry)
    → es ≡ rest ++ e ∷ []
    → Stands kinds root out (dues es) → Stands kinds root out (due_of e ∷ dues rest)
taken kinds root out es rest e is =
    subst (λ (ds : List Due). Stands kinds root out ds) (ap dues is ∙ dues_push rest e)

pub tree_goes_on : (s : Lists) → IsWellFormed s → (root : List Due) (out new : List ℕ) (es rest : List Entry) (e :
    Entry)
    (next : List Due) → es ≡ rest ++ e ∷ [] → Stands s.kinds root out (dues es)
    → Took s.kinds (kind_at s.kinds e.kind.place) (json_in e.node.now) out new (dues rest) next
    → Stands s.kinds root new next
tree_goes_on s well root out new es rest e next is stands t =
    stands_took s.kinds (are_apart s well) root (dues rest) next out new e.kind.place (json_in e.node.now)
    (taken s.kinds root out es rest e is stands) t

pub tree_shrinks : (s : Lists) → IsWellFormed s → (out new : List ℕ) (es rest : List Entry) (e : Entry)
    (next : List Due) → es ≡ rest ++ e ∷ []
    → Took s.kinds (kind_at s.kinds e.kind.place) (json_in e.node.now) out new (dues rest) next
    → work s.kinds next < work s.kinds (dues es)
tree_shrinks s well out new es rest e next is t =
    let less = took_less s.kinds (are_apart s well) e.kind.place (json_in e.node.now) out new (dues rest) next t in
    let all = ap (work s.kinds) (ap dues is ∙ dues_push rest e) in
    omega (arith, less, all)

pub tree_refused : (kinds : List KindView) (root : List Due) (out : List ℕ) (es rest : List Entry) (e : Entry)
    → es ≡ rest ++ e ∷ [] → Stands kinds root out (dues es)
    → ShowsNone kinds (kind_at kinds e.kind.place) (json_in e.node.now) → (bs : List ℕ) → Means kinds root bs → ⊥
tree_refused kinds root out es rest e is stands none =
    stands_refused kinds root (dues rest) out e.kind.place (json_in e.node.now)
    (taken kinds root out es rest e is stands) none

pub tree_ends : (kinds : List KindView) (root : List Due) (out : List ℕ) (es : List Entry) → es ≡ []
    → Stands kinds root out (dues es) → Means kinds root out × ((bs : List ℕ) → Means kinds root bs → bs ≡ out)
tree_ends kinds root out es is stands =
    stands_end kinds root out (subst (λ (ds : List Entry). Stands kinds root out (dues ds)) is stands)

-- the root alone was pushed
pub first_due : {A E : Type 0} (r : Result A E) (b : Bool) (d : Due) (old new : List Entry) → b ≡ is_err r → b ≡ false
    → old ≡ [] → OnOk r (dues new ≡ d ∷ dues old) → dues new ≡ d ∷ []
first_due (Ok x) b d old new e f none h = h ∙ ap (λ (es : List Entry). d ∷ dues es) none
first_due (Err x) b d old new e f none h = absurd (true≢false (sym e ∙ f))

pub no_items : {A : Type 0} (xs : List A) → length xs ≡ 0 → xs ≡ []
no_items [] e = refl
no_items (x ∷ xs) e = absurd (omega (arith, e))
