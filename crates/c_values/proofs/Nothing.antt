-- What the judgement of no bytes says of a value without items.
use Rattle.std.proofs.Common.{◌≡◌, ℕ, List, [], ◌∷◌, take, refl, sym, ap, subst, ◌∙◌, append-nil, arith}
use Rattle.xdr_types.specs.Tree.{Tree}
use Rattle.xdr_types.specs.Spelling.{bytes_of}
use Rattle.xdr_stream.specs.declared.fault.DecodeFault.{DecodeFault}
use Rattle.xdr_writer.specs.Items.{ItemView, NodeItem, all_spelled, items}
use Rattle.xdr_writer.specs.ItemsOf.{node_items_of}
use Rattle.xdr_writer.proofs.Begin.{none_begin, none_left, whole_items}
use Rattle.xdr_writer.proofs.ItemsOf.{items_join}
use Rattle.c_values.specs.declared.answer.Answer.{Answer}
use Rattle.c_values.specs.declared.answer.Answer.TheVariants as answer
use Rattle.c_values.specs.Answers.{Question, BeginsWithValue, IsRefusal, IsJudged}
use Rattle.c_values.specs.Items.{given, AreTold}
use Rattle.c_values.specs.Written.{IsEncoded, HasNoneOf}
use Rattle.c_values.proofs.Showing.{nothing_follows}

take_none : (n : ℕ) → take {A = ℕ} n [] ≡ []
take_none n = grind arith

-- a value that begins no bytes has no items
encoded : (q : Question) (used : ℕ) → BeginsWithValue q [] used → (content : List ℕ)
    → IsEncoded q (given [] content) []
encoded q used begins content =
    let bytes : bytes_of q.kinds q.place begins.value ≡ [] = begins.spelled ∙ take_none used in
    let none : node_items_of q.kinds q.place begins.value ≡ [] =
    whole_items q.kinds q.place [] (none_begin q.kinds q.place) begins.value begins.fits.0 bytes in
    record {
      value = begins.value;
      fits = begins.fits;
      told = subst (λ (is : List NodeItem). AreTold content [] (items is)) (sym none) tt;
      spelled = bytes;
    }

-- where an answer tells neither of a refusal nor of an allocation failure there is one
pub nothing_encoded : (q : Question) (a : Answer) → IsJudged q [] a → ((f : DecodeFault) → a ≡ answer.Refused f → ⊥)
    → (a ≡ answer.NoMemory → ⊥) → (content : List ℕ) → IsEncoded q (given [] content) []
nothing_encoded q (answer.Whole used) j broken wanting content = encoded q used j.0 content
nothing_encoded q (answer.Followed used) j broken wanting content = encoded q used j.0 content
nothing_encoded q (answer.Refused f) j broken wanting content = absurd (broken f refl)
nothing_encoded q (answer.Undeclared f) j broken wanting content = absurd j
nothing_encoded q answer.NoKind j broken wanting content = absurd j
nothing_encoded q answer.BadLimits j broken wanting content = absurd j
nothing_encoded q answer.NoMemory j broken wanting content = absurd (wanting refl)
nothing_encoded q answer.NoDeclarations j broken wanting content = absurd j
nothing_encoded q (answer.NoRoom n) j broken wanting content = absurd j
nothing_encoded q (answer.BadItem f) j broken wanting content = absurd j

-- no items tell none
nothing_told : (content : List ℕ) (is : List ItemView) → AreTold content [] is → is ≡ []
nothing_told content [] are = refl
nothing_told content (i ∷ is) are = absurd are

-- where no bytes are refused no value is without items
pub nothing_refused : (q : Question) (f : DecodeFault) → IsRefusal q [] f → (content : List ℕ)
    → HasNoneOf q (given [] content)
nothing_refused q f r content v within are =
    let none : node_items_of q.kinds q.place v ≡ [] =
    none_left q.kinds q.place (node_items_of q.kinds q.place v) (nothing_told content _ are) in
    let bytes : bytes_of q.kinds q.place v ≡ [] =
    sym (items_join q.kinds q.place v within.0) ∙ ap (λ (is : List NodeItem). all_spelled is) none in
    r.none [] (nothing_follows f.why r.known) v [] within (append-nil (bytes_of q.kinds q.place v) ∙ bytes)
