-- What is written of a text of JSON that is known, and what is said of one without bytes.
use Rattle.std.proofs.Common.{◌≡◌, ℕ, ◌+◌, ◌≤◌, ◌++◌, false, List, [], Option, None, Some, ap, arith, codes, decimal}
use Rattle.std.proofs.Common.{append_assoc, length, refl, subst, sym, ◌∙◌}
use Rattle.std.specs.Fmt.{digits}
use Rattle.std.specs.Io.KnownBytes.{Appends}
use Rattle.json.proofs.OnLiterals.{json_on_literals}
use Rattle.json.specs.Json.{Json}
use Rattle.xdr_types.specs.Spelling.{bytes_of}
use Rattle.xdr_types.specs.Tree.{Tree}
use Rattle.xdr_json.specs.Text.{IsSpelling, json_text}
use Rattle.xdr_json_reader.specs.declared.fault.JsonReason.{JsonReason}
use Rattle.oncrpc_tasks.specs.Checked.{IsSaid}
use Rattle.oncrpc_tasks.specs.Devices.{Stream}
use Rattle.oncrpc_encode.specs.EncodeEnds.{Refuses, Writes}
use Rattle.oncrpc_encode.specs.Encoding.{Sought, IsAt, IsRight, IsRightFor, IsRightRefusal, most_text}
use Rattle.oncrpc_encode.specs.Lines.{name, refusal_line}
use Rattle.oncrpc_encode.specs.declared.encoded.Encoded.{Encoded}
use Rattle.oncrpc_encode.specs.declared.encoded.Encoded.TheVariants as encoded
use Rattle.oncrpc_encode.specs.declared.refusal.Refusal.{Refusal}
use Rattle.oncrpc_encode.specs.declared.refusal.Refusal.TheVariants as refusal

module _ (s : Sought) (text : List ℕ) (left : Option (List ℕ)) (is : left ≡ Some text) where
  right_of : (e : Encoded) → IsRightFor s left e → IsRight s text e
  right_of e h = subst (λ (l : Option (List ℕ)). IsRightFor s l e) is h

  -- the bytes of the value that the text spells
  pub bytes_written : (taken taken' : Option (List ℕ)) (t : Tree) (bs : List ℕ)
      → IsSpelling s.kinds s.place s.limits text t → bytes_of s.kinds s.place t ≡ bs
      → Writes s false left taken taken' → Appends taken taken' bs
  bytes_written taken taken' t bs spelled are w =
      let right = right_of (encoded.Bytes w.bytes) w.right in
      let same : w.bytes.items ≡ bs =
      right.1.bytes_are ∙ ap (λ (x : Tree). bytes_of s.kinds s.place x) (sym (right.1.only t spelled)) ∙ are in
      subst (λ (x : List ℕ). Appends taken taken' x) same w.written

  -- a text that spells a value is not refused
  pub not_refused : {F : Type 0} (stream : Stream F) (f f' : F) (t : Tree) → length text ≤ most_text s
      → IsSpelling s.kinds s.place s.limits text t → Refuses s left stream f f' → ⊥
  not_refused stream f f' t short spelled w = by w.refusal (right_of (encoded.Refused w.refusal) w.right)
    where
      by : (r : Refusal) → IsRightRefusal s text r → ⊥
      by (refusal.At why line column) h = h.1 t spelled
      by refusal.TooLong h = omega (arith, h, short)

no_json : json_text [] ≡ None
unfolding json_on_literals
no_json = refl

none-some : (j : Json) → None ≡ Some j → ⊥
none-some j e = cc

-- nothing is written of a text of no bytes
pub none_written : (s : Sought) (left taken taken' : Option (List ℕ)) → left ≡ Some []
    → Writes s false left taken taken' → ⊥
none_written s left taken taken' is w =
    let right = right_of s [] left is (encoded.Bytes w.bytes) w.right in
    none-some right.1.spelled.tree (sym no_json ∙ right.1.spelled.is)

one : decimal 1 ≡ codes "1"
unfolding digits
one = refl

-- what stands behind a text, joined
joined : (x : List ℕ)
    → ((((x ++ codes " at ") ++ codes "1") ++ codes ":") ++ codes "1") ++ codes "\n" ≡ x ++ codes " at 1:1\n"
joined x =
    ap (λ (z : List ℕ). ((z ++ codes ":") ++ codes "1") ++ codes "\n") (append_assoc x (codes " at ") (codes "1"))
    ∙ ap (λ (z : List ℕ). (z ++ codes "1") ++ codes "\n") (append_assoc x (codes " at 1") (codes ":"))
    ∙ ap (λ (z : List ℕ). z ++ codes "\n") (append_assoc x (codes " at 1:") (codes "1"))
    ∙ append_assoc x (codes " at 1:1") (codes "\n")

first_line : (why : JsonReason) → refusal_line (refusal.At why 1 1) ≡ codes "refused " ++ name why ++ codes " at 1:1\n"
first_line why =
    ap (λ (d : List ℕ). codes "refused " ++ name why ++ codes " at " ++ d ++ codes ":" ++ d ++ codes "\n") one
    ∙ joined (codes "refused " ++ name why)

-- the line of a text of no bytes
pub said_first : {F : Type 0} (s : Sought) (left : Option (List ℕ)) (stream : Stream F) (f f' : F) → left ≡ Some []
    → Refuses s left stream f f'
    → (why : JsonReason) × IsSaid stream f f' (codes "refused " ++ name why ++ codes " at 1:1\n")
said_first s left stream f f' is w =
    by w.refusal (right_of s [] left is (encoded.Refused w.refusal) w.right) w.said
  where
    by : (r : Refusal) → IsRightRefusal s [] r → IsSaid stream f f' (refusal_line r)
        → (why : JsonReason) × IsSaid stream f f' (codes "refused " ++ name why ++ codes " at 1:1\n")
    by (refusal.At why line column) h said =
        let at : h.3.0 ≡ 0 = omega (arith, h.3.1) in
        let places = subst (λ (a : ℕ). IsAt [] a line column) at h.3.2 in
        let here = subst (λ (n : ℕ). IsSaid stream f f' (refusal_line (refusal.At why n column))) places.0 said in
        let there = subst (λ (n : ℕ). IsSaid stream f f' (refusal_line (refusal.At why 1 n))) places.1 here in
        (why, subst (λ (x : List ℕ). IsSaid stream f f' x) (first_line why) there)
    by refusal.TooLong h said = absurd (omega (arith, h))
