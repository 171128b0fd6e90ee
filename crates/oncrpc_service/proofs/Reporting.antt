-- What results say, by what the decoder answers.
use Rattle.std.proofs.Common.{◌≡◌, ◌≢◌, ℕ, ◌≤◌, List, ◌++◌, Bool, true, false, length, take, drop, refl, ap, sym, ◌∙◌}
use Rattle.std.proofs.Common.{subst, if◌then◌else◌, ◌==◌, inl, inr}
use Rattle.std.proofs.lemmas.List.{take-append-drop}
use Rattle.std.proofs.lemmas.Bool.Decides.{eqb_tells}
use Rattle.xdr_types.specs.Tree.{Tree}
use Rattle.xdr_types.specs.Spelling.{bytes_of}
use Rattle.xdr_types.specs.Within.{FitsWithin}
use Rattle.registry_dumps.specs.Dir.{dir_kinds}
use Rattle.registry_dumps.specs.Dumps.{dump_limits}
use Rattle.oncrpc_service.specs.Rows.{header}
use Rattle.oncrpc_service.specs.Private.Nodes.{list_lines}
use Rattle.xdr_stream.specs.declared.fault.DecodeFault.{DecodeFault}
use Rattle.xdr_stream.specs.declared.fault.Reason.TheVariants as reason
use Rattle.xdr_stream.specs.Finish.{EndsWith}
use Rattle.xdr_codec.specs.Refused.{HasNoneWithin, IsRefused}
use Rattle.oncrpc_answers.specs.declared.answer.Answer.TheVariants as answer
use Rattle.oncrpc_answers.specs.Lines.{line}
use Rattle.oncrpc_service.specs.Infos.{BeginsWith, ReportsRows, rows, mappings, refused, list_place}
use Rattle.oncrpc_service.proofs.Lists.{are_rows, are_mappings, row_lines, mapping_lines}

begins : (kind : ℕ) (results : List ℕ) (t : Tree) (n : ℕ) → FitsWithin dir_kinds kind dump_limits t
    → bytes_of dir_kinds kind t ≡ take n results → BeginsWith kind results t
begins kind results t n fits e =
    (fits, (drop n results, sym (take-append-drop n results) ∙ ap (λ (z : List ℕ). z ++ drop n results) (sym e)))

at_place : (vers place : ℕ) (b : Bool) → (vers == 2) ≡ b → (if b then 18 else 14) ≡ place → list_place vers ≡ place
at_place vers place b e f = ap (λ (x : Bool). if x then 18 else 14) e ∙ f

reports_rows : (vers : ℕ) (results : List ℕ) (t : Tree) (n : ℕ) → vers ≢ 2
    → FitsWithin dir_kinds 14 dump_limits t → bytes_of dir_kinds 14 t ≡ take n results
    → ReportsRows vers results 0 (header vers ++ list_lines t.0 t.1)
reports_rows vers results t n other fits e =
    let all = are_rows t.0 t.1 fits.0 in
    let begun = subst (BeginsWith 14 results) all.is (begins 14 results t n fits e) in
    let lines = ap (λ (u : Tree). list_lines u.0 u.1) all.is ∙ row_lines all.rows in
    subst (λ (z : List ℕ). ReportsRows vers results 0 (header vers ++ z)) (sym lines) (rows all.rows other begun)

reports_mappings : (vers : ℕ) (results : List ℕ) (t : Tree) (n : ℕ) → vers ≡ 2
    → FitsWithin dir_kinds 18 dump_limits t → bytes_of dir_kinds 18 t ≡ take n results
    → ReportsRows vers results 0 (header vers ++ list_lines t.0 t.1)
reports_mappings vers results t n two fits e =
    let all = are_mappings t.0 t.1 fits.0 in
    let begun = subst (BeginsWith 18 results) all.is (begins 18 results t n fits e) in
    let lines = ap (λ (u : Tree). list_lines u.0 u.1) all.is ∙ mapping_lines all.rows in
    subst (λ (z : List ℕ). ReportsRows vers results 0 (header vers ++ z)) (sym lines) (mappings all.rows two begun)

-- the lines of the value that begins results
pub reported_rows : (vers : ℕ) (results : List ℕ) (t : Tree) (n status : ℕ) (text : List ℕ)
    → FitsWithin dir_kinds (list_place vers) dump_limits t → bytes_of dir_kinds (list_place vers) t ≡ take n results
    → status ≡ 0 → text ≡ header vers ++ list_lines t.0 t.1 → ReportsRows vers results status text
reported_rows vers results t n status text fits e zero is =
    subst (λ (s : ℕ). ReportsRows vers results s text) (sym zero)
    (subst (λ (z : List ℕ). ReportsRows vers results 0 z) (sym is) (elim (eqb_tells vers 2) [
      | inl same ↦
          let place = at_place vers 18 true same.0 refl in
          reports_mappings vers results t n same.1
          (subst (λ (k : ℕ). FitsWithin dir_kinds k dump_limits t) place fits)
          (subst (λ (k : ℕ). bytes_of dir_kinds k t ≡ take n results) place e)
      | inr other ↦
          let place = at_place vers 14 false other.0 refl in
          reports_rows vers results t n other.1
          (subst (λ (k : ℕ). FitsWithin dir_kinds k dump_limits t) place fits)
          (subst (λ (k : ℕ). bytes_of dir_kinds k t ≡ take n results) place e)
    ]))

-- the line of why no rows begin results
pub reported_refusal : (vers : ℕ) (results : List ℕ) (f : DecodeFault) (status : ℕ) (text : List ℕ)
    → EndsWith dir_kinds (list_place vers) dump_limits results f
    → IsRefused (HasNoneWithin dir_kinds (list_place vers) dump_limits) f.why results → f.at ≤ length results
    → (f.why ≡ reason.Truncated → f.at ≡ length results)
    → (f.why ≢ reason.NoMemory) × (status ≡ 1) × (text ≡ line (answer.Refused f)) → ReportsRows vers results status text
reported_refusal vers results f status text ends none place cut (known, one, is) =
    subst (λ (s : ℕ). ReportsRows vers results s text) (sym one)
    (subst (λ (z : List ℕ). ReportsRows vers results 1 z) (sym is) (refused f known ends none place cut))
