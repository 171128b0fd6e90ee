-- What an encoding whose last content is not copied stands for.
use Rattle.std.specs.Prelude.{◌≡◌, ℕ, List, ◌++◌}
use Rattle.xdr_units.specs.Numbers.{padded}
use Rattle.xdr_writer.specs.Items.{ItemView}
use Rattle.xdr_filling.specs.Filled.{HasFilled}
use Rattle.xdr_filling.specs.declared.filling.Filling.{Filling}
use Rattle.c_values.specs.declared.encoding.Encoding.{Encoding}
use Rattle.c_values.specs.declared.item.ValueItem.{ValueItem}
use Rattle.c_values.specs.Items.{AreTold}

-- its bytes
abbrev pub bytes_in : Encoding → List ℕ
bytes_in e = e.front.items ++ padded e.content.now

-- C's items fill the next parts of a value, and their bytes stand behind those so far
abbrev pub FillsMore : Filling → Filling → (content : List ℕ) → List ValueItem → (old new : List ℕ) → Type 0
FillsMore a b content cs old new =
    (is : List ItemView) × AreTold content cs is × (bytes : List ℕ) × (new ≡ old ++ bytes)
    × ((place depth : ℕ) (js : List ItemView) (before : List ℕ) → HasFilled a place depth js before
    → HasFilled b place depth (js ++ is) (before ++ bytes))
