-- What the lines of one lent part are.
use Rattle.std.proofs.Common.{◌≡◌, ℕ, ◌+◌, ◌<◌, true, List, [], ◌∷◌, ◌++◌, length, map, refl, sym, ap, subst, ◌∙◌}
use Rattle.std.specs.Prelude.{MatchOption, ⊤}
use Rattle.std.specs.List.{AllByRecursion}
use Rattle.xdr_types.specs.Kinds.{KindView, Part, kind_at}
use Rattle.xdr_types.specs.Fits.{is_legal}
use Rattle.xdr_types.specs.Layout as layout
use Rattle.xdr_parts.specs.Lent.{role_in}
use Rattle.xdr_parts.specs.declared.part.Lent.{Lent}
use Rattle.xdr_parts.specs.declared.part.Role.{Role}
use Rattle.xdr_parts.specs.declared.part.Role.TheVariants.{Number, Flag, Length, Content, Group}
use Rattle.xdr_show.specs.Private.Read.{shown_in, line_in, line_lent, IsSized, IsReadable}

-- what maps to a list that joins two joins two
pub split : {A B : Type 0} (g : A → B) (ls : List A) (xs ys : List B) → map g ls ≡ xs ++ ys
    → (ms : List A) × (ns : List A) × (ls ≡ ms ++ ns) × (map g ms ≡ xs) × (map g ns ≡ ys)
split g ls [] ys e = ([], ls, refl, refl, e)
split g [] (x ∷ xs) ys e = absurd (cc e)
split g (l ∷ ls) (x ∷ xs) ys e =
    let r = split g ls xs ys (cc e) in
    let first : g l ≡ x = cc e in
    (l ∷ r.0, r.1, cc r.2, cc (r.3, first), r.4)

pub all_left : {A : Type 0} (P : A → Type 0) (xs ys : List A) → AllByRecursion P (xs ++ ys) → AllByRecursion P xs
all_left P [] ys a = tt
all_left P (x ∷ xs) ys a = (a.0, all_left P xs ys a.1)

pub all_right : {A : Type 0} (P : A → Type 0) (xs ys : List A) → AllByRecursion P (xs ++ ys) → AllByRecursion P ys
all_right P [] ys a = a
all_right P (x ∷ xs) ys a = all_right P xs ys a.1

pub all_join : {A : Type 0} (P : A → Type 0) (xs ys : List A) → AllByRecursion P xs → AllByRecursion P ys
    → AllByRecursion P (xs ++ ys)
all_join P [] ys a b = b
all_join P (x ∷ xs) ys a b = (a.0, all_join P xs ys a.1 b)

pub role_number : (r : Role) (n : ℕ) → role_in r n ≡ layout.of_number → r ≡ Number
role_number Number n e = refl
role_number Flag n e = absurd (cc e)
role_number Length n e = absurd (cc e)
role_number Content n e = absurd (cc e)
role_number Group n e = absurd (cc e)

pub role_flag : (r : Role) (n : ℕ) → role_in r n ≡ layout.of_flag → r ≡ Flag
role_flag Number n e = absurd (cc e)
role_flag Flag n e = refl
role_flag Length n e = absurd (cc e)
role_flag Content n e = absurd (cc e)
role_flag Group n e = absurd (cc e)

pub role_length : (r : Role) (n : ℕ) → role_in r n ≡ layout.of_length → r ≡ Length
role_length Number n e = absurd (cc e)
role_length Flag n e = absurd (cc e)
role_length Length n e = refl
role_length Content n e = absurd (cc e)
role_length Group n e = absurd (cc e)

pub role_content : (r : Role) (n m : ℕ) → role_in r n ≡ layout.of_content m → (r ≡ Content) × (n ≡ m)
role_content Number n m e = absurd (cc e)
role_content Flag n m e = absurd (cc e)
role_content Length n m e = absurd (cc e)
role_content Content n m e = (refl, cc e)
role_content Group n m e = absurd (cc e)

pub role_group : (r : Role) (n : ℕ) → role_in r n ≡ layout.of_group → r ≡ Group
role_group Number n e = absurd (cc e)
role_group Flag n e = absurd (cc e)
role_group Length n e = absurd (cc e)
role_group Content n e = absurd (cc e)
role_group Group n e = refl

-- what a lent part is: its role and bytes, and the depth, kind and name of its node
pub record Is (l : Lent) (depth : ℕ) (p : Part) (r : Role) (bs : List ℕ) : Type 0 where
  pub role : l.role ≡ r
  pub bytes : l.bytes.now ≡ bs
  pub deep : l.depth ≡ depth
  pub kind : l.kind.place ≡ p.kind
  pub name : l.name.now ≡ p.name

module _ (kinds : List KindView) where
  -- it can be read with bytes of this role
  abbrev pub Reads : (kind : ℕ) → Role → List ℕ → Type 0
  Reads k r bs = (k < length kinds) × IsSized (kind_at kinds k) r (length bs)
      × MatchOption (shown_in kinds (kind_at kinds k) r bs) ⊤ (λ h. is_legal kinds (kind_at kinds k) h ≡ true)

  pub readable : (l : Lent) (depth : ℕ) (p : Part) (r : Role) (bs : List ℕ) → Is l depth p r bs → Reads p.kind r bs
      → IsReadable kinds l
  readable l depth p r bs is reads =
      let h : Reads l.kind.place l.role l.bytes.now =
      subst (λ (b : List ℕ). Reads l.kind.place l.role b) (sym is.bytes)
      (subst (λ (x : Role). Reads l.kind.place x bs) (sym is.role)
      (subst (λ (k : ℕ). Reads k r bs) (sym is.kind) reads)) in
      record { known = h.0; sized = h.1; legal = h.2 }

  pub line_is : (l : Lent) (depth : ℕ) (p : Part) (r : Role) (bs : List ℕ) → Is l depth p r bs
      → line_lent kinds l ≡ line_in kinds (kind_at kinds p.kind) depth p.name
      (shown_in kinds (kind_at kinds p.kind) r bs)
  line_is l depth p r bs is =
      ap (λ (k : ℕ). line_in kinds (kind_at kinds k) l.depth l.name.now
      (shown_in kinds (kind_at kinds k) l.role l.bytes.now)) is.kind
      ∙ ap (λ (x : Role). line_in kinds (kind_at kinds p.kind) l.depth l.name.now
      (shown_in kinds (kind_at kinds p.kind) x l.bytes.now)) is.role
      ∙ ap (λ (b : List ℕ). line_in kinds (kind_at kinds p.kind) l.depth l.name.now
      (shown_in kinds (kind_at kinds p.kind) r b)) is.bytes
      ∙ ap (λ (d : ℕ). line_in kinds (kind_at kinds p.kind) d l.name.now (shown_in kinds (kind_at kinds p.kind) r bs))
      is.deep
      ∙ ap (λ (n : List ℕ). line_in kinds (kind_at kinds p.kind) depth n (shown_in kinds (kind_at kinds p.kind) r bs))
      is.name
