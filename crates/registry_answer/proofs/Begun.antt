-- Which values a `mapping` and an `rpcb` are, and where the arguments begin with one.
use Rattle.std.proofs.Common.{◌≡◌, ℕ, ◌+◌, ◌-◌, ◌<◌, ◌≤◌, ◌^◌, List, [], ◌∷◌, ◌++◌, length, Bool, true, false, ◌&&◌}
use Rattle.std.proofs.Common.{refl, ap, sym, ◌∙◌, subst, arith, append_assoc, append-nil, nat_lt, nat_le}
use Rattle.std.proofs.Common.{ltb-true, lt-ltb, le-leb}
use Rattle.std.proofs.lemmas.Bool.{false≢true}
use Rattle.std.proofs.lemmas.List.{length-append}
use Rattle.xdr_types.specs.Kinds as xdr
use Rattle.xdr_types.specs.Kinds.{KindView, Part, kind_at}
use Rattle.xdr_types.specs.Tree as value
use Rattle.xdr_types.specs.Tree.{Head, Values, Tree, depth, from_list}
use Rattle.xdr_units.specs.Numbers.{word, pad, padded}
use Rattle.xdr_types.specs.Fits.{Fits, fits, fit, is_legal, is_length, parts, are_bytes}
use Rattle.xdr_types.specs.Spelling.{bytes_of}
use Rattle.xdr_laws.specs.Laws.{WholeExactly}
use Rattle.registry_rows.specs.Rows.{row_of}
use Rattle.registry_dumps.specs.Dir.{dir_kinds}
use Rattle.registry_dumps.specs.Dumps.{rpcb_tree, mapping_of}
use Rattle.registry_answer.specs.Answer.{AreArguments, AreGarbage}
use Rattle.registry_answer.specs.Private.Parsed.{text, HasNoText}
use Rattle.xdr_units.proofs.Bytes.{same_word}
use Rattle.registry_answer.proofs.Decoded.{begins, decoded}
use Rattle.registry_answer.proofs.Fields.{text_front, short_word}

both : (a b : Bool) → a && b ≡ true → (a ≡ true) × (b ≡ true)
both true b h = (refl, h)
both false b h = absurd (false≢true h)

-- ---- the fields of a value that fits

-- the first of values that fit parts
record First (p : Part) (ps : List Part) (vs : Values) : Type 0 where
  head : Head
  inner : Values
  rest : Values
  is : vs ≡ value.node head inner rest
  legal : is_legal dir_kinds (kind_at dir_kinds p.kind) head ≡ true
  inner_fits : fit dir_kinds (parts (kind_at dir_kinds p.kind) head) inner ≡ true
  rest_fits : fit dir_kinds ps rest ≡ true

first_of : (p : Part) (ps : List Part) (vs : Values) → fit dir_kinds (p ∷ ps) vs ≡ true → First p ps vs
first_of p ps value.none h = absurd (false≢true h)
first_of p ps (value.node head inner rest) h =
    let a = both _ (fit dir_kinds ps rest) h in
    let b = both (is_legal dir_kinds (kind_at dir_kinds p.kind) head) _ a.0 in
    record { head = head; inner = inner; rest = rest; is = refl; legal = b.0; inner_fits = b.1; rest_fits = a.1 }

pub none_of : (vs : Values) → fit dir_kinds [] vs ≡ true → vs ≡ value.none
none_of value.none h = refl
none_of (value.node head inner rest) h = absurd (false≢true h)

a_word : (h : Head) → is_legal dir_kinds xdr.unsigned h ≡ true → (n : ℕ) × (h ≡ value.unsigned n) × (n < 2 ^ 32)
a_word (value.unsigned n) e = let small = ltb-true n (2 ^ 32) e in (n, refl, omega arith)
a_word _ e = absurd (false≢true e)

a_text : (h : Head) → is_legal dir_kinds (xdr.text 4294967295) h ≡ true → (bs : List ℕ) × (h ≡ value.bytes bs)
    × (length bs < 2 ^ 32)
a_text (value.bytes bs) e = let a = both _ _ e in let b = both _ _ a.0 in let small =
    ltb-true (length bs) (2 ^ 32) b.1 in (bs, refl, omega arith)
a_text _ e = absurd (false≢true e)

short_enough : (n : ℕ) → n < 2 ^ 32 → is_length 4294967295 n ≡ true
short_enough n h =
    let most : nat_le n 4294967295 ≡ true = le-leb n 4294967295 (omega (arith, h)) in
    let below : nat_lt n (2 ^ 32) ≡ true = lt-ltb n (2 ^ 32) h in
    λ j. most j && below j

-- a word is the first of values that fit
record FirstWord (ps : List Part) (vs : Values) : Type 0 where
  number : ℕ
  rest : Values
  is : vs ≡ value.node (value.unsigned number) value.none rest
  small : number < 2 ^ 32
  rest_fits : fit dir_kinds ps rest ≡ true

first_word : (p : Part) (ps : List Part) (vs : Values) → kind_at dir_kinds p.kind ≡ xdr.unsigned
    → fit dir_kinds (p ∷ ps) vs ≡ true → FirstWord ps vs
first_word p ps vs k h =
    let f = first_of p ps vs h in
    let w = a_word f.head (subst (λ (x : KindView). is_legal dir_kinds x f.head ≡ true) k f.legal) in
    let i = none_of f.inner (subst (λ (x : Head). fit dir_kinds (parts xdr.unsigned x) f.inner ≡ true) w.1
    (subst (λ (x : KindView). fit dir_kinds (parts x f.head) f.inner ≡ true) k f.inner_fits)) in
    record {
      number = w.0;
      rest = f.rest;
      is = f.is ∙ ap (λ (x : Head). value.node x f.inner f.rest) w.1
          ∙ ap (λ (x : Values). value.node (value.unsigned w.0) x f.rest) i;
      small = w.2;
      rest_fits = f.rest_fits;
    }

-- a text is the first of values that fit
record FirstText (ps : List Part) (vs : Values) : Type 0 where
  content : List ℕ
  rest : Values
  is : vs ≡ value.node (value.bytes content) value.none rest
  small : length content < 2 ^ 32
  rest_fits : fit dir_kinds ps rest ≡ true

first_text : (p : Part) (ps : List Part) (vs : Values) → kind_at dir_kinds p.kind ≡ xdr.text 4294967295
    → fit dir_kinds (p ∷ ps) vs ≡ true → FirstText ps vs
first_text p ps vs k h =
    let f = first_of p ps vs h in
    let w = a_text f.head (subst (λ (x : KindView). is_legal dir_kinds x f.head ≡ true) k f.legal) in
    let i = none_of f.inner (subst (λ (x : Head). fit dir_kinds (parts (xdr.text 4294967295) x) f.inner ≡ true) w.1
    (subst (λ (x : KindView). fit dir_kinds (parts x f.head) f.inner ≡ true) k f.inner_fits)) in
    record {
      content = w.0;
      rest = f.rest;
      is = f.is ∙ ap (λ (x : Head). value.node x f.inner f.rest) w.1
          ∙ ap (λ (x : Values). value.node (value.bytes w.0) x f.rest) i;
      small = w.2;
      rest_fits = f.rest_fits;
    }

abbrev same : Tree → Tree → Type 0
same t u = t ≡ u

fields_of : (kind : ℕ) (ps : List Part) (t : Tree) → kind_at dir_kinds kind ≡ xdr.structure ps → Fits dir_kinds kind t
    → (vs : Values) × same t (value.fields, vs) × (fit dir_kinds ps vs ≡ true)
fields_of kind ps t k h =
    by t.0 t.1 (subst (λ (x : KindView). is_legal dir_kinds x t.0 && fit dir_kinds (parts x t.0) t.1 ≡ true) k h)
  where
    by : (g : Head) (vs : Values) → is_legal dir_kinds (xdr.structure ps) g && fit dir_kinds
        (parts (xdr.structure ps) g) vs ≡ true → (ws : Values) × (same (g, vs) (value.fields, ws))
        × (fit dir_kinds ps ws ≡ true)
    by value.fields vs e = (vs, refl, e)
    by _ vs e = absurd (false≢true e)

-- ---- mappings

record IsMapping (t : Tree) : Type 0 where
  prog : ℕ
  vers : ℕ
  prot : ℕ
  port : ℕ
  is : t ≡ mapping_of prog vers prot port

a_mapping : (t : Tree) → Fits dir_kinds 15 t → IsMapping t
a_mapping t h =
    let s = fields_of 15 _ t refl h in
    let a = first_word _ _ s.0 refl s.2 in
    let b = first_word _ _ a.rest refl a.rest_fits in
    let c = first_word _ _ b.rest refl b.rest_fits in
    let d = first_word _ _ c.rest refl c.rest_fits in
    let e = none_of d.rest d.rest_fits in
    record {
      prog = a.number;
      vers = b.number;
      prot = c.number;
      port = d.number;
      is =
          s.1 ∙ ap (λ (vs : Values). (value.fields, vs)) (a.is
          ∙ ap (λ (vs : Values). value.node (value.unsigned a.number) value.none vs) (b.is
          ∙ ap (λ (vs : Values). value.node (value.unsigned b.number) value.none vs)
          (c.is ∙ ap (λ (vs : Values). value.node (value.unsigned c.number) value.none vs) (d.is
          ∙ ap (λ (vs : Values). value.node (value.unsigned d.number) value.none vs) e))));
    }

module _ (exact : WholeExactly dir_kinds) where
  -- no mapping has fewer than 16 bytes
  pub no_mapping : (args : List ℕ) → length args < 16 → AreGarbage 15 args
  no_mapping args short t h =
      let d = begins exact 15 args t h in
      let rest = d.rest in
      let m = a_mapping t d.fits.0 in
      let bytes : args ≡ bytes_of dir_kinds 15 (mapping_of m.prog m.vers m.prot m.port) ++ rest = d.is
      ∙ ap (λ (x : Tree). bytes_of dir_kinds 15 x ++ rest) m.is in
      let long : length (bytes_of dir_kinds 15 (mapping_of m.prog m.vers m.prot m.port) ++ rest) ≡ 16 + length rest =
      length-append (bytes_of dir_kinds 15 (mapping_of m.prog m.vers m.prot m.port)) rest in
      omega (arith, ap length bytes, long, short)

  -- four words are a mapping
  pub whole_mapping : (args : List ℕ) (prog vers prot port : ℕ) (a b c rest : List ℕ) → prog < 2 ^ 32 → vers < 2 ^ 32
      → prot < 2 ^ 32 → port < 2 ^ 32
      → args ≡ word prog ++ a → a ≡ word vers ++ b → b ≡ word prot ++ c → c ≡ word port ++ rest
      → AreArguments 15 args (mapping_of prog vers prot port)
  whole_mapping args prog vers prot port a b c rest p v n o e f g h =
      let lp : nat_lt prog (2 ^ 32) ≡ true = lt-ltb _ _ (omega arith) in
      let lv : nat_lt vers (2 ^ 32) ≡ true = lt-ltb _ _ (omega arith) in
      let ln : nat_lt prot (2 ^ 32) ≡ true = lt-ltb _ _ (omega arith) in
      let lo : nat_lt port (2 ^ 32) ≡ true = lt-ltb _ _ (omega arith) in
      let fits : fits dir_kinds 15 (mapping_of prog vers prot port) ≡ true =
      λ j. (lp j && true) && ((lv j && true) && ((ln j && true) && ((lo j && true) && true))) in
      decoded exact 15 args (mapping_of prog vers prot port) (record {
        fits = (fits, (omega arith, omega arith));
        rest = rest;
        is = e ∙ ap (λ (x : List ℕ). word prog ++ x)
            (f ∙ ap (λ (x : List ℕ). word vers ++ x) (g ∙ ap (λ (x : List ℕ). word prot ++ x) h));
      })

-- ---- rpcbs

record IsRpcb (t : Tree) : Type 0 where
  prog : ℕ
  vers : ℕ
  netid : List ℕ
  address : List ℕ
  owner : List ℕ
  prog_small : prog < 2 ^ 32
  vers_small : vers < 2 ^ 32
  netid_small : length netid < 2 ^ 32
  address_small : length address < 2 ^ 32
  owner_small : length owner < 2 ^ 32
  is : t ≡ rpcb_tree (row_of prog vers netid address owner)

an_rpcb : (t : Tree) → Fits dir_kinds 11 t → IsRpcb t
an_rpcb t h =
    let s = fields_of 11 _ t refl h in
    let a = first_word _ _ s.0 refl s.2 in
    let b = first_word _ _ a.rest refl a.rest_fits in
    let c = first_text _ _ b.rest refl b.rest_fits in
    let d = first_text _ _ c.rest refl c.rest_fits in
    let f = first_text _ _ d.rest refl d.rest_fits in
    let e = none_of f.rest f.rest_fits in
    record {
      prog = a.number;
      vers = b.number;
      netid = c.content;
      address = d.content;
      owner = f.content;
      prog_small = a.small;
      vers_small = b.small;
      netid_small = c.small;
      address_small = d.small;
      owner_small = f.small;
      is = s.1 ∙ ap (λ (vs : Values). (value.fields, vs)) (a.is
          ∙ ap (λ (vs : Values). value.node (value.unsigned a.number) value.none vs) (b.is
          ∙ ap (λ (vs : Values). value.node (value.unsigned b.number) value.none vs)
          (c.is ∙ ap (λ (vs : Values). value.node (value.bytes c.content) value.none vs) (d.is
          ∙ ap (λ (vs : Values). value.node (value.bytes d.content) value.none vs)
          (f.is ∙ ap (λ (vs : Values). value.node (value.bytes f.content) value.none vs) e)))));
    }

joined : (p v n a o rest : List ℕ) → ((p ++ []) ++ ((v ++ []) ++ ((n ++ []) ++ ((a ++ []) ++ ((o ++ []) ++ [])))))
    ++ rest ≡ p ++ (v ++ (n ++ (a ++ (o ++ rest))))
joined p v n a o rest = simp (append_assoc, append-nil)

pub spelled : (prog vers : ℕ) (netid address owner rest : List ℕ)
    → bytes_of dir_kinds 11 (rpcb_tree (row_of prog vers netid address owner)) ++ rest ≡ word prog
    ++ (word vers ++ (text netid ++ (text address ++ (text owner ++ rest))))
spelled prog vers netid address owner rest = joined (word prog) (word vers) (text netid) (text address)
    (text owner) rest

bytes_append : (xs ys : List ℕ) → are_bytes (xs ++ ys) ≡ true → (are_bytes xs ≡ true) × (are_bytes ys ≡ true)
bytes_append [] ys h = (refl, h)
bytes_append (x ∷ xs) ys h =
    let a = both _ (are_bytes (xs ++ ys)) h in
    let r = bytes_append xs ys a.1 in
    ((λ j. a.0 j && r.0 j), r.1)

bytes_text : (bs rest : List ℕ) → are_bytes (text bs ++ rest) ≡ true → (are_bytes bs ≡ true) × (are_bytes rest ≡ true)
bytes_text bs rest h =
    let a = bytes_append (text bs) rest h in
    let b = bytes_append (word (length bs)) (padded bs) a.0 in
    ((bytes_append bs (pad (length bs)) b.1).0, a.1)

-- the fields with which arguments begin
record Begun (args : List ℕ) : Type 0 where
  prog : ℕ
  vers : ℕ
  netid : List ℕ
  address : List ℕ
  owner : List ℕ
  rest : List ℕ
  prog_small : prog < 2 ^ 32
  vers_small : vers < 2 ^ 32
  netid_small : length netid < 2 ^ 32
  address_small : length address < 2 ^ 32
  owner_small : length owner < 2 ^ 32
  is : args ≡ word prog ++ (word vers ++ (text netid ++ (text address ++ (text owner ++ rest))))
  within : length args ≤ 65536 + length rest

module _ (exact : WholeExactly dir_kinds) where
  begun_of : (args : List ℕ) (t : Tree) → AreArguments 11 args t → Begun args
  begun_of args t h =
      let d = begins exact 11 args t h in
      let rest = d.rest in
      let r = an_rpcb t d.fits.0 in
      let many : length args ≡ length (bytes_of dir_kinds 11 t) + length rest = ap length d.is
      ∙ length-append (bytes_of dir_kinds 11 t) rest in
      let few : length (bytes_of dir_kinds 11 t) ≤ 65536 = d.fits.1.1 in
      record {
        prog = r.prog;
        vers = r.vers;
        netid = r.netid;
        address = r.address;
        owner = r.owner;
        rest = rest;
        prog_small = r.prog_small;
        vers_small = r.vers_small;
        netid_small = r.netid_small;
        address_small = r.address_small;
        owner_small = r.owner_small;
        is = d.is ∙ ap (λ (x : Tree). bytes_of dir_kinds 11 x ++ rest) r.is
            ∙ spelled r.prog r.vers r.netid r.address r.owner rest;
        within = omega (arith, many, few);
      }

  -- no rpcb where there is no first word,
  pub no_prog : (args : List ℕ) → length args < 4 → AreGarbage 11 args
  no_prog args short t h = let b = begun_of args t h in short_word args b.prog _ short b.is

  module _ (args : List ℕ) (prog : ℕ) (x1 : List ℕ) (prog_small : prog < 2 ^ 32) (e1 : args ≡ word prog ++ x1) where
    after1 : (b : Begun args) → x1 ≡ word b.vers ++ (text b.netid ++ (text b.address ++ (text b.owner ++ b.rest)))
    after1 b = (same_word prog b.prog x1 _ prog_small b.prog_small (sym e1 ∙ b.is)).1

    -- no second,
    pub no_vers : length x1 < 4 → AreGarbage 11 args
    no_vers short t h = let b = begun_of args t h in short_word x1 b.vers _ short (after1 b)

    module _ (vers : ℕ) (x2 : List ℕ) (vers_small : vers < 2 ^ 32) (e2 : x1 ≡ word vers ++ x2) where
      after2 : (b : Begun args) → x2 ≡ text b.netid ++ (text b.address ++ (text b.owner ++ b.rest))
      after2 b = (same_word vers b.vers x2 _ vers_small b.vers_small (sym e2 ∙ after1 b)).1

      -- no netid,
      pub no_netid : HasNoText x2 → AreGarbage 11 args
      no_netid none t h = let b = begun_of args t h in none b.netid _ b.netid_small (after2 b)

      module _ (netid x3 : List ℕ) (netid_small : length netid < 2 ^ 32) (e3 : x2 ≡ text netid ++ x3) where
        after3 : (b : Begun args) → x3 ≡ text b.address ++ (text b.owner ++ b.rest)
        after3 b = (text_front netid b.netid x3 _ netid_small b.netid_small (sym e3 ∙ after2 b)).1

        -- no address,
        pub no_address : HasNoText x3 → AreGarbage 11 args
        no_address none t h = let b = begun_of args t h in none b.address _ b.address_small (after3 b)

        module _ (address x4 : List ℕ) (address_small : length address < 2 ^ 32) (e4 : x3 ≡ text address ++ x4) where
          after4 : (b : Begun args) → x4 ≡ text b.owner ++ b.rest
          after4 b = (text_front address b.address x4 _ address_small b.address_small (sym e4 ∙ after3 b)).1

          -- no owner,
          pub no_owner : HasNoText x4 → AreGarbage 11 args
          no_owner none t h = let b = begun_of args t h in none b.owner _ b.owner_small (after4 b)

          module _ (owner x5 : List ℕ) (owner_small : length owner < 2 ^ 32) (e5 : x4 ≡ text owner ++ x5) where
            after5 : (b : Begun args) → x5 ≡ b.rest
            after5 b = (text_front owner b.owner x5 b.rest owner_small b.owner_small (sym e5 ∙ after4 b)).1

            -- or too many bytes;
            pub too_large : 65536 < length args - length x5 → AreGarbage 11 args
            too_large long t h = let b = begun_of args t h in omega (arith, ap length (after5 b), b.within, long)

            all : args ≡ bytes_of dir_kinds 11 (rpcb_tree (row_of prog vers netid address owner)) ++ x5
            all = e1 ∙ ap (λ (x : List ℕ). word prog ++ x) (e2 ∙ ap (λ (x : List ℕ). word vers ++ x) (e3
                ∙ ap (λ (x : List ℕ). text netid ++ x) (e4 ∙ ap (λ (x : List ℕ). text address ++ x) e5)))
                ∙ sym (spelled prog vers netid address owner x5)

            -- else an rpcb
            pub whole_rpcb : are_bytes args ≡ true → length args - length x5 ≤ 65536
                → AreArguments 11 args (rpcb_tree (row_of prog vers netid address owner))
            whole_rpcb bytes few =
                let b1 = bytes_append (word prog) x1 (subst (λ (x : List ℕ). are_bytes x ≡ true) e1 bytes) in
                let b2 = bytes_append (word vers) x2 (subst (λ (x : List ℕ). are_bytes x ≡ true) e2 b1.1) in
                let b3 = bytes_text netid x3 (subst (λ (x : List ℕ). are_bytes x ≡ true) e3 b2.1) in
                let b4 = bytes_text address x4 (subst (λ (x : List ℕ). are_bytes x ≡ true) e4 b3.1) in
                let b5 = bytes_text owner x5 (subst (λ (x : List ℕ). are_bytes x ≡ true) e5 b4.1) in
                let bn = b3.0 in
                let ba = b4.0 in
                let bo = b5.0 in
                let lp : nat_lt prog (2 ^ 32) ≡ true = lt-ltb _ _ (omega arith) in
                let lv : nat_lt vers (2 ^ 32) ≡ true = lt-ltb _ _ (omega arith) in
                let ln : is_length 4294967295 (length netid) ≡ true = short_enough (length netid) (omega arith) in
                let la : is_length 4294967295 (length address) ≡ true = short_enough (length address) (omega arith) in
                let lo : is_length 4294967295 (length owner) ≡ true = short_enough (length owner) (omega arith) in
                let legal : fits dir_kinds 11 (rpcb_tree (row_of prog vers netid address owner)) ≡ true =
                λ j. (lp j && true) && ((lv j && true) && (((ln j && bn j) && true) &&
                (((la j && ba j) && true) && (((lo j && bo j) && true) && true)))) in
                let many : length args ≡ length
                (bytes_of dir_kinds 11 (rpcb_tree (row_of prog vers netid address owner))) + length x5 =
                ap length all ∙ length-append
                (bytes_of dir_kinds 11 (rpcb_tree (row_of prog vers netid address owner))) x5 in
                decoded exact 11 args (rpcb_tree (row_of prog vers netid address owner))
                (record { fits = (legal, (omega arith, omega (arith, many, few))); rest = x5; is = all })
