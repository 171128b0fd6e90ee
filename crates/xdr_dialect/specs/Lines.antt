-- The lines of a text in rpcgen's dialect: what is left of one that begins here, and then of the rest, an equation each
-- (own, after rpcgen's scanner and the C preprocessor). What a line of # says is in Directives.antt.
use Rattle.std.specs.Prelude.{◌≡◌, ℕ, suc, Bool, true, false, ◌==◌, ◌&&◌, ◌||◌, List, [], ◌∷◌, ◌++◌, length}
use Rattle.std.specs.Prelude.{map, if◌then◌else◌, Option, Some, None, Result, Ok, Err}
use Rattle.xdr_tokens.specs.declared.fault.Fault.{Fault}
use Rattle.xdr_tokens.specs.declared.fault.Fault.TheVariants as fault
use Rattle.xdr_tokens.specs.declared.fault.Wrong.TheVariants as wrong
use Rattle.xdr_tokens.specs.Bytes.{is_space}
use Rattle.xdr_tokens.specs.Text.{HasNoEnd}
use Rattle.xdr_dialect.specs.declared.directive.Directive.{Directive}
use Rattle.xdr_dialect.specs.declared.directive.Directive.TheVariants as say
use Rattle.xdr_dialect.specs.declared.gate.Gate.{Gate}
use Rattle.xdr_dialect.specs.declared.gate.Gate.TheVariants as gate
use Rattle.xdr_dialect.specs.declared.spot.Spot.TheVariants as spot
use Rattle.xdr_dialect.specs.Spots.{blank}
use Rattle.xdr_dialect.specs.Blanks.{begins, after_blanks, closes}
use Rattle.xdr_dialect.specs.Directives.{directive, name_of_definition, is_shown, opened, turned, turned_if}
use Rattle.xdr_dialect.specs.Plain.{Standing, joined, plain_from}

-- what is left of a text that begins a line, in these sections and behind these definitions
abbrev pub lines : (names : List (List ℕ)) → Standing → List ℕ → Result (List ℕ) Fault
lines names s bs = plain_from names (record s { spot = spot.Fresh }) bs

-- a blank for each byte but line feeds
abbrev pub blanks : List ℕ → List ℕ
blanks bs = map blank bs

-- a byte where the text is shown, else a blank
abbrev pub seen : (shown : Bool) → ℕ → ℕ
seen shown b = if shown then b else blank b

-- what a line is made of: bytes, comments, and what is quoted
pub data Stretch : Type 0 where
  Byte : (byte : ℕ) → Stretch
  Comment : (inside : List ℕ) → Stretch
  Quoted : (inside : List ℕ) → Stretch

-- the bytes of these, and those that follow them
abbrev pub spelled : List Stretch → List ℕ → List ℕ
spelled [] bs = bs
spelled (Byte b ∷ line) bs = b ∷ spelled line bs
spelled (Comment inside ∷ line) bs = 47 ∷ 42 ∷ (inside ++ 42 ∷ 47 ∷ spelled line bs)
spelled (Quoted inside ∷ line) bs = 34 ∷ (inside ++ 34 ∷ spelled line bs)

-- What is left of them, before what is left of the rest. Of what is quoted, where the text is shown, = stays for each
-- quotation mark.
abbrev pub left_of : (shown : Bool) → List Stretch → List ℕ → List ℕ
left_of shown [] bs = bs
left_of shown (Byte b ∷ line) bs = seen shown b ∷ left_of shown line bs
left_of shown (Comment inside ∷ line) bs =
    seen shown 47 ∷ seen shown 42 ∷ (map (seen shown) inside ++ seen shown 42 ∷ seen shown 47 ∷ left_of shown line bs)
left_of shown (Quoted inside ∷ line) bs =
    (if shown then 61 else 32) ∷ (blanks inside ++ (if shown then 61 else 32) ∷ left_of shown line bs)

-- none of the bytes is one of two
abbrev pub HasNeither : (c d : ℕ) → List ℕ → Type 0
HasNeither c d [] = Unit {0}
HasNeither c d (b ∷ bs) = (((b == c) || (b == d)) ≡ false) × HasNeither c d bs

-- the bytes of a line of %, which goes on behind \
abbrev pub continued : List (List ℕ) → (last : List ℕ) → List ℕ
continued [] last = last
continued (run ∷ runs) last = run ++ 92 ∷ 10 ∷ continued runs last

-- neither a line feed nor another \ stands in it
abbrev pub IsContinued : List (List ℕ) → List ℕ → Type 0
IsContinued [] last = HasNeither 10 92 last
IsContinued (run ∷ runs) last = HasNeither 10 92 run × IsContinued runs last

-- A line of # behind that mark, before its line feed: bytes but \, and comments, which may have line feeds. No // is
-- in it.
abbrev pub IsHashed : List Stretch → List ℕ → Type 0
IsHashed [] bs = Unit {0}
IsHashed (Byte b ∷ line) bs =
    (((b == 10) || (b == 92)) ≡ false)
    × (((b == 47) && (begins 42 (spelled line bs) || begins 47 (spelled line bs))) ≡ false) × IsHashed line bs
IsHashed (Comment inside ∷ line) bs = HasNoEnd inside × IsHashed line bs
IsHashed (Quoted inside ∷ line) bs = ⊥

-- The text of a line before its line feed: a comment and a quotation are wherever they begin.
abbrev pub IsWritten : List Stretch → List ℕ → Type 0
IsWritten [] bs = Unit {0}
IsWritten (Byte b ∷ line) bs =
    (((b == 10) || (b == 34)) ≡ false) × (((b == 47) && begins 42 (spelled line bs)) ≡ false) × IsWritten line bs
IsWritten (Comment inside ∷ line) bs = HasNoEnd inside × IsWritten line bs
IsWritten (Quoted inside ∷ line) bs = HasNeither 10 34 inside × IsWritten line bs

-- it begins with neither white space nor % nor #
abbrev pub BeginsText : List ℕ → Type 0
BeginsText [] = ⊥
BeginsText (b ∷ bs) = ((is_space b || (b == 37) || (b == 35)) ≡ false)

-- what a line of # says where it stands
abbrev pub said : (names : List (List ℕ)) → Standing → List Stretch → (rest : List ℕ) → Directive
said names s line rest = directive names s.defines (spelled line (10 ∷ rest))

-- behind a line of #define its name is one of the text's own
abbrev pub naming : Standing → List Stretch → (rest : List ℕ) → Standing
naming s line rest = record s { defines = s.defines ++ name_of_definition (spelled line (10 ∷ rest)) ∷ [] }

-- Nothing is left of a line of # but blanks, and the rest is read behind it.
abbrev pub IsBlank : (names : List (List ℕ)) → (s after : Standing) → List Stretch → (rest : List ℕ) → Type 0
IsBlank names s after line rest =
    lines names s (35 ∷ spelled line (10 ∷ rest))
    ≡ joined (blanks (35 ∷ spelled line (10 ∷ []))) (lines names after rest)

-- A line of # is refused at its #.
abbrev pub IsRefused : (names : List (List ℕ)) → Standing → (rest : List ℕ) → Type 0
IsRefused names s rest = lines names s (35 ∷ rest) ≡ Err (fault.Refused wrong.BadCharacter (suc (length rest)))

-- Lines that are not of #.
pub record Texts : Type 0 where
  -- White space stays, and the line begins behind it.
  pub space : (names : List (List ℕ)) (s : Standing) (b : ℕ) (rest : List ℕ) → is_space b ≡ true
      → lines names s (b ∷ rest) ≡ joined (seen (is_shown s.gate) b ∷ []) (lines names s rest)
  -- A line of % is blank, however often it goes on.
  pub percent : (names : List (List ℕ)) (s : Standing) (runs : List (List ℕ)) (last rest : List ℕ)
      → IsContinued runs last
      → lines names s (37 ∷ (continued runs last ++ 10 ∷ rest))
      ≡ joined (blanks (37 ∷ (continued runs last ++ 10 ∷ []))) (lines names s rest)
  -- Another line stays where the text is shown, but for what is quoted; else it is blank.
  pub text : (names : List (List ℕ)) (s : Standing) (line : List Stretch) (rest : List ℕ)
      → IsWritten line (10 ∷ rest) → BeginsText (spelled line (10 ∷ []))
      → lines names s (spelled line (10 ∷ rest))
      ≡ joined (left_of (is_shown s.gate) line (10 ∷ [])) (lines names s rest)
  -- At the end no section is open.
  pub ends : (names : List (List ℕ)) (s : Standing) → s.outer ≡ [] → lines names s [] ≡ Ok []
  pub is_open : (names : List (List ℕ)) (s : Standing) (g : Gate) (gs : List Gate) → s.outer ≡ g ∷ gs
      → lines names s [] ≡ Err (fault.Refused wrong.Unexpected 0)

-- Lines of # that begin a branch or end a section, and where they cannot.
pub record Sections : Type 0 where
  -- #if, #ifdef and #ifndef open a section.
  pub opens : (names : List (List ℕ)) (s : Standing) (holds : Bool) (line : List Stretch) (rest : List ℕ)
      → IsHashed line (10 ∷ rest) → said names s line rest ≡ say.Section (Some holds)
      → IsBlank names s (record s { gate = opened s.gate holds; outer = s.gate ∷ s.outer }) line rest
  -- In a hidden branch their condition may be any, and what they open is hidden.
  pub opens_hidden : (names : List (List ℕ)) (s : Standing) (line : List Stretch) (rest : List ℕ)
      → IsHashed line (10 ∷ rest) → said names s line rest ≡ say.Section None → is_shown s.gate ≡ false
      → IsBlank names s (record s { gate = gate.Dead; outer = s.gate ∷ s.outer }) line rest
  -- #else goes to the other branch.
  pub turns : (names : List (List ℕ)) (s : Standing) (g : Gate) (line : List Stretch) (rest : List ℕ)
      → IsHashed line (10 ∷ rest) → said names s line rest ≡ say.Otherwise → turned s.gate ≡ Some g
      → IsBlank names s (record s { gate = g }) line rest
  -- #elif goes to another.
  pub turns_if : (names : List (List ℕ)) (s : Standing) (holds : Option Bool) (g : Gate) (line : List Stretch)
      (rest : List ℕ) → IsHashed line (10 ∷ rest) → said names s line rest ≡ say.OtherwiseIf holds
      → turned_if s.gate holds ≡ Some g → IsBlank names s (record s { gate = g }) line rest
  -- #endif goes back to the section around.
  pub goes_back : (names : List (List ℕ)) (s : Standing) (g : Gate) (gs : List Gate) (line : List Stretch)
      (rest : List ℕ) → IsHashed line (10 ∷ rest) → said names s line rest ≡ say.End → s.outer ≡ g ∷ gs
      → IsBlank names s (record s { gate = g; outer = gs }) line rest
  pub no_condition : (names : List (List ℕ)) (s : Standing) (rest : List ℕ)
      → directive names s.defines rest ≡ say.Section None → is_shown s.gate ≡ true → IsRefused names s rest
  pub no_turn : (names : List (List ℕ)) (s : Standing) (rest : List ℕ)
      → directive names s.defines rest ≡ say.Otherwise → turned s.gate ≡ None → IsRefused names s rest
  pub no_turn_if : (names : List (List ℕ)) (s : Standing) (holds : Option Bool) (rest : List ℕ)
      → directive names s.defines rest ≡ say.OtherwiseIf holds → turned_if s.gate holds ≡ None
      → IsRefused names s rest
  pub no_section : (names : List (List ℕ)) (s : Standing) (rest : List ℕ)
      → directive names s.defines rest ≡ say.End → s.outer ≡ [] → IsRefused names s rest

-- Other lines of #.
pub record Hashes : Type 0 where
  -- #define NAME NUMBER stays, but that = stands for its #, and NAME is defined behind it.
  pub number : (names : List (List ℕ)) (s : Standing) (line : List Stretch) (rest : List ℕ)
      → IsWritten line (10 ∷ rest) → said names s line rest ≡ say.Definition true → is_shown s.gate ≡ true
      → lines names s (35 ∷ spelled line (10 ∷ rest))
      ≡ joined (61 ∷ left_of true line (10 ∷ []))
      (lines names (record s { defines = s.defines ++ name_of_definition (spelled line (10 ∷ rest)) ∷ [] }) rest)
  -- Of #define NAME the name alone stays.
  pub name : (names : List (List ℕ)) (s : Standing) (line : List Stretch) (rest : List ℕ)
      → IsHashed line (10 ∷ rest) → said names s line rest ≡ say.Definition false → is_shown s.gate ≡ true
      → IsBlank names s (naming s line rest) line rest
  -- In a hidden branch neither defines anything.
  pub hidden : (names : List (List ℕ)) (s : Standing) (number : Bool) (line : List Stretch) (rest : List ℕ)
      → IsHashed line (10 ∷ rest) → said names s line rest ≡ say.Definition number → is_shown s.gate ≡ false
      → IsBlank names s s line rest
  -- #include, #pragma, #ident and # alone are nothing.
  pub nothing : (names : List (List ℕ)) (s : Standing) (line : List Stretch) (rest : List ℕ)
      → IsHashed line (10 ∷ rest) → said names s line rest ≡ say.Nothing → IsBlank names s s line rest
  -- Another line is nothing where it is hidden, and else refused.
  pub other : (names : List (List ℕ)) (s : Standing) (line : List Stretch) (rest : List ℕ)
      → IsHashed line (10 ∷ rest) → said names s line rest ≡ say.Other → is_shown s.gate ≡ false
      → IsBlank names s s line rest
  pub no_other : (names : List (List ℕ)) (s : Standing) (rest : List ℕ)
      → directive names s.defines rest ≡ say.Other → is_shown s.gate ≡ true → IsRefused names s rest

-- Between the words of a line of # spaces, tabs and comments are nothing, where each comment ends.
pub record Gaps : Type 0 where
  pub space : (bs : List ℕ) → after_blanks (32 ∷ bs) ≡ after_blanks bs
  pub tab : (bs : List ℕ) → after_blanks (9 ∷ bs) ≡ after_blanks bs
  pub comment : (inside bs : List ℕ) → HasNoEnd inside
      → after_blanks (47 ∷ 42 ∷ (inside ++ 42 ∷ 47 ∷ bs)) ≡ after_blanks bs
  pub closed : (line : List Stretch) (rest : List ℕ) → IsHashed line (10 ∷ rest)
      → closes (spelled line (10 ∷ rest)) ≡ true
  pub unclosed : (line : List Stretch) (inside : List ℕ) → IsHashed line (47 ∷ 42 ∷ inside) → HasNoEnd inside
      → closes (spelled line (47 ∷ 42 ∷ inside)) ≡ false
