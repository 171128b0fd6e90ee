-- By what messages are judged.
use Rattle.std.specs.Prelude.{ℕ, ◌==◌, Bool, List, [], ◌∷◌, map, if◌then◌else◌}
use Rattle.std.specs.List.{list_any}
use Rattle.xdr_types.specs.Within.{Bounds}
use Rattle.xdr_lang.specs.Declarations.{Declared}
use Rattle.xdr_lang.specs.Views.{declared_of}
use Rattle.xdr_lang.specs.declared.declarations.Declared as code_declared
use Rattle.oncrpc_messages.specs.Heads.{Heads, heads_of}
use Rattle.oncrpc_messages.specs.Settings.{Settings}
use Rattle.oncrpc_messages.specs.declared.form.Form.{Form}
use Rattle.oncrpc_watch.specs.declared.terms.Terms as code

-- What the words' texts declare as one, what other texts declare, each by itself, the types of heads, the limits on
-- each value, whether lines or JSON is printed, and whether nothing is of arguments and results that are values.
pub record Terms : Type 0 where
  pub declared : Declared
  pub known : List Declared
  pub heads : Heads
  pub limits : Bounds
  pub form : Form
  pub brief : Bool

-- what each of these texts declares
abbrev pub each_declared : List code_declared.Declared → List Declared
each_declared ds = map (λ (d : code_declared.Declared). declared_of d) ds

abbrev pub terms_of : code.Terms → Terms
terms_of t = record {
  declared = declared_of t.declared.now;
  known = each_declared t.known.now;
  heads = heads_of t.heads.now;
  limits = t.limits;
  form = t.form;
  brief = t.brief;
}

-- whether a program with this number is declared (RFC 5531 section 12.3)
abbrev pub has_program : (program : ℕ) → Declared → Bool
has_program program d = list_any (λ p. p.number == program) d.programs

-- the first of these texts that declares a program, each read by itself, else this one
abbrev pub first_declaring : Declared → (known : List Declared) → (program : ℕ) → Declared
first_declaring d [] program = d
first_declaring d (t ∷ ts) program = if has_program program t then t else first_declaring d ts program

-- what declares a program: what the words name, unless only another text has it
abbrev pub declaring : Declared → (known : List Declared) → (program : ℕ) → Declared
declaring d known program = if has_program program d then d else first_declaring d known program

-- how messages of a program are read and printed
abbrev pub settings_by : Terms → (program : ℕ) → Settings
settings_by t program = record {
  declared = declaring t.declared t.known program;
  heads = t.heads;
  limits = t.limits;
  form = t.form;
  brief = t.brief;
}
