-- How messages are read and printed.
use Rattle.std.specs.Prelude.{ℕ, ◌<◌, Bool, length}
use Rattle.xdr_lang.specs.Declarations.{Declared}
use Rattle.xdr_lang.specs.Views.{declared_of}
use Rattle.xdr_types.specs.Within.{Bounds}
use Rattle.oncrpc_messages.specs.declared.form.Form.{Form}
use Rattle.oncrpc_messages.specs.declared.settings.Settings as code
use Rattle.oncrpc_messages.specs.Heads.{Heads, heads_of}

-- What is declared, the types of heads, the limits on each value, whether lines or JSON is printed, and whether nothing
-- is of arguments and results that are values.
pub record Settings : Type 0 where
  pub declared : Declared
  pub heads : Heads
  pub limits : Bounds
  pub form : Form
  pub brief : Bool

abbrev pub settings_of : code.Settings → Settings
settings_of s = record {
  declared = declared_of s.declared.now;
  heads = heads_of s.heads.now;
  limits = s.limits;
  form = s.form;
  brief = s.brief;
}
