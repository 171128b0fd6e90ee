-- The call that a name and arguments ask for (RFC 5531 sections 9 and 12.3).
use Rattle.std.specs.Prelude.{◌≡◌, ◌≢◌, ◌⊎◌, ℕ, ◌<◌, ◌≤◌, List, [], ◌∷◌, ◌++◌, length, take, slice_index, Option}
use Rattle.std.specs.Prelude.{None, Some, MatchOption}
use Rattle.xdr_types.specs.Kinds.{KindView, kind_at}
use Rattle.xdr_types.specs.Named.{basic}
use Rattle.xdr_types.specs.Spelling.{bytes_of}
use Rattle.xdr_types.specs.Tree.{Tree}
use Rattle.xdr_types.specs.Within.{Bounds, FitsWithin}
use Rattle.xdr_stream.specs.Finish.{EndsWith}
use Rattle.xdr_stream.specs.Spared.{IsFlat}
use Rattle.xdr_stream.specs.declared.fault.DecodeFault.{DecodeFault}
use Rattle.xdr_stream.specs.declared.fault.Reason.TheVariants as reason
use Rattle.xdr_codec.specs.Refused.{HasNoneWithin, IsRefused}
use Rattle.xdr_lang.specs.Declarations.{Declared}
use Rattle.rpc_message.specs.Message.{AuthView, CallView}
use Rattle.rpc_message.specs.View.{auth_view, call_view}
use Rattle.oncrpc_procedures.specs.Meant.{Target}
use Rattle.oncrpc_procedures.specs.Names.{Names}
use Rattle.oncrpc_procedures.specs.Unnamed.{NamesNone}
use Rattle.oncrpc_call.specs.declared.asked.Asked.{Asked}
use Rattle.oncrpc_call.specs.declared.asked.Form.{Form}
use Rattle.oncrpc_call.specs.declared.asked.Form.TheVariants as form
use Rattle.oncrpc_call.specs.declared.asking.Terms as declared
use Rattle.oncrpc_call.specs.declared.unasked.Unasked.{Unasked}
use Rattle.oncrpc_call.specs.declared.unasked.Unasked.TheVariants as unasked

-- ---- arguments

-- the bytes are arguments of these kinds: a value of each within the limits, one behind another, and nothing after (RFC
-- 4506 section 4, RFC 5531 section 12.2)
abbrev pub AreArguments : List KindView → (places : List ℕ) → Bounds → (bytes : List ℕ) → Type 0
AreArguments kinds [] limits bytes = bytes ≡ []
AreArguments kinds (k ∷ ks) limits bytes =
    (v : Tree) × (rest : List ℕ) × FitsWithin kinds k limits v × (bytes ≡ bytes_of kinds k v ++ rest)
    × AreArguments kinds ks limits rest

-- The bytes begin with arguments of the first so many kinds, and these are left behind them.
pub record Leaves (kinds : List KindView) (places : List ℕ) (limits : Bounds) (bytes : List ℕ) (at : ℕ)
    (rest : List ℕ) : Type 0 where
  pub before : List ℕ
  pub judged : AreArguments kinds (take at places) limits before
  pub joined : bytes ≡ before ++ rest

-- The argument with this number, from 0, is of this kind, and these bytes are left for it by the arguments before it.
pub record Reaches (kinds : List KindView) (places : List ℕ) (limits : Bounds) (bytes : List ℕ) (at kind : ℕ)
    (rest : List ℕ) : Type 0 where
  pub behind : Leaves kinds places limits bytes at rest
  pub within : at < length places
  pub place_is : kind ≡ slice_index places at

-- The argument with this number, from 0, is refused: it is the first that is none. Its kind is known, and no value of
-- it within the limits begins what is left for it, for the reason and at the place of the outcome there.
pub record RefusesArgument (kinds : List KindView) (places : List ℕ) (limits : Bounds) (bytes : List ℕ) (at : ℕ)
    (f : DecodeFault) : Type 0 where
  pub kind : ℕ
  pub rest : List ℕ
  pub reached : Reaches kinds places limits bytes at kind rest
  pub is_kind : kind < length kinds
  pub known : f.why ≢ reason.NoMemory
  pub ends : EndsWith kinds kind limits rest f
  pub none : IsRefused (HasNoneWithin kinds kind limits) f.why rest
  pub place : f.at ≤ length rest

-- So many bytes follow the last argument, at least one.
pub record FollowsLast (kinds : List KindView) (places : List ℕ) (limits : Bounds) (bytes : List ℕ) (count : ℕ)
    : Type 0 where
  pub rest : List ℕ
  pub behind : Leaves kinds places limits bytes (length places) rest
  pub many : count ≡ length rest
  pub some : 0 < count

-- An argument is to be of a kind that there is not; those before it are arguments.
pub record LacksKind (kinds : List KindView) (places : List ℕ) (limits : Bounds) (bytes : List ℕ) : Type 0 where
  pub at : ℕ
  pub kind : ℕ
  pub rest : List ℕ
  pub reached : Reaches kinds places limits bytes at kind rest
  pub unknown : length kinds ≤ kind

-- Memory was refused while an argument was judged, whose kind takes some; those before it are arguments.
pub record LacksMemory (kinds : List KindView) (places : List ℕ) (limits : Bounds) (bytes : List ℕ) : Type 0 where
  pub at : ℕ
  pub kind : ℕ
  pub rest : List ℕ
  pub reached : Reaches kinds places limits bytes at kind rest
  pub is_kind : kind < length kinds
  pub takes : IsFlat (kind_at kinds kind) → ⊥

-- why bytes are no arguments: of what is wrong with them the first; where memory was refused that is not known
abbrev pub AreRefused : List KindView → (places : List ℕ) → Bounds → (bytes : List ℕ) → Unasked → Type 0
AreRefused kinds places limits bytes (unasked.Argument at f) =
    RefusesArgument kinds places limits bytes at f × (AreArguments kinds places limits bytes → ⊥)
AreRefused kinds places limits bytes (unasked.Follows count) =
    FollowsLast kinds places limits bytes count × (AreArguments kinds places limits bytes → ⊥)
AreRefused kinds places limits bytes unasked.Kind = LacksKind kinds places limits bytes
AreRefused kinds places limits bytes unasked.NoMemory = LacksMemory kinds places limits bytes
AreRefused kinds places limits bytes _ = ⊥

-- ---- the call

-- the most bytes of the arguments of a call
abbrev pub most_arguments : ℕ
most_arguments = 16777216

-- what a caller chooses
pub record Terms : Type 0 where
  pub xid : ℕ
  pub cred : AuthView
  pub limits : Bounds
  pub form : Form

abbrev pub terms_of : declared.Terms → Terms
terms_of t = record { xid = t.xid; cred = auth_view t.cred; limits = t.limits; form = t.form }

-- the call of a procedure, with no verifier (RFC 5531 section 9)
abbrev pub call_for : Target → (xid : ℕ) → (cred : AuthView) → (args : List ℕ) → CallView
call_for t xid cred args = record {
  xid = xid;
  prog = t.program;
  vers = t.version;
  proc = t.procedure.number;
  cred = cred;
  verf = record { flavor = 0; body = [] };
  args = args;
}

-- the kind of a result is the declared one, and of void the one without bytes among the basic kinds
abbrev pub IsResultKind : List KindView → (declared : Option ℕ) → List KindView → (place : ℕ) → Type 0
IsResultKind kinds None own place = (own ≡ basic.kinds) × (place ≡ 5)
IsResultKind kinds (Some k) own place = (own ≡ kinds) × (place ≡ k)

-- The name names a procedure, the bytes are arguments of it, and this is its call, on these terms.
pub record AsksFor (name : List ℕ) (d : Declared) (args : List ℕ) (terms : Terms) (asked : Asked) : Type 0 where
  pub target : Target
  pub named : Names name d.programs target
  pub short : length args ≤ most_arguments
  pub judged : AreArguments d.schema.kinds target.procedure.arguments terms.limits args
  pub call_is : call_view asked.call ≡ call_for target terms.xid terms.cred args
  pub result_is : IsResultKind d.schema.kinds target.procedure.result asked.schema.kinds asked.result.place
  pub limits_are : asked.limits ≡ terms.limits
  pub form_is : asked.form ≡ terms.form

-- the call of procedure 0, which each program has, by nobody (RFC 5531 section 12.1)
abbrev pub null_call : (program version : ℕ) → CallView
null_call program version = record {
  xid = 1;
  prog = program;
  vers = version;
  proc = 0;
  cred = record { flavor = 0; body = [] };
  verf = record { flavor = 0; body = [] };
  args = [];
}

-- This is that call; its result is void, and printed as a line of no bytes.
pub record AsksNull (program version : ℕ) (asked : Asked) : Type 0 where
  pub call_is : call_view asked.call ≡ null_call program version
  pub kinds_are : asked.schema.kinds ≡ basic.kinds
  pub place_is : asked.result.place ≡ 5
  pub limits_are : asked.limits ≡ record { depth = 4096; bytes = 16777216 }
  pub form_is : asked.form ≡ form.Hex

-- why there is no kind of a result: it is none of these, or memory was refused for that of void
abbrev pub LacksResult : List KindView → (declared : Option ℕ) → Unasked → Type 0
LacksResult kinds declared unasked.Kind = MatchOption declared ⊥ (λ k. length kinds ≤ k)
LacksResult kinds declared unasked.NoMemory = declared ≡ None
LacksResult kinds declared _ = ⊥

-- A procedure is named, and the bytes are not too long. They are no arguments of it; or they are, and its result has no
-- kind.
pub record Mismatches (name : List ℕ) (d : Declared) (args : List ℕ) (limits : Bounds) (why : Unasked) : Type 0 where
  pub target : Target
  pub named : Names name d.programs target
  pub short : length args ≤ most_arguments
  pub refused : AreRefused d.schema.kinds target.procedure.arguments limits args why
      ⊎ (AreArguments d.schema.kinds target.procedure.arguments limits args
      × LacksResult d.schema.kinds target.procedure.result why)

-- why nothing is asked, of several reasons the first: bytes that are too long, a name that names nothing, what is wrong
-- with the arguments, and with the result
abbrev pub AsksNothing : (name : List ℕ) → Declared → (args : List ℕ) → Bounds → Unasked → Type 0
AsksNothing name d args limits unasked.TooLong = most_arguments < length args
AsksNothing name d args limits (unasked.Name why) = (length args ≤ most_arguments) × NamesNone name d.programs why
AsksNothing name d args limits why = Mismatches name d args limits why
