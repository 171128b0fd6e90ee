-- The lines of the examples as they are written.
use Rattle.std.proofs.Common.{◌≡◌, [], ◌∷◌, ◌++◌, codes, decimal, refl}
use Rattle.std.specs.Fmt.{digits}
use Rattle.hex.specs.Hex.{encode_lower, encode_with}
use Rattle.rpc_message.specs.Message.{ProgMismatch, AuthError}
use Rattle.oncrpc_service.specs.Infos.{status_line}
use Rattle.oncrpc_call.specs.Lines.{denied_line}

pub number_written : encode_lower (0 ∷ 0 ∷ 8 ∷ 1 ∷ []) ++ 10 ∷ [] ≡ codes "00000801\n"
unfolding encode_with
number_written = refl

pub three_written : codes "refused WrongXid " ++ decimal 3 ++ codes "\n" ≡ codes "refused WrongXid 3\n"
unfolding digits
three_written = refl

pub versions_written : status_line (ProgMismatch 2 4) ≡ codes "refused PROG_MISMATCH 2 4\n"
unfolding digits
versions_written = refl

pub weak_written : denied_line (AuthError 5) ≡ codes "refused AUTH_ERROR AUTH_TOOWEAK\n"
weak_written = refl

pub none_written : codes "refused Truncated at " ++ decimal 0 ++ codes "\n" ≡ codes "refused Truncated at 0\n"
unfolding digits
none_written = refl
