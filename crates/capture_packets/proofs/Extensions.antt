-- The headers of extension, one passed after another.
use Rattle.std.proofs.Common.{◌≡◌, ℕ, suc, Result, Ok, Err, ap, ◌∙◌}
use Rattle.capture_packets.specs.declared.reason.Reason.{Reason}
use Rattle.capture_packets.specs.Internet.{header_passed, extensions_passed}
use Rattle.capture_packets.specs.Packet.{CarriedView}
use Rattle.capture_packets.specs.Steps.{◌>>=◌}

passed_more : (n m : ℕ) (c : CarriedView) → n ≡ suc m
    → extensions_passed n c ≡ (header_passed c >>= extensions_passed m)
unfolding extensions_passed
passed_more n m c e = ap (λ (k : ℕ). extensions_passed k c) e

pub passed_ok : (n m : ℕ) (c d : CarriedView) → n ≡ suc m → header_passed c ≡ Ok d
    → extensions_passed n c ≡ extensions_passed m d
passed_ok n m c d e h =
    passed_more n m c e ∙ ap (λ (r : Result CarriedView Reason). r >>= extensions_passed m) h

pub passed_err : (n m : ℕ) (c : CarriedView) (reason : Reason) → n ≡ suc m → header_passed c ≡ Err reason
    → extensions_passed n c ≡ Err reason
passed_err n m c reason e h =
    passed_more n m c e ∙ ap (λ (r : Result CarriedView Reason). r >>= extensions_passed m) h

pub passed_none : (n : ℕ) (c : CarriedView) → n ≡ 0 → extensions_passed n c ≡ Ok c
unfolding extensions_passed
passed_none n c e = ap (λ (k : ℕ). extensions_passed k c) e
