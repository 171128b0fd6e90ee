-- The decimal texts of the numbers that are declared.
use Rattle.std.proofs.Common.{◌≡◌, ℕ, ◌+◌, ◌/◌, ◌%◌, ◌<◌, ◌≤◌, ◌^◌, List, [], ◌∷◌, ◌++◌, decimal, codes, ap, ◌∙◌}
use Rattle.std.proofs.Common.{lit<, lit≤}
use Rattle.std.proofs.lemmas.Fmt.{decimal_digit, decimal_step}

pub zero_text : decimal 0 ≡ codes "0"
zero_text = decimal_digit 0 (lit< tt)

pub three_text : decimal 3 ≡ codes "3"
three_text = decimal_digit 3 (lit< tt)

pub five_text : decimal 5 ≡ codes "5"
five_text = decimal_digit 5 (lit< tt)

-- one more digit
digit_more : (n : ℕ) (front : List ℕ) → 10 ≤ n → n < 2 ^ 64 → decimal (n / 10) ≡ front
    → decimal n ≡ front ++ ((48 + n % 10) ∷ [])
digit_more n front low high is = decimal_step n low high ∙ ap (λ (z : List ℕ). z ++ ((48 + n % 10) ∷ [])) is

ten_thousand_text : decimal 10000 ≡ codes "10000"
ten_thousand_text =
    digit_more 10000 (codes "1000") (lit≤ tt) (lit< tt)
    (digit_more 1000 (codes "100") (lit≤ tt) (lit< tt)
    (digit_more 100 (codes "10") (lit≤ tt) (lit< tt)
    (digit_more 10 (codes "1") (lit≤ tt) (lit< tt) (decimal_digit 1 (lit< tt)))))

pub rpcbind_text : decimal 100000 ≡ codes "100000"
rpcbind_text = digit_more 100000 (codes "10000") (lit≤ tt) (lit< tt) ten_thousand_text

pub nfs_text : decimal 100003 ≡ codes "100003"
nfs_text = digit_more 100003 (codes "10000") (lit≤ tt) (lit< tt) ten_thousand_text

pub yp_text : decimal 100004 ≡ codes "100004"
yp_text = digit_more 100004 (codes "10000") (lit≤ tt) (lit< tt) ten_thousand_text

pub mount_text : decimal 100005 ≡ codes "100005"
mount_text = digit_more 100005 (codes "10000") (lit≤ tt) (lit< tt) ten_thousand_text
