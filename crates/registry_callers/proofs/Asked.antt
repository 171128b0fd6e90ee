-- The bytes that are asked in place of a record are bytes, and one.
use Rattle.std.proofs.Common.{◌≡◌, ℕ, List, ◌++◌, refl, ap, sym, ◌∙◌, subst, arith}
use Rattle.xdr_units.specs.Numbers.{word, AreBytes}
use Rattle.xdr_units.proofs.Bytes.{AreBytes-append, AreBytes-after, AreBytes-before}
use Rattle.rpc_message.specs.Message.{AuthView, CallView}
use Rattle.rpc_message.specs.Spelling.{CallBytes, auth, call}
use Rattle.registry_callers.specs.declared.callers.Peer.{Peer}
use Rattle.registry_callers.specs.Vouching.{Vouches, named, lowered, believed, local, IsVouched, user_cred, with_cred}

one_cred : {cred : AuthView} {p q : Peer} {a b : AuthView} → Vouches cred p a → Vouches cred q b → p ≡ q → a ≡ b
one_cred (named u) (named w) e = let f : u ≡ w = cc in ap user_cred f
one_cred (named u) (lowered k) e = absurd cc
one_cred (named u) (believed k) e = absurd cc
one_cred (named u) local e = absurd cc
one_cred (lowered h) (named w) e = absurd cc
one_cred (lowered h) (lowered k) e = refl
one_cred (lowered h) (believed k) e = absurd (k h)
one_cred (lowered h) local e = absurd cc
one_cred (believed h) (named w) e = absurd cc
one_cred (believed h) (lowered k) e = absurd (h k)
one_cred (believed h) (believed k) e = refl
one_cred (believed h) local e = absurd cc
one_cred local (named w) e = absurd cc
one_cred local (lowered k) e = absurd cc
one_cred local (believed k) e = absurd cc
one_cred local local e = refl

-- one call has one credential that is vouched for
pub one_asked : (p : Peer) (c d : CallView) (a b : List ℕ) → c ≡ d → IsVouched p c a → IsVouched p d b → a ≡ b
one_asked p c d a b e v w =
    let at : IsVouched p c b = subst (λ (x : CallView). IsVouched p x b) (sym e) w in
    v.spelled.parts ∙ ap (λ (x : AuthView). call (with_cred c x)) (one_cred v.vouches at.vouches refl)
    ∙ sym at.spelled.parts

word_bytes : (n : ℕ) → AreBytes (word n)
word_bytes n = (omega arith, (omega arith, (omega arith, (omega arith, tt))))

user_bytes : (uid : ℕ) → AreBytes (auth (user_cred uid))
user_bytes uid =
    AreBytes-append (word 1) (word 20 ++ (word 0 ++ (word 0 ++ (word uid ++ (word 0 ++ word 0))))) (word_bytes 1)
    (AreBytes-append (word 20) (word 0 ++ (word 0 ++ (word uid ++ (word 0 ++ word 0)))) (word_bytes 20)
    (AreBytes-append (word 0) (word 0 ++ (word uid ++ (word 0 ++ word 0))) (word_bytes 0)
    (AreBytes-append (word 0) (word uid ++ (word 0 ++ word 0)) (word_bytes 0)
    (AreBytes-append (word uid) (word 0 ++ word 0) (word_bytes uid)
    (AreBytes-append (word 0) (word 0) (word_bytes 0) (word_bytes 0))))))

cred_bytes : {cred : AuthView} {p : Peer} {found : AuthView} → Vouches cred p found → AreBytes (auth cred)
    → AreBytes (auth found)
cred_bytes (named uid) h = user_bytes uid
cred_bytes (lowered k) h = AreBytes-append (word 0) (word 0) (word_bytes 0) (word_bytes 0)
cred_bytes (believed k) h = h
cred_bytes local h = h

-- what is asked in place of bytes is bytes
pub asked_bytes : (p : Peer) (c : CallView) (message asked : List ℕ) → AreBytes message → CallBytes c message
    → IsVouched p c asked → AreBytes asked
asked_bytes p c message asked fits read v =
    let front = word c.xid ++ (word 0 ++ (word 2 ++ (word c.prog ++ (word c.vers ++ word c.proc)))) in
    let rest = auth c.verf ++ c.args in
    let all : AreBytes (front ++ (auth c.cred ++ rest)) = subst AreBytes read.parts fits in
    let behind : AreBytes (auth c.cred ++ rest) = AreBytes-after front (auth c.cred ++ rest) all in
    let other : AreBytes (front ++ (auth v.cred ++ rest)) =
    AreBytes-append front (auth v.cred ++ rest) (AreBytes-before front (auth c.cred ++ rest) all)
    (AreBytes-append (auth v.cred) rest (cred_bytes v.vouches (AreBytes-before (auth c.cred) rest behind))
    (AreBytes-after (auth c.cred) rest behind)) in
    subst AreBytes (sym v.spelled.parts) other
