-- Streams of records, one fragment further.
use Rattle.std.proofs.Common.{◌≡◌, ℕ, ◌+◌, ◌<◌, ◌≤◌, true, false, List, [], ◌∷◌, ◌++◌, length, refl, sym, ap, ◌∙◌}
use Rattle.std.proofs.Common.{subst, append_assoc, length-append, arith}
use Rattle.std.specs.List.{flat_map, concat}
use Rattle.std.proofs.lemmas.List.{append-nil, length_push, nil_from_length}
use Rattle.std.proofs.lemmas.List.Concat.{flat_map-append}
use Rattle.std.proofs.lemmas.List.Elements.{All-nil, All-push}
use Rattle.rpc_record.specs.Marked.{fragment, IsContent, Marked, Stream}
use Rattle.rpc_record.specs.Reading.{Upto, IsWhole}

pub concat-append : (xs ys : List (List ℕ)) → concat (xs ++ ys) ≡ concat xs ++ concat ys
concat-append [] ys = refl
concat-append (x ∷ xs) ys = ap (λ rest. x ++ rest) (concat-append xs ys) ∙ sym (append_assoc x (concat xs) (concat ys))

pub Stream-push : (rs : List (List ℕ)) (whole front r : List ℕ) → Stream rs whole → Marked r front
    → Stream (rs ++ r ∷ []) (whole ++ front)
Stream-push [] whole front r s m = (front, ([], (m, refl, ap (λ w. w ++ front) s ∙ sym (append-nil front))))
Stream-push (x ∷ rs) whole front r (first, (rest, (marked, stream, e))) m = (
  first,
  (
    rest ++ front,
    (marked, Stream-push rs rest front r stream m, ap (λ w. w ++ front) e ∙ append_assoc first rest front),
  ),
)

pub Upto-none : (limit : ℕ) → Upto limit [] [] []
Upto-none limit = record {
  whole = [];
  firsts = [];
  stream = refl;
  within = λ k d h. absurd (omega arith);
  each = λ k d h. absurd (omega arith);
  fits = omega arith;
  joined = refl;
  spelled = refl;
}

-- one more fragment, which isn't the last
pub Upto-first : (limit : ℕ) (rs : List (List ℕ)) (content bytes part : List ℕ) → Upto limit rs content bytes
    → IsContent part → length (content ++ part) ≤ limit → Upto limit rs (content ++ part) (bytes ++ fragment false part)
Upto-first limit rs content bytes part u h fits = record {
  whole = u.whole;
  firsts = u.firsts ++ part ∷ [];
  stream = u.stream;
  within = u.within;
  each = All-push IsContent u.firsts part u.each h;
  fits = fits;
  joined = ap (λ k. k ++ part) u.joined ∙ ap (λ k. concat u.firsts ++ k) (sym (append-nil part))
      ∙ sym (concat-append u.firsts (part ∷ []));
  spelled = ap (λ b. b ++ fragment false part) u.spelled ∙ append_assoc u.whole _ _
      ∙ ap (λ b. u.whole ++ b)
      (ap (λ k. flat_map (fragment false) u.firsts ++ k) (sym (append-nil (fragment false part)))
      ∙ sym (flat_map-append (fragment false) u.firsts (part ∷ [])));
}

pub Upto-first_some : (limit : ℕ) (rs : List (List ℕ)) (content bytes part : List ℕ) (u : Upto limit rs content bytes)
    (h : IsContent part) (fits : length (content ++ part) ≤ limit)
    → 0 < length (Upto-first limit rs content bytes part u h fits).firsts + 0
unfolding Upto-first
Upto-first_some limit rs content bytes part u h fits = omega (arith, length_push u.firsts part)

-- the last fragment makes the record whole
pub Upto-last : (limit : ℕ) (rs : List (List ℕ)) (content bytes part : List ℕ) → Upto limit rs content bytes
    → IsContent part → length (content ++ part) ≤ limit
    → IsWhole limit (rs ++ (content ++ part) ∷ []) (bytes ++ fragment true part)
Upto-last limit rs content bytes part u h fits =
    let marked : Marked (content ++ part) (flat_map (fragment false) u.firsts ++ fragment true part) = record {
      firsts = u.firsts;
      last = part;
      each = u.each;
      each_last = h;
      content = ap (λ k. k ++ part) u.joined;
      spelled = refl;
    } in
    record {
      stream = subst (Stream (rs ++ (content ++ part) ∷ []))
          (sym (ap (λ b. b ++ fragment true part) u.spelled ∙ append_assoc u.whole _ _))
          (Stream-push rs u.whole _ (content ++ part) u.stream marked);
      within = All-push (λ r. length r ≤ limit) rs (content ++ part) u.within fits;
    }

-- two lists that begin each other are one
pub begin_each_other : (rs others more back : List (List ℕ)) → rs ≡ others ++ more → others ≡ rs ++ back → rs ≡ others
begin_each_other rs others more back e f =
    let short : length more ≡ 0 = omega (
      arith,
      ap length e,
      ap length f,
      length-append others more,
      length-append rs back,
    ) in
    e ∙ ap (λ k. others ++ k) (nil_from_length more short) ∙ append-nil others

-- no bytes, and one more record that is one fragment
pub whole_none : (limit : ℕ) → IsWhole limit [] []
whole_none limit = record { stream = refl; within = All-nil (λ r. length r ≤ limit) }

pub Marked-one : (r : List ℕ) → IsContent r → Marked r (fragment true r)
Marked-one r h = record {
  firsts = [];
  last = r;
  each = All-nil IsContent;
  each_last = h;
  content = refl;
  spelled = refl;
}

pub whole_push : (limit : ℕ) (rs : List (List ℕ)) (bytes r : List ℕ) → IsWhole limit rs bytes → IsContent r
    → length r ≤ limit → IsWhole limit (rs ++ r ∷ []) (bytes ++ fragment true r)
whole_push limit rs bytes r w h fits = record {
  stream = Stream-push rs bytes (fragment true r) r w.stream (Marked-one r h);
  within = All-push (λ x. length x ≤ limit) rs r w.within fits;
}
