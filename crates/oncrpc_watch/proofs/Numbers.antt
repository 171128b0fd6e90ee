-- The numbers of the calls that wait, each once.
use Rattle.std.proofs.Common.{◌≡◌, ℕ, ◌+◌, List, [], ◌∷◌, ◌++◌, length, Option, None, Some, refl, sym, ◌∙◌}
use Rattle.std.proofs.Common.{inl, inr, arith, subst, suc}
use Rattle.std.proofs.lemmas.Bool.{false≢true}
use Rattle.std.specs.Prelude.{◌≢◌, ◌↔◌, ◌⊎◌, AllPairs, Contains, IsSome, is_some}
use Rattle.std.specs.BTreeMap.{BTreeMap, IsOrdered, btree_map_len, get, keys}
use Rattle.std.specs.List.Sorted.{IsStrictlySortedBy}
use Rattle.std.specs.Option.{option_or}
use Rattle.std.specs.Ordering.{nat_cmp}
use Rattle.std.proofs.lemmas.Cmp.{nat_cmp_total}
use Rattle.std.proofs.lemmas.List.{length-append}
use Rattle.std.proofs.lemmas.List.Elements.{All-append, All-contains_itself, All-weaker, Contains-append_cases}
use Rattle.std.proofs.lemmas.List.Elements.{Contains-append_left, Contains-append_right, Contains-push}
use Rattle.std.proofs.lemmas.List.Kept.{AllPairs-cons}
use Rattle.std.proofs.lemmas.Map.Entries.{length-keys_of}
use Rattle.std.proofs.lemmas.Map.Keys.{below_from_sorted, sorted_tail}
use Rattle.std.proofs.lemmas.Map.Lookups.{exact_unsigned}
use Rattle.std.proofs.lemmas.Map.Views.{btree_map_contains_key_iff}
use Rattle.oncrpc_messages.specs.declared.asked.Asked.{Asked}
use Rattle.oncrpc_watch.specs.declared.table.CallTable.{CallTable}
use Rattle.oncrpc_watch.specs.Apart.{AreApart}
use Rattle.oncrpc_watch.specs.Waiting.{HasCalls, key, waiting}

-- ---- lists of numbers

-- what stands behind the first of numbers that ascend is not it
not_first : (x : ℕ) (xs : List ℕ) (y : ℕ) → IsStrictlySortedBy nat_cmp (x ∷ xs) → Contains xs y → x ≢ y
not_first x xs y s (k, few, is) e =
    omega (arith, below_from_sorted (x ∷ xs) 0 (suc k) y s (omega arith) (omega (arith, few)), e, is)

-- numbers that ascend, and others of which none is among them
pub apart_joined : (xs ys : List ℕ) → IsStrictlySortedBy nat_cmp xs → AllPairs (λ x y. x ≢ y) ys
    → ((k : ℕ) → Contains xs k → Contains ys k → ⊥) → AllPairs (λ x y. x ≢ y) (xs ++ ys)
apart_joined [] ys s p none = p
apart_joined (x ∷ xs) ys s p none = AllPairs-cons (λ a b. a ≢ b) x (xs ++ ys)
    (All-append (λ b. x ≢ b) xs ys
    (All-weaker (Contains xs) (λ b. x ≢ b) (λ b h. not_first x xs b s h) xs (All-contains_itself xs))
    (All-weaker (Contains ys) (λ b. x ≢ b) (λ b h. not_among b h) ys (All-contains_itself ys)))
    (apart_joined xs ys (sorted_tail nat_cmp x xs s) p
    (λ k a b. none k (Contains-append_right (x ∷ []) xs k a) b))
  where
    not_among : (b : ℕ) → Contains ys b → x ≢ b
    not_among b h e = none x (Contains-append_left (x ∷ []) xs x (Contains-push [] x))
        (subst (λ k. Contains ys k) (sym e) h)

-- ---- of two maps

found_left : (a b : Option Asked) → IsSome a → IsSome (option_or a b)
found_left None b h = absurd (false≢true h)
found_left (Some x) b h = refl

found_right : (a b : Option Asked) → IsSome b → IsSome (option_or a b)
found_right None b h = h
found_right (Some x) b h = refl

found_one : (a b : Option Asked) → IsSome (option_or a b) → IsSome a ⊎ IsSome b
found_one None b h = inr h
found_one (Some x) b h = inl refl

module _ (t : CallTable) where
  abbrev numbers : List ℕ
  numbers = keys t.newer ++ keys t.older

  is_kept : (k : ℕ) → Contains numbers k → IsSome (option_or (get nat_cmp t.newer k) (get nat_cmp t.older k))
  is_kept k h = elim (Contains-append_cases (keys t.newer) (keys t.older) k h) [
    | inl a ↦ found_left (get nat_cmp t.newer k) (get nat_cmp t.older k)
        ((btree_map_contains_key_iff nat_cmp_total exact_unsigned t.newer k).1 a)
    | inr b ↦ found_right (get nat_cmp t.newer k) (get nat_cmp t.older k)
        ((btree_map_contains_key_iff nat_cmp_total exact_unsigned t.older k).1 b)
  ]

  is_number : (k : ℕ) → IsSome (option_or (get nat_cmp t.newer k) (get nat_cmp t.older k)) → Contains numbers k
  is_number k h = elim (found_one (get nat_cmp t.newer k) (get nat_cmp t.older k) h) [
    | inl a ↦ Contains-append_left (keys t.newer) (keys t.older) k
        ((btree_map_contains_key_iff nat_cmp_total exact_unsigned t.newer k).0 a)
    | inr b ↦ Contains-append_right (keys t.newer) (keys t.older) k
        ((btree_map_contains_key_iff nat_cmp_total exact_unsigned t.older k).0 b)
  ]

  pub has_calls : (newer older : ℕ) → newer ≡ btree_map_len t.newer → older ≡ btree_map_len t.older
      → IsOrdered nat_cmp t.newer → IsOrdered nat_cmp t.older → AreApart t.newer t.older → HasCalls t (newer + older)
  has_calls newer older is_newer is_older n o apart = record {
    numbers = numbers;
    apart = apart_joined (keys t.newer) (keys t.older) n
        (λ i j d less few e. omega (arith, below_from_sorted (keys t.older) i j d o less few, e))
        (λ k a b. no_both k ((btree_map_contains_key_iff nat_cmp_total exact_unsigned t.newer k).1 a)
        ((btree_map_contains_key_iff nat_cmp_total exact_unsigned t.older k).1 b));
    each = λ way xid few. (is_kept (key way xid), is_number (key way xid));
    count_is =
        let both = length-append (keys t.newer) (keys t.older) in
        let of_newer = length-keys_of t.newer.entries in
        let of_older = length-keys_of t.older.entries in
        omega (arith, both, of_newer, of_older, is_newer, is_older);
  }
    where
      no_both : (k : ℕ) → IsSome (get nat_cmp t.newer k) → IsSome (get nat_cmp t.older k) → ⊥
      no_both k a b = false≢true (sym (apart k a) ∙ b)
