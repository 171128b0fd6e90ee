-- Which device failed.
use Rattle.std.proofs.Common.{◌⊎◌, inl, inr}

pub which_device : {A B C D : Type 0} → (A × B) ⊎ (C ⊎ (D × B)) → A ⊎ (C ⊎ D)
which_device (inl h) = inl h.0
which_device (inr (inl h)) = inr (inl h)
which_device (inr (inr h)) = inr (inr h.0)

pub before_the_answer : {A B C D P : Type 0} → P → (A × (P → B)) ⊎ (C ⊎ (D × (P → B))) → B ⊎ C
before_the_answer plain (inl h) = inl (h.1 plain)
before_the_answer plain (inr (inl h)) = inr h
before_the_answer plain (inr (inr h)) = inl (h.1 plain)
