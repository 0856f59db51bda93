-- A list made of chunks of one width w: where its i-th chunk stands, its length, and that a list with these chunks is made of
-- them. Assumes nothing.
use Prim.Native.Nat.{ℕ, zero, suc, ◌+◌, ◌*◌, ◌<◌}
use mathlib.Core.Path.{◌≡◌, refl, sym, ◌∙◌, ap, ap₂}
use mathlib.Core.List.{List, [], ◌∷◌, ◌++◌, append_assoc, append-nil}
use mathlib.Core.Bool.{Bool, true}
use native.Mathlib.Nat.{not-suc-le-zero, le_of_suc-le-suc, add-zero, add-suc, suc-add, mul-zero, mul-suc, add_comm, zero-add, add_assoc}
use native.Mathlib.Omega.{arith}
use lib.ListN.{length, take, drop, get_or, replicate, length-append}
use lib.Seq.{take_at, drop-append-add, take-add, drop-drop, get_or-take, get_or-drop}
use Rattle.law.specs.Lists.{from, tab, flatten, every}
use Rattle.law.proofs.Lists.{every_append}

-- one chunk more, counted in front, where the lists are taken apart
mul_next : (w n : ℕ) → w * suc n ≡ w + w * n
mul_next w n = mul-suc w n ∙ add_comm (w * n) w

module _ {A : Type 0} where
  -- behind a front of a elements
  pub drop_add : (p q : List A) (a n : ℕ) → length p ≡ a → drop (a + n) (p ++ q) ≡ drop n q
  drop_add p q a n e = rw (← e) (drop-append-add p q n)

-- f i is the chunk i, each w long
module _ {A : Type 0} (w : ℕ) (f : ℕ → List A) (wide : (i : ℕ) → length (f i) ≡ w) where
  from_length : (n i : ℕ) → length (flatten (from f i n)) ≡ w * n
  unfolding from flatten
  from_length zero i = sym (mul-zero w)
  from_length (suc n) i = length-append (f i) (flatten (from f (suc i) n)) ∙ omega (arith, wide i, from_length n (suc i), mul-suc w n)

  from_chunk : (n i j : ℕ) (rest : List A) → j < n → take w (drop (w * j) (flatten (from f i n) ++ rest)) ≡ f (i + j)
  unfolding from flatten
  from_chunk zero i j rest l = absurd (not-suc-le-zero l)
  from_chunk (suc n) i zero rest l = rw (mul-zero, append_assoc, add-zero) (take_at (f i) (flatten (from f (suc i) n) ++ rest) w (wide i))
  from_chunk (suc n) i (suc j) rest l =
      rw (append_assoc, mul_next, drop_add (f i) (flatten (from f (suc i) n) ++ rest) w (w * j) (wide i), add-suc, ← (suc-add i j))
      (from_chunk n (suc i) j rest (le_of_suc-le-suc l))

  pub chunks_length : (n : ℕ) → length (flatten (tab f n)) ≡ w * n
  unfolding tab
  chunks_length n = from_length n 0

  -- the chunk i of a list that has these chunks behind the first a elements
  pub chunk_at : (n i a : ℕ) (front rest : List A) → length front ≡ a → i < n
      → take w (drop (a + w * i) (front ++ (flatten (tab f n) ++ rest))) ≡ f i
  unfolding tab
  chunk_at n i a front rest e l =
      rw (drop_add front (flatten (from f 0 n) ++ rest) a (w * i) e) (from_chunk n 0 i rest l ∙ ap f (zero-add i))

  -- and its element j
  pub chunk_element : (n i j : ℕ) (d : A) → i < n → j < w → get_or (flatten (tab f n)) (w * i + j) d ≡ get_or (f i) j d
  chunk_element n i j d l h =
      let whole = flatten (tab f n) in
      let here : take w (drop (w * i) whole) ≡ f i = rw (zero-add, append-nil) at (chunk_at n i 0 [] [] refl l) in
      sym (get_or-drop (w * i) whole j d) ∙ sym (get_or-take w (drop (w * i) whole) j d h) ∙ ap (λ (c : List A). get_or c j d) here

-- What is so of every element of every chunk.
pub every_chunk : {A : Type 0} (p : A → Bool) (f : ℕ → List A) → ((i : ℕ) → every p (f i) ≡ true) → (n : ℕ) → every p (flatten (tab f n)) ≡ true
unfolding tab from flatten every
every_chunk p f each n = go n 0
  where
    go : (n i : ℕ) → every p (flatten (from f i n)) ≡ true
    go zero i = refl
    go (suc n) i = every_append p (f i) (flatten (from f (suc i) n)) (each i) (go n (suc i))

-- One element, so many times.
pub chunks_replicate : {A : Type 0} (a : A) (n : ℕ) → flatten (tab (λ i. a ∷ []) n) ≡ replicate n a
unfolding tab from flatten
chunks_replicate a n = go n 0
  where
    go : (n i : ℕ) → flatten (from (λ j. a ∷ []) i n) ≡ replicate n a
    go zero i = refl
    go (suc n) i = ap (λ l. a ∷ l) (go n (suc i))

-- and a list that has the chunk f i at each place i is made of them there
module _ {A : Type 0} (w : ℕ) (f : ℕ → List A) (t : List A) where
  from_chunks : (n i a : ℕ) → ((j : ℕ) → j < n → take w (drop (a + w * j) t) ≡ f (i + j))
      → take (w * n) (drop a t) ≡ flatten (from f i n)
  unfolding from flatten
  from_chunks zero i a has = rw mul-zero
  from_chunks (suc n) i a has =
      let here = simp (mul-zero, add-zero) at (has 0 (omega arith)) in
      let later =
      from_chunks n (suc i) (a + w)
      (λ j l. rw (add_assoc a w (w * j), ← (mul_next w j), suc-add, ← (add-suc i j)) (has (suc j) (omega arith))) in
      rw (mul_next, take-add, drop-drop) (ap₂ ◌++◌ here later)

  pub chunks_flatten : (n a : ℕ) → ((i : ℕ) → i < n → take w (drop (a + w * i) t) ≡ f i) → take (w * n) (drop a t) ≡ flatten (tab f n)
  unfolding tab
  chunks_flatten n a has = from_chunks n 0 a (λ j l. has j l ∙ ap f (sym (zero-add j)))
