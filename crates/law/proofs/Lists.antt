-- Laws of `tab`, `every` and `some`: lengths, elements, and what a test over a list says of each element.
-- Assumes nothing.
use Prim.Native.Nat.{ℕ, zero, suc, ◌+◌, ◌<◌}
use mathlib.Core.Path.{◌≡◌, refl, sym, ◌∙◌, ap, ap₂}
use mathlib.Core.Bool.{Bool, true, false, true≢false, ◌&&◌, ◌||◌}
use mathlib.Core.List.{List, [], ◌∷◌, ◌++◌, map}
use mathlib.Core.Logic.{⊎_elim}
use native.Mathlib.Nat.{not-suc-le-zero, le_of_suc-le-suc, add-zero, zero-add, add-suc, suc-add}
use native.Mathlib.Omega.{arith}
use lib.ListN.{length, get_or, take, drop}
use lib.Seq.{ext_get_or, slice, take-nil}
use Rattle.law.specs.Lists.{from, tab, every, some}
use Rattle.law.proofs.Bool.{and_intro, and_left, and_right, or_left, or_right, or_cases, or_none, or_assoc}

-- n elements from m on, as a part of the list that ends at m + n
pub take_drop {ℓ} : {A : Type ℓ} (n m : ℕ) (l : List A) → take n (drop m l) ≡ slice m (m + n) l
take_drop n zero l = rw zero-add
take_drop n (suc m) [] = rw (suc-add m n) (take-nil n)
take_drop n (suc m) (x ∷ l) = rw (suc-add m n) (take_drop n m l)

module _ {A : Type 0} (f : ℕ → A) where
  from_length : (i n : ℕ) → length (from f i n) ≡ n
  unfolding from
  from_length i zero = refl
  from_length i (suc n) = ap suc (from_length (suc i) n)

  from_at : (i n j : ℕ) (d : A) → j < n → get_or (from f i n) j d ≡ f (i + j)
  unfolding from
  from_at i zero j d l = absurd (not-suc-le-zero l)
  from_at i (suc n) zero d l = rw add-zero
  from_at i (suc n) (suc j) d l = rw (add-suc, ← (suc-add i j)) (from_at (suc i) n j d (le_of_suc-le-suc l))

  pub tab_length : (n : ℕ) → length (tab f n) ≡ n
  unfolding tab
  tab_length n = from_length 0 n

  pub tab_at : (n j : ℕ) (d : A) → j < n → get_or (tab f n) j d ≡ f j
  unfolding tab
  tab_at n j d l = from_at 0 n j d l ∙ ap f (zero-add j)

  from_more : (i n : ℕ) → from f i (suc n) ≡ from f i n ++ f (i + n) ∷ []
  unfolding from
  from_more i zero = rw add-zero refl
  from_more i (suc n) = rw (add-suc, ← (suc-add i n)) (ap (λ l. f i ∷ l) (from_more (suc i) n))

  -- one more
  pub tab_more : (n : ℕ) → tab f (suc n) ≡ tab f n ++ f n ∷ []
  unfolding tab
  tab_more n = from_more 0 n ∙ ap (λ k. from f 0 n ++ f k ∷ []) (zero-add n)

  -- a list with these elements is the tabulated one
  pub tab_is : (n : ℕ) (l : List A) (d : A) → length l ≡ n → ((i : ℕ) → i < n → get_or l i d ≡ f i) → l ≡ tab f n
  tab_is n l d e same =
      ext_get_or d l (tab f n) (e ∙ sym (tab_length n))
      (λ i h. let g : i < n = omega arith in same i g ∙ sym (tab_at n i d g))

  pub tab_list : (n : ℕ) (l : List A) (d : A) → n ≡ length l → ((i : ℕ) → i < length l → f i ≡ get_or l i d) → tab f n ≡ l
  tab_list n l d e same = sym (tab_is n l d (sym e) (λ i h. sym (same i (omega arith))))

-- the first is f 0, and behind it come those of the numbers from 1 on
pub tab_first : {A : Type 0} (f : ℕ → A) (n : ℕ) → tab f (suc n) ≡ f 0 ∷ tab (λ i. f (suc i)) n
unfolding tab from
tab_first f n = ap (λ l. f 0 ∷ l) (go n 0)
  where
    go : (n i : ℕ) → from f (suc i) n ≡ from (λ j. f (suc j)) i n
    go zero i = refl
    go (suc n) i = ap (λ l. f (suc i) ∷ l) (go n (suc i))

pub map_tab : {A B : Type 0} (g : A → B) (f : ℕ → A) (n : ℕ) → map g (tab f n) ≡ tab (λ i. g (f i)) n
unfolding tab from
map_tab g f n = go n 0
  where
    go : (n i : ℕ) → map g (from f i n) ≡ from (λ j. g (f j)) i n
    go zero i = refl
    go (suc n) i = ap (λ l. g (f i) ∷ l) (go n (suc i))

pub tab_same : {A : Type 0} (f g : ℕ → A) (n : ℕ) (d : A) → ((i : ℕ) → i < n → f i ≡ g i) → tab f n ≡ tab g n
tab_same f g n d same = tab_is g n (tab f n) d (tab_length f n) (λ i l. tab_at f n i d l ∙ same i l)

module _ {A : Type 0} (p : A → Bool) where
  pub every_intro : (l : List A) (d : A) → ((i : ℕ) → i < length l → p (get_or l i d) ≡ true) → every p l ≡ true
  unfolding every
  every_intro [] d h = refl
  every_intro (x ∷ l) d h =
      and_intro (p x) (every p l) (h 0 (omega arith)) (every_intro l d (λ i g. h (suc i) (omega arith)))

  pub every_elim : (l : List A) (d : A) → every p l ≡ true → (i : ℕ) → i < length l → p (get_or l i d) ≡ true
  unfolding every
  every_elim [] d e i g = absurd (not-suc-le-zero g)
  every_elim (x ∷ l) d e zero g = and_left (p x) (every p l) e
  every_elim (x ∷ l) d e (suc i) g = every_elim l d (and_right (p x) (every p l) e) i (le_of_suc-le-suc g)

  pub some_intro : (l : List A) (d : A) (i : ℕ) → i < length l → p (get_or l i d) ≡ true → some p l ≡ true
  unfolding some
  some_intro [] d i g e = absurd (not-suc-le-zero g)
  some_intro (x ∷ l) d zero g e = or_left (p x) (some p l) e
  some_intro (x ∷ l) d (suc i) g e = or_right (p x) (some p l) (some_intro l d i (le_of_suc-le-suc g) e)

  pub some_elim : (l : List A) (d : A) → some p l ≡ true → (i : ℕ) × (i < length l) × (p (get_or l i d) ≡ true)
  unfolding some
  some_elim [] d e = absurd (true≢false (sym e))
  some_elim (x ∷ l) d e =
      ⊎_elim
      (λ here. (0, omega arith, here))
      (λ later. let (i, g, h) = some_elim l d later in (suc i, omega arith, h))
      (or_cases (p x) (some p l) e)

  pub some_none : (l : List A) (d : A) → ((i : ℕ) → i < length l → p (get_or l i d) ≡ false) → some p l ≡ false
  unfolding some
  some_none [] d h = refl
  some_none (x ∷ l) d h = or_none (p x) (some p l) (h 0 (omega arith)) (some_none l d (λ i g. h (suc i) (omega arith)))

  -- two lists, one behind the other
  pub every_append : (l m : List A) → every p l ≡ true → every p m ≡ true → every p (l ++ m) ≡ true
  unfolding every
  every_append [] m e f = f
  every_append (x ∷ l) m e f =
      and_intro (p x) (every p (l ++ m)) (and_left (p x) (every p l) e) (every_append l m (and_right (p x) (every p l) e) f)

  pub some_append : (l m : List A) → some p (l ++ m) ≡ (some p l || some p m)
  unfolding some
  some_append [] m = refl
  some_append (x ∷ l) m = ap (λ b. p x || b) (some_append l m) ∙ or_assoc (p x) (some p l) (some p m)

-- Tests that agree on a list's elements.
module _ {A : Type 0} (p q : A → Bool) where
  pub every_same : (l : List A) (d : A) → ((i : ℕ) → i < length l → p (get_or l i d) ≡ q (get_or l i d)) → every p l ≡ every q l
  unfolding every
  every_same [] d h = refl
  every_same (x ∷ l) d h = ap₂ ◌&&◌ (h 0 (omega arith)) (every_same l d (λ i g. h (suc i) (omega arith)))

  pub some_same : (l : List A) (d : A) → ((i : ℕ) → i < length l → p (get_or l i d) ≡ q (get_or l i d)) → some p l ≡ some q l
  unfolding some
  some_same [] d h = refl
  some_same (x ∷ l) d h = ap₂ ◌||◌ (h 0 (omega arith)) (some_same l d (λ i g. h (suc i) (omega arith)))

-- a test that holds of no fewer elements
module _ {A : Type 0} (p q : A → Bool) (more : (x : A) → p x ≡ true → q x ≡ true) where
  pub every_mono : (l : List A) → every p l ≡ true → every q l ≡ true
  unfolding every
  every_mono [] e = refl
  every_mono (x ∷ l) e =
      and_intro (q x) (every q l) (more x (and_left (p x) (every p l) e)) (every_mono l (and_right (p x) (every p l) e))

  pub some_mono : (l : List A) → some p l ≡ true → some q l ≡ true
  unfolding some
  some_mono [] e = e
  some_mono (x ∷ l) e =
      ⊎_elim
      (λ here. or_left (q x) (some q l) (more x here))
      (λ later. or_right (q x) (some q l) (some_mono l later))
      (or_cases (p x) (some p l) e)
