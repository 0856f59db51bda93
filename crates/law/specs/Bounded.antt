-- Searching and counting over the numbers below n. Assumes nothing.
use Rattle.std.specs.Prelude.{ℕ, zero, suc, ◌+◌, ◌<◌, ◌≡◌, Bool, true, cond, not, ltb, eqb}

-- the smallest number below n that passes p, and n where none does
unfoldable pub first : (ℕ → Bool) → ℕ → ℕ
first p zero = zero
first p (suc n) = let i = first p n in cond (ltb i n) i (cond (p n) n (suc n))

-- p passes at each number below n
unfoldable pub all : (ℕ → Bool) → ℕ → Bool
all p n = eqb (first (λ i. not (p i)) n) n

-- p passes at some number below n
unfoldable pub any : (ℕ → Bool) → ℕ → Bool
any p n = ltb (first p n) n

-- how many numbers below n pass p
unfoldable pub count : (ℕ → Bool) → ℕ → ℕ
count p zero = zero
count p (suc n) = count p n + cond (p n) 1 0

-- each number below n that passes p passes q
abbrev pub Inside : ℕ → (ℕ → Bool) → (ℕ → Bool) → Type 0
Inside n p q = (i : ℕ) → i < n → p i ≡ true → q i ≡ true
