-- Tests as equations of a Bool: by cases, and through `not`, `&&`, `||`, `cond` and `then_some`. Assumes nothing.
use mathlib.Core.Path.{◌≡◌, refl, sym, subst, ◌∙◌}
use mathlib.Core.Bool.{Bool, true, false, not, cond, ◌&&◌, ◌||◌, true≢false}
use mathlib.Core.Logic.{◌⊎◌, inl, inr}
use Rattle.std.specs.Bool.{then_some}
use Rattle.std.proofs.Common.{Option, Some, None}

-- by cases on a test, with its outcome
pub split {ℓ} : {A : Type ℓ} (b : Bool) → (b ≡ true → A) → (b ≡ false → A) → A
split true t f = t refl
split false t f = f refl

pub clash {ℓ} : {A : Type ℓ} (b : Bool) → b ≡ true → b ≡ false → A
clash b t f = absurd (true≢false (sym t ∙ f))

pub contrapose : (a b : Bool) → (a ≡ true → b ≡ true) → b ≡ false → a ≡ false
contrapose true b h f = sym (h refl) ∙ f
contrapose false b h f = refl

pub not_is_true : (b : Bool) → b ≡ false → not b ≡ true
not_is_true true e = sym e
not_is_true false e = refl

pub not_is_false : (b : Bool) → b ≡ true → not b ≡ false
not_is_false true e = refl
not_is_false false e = sym e

pub not_not : (b : Bool) → not (not b) ≡ b
not_not true = refl
not_not false = refl

pub and_intro : (a b : Bool) → a ≡ true → b ≡ true → (a && b) ≡ true
and_intro true b p q = q
and_intro false b p q = p

pub and_left : (a b : Bool) → (a && b) ≡ true → a ≡ true
and_left true b e = refl
and_left false b e = e

pub and_right : (a b : Bool) → (a && b) ≡ true → b ≡ true
and_right true b e = e
and_right false b e = absurd (true≢false (sym e))

pub and_four : (a b c d : Bool) → (a && b && c && d) ≡ true → (a ≡ true) × (b ≡ true) × (c ≡ true) × (d ≡ true)
and_four true true true d e = (refl, refl, refl, e)
and_four true true false d e = absurd (true≢false (sym e))
and_four true false c d e = absurd (true≢false (sym e))
and_four false b c d e = absurd (true≢false (sym e))

pub and_no_left : (a b : Bool) → a ≡ false → (a && b) ≡ false
and_no_left true b e = absurd (true≢false e)
and_no_left false b e = refl

pub and_no_right : (a b : Bool) → b ≡ false → (a && b) ≡ false
and_no_right true b e = e
and_no_right false b e = refl

pub or_left : (a b : Bool) → a ≡ true → (a || b) ≡ true
or_left true b e = refl
or_left false b e = absurd (true≢false (sym e))

pub or_right : (a b : Bool) → b ≡ true → (a || b) ≡ true
or_right true b e = refl
or_right false b e = e

pub or_none : (a b : Bool) → a ≡ false → b ≡ false → (a || b) ≡ false
or_none true b p q = p
or_none false b p q = q

pub or_cases : (a b : Bool) → (a || b) ≡ true → (a ≡ true) ⊎ (b ≡ true)
or_cases true b e = inl refl
or_cases false b e = inr e

pub and_mono : (a b c : Bool) → (b ≡ true → c ≡ true) → (a && b) ≡ true → (a && c) ≡ true
and_mono true b c h e = h e
and_mono false b c h e = e

pub or_mono : (a b c : Bool) → (b ≡ true → c ≡ true) → (a || b) ≡ true → (a || c) ≡ true
or_mono true b c h e = refl
or_mono false b c h e = h e

pub or_assoc : (a b c : Bool) → (a || (b || c)) ≡ ((a || b) || c)
or_assoc true b c = refl
or_assoc false b c = refl

pub or_true : (b : Bool) → (b || true) ≡ true
or_true true = refl
or_true false = refl

pub or_false : (b : Bool) → (b || false) ≡ b
or_false true = refl
or_false false = refl

-- two tests that each imply the other are the same
pub same_test : (a b : Bool) → (a ≡ true → b ≡ true) → (b ≡ true → a ≡ true) → a ≡ b
same_test true true f g = refl
same_test true false f g = sym (f refl)
same_test false true f g = g refl
same_test false false f g = refl

module _ {A : Type 0} where
  pub cond_true : (b : Bool) (x y : A) → b ≡ true → cond b x y ≡ x
  cond_true true x y e = refl
  cond_true false x y e = absurd (true≢false (sym e))

  pub cond_false : (b : Bool) (x y : A) → b ≡ false → cond b x y ≡ y
  cond_false true x y e = absurd (true≢false e)
  cond_false false x y e = refl

  -- which of the two it is, told by the outcome
  pub cond_is_first : (b : Bool) (x y z : A) → (y ≡ z → ⊥) → cond b x y ≡ z → (b ≡ true) × (x ≡ z)
  cond_is_first true x y z other e = (refl, e)
  cond_is_first false x y z other e = absurd (other e)

  pub cond_is_second : (b : Bool) (x y z : A) → (x ≡ z → ⊥) → cond b x y ≡ z → b ≡ false
  cond_is_second true x y z other e = absurd (other e)
  cond_is_second false x y z other e = refl

-- by cases on the test of a `then_some`
pub then_some_cases :
    {A : Type 0} (b : Bool) (x : A) (r : Option A) (P : Option A → Type 0) → r ≡ then_some b x → (b ≡ true → P (Some x)) → (b ≡ false → P None) → P r
then_some_cases true x r P e t f = subst P (sym e) (t refl)
then_some_cases false x r P e t f = subst P (sym e) (f refl)
