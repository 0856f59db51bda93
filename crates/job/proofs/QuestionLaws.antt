-- What a list of questions comes to: question by question, one list behind another, and from the number of the first no. Every call
-- is answered by these laws. Assumes nothing.
use Prim.Native.Nat.{ℕ, ◌<◌}
use mathlib.Core.Path.{◌≡◌, refl, sym, ◌∙◌, ap}
use mathlib.Core.Bool.{Bool, true, false}
use mathlib.Core.List.{List, [], ◌∷◌, ◌++◌}
use mathlib.Core.Option.{Option, Option-elim}
use mathlib.Core.Option as opt
use native.Mathlib.Omega.{arith}
use borrow.Author.Tests.{eqb-true, ltb-true}
use lib.Dec.{eqb, ltb}
use Rattle.law.specs.Lists.{every}
use Rattle.law.proofs.Bool.{split, cond_true, cond_false, and_intro, and_left, and_right}
use Rattle.job.specs.Answer.{Answer, accepted, refused}
use Rattle.job.specs.Question.{Question, is_own, all_yes, refusal, no_number, answered, afterwards}

pub refused_not_accepted : (own : List ℕ) (number line others : ℕ) → accepted own ≡ refused number line others → ⊥
refused_not_accepted own number line others e = let z : ◌≡◌ {A = ℕ} 0 1 = cc in omega arith

pub some_not_none : (q : Question) → opt.some q ≡ opt.none → ⊥
some_not_none q e = let z : ◌≡◌ {A = ℕ} 0 1 = cc in omega arith

-- By the first no, or that there is none.
pub by_refusal {ℓ} : {A : Type ℓ} (qs : List Question) → (refusal qs ≡ opt.none → A) → ((q : Question) → refusal qs ≡ opt.some q → A) → A
by_refusal {A} qs accepts refuses = by (refusal qs) refl
  where
    by : (r : Option Question) → refusal qs ≡ r → A
    by opt.none e = accepts e
    by (opt.some q) e = refuses q e

-- One question and then the others.
module _ (q : Question) (qs : List Question) where
  pub refusal_yes : q.test ≡ true → refusal (q ∷ qs) ≡ refusal qs
  unfolding refusal
  refusal_yes e = cond_true q.test (refusal qs) (opt.some q) e

  pub refusal_no : q.test ≡ false → refusal (q ∷ qs) ≡ opt.some q
  unfolding refusal
  refusal_no e = cond_false q.test (refusal qs) (opt.some q) e

  pub no_number_yes : q.test ≡ true → no_number (q ∷ qs) ≡ no_number qs
  unfolding no_number
  no_number_yes e = rw (refusal_yes e)

  pub no_number_no : q.test ≡ false → no_number (q ∷ qs) ≡ q.number
  unfolding no_number Option-elim
  no_number_no e = rw (refusal_no e)

  module _ (others : ℕ) (own : List ℕ) where
    pub answered_yes : q.test ≡ true → answered (q ∷ qs) others own ≡ answered qs others own
    unfolding answered
    answered_yes e = rw (refusal_yes e)

    pub answered_no : q.test ≡ false → answered (q ∷ qs) others own ≡ refused q.number q.line others
    unfolding answered Option-elim
    answered_no e = rw (refusal_no e)

-- None is answered no where every one is answered yes.
pub none_refused : (qs : List Question) → all_yes qs ≡ true → refusal qs ≡ opt.none
unfolding all_yes every refusal
none_refused [] e = refl
none_refused (q ∷ qs) e =
    refusal_yes q qs (and_left q.test (all_yes qs) e) ∙ none_refused qs (and_right q.test (all_yes qs) e)

pub all_answered_yes : (qs : List Question) → refusal qs ≡ opt.none → all_yes qs ≡ true
unfolding all_yes every refusal
all_answered_yes [] e = refl
all_answered_yes (q ∷ qs) e =
    split q.test
    (λ yes. and_intro q.test (all_yes qs) yes (all_answered_yes qs (sym (refusal_yes q qs yes) ∙ e)))
    (λ no. absurd (some_not_none q (sym (refusal_no q qs no) ∙ e)))

-- By its first no, or where there is none.
module _ (qs : List Question) (others : ℕ) (own : List ℕ) where
  pub answered_none : refusal qs ≡ opt.none → answered qs others own ≡ accepted own
  unfolding answered Option-elim
  answered_none e = rw e

  pub answered_some : (q : Question) → refusal qs ≡ opt.some q → answered qs others own ≡ refused q.number q.line others
  unfolding answered Option-elim
  answered_some q e = rw e

  pub accepted_none : (told : List ℕ) → accepted told ≡ answered qs others own → refusal qs ≡ opt.none
  accepted_none told is =
      by_refusal qs (λ e. e) (λ q e. absurd (refused_not_accepted told _ _ _ (is ∙ answered_some q e)))

  pub accepted_own : (told : List ℕ) → accepted told ≡ answered qs others own → told ≡ own
  accepted_own told is = let same = is ∙ answered_none (accepted_none told is) in cc

module _ {A : Type 0} (qs : List Question) (before made : A) where
  pub afterwards_none : refusal qs ≡ opt.none → afterwards qs before made ≡ made
  unfolding afterwards Option-elim
  afterwards_none e = rw e

  pub afterwards_some : (q : Question) → refusal qs ≡ opt.some q → afterwards qs before made ≡ before
  unfolding afterwards Option-elim
  afterwards_some q e = rw e

  -- "A refusal: .. lent bytes stay."
  pub refused_stays :
      (others : ℕ) (own : List ℕ) (number line n : ℕ) → refused number line n ≡ answered qs others own → afterwards qs before made ≡ before
  refused_stays others own number line n is =
      by_refusal qs
      (λ e. absurd (refused_not_accepted own _ _ _ (sym (is ∙ answered_none qs others own e))))
      (λ q e. afterwards_some q e)

-- One list behind another: the first one's first no, or else the second one's.
refusal_append : (ps qs : List Question) → refusal (ps ++ qs) ≡ Option-elim (refusal ps) (refusal qs) opt.some
unfolding refusal Option-elim
refusal_append [] qs = refl
refusal_append (p ∷ ps) qs =
    split p.test
    (λ yes. refusal_yes p (ps ++ qs) yes ∙ refusal_append ps qs ∙ sym (ap (λ r. Option-elim r (refusal qs) opt.some) (refusal_yes p ps yes)))
    (λ no. refusal_no p (ps ++ qs) no ∙ sym (ap (λ r. Option-elim r (refusal qs) opt.some) (refusal_no p ps no)))

module _ (ps qs : List Question) where
  pub refusal_first : (q : Question) → refusal ps ≡ opt.some q → refusal (ps ++ qs) ≡ opt.some q
  unfolding Option-elim
  refusal_first q e = rw e at (refusal_append ps qs)

  pub refusal_later : refusal ps ≡ opt.none → refusal (ps ++ qs) ≡ refusal qs
  unfolding Option-elim
  refusal_later e = rw e at (refusal_append ps qs)

  pub refusal_before : refusal (ps ++ qs) ≡ opt.none → refusal ps ≡ opt.none
  refusal_before none = by_refusal ps (λ e. e) (λ q e. absurd (some_not_none q (sym (refusal_first q e) ∙ none)))

  pub refusal_last : refusal (ps ++ qs) ≡ opt.none → refusal qs ≡ opt.none
  refusal_last none = sym (refusal_later (refusal_before none)) ∙ none

  pub answered_behind : (others : ℕ) (own : List ℕ) → all_yes ps ≡ true → answered (ps ++ qs) others own ≡ answered qs others own
  unfolding answered
  answered_behind others own e = rw (refusal_later (none_refused ps e))

-- Two lists behind the same one come to the same if they do where that one has no no.
pub refusal_behind : (ps qs rs : List Question) → (refusal ps ≡ opt.none → refusal qs ≡ refusal rs) → refusal (ps ++ qs) ≡ refusal (ps ++ rs)
refusal_behind ps qs rs same =
    by_refusal ps
    (λ e. refusal_later ps qs e ∙ same e ∙ sym (refusal_later ps rs e))
    (λ q e. refusal_first ps qs q e ∙ sym (refusal_first ps rs q e))

-- The first no is one of the questions.
pub refusal_has : (p : Question → Bool) (qs : List Question) (q : Question) → every p qs ≡ true → refusal qs ≡ opt.some q → p q ≡ true
unfolding every refusal
refusal_has p [] q all is = absurd (some_not_none q (sym is))
refusal_has p (r ∷ qs) q all is =
    split r.test
    (λ yes. refusal_has p qs q (and_right (p r) (every p qs) all) (sym (refusal_yes r qs yes) ∙ is))
    (λ no. let same : r ≡ q = cc (refusal_no r qs no) in rw (← same) (and_left (p r) (every p qs) all))

-- A call's own questions, by the number of the first no.
module _ (qs : List Question) (all : every is_own qs ≡ true) where
  own_first : (q : Question) → refusal qs ≡ opt.some q → (0 < q.number) × (q.line ≡ 0)
  unfolding is_own
  own_first q e =
      let is = refusal_has is_own qs q all e in (
        ltb-true 0 q.number (and_left (ltb 0 q.number) (eqb q.line 0) is),
        eqb-true q.line 0 (and_right (ltb 0 q.number) (eqb q.line 0) is),
      )

  zero_none : no_number qs ≡ 0 → refusal qs ≡ opt.none
  unfolding no_number Option-elim
  zero_none z =
      by_refusal qs (λ e. e)
      (λ q e.
      let (some, none) = own_first q e in
      let is : q.number ≡ 0 = rw e at z in
      absurd (omega arith))

-- The number of the first no to one list behind another.
module _ (ps qs : List Question) where
  pub no_number_first : (no_number ps ≡ 0 → ⊥) → no_number (ps ++ qs) ≡ no_number ps
  unfolding no_number Option-elim
  no_number_first some =
      by_refusal ps
      (λ e. absurd (some (rw e)))
      (λ q e. rw (refusal_first ps qs q e, e))

  pub no_number_later : every is_own ps ≡ true → no_number ps ≡ 0 → no_number (ps ++ qs) ≡ no_number qs
  unfolding no_number
  no_number_later all z = rw (refusal_later ps qs (zero_none ps all z))

-- A call that puts the questions ps and then its own, qs; it has so many other numbers, and was lent `before`.
module _ {A : Type 0} (ps qs : List Question) (others : ℕ) (told : List ℕ) (before made : A) where
  -- what it answers, and what it leaves
  abbrev pub ComesTo : Answer → A → Type 0
  ComesTo a left = (a ≡ answered (ps ++ qs) others told) × (left ≡ afterwards (ps ++ qs) before made)

  comes_refused : (q : Question) → refusal (ps ++ qs) ≡ opt.some q → ComesTo (refused q.number q.line others) before
  comes_refused q e = (sym (answered_some (ps ++ qs) others told q e), sym (afterwards_some (ps ++ qs) before made q e))

  -- the first questions alone are answered by a refusal
  pub first_refused :
      (n : ℕ) (own : List ℕ) (number line m : ℕ) → refused number line m ≡ answered ps n own → ComesTo (refused number line others) before
  first_refused n own number line m is = by_refusal ps never first
    where
      never : refusal ps ≡ opt.none → ComesTo (refused number line others) before
      never e = absurd (refused_not_accepted own _ _ _ (sym (is ∙ answered_none ps n own e)))

      first : (q : Question) → refusal ps ≡ opt.some q → ComesTo (refused number line others) before
      first q e =
          let same = is ∙ answered_some ps n own q e in
          let number_is : number ≡ q.number = cc in
          let line_is : line ≡ q.line = cc in
          rw (number_is, line_is) (comes_refused q (refusal_first ps qs q e))

  -- they are answered yes, and r is the number of the first no to the call's own
  module _ (none : refusal ps ≡ opt.none) (all : every is_own qs ≡ true) (r : ℕ) (asked : r ≡ no_number qs) where
    pub later_accepted : r ≡ 0 → ComesTo (accepted told) made
    later_accepted z =
        let e = refusal_later ps qs none ∙ zero_none qs all (sym asked ∙ z) in
        (sym (answered_none (ps ++ qs) others told e), sym (afterwards_none (ps ++ qs) before made e))

    pub later_refused : (r ≡ 0 → ⊥) → ComesTo (refused r 0 others) before
    unfolding no_number Option-elim
    later_refused some = by_refusal qs (λ e. absurd (some (rw e at asked))) first
      where
        first : (q : Question) → refusal qs ≡ opt.some q → ComesTo (refused r 0 others) before
        first q e =
            let number_is : r ≡ q.number = rw e at asked in
            rw (number_is, ← (own_first qs all q e).1) (comes_refused q (refusal_later ps qs none ∙ e))
