-- An image's space is well made: the struct's fact holds a proof that is truncated, since that a state has an edge out has one for each such
-- edge. The first such edge is found by a search, and every other part of the fact has one proof at most. Assumes nothing.
use Prim.Native.Nat.{ℕ, zero, suc, ◌≤◌}
use mathlib.Core.Path.{◌≡◌, refl, sym, ◌∙◌, ap}
use mathlib.Core.Bool.{Bool, true, ◌&&◌, ◌||◌, Bool-set}
use mathlib.Core.List.{List, [], is_set}
use lib.ListN.{length, get_or}
use mathlib.Core.Logic.{∥∥₁_elim, inl, inr, ⊎_elim}
use native.Mathlib.Bridge.{le_prop}
use native.Mathlib.Nat.{ℕ_set}
use borrow.Author.Tests.{eq-eqb, eqb-true, lt-ltb, ltb-true}
use lib.Dec.{eqb, ltb}
use Rattle.law.specs.Bounded.{any, first}
use Rattle.law.proofs.Bool.{and_intro, and_left, and_right, or_left, or_right, or_cases}
use Rattle.law.proofs.Bounded.{any_intro, any_found}
use Rattle.job.specs.Job.{Job, Edge, size, subformula_count, owner, subformula}
use Rattle.job.specs.Written.{IsJob, Between, Less, label, edge_of, edge_count}
use Rattle.job.specs.Rule.{InRange, AsksSmaller, rule_of}
use Rattle.job.specs.declared.rule.Condition.{Condition}
use Rattle.job.specs.declared.rule.Condition.TheVariants.{Always, Holds, Fails}
use Rattle.job.specs.declared.rule.Rule.{Rule}
use Rattle.job.specs.declared.rule.Rule.TheVariants.{Atom, Not, And, Next, Sets}
use Rattle.image.specs.Lines.{lines_job}
use Rattle.image.specs.Image.{IsImage, edge_from, edge_to, first_edge, last_into, place_of, fragment}
use Rattle.image.specs.declared.place.Place.{Place}
use Rattle.image.specs.declared.place.Place.TheVariants.{Outside, Border, Inner}
use Rattle.image.specs.declared.space.Space.{Space}
use Rattle.image.specs.declared.image.Image.{Image}

abbrev less : Edge → Edge → Bool
less d e = ltb d.from e.from || (eqb d.from e.from && ltb d.to e.to)

less_test : (d e : Edge) → Less d e → less d e ≡ true
unfolding Less
less_test d e l =
    let up = ltb d.from e.from in
    let same = eqb d.from e.from && ltb d.to e.to in
    ⊎_elim (λ h. or_left up same (lt-ltb d.from e.from h))
    (λ h. or_right up same (and_intro (eqb d.from e.from) (ltb d.to e.to) (eq-eqb d.from e.from h.0) (lt-ltb d.to e.to h.1))) l

test_less : (d e : Edge) → less d e ≡ true → Less d e
unfolding Less
test_less d e t =
    let up = ltb d.from e.from in
    let same = eqb d.from e.from && ltb d.to e.to in
    ⊎_elim (λ h. inl (ltb-true d.from e.from h))
    (λ h. inr (eqb-true d.from e.from (and_left (eqb d.from e.from) (ltb d.to e.to) h), ltb-true d.to e.to (and_right (eqb d.from e.from) (ltb d.to e.to) h)))
    (or_cases up same t)

module _ {A : Type 0} (t : ∥ A ∥₁) where
  below : (a b : ℕ) → (A → a ≤ b) → a ≤ b
  below a b f = ∥∥₁_elim t le_prop f

  same_number : (a b : ℕ) → (A → a ≡ b) → a ≡ b
  same_number a b f = ∥∥₁_elim t (ℕ_set a b) f

  same_numbers : (a b : List ℕ) → (A → a ≡ b) → a ≡ b
  same_numbers a b f = ∥∥₁_elim t (is_set ℕ_set a b) f

  same_test : (a b : Bool) → (A → a ≡ b) → a ≡ b
  same_test a b f = ∥∥₁_elim t (Bool-set a b) f

  between : (low high n : ℕ) → (A → Between low high n) → Between low high n
  between low high n f = record { above = below low n (λ a. (f a).above); below = below n high (λ a. (f a).below) }

  asked : (k : ℕ) (c : Condition) → (A → AsksSmaller k c) → AsksSmaller k c
  asked k Always f = tt
  asked k (Holds a) f = below (suc a) k f
  asked k (Fails a) f = below (suc a) k f

  in_range : (k : ℕ) (r : Rule) → (A → InRange k r) → InRange k r
  unfolding InRange
  in_range k (Atom j) f = below j 15 f
  in_range k (Not a) f = below (suc a) k f
  in_range k (And a b) f = (below (suc a) k (λ x. (f x).0), below (suc b) k (λ x. (f x).1))
  in_range k (Next all a) f = below (suc a) k f
  in_range k (Sets g) f = (asked k g.start (λ x. (f x).0), asked k g.grow (λ x. (f x).1), below g.value 1 (λ x. (f x).2))

  is_job_again : (J : Job) → (A → IsJob J) → IsJob J
  is_job_again J f =
      record {
        states = between 1 256 (size J) (λ x. (f x).states);
        edges = between 1 2048 (edge_count J) (λ x. (f x).edges);
        subformulas = between 1 32 (subformula_count J) (λ x. (f x).subformulas);
        nodes = between 1 8 J.nodes (λ x. (f x).nodes);
        owned = same_number (length J.owners) (size J) (λ x. (f x).owned);
        owners = λ s l. below (suc (owner J s)) J.nodes (λ x. (f x).owners s l);
        labels = λ s l. below (label J s) 65535 (λ x. (f x).labels s l);
        ends =
            λ e l. (
              below (suc (edge_of J e).from) (size J) (λ x. ((f x).ends e l).0),
              below (suc (edge_of J e).to) (size J) (λ x. ((f x).ends e l).1),
            );
        ascending =
            λ e l.
            test_less (edge_of J e) (edge_of J (suc e))
            (same_test (less (edge_of J e) (edge_of J (suc e))) true (λ x. less_test (edge_of J e) (edge_of J (suc e)) ((f x).ascending e l)));
        edge_out =
            λ s l.
            let starts : ℕ → Bool = λ e. eqb (edge_of J e).from s in
            let (m, t) =
            any_found starts (edge_count J)
            (same_test (any starts (edge_count J)) true
            (λ x. let (e, h, q) = (f x).edge_out s l in any_intro starts (edge_count J) e h (eq-eqb (edge_of J e).from s q))) in
            (first starts (edge_count J), m, eqb-true (edge_of J (first starts (edge_count J))).from s t);
        operands = λ k l. in_range k (rule_of (subformula J.formula k)) (λ x. (f x).operands k l);
      }

-- a place is known by its number
number : Place → ℕ
number Outside = 0
number Border = 1
number Inner = 2

numbered : ℕ → Place
numbered zero = Outside
numbered (suc zero) = Border
numbered (suc (suc n)) = Inner

by_number : (p : Place) → numbered (number p) ≡ p
unfolding number numbered
by_number Outside = refl
by_number Border = refl
by_number Inner = refl

same_place : {A : Type 0} → ∥ A ∥₁ → (p q : Place) → (A → p ≡ q) → p ≡ q
same_place t p q f = sym (by_number p) ∙ ap numbered (same_number t (number p) (number q) (λ a. ap number (f a))) ∙ by_number q

pub image_again : (m : Space) → ∥ IsImage m ∥₁ → IsImage m
image_again m t =
    let J = lines_job m.lines in
    record {
      is_job = is_job_again t J (λ x. x.is_job);
      runs = λ s l. same_number t (get_or m.first s 0) (first_edge J.structure s) (λ x. x.runs s l);
      chains =
          record {
            last_at = λ n s a l. same_number t (get_or (get_or m.last n []) s 0) (last_into J n s (edge_count J)) (λ x. x.chains.last_at n s a l);
            next_at =
                λ e l.
                same_number t (get_or m.next e 0) (last_into J (owner J (edge_from J.structure e)) (edge_to J.structure e) e) (λ x. x.chains.next_at e l);
          };
      fragments =
          λ n l past.
          let f = get_or m.fragments n past in
          record {
            place_at = λ s g. same_place t (get_or f.places s Outside) (place_of J n s) (λ x. (x.fragments n l past).place_at s g);
            listed = same_numbers t f.states.items (fragment J n) (λ x. (x.fragments n l past).listed);
          };
    }

-- the fact of an image, as the laws take it
pub image_made : (m : Image) → IsImage m.space.now
image_made m = image_again m.space.now m.well_made
