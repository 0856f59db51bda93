-- What request (iii) promises, from the laws of the one set rule: EG and AG on walks, that they are temporal, their sets in a step, close
-- by kind, and question 8. Assumes nothing.
use Prim.Native.Nat.{ℕ, ◌+◌, ◌<◌, ◌≤◌}
use mathlib.Core.Path.{◌≡◌, refl, sym, ◌∙◌, ap, subst, fun_ext}
use mathlib.Core.Bool.{Bool, true, false, cond, ◌&&◌}
use mathlib.Core.List.{List, [], ◌∷◌}
use mathlib.Core.Logic.{◌↔◌}
use native.Mathlib.Nat.{le_refl}
use native.Mathlib.Omega.{arith}
use borrow.Author.Tests.{lt-ltb, le-ltb, ne_eqb}
use lib.ListN.{get_or}
use lib.Dec.{leb, ltb, eqb}
use Rattle.law.specs.Fixpoint.{member}
use Rattle.law.specs.Lists.{some}
use Rattle.law.proofs.Bool.{split, cond_false}
use Rattle.law.proofs.Bounded.{by_equal}
use Rattle.text.specs.Field.{Text}
use Rattle.job.specs.Job.{Job, Quantifier, for_all, exists, decode, size, subformula_count, subformula}
use Rattle.job.specs.Formula.{atomic, unary, binary, parsed, fields, is_formula}
use Rattle.job.specs.Rule.{global, rule_of, rule_at, temporal, closed_value, quantifier, IsSets, InRange}
use Rattle.job.specs.Answer.{accepted}
use Rattle.job.specs.Questions.{of_lines, formula_ok, formula_lines}
use Rattle.job.specs.Layout.{states, edges, subformulas, kind_field, left_field, right_field}
use Rattle.job.specs.Written.{IsJob}
use Rattle.job.specs.declared.subformula.Subformula.{Subformula}
use Rattle.job.specs.declared.rule.Condition.TheVariants.{Always, Fails}
use Rattle.job.specs.declared.subformula.Subformula.TheVariants.{Atom, Not, And, Ax, Ex, Au, Eu, Eg, Ag}
use Rattle.std.proofs.Common.{Some, None}
use Rattle.job.proofs.Exact.{decode_is_job}
use Rattle.job.proofs.RuleLaws.{not_sets}
use Rattle.ctl.specs.Truth.{Walk, Throughout, OnWalks, meaning, Holds}
use Rattle.ctl.proofs.Renaming.{holds_meaning}
use Rattle.cells.specs.Table.{Table, cell, is_empty, filled}
use Rattle.cells.specs.SetRule.{SetRule, set_rule, smallest, largest}
use Rattle.cells.specs.Sets as sets
use Rattle.cells.specs.Step.{opposite, known, column, step_table}
use Rattle.cells.specs.Close.{is_temporal, smallest_open, close_table}
use Rattle.cells.specs.Calls.{step, close, told, left}
use Rattle.cells.proofs.Fill.{fill_length, fill_cell, fill_cell_left}
use Rattle.cells.proofs.Formed.{cell_low, step_table_formed}
use Rattle.cells.proofs.Lower.{open_sets}
use Rattle.cells.proofs.Repeat.{by_sets_at}
use Rattle.cells.proofs.Sets.{smallest_is, largest_is}
use Rattle.cells.proofs.Settled.{settled_is}
use Rattle.cells.proofs.Tells.{opposite_twice}
use Rattle.promises.specs.CallContracts.{Loan, Happens}
use Rattle.promises.specs.Demand2.{ruled}
use Rattle.promises.specs.AllAlong.{FalseIn, TrueIn, FilledAllAlong, ClosesTo, six, seven, eight, nine, kind_of, ClosedByKind, admitted, kinds_admitted}
use Rattle.promises.proofs.Contracts.{happens_defined}
use Rattle.promises.proofs.Calls.{accepted_taken, taken_told, taken_left, taken_accepted, close_asked, step_formed, close_formed}
use Rattle.promises.proofs.Filled.{happens_filled, sets_ruled}

-- "EG a: on some walk a holds everywhere; AG a: on every walk."
module _ (J : Job) (is : IsJob J) (k a : ℕ) (l : k < subformula_count J) (s : ℕ) where
  abbrev True : ℕ → ℕ → Type 0
  True = Holds J.structure J.formula

  pub eg_walks :
      subformula J.formula k ≡ Eg a → True k s ↔ ((w : Walk J.structure s) × ((i : ℕ) → True a (w.at i)))
  unfolding meaning OnWalks Throughout subformula_count
  eg_walks e = rw e at (holds_meaning J.structure J.formula is.operands k l s)

  pub ag_walks :
      subformula J.formula k ≡ Ag a → True k s ↔ ((w : Walk J.structure s) (i : ℕ) → True a (w.at i))
  unfolding meaning OnWalks Throughout subformula_count
  ag_walks e = rw e at (holds_meaning J.structure J.formula is.operands k l s)

-- "both temporal"
pub eg_ag_temporal :
    (J : Job) (k a : ℕ)
    → (subformula J.formula k ≡ Eg a → is_temporal J k ≡ true) × (subformula J.formula k ≡ Ag a → is_temporal J k ≡ true)
unfolding is_temporal
eg_ag_temporal J k a = (ap (λ f. temporal (rule_of f)), ap (λ f. temporal (rule_of f)))

-- The sets of the rule are those of the request, where it starts at "a false" and grows everywhere.
module _ (J : Job) (n : ℕ) (at : ℕ → ℕ → ℕ) (low : (j s : ℕ) → at j s ≤ 2) (k a : ℕ) (all : Bool) where
  abbrev own : ℕ → ℕ
  own = at k

  abbrev q : Quantifier
  q = quantifier all

  abbrev R : SetRule
  R = set_rule q (known at (Fails a)) (known at Always) 0

  abbrev L : List Bool
  L = smallest J n own R

  false_joins : (X : ℕ → Bool) (s : ℕ) → FalseIn J n own (at a) q X s → sets.Joins J n own R X s
  unfolding known opposite is_empty
  false_joins X s (FalseIn.already e) = sets.already e
  false_joins X s (FalseIn.fails e i z) = sets.starts e i (rw z refl)
  false_joins X s (FalseIn.follows e i o) = sets.grows e i refl o

  joins_false : (X : ℕ → Bool) (s : ℕ) → sets.Joins J n own R X s → FalseIn J n own (at a) q X s
  unfolding known opposite is_empty
  joins_false X s (sets.already e) = FalseIn.already e
  joins_false X s (sets.starts e i z) = FalseIn.fails e i (sym (opposite_twice (at a s) (low a s)) ∙ ap opposite z)
  joins_false X s (sets.grows e i g o) = FalseIn.follows e i o

  true_stays : (X : ℕ → Bool) (s : ℕ) → TrueIn J n own (at a) q (member L) X s → sets.Stays J n own R L X s
  unfolding known opposite is_empty
  true_stays X s (TrueIn.already e) = sets.other e
  true_stays X s (TrueIn.follows e out i o over) = sets.follows e out i (rw o refl) over

  stays_true : (X : ℕ → Bool) (s : ℕ) → sets.Stays J n own R L X s → TrueIn J n own (at a) q (member L) X s
  unfolding known opposite is_empty
  stays_true X s (sets.other e) = TrueIn.already e
  stays_true X s (sets.blocked e out i z g) = absurd (omega arith)
  stays_true X s (sets.follows e out i z over) = TrueIn.follows e out i (sym (opposite_twice (at a s) (low a s)) ∙ ap opposite z) over

  all_along_sets :
      (after : ℕ → ℕ)
      → ((s : ℕ) → s < size J → after s ≡ get_or (column J n at k (global all a)) s 2)
      → FilledAllAlong J n own (at a) q after
  unfolding column
  all_along_sets after is =
      let small = smallest_is J n own R in
      let large = largest_is J n own R L in
      record {
        falses = member L;
        false_states = small.states;
        joined = λ s l why. small.joined s l (false_joins (member L) s why);
        smallest = λ Y closed. small.within_each Y (λ s l why. closed s l (joins_false Y s why));
        trues = member (largest J n own R L);
        true_states = large.states;
        reason = λ s e. stays_true (member (largest J n own R L)) s (large.reason s e);
        largest = λ Y bound held. large.holds_each Y bound (λ s e. true_stays Y s (held s e));
        cells = λ s l. is s l ∙ by_sets_at J n own R s l;
      }

-- What goes by sets closes by its kind.
sets_kind : (f : Subformula) → IsSets (rule_of f) → ClosesTo (kind_of f) (closed_value (rule_of f))
unfolding fields
sets_kind (Atom j) i = absurd (not_sets (rule_of (Atom j)) refl i)
sets_kind (Not a) i = absurd (not_sets (rule_of (Not a)) refl i)
sets_kind (And a b) i = absurd (not_sets (rule_of (And a b)) refl i)
sets_kind (Ax a) i = absurd (not_sets (rule_of (Ax a)) refl i)
sets_kind (Ex a) i = absurd (not_sets (rule_of (Ex a)) refl i)
sets_kind (Au a b) i = six
sets_kind (Eu a b) i = seven
sets_kind (Eg a) i = eight
sets_kind (Ag a) i = nine

-- The same of an accepted step and an accepted close.
module _ (l : Loan) (x : Text) (t u : Table) (given : List ℕ) where
  abbrev J : Job
  J = decode x

  happens_along :
      (n k a : ℕ) (all : Bool)
      → Happens l x (step n) t (accepted given) u
      → k < subformula_count J
      → rule_at J k ≡ global all a
      → FilledAllAlong J n (λ s. cell J t n s k) (λ s. cell J u n s a) (quantifier all) (λ s. cell J u n s k)
  unfolding ruled left InRange
  happens_along n k a all happens below rule =
      let (told_is, left_is) = happens_defined l x (step n) t (accepted given) u happens in
      let taken = accepted_taken (step n) x t given (sym told_is) in
      let formed = step_formed x t n taken in
      let after : u ≡ step_table J n t = left_is ∙ taken_left (step n) x t taken in
      let at : ℕ → ℕ → ℕ = λ j s. cell J (cond (ltb j k) u t) n s j in
      let low : (j s : ℕ) → at j s ≤ 2 =
      λ j s.
      split (ltb j k)
      (λ e. rw (e, after) (cell_low J (step_table J n t) (step_table_formed J t formed n) n s j))
      (λ e. rw e (cell_low J t formed n s j)) in
      let smaller = rw rule at ((decode_is_job x (taken_accepted (step n) x t taken)).operands k below) in
      let sets : IsSets (rule_at J k) = record { growth = record { all = all; start = Fails a; grow = Always; value = 0 }; is = rule } in
      let ruled_is : (s : ℕ) → s < size J → cell J u n s k ≡ get_or (column J n at k (global all a)) s 2 =
      λ s h.
      sets_ruled J n k t u given formed (happens_filled l x n t u given happens) sets (omega arith) below s h
      ∙ ap (λ r. get_or (column J n at k r) s 2) rule in
      subst (λ own. FilledAllAlong J n own (λ s. cell J u n s a) (quantifier all) (λ s. cell J u n s k))
      (ap (λ b s. cell J (cond b u t) n s k) (le-ltb k k (le_refl k)))
      (subst (λ operand. FilledAllAlong J n (at k) operand (quantifier all) (λ s. cell J u n s k))
      (ap (λ b s. cell J (cond b u t) n s a) (lt-ltb a k smaller.0))
      (all_along_sets J n at low k a all (λ s. cell J u n s k) ruled_is))

  pub happens_eg :
      (n k a : ℕ)
      → Happens l x (step n) t (accepted given) u
      → k < subformula_count J
      → subformula J.formula k ≡ Eg a
      → FilledAllAlong J n (λ s. cell J t n s k) (λ s. cell J u n s a) for_all (λ s. cell J u n s k)
  happens_eg n k a happens below is = happens_along n k a true happens below (ap rule_of is)

  pub happens_ag :
      (n k a : ℕ)
      → Happens l x (step n) t (accepted given) u
      → k < subformula_count J
      → subformula J.formula k ≡ Ag a
      → FilledAllAlong J n (λ s. cell J t n s k) (λ s. cell J u n s a) exists (λ s. cell J u n s k)
  happens_ag n k a happens below is = happens_along n k a false happens below (ap rule_of is)

  pub happens_closed : Happens l x close t (accepted given) u → ClosedByKind J t given u
  unfolding told left close_table
  happens_closed happens =
      let (told_is, left_is) = happens_defined l x close t (accepted given) u happens in
      let taken = accepted_taken close x t given (sym told_is) in
      let after : u ≡ close_table J t = left_is ∙ taken_left close x t taken in
      let said : accepted given ≡ accepted (smallest_open J t ∷ filled t (close_table J t) ∷ []) = told_is ∙ taken_told close x t taken in
      let given_is : given ≡ smallest_open J t ∷ filled t (close_table J t) ∷ [] = cc in
      let (still, some_open_lem) = close_asked x t taken in
      let formed = close_formed x t taken in
      let job = decode_is_job x (taken_accepted close x t taken) in
      let k = smallest_open J t in
      let v = closed_value (rule_at J k) in
      rw (given_is, after)
      (record {
        told = refl;
        long = fill_length J _ t;
        value = v;
        by_kind = sets_kind (subformula J.formula k) (open_sets J job t formed (settled_is J t formed.long still) some_open_lem);
        cells =
            λ n s j b c.
            split (eqb j k)
            (λ e. fill_cell J _ t n s j b c ∙ simp e)
            (λ e. fill_cell_left J _ t n s j b c (cond_false (eqb j k) v 2 e) ∙ simp e);
      })

-- "Question 8 admits 1 to 9": by the nine kinds.
formula_if : (c : Bool) (f : Subformula) → is_formula (cond c (Some f) None) ≡ c
unfolding is_formula
formula_if true f = refl
formula_if false f = refl

kind_admitted : (k kind a b : ℕ) → is_formula (parsed k kind a b) ≡ admitted k kind a b
unfolding parsed atomic unary binary is_formula admitted some
kind_admitted k kind a b =
    by_equal kind 1 (λ e. rw e (formula_if (leb a 15 && eqb b 0) (Atom a))) λ n1.
    by_equal kind 2 (λ e. rw e (formula_if (ltb a k && eqb b 0) (Not a))) λ n2.
    by_equal kind 3 (λ e. rw e (formula_if (ltb a k && ltb b k) (And a b))) λ n3.
    by_equal kind 4 (λ e. rw e (formula_if (ltb a k && eqb b 0) (Ax a))) λ n4.
    by_equal kind 5 (λ e. rw e (formula_if (ltb a k && eqb b 0) (Ex a))) λ n5.
    by_equal kind 6 (λ e. rw e (formula_if (ltb a k && ltb b k) (Au a b))) λ n6.
    by_equal kind 7 (λ e. rw e (formula_if (ltb a k && ltb b k) (Eu a b))) λ n7.
    by_equal kind 8 (λ e. rw e (formula_if (ltb a k && eqb b 0) (Eg a))) λ n8.
    by_equal kind 9 (λ e. rw e (formula_if (ltb a k && eqb b 0) (Ag a))) λ n9.
    simp (
      ne_eqb kind 1 n1,
      ne_eqb kind 2 n2,
      ne_eqb kind 3 n3,
      ne_eqb kind 4 n4,
      ne_eqb kind 5 n5,
      ne_eqb kind 6 n6,
      ne_eqb kind 7 n7,
      ne_eqb kind 8 n8,
      ne_eqb kind 9 n9,
    )

pub question_8 : (x : Text) → formula_lines x ≡ kinds_admitted x
unfolding formula_lines formula_ok
question_8 x =
    ap (λ p. of_lines 8 p (subformulas x) (2 + states x + edges x)) (fun_ext (λ k. kind_admitted k (kind_field x k) (left_field x k) (right_field x k)))
