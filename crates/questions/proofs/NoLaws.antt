-- The number of the first no to the own questions of each call: by its tests, in their order; and the tests in the values that code has.
-- Assumes nothing.
use Prim.Native.Nat.{ℕ, ◌+◌, ◌*◌, ◌<◌}
use mathlib.Core.Path.{◌≡◌, refl, sym, ◌∙◌, ap, ap₂}
use mathlib.Core.Bool.{Bool, true, false, cond, not, ◌&&◌, ◌||◌}
use mathlib.Core.List.{List, [], ◌∷◌, ◌++◌}
use Rattle.std.proofs.Common.{Option, Some, None, IfSome, is_some, unwrap_or}
use native.Mathlib.Omega.{arith}
use borrow.Author.Tests.{eq-eqb, eqb-true, lt-ltb, le-ltb, ltb-true}
use lib.ListN.{length}
use lib.Dec.{eqb, ltb, leb}
use Rattle.law.specs.Lists.{every}
use Rattle.law.proofs.Bool.{split, cond_true, cond_false, not_not}
use Rattle.law.proofs.Bounded.{by_equal}
use Rattle.job.specs.Job.{Job, size, subformula_count}
use mathlib.Core.Option.{Option-elim}
use Rattle.job.proofs.RefusedLaws.{numbered}
use Rattle.cells.proofs.CallLaws.{read_below}
use Rattle.image.proofs.ImageLaws.{image_job}
use Rattle.job.specs.Question.{Question, is_own, of_call, refusal, no_number}
use Rattle.job.proofs.QuestionLaws.{no_number_yes, no_number_no, no_number_first, no_number_later}
use Rattle.cells.specs.Fragment.{in_fragment, border}
use Rattle.cells.specs.Table.{Table, table_length, cell, owner_cell, is_empty, cells_right}
use Rattle.cells.specs.Close.{is_temporal, settled, smallest_open, some_open}
use Rattle.cells.specs.Questions.{table_size, table_cells, node_below, node_or255, numbers_below, temporal_named, owner_filled, truth_value, state_at_border, cell_agrees, state_in_fragment, table_settled, some_owner_empty, page_fits}
use Rattle.cells.specs.Calls.{Call, own_questions, node_read}
use Rattle.image.specs.Image.{place_of}
use Rattle.image.specs.Denoted.{job_of}
use Rattle.image.proofs.Places.{same_place, place_border, place_outside}
use Rattle.image.specs.declared.place.Place.{Place}
use Rattle.image.specs.declared.place.Place.TheVariants.{Outside, Border}
use Rattle.image.specs.declared.image.Image.{Image}
use Rattle.table.specs.Lent.{Ready}

-- A question, and those behind it.
no_number_cond : (q : Question) (qs : List Question) → no_number (q ∷ qs) ≡ cond q.test (no_number qs) q.number
no_number_cond q qs =
    split q.test
    (λ e. no_number_yes q qs e ∙ sym (cond_true q.test (no_number qs) q.number e))
    (λ e. no_number_no q qs e ∙ sym (cond_false q.test (no_number qs) q.number e))

no_number_none : no_number [] ≡ 0
unfolding no_number refusal Option-elim
no_number_none = refl

-- Questions 9 and 10.
pub length_is : (J : Job) (n s k : ℕ) → n ≡ J.nodes → s ≡ size J → k ≡ subformula_count J → n * s * k ≡ table_length J
unfolding table_length
length_is J n s k a b c = ap₂ ◌*◌ (ap₂ ◌*◌ a b) c

module _ (J : Job) (t : Table) where
  pub table_number :
      no_number (own_questions Call.finish J t) ≡ cond (eqb (length t) (table_length J)) (cond (cells_right J t) 0 10) 9
  unfolding own_questions table_size table_cells of_call
  table_number = simp (no_number_cond, no_number_none)

  pub step_asked :
      (n : ℕ)
      → no_number (own_questions (Call.step n) J t)
      ≡ cond (eqb (length t) (table_length J)) (cond (cells_right J t) (cond (ltb n J.nodes) 0 11) 10) 9
  unfolding own_questions table_size table_cells node_below of_call
  step_asked n = simp (no_number_cond, no_number_none)

  pub offer_asked :
      (s k : ℕ)
      → no_number (own_questions (Call.offer s k) J t)
      ≡ cond (eqb (length t) (table_length J))
      (cond (cells_right J t)
      (cond (ltb s (size J) && ltb k (subformula_count J))
      (cond (is_temporal J k) (cond (not (is_empty (owner_cell J t s k))) 0 14) 13) 12) 10) 9
  unfolding own_questions table_size table_cells numbers_below temporal_named owner_filled of_call
  offer_asked s k = simp (no_number_cond, no_number_none)

  pub accept_asked :
      (n s k v : ℕ)
      → no_number (own_questions (Call.accept n s k v) J t)
      ≡ cond (eqb (length t) (table_length J))
      (cond (cells_right J t)
      (cond (ltb n J.nodes)
      (cond (ltb s (size J) && ltb k (subformula_count J))
      (cond (is_temporal J k)
      (cond (leb v 1) (cond (border J n s) (cond (is_empty (cell J t n s k) || eqb (cell J t n s k) v) 0 17) 16) 15) 13) 12) 11) 10) 9
  unfolding own_questions table_size table_cells node_below numbers_below temporal_named truth_value state_at_border cell_agrees of_call
  accept_asked n s k v = simp (no_number_cond, no_number_none)

  pub look_asked :
      (n s k : ℕ)
      → no_number (own_questions (Call.look n s k) J t)
      ≡ cond (eqb (length t) (table_length J))
      (cond (cells_right J t)
      (cond (ltb n J.nodes || eqb n 255) (cond (ltb s (size J) && ltb k (subformula_count J)) (cond (in_fragment J (node_read J n s) s) 0 18) 12) 11) 10) 9
  unfolding own_questions table_size table_cells node_or255 numbers_below state_in_fragment of_call
  look_asked n s k = simp (no_number_cond, no_number_none)

  pub close_asked :
      no_number (own_questions Call.close J t)
      ≡ cond (eqb (length t) (table_length J)) (cond (cells_right J t) (cond (settled J t) (cond (some_open J t) 0 20) 19) 10) 9
  unfolding own_questions table_size table_cells table_settled some_owner_empty of_call
  close_asked = simp (no_number_cond, no_number_none)

  pub page_asked :
      (n room : ℕ)
      → no_number (own_questions (Call.page n room) J t)
      ≡ cond (eqb (length t) (table_length J))
      (cond (cells_right J t) (cond (ltb n J.nodes) (cond (leb (80 * (size J + 1)) room) 0 24) 11) 10) 9
  unfolding own_questions table_size table_cells node_below page_fits of_call
  page_asked n room = simp (no_number_cond, no_number_none)

  -- none is the first no: both are answered yes
  front_own : every is_own (table_size J t ∷ (table_cells J t ∷ [])) ≡ true
  unfolding every is_own of_call table_size table_cells
  front_own = refl

  table_fine : (r : ℕ) → r ≡ no_number (own_questions Call.finish J t) → r ≡ 0 → (length t ≡ table_length J) × (cells_right J t ≡ true)
  unfolding own_questions table_size table_cells of_call
  table_fine r asked none =
      let number : no_number (table_size J t ∷ (table_cells J t ∷ [])) ≡ 0 = sym asked ∙ none in
      let long : eqb (length t) (table_length J) ≡ true =
      split (eqb (length t) (table_length J)) (λ e. e)
      (λ e. let never : ◌≡◌ {A = ℕ} 9 0 = sym (no_number_no (table_size J t) (table_cells J t ∷ []) e) ∙ number in absurd (omega arith)) in (
        eqb-true (length t) (table_length J) long,
        split (cells_right J t) (λ e. e)
            (λ e.
            let never : ◌≡◌ {A = ℕ} 10 0 =
            sym (no_number_yes (table_size J t) (table_cells J t ∷ []) long ∙ no_number_no (table_cells J t) [] e) ∙ number in
            absurd (omega arith)),
      )

  pub node_fine :
      (n r : ℕ)
      → r ≡ no_number (own_questions (Call.step n) J t)
      → r ≡ 0
      → (0 ≡ no_number (own_questions Call.finish J t)) × (n < J.nodes)
  unfolding own_questions node_below of_call
  node_fine n r asked none =
      let front = table_size J t ∷ (table_cells J t ∷ []) in
      let own : every is_own front ≡ true = front_own in
      let number : no_number (front ++ (node_below J n ∷ [])) ≡ 0 = sym asked ∙ none in
      let fine : no_number front ≡ 0 =
      by_equal (no_number front) 0 (λ e. e) (λ some. absurd (some (sym (no_number_first front (node_below J n ∷ []) some) ∙ number))) in (
        sym fine,
        ltb-true n J.nodes
            (split (ltb n J.nodes) (λ e. e)
            (λ e.
            let never : ◌≡◌ {A = ℕ} 11 0 =
            sym (no_number_later front (node_below J n ∷ []) own fine ∙ no_number_no (node_below J n) [] e) ∙ number in
            absurd (omega arith))),
      )

-- What stands after them: a table that can be worked on.
pub table_ready : (m : Image) (t : Table) → (r : ℕ) → r ≡ no_number (own_questions Call.finish (job_of m) t) → r ≡ 0 → Ready m t
table_ready m t r asked none =
    let (long, right) = table_fine (job_of m) t r asked none in
    record { lent = record { long = long }; right = right }

pub node_ready :
    (m : Image) (t : Table)
    → (n r : ℕ)
    → r ≡ no_number (own_questions (Call.step n) (job_of m) t)
    → r ≡ 0
    → Ready m t × (n < (job_of m).nodes)
node_ready m t n r asked none =
    let (fine, under) = node_fine (job_of m) t n r asked none in
    (table_ready m t 0 fine refl, under)

-- What accept has left to ask then.
pub accept_number :
    {m : Image} {t : Table} (ready : Ready m t)
    → (n s k v : ℕ)
    → n < (job_of m).nodes
    → no_number (own_questions (Call.accept n s k v) (job_of m) t)
    ≡ cond (ltb s (size (job_of m)) && ltb k (subformula_count (job_of m)))
    (cond (is_temporal (job_of m) k)
    (cond (leb v 1)
    (cond (border (job_of m) n s)
    (cond (is_empty (cell (job_of m) t n s k) || eqb (cell (job_of m) t n s k) v) 0 17) 16) 15) 13) 12
accept_number {m} {t} ready n s k v under =
    accept_asked (job_of m) t n s k v ∙ simp (eq-eqb (length t) (table_length (job_of m)) ready.lent.long, ready.right, lt-ltb n (job_of m).nodes under)

-- Questions 12 and 13: a no to one of them, whatever is asked behind them.
pub named_number :
    (J : Job) (s k : ℕ)
    → no_number (numbers_below J s k ∷ (temporal_named J k ∷ []))
    ≡ cond (ltb s (size J) && ltb k (subformula_count J)) (cond (is_temporal J k) 0 13) 12
unfolding numbers_below temporal_named of_call
named_number J s k = simp (no_number_cond, no_number_none)

two_no : (a b : Bool) (x r : ℕ) → r ≡ cond a (cond b 0 13) 12 → (r ≡ 0 → ⊥) → r ≡ cond a (cond b x 13) 12
two_no true true x r is some = absurd (some is)
two_no true false x r is some = is
two_no false b x r is some = is

module _ (J : Job) (s k r : ℕ) (asked : r ≡ no_number (numbers_below J s k ∷ (temporal_named J k ∷ []))) where
  pub named_no :
      (x : ℕ) → (r ≡ 0 → ⊥) → r ≡ cond (ltb s (size J) && ltb k (subformula_count J)) (cond (is_temporal J k) x 13) 12
  named_no x some = two_no (ltb s (size J) && ltb k (subformula_count J)) (is_temporal J k) x r (asked ∙ named_number J s k) some

-- Questions 16 and 18, in the place that is read.
module _ (J : Job) (n s : ℕ) (p : Place) (is : p ≡ place_of J n s) where
  pub border_asked : (b : Bool) → b ≡ not (same_place p Border) → border J n s ≡ not b
  border_asked b told = sym (place_border J n s p is) ∙ sym (not_not (same_place p Border)) ∙ ap not (sym told)

  pub fragment_asked : (b : Bool) → b ≡ same_place p Outside → in_fragment J n s ≡ not b
  fragment_asked b told = sym (not_not (in_fragment J n s)) ∙ ap not (sym (place_outside J n s p is) ∙ sym told)

-- Question 20, in the smallest open subformula, if there is one.
pub open_asked :
    (J : Job) (t : Table) (found : Option ℕ)
    → IfSome found (λ k. k < subformula_count J)
    → unwrap_or found (subformula_count J) ≡ smallest_open J t
    → some_open J t ≡ is_some found
unfolding some_open
open_asked J t None within is = le-ltb (smallest_open J t) (subformula_count J) (omega (arith, is))
open_asked J t (Some k) within is = lt-ltb (smallest_open J t) (subformula_count J) (omega (arith, is, within))

-- By what the search shows which question is the first to be answered no, where there are several laws.
pub ruleset offer_laws = (table_number, named_number, offer_asked, numbered)

pub ruleset accept_laws = (step_asked, named_number, accept_asked, border_asked, numbered)

pub ruleset look_laws = (table_number, look_asked, fragment_asked, numbered, read_below, image_job)

pub ruleset close_laws = (table_number, close_asked, open_asked, numbered)
