-- What an accepted text has passed, as facts about its numbers, and that a text with these facts is accepted: questions 1 to
-- 8 of document 01 taken out of their tests, once, for every proof about a text. Assumes nothing.
use Prim.Native.Nat.{ℕ, zero, suc, ◌+◌, ◌<◌, ◌≤◌}
use mathlib.Core.Path.{◌≡◌, refl}
use mathlib.Core.Bool.{true, ◌&&◌, ◌||◌}
use mathlib.Core.Logic.{◌⊎◌, inl, inr, ⊎_elim}
use native.Mathlib.Numerals.{sub-one}
use native.Mathlib.Omega.{arith}
use lib.ListN.{length, get_or}
use lib.Dec.{leb, ltb, eqb, eqb-suc-zero}
use borrow.Author.Tests.{ltb-true, lt-ltb, leb-true, le-leb, eqb-true, eq-eqb}
use Rattle.law.specs.Bounded.{first}
use Rattle.law.proofs.Bool.{and_left, and_right, and_four, or_left, or_right, or_cases}
use Rattle.law.proofs.Bounded.{all_intro, all_elim, any_intro, any_found}
use Rattle.law.specs.Lists.{every}
use Rattle.law.proofs.Lists.{every_elim}
use Rattle.text.specs.Field.{Text, formed}
use Rattle.job.specs.Layout.{states, edges, subformulas, nodes, length_of, owner_field, label_field, source_field, target_field}
use Rattle.job.specs.Question.{all_yes}
use Rattle.job.specs.Questions.{of_line_one, of_lines, first_line, ranges, text_length, line_fields, state_lines, edge_lines, edges_out, formula_lines, head_questions, line_questions, text_questions, Accepted, within, in_ranges, formed_line, state_ok, less, ascends, edge_ok, has_edge_out, formula_ok}
use Rattle.job.specs.Job.{Edge}
use Rattle.job.specs.Written.{Between, Less}
use Rattle.job.proofs.QuestionLaws.{none_refused, all_answered_yes}

-- the pair on edge line e
unfoldable pub pair : Text → ℕ → Edge
pair t e = record { from = source_field t e; to = target_field t e }

pub record Passed (t : Text) : Type 0 where
  pub long : 21 ≤ length t
  pub head : formed t 0 4 ≡ true
  pub in_states : Between 1 256 (states t)
  pub in_edges : Between 1 2048 (edges t)
  pub in_subformulas : Between 1 32 (subformulas t)
  pub in_nodes : Between 1 8 (nodes t)
  pub sized : length t ≡ length_of t
  pub further : (i : ℕ) → i < states t + edges t + subformulas t → formed_line t i ≡ true
  pub owners : (s : ℕ) → s < states t → owner_field t s < nodes t
  pub labels : (s : ℕ) → s < states t → label_field t s ≤ 65535
  pub ends : (e : ℕ) → e < edges t → (source_field t e < states t) × (target_field t e < states t)
  pub ascending : (e : ℕ) → suc e < edges t → Less (pair t e) (pair t (suc e))
  pub edge_out : (s : ℕ) → s < states t → (e : ℕ) × (e < edges t) × (source_field t e ≡ s)
  pub formulas : (k : ℕ) → k < subformulas t → formula_ok t k ≡ true

-- A test of a number's range.
pub within_between : (low high n : ℕ) → within low high n ≡ true → Between low high n
unfolding within
within_between low high n e =
    record {
      above = leb-true low n (and_left (leb low n) (leb n high) e);
      below = leb-true n high (and_right (leb low n) (leb n high) e);
    }

pub between_within : (low high n : ℕ) → Between low high n → within low high n ≡ true
unfolding within
between_within low high n b =
    simp (le-leb low n b.above, le-leb n high b.below)

-- Accepted means that each question is answered yes.
accepted_yes : (t : Text) → Accepted t → (i : ℕ) → i < length (text_questions t) → (get_or (text_questions t) i (first_line t)).test ≡ true
unfolding Accepted all_yes
accepted_yes t a = every_elim (λ q. q.test) (text_questions t) (first_line t) (all_answered_yes (text_questions t) a)

-- "compared by from, then by to"
less_test : (a b c d : ℕ) → (ltb a c || (eqb a c && ltb b d)) ≡ true → (a < c) ⊎ ((a ≡ c) × (b < d))
less_test a b c d e =
    ⊎_elim
    (λ l. inl (ltb-true a c l))
    (λ r. inr (eqb-true a c (and_left (eqb a c) (ltb b d) r), ltb-true b d (and_right (eqb a c) (ltb b d) r)))
    (or_cases (ltb a c) (eqb a c && ltb b d) e)

test_less : (a b c d : ℕ) → (a < c) ⊎ ((a ≡ c) × (b < d)) → (ltb a c || (eqb a c && ltb b d)) ≡ true
test_less a b c d (inl l) = or_left (ltb a c) (eqb a c && ltb b d) (lt-ltb a c l)
test_less a b c d (inr r) = or_right (ltb a c) (eqb a c && ltb b d) (simp (eq-eqb a c r.0, lt-ltb b d r.1))

-- The tests of questions 5, 6 and 7, each as the facts that it tests.
module _ (t : Text) where
  pub state_owner : (s : ℕ) → state_ok t s ≡ true → owner_field t s < nodes t
  unfolding state_ok
  state_owner s e = ltb-true (owner_field t s) (nodes t) (and_left (ltb (owner_field t s) (nodes t)) (leb (label_field t s) 65535) e)

  pub state_label : (s : ℕ) → state_ok t s ≡ true → label_field t s ≤ 65535
  unfolding state_ok
  state_label s e = leb-true (label_field t s) 65535 (and_right (ltb (owner_field t s) (nodes t)) (leb (label_field t s) 65535) e)

  pub state_ok_lem : (s : ℕ) → owner_field t s < nodes t → label_field t s ≤ 65535 → state_ok t s ≡ true
  unfolding state_ok
  state_ok_lem s o l =
      simp (lt-ltb (owner_field t s) (nodes t) o, le-leb (label_field t s) 65535 l)

  -- a pair is greater than the one before
  pub ascends_less : (e : ℕ) → ascends t (suc e) ≡ true → Less (pair t e) (pair t (suc e))
  unfolding ascends less Less pair
  ascends_less e h = less_test (source_field t e) (target_field t e) (source_field t (suc e)) (target_field t (suc e)) (simp sub-one at h)

  pub less_ascends : (e : ℕ) → Less (pair t e) (pair t (suc e)) → ascends t (suc e) ≡ true
  unfolding ascends less Less pair
  less_ascends e l = simp sub-one (test_less (source_field t e) (target_field t e) (source_field t (suc e)) (target_field t (suc e)) l)

  pub edge_ends : (e : ℕ) → edge_ok t e ≡ true → (source_field t e < states t) × (target_field t e < states t)
  unfolding edge_ok
  edge_ends e h =
      let both = and_left (ltb (source_field t e) (states t) && ltb (target_field t e) (states t)) (eqb e 0 || ascends t e) h in (
        ltb-true (source_field t e) (states t) (and_left (ltb (source_field t e) (states t)) (ltb (target_field t e) (states t)) both),
        ltb-true (target_field t e) (states t) (and_right (ltb (source_field t e) (states t)) (ltb (target_field t e) (states t)) both),
      )

  pub edge_less : (e : ℕ) → edge_ok t (suc e) ≡ true → Less (pair t e) (pair t (suc e))
  unfolding edge_ok
  edge_less e h =
      let both = ltb (source_field t (suc e)) (states t) && ltb (target_field t (suc e)) (states t) in
      ascends_less e (rw (eqb-suc-zero e) at (and_right both (eqb (suc e) 0 || ascends t (suc e)) h))

  pub edge_ok_lem : (e : ℕ) → source_field t e < states t → target_field t e < states t → (eqb e 0 || ascends t e) ≡ true → edge_ok t e ≡ true
  unfolding edge_ok
  edge_ok_lem e a b c =
      simp (lt-ltb (source_field t e) (states t) a, lt-ltb (target_field t e) (states t) b, c)

  pub edge_out_lem : (s : ℕ) → has_edge_out t s ≡ true → (e : ℕ) × (e < edges t) × (source_field t e ≡ s)
  unfolding has_edge_out
  edge_out_lem s h =
      let (l, e) = any_found (λ e. eqb (source_field t e) s) (edges t) h in
      let found = first (λ e. eqb (source_field t e) s) (edges t) in
      (found, l, eqb-true (source_field t found) s e)

  pub out_edge : (s e : ℕ) → e < edges t → source_field t e ≡ s → has_edge_out t s ≡ true
  unfolding has_edge_out
  out_edge s e l q = any_intro (λ d. eqb (source_field t d) s) (edges t) e l (eq-eqb (source_field t e) s q)

-- All eight together, taken out and put back.
pub accepted_passed : (t : Text) → Accepted t → Passed t
unfolding text_questions head_questions line_questions first_line ranges text_length line_fields state_lines edge_lines edges_out formula_lines of_line_one of_lines in_ranges
accepted_passed t a =
    let yes = accepted_yes t a in
    let one = yes 0 (omega arith) in
    let four = and_four (within 1 256 (states t)) (within 1 2048 (edges t)) (within 1 32 (subformulas t)) (within 1 8 (nodes t)) (yes 1 (omega arith)) in
    let lined = yes 4 (omega arith) in
    let paired = yes 5 (omega arith) in
    record {
      long = leb-true 21 (length t) (and_left (leb 21 (length t)) (formed t 0 4) one);
      head = and_right (leb 21 (length t)) (formed t 0 4) one;
      in_states = within_between 1 256 (states t) four.0;
      in_edges = within_between 1 2048 (edges t) four.1;
      in_subformulas = within_between 1 32 (subformulas t) four.2;
      in_nodes = within_between 1 8 (nodes t) four.3;
      sized = eqb-true (length t) (length_of t) (yes 2 (omega arith));
      further = all_elim (formed_line t) (states t + edges t + subformulas t) (yes 3 (omega arith));
      owners = λ s l. state_owner t s (all_elim (state_ok t) (states t) lined s l);
      labels = λ s l. state_label t s (all_elim (state_ok t) (states t) lined s l);
      ends = λ e l. edge_ends t e (all_elim (edge_ok t) (edges t) paired e l);
      ascending = λ e l. edge_less t e (all_elim (edge_ok t) (edges t) paired (suc e) l);
      edge_out = λ s l. edge_out_lem t s (all_elim (has_edge_out t) (states t) (yes 6 (omega arith)) s l);
      formulas = all_elim (formula_ok t) (subformulas t) (yes 7 (omega arith));
    }

pub passed_accepted : (t : Text) → Passed t → Accepted t
unfolding Accepted all_yes every text_questions head_questions line_questions first_line ranges text_length line_fields state_lines edge_lines edges_out formula_lines of_line_one of_lines in_ranges
passed_accepted t p =
    none_refused (text_questions t)
    (simp (
      le-leb 21 (length t) p.long,
      p.head,
      between_within 1 256 (states t) p.in_states,
      between_within 1 2048 (edges t) p.in_edges,
      between_within 1 32 (subformulas t) p.in_subformulas,
      between_within 1 8 (nodes t) p.in_nodes,
      eq-eqb (length t) (length_of t) p.sized,
      all_intro (formed_line t) (states t + edges t + subformulas t) p.further,
      all_intro (state_ok t) (states t) (λ s l. state_ok_lem t s (p.owners s l) (p.labels s l)),
      all_intro (edge_ok t) (edges t) edges_ok,
      all_intro (has_edge_out t) (states t) (λ s l. let (e, g, q) = p.edge_out s l in out_edge t s e g q),
      all_intro (formula_ok t) (subformulas t) p.formulas,
    ))
  where
    edges_ok : (e : ℕ) → e < edges t → edge_ok t e ≡ true
    edges_ok zero l = edge_ok_lem t 0 (p.ends 0 l).0 (p.ends 0 l).1 (or_left (eqb 0 0) (ascends t 0) refl)
    edges_ok (suc e) l =
        edge_ok_lem t (suc e) (p.ends (suc e) l).0 (p.ends (suc e) l).1
        (or_right (eqb (suc e) 0) (ascends t (suc e)) (less_ascends t e (p.ascending e l)))
