-- Laws of line 1 and the length, questions 1 to 3: what `head_answer` is in each case. Assumes nothing.
use Prim.Native.Nat.{ℕ, ◌+◌, ◌-◌, ◌*◌, ◌<◌, ◌≤◌}
use mathlib.Core.Path.{◌≡◌, refl, sym, ◌∙◌}
use mathlib.Core.Bool.{true, false, ◌&&◌}
use mathlib.Core.List.{List, [], ◌∷◌}
use native.Mathlib.Omega.{arith}
use borrow.Author.Tests.{le-leb, lt-leb, eq-eqb, ne_eqb, eqb-true}
use lib.ListN.{length, get_or}
use lib.Dec.{leb}
use Rattle.law.proofs.Bool.{split, and_four}
use Rattle.law.proofs.Bounded.{by_order}
use Rattle.job.proofs.Asked.{within_between}
use Rattle.law.specs.Lists.{every}
use Rattle.law.proofs.Lists.{every_elim}
use Rattle.job.proofs.QuestionLaws.{refused_not_accepted, answered_yes, answered_no, answered_none, accepted_none, accepted_own, none_refused, all_answered_yes}
use Rattle.text.specs.Field.{Text, formed}
use Rattle.job.specs.Layout.{states, edges, subformulas, nodes, length_of, state_at, subformula_at, lines, fields_of, line_at}
use Rattle.job.specs.Question.{all_yes, refusal, answered}
use Rattle.job.specs.Questions.{of_line_one, first_line, ranges, text_length, head_questions, within, in_ranges}
use Rattle.job.specs.Answer.{accepted, refused}
use Rattle.job.specs.Read.{header, head_answer, read_told, has_line, line_start, line_length}
use Rattle.job.specs.Leaves.{Fits}
use Rattle.job.specs.declared.reading.Header.{Header}
use Rattle.std.proofs.Common.{Ok}

-- The head's answer in each case.
module _ (t : Text) where
  first_line_no : (leb 21 (length t) && formed t 0 4) ≡ false → head_answer t ≡ refused 1 1 4
  unfolding head_answer head_questions first_line of_line_one
  first_line_no e = answered_no (first_line t) _ 4 (header t) e

  pub head_short : length t < 21 → head_answer t ≡ refused 1 1 4
  head_short l = first_line_no (simp (lt-leb 21 (length t) l))

  pub head_malformed : 21 ≤ length t → formed t 0 4 ≡ false → head_answer t ≡ refused 1 1 4
  head_malformed l f = first_line_no (simp (le-leb 21 (length t) l, f))

  module _ (l : 21 ≤ length t) (f : formed t 0 4 ≡ true) where
    first_line_yes : head_answer t ≡ answered (ranges t ∷ text_length t ∷ []) 4 (header t)
    unfolding head_answer head_questions first_line of_line_one
    first_line_yes = answered_yes (first_line t) _ 4 (header t) (simp (le-leb 21 (length t) l, f))

    pub head_out_of_range : in_ranges (states t) (edges t) (subformulas t) (nodes t) ≡ false → head_answer t ≡ refused 2 1 4
    unfolding ranges of_line_one
    head_out_of_range r = first_line_yes ∙ answered_no (ranges t) _ 4 (header t) r

    module _ (r : in_ranges (states t) (edges t) (subformulas t) (nodes t) ≡ true) where
      ranges_yes : head_answer t ≡ answered (text_length t ∷ []) 4 (header t)
      unfolding ranges of_line_one
      ranges_yes = first_line_yes ∙ answered_yes (ranges t) _ 4 (header t) r

      pub head_wrong_length : (length t ≡ length_of t → ⊥) → head_answer t ≡ refused 3 1 4
      unfolding text_length of_line_one
      head_wrong_length n = ranges_yes ∙ answered_no (text_length t) [] 4 (header t) (ne_eqb (length t) (length_of t) n)

      pub head_passes : length t ≡ length_of t → head_answer t ≡ accepted (header t)
      unfolding text_length of_line_one refusal
      head_passes e =
          ranges_yes ∙ answered_yes (text_length t) [] 4 (header t) (eq-eqb (length t) (length_of t) e) ∙ answered_none [] 4 (header t) refl

pub head_fits : (t : Text) (h : Header) → read_told (Ok h) ≡ head_answer t → Fits t h
unfolding read_told header head_answer head_questions all_yes every first_line ranges text_length of_line_one in_ranges length_of
head_fits t h told =
    let own : List ℕ = h.states ∷ h.edges ∷ h.subformulas ∷ h.nodes ∷ [] in
    let same = accepted_own (head_questions t) 4 (header t) own told in
    let es : states t ≡ h.states = cc in
    let ee : edges t ≡ h.edges = cc in
    let ek : subformulas t ≡ h.subformulas = cc in
    let en : nodes t ≡ h.nodes = cc in
    let yes = all_answered_yes (head_questions t) (accepted_none (head_questions t) 4 (header t) own told) in
    let nth : (i : ℕ) → i < 3 → (get_or (head_questions t) i (first_line t)).test ≡ true = every_elim (λ q. q.test) (head_questions t) (first_line t) yes in
    let four = and_four (within 1 256 (states t)) (within 1 2048 (edges t)) (within 1 32 (subformulas t)) (within 1 8 (nodes t)) (nth 1 (omega arith)) in
    let bs = within_between 1 256 (states t) four.0 in
    let be = within_between 1 2048 (edges t) four.1 in
    let bk = within_between 1 32 (subformulas t) four.2 in
    let bn = within_between 1 8 (nodes t) four.3 in
    record {
      states_are = es;
      edges_are = ee;
      subformulas_are = ek;
      nodes_are = en;
      states_from = omega arith;
      states_to = omega arith;
      edges_from = omega arith;
      edges_to = omega arith;
      subformulas_from = omega arith;
      subformulas_to = omega arith;
      nodes_from = omega arith;
      nodes_to = omega arith;
      sized = omega (arith, eqb-true (length t) (length_of t) (nth 2 (omega arith)));
      head_yes = yes;
    }

-- Offset and number of fields of line 1, of a line of two fields and of a line of three.
pub line_one : (t : Text) (l : ℕ) → l ≤ 1 → line_at t l ≡ 0
unfolding line_at
line_one t l h = simp (le-leb l 1 h)

pub fields_four : (t : Text) (l : ℕ) → l ≤ 1 → fields_of t l ≡ 4
unfolding fields_of
fields_four t l h = simp (le-leb l 1 h)

module _ (t : Text) (pairs l : ℕ) (same : states t + edges t ≡ pairs) (g : 1 < l) where
  pub line_pair : l ≤ 1 + pairs → line_at t l ≡ 21 + 11 * (l - 2)
  unfolding line_at state_at
  line_pair h = simp (lt-leb l 1 g, le-leb l (1 + states t + edges t) (omega arith))

  pub fields_two : l ≤ 1 + pairs → fields_of t l ≡ 2
  unfolding fields_of
  fields_two h = simp (lt-leb l 1 g, le-leb l (1 + states t + edges t) (omega arith))

  pub line_triple : 1 + pairs < l → line_at t l ≡ 21 + 11 * pairs + 16 * (l - (2 + pairs))
  unfolding line_at state_at subformula_at
  line_triple h = simp (lt-leb l 1 g, lt-leb l (1 + states t + edges t) (omega arith)) (omega arith)

  pub fields_three : 1 + pairs < l → fields_of t l ≡ 3
  unfolding fields_of
  fields_three h = simp (lt-leb l 1 g, lt-leb l (1 + states t + edges t) (omega arith))

-- The line asked for, where the head accepts and where it does not.
pub line_refused : (t : Text) (l number line : ℕ) → refused number line 4 ≡ head_answer t → has_line t l ≡ false
unfolding head_answer has_line
line_refused t l number line told =
    split (all_yes (head_questions t))
    (λ yes.
    absurd
    (refused_not_accepted (header t) number line 4
    (sym (told ∙ answered_none (head_questions t) 4 (header t) (none_refused (head_questions t) yes)))))
    (λ no. simp no)

-- where it begins and how long it is, where there is such a line and where there is none
pub line_starts : (t : Text) (l : ℕ) → has_line t l ≡ true → line_start t l ≡ line_at t l
unfolding line_start
line_starts t l e = simp e

pub line_has : (t : Text) (l : ℕ) → has_line t l ≡ true → line_length t l ≡ 5 * fields_of t l
unfolding line_length
line_has t l e = simp e

pub line_none : (t : Text) (l : ℕ) → has_line t l ≡ false → (line_start t l ≡ 0) × (line_length t l ≡ 0)
unfolding line_start line_length
line_none t l e = (simp e, simp e)

module _ (t : Text) (h : Header) (fits : Fits t h) (l : ℕ) where
  pub line_zero : l ≡ 0 → has_line t l ≡ false
  unfolding has_line
  line_zero z = simp (fits.head_yes, z)

  pub line_past : 1 + (h.states + h.edges) + h.subformulas < l → has_line t l ≡ false
  unfolding has_line lines
  line_past g =
      let past : 1 + states t + edges t + subformulas t < l = omega arith in
      simp (fits.head_yes, le-leb 1 l (omega arith), lt-leb l (1 + states t + edges t + subformulas t) past)

  module _ (from : 1 ≤ l) (to : l ≤ 1 + (h.states + h.edges) + h.subformulas) where
    pub line_there : has_line t l ≡ true
    unfolding has_line lines
    line_there =
        let there : l ≤ 1 + states t + edges t + subformulas t = omega arith in
        simp (
          fits.head_yes,
          le-leb 1 l from,
          le-leb l (1 + states t + edges t + subformulas t) there,
        )

    -- a line's fields and its byte 10 are within the text
    pub line_inside : line_at t l + 5 * fields_of t l < length t
    line_inside =
        by_order 1 l
        (λ g.
        by_order (1 + pairs) l
        (λ m. rw (line_triple t pairs l same g m, fields_three t pairs l same g m) (omega arith))
        (λ m. rw (line_pair t pairs l same g m, fields_two t pairs l same g m) (omega arith)))
        (λ g. rw (line_one t l g, fields_four t l g) (omega arith))
      where
        pairs : ℕ
        pairs = h.states + h.edges

        same : states t + edges t ≡ pairs
        same = omega arith
