-- Where the lines behind line 1 stand and how many fields each has: the state and edge lines, which are one run of two fields
-- each, and the subformula lines behind them. And which numbers those fields hold. Assumes nothing.
use Prim.Native.Nat.{ℕ, ◌+◌, ◌-◌, ◌*◌, ◌<◌}
use mathlib.Core.Path.{◌≡◌, refl, ◌∙◌, ap, ap₂, subst}
use mathlib.Core.List.{[], ◌∷◌}
use native.Mathlib.Omega.{arith}
use Rattle.law.proofs.Bounded.{by_order}
use Rattle.text.specs.Field.{Text, number_at, formed}
use Rattle.job.specs.Layout.{states, edges, subformulas, nodes, state_at, edge_at, subformula_at, owner_field, label_field, source_field, target_field, kind_field, left_field, right_field, fields_of, line_at}
use Rattle.job.specs.Questions.{formed_line}
use Rattle.job.proofs.LayoutLaws.{fields_two, line_pair, fields_three, line_triple}
use Rattle.text.specs.Fields.{numbers_at}

-- What holds of each state line, of each edge line and of each subformula line holds of every line behind line 1.
pub by_line : (P : ℕ → Type 0) (S E K : ℕ)
    → ((s : ℕ) → s < S → P s) → ((e : ℕ) → e < E → P (S + e)) → ((k : ℕ) → k < K → P (S + E + k))
    → (i : ℕ) → i < S + E + K → P i
by_line P S E K state edge formula i l =
    by_order i S
    (state i)
    (λ g.
    by_order i (S + E)
    (λ m. let same : S + (i - S) ≡ i = omega arith in subst P same (edge (i - S) (omega arith)))
    (λ m. let same : S + E + (i - (S + E)) ≡ i = omega arith in subst P same (formula (i - (S + E)) (omega arith))))

module _ (t : Text) where
  pub two_fields : (i : ℕ) → i < states t + edges t → fields_of t (2 + i) ≡ 2
  two_fields i l = fields_two t (states t + edges t) (2 + i) refl (omega arith) (omega arith)

  pub two_at : (i : ℕ) → i < states t + edges t → line_at t (2 + i) ≡ state_at i
  unfolding state_at
  two_at i l = line_pair t (states t + edges t) (2 + i) refl (omega arith) (omega arith) ∙ omega arith

  pub three_fields : (k : ℕ) → fields_of t (2 + (states t + edges t + k)) ≡ 3
  three_fields k = fields_three t (states t + edges t) (2 + (states t + edges t + k)) refl (omega arith) (omega arith)

  pub three_at : (k : ℕ) → line_at t (2 + (states t + edges t + k)) ≡ subformula_at t k
  unfolding state_at subformula_at
  three_at k = line_triple t (states t + edges t) (2 + (states t + edges t + k)) refl (omega arith) (omega arith) ∙ omega arith

  pub two_formed : (i : ℕ) → i < states t + edges t → formed_line t i ≡ formed t (state_at i) 2
  unfolding formed_line
  two_formed i l = ap₂ (formed t) (two_at i l) (two_fields i l)

  pub three_formed : (k : ℕ) → formed_line t (states t + edges t + k) ≡ formed t (subformula_at t k) 3
  unfolding formed_line
  three_formed k = ap₂ (formed t) (three_at k) (three_fields k)

  -- the numbers of a line's fields, by their names
  pub head_numbers : numbers_at t 0 4 ≡ states t ∷ edges t ∷ subformulas t ∷ nodes t ∷ []
  unfolding numbers_at states edges subformulas nodes
  head_numbers = refl

  pub state_numbers : (s : ℕ) → numbers_at t (state_at s) 2 ≡ owner_field t s ∷ label_field t s ∷ []
  unfolding numbers_at owner_field label_field
  state_numbers s = refl

  pub edge_numbers : (e : ℕ) → numbers_at t (edge_at t e) 2 ≡ source_field t e ∷ target_field t e ∷ []
  unfolding numbers_at source_field target_field
  edge_numbers e = refl

  pub formula_numbers : (k : ℕ) → numbers_at t (subformula_at t k) 3 ≡ kind_field t k ∷ left_field t k ∷ right_field t k ∷ []
  unfolding numbers_at kind_field left_field right_field
  formula_numbers k = ap (λ (at : ℕ). kind_field t k ∷ left_field t k ∷ number_at t at ∷ []) (omega arith)

  -- where an edge line and a subformula line stand, behind S states and E edges
  pub edge_place : (S e : ℕ) → states t ≡ S → edge_at t e ≡ 21 + 11 * S + 11 * e
  unfolding edge_at state_at
  edge_place S e p = omega arith

  pub formula_place : (S E k : ℕ) → states t ≡ S → edges t ≡ E → subformula_at t k ≡ 21 + 11 * S + 11 * E + 16 * k
  unfolding subformula_at state_at
  formula_place S E k p q = omega arith
