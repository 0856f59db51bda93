-- The numbers of a text are those of a job. Every question about the text is then one about the job, and the job is the one that the
-- text is decoded as. Assumes nothing.
use Prim.Native.Nat.{ℕ, suc, ◌+◌, ◌*◌, ◌<◌}
use mathlib.Core.Path.{◌≡◌, refl, sym, ◌∙◌, ap}
use mathlib.Core.Bool.{true}
use mathlib.Core.List.{List, [], ◌∷◌}
use native.Mathlib.Omega.{arith}
use lib.ListN.{length, get_or}
use Rattle.law.specs.Lists.{tab}
use Rattle.law.proofs.Lists.{tab_length, tab_at, tab_list}
use Rattle.text.specs.Field.{Text}
use Rattle.job.specs.Layout.{length_of, state_at, edge_at, subformula_at}
use Rattle.job.specs.Layout as layout
use Rattle.job.specs.Formula.{parsed, is_formula}
use Rattle.job.specs.Formula as parsing
use Rattle.job.specs.Questions.{formed_line, formula_ok}
use Rattle.job.specs.Job.{Edge, Job, size, subformula_count, owner, subformula, decode}
use Rattle.job.specs.Written.{label, no_edge, edge_of, edge_count, written, IsJob}
use Rattle.job.specs.declared.subformula.Subformula.TheVariants.{Atom}
use Rattle.job.proofs.Asked.{pair, Passed}
use Rattle.job.proofs.Formula.{Stands, parsed_stands, stands_parsed, formula_is, fields_length}
use Rattle.text.proofs.Line.{formed_reads, reads_formed, reads_numbers}
use Rattle.job.proofs.Carries.{Carries, carries_written, written_carries, head_line, state_line, edge_line, formula_line, edges_from, formulas_from}
use Rattle.job.proofs.Places.{by_line, two_formed, three_formed, head_numbers, state_numbers, edge_numbers, formula_numbers, edge_place, formula_place}

pub record Agrees (t : Text) (J : Job) : Type 0 where
  pub states : layout.states t ≡ size J
  pub edges : layout.edges t ≡ edge_count J
  pub subformulas : layout.subformulas t ≡ subformula_count J
  pub nodes : layout.nodes t ≡ J.nodes
  pub owned : length J.owners ≡ size J
  pub owners : (s : ℕ) → s < size J → layout.owner_field t s ≡ owner J s
  pub labels : (s : ℕ) → s < size J → layout.label_field t s ≡ label J s
  pub pairs : (e : ℕ) → e < edge_count J → pair t e ≡ edge_of J e
  pub formulas : (k : ℕ) → k < subformula_count J → Stands k (layout.kind_field t k) (layout.left_field t k) (layout.right_field t k) (subformula J.formula k)

-- A text that has passed the questions agrees with the job that it is decoded as.
module _ (t : Text) where
  decode_size : size (decode t) ≡ layout.states t
  unfolding size decode
  decode_size = tab_length (layout.label_field t) (layout.states t)

  decode_subformulas : subformula_count (decode t) ≡ layout.subformulas t
  unfolding subformula_count decode
  decode_subformulas = tab_length _ (layout.subformulas t)

  decode_edges : edge_count (decode t) ≡ layout.edges t
  unfolding edge_count decode
  decode_edges = tab_length _ (layout.edges t)

  pub decode_agrees : Passed t → Agrees t (decode t)
  unfolding decode owner label edge_of subformula pair formula_ok
  decode_agrees p =
      record {
        states = sym decode_size;
        edges = sym decode_edges;
        subformulas = sym decode_subformulas;
        nodes = refl;
        owned = tab_length (layout.owner_field t) (layout.states t) ∙ sym decode_size;
        owners = λ s l. sym (tab_at (layout.owner_field t) (layout.states t) s 0 (omega (arith, decode_size)));
        labels = λ s l. sym (tab_at (layout.label_field t) (layout.states t) s 0 (omega (arith, decode_size)));
        pairs = λ e l. sym (tab_at (pair t) (layout.edges t) e no_edge (omega (arith, decode_edges)));
        formulas =
            λ k l.
            let inside : k < layout.subformulas t = omega (arith, decode_subformulas) in
            rw (tab_at (λ j. parsing.formula (parsed j (layout.kind_field t j) (layout.left_field t j) (layout.right_field t j))) _ k (Atom 0) inside)
            (parsed_stands k (layout.kind_field t k) (layout.left_field t k) (layout.right_field t k) _ (formula_is _ (p.formulas k inside)));
      }

-- What a text that agrees with a job says of the job.
module _ (t : Text) (J : Job) (a : Agrees t J) where
  pub agrees_decode : decode t ≡ J
  unfolding decode size subformula_count owner label edge_of edge_count subformula pair parsing.formula
  agrees_decode =
      λ i.
      record { structure = record { labels = labels i; edges = edges i }; formula = formula i; nodes = a.nodes i; owners = owners i }
    where
      labels : tab (layout.label_field t) (layout.states t) ≡ J.structure.labels
      labels = tab_list (layout.label_field t) (layout.states t) J.structure.labels 0 a.states a.labels

      owners : tab (layout.owner_field t) (layout.states t) ≡ J.owners
      owners = tab_list (layout.owner_field t) (layout.states t) J.owners 0 (omega arith) (λ s l. a.owners s (omega arith))

      edges : tab (pair t) (layout.edges t) ≡ J.structure.edges
      edges = tab_list (pair t) (layout.edges t) J.structure.edges no_edge a.edges a.pairs

      formula : tab (λ k. parsing.formula (parsed k (layout.kind_field t k) (layout.left_field t k) (layout.right_field t k))) (layout.subformulas t) ≡ J.formula
      formula =
          tab_list _ (layout.subformulas t) J.formula (Atom 0) a.subformulas
          (λ k l. ap parsing.formula (stands_parsed k _ _ _ _ (a.formulas k l)))

  agrees_from : (e : ℕ) → e < edge_count J → layout.source_field t e ≡ (edge_of J e).from
  unfolding pair
  agrees_from e l = ap (λ (d : Edge). d.from) (a.pairs e l)

  agrees_to : (e : ℕ) → e < edge_count J → layout.target_field t e ≡ (edge_of J e).to
  unfolding pair
  agrees_to e l = ap (λ (d : Edge). d.to) (a.pairs e l)

  pub agrees_job : Passed t → IsJob J
  agrees_job p =
      record {
        states = rw a.states at p.in_states;
        edges = rw a.edges at p.in_edges;
        subformulas = rw a.subformulas at p.in_subformulas;
        nodes = rw a.nodes at p.in_nodes;
        owned = a.owned;
        owners = λ s l. omega (arith, p.owners s (omega arith), a.owners s l);
        labels = λ s l. omega (arith, p.labels s (omega arith), a.labels s l);
        ends = λ e l. omega (arith, p.ends e (omega arith), agrees_from e l, agrees_to e l);
        ascending = λ e l. rw (a.pairs e (omega arith), a.pairs (suc e) l) at (p.ascending e (omega arith));
        edge_out =
            λ s l. let (e, g, q) = p.edge_out s (omega arith) in
            let inside : e < edge_count J = omega arith in
            (e, inside, sym (agrees_from e inside) ∙ q);
        operands = λ k l. (a.formulas k l).1;
      }

  -- Its lines are read as the job's where they are well formed, and are well formed where they are so read.
  pub agrees_carries : Passed t → Carries t J
  unfolding length_of state_at edge_at
  agrees_carries p =
      record {
        sized = omega (arith, p.sized);
        head = rw (head_numbers t, a.states, a.edges, a.subformulas, a.nodes) at (formed_reads t 4 0 p.head);
        states =
            λ s l.
            let inside : s < layout.states t + layout.edges t = omega arith in
            rw (state_numbers t s, a.owners s l, a.labels s l)
            at (formed_reads t 2 (state_at s) (sym (two_formed t s inside) ∙ p.further s (omega arith)));
        edges =
            λ e l.
            let inside : layout.states t + e < layout.states t + layout.edges t = omega arith in
            rw (edge_numbers t e, agrees_from e l, agrees_to e l, edge_place t (size J) e a.states)
            at (formed_reads t 2 (edge_at t e) (sym (two_formed t (layout.states t + e) inside) ∙ p.further (layout.states t + e) (omega arith)));
        formulas =
            λ k l.
            rw (formula_numbers t k, (a.formulas k l).0, formula_place t (size J) (edge_count J) k a.states a.edges)
            at (formed_reads t 3 (subformula_at t k) (sym (three_formed t k) ∙ p.further (layout.states t + layout.edges t + k) (omega arith)));
      }

  agrees_formula : (k : ℕ) → k < subformula_count J → formula_ok t k ≡ true
  unfolding formula_ok is_formula
  agrees_formula k l = rw (stands_parsed k _ _ _ _ (a.formulas k l))

  pub agrees_passed : Carries t J → IsJob J → Passed t
  unfolding length_of state_at edge_at
  agrees_passed c j =
      record {
        long = omega (arith, c.sized);
        head = reads_formed t (head_line J) 0 c.head;
        in_states = rw a.states j.states;
        in_edges = rw a.edges j.edges;
        in_subformulas = rw a.subformulas j.subformulas;
        in_nodes = rw a.nodes j.nodes;
        sized = omega (arith, c.sized);
        further =
            by_line (λ i. formed_line t i ≡ true) (layout.states t) (layout.edges t) (layout.subformulas t)
            (λ s l. two_formed t s (omega arith) ∙ reads_formed t (state_line J s) (21 + 11 * s) (c.states s (omega arith)))
            (λ e l.
            two_formed t (layout.states t + e) (omega arith)
            ∙ rw (edge_place t (size J) e a.states) (reads_formed t (edge_line J e) (edges_from J + 11 * e) (c.edges e (omega arith))))
            (λ k l.
            three_formed t k
            ∙ rw (formula_place t (size J) (edge_count J) k a.states a.edges, ← (fields_length (subformula J.formula k)))
            (reads_formed t (formula_line J k) (formulas_from J + 16 * k) (c.formulas k (omega arith))));
        owners = λ s l. let m : s < size J = omega arith in omega (arith, j.owners s m, a.owners s m);
        labels = λ s l. let m : s < size J = omega arith in omega (arith, j.labels s m, a.labels s m);
        ends = λ e l. let m : e < edge_count J = omega arith in omega (arith, j.ends e m, agrees_from e m, agrees_to e m);
        ascending = λ e l. rw (a.pairs e (omega arith), a.pairs (suc e) (omega arith)) (j.ascending e (omega arith));
        edge_out = λ s l. let (e, g, q) = j.edge_out s (omega arith) in (e, omega arith, agrees_from e g ∙ q);
        formulas = λ k l. agrees_formula k (omega arith);
      }

-- A text that carries a job agrees with it: the numbers of each of its lines are those it is read as.
module _ (t : Text) (J : Job) (c : Carries t J) where
  head_same : layout.states t ∷ layout.edges t ∷ layout.subformulas t ∷ layout.nodes t ∷ [] ≡ head_line J
  head_same = sym (head_numbers t) ∙ reads_numbers t (head_line J) 0 c.head

  states_same : layout.states t ≡ size J
  states_same = ap (λ (l : List ℕ). get_or l 0 0) head_same

  edges_same : layout.edges t ≡ edge_count J
  edges_same = ap (λ (l : List ℕ). get_or l 1 0) head_same

  state_same : (s : ℕ) → s < size J → layout.owner_field t s ∷ layout.label_field t s ∷ [] ≡ state_line J s
  unfolding state_at
  state_same s l = sym (state_numbers t s) ∙ reads_numbers t (state_line J s) (21 + 11 * s) (c.states s l)

  edge_same : (e : ℕ) → e < edge_count J → layout.source_field t e ∷ layout.target_field t e ∷ [] ≡ edge_line J e
  edge_same e l =
      sym (edge_numbers t e)
      ∙ rw (edge_place t (size J) e states_same) (reads_numbers t (edge_line J e) (edges_from J + 11 * e) (c.edges e l))

  formula_same : (k : ℕ) → k < subformula_count J → layout.kind_field t k ∷ layout.left_field t k ∷ layout.right_field t k ∷ [] ≡ formula_line J k
  formula_same k l =
      sym (formula_numbers t k)
      ∙ rw (formula_place t (size J) (edge_count J) k states_same edges_same)
      (rw (fields_length (subformula J.formula k))
      at (reads_numbers t (formula_line J k) (formulas_from J + 16 * k) (c.formulas k l)))

  pub carries_agrees : IsJob J → Agrees t J
  unfolding pair
  carries_agrees j =
      record {
        states = states_same;
        edges = edges_same;
        subformulas = ap (λ (l : List ℕ). get_or l 2 0) head_same;
        nodes = ap (λ (l : List ℕ). get_or l 3 0) head_same;
        owned = j.owned;
        owners = λ s l. ap (λ (l : List ℕ). get_or l 0 0) (state_same s l);
        labels = λ s l. ap (λ (l : List ℕ). get_or l 1 0) (state_same s l);
        pairs = λ e l. ap (λ (l : List ℕ). record { from = get_or l 0 0; to = get_or l 1 0 }) (edge_same e l);
        formulas = λ k l. (formula_same k l, j.operands k l);
      }

-- So a text that has passed is that of the job it is decoded as, and the text of a job passes and is decoded as it.
module _ (t : Text) (p : Passed t) where
  pub passed_job : IsJob (decode t)
  passed_job = agrees_job t (decode t) (decode_agrees t p) p

  pub passed_written : t ≡ written (decode t)
  passed_written = carries_written (decode t) t (agrees_carries t (decode t) (decode_agrees t p) p)

module _ (J : Job) (j : IsJob J) where
  pub written_agrees : Agrees (written J) J
  written_agrees = carries_agrees (written J) J (written_carries J j) j

  pub written_passed : Passed (written J)
  written_passed = agrees_passed (written J) J written_agrees (written_carries J j) j

  pub written_decoded : decode (written J) ≡ J
  written_decoded = agrees_decode (written J) J written_agrees
