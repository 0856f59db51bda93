-- What the lines say of their job, one by one, and what is read of them. A law takes the list that was read and, as its last argument, the
-- number that was read of it, so that it is what an accessor promises of it. Assumes nothing.
use Prim.Native.Nat.{ℕ, ◌<◌, ◌≤◌}
use mathlib.Core.Path.{◌≡◌, refl, sym, ◌∙◌, ap}
use mathlib.Core.List.{List}
use native.Mathlib.Omega.{arith}
use lib.ListN.{length, get_or, get_or-map}
use Rattle.std.proofs.lemmas.List.{length-map}
use Rattle.job.specs.Job.{Job, Edge, size, subformula_count, owner, subformula}
use Rattle.job.specs.Written.{IsJob, no_edge, edge_count, label, Operands}
use Rattle.job.specs.declared.subformula.Subformula.{Subformula}
use Rattle.job.specs.declared.subformula.Subformula.TheVariants.{Atom}
use Rattle.image.specs.Lines.{lines_job, state_line, edge_line, ends}
use Rattle.image.specs.Image.{edge_from, edge_to}
use Rattle.image.specs.declared.job_lines.State.{State}
use Rattle.image.specs.declared.job_lines.Edge as line
use Rattle.image.specs.declared.job_lines.JobLines.{JobLines}
use Rattle.image.proofs.Runs.{from_in, to_in}

module _ (m : JobLines) where
  abbrev J : Job
  J = lines_job m

  pub size_line : size J ≡ length m.states.items
  unfolding size lines_job
  size_line = length-map m.states.items (λ (s : State). s.label)

  pub edges_line : edge_count J ≡ length m.edges.items
  unfolding edge_count lines_job
  edges_line = length-map m.edges.items ends

  pub subformulas_line : subformula_count J ≡ length m.formula.items
  unfolding subformula_count lines_job
  subformulas_line = refl

  pub nodes_line : J.nodes ≡ m.nodes
  unfolding lines_job
  nodes_line = refl

  owner_line : (s : ℕ) → owner J s ≡ (state_line m.states.items s).owner
  unfolding owner lines_job
  owner_line s = get_or-map (λ (s : State). s.owner) m.states.items s (record { owner = 0; label = 0 })

  label_line : (s : ℕ) → label J s ≡ (state_line m.states.items s).label
  unfolding label lines_job
  label_line s = get_or-map (λ (s : State). s.label) m.states.items s (record { owner = 0; label = 0 })

  line_edge : (e : ℕ) → get_or J.structure.edges e no_edge ≡ ends (edge_line m.edges.items e)
  unfolding lines_job
  line_edge e = get_or-map ends m.edges.items e (record { source = 0; target = 0 })

  pub from_line : (e : ℕ) → edge_from J.structure e ≡ (edge_line m.edges.items e).source
  unfolding edge_from
  from_line e = ap (λ (d : Edge). d.from) (line_edge e)

  to_line : (e : ℕ) → edge_to J.structure e ≡ (edge_line m.edges.items e).target
  unfolding edge_to
  to_line e = ap (λ (d : Edge). d.to) (line_edge e)

  pub label_read : (read : List State) → read ≡ m.states.items → (s : ℕ) → (state_line read s).label ≡ label J s
  label_read read is s = ap (λ (x : List State). (state_line x s).label) is ∙ sym (label_line s)

  -- the list that was read has an item for each number
  pub state_there : (read : List State) → read ≡ m.states.items → (s : ℕ) → s < size J → s < length read
  state_there read is s l = omega (arith, size_line, ap {A = List State} length is)

  pub edge_there : (read : List line.Edge) → read ≡ m.edges.items → (e : ℕ) → e < edge_count J → e < length read
  edge_there read is e l = omega (arith, edges_line, ap {A = List line.Edge} length is)

  pub subformula_there : (read : List Subformula) → read ≡ m.formula.items → (k : ℕ) → k < subformula_count J → k < length read
  subformula_there read is k l = omega (arith, subformulas_line, ap {A = List Subformula} length is)

  module _ (job : IsJob J) where
    pub states_read : (r : ℕ) → r ≡ length m.states.items → (r ≡ size J) × (1 ≤ r) × (r ≤ 256)
    states_read r e =
        let w = size_line in
        let b = job.states in
        (omega arith, omega arith, omega arith)

    pub edges_read : (r : ℕ) → r ≡ length m.edges.items → (r ≡ edge_count J) × (r ≤ 2048)
    edges_read r e =
        let w = edges_line in
        let b = job.edges in
        (omega arith, omega arith)

    pub subformulas_read : (r : ℕ) → r ≡ length m.formula.items → (r ≡ subformula_count J) × (1 ≤ r) × (r ≤ 32)
    subformulas_read r e =
        let w = subformulas_line in
        let b = job.subformulas in
        (omega arith, omega arith, omega arith)

    pub nodes_read : (r : ℕ) → r ≡ m.nodes → (r ≡ J.nodes) × (1 ≤ r) × (r ≤ 8)
    nodes_read r e =
        let w = nodes_line in
        let b = job.nodes in
        (omega arith, omega arith, omega arith)

    pub owner_read :
        (read : List State) → read ≡ m.states.items → (s : ℕ) → s < size J → (r : ℕ) → r ≡ (state_line read s).owner
        → (r ≡ owner J s) × (r < J.nodes) × (r < 8)
    owner_read read is s l r e =
        let w : r ≡ owner J s = e ∙ ap (λ (x : List State). (state_line x s).owner) is ∙ sym (owner_line s) in
        let o = job.owners s l in
        let b = job.nodes in
        (w, omega arith, omega arith)

    pub source_read :
        (read : List line.Edge) → read ≡ m.edges.items → (e : ℕ) → e < edge_count J → (r : ℕ) → r ≡ (edge_line read e).source
        → (r ≡ edge_from J.structure e) × (r < size J) × (r < 256)
    source_read read is e l r q =
        let w : r ≡ edge_from J.structure e = q ∙ ap (λ (x : List line.Edge). (edge_line x e).source) is ∙ sym (from_line e) in
        let o = from_in J job e l in
        let b = job.states in
        (w, omega arith, omega arith)

    pub target_read :
        (read : List line.Edge) → read ≡ m.edges.items → (e : ℕ) → e < edge_count J → (r : ℕ) → r ≡ (edge_line read e).target
        → (r ≡ edge_to J.structure e) × (r < size J) × (r < 256)
    target_read read is e l r q =
        let w : r ≡ edge_to J.structure e = q ∙ ap (λ (x : List line.Edge). (edge_line x e).target) is ∙ sym (to_line e) in
        let o = to_in J job e l in
        let b = job.states in
        (w, omega arith, omega arith)

    pub subformula_read :
        (read : List Subformula) → read ≡ m.formula.items → (k : ℕ) → k < subformula_count J → (r : Subformula) → r ≡ get_or read k (Atom 0)
        → (r ≡ subformula J.formula k) × Operands k r
    unfolding subformula lines_job
    subformula_read read is k l r e =
        let w : r ≡ get_or m.formula.items k (Atom 0) = e ∙ ap (λ (x : List Subformula). get_or x k (Atom 0)) is in
        (w, rw w (job.operands k l))
