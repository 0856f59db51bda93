-- What is derived from a job, and what it is that a space is well made: its lines say a job, and each part behind them holds what is derived from
-- that job. That decoding an accepted text gives such a space, of that text's job, is the contract of `read_image` in crate decoding. Assumes nothing.
use Rattle.std.specs.Prelude.{ℕ, zero, suc, ◌<◌, ◌≡◌, Bool, cond, ◌&&◌, List, [], length, get_or, eqb, ltb, Option, Some, None}
use Rattle.law.specs.Bounded.{first, count}
use Rattle.law.specs.Lists.{tab}
use Rattle.job.specs.Job.{Job, Structure, size, owner}
use Rattle.job.specs.Written.{IsJob, no_edge, edge_count}
use Rattle.cells.specs.Fragment.{in_fragment, inner}
use Rattle.image.specs.Lines.{lines_job}
use Rattle.image.specs.declared.place.Place.{Place}
use Rattle.image.specs.declared.place.Place.TheVariants.{Outside, Border, Inner}
use Rattle.image.specs.declared.space.Fragment.{Fragment}
use Rattle.image.specs.declared.space.Space.{Space}

-- The edge of that number.
unfoldable pub edge_from : Structure → ℕ → ℕ
edge_from M e = (get_or M.edges e no_edge).from

unfoldable pub edge_to : Structure → ℕ → ℕ
edge_to M e = (get_or M.edges e no_edge).to

-- How many edges start below state s: where the run of s begins, since edges ascend.
unfoldable pub first_edge : Structure → ℕ → ℕ
first_edge M s = count (λ e. ltb (edge_from M e) s) (length M.edges)

-- Edge e belongs to node n, its source's owner, and ends at state u.
unfoldable pub leads : Job → ℕ → ℕ → ℕ → Bool
leads J n u e = eqb (owner J (edge_from J.structure e)) n && eqb (edge_to J.structure e) u

-- One more than the last edge of node n below number e into state u, and 0 where there is none.
unfoldable pub last_into : Job → ℕ → ℕ → ℕ → ℕ
last_into J n u zero = 0
last_into J n u (suc e) = cond (leads J n u e) (suc e) (last_into J n u e)

-- The edge that such a number tells.
abbrev pub edge_told : ℕ → Option ℕ
edge_told zero = None
edge_told (suc e) = Some e

-- A state's place in a node's fragment.
unfoldable pub place_of : Job → ℕ → ℕ → Place
place_of J n s = cond (inner J n s) Inner (cond (in_fragment J n s) Border Outside)

-- The states of a node's fragment, ascending: how many, how many below a state, the one of a rank, and all of them.
unfoldable pub fragment_size : Job → ℕ → ℕ
fragment_size J n = count (in_fragment J n) (size J)

unfoldable pub rank : Job → ℕ → ℕ → ℕ
rank J n s = count (in_fragment J n) s

unfoldable pub fragment_state : Job → ℕ → ℕ → ℕ
fragment_state J n i = first (λ s. in_fragment J n s && eqb (rank J n s) i) (size J)

unfoldable pub fragment : Job → ℕ → List ℕ
fragment J n = tab (fragment_state J n) (fragment_size J n)

-- The runs of the first n states: where each begins.
abbrev pub Runs : Job → ℕ → List ℕ → Type 0
Runs J n first = (s : ℕ) → s < n → get_or first s 0 ≡ first_edge J.structure s

-- The ends of node n's chains after all edges, by state.
abbrev pub Ends : Job → ℕ → List ℕ → Type 0
Ends J n last = (s : ℕ) → s < 256 → get_or last s 0 ≡ last_into J n s (edge_count J)

-- The chains of the first e edges: by node and state the last of them, and by edge the one before it.
pub record Chains (J : Job) (e : ℕ) (last : List (List ℕ)) (next : List ℕ) : Type 0 where
  pub last_at : (n s : ℕ) → n < 8 → s < 256 → get_or (get_or last n []) s 0 ≡ last_into J n s e
  pub next_at : (d : ℕ) → d < e → get_or next d 0 ≡ last_into J (owner J (edge_from J.structure d)) (edge_to J.structure d) d

-- Each state has its place in node n's fragment, and the states of the fragment are listed.
pub record IsFragment (J : Job) (n : ℕ) (f : Fragment) : Type 0 where
  pub place_at : (s : ℕ) → s < size J → get_or f.places s Outside ≡ place_of J n s
  pub listed : f.states.items ≡ fragment J n

-- The fragments of the first nodes, whatever is read past the end of the list.
abbrev pub Fragments : Job → ℕ → List Fragment → Type 0
Fragments J nodes fs = (n : ℕ) → n < nodes → (past : Fragment) → IsFragment J n (get_or fs n past)

-- The chains and the fragments are those of eight nodes, also where the job has fewer.
pub record IsImage (m : Space) : Type 0 where
  pub is_job : IsJob (lines_job m.lines)
  pub runs : Runs (lines_job m.lines) (suc (size (lines_job m.lines))) m.first
  pub chains : Chains (lines_job m.lines) (edge_count (lines_job m.lines)) m.last m.next
  pub fragments : Fragments (lines_job m.lines) 8 m.fragments
