-- A rule is true where its last line is, on every total structure: the lines say the rewritten rule, and rewriting keeps truth, since truth
-- is decided by the labelling. Assumes nothing.
use Prim.Native.Nat.{ℕ, zero, suc, ◌-◌}
use mathlib.Core.Path.{◌≡◌}
use mathlib.Core.Bool.{true}
use mathlib.Core.List.{List, []}
use mathlib.Core.Logic.Iff
use mathlib.Core.Logic.{◌↔◌, ◌⊎◌, inl, inr, ⊎_elim}
use lib.ListN.{length}
use Rattle.law.proofs.Bool.{split, clash}
use Rattle.job.specs.Job as job
use Rattle.job.specs.Job.{Structure, Quantifier, for_all, exists, subformula}
use Rattle.job.specs.declared.subformula.Subformula.{Subformula}
use Rattle.job.specs.declared.subformula.Subformula.TheVariants.{Atom, And, Au, Eu}
use Rattle.job.specs.declared.subformula.Subformula.TheVariants as kind
use Rattle.ctl.specs.Truth.{Predicate, Walk, Until, OnWalks, meaning, truth_up_to, Holds}
use Rattle.ctl.specs.Labelling.{sat}
use Rattle.ctl.proofs.Total.{State, Total}
use Rattle.ctl.proofs.Walks.{until_same, throughout_same, walk_state}
use Rattle.ctl.proofs.Truth.{holds_sat}
use Rattle.rule_text.specs.declared.token.Prefix.{Prefix}
use Rattle.rule_text.specs.declared.token.Prefix.TheVariants.{Not, Ax, Ex, Eg, Ag}
use Rattle.rule_text.specs.declared.token.Operator.{Operator}
use Rattle.rule_text.specs.declared.token.Operator.TheVariants as operator
use Rattle.rule_text.specs.Tree.{Tree, prefixed, joined, Satisfies}
use Rattle.rule_text.specs.Tree as tree
use Rattle.rule_text.specs.Lines.{Basic, atom, prefix, both, until, joining, rewritten, placed, lines_of}
use Rattle.rule_text.proofs.Says.{line_says, says_up_to, says}
use Rattle.rule_text.proofs.LinesLaws.{placed_says, lines_root}

-- A rewritten rule is true at state s.
BasicHolds : Structure → Basic → Predicate
BasicHolds M (atom j) s = job.atom M j s ≡ true
BasicHolds M (prefix p f) s = prefixed M p (BasicHolds M f) s
BasicHolds M (both f g) s = BasicHolds M f s × BasicHolds M g s
BasicHolds M (until q f g) s = OnWalks M q s (Until M (BasicHolds M f) (BasicHolds M g) s)

-- Where truth is decided, or and implies may be said with not and and.
or_by_and : (A B : Type 0) → Dec A → Dec B → (A ⊎ B) ↔ ((A → ⊥) × (B → ⊥) → ⊥)
or_by_and A B d e = (λ h (n, m). ⊎_elim n m h, back d e)
  where
    back : Dec A → Dec B → ((A → ⊥) × (B → ⊥) → ⊥) → A ⊎ B
    back (yes a) e h = inl a
    back (no n) (yes b) h = inr b
    back (no n) (no m) h = absurd (h (n, m))

implies_by_and : (A B : Type 0) → Dec B → (A → B) ↔ (A × (B → ⊥) → ⊥)
implies_by_and A B e = (λ h (a, m). m (h a), back e)
  where
    back : Dec B → (A × (B → ⊥) → ⊥) → A → B
    back (yes b) h a = b
    back (no m) h a = absurd (h (a, m))

joined_same : (o : Operator) (A B C D : Type 0) → A ↔ C → B ↔ D → joined o A B ↔ joined o C D
unfolding joined
joined_same operator.And A B C D a b = Iff.and a b
joined_same operator.Or A B C D a b = (
  ⊎_elim (λ x. inl (a.0 x)) (λ y. inr (b.0 y)),
  ⊎_elim (λ x. inl (a.1 x)) (λ y. inr (b.1 y)),
)
joined_same operator.Implies A B C D a b = (λ h x. b.0 (h (a.1 x)), λ h x. b.1 (h (a.0 x)))

module _ (M : Structure) (total : Total M) where
  -- Two predicates say the same of each state; so then do operators over them.
  abbrev Same : Predicate → Predicate → Type 0
  Same A B = (s : ℕ) → State M s → A s ↔ B s

  -- So at the places of a walk, which are states.
  at_places : (A B : Predicate) → Same A B → (s : ℕ) (w : Walk M s) (i : ℕ) → A (w.at i) ↔ B (w.at i)
  at_places A B h s w i = h (w.at i) (walk_state M total s w i)

  prefix_same : (p : Prefix) (A B : Predicate) → Same A B → Same (prefixed M p A) (prefixed M p B)
  unfolding prefixed
  prefix_same Not A B h s l = Iff.not (h s l)
  prefix_same Ax A B h s l = (λ g t e. (h t (total.inside s t e).1).0 (g t e), λ g t e. (h t (total.inside s t e).1).1 (g t e))
  prefix_same Ex A B h s l = (
    (λ (t, e, a). (t, e, (h t (total.inside s t e).1).0 a)),
    (λ (t, e, b). (t, e, (h t (total.inside s t e).1).1 b)),
  )
  prefix_same Eg A B h s l = throughout_same M _ s A B (at_places A B h s)
  prefix_same Ag A B h s l = throughout_same M _ s A B (at_places A B h s)

  on_walks_same :
      (q : Quantifier) (A B C D : Predicate)
      → Same A C
      → Same B D
      → Same (λ s. OnWalks M q s (Until M A B s)) (λ s. OnWalks M q s (Until M C D s))
  on_walks_same q A B C D a b s l = until_same M q s A B C D (at_places A C a s) (at_places B D b s)

  -- A line is true where what it says is.
  meaning_says :
      (A : ℕ → Predicate) (r : ℕ → Basic)
      → ((a : ℕ) → Same (A a) (BasicHolds M (r a)))
      → (f : Subformula) → Same (meaning M A f) (BasicHolds M (line_says r f))
  unfolding meaning line_says BasicHolds prefixed
  meaning_says A r h (Atom j) = λ s l. Iff.rfl
  meaning_says A r h (kind.Not a) = prefix_same Not (A a) (BasicHolds M (r a)) (h a)
  meaning_says A r h (And a b) = λ s l. Iff.and (h a s l) (h b s l)
  meaning_says A r h (kind.Ax a) = prefix_same Ax (A a) (BasicHolds M (r a)) (h a)
  meaning_says A r h (kind.Ex a) = prefix_same Ex (A a) (BasicHolds M (r a)) (h a)
  meaning_says A r h (Au a b) = on_walks_same for_all (A a) (A b) (BasicHolds M (r a)) (BasicHolds M (r b)) (h a) (h b)
  meaning_says A r h (Eu a b) = on_walks_same exists (A a) (A b) (BasicHolds M (r a)) (BasicHolds M (r b)) (h a) (h b)
  meaning_says A r h (kind.Eg a) = prefix_same Eg (A a) (BasicHolds M (r a)) (h a)
  meaning_says A r h (kind.Ag a) = prefix_same Ag (A a) (BasicHolds M (r a)) (h a)

  within_says : (ls : List Subformula) (n k : ℕ) → Same (truth_up_to M ls n k) (BasicHolds M (says_up_to ls n k))
  unfolding truth_up_to says_up_to BasicHolds prefixed
  within_says ls zero k = λ s l. (λ h. absurd h, λ (a, n). n a)
  within_says ls (suc n) k = meaning_says (truth_up_to M ls n) (says_up_to ls n) (within_says ls n) (subformula ls k)

  holds_says : (ls : List Subformula) (k : ℕ) → Same (Holds M ls k) (BasicHolds M (says ls k))
  unfolding Holds says
  holds_says ls k = within_says ls (suc k) k

  -- A rewritten rule is true where its last line is, so the labelling decides it.
  holds_placed : (c : Basic) → Same (Holds M (placed c []).lines (placed c []).number) (BasicHolds M c)
  holds_placed c s l = rw (placed_says c) at (holds_says (placed c []).lines (placed c []).number s l)

  basic_decided : (c : Basic) (s : ℕ) → State M s → Dec (BasicHolds M c s)
  basic_decided c s l =
      let ls = (placed c []).lines in
      let k = (placed c []).number in
      let d = Iff.trans (Iff.symm (holds_placed c s l)) (holds_sat M total ls k s l) in
      split (sat M ls k s) (λ t. yes (d.1 t)) (λ u. no (λ h. clash (sat M ls k s) (d.0 h) u))

  -- Rewriting keeps truth.
  joining_holds :
      (o : Operator) (f g : Basic) (s : ℕ) → State M s → joined o (BasicHolds M f s) (BasicHolds M g s) ↔ BasicHolds M (joining o f g) s
  unfolding joined joining BasicHolds prefixed
  joining_holds operator.And f g s l = Iff.rfl
  joining_holds operator.Or f g s l = or_by_and (BasicHolds M f s) (BasicHolds M g s) (basic_decided f s l) (basic_decided g s l)
  joining_holds operator.Implies f g s l = implies_by_and (BasicHolds M f s) (BasicHolds M g s) (basic_decided g s l)

  satisfies_rewritten : (f : Tree) → Same (Satisfies M f) (BasicHolds M (rewritten f))
  unfolding Satisfies BasicHolds rewritten
  satisfies_rewritten (tree.atom j) = λ s l. Iff.rfl
  satisfies_rewritten (tree.prefix p f) = prefix_same p (Satisfies M f) (BasicHolds M (rewritten f)) (satisfies_rewritten f)
  satisfies_rewritten (tree.binary o f g) =
      λ s l.
      Iff.trans
      (joined_same o _ _ _ _ (satisfies_rewritten f s l) (satisfies_rewritten g s l))
      (joining_holds o (rewritten f) (rewritten g) s l)
  satisfies_rewritten (tree.until q f g) =
      on_walks_same q (Satisfies M f) (Satisfies M g) (BasicHolds M (rewritten f)) (BasicHolds M (rewritten g))
      (satisfies_rewritten f) (satisfies_rewritten g)

  pub rule_truth : (f : Tree) (s : ℕ) → State M s → Satisfies M f s ↔ Holds M (lines_of f) (length (lines_of f) - 1) s
  unfolding lines_of
  rule_truth f s l =
      rw (← (lines_root f).1) (Iff.trans (satisfies_rewritten f s l) (Iff.symm (holds_placed (rewritten f) s l)))
