-- The lines as the code keeps them are the rule's lines; where the rule has more than 32, they are 33. Assumes nothing.
use Prim.Native.Nat.{ℕ, suc, ◌<◌, ◌≤◌}
use mathlib.Core.Path.{◌≡◌, refl, sym, ◌∙◌, ap, ap₂}
use mathlib.Core.Bool.{cond, ◌||◌}
use mathlib.Core.List.{List, [], ◌∷◌, ◌++◌, map}
use mathlib.Core.Logic.{◌⊎◌, inl, inr, ⊎_elim}
use native.Mathlib.Nat.{le_refl, le_trans}
use native.Mathlib.Omega.{arith}
use lib.ListN.{length, length-append, length-map}
use lib.Dec.{ltb}
use borrow.Author.Tests.{ltb-true, ltb-false, lt-ltb, le-ltb}
use Rattle.law.proofs.Bool.{split, cond_true, cond_false, or_left, or_right, or_none}
use Rattle.job.specs.Formula.{fields}
use Rattle.job.specs.declared.subformula.Subformula.{Subformula}
use Rattle.job.specs.declared.subformula.Subformula.TheVariants as kind
use Rattle.rule_text.specs.Tree.{Tree}
use Rattle.rule_text.specs.Lines.{Basic, atom, prefix, both, until, rewritten, prefix_line, until_line, equal, place, Placed, add, placed, lines_of}
use Rattle.rule_text.specs.Kept.{find, Kept, keep, kept}
use Rattle.rule_text.proofs.AddLaws.{add_cases, add_grows, placed_grows}

-- One line kept: its number, and the lines with it.
pub find_within : (l : List ℕ) (ls : List (List ℕ)) → find l ls ≤ length ls
unfolding find
find_within l [] = omega arith
find_within l (m ∷ ls) =
    let h = find_within l ls in
    split (equal l m)
    (λ t. rw (cond_true (equal l m) 0 (suc (find l ls)) t) (omega arith))
    (λ n. rw (cond_false (equal l m) 0 (suc (find l ls)) n) (omega arith))

module _ (l : List ℕ) (ls : List (List ℕ)) where
  -- all lines are as before, or one more stands behind at most 32
  keep_cases : ((keep l ls).lines ≡ ls) ⊎ ((length ls ≤ 32) × ((keep l ls).lines ≡ ls ++ (l ∷ [])))
  unfolding keep
  keep_cases =
      let test = ltb (find l ls) (length ls) in
      split (ltb 32 (length ls))
      (λ t. inl (cond_true (test || ltb 32 (length ls)) ls (ls ++ (l ∷ [])) (or_right test (ltb 32 (length ls)) t)))
      (λ n. split test
      (λ t. inl (cond_true (test || ltb 32 (length ls)) ls (ls ++ (l ∷ [])) (or_left test (ltb 32 (length ls)) t)))
      (λ u. inr (ltb-false 32 (length ls) n, cond_false (test || ltb 32 (length ls)) ls (ls ++ (l ∷ [])) (or_none test (ltb 32 (length ls)) u n))))

  keep_grows : length ls ≤ length (keep l ls).lines
  keep_grows =
      ⊎_elim
      (λ e. rw e (le_refl (length ls)))
      (λ (h, e). rw (e, length-append ls (l ∷ [])) (omega arith))
      keep_cases

  keep_bounded : length ls ≤ 33 → length (keep l ls).lines ≤ 33
  keep_bounded b =
      ⊎_elim
      (λ e. rw e b)
      (λ (h, e). rw (e, length-append ls (l ∷ [])) (omega arith))
      keep_cases

-- The kept lines are the rule's, as numbers, while these are at most 32; afterwards they stay 33.
abbrev Tracks : List Subformula → List (List ℕ) → Type 0
Tracks ls ks = ((length ls ≤ 32) × (ks ≡ map fields ls)) ⊎ ((32 < length ls) × (length ks ≡ 33))

record Follows (w : Kept) (v : Placed) : Type 0 where
  lines : Tracks v.lines w.lines
  number : length v.lines ≤ 32 → w.number ≡ v.number

find_place : (f : Subformula) (ls : List Subformula) → find (fields f) (map fields ls) ≡ place f ls
unfolding find place
find_place f [] = refl
find_place f (g ∷ ls) = ap (λ n. cond (equal (fields f) (fields g)) 0 (suc n)) (find_place f ls)

pub map_append : (ls : List Subformula) (f : Subformula) → map fields (ls ++ (f ∷ [])) ≡ map fields ls ++ (fields f ∷ [])
map_append [] f = refl
map_append (g ∷ ls) f = ap {B = List (List ℕ)} (λ ks. fields g ∷ ks) (map_append ls f)

-- One line kept beside one written: at most 32 lines, kept as they are.
module _ (f : Subformula) (ls : List Subformula) (short : length ls ≤ 32) where
  count : length (map fields ls) ≡ length ls
  count = length-map ls fields

  keep_found : place f ls < length ls → (keep (fields f) (map fields ls)).lines ≡ map fields ls
  unfolding keep
  keep_found h =
      let early : find (fields f) (map fields ls) < length (map fields ls) = omega (arith, find_place f ls, count) in
      cond_true _ _ _ (or_left _ _ (lt-ltb _ _ early))

  keep_new : place f ls ≡ length ls → (keep (fields f) (map fields ls)).lines ≡ map fields (ls ++ (f ∷ []))
  unfolding keep
  keep_new h =
      let past : length (map fields ls) ≤ find (fields f) (map fields ls) = omega (arith, find_place f ls, count) in
      let room : length (map fields ls) ≤ 32 = omega (arith, count) in
      cond_false _ _ _ (or_none _ _ (le-ltb _ _ past) (le-ltb _ _ room)) ∙ sym (map_append ls f)

  keep_same : (keep (fields f) (map fields ls)).lines ≡ map fields (add f ls).lines
  keep_same =
      ⊎_elim
      (λ (h, e). keep_found h ∙ sym (ap (map fields) e))
      (λ (h, e). keep_new h ∙ sym (ap (map fields) e))
      (add_cases f ls)

  keep_tracks : Tracks (add f ls).lines (keep (fields f) (map fields ls)).lines
  keep_tracks =
      let same : length (keep (fields f) (map fields ls)).lines ≡ length (add f ls).lines =
      ap length keep_same ∙ length-map (add f ls).lines fields in
      let full = keep_bounded (fields f) (map fields ls) (omega (arith, count)) in
      split (ltb 32 (length (add f ls).lines))
      (λ t. let more = ltb-true 32 _ t in inr (more, omega arith))
      (λ n. inl (ltb-false 32 _ n, keep_same))

  keep_number_same : (keep (fields f) (map fields ls)).number ≡ (add f ls).number
  unfolding keep add
  keep_number_same = find_place f ls

-- In any case, if the line is the same as long as there are at most 32.
keep_follows :
    (f : Subformula) (l : List ℕ) (ls : List Subformula) (ks : List (List ℕ))
    → Tracks ls ks
    → (length ls ≤ 32 → l ≡ fields f)
    → Follows (keep l ks) (add f ls)
keep_follows f l ls ks t same =
    ⊎_elim
    (λ (h, e). rw (e, same h) (record { lines = keep_tracks f ls h; number = λ b. keep_number_same f ls h }))
    (λ (h, e).
    record {
      lines = inr (omega (arith, add_grows f ls), omega (arith, keep_grows l ks, keep_bounded l ks (omega arith)));
      number = λ b. absurd (omega (arith, add_grows f ls));
    })
    t

kept_follows : (c : Basic) (ls : List Subformula) (ks : List (List ℕ)) → Tracks ls ks → Follows (kept c ks) (placed c ls)
unfolding kept placed
kept_follows (atom j) ls ks t = keep_follows (kind.Atom j) (fields (kind.Atom j)) ls ks t (λ h. refl)
kept_follows (prefix p f) ls ks t =
    let v = placed f ls in
    let u = kept_follows f ls ks t in
    keep_follows (prefix_line p v.number) _ v.lines _ u.lines (λ h. ap (λ a. fields (prefix_line p a)) (u.number h))
kept_follows (both f g) ls ks t =
    let v = placed f ls in
    let w = placed g v.lines in
    let u = kept_follows f ls ks t in
    let x = kept_follows g v.lines (kept f ks).lines u.lines in
    keep_follows (kind.And v.number w.number) _ w.lines _ x.lines
    (λ h. ap₂ (λ a b. fields (kind.And a b)) (u.number (le_trans (placed_grows g v.lines) h)) (x.number h))
kept_follows (until q f g) ls ks t =
    let v = placed f ls in
    let w = placed g v.lines in
    let u = kept_follows f ls ks t in
    let x = kept_follows g v.lines (kept f ks).lines u.lines in
    keep_follows (until_line q v.number w.number) _ w.lines _ x.lines
    (λ h. ap₂ (λ a b. fields (until_line q a b)) (u.number (le_trans (placed_grows g v.lines) h)) (x.number h))

module _ (f : Tree) where
  lines_tracked : Tracks (lines_of f) (kept (rewritten f) []).lines
  unfolding lines_of
  lines_tracked = (kept_follows (rewritten f) [] [] (inl (omega arith, refl))).lines

  pub kept_lines : length (lines_of f) ≤ 32 → (kept (rewritten f) []).lines ≡ map fields (lines_of f)
  kept_lines h = ⊎_elim (λ (b, e). e) (λ (b, e). absurd (omega arith)) lines_tracked

  pub kept_many : 32 < length (lines_of f) → length (kept (rewritten f) []).lines ≡ 33
  kept_many h = ⊎_elim (λ (b, e). absurd (omega arith)) (λ (b, e). e) lines_tracked
