-- A state's place in a fragment: which of the three it is in, and which edges put it there. Assumes nothing.
use Prim.Native.Nat.{ℕ}
use mathlib.Core.Path.{◌≡◌, refl, ◌∙◌, ap}
use mathlib.Core.Bool.{Bool, true, false, cond, not, ◌&&◌}
use denote.Enum.Bare.{sameb}
use Rattle.job.specs.Job.{Job}
use Rattle.cells.specs.Fragment.{in_fragment, edge_out, border, inner}
use Rattle.image.specs.Image.{place_of}
use Rattle.image.specs.declared.place.Place.{Place}
use Rattle.image.specs.contracts.place.Place.{the_type}
use Rattle.image.specs.declared.place.Place.TheVariants.{Outside, Border, Inner}

-- whether two places are the same, as `==` has it
abbrev pub same_place : Place → Place → Bool
same_place = sameb the_type

-- each place, by whether a state is in the fragment and has an edge out there
abbrev placed : Bool → Bool → Place
placed i o = cond (i && o) Inner (cond i Border Outside)

is_inner : (i o : Bool) → same_place (placed i o) Inner ≡ (i && o)
is_inner true true = refl
is_inner true false = refl
is_inner false o = refl

is_border : (i o : Bool) → same_place (placed i o) Border ≡ (i && not o)
is_border true true = refl
is_border true false = refl
is_border false o = refl

is_outside : (i o : Bool) → same_place (placed i o) Outside ≡ not i
is_outside true true = refl
is_outside true false = refl
is_outside false o = refl

-- a place that was read, compared
module _ (J : Job) (n s : ℕ) (p : Place) (is : p ≡ place_of J n s) where
  pub place_inner : same_place p Inner ≡ inner J n s
  unfolding place_of inner
  place_inner = ap (λ q. same_place q Inner) is ∙ is_inner (in_fragment J n s) (edge_out J n s)

  pub place_border : same_place p Border ≡ border J n s
  unfolding place_of inner border
  place_border = ap (λ q. same_place q Border) is ∙ is_border (in_fragment J n s) (edge_out J n s)

  pub place_outside : same_place p Outside ≡ not (in_fragment J n s)
  unfolding place_of inner
  place_outside = ap (λ q. same_place q Outside) is ∙ is_outside (in_fragment J n s) (edge_out J n s)
