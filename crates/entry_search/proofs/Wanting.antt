-- Which entries are wanted: how many steps a face has is enough to tell. Assumes nothing.
use mathlib.Core.Path.{◌≡◌, refl, sym, ◌∙◌}
use mathlib.Core.Bool.{Bool, true, false, beq, cond}
use mathlib.Core.List.{List, [], ◌∷◌}
use Prim.Native.Nat.{ℕ, ◌-◌, ◌≤◌, ◌<◌, min, max}
use native.Mathlib.Omega.{arith}
use borrow.Author.Tests.{lt-ltb, le-ltb}
use lib.Dec.{eqb, ltb}
use lib.ListN.{length, drop}
use mir.Val.{bool_byte}
use Rattle.std.specs.Option.{option_eq}
use Rattle.std.specs.Prelude.{Option, None, Some}
use Rattle.rules.specs.Lists.{filter}
use Rattle.rules.specs.Mesh.{Face}
use Rattle.rules.specs.Steps.{Step, step, steps, edge, walks}
use Rattle.entry_search.specs.Searching.{along}
use Rattle.entry_search.specs.Choosing.{walks_so, is_but, wanted, admits}

-- the face of which an entry is not counted is compared
pub passed_is : (but : Option ℕ) (f : ℕ) {b : Bool} {n : ℕ} → n ≡ bool_byte b → b ≡ option_eq eqb (Some f) but → n ≡ cond (is_but but f) 1 0
passed_is None f e g = rw (e, g)
passed_is (Some h) f e g = rw (e, g) (go (eqb f h))
  where
    go : (b : Bool) → bool_byte b ≡ cond b 1 0
    go true = refl
    go false = refl

-- one fewer
drop_length : (ss : List Step) → length (drop 1 ss) ≡ length ss - 1
drop_length [] = refl
drop_length (s ∷ ss) = omega arith

module _ (walk : Option Bool) (but : Option ℕ) (d : Bool) (t : Step) (v : Face) (f : ℕ) {u passed : ℕ} (eu : u ≡ length (filter (along d t) (steps v))) (ep : passed ≡ cond (is_but but f) 1 0) where
  abbrev us : List Step
  us = filter (along d t) (steps v)

  abbrev rest : List Step
  rest = cond (is_but but f) (drop 1 us) us

  rest_long : length rest ≡ u - passed
  rest_long = go (is_but but f) ep
    where
      go : (b : Bool) → passed ≡ cond b 1 0 → length (cond b (drop 1 us) us) ≡ u - passed
      go true e = drop_length us ∙ rw (← eu, e)
      go false e = rw (← eu, e) (omega arith)

  -- nothing is left
  pub admits_none : u ≤ passed → false ≡ admits walk but d t v f
  unfolding admits wanted
  admits_none h = sym (le-ltb 0 (length (cond (walks_so walk (walks v (edge t))) rest [])) (go (walks_so walk (walks v (edge t)))))
    where
      go : (x : Bool) → length (cond x rest []) ≤ 0
      go true = omega (arith, rest_long)
      go false = omega arith

  module _ (h : passed < u) where
    some : ltb 0 (length rest) ≡ true
    some = lt-ltb 0 (length rest) (omega (arith, rest_long))

    -- any face is wanted
    pub admits_any : walk ≡ None → true ≡ admits walk but d t v f
    unfolding admits wanted
    admits_any e = rw e (sym some)

    -- only one that walks the edge so
    pub admits_so : {x : Bool} → walk ≡ Some x → {lo hi : ℕ} → lo ≡ min t.from t.to → hi ≡ max t.from t.to → {r : Bool} → r ≡ walks v (step lo hi) → beq r x ≡ admits walk but d t v f
    unfolding admits wanted
    admits_so {x} k el eh {r} e = rw (k, ← by_edge) (go (beq r x))
      where
        by_edge : r ≡ walks v (edge t)
        by_edge = unfold edge in (rw (el, eh) at e)

        go : (c : Bool) → c ≡ ltb 0 (length (cond c rest []))
        go true = sym some
        go false = refl
