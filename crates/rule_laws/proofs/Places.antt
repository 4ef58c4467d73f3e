-- The steps along a loop, by places: from the vertex at place k + 1, round the end, to the one at place k. Assumes nothing.
use mathlib.Core.Path.{◌≡◌, refl, sym, ap, ◌∙◌}
use mathlib.Core.List.{List, [], ◌∷◌, ◌++◌, map, map-map}
use Prim.Native.Nat.{ℕ, suc, ◌%◌, ◌<◌, suc-le-suc}
use native.Mathlib.Omega.{arith}
use native.Mathlib.Nat.{mod-eq_of_lt, mod_self}
use native.Mathlib.Decide.{dec_lt}
use lib.ListN.{length, get_or, get_or-append}
use lib.Seq.{get_or_at}
use Rattle.rules.specs.Lists.{below, each}
use Rattle.rules.specs.Edges.{loops}
use Rattle.rules.specs.Open.{every_rule}
use Rattle.rules.specs.Steps.{step}
use Rattle.rule_laws.proofs.Lists.{below_suc}
use Rattle.rule_laws.proofs.Rising.{all_imp, below_all, map_same}
use Rattle.rule_laws.proofs.Demand.{along, loop_steps}

-- one after the other, with z at the end
along_places : (z : ℕ) (l : List ℕ) → along z l ≡ map (λ k. step (get_or (l ++ (z ∷ [])) (suc k) 0) (get_or l k 0)) (below (length l))
unfolding along
along_places z [] = unfold below in refl
along_places z (x ∷ []) = unfold below in refl
along_places z (x ∷ y ∷ l) =
    rw (below_suc (suc (length l)), map-map (λ k. step (get_or (y ∷ l ++ (z ∷ [])) k 0) (get_or (x ∷ y ∷ l) k 0)) suc (below (suc (length l))))
    (ap (λ r. step y x ∷ r) (along_places z (y ∷ l)))

-- the place after the last is the first
pub loop_places : (l : List ℕ) → loop_steps l ≡ map (λ k. step (get_or l (suc k % length l) 0) (get_or l k 0)) (below (length l))
unfolding loop_steps
loop_places [] = unfold below in refl
loop_places (x ∷ l) =
    along_places x (x ∷ l)
    ∙ map_same (λ k. step (get_or (x ∷ l ++ (x ∷ [])) (suc k) 0) (get_or (x ∷ l) k 0)) (λ k. step (get_or (x ∷ l) (suc k % suc (length l)) 0) (get_or (x ∷ l) k 0)) (below (suc (length l)))
    (all_imp (λ k. k < suc (length l)) (λ k. step (get_or (x ∷ l ++ (x ∷ [])) (suc k) 0) (get_or (x ∷ l) k 0) ≡ step (get_or (x ∷ l) (suc k % suc (length l)) 0) (get_or (x ∷ l) k 0))
    (λ k h. ap (λ v. step v (get_or (x ∷ l) k 0)) (after k h (dec_lt k (length l)))) (below (suc (length l))) (below_all (suc (length l))))
  where
    after : (k : ℕ) → k < suc (length l) → Dec (k < length l) → get_or (l ++ (x ∷ [])) k 0 ≡ get_or (x ∷ l) (suc k % suc (length l)) 0
    after k h (yes i) = get_or-append l (x ∷ []) 0 k i ∙ ap (λ n. get_or (x ∷ l) n 0) (sym (mod-eq_of_lt (suc-le-suc i)))
    after k h (no i) =
        let e : length l ≡ k = omega arith in
        get_or_at l x [] 0 k e ∙ ap (λ n. get_or (x ∷ l) n 0) (sym (mod_self (suc (length l))) ∙ ap (λ n. suc n % suc (length l)) e)

-- a loop listed 3, 2, 1 was walked 1, 2, 3
three_two_one : loop_steps (3 ∷ 2 ∷ 1 ∷ []) ≡ step 2 3 ∷ step 1 2 ∷ step 3 1 ∷ []
unfolding loop_steps along
three_two_one = refl

-- one triangle: its loop is walked along its three steps
triangle : each loop_steps (loops 3 (record { a = 0; b = 1; c = 2; origin = 0 } ∷ [])) ≡ step 1 2 ∷ step 0 1 ∷ step 2 0 ∷ []
unfolding every_rule loop_steps along
triangle = refl
