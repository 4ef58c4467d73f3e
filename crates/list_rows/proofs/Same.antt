-- Lines told by fates that are the same for each input face are the same. Assumes nothing.
use mathlib.Core.Path.{◌≡◌, refl, ap, ◌∙◌, sym}
use mathlib.Core.Bool.{cond}
use mathlib.Core.List.{List, [], ◌∷◌, ◌++◌}
use Prim.Native.Nat.{ℕ, zero, suc, ◌%◌, ◌<◌}
use native.Mathlib.Omega.{arith}
use lib.Dec.{eqb, leb}
use Rattle.rules.specs.Lists.{below, each}
use Rattle.rules.specs.Mending.{Reason, Line, dropped_face, exchange, for_repeated, for_thin}
use Rattle.rule_laws.proofs.Lists.{each_append}
use Rattle.mending_rows.specs.Told.{code, drop_told, drops_told, first_told, exchanges_told}

-- each of the numbers below n tells the same
each_told : (h g : ℕ → List Line) (n : ℕ) → ((i : ℕ) → i < n → h i ≡ g i) → each h (below n) ≡ each g (below n)
unfolding below each
each_told h g zero e = refl
each_told h g (suc n) e =
    each_append h (below n) (n ∷ [])
    ∙ (let a = each_told h g n (λ i l. e i (omega arith)) in
    let b = e n (omega arith) in
    λ i. a i ++ (b i ++ []))
    ∙ sym (each_append g (below n) (n ∷ []))

module _ (fate same : ℕ → ℕ) (F : ℕ) (e : (f : ℕ) → f < F → fate f ≡ same f) where
  -- the faces that leave in pass 1
  pub first_same : first_told fate F ≡ first_told same F
  unfolding first_told drop_told
  first_same =
      each_told (λ f. drop_told fate for_repeated f ++ drop_told fate for_thin f) (λ f. drop_told same for_repeated f ++ drop_told same for_thin f) F
      (λ f h. ap (λ k. cond (eqb (k % 8) (code for_repeated)) (dropped_face f for_repeated ∷ []) [] ++ cond (eqb (k % 8) (code for_thin)) (dropped_face f for_thin ∷ []) []) (e f h))

  -- those that leave in another pass
  pub drops_same : (why : Reason) → drops_told fate why F ≡ drops_told same why F
  unfolding drops_told drop_told
  drops_same why = each_told (drop_told fate why) (drop_told same why) F (λ f h. ap (λ k. cond (eqb (k % 8) (code why)) (dropped_face f why ∷ []) []) (e f h))

  -- those that are exchanged
  pub exchanges_same : exchanges_told fate F ≡ exchanges_told same F
  unfolding exchanges_told
  exchanges_same = each_told (λ f. cond (leb 8 (fate f)) (exchange f ∷ []) []) (λ f. cond (leb 8 (same f)) (exchange f ∷ []) []) F (λ f h. ap (λ k. cond (leb 8 k) (exchange f ∷ []) []) (e f h))
