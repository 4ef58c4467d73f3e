-- Who of a run does not make a step: one number, face by face. Assumes nothing.
use mathlib.Core.Path.{◌≡◌, refl, sym, ap, ◌∙◌}
use mathlib.Core.Bool.{Bool, true, false, not, cond}
use mathlib.Core.List.{List, [], ◌∷◌, ◌++◌, map, map-append}
use Prim.Native.Nat.{ℕ, suc, ◌+◌, ◌-◌, ◌/◌, ◌≤◌, ◌<◌}
use native.Mathlib.Omega.{arith}
use native.Mathlib.Numerals.{add-one}
use borrow.Author.Tests.{eq-eqb, ne_eqb}
use lib.ListN.{length, get_or}
use Rattle.rows.specs.Region.{part}
use Rattle.rows.proofs.Regions.{part_suc}
use Rattle.rules.specs.Lists.{filter, through}
use Rattle.rules.specs.Mesh.{Face, face}
use Rattle.rules.specs.Steps.{Step, walks}
use Rattle.rule_laws.proofs.Lists.{filter_append, through_append}
use Rattle.orienting.specs.Reaching.{sole, lone}
use Rattle.reaching.specs.Walking.{faces_in, met}

module _ (fs : List Face) (n : ℕ) (t : Step) (known i : ℕ) where
  -- a face that makes the step is not noted
  pub met_none : true ≡ walks (face fs i) t → known ≡ met fs n t known i
  met_none e = rw (← e)

  -- the first that does not
  pub met_alone : false ≡ walks (face fs i) t → known ≡ 0 → i + 1 ≡ met fs n t known i
  unfolding sole
  met_alone e z = rw (← e, eq-eqb known 0 z) (add-one i)

  -- the same again
  pub met_same : false ≡ walks (face fs i) t → (known ≡ 0 → ⊥) → known ≡ i + 1 → known ≡ met fs n t known i
  unfolding sole
  met_same e z s = rw (← e, ne_eqb known 0 z, eq-eqb known (suc i) (s ∙ add-one i))

  -- another
  pub met_many : false ≡ walks (face fs i) t → (known ≡ 0 → ⊥) → (known ≡ i + 1 → ⊥) → n + 1 ≡ met fs n t known i
  unfolding sole
  met_many e z s = rw (← e, ne_eqb known 0 z, ne_eqb known (suc i) (λ q. s (q ∙ sym (add-one i))))

-- one user more
pub lone_next : (fs : List Face) (n : ℕ) (t : Step) (us : List ℕ) (i : ℕ) → lone (n + 1) fs t (us ++ (i ∷ [])) ≡ met fs n t (lone (n + 1) fs t us) i
unfolding lone
lone_next fs n t us i =
    ap (through (sole (n + 1)) 0) (filter_append (λ k. not (walks (face fs k) t)) us (i ∷ []))
    ∙ through_append (sole (n + 1)) 0 (filter (λ k. not (walks (face fs k) t)) us) (filter (λ k. not (walks (face fs k) t)) (i ∷ []))
    ∙ go (walks (face fs i) t) refl
  where
    c : ℕ
    c = through (sole (n + 1)) 0 (filter (λ k. not (walks (face fs k) t)) us)

    go : (b : Bool) → walks (face fs i) t ≡ b → through (sole (n + 1)) c (filter (λ k. not (walks (face fs k) t)) (i ∷ [])) ≡ cond b c (sole (n + 1) c i)
    go true e = unfold through filter in rw e
    go false e = unfold through filter in rw e

-- one entry more
pub faces_next : (w : List ℕ) (from k : ℕ) → from ≤ k → k < length w → faces_in w from (k + 1) ≡ faces_in w from k ++ (get_or w k 0 / 3 ∷ [])
faces_next w from k a l =
    let e : k + 1 - from ≡ suc (k - from) = omega arith in
    let p : from + (k - from) ≡ k = omega arith in
    ap (λ m. map (λ id. id / 3) (part w from m)) e
    ∙ ap (map (λ id. id / 3)) (part_suc w from (k - from) (omega arith) ∙ ap (λ j. part w from (k - from) ++ (get_or w j 0 ∷ [])) p)
    ∙ map-append (λ id. id / 3) (part w from (k - from)) (get_or w k 0 ∷ [])
