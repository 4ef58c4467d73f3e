-- Where faces with renamed corners walk each directed edge at most once, so do the faces themselves. Assumes nothing.
use mathlib.Core.Path.{◌≡◌, refl, sym, ap, ◌∙◌, subst}
use mathlib.Core.Bool.{true}
use mathlib.Core.List.{List, [], ◌∷◌, map}
use Prim.Native.Nat.{ℕ, ◌+◌, ◌≤◌, zero-le}
use native.Mathlib.Omega.{arith}
use native.Mathlib.Nat.{le_trans}
use lib.ListN.{length}
use lib.Dec.{T}
use Rattle.rules.specs.Lists.{count}
use Rattle.rules.specs.Mesh.{Face, renamed}
use Rattle.rules.specs.Steps.{Step, step, steps, same, walkers}
use Rattle.rule_laws.proofs.Counting.{count_all, count_le, count_map}
use Rattle.rule_laws.proofs.Takers.{takers, walkers_takers, tally, count_takers}
use Rattle.rule_laws.proofs.Once.{Once, same_eq}
use Rattle.rule_laws.proofs.TwoUsers.{eq_same}

-- more a face is more in all
tally_weaker : (c d : Face → ℕ) → ((f : Face) → c f ≤ d f) → (fs : List Face) → tally (λ i. true) c fs ≤ tally (λ i. true) d fs
unfolding tally
tally_weaker c d h [] = zero-le
tally_weaker c d h (f ∷ fs) = let a = h f in let b = tally_weaker c d h fs in omega arith

-- a tally of changed faces
tally_map : (c : Face → ℕ) (g : Face → Face) (fs : List Face) → tally (λ i. true) c (map g fs) ≡ tally (λ i. true) (λ f. c (g f)) fs
unfolding tally
tally_map c g [] = refl
tally_map c g (f ∷ fs) = ap (λ n. c (g f) + n) (tally_map c g fs)

-- how many walkers, face by face
walkers_tally : (fs : List Face) (d : Step) → length (walkers fs d) ≡ tally (λ i. true) (λ f. count (same d) (steps f)) fs
walkers_tally fs d =
    ap length (walkers_takers fs d) ∙ sym (count_all true (takers (same d) fs)) ∙ count_takers (λ i. true) (same d) fs

-- a step with both ends renamed
abbrev both_ends : (ℕ → ℕ) → Step → Step
both_ends h s = step (h s.from) (h s.to)

-- where the faces renamed walk each directed edge at most once, so do the faces
pub once_back : (h : ℕ → ℕ) (fs : List Face) → Once (map (renamed h) fs) → Once fs
unfolding renamed
once_back h fs once d =
    le_trans
    (subst (λ k. k ≤ tally (λ i. true) (λ f. count (same (both_ends h d)) (steps (renamed h f))) fs) (sym (walkers_tally fs d))
    (tally_weaker (λ f. count (same d) (steps f)) (λ f. count (same (both_ends h d)) (steps (renamed h f))) face_by_face fs))
    (subst (λ k. k ≤ 1) (walkers_tally (map (renamed h) fs) (both_ends h d) ∙ tally_map (λ f. count (same (both_ends h d)) (steps f)) (renamed h) fs) (once (both_ends h d)))
  where
    both : (s : Step) → T (same d s) → T (same (both_ends h d) (both_ends h s))
    both s t = let e = same_eq d s t in eq_same (both_ends h d) (both_ends h s) (ap h e.0) (ap h e.1)

    face_by_face : (f : Face) → count (same d) (steps f) ≤ count (same (both_ends h d)) (steps (renamed h f))
    face_by_face f =
        subst (λ k. count (same d) (steps f) ≤ k) (sym (count_map (same (both_ends h d)) (both_ends h) (steps f)))
        (count_le (same d) (λ s. same (both_ends h d) (both_ends h s)) (steps f) (λ s m t. both s t))
