-- A user of an edge steps along it, one way or the other. Assumes nothing.
use mathlib.Core.Path.{◌≡◌, refl, sym, ap, ap₂, subst, ◌∙◌}
use mathlib.Core.Logic.{◌⊎◌, inl, inr}
use mathlib.Core.Bool.{Bool, true, false, ◌||◌, or-true}
use mathlib.Core.List.{List, [], ◌∷◌, map, Memᴰ}
use Prim.Native.Nat.{ℕ, suc, ◌≤◌, ◌<◌, min, max}
use native.Mathlib.Omega.{arith}
use native.Mathlib.Decide.{dec_le}
use borrow.Author.Tests.{eq-eqb}
use lib.Dec.{T, eqb}
use lib.Ieee.Fits.{and_i}
use lib.Ieee.Bits.{is_true}
use lib.ListN.{length}
use Rattle.rules.specs.Lists.{below, filter, any, each}
use Rattle.rules.specs.Mesh.{Face, face}
use Rattle.rules.specs.Steps.{Step, step, steps, opposite, edge, same, walks, entries, users}
use Rattle.rule_laws.proofs.Tests.{or_left, or_right, or_elim, both_ways}
use Rattle.rule_laws.proofs.Rising.{All, all_append, all_map, all_imp, all_filter}
use Rattle.rule_laws.proofs.Members.{any_intro, all_members}
use Rattle.rule_laws.proofs.Once.{same_is}
use Rattle.rule_laws.proofs.Takers.{takers, users_takers, takers_cons}
use Rattle.orienting.proofs.Turns.{edge_opposite}

-- a face that takes a step which passes the test has such a step
pub takers_take : (p : Step → Bool) (fs : List Face) → All (λ n. (n < length fs) × T (any p (steps (face fs n)))) (takers p fs)
unfolding face
takers_take p [] = unfold entries each filter below in tt
takers_take p (f ∷ fs) =
    rw (takers_cons p f fs)
    (all_append Q (map (λ s. 0) (filter p (steps f))) (map suc (takers p fs))
    (all_map Q (λ s. 0) (filter p (steps f)) (all_imp (λ s. Memᴰ s (steps f) × T (p s)) (λ s. Q 0) (λ s h. (omega arith, any_intro p s (steps f) h.0 h.1)) (filter p (steps f)) (all_filter (λ s. Memᴰ s (steps f)) p (steps f) (all_members (steps f)))))
    (all_map Q suc (takers p fs) (all_imp (λ n. (n < length fs) × T (any p (steps (face fs n)))) (λ n. Q (suc n)) (λ n h. (omega (arith, h.0), h.1)) (takers p fs) (takers_take p fs))))
  where
    Q : ℕ → Type 0
    Q n = (n < suc (length fs)) × T (any p (steps (face (f ∷ fs) n)))

-- one of two tests passes somewhere
any_or : (p q : Step → Bool) (ss : List Step) → any (λ s. p s || q s) ss ≡ (any p ss || any q ss)
unfolding any
any_or p q [] = refl
any_or p q (s ∷ ss) = rw (any_or p q ss) (four (p s) (q s) (any p ss) (any q ss))
  where
    four : (a b c d : Bool) → ((a || b) || (c || d)) ≡ ((a || c) || (b || d))
    four true b c d = refl
    four false true c d = sym (or-true c)
    four false false c d = refl

-- equal ends in either order
ends : (a b c d : ℕ) → min a b ≡ min c d → max a b ≡ max c d → ((a ≡ c) × (b ≡ d)) ⊎ ((a ≡ d) × (b ≡ c))
ends a b c d e f = go (dec_le a b) (dec_le c d)
  where
    go : Dec (a ≤ b) → Dec (c ≤ d) → ((a ≡ c) × (b ≡ d)) ⊎ ((a ≡ d) × (b ≡ c))
    go (yes x) (yes y) = inl (omega arith, omega arith)
    go (yes x) (no y) = inr (omega arith, omega arith)
    go (no x) (yes y) = inr (omega arith, omega arith)
    go (no x) (no y) = inl (omega arith, omega arith)

-- a step is the same as itself
same_self : (s : Step) → T (same s s)
unfolding same
same_self s = and_i (eqb s.from s.from) (eqb s.to s.to) (subst T (sym (eq-eqb s.from s.from refl)) tt) (subst T (sym (eq-eqb s.to s.to refl)) tt)

-- a step along the edge of s is s or the opposite one
same_edge : (s t : Step) → same (edge s) (edge t) ≡ (same s t || same (opposite s) t)
same_edge s t =
    both_ways (same (edge s) (edge t)) (same s t || same (opposite s) t)
    (λ h. let e = same_is (edge s) (edge t) h in either (unfold edge in ends s.from s.to t.from t.to (ap (λ x. x.from) e) (ap (λ x. x.to) e)))
    (λ h. along (or_elim (same s t) (same (opposite s) t) h))
  where
    either : ((s.from ≡ t.from) × (s.to ≡ t.to)) ⊎ ((s.from ≡ t.to) × (s.to ≡ t.from)) → T (same s t || same (opposite s) t)
    either (inl q) = or_left (same s t) (same (opposite s) t) (subst (λ x. T (same s x)) (ap₂ (λ x y. step x y) q.0 q.1) (same_self s))
    either (inr q) =
        let e : opposite s ≡ t = unfold opposite in ap₂ (λ x y. step x y) q.1 q.0 in
        or_right (same s t) (same (opposite s) t) (subst (λ x. T (same (opposite s) x)) e (same_self (opposite s)))

    along : T (same s t) ⊎ T (same (opposite s) t) → T (same (edge s) (edge t))
    along (inl q) = subst (λ x. T (same (edge s) (edge x))) (same_is s t q) (same_self (edge s))
    along (inr q) = subst (λ x. T (same (edge s) x)) (sym (edge_opposite s) ∙ ap edge (same_is (opposite s) t q)) (same_self (edge s))

-- so of a list
any_same : (s : Step) (ss : List Step) → any (λ t. same (edge s) (edge t)) ss ≡ any (λ t. same s t || same (opposite s) t) ss
unfolding any
any_same s [] = refl
any_same s (t ∷ ss) = ap₂ (λ x y. x || y) (same_edge s t) (any_same s ss)

-- a user of the edge of s makes the step s or the opposite one
pub users_walk : (fs : List Face) (s : Step) → All (λ n. (n < length fs) × ((walks (face fs n) s || walks (face fs n) (opposite s)) ≡ true)) (users fs (edge s))
unfolding walks
users_walk fs s =
    rw (users_takers fs (edge s))
    (all_imp (λ n. (n < length fs) × T (any (λ t. same (edge s) (edge t)) (steps (face fs n))))
    (λ n. (n < length fs) × ((any (same s) (steps (face fs n)) || any (same (opposite s)) (steps (face fs n))) ≡ true))
    (λ n h. (h.0, sym (any_or (same s) (same (opposite s)) (steps (face fs n))) ∙ sym (any_same s (steps (face fs n))) ∙ is_true (any (λ t. same (edge s) (edge t)) (steps (face fs n))) h.1))
    (takers (λ t. same (edge s) (edge t)) fs)
    (takers_take (λ t. same (edge s) (edge t)) fs))
