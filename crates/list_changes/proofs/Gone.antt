-- Faces that are gone, by their origins: what is left of the faces that stand, when one more leaves and when faces are changed. Assumes nothing.
use mathlib.Core.Path.{◌≡◌, refl, sym, ap, ◌∙◌}
use mathlib.Core.Bool.{Bool, true, false, not, ◌&&◌, ◌||◌, cond}
use mathlib.Core.List.{List, [], ◌∷◌, map}
use Prim.Native.Nat.{ℕ, suc, ◌+◌}
use native.Mathlib.Nat.{add-zero, zero-add}
use native.Mathlib.Omega.{arith}
use lib.Dec.{eqb}
use Rattle.rules.specs.Lists.{filter, leave}
use Rattle.rules.specs.Mesh.{Face, faces_from, faces_of}
use Rattle.rule_laws.proofs.Lists.{filter_map}

-- two tests one after the other
filter_and : {A : Type 0} (p q : A → Bool) (xs : List A) → filter p (filter q xs) ≡ filter (λ x. q x && p x) xs
unfolding filter
filter_and p q [] = refl
filter_and p q (x ∷ xs) = go (q x) (filter_and p q xs)
  where
    go : (b : Bool) → filter p (filter q xs) ≡ filter (λ y. q y && p y) xs → filter p (cond b (x ∷ filter q xs) (filter q xs)) ≡ cond (b && p x) (x ∷ filter (λ y. q y && p y) xs) (filter (λ y. q y && p y) xs)
    go true e = rw e
    go false e = e

-- the faces that are not gone
abbrev pub left : (ℕ → Bool) → List Face → List Face
left gone fs = filter (λ g. not (gone g.origin)) fs

-- one face more is gone
pub one_more_gone : (gone : ℕ → Bool) (f : ℕ) (fs : List Face) → filter (λ g. not (eqb f g.origin)) (left gone fs) ≡ left (λ o. gone o || eqb f o) fs
one_more_gone gone f fs =
    filter_and (λ g. not (eqb f g.origin)) (λ g. not (gone g.origin)) fs
    ∙ ap (λ (p : Face → Bool). filter p fs) (λ k g. neither (gone g.origin) (eqb f g.origin) k)
  where
    neither : (a b : Bool) → (not a && not b) ≡ not (a || b)
    neither true b = refl
    neither false b = refl

-- faces that are changed but for their origins
pub left_changed : (gone : ℕ → Bool) (h : Face → Face) → ((g : Face) → (h g).origin ≡ g.origin) → (fs : List Face) → map h (left gone fs) ≡ left gone (map h fs)
left_changed gone h own fs =
    sym (filter_map (λ g. not (gone g.origin)) h fs ∙ ap (λ (p : Face → Bool). map h (filter p fs)) (λ k g. not (gone (own g k))))

-- where each face is its own origin, those at the marked places have left
left_from : (gone marked : ℕ → Bool) (k : ℕ) (xs : List ℕ) → ((i : ℕ) → gone (k + i) ≡ marked i) → left gone (faces_from k xs) ≡ leave marked (faces_from k xs)
unfolding filter leave faces_from
left_from gone marked k [] h = refl
left_from gone marked k (a ∷ []) h = refl
left_from gone marked k (a ∷ b ∷ []) h = refl
left_from gone marked k (a ∷ b ∷ c ∷ xs) h =
    let e : gone k ≡ marked 0 = ap gone (sym (add-zero k)) ∙ h 0 in
    rw e (go (marked 0) (left_from gone (λ i. marked (suc i)) (suc k) xs (λ i. ap gone (on i) ∙ h (suc i))))
  where
    on : (i : ℕ) → suc k + i ≡ k + suc i
    on i = omega arith

    go : (t : Bool) → left gone (faces_from (suc k) xs) ≡ leave (λ i. marked (suc i)) (faces_from (suc k) xs)
        → cond (not t) (record { a = a; b = b; c = c; origin = k } ∷ left gone (faces_from (suc k) xs)) (left gone (faces_from (suc k) xs))
        ≡ cond t (leave (λ i. marked (suc i)) (faces_from (suc k) xs)) (record { a = a; b = b; c = c; origin = k } ∷ leave (λ i. marked (suc i)) (faces_from (suc k) xs))
    go true r = r
    go false r = rw r

pub left_leave : (gone : ℕ → Bool) (xs : List ℕ) → left gone (faces_of xs) ≡ leave gone (faces_of xs)
left_leave gone xs = left_from gone gone 0 xs (λ i. ap gone (zero-add i))
