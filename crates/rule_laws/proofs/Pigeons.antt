-- A list with n different members has at least n elements; so where all points are used, there are at most three for each face. Assumes nothing.
use mathlib.Core.Path.{◌≡◌, refl, sym, ap, ◌∙◌}
use mathlib.Core.Logic.{◌⊎◌, inl, inr, ◌≢◌}
use mathlib.Core.List.Memᴰ
use mathlib.Core.List.{List, ◌∷◌, Memᴰ}
use Prim.Native.Nat.{ℕ, zero, suc, ◌*◌, ◌≤◌, ◌<◌, zero-le, suc-le-suc}
use native.Mathlib.Omega.{arith}
use lib.ListN.{length}
use lib.Dec.{T}
use Rattle.rules.specs.Lists.{each, has}
use Rattle.rules.specs.Mesh.{Face, corners}
use Rattle.rules.specs.Pass6.{used}
use Rattle.rule_laws.proofs.Lists.{length_each}
use Rattle.rule_laws.proofs.Members.{any_mem, has_mem, mem_each}

module _ {A : Type 0} where
  -- a list without one of its members: one shorter, and all others are still in it
  remove : (x : A) (ys : List A) → Memᴰ x ys → (zs : List A) × (length ys ≡ suc (length zs)) × ((y : A) → Memᴰ y ys → y ≢ x → Memᴰ y zs)
  remove x (y ∷ ys) (Memᴰ.head e) = (ys, refl, (λ z m ne. go z ne (Memᴰ.cases_cons m)))
    where
      go : (z : A) → z ≢ x → (z ≡ y) ⊎ Memᴰ z ys → Memᴰ z ys
      go z ne (inl q) = absurd (ne (q ∙ sym e))
      go z ne (inr m) = m
  remove x (y ∷ ys) (Memᴰ.tail k) = after (remove x ys k)
    where
      after : (zs : List A) × (length ys ≡ suc (length zs)) × ((z : A) → Memᴰ z ys → z ≢ x → Memᴰ z zs)
          → (zs : List A) × (length (y ∷ ys) ≡ suc (length zs)) × ((z : A) → Memᴰ z (y ∷ ys) → z ≢ x → Memᴰ z zs)
      after r = (y ∷ r.0, ap suc r.1, (λ z m ne. go z ne (Memᴰ.cases_cons m)))
        where
          go : (z : A) → z ≢ x → (z ≡ y) ⊎ Memᴰ z ys → Memᴰ z (y ∷ r.0)
          go z ne (inl q) = Memᴰ.head q
          go z ne (inr m) = Memᴰ.tail (r.2 z m ne)
  remove x mathlib.Core.List.[] x'' = elim x'' [ ]

  -- n different members make a list of at least n
  pub fewer :
      (g : ℕ → A) (n : ℕ) (ys : List A) → ((k : ℕ) → k < n → Memᴰ (g k) ys) → ((k l : ℕ) → k < l → l < n → g k ≢ g l) → n ≤ length ys
  fewer g zero ys all apart = zero-le
  fewer g (suc n) ys all apart = go (remove (g n) ys (all n (omega arith))) (λ zs. fewer g n zs)
    where
      go : (zs : List A) × (length ys ≡ suc (length zs)) × ((y : A) → Memᴰ y ys → y ≢ g n → Memᴰ y zs)
          → ((zs : List A) → ((k : ℕ) → k < n → Memᴰ (g k) zs) → ((k l : ℕ) → k < l → l < n → g k ≢ g l) → n ≤ length zs)
          → suc n ≤ length ys
      go r ih =
          let l = ih r.0 (λ k h. r.2 (g k) (all k (omega arith)) (apart k n h (omega arith))) (λ k l h i. apart k l h (omega arith)) in
          rw r.1 (suc-le-suc l)

-- every point is some face's corner, so there are at most three for each face
pub few_points : (P : ℕ) (fs : List Face) → ((v : ℕ) → v < P → T (used fs v)) → P ≤ 3 * length fs
few_points P fs h = rw (← length_each 3 corners (λ f. refl) fs) (fewer (λ v. v) P (each corners fs) corner (λ k l kl lp e. omega arith))
  where
    corner : (v : ℕ) → v < P → Memᴰ v (each corners fs)
    corner v l =
        let w = any_mem (λ f. has v (corners f)) fs (unfold used in h v l) in
        mem_each corners w.0 v fs w.1 (has_mem v (corners w.0) w.2)
