-- The laws of merging two roots: what had one root keeps one, the two have one, and the roots stay within the groups. Assumes nothing.
use mathlib.Core.Path.{◌≡◌, refl, sym, ap, ◌∙◌, subst}
use mathlib.Core.Bool.{Bool}
use mathlib.Core.List.{Memᴰ}
use Prim.Native.Nat.{ℕ, ◌≤◌, ◌<◌, min, max}
use native.Mathlib.Omega.{arith}
use native.Mathlib.Decide.{ℕ_discrete, dec_lt}
use lib.Dec.{T}
use Rattle.rules.specs.Groups.{group}
use Rattle.rule_laws.proofs.Groups.{group_self, group_closed, group_within}
use Rattle.rule_laws.proofs.Leaders.{group_sym, group_trans}
use Rattle.flood.specs.Parents.{linked, merged}
use Rattle.flood.specs.Uniting.{Turns, Within, Finer}
use Rattle.flood.proofs.Forests.{linked_hit, linked_miss, linked_low, linked_same}

-- no step, and two steps, after which what had one root has one
pub finer_none : (root : ℕ → ℕ) → Finer root root
finer_none root = record { each = λ x y e. e }

pub finer_both : {a b c : ℕ → ℕ} → Finer a b → Finer b c → Finer a c
finer_both p q = record { each = λ x y e. q.each x y (p.each x y e) }

module _ (root : ℕ → ℕ) (x y : ℕ) where
  -- what had one root has one
  pub merged_finer : Finer root (merged root x y)
  merged_finer = record { each = linked_same root (min (root x) (root y)) (max (root x) (root y)) }

  -- the lower of the two roots is that of x, or that of y
  pub merged_lower : root x < root y → merged root x y ≡ linked root (root x) (root y)
  merged_lower l =
      let a : min (root x) (root y) ≡ root x = omega arith in
      let b : max (root x) (root y) ≡ root y = omega arith in
      ap (λ (i : ℕ). linked root i (max (root x) (root y))) a ∙ ap (linked root (root x)) b

  pub merged_higher : root y ≤ root x → merged root x y ≡ linked root (root y) (root x)
  merged_higher l =
      let a : min (root x) (root y) ≡ root y = omega arith in
      let b : max (root x) (root y) ≡ root x = omega arith in
      ap (λ (i : ℕ). linked root i (max (root x) (root y))) a ∙ ap (linked root (root y)) b

  -- x and y have one root
  pub merged_one : merged root x y x ≡ merged root x y y
  merged_one = go (dec_lt (root x) (root y))
    where
      go : Dec (root x < root y) → merged root x y x ≡ merged root x y y
      go (yes l) = subst (λ (f : ℕ → ℕ). f x ≡ f y) (sym (merged_lower l)) (linked_low root (root x) (root y) x refl ∙ sym (linked_hit root (root x) (root y) y refl))
      go (no l) = subst (λ (f : ℕ → ℕ). f x ≡ f y) (sym (merged_higher (omega arith))) (linked_hit root (root y) (root x) x refl ∙ sym (linked_low root (root y) (root x) y refl))

module _ {joined : ℕ → ℕ → Bool} {n : ℕ} {root : ℕ → ℕ} (t : Turns joined) (s : Within joined n root) where
  -- where `low` and `high` are of one group, what had the root `high` has one of its group
  linked_within : (low high : ℕ) → Memᴰ low (group joined n high) → Within joined n (linked root low high)
  linked_within low high m = record { each = λ z k. go z k (ℕ_discrete (root z) high) }
    where
      go : (z : ℕ) → z < n → Dec (root z ≡ high) → Memᴰ (linked root low high z) (group joined n z)
      go z k (yes d) =
          subst (λ (i : ℕ). Memᴰ i (group joined n z)) (sym (linked_hit root low high z d))
          (group_trans joined n t.each z high low k (subst (λ (i : ℕ). Memᴰ i (group joined n z)) d (s.each z k)) m)
      go z k (no d) = subst (λ (i : ℕ). Memᴰ i (group joined n z)) (sym (linked_miss root low high z d)) (s.each z k)

  -- the roots of joined things are of one group
  roots_meet : (x y : ℕ) → x < n → y < n → root y < n → T (joined x y) → Memᴰ (root x) (group joined n (root y))
  roots_meet x y hx hy hr j =
      let xy = group_closed joined n x x y hx hy (group_self joined n x hx) j in
      let xb = group_trans joined n t.each x y (root y) hx xy (s.each y hy) in
      group_trans joined n t.each (root y) x (root x) hr (group_sym joined n t.each x (root y) hx xb) (s.each x hx)

  -- where x and y are joined, each root is still of the group
  pub merged_within : (x y : ℕ) → x < n → y < n → T (joined x y) → Within joined n (merged root x y)
  merged_within x y hx hy j = go (dec_lt (root x) (root y))
    where
      rx : root x < n
      rx = group_within joined n x (root x) hx (s.each x hx)

      ry : root y < n
      ry = group_within joined n y (root y) hy (s.each y hy)

      go : Dec (root x < root y) → Within joined n (merged root x y)
      go (yes l) = subst (Within joined n) (sym (merged_lower root x y l)) (linked_within (root x) (root y) (roots_meet x y hx hy ry j))
      go (no l) = subst (Within joined n) (sym (merged_higher root x y (omega arith))) (linked_within (root y) (root x) (roots_meet y x hy hx rx (t.each x y j)))
