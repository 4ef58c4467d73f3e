-- Groups of a class: where some of n things, in their order, are joined only among themselves, their groups are those of the n.
-- Pass 5 asks for the groups of the entries at each vertex; these are then found for all vertices at once. Assumes nothing.
use mathlib.Core.Path.{◌≡◌, refl, sym, ap, ◌∙◌, subst}
use mathlib.Core.Bool.{Bool}
use mathlib.Core.List.{Memᴰ}
use Prim.Native.Nat.{ℕ, ◌≤◌, ◌<◌}
use native.Mathlib.Omega.{arith}
use native.Mathlib.Decide.{dec_lt}
use lib.ListN.{length}
use lib.Dec.{T}
use Rattle.rules.specs.Groups.{group, groups, leads}
use Rattle.rule_laws.proofs.Tests.{both_ways}
use Rattle.rule_laws.proofs.Counting.{count_below_agree}
use Rattle.rule_laws.proofs.Groups.{Chain, Chain.stay, Chain.link, group_chain, chain_group, covered}
use Rattle.rule_laws.proofs.Leaders.{label_of, leads_le, leads_of, label_is, groups_length}

-- ι k is the k-th thing of the class
pub record Class (joined : ℕ → ℕ → Bool) (n : ℕ) (joined' : ℕ → ℕ → Bool) (n' : ℕ) (ι : ℕ → ℕ) : Type 0 where
  pub inside : (k : ℕ) → k < n' → ι k < n
  pub rising : (k l : ℕ) → k < l → l < n' → ι k < ι l
  pub closed : (k y : ℕ) → k < n' → y < n → T (joined (ι k) y) → (l : ℕ) × (l < n') × (y ≡ ι l)
  pub out : (k l : ℕ) → k < n' → l < n' → T (joined' k l) → T (joined (ι k) (ι l))
  pub into : (k l : ℕ) → k < n' → l < n' → T (joined (ι k) (ι l)) → T (joined' k l)

module _ {joined : ℕ → ℕ → Bool} {n : ℕ} {joined' : ℕ → ℕ → Bool} {n' : ℕ} {ι : ℕ → ℕ} (c : Class joined n joined' n' ι) where
  -- a chain in the class is one among all
  chain_out : {k l : ℕ} → k < n' → Chain joined' n' k l → (l < n') × Chain joined n (ι k) (ι l)
  chain_out h stay = (h, stay)
  chain_out h (link {j = j} {k = l} d t b) = let r = chain_out h d in (b, link r.1 (c.out j l r.0 b t) (c.inside l b))

  -- a chain among all from a thing s of the class stays in it
  chain_from : {s k y : ℕ} → s ≡ ι k → k < n' → Chain joined n s y → (l : ℕ) × (l < n') × (y ≡ ι l) × Chain joined' n' k l
  chain_from {k = k} e h stay = (k, h, e, stay)
  chain_from {k = k} e h (link {j = j} {k = y} d t b) =
      let r = chain_from e h d in
      let s = subst (λ (z : ℕ). T (joined z y)) r.2 t in
      let m = c.closed r.0 y r.1 b s in
      (m.0, m.1, m.2, link r.3 (c.into r.0 m.0 r.1 m.1 (subst (λ (z : ℕ). T (joined (ι r.0) z)) m.2 s)) m.1)

  -- a chain among all that begins in the class stays in it
  chain_into : {k y : ℕ} → k < n' → Chain joined n (ι k) y → (l : ℕ) × (l < n') × (y ≡ ι l) × Chain joined' n' k l
  chain_into h d = chain_from refl h d

  -- a thing has one place in the class
  one_place : (k l : ℕ) → k < n' → l < n' → ι k ≡ ι l → k ≡ l
  one_place k l hk hl e = go (dec_lt k l) (dec_lt l k)
    where
      go : Dec (k < l) → Dec (l < k) → k ≡ l
      go (yes a) b = absurd (omega (arith, c.rising k l a hl))
      go (no a) (yes b) = absurd (omega (arith, c.rising l k b hk))
      go (no a) (no b) = omega arith

  -- what is in a group of the class is in the group among all
  pub group_out : (k l : ℕ) → k < n' → Memᴰ l (group joined' n' k) → Memᴰ (ι l) (group joined n (ι k))
  group_out k l h m = chain_group joined n (c.inside k h) (chain_out h (group_chain joined' n' k l m)).1

  -- whatever is in the group is of the class, and in its group there
  pub group_into : (k y : ℕ) → k < n' → Memᴰ y (group joined n (ι k)) → (l : ℕ) × (l < n') × (y ≡ ι l) × Memᴰ l (group joined' n' k)
  group_into k y h m =
      let r = chain_into h (group_chain joined n (ι k) y m) in
      (r.0, r.1, r.2, chain_group joined' n' h r.3)

  -- and of two things of the class, one is in the other's group there if it is among all
  pub group_same : (k l : ℕ) → k < n' → l < n' → Memᴰ (ι l) (group joined n (ι k)) → Memᴰ l (group joined' n' k)
  group_same k l hk hl m =
      let r = group_into k (ι l) hk m in
      subst (λ (z : ℕ). Memᴰ z (group joined' n' k)) (sym (one_place l r.0 hl r.1 r.2)) r.3

  -- a later place is no earlier among all
  up_le : (k l : ℕ) → k ≤ l → l < n' → ι k ≤ ι l
  up_le k l a h = go (dec_lt k l)
    where
      go : Dec (k < l) → ι k ≤ ι l
      go (yes b) = omega (arith, c.rising k l b h)
      go (no b) = let e : k ≡ l = omega arith in omega (arith, ap ι e)

  -- one that leads in the class leads among all
  leads_out : (k : ℕ) → k < n' → T (leads joined' n' k) → T (leads joined n (ι k))
  leads_out k h t =
      leads_of joined n (ι k)
      (λ y m. let r = group_into k y h m in omega (arith, up_le k r.0 (leads_le joined' n' k r.0 t r.3) r.1, r.2))

  -- and the other way
  leads_into : (k : ℕ) → k < n' → T (leads joined n (ι k)) → T (leads joined' n' k)
  leads_into k h t = leads_of joined' n' k (λ l m. go l m (dec_lt l k))
    where
      go : (l : ℕ) → Memᴰ l (group joined' n' k) → Dec (l < k) → k ≤ l
      go l m (no a) = omega arith
      go l m (yes a) = absurd (omega (arith, c.rising l k a h, leads_le joined n (ι k) (ι l) t (group_out k l h m)))

  -- the k-th of the class leads there exactly if it leads among all
  pub leads_same : (k : ℕ) → k < n' → leads joined' n' k ≡ leads joined n (ι k)
  leads_same k h = both_ways (leads joined' n' k) (leads joined n (ι k)) (leads_out k h) (leads_into k h)

-- ---- two joinings that agree on 0 .. n - 1 give the same labels

module _ (joined joined' : ℕ → ℕ → Bool) (n : ℕ) (turns : (k l : ℕ) → T (joined k l) → T (joined l k)) (turns' : (k l : ℕ) → T (joined' k l) → T (joined' l k))
    (same : (k l : ℕ) → k < n → l < n → joined' k l ≡ joined k l) where
  -- all things are a class
  all_of : Class joined n joined' n (λ k. k)
  all_of =
      record {
        inside = λ k h. h;
        rising = λ k l h b. h;
        closed = λ k y h b t. (y, b, refl);
        out = λ k l h b t. subst T (same k l h b) t;
        into = λ k l h b t. subst T (sym (same k l h b)) t;
      }

  -- each thing has the same label
  pub labels_same : (x : ℕ) → x < n → label_of joined' n x ≡ label_of joined n x
  labels_same x h =
      let r = covered joined n turns x h in
      label_is joined' n turns' x r.0 r.1 (subst T (sym (leads_same all_of r.0 r.1)) r.2) (group_same all_of r.0 x r.1 h r.3)
      ∙ count_below_agree (leads joined' n) (leads joined n) r.0 (λ i l. leads_same all_of i (omega (arith, r.1)))
      ∙ sym (label_is joined n turns x r.0 r.1 r.2 r.3)

  -- there are as many groups
  pub groups_same : length (groups joined' n) ≡ length (groups joined n)
  groups_same = groups_length joined' n ∙ count_below_agree (leads joined' n) (leads joined n) n (leads_same all_of) ∙ sym (groups_length joined n)
