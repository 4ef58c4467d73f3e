-- The laws of parents and roots: a root is its own parent and no later than its things, a thing may take the parent of its parent, and a root a parent.
-- Assumes nothing.
use mathlib.Core.Path.{◌≡◌, refl, sym, ap, ◌∙◌, subst}
use mathlib.Core.Bool.{Bool, true, false, cond}
use mathlib.Core.List.{List}
use Prim.Native.Nat.{ℕ, zero, suc, ◌+◌, ◌≤◌, ◌<◌}
use native.Mathlib.Nat.{le_refl}
use native.Mathlib.Omega.{arith}
use native.Mathlib.Decide.{ℕ_discrete}
use borrow.Author.Tests.{eq-eqb, ne_eqb}
use lib.Dec.{eqb}
use lib.ListN.{set, length-set}
use lib.Seq.{get_or-set_same, get_or-set_other}
use Rattle.rows.specs.Region.{Only}
use Rattle.rows.proofs.Regions.{only_set}
use Rattle.flood.specs.Parents.{parent, Forest, linked}

-- ---- a root

module _ {labels n : ℕ} {root : ℕ → ℕ} {w : List ℕ} (f : Forest labels n root w) where
  -- x's root is its own parent, and no later than x
  abbrev Top : ℕ → Type 0
  Top x = (parent w labels (root x) ≡ root x) × (root x ≤ x)

  -- a thing that is its own parent is its own root
  own_top : (x : ℕ) → x < n → parent w labels x ≡ x → Top x
  own_top x h e = let r = f.fixed x h e in (rw r e, omega arith)

  -- another one has the root of its parent, which is earlier; with a bound b on x
  top_to : (b x : ℕ) → x ≤ b → x < n → Top x
  top_to zero x l h = go (ℕ_discrete (parent w labels x) x)
    where
      go : Dec (parent w labels x ≡ x) → Top x
      go (yes e) = own_top x h e
      go (no e) = absurd (omega (arith, f.down x h))
  top_to (suc b) x l h = go (ℕ_discrete (parent w labels x) x) (λ y k j. top_to b y k j)
    where
      go : Dec (parent w labels x ≡ x) → ((y : ℕ) → y ≤ b → y < n → Top y) → Top x
      go (yes e) r = own_top x h e
      go (no e) r =
          let d = f.down x h in
          let t = r (parent w labels x) (omega arith) (omega arith) in
          let a = f.along x h in
          (rw a at t.0, omega (arith, t.1))

  -- a root is its own parent
  pub root_top : (x : ℕ) → x < n → parent w labels (root x) ≡ root x
  root_top x h = (top_to x x (le_refl x) h).0

  -- a root is no later than its things
  pub root_low : (x : ℕ) → x < n → root x ≤ x
  root_low x h = (top_to x x (le_refl x) h).1

-- ---- a store of a parent v at y

module _ {labels n : ℕ} {root : ℕ → ℕ} {w : List ℕ} (f : Forest labels n root w) (y v : ℕ) (h : y < n) where
  abbrev stored : List ℕ
  stored = set w (labels + y) v

  -- only the row of labels is written
  pub put_only : Only labels n w stored
  put_only = only_set w (labels + y) v (omega arith) (omega arith)

  -- y has the new parent, and every other thing its own
  put_here : parent stored labels y ≡ v
  put_here = get_or-set_same w (labels + y) v 0 (omega (arith, f.fit))

  put_other : (x : ℕ) → (x ≡ y → ⊥) → parent stored labels x ≡ parent w labels x
  put_other x e = get_or-set_other w (labels + y) (labels + x) v 0 (omega arith)

  -- where v is no later than y, no parent comes after its child
  put_down : v ≤ y → (x : ℕ) → x < n → Dec (x ≡ y) → parent stored labels x ≤ x
  put_down l x k (yes e) = subst (λ (z : ℕ). parent stored labels z ≤ z) (sym e) (omega (arith, put_here))
  put_down l x k (no e) = omega (arith, put_other x e, f.down x k)

  -- y gets an earlier parent of the same root: every root stays
  pub put_forest : root v ≡ root y → v < y → Forest labels n root stored
  put_forest e l =
      record {
        few = f.few;
        fit = rw length-set f.fit;
        down = λ x k. put_down (omega arith) x k (ℕ_discrete x y);
        along = λ x k. al x k (ℕ_discrete x y);
        fixed = λ x k. fi x k (ℕ_discrete x y);
      }
    where
      al : (x : ℕ) → x < n → Dec (x ≡ y) → root (parent stored labels x) ≡ root x
      al x k (yes d) = subst (λ (z : ℕ). root (parent stored labels z) ≡ root z) (sym d) (ap root put_here ∙ e)
      al x k (no d) = ap root (put_other x d) ∙ f.along x k

      fi : (x : ℕ) → x < n → Dec (x ≡ y) → parent stored labels x ≡ x → root x ≡ x
      fi x k (yes d) q = absurd (let z : parent stored labels y ≡ y = subst (λ (z : ℕ). parent stored labels z ≡ z) d q in omega (arith, put_here))
      fi x k (no d) q = f.fixed x k (sym (put_other x d) ∙ q)

-- ---- a root gets a parent

module _ (root : ℕ → ℕ) (low high : ℕ) where
  -- what had the root `high` has the root `low`
  pub linked_hit : (z : ℕ) → root z ≡ high → linked root low high z ≡ low
  linked_hit z e = ap (λ (b : Bool). cond {A = ℕ} b low (root z)) (eq-eqb (root z) high e)

  -- what had another root keeps it
  pub linked_miss : (z : ℕ) → (root z ≡ high → ⊥) → linked root low high z ≡ root z
  linked_miss z e = ap (λ (b : Bool). cond {A = ℕ} b low (root z)) (ne_eqb (root z) high e)

  -- so does what had the root `low`
  pub linked_low : (z : ℕ) → root z ≡ low → linked root low high z ≡ low
  linked_low z e = go (eqb (root z) high)
    where
      go : (b : Bool) → cond {A = ℕ} b low (root z) ≡ low
      go true = refl
      go false = e

  -- what had one root has one root
  pub linked_same : (x y : ℕ) → root x ≡ root y → linked root low high x ≡ linked root low high y
  linked_same x y e = ap (λ (i : ℕ). cond {A = ℕ} (eqb i high) low i) e

module _ {labels n : ℕ} {root : ℕ → ℕ} {w : List ℕ} (f : Forest labels n root w) (low high : ℕ) (l : low ≤ high) (h : high < n) (el : root low ≡ low) (eh : root high ≡ high) where
  -- the root `high` gets the parent `low`, also a root and no later
  pub link_forest : Forest labels n (linked root low high) (set w (labels + high) low)
  link_forest =
      record {
        few = f.few;
        fit = rw length-set f.fit;
        down = λ z k. put_down f high low h l z k (ℕ_discrete z high);
        along = λ z k. al z k (ℕ_discrete z high);
        fixed = λ z k. fi z k (ℕ_discrete z high);
      }
    where
      al : (z : ℕ) → z < n → Dec (z ≡ high) → linked root low high (parent (set w (labels + high) low) labels z) ≡ linked root low high z
      al z k (yes d) =
          ap (λ (i : ℕ). linked root low high (parent (set w (labels + high) low) labels i)) d ∙ ap (linked root low high) (put_here f high low h)
          ∙ linked_low root low high low el ∙ sym (linked_hit root low high z (ap root d ∙ eh))
      al z k (no d) = ap (linked root low high) (put_other f high low h z d) ∙ linked_same root low high (parent w labels z) z (f.along z k)

      fi : (z : ℕ) → z < n → Dec (z ≡ high) → parent (set w (labels + high) low) labels z ≡ z → linked root low high z ≡ z
      fi z k (yes d) q =
          linked_hit root low high z (ap root d ∙ eh) ∙ sym (put_here f high low h) ∙ ap (λ (i : ℕ). parent (set w (labels + high) low) labels i) (sym d) ∙ q
      fi z k (no d) q = let e = f.fixed z k (sym (put_other f high low h z d) ∙ q) in linked_miss root low high z (λ b. d (sym e ∙ b)) ∙ e
