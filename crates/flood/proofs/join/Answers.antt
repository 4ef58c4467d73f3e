-- `flood::join` meets its contract: of the two roots the later one gets the earlier one as its parent. Assumes nothing.
use mathlib.Core.Path.{◌≡◌, sym, ap, ◌∙◌, subst}
use mathlib.Core.List.{List}
use Prim.Native.Nat.{ℕ, ◌+◌, ◌^◌, ◌≤◌, ◌<◌}
use native.Mathlib.Omega.{arith}
use lib.ListN.{length, set}
use Rattle.rows.specs.Region.{Only}
use Rattle.rows.proofs.Regions.{only_both}
use Rattle.flood.specs.Parents.{Forest, linked, merged, FindAsks, FindGives, JoinAsks, JoinGives}
use Rattle.flood.proofs.Forests.{root_top, root_low, put_only, link_forest}
use Rattle.flood.proofs.Merging.{merged_lower, merged_higher}
use Rattle.flood.proofs.join.Goals as goal

-- the two finds are asked of the same roots
abbrev first : {w : List ℕ} {labels x y : ℕ} → JoinAsks w labels x y → FindAsks w labels x
first q = record { n = q.n; root = q.root; forest = q.forest; is_thing = q.is_thing }

-- the bounds of the two roots
record Bounds (labels n : ℕ) (w : List ℕ) (a b : ℕ) : Type 0 where
  is_a : a < n
  is_b : b < n
  few : n ≤ 2 ^ 32
  fit : labels + n ≤ length w

module _ {w : List ℕ} {labels x y : ℕ} (q : JoinAsks w labels x y) {w₁ : List ℕ} {a : ℕ} (u : (p : FindAsks w labels x) → FindGives p w₁ a) where
  abbrev second : FindAsks w₁ labels y
  second = record { n = q.n; root = q.root; forest = (u (first q)).forest; is_thing = q.is_thing_2 }

  module _ {w₂ : List ℕ} {b : ℕ} (v : (p : FindAsks w₁ labels y) → FindGives p w₂ b) where
    -- after both the roots are as they were, and a and b are those of x and y
    forest : Forest labels q.n q.root w₂
    forest = (v second).forest

    only : Only labels q.n w w₂
    only = only_both (u (first q)).only (v second).only

    ea : a ≡ q.root x
    ea = (u (first q)).is_root

    eb : b ≡ q.root y
    eb = (v second).is_root

    bounds : Bounds labels q.n w₂ a b
    bounds =
        record {
          is_a = omega (arith, ea, root_low forest x q.is_thing, q.is_thing);
          is_b = omega (arith, eb, root_low forest y q.is_thing_2, q.is_thing_2);
          few = forest.few;
          fit = forest.fit;
        }

    -- each of the two is its own root
    own_a : q.root a ≡ a
    own_a = forest.fixed a bounds.is_a (rw ea (root_top forest x q.is_thing))

    own_b : q.root b ≡ b
    own_b = forest.fixed b bounds.is_b (rw eb (root_top forest y q.is_thing_2))

    -- b gets the parent a, or a the parent b
    lower : a < b → JoinGives q (set w₂ (labels + b) a)
    lower l =
        record {
          only = only_both only (put_only forest b a bounds.is_b);
          forest = subst (λ (r : ℕ → ℕ). Forest labels q.n r (set w₂ (labels + b) a)) e (link_forest forest a b (omega arith) bounds.is_b own_a own_b);
        }
      where
        e : linked q.root a b ≡ merged q.root x y
        e = ap (λ (i : ℕ). linked q.root i b) ea ∙ ap (linked q.root (q.root x)) eb ∙ sym (merged_lower q.root x y (omega (arith, ea, eb)))

    higher : b ≤ a → JoinGives q (set w₂ (labels + a) b)
    higher l =
        record {
          only = only_both only (put_only forest a b bounds.is_a);
          forest = subst (λ (r : ℕ → ℕ). Forest labels q.n r (set w₂ (labels + a) b)) e (link_forest forest b a l bounds.is_a own_b own_a);
        }
      where
        e : linked q.root b a ≡ merged q.root x y
        e = ap (λ (i : ℕ). linked q.root i a) eb ∙ ap (linked q.root (q.root y)) ea ∙ sym (merged_higher q.root x y (omega (arith, ea, eb)))

pub find-a-requires : goal.find-a-requires
find-a-requires c = first c.requires

pub find-b-requires : goal.find-b-requires
find-b-requires c = let at-find = c.before.before.before in
    let start = at-find.before.before.before in
    second start.requires at-find.find-a.ensures

pub overflow_cast-work : goal.overflow_cast-work
overflow_cast-work c = let at-find2 = c.before.before.before in
    let at-find = at-find2.before.before.before.before in
    let start = at-find.before.before.before in
    omega (arith, bounds start.requires at-find.find-a.ensures at-find2.find-b.ensures)

pub overflow_add-work : goal.overflow_add-work
overflow_add-work c = let at-find2 = c.before.before.before in
    let at-find = at-find2.before.before.before.before in
    let start = at-find.before.before.before in
    omega (arith, bounds start.requires at-find.find-a.ensures at-find2.find-b.ensures)

pub offset_bounds-work-labels : goal.offset_bounds-work-labels
offset_bounds-work-labels c = let at-find2 = c.before.before.before in
    let at-find = at-find2.before.before.before.before in
    let start = at-find.before.before.before in
    omega (arith, bounds start.requires at-find.find-a.ensures at-find2.find-b.ensures)

pub bounds-work-labels : goal.bounds-work-labels
bounds-work-labels c = let at-find2 = c.before.before.before in
    let at-find = at-find2.before.before.before.before in
    let start = at-find.before.before.before in
    omega (arith, bounds start.requires at-find.find-a.ensures at-find2.find-b.ensures)

pub overflow_cast-work-else-a-b : goal.overflow_cast-work-else-a-b
overflow_cast-work-else-a-b c = let at-find2 = c.before.before.before in
    let at-find = at-find2.before.before.before.before in
    let start = at-find.before.before.before in
    omega (arith, bounds start.requires at-find.find-a.ensures at-find2.find-b.ensures)

pub overflow_add-work-else-a-b : goal.overflow_add-work-else-a-b
overflow_add-work-else-a-b c = let at-find2 = c.before.before.before in
    let at-find = at-find2.before.before.before.before in
    let start = at-find.before.before.before in
    omega (arith, bounds start.requires at-find.find-a.ensures at-find2.find-b.ensures)

pub offset_bounds-work-labels-else-a-b : goal.offset_bounds-work-labels-else-a-b
offset_bounds-work-labels-else-a-b c = let at-find2 = c.before.before.before in
    let at-find = at-find2.before.before.before.before in
    let start = at-find.before.before.before in
    omega (arith, bounds start.requires at-find.find-a.ensures at-find2.find-b.ensures)

pub bounds-work-labels-else-a-b : goal.bounds-work-labels-else-a-b
bounds-work-labels-else-a-b c = let at-find2 = c.before.before.before in
    let at-find = at-find2.before.before.before.before in
    let start = at-find.before.before.before in
    omega (arith, bounds start.requires at-find.find-a.ensures at-find2.find-b.ensures)

pub shape_of-work-then-a-b : goal.shape_of-work-then-a-b
shape_of-work-then-a-b c = let at-find2 = c.before.before.before in
    let at-find = at-find2.before.before.before.before in
    let start = at-find.before.before.before in
    (lower start.requires at-find.find-a.ensures at-find2.find-b.ensures c.if-a-b.true).only.long

pub returns-then-a-b : goal.returns-then-a-b
returns-then-a-b c = let at-find2 = c.before.before.before in
    let at-find = at-find2.before.before.before.before in
    let start = at-find.before.before.before in
    λ q. lower q at-find.find-a.ensures at-find2.find-b.ensures c.if-a-b.true

pub shape_of-work-else-a-b : goal.shape_of-work-else-a-b
shape_of-work-else-a-b c = let at-find2 = c.before.before.before in
    let at-find = at-find2.before.before.before.before in
    let start = at-find.before.before.before in
    (higher start.requires at-find.find-a.ensures at-find2.find-b.ensures c.if-a-b.false).only.long

pub returns-else-a-b : goal.returns-else-a-b
returns-else-a-b c = let at-find2 = c.before.before.before in
    let at-find = at-find2.before.before.before.before in
    let start = at-find.before.before.before in
    λ q. higher q at-find.find-a.ensures at-find2.find-b.ensures c.if-a-b.false
