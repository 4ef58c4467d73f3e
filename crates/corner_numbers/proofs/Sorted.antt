-- The corners sorted by their points are the corners at each point, one after the other. Assumes nothing.
use mathlib.Core.Path.{◌≡◌, refl, sym, ap, ◌∙◌}
use mathlib.Core.Bool.{Bool, true, false, cond}
use mathlib.Core.List.{List, [], ◌∷◌}
use Prim.Native.Nat.{ℕ, zero, suc, ◌*◌, ◌%◌}
use lib.ListN.{length, get_or}
use lib.Dec.{eqb}
use Rattle.rows.specs.Filter as rows-filter
use Rattle.rows.specs.Filter.{keep}
use Rattle.sorting.specs.Groups.{having, sorted_by, key_in}
use Rattle.rules.specs.Lists.{below, filter, each}
use Rattle.rules.specs.Mesh.{faces_of}
use Rattle.table.proofs.Ids.{three_faces}
use Rattle.splitting.specs.Corners.{corners_at}
use Rattle.splitting.proofs.AllAtOnce.{each_last}
use Rattle.corner_groups.proofs.Joining.{corner_flat}

-- the two filters are one
same_filter : (p : ℕ → Bool) (xs : List ℕ) → rows-filter.filter p xs ≡ filter p xs
unfolding filter
same_filter p [] = refl
same_filter p (x ∷ xs) = go (p x) (same_filter p xs)
  where
    go : (b : Bool) → rows-filter.filter p xs ≡ filter p xs → keep b x (rows-filter.filter p xs) ≡ cond b (x ∷ filter p xs) (filter p xs)
    go true e = ap (λ l. x ∷ l) e
    go false e = e

-- the corners with one key are those at the point
having_is : (xs : List ℕ) → length xs % 3 ≡ 0 → (k : ℕ) → having (key_in xs) k (below (length xs)) ≡ corners_at (faces_of xs) k
unfolding corners_at
having_is xs whole k =
    same_filter (λ id. eqb (get_or xs id 0) k) (below (length xs))
    ∙ ap (λ n. filter (λ id. eqb (get_or xs id 0) k) (below n)) (sym (three_faces xs whole))
    ∙ ap (λ (f : ℕ → ℕ). filter (λ id. eqb (f id) k) (below (3 * length (faces_of xs)))) (λ j id. sym (corner_flat xs whole id) j)

-- so the sort has them point after point
pub sorted_is : (xs : List ℕ) → length xs % 3 ≡ 0 → (K : ℕ) → sorted_by (key_in xs) K (below (length xs)) ≡ each (corners_at (faces_of xs)) (below K)
sorted_is xs whole zero = unfold each below in refl
sorted_is xs whole (suc K) = rw (sorted_is xs whole K, having_is xs whole K) (sym (each_last (corners_at (faces_of xs)) K))
