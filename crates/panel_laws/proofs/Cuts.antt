-- A room that holds the parts of all elements one after the other, cut where a part begins and as long as it is. Assumes nothing.
use mathlib.Core.Path.{◌≡◌, refl, ap, ◌∙◌}
use mathlib.Core.List.{List, [], ◌∷◌, ◌++◌, append_assoc}
use Prim.Native.Nat.{ℕ, zero, suc, ◌+◌, ◌-◌, ◌*◌, ◌≤◌, ◌<◌}
use native.Mathlib.Omega.{arith}
use lib.ListN.{length, get_or, take, drop, replicate, length-append}
use lib.Seq.{take-suc, split_at, take_at, drop_at}
use Rattle.rules.specs.Lists.{each}
use Rattle.rules.specs.Rooms.{filled}
use Rattle.rule_laws.proofs.Lists.{each_append}
use Rattle.panel_laws.specs.Cutting.{accepted_at, points_at, faces_at, before}

module _ {A B : Type 0} (f : A → List B) (d : A) (xs : List A) where
  -- the parts before, the part of element k, the parts behind
  each_split : (k : ℕ) → k < length xs → each f xs ≡ each f (take k xs) ++ (f (get_or xs k d) ++ each f (drop (suc k) xs))
  unfolding each
  each_split k h = ap (each f) (split_at xs k d h) ∙ each_append f (take k xs) (get_or xs k d ∷ drop (suc k) xs)

  -- what stands between them
  each-cut :
      (k a n : ℕ) (rest : List B) → k < length xs → length (each f (take k xs)) ≡ a → length (f (get_or xs k d)) ≡ n
      → take n (drop a (each f xs ++ rest)) ≡ f (get_or xs k d)
  each-cut k a n rest h u v =
      let x = f (get_or xs k d) in
      let ys = each f (drop (suc k) xs) in
      ap (λ l. take n (drop a (l ++ rest))) (each_split k h)
      ∙ ap (λ l. take n (drop a l)) (append_assoc (each f (take k xs)) (x ++ ys) rest)
      ∙ ap (take n) (drop_at (each f (take k xs)) ((x ++ ys) ++ rest) a u)
      ∙ ap (take n) (append_assoc x ys rest)
      ∙ take_at x (ys ++ rest) n v

  -- in a room after a call
  pub filled_cut :
      (z : B) (stated : ℕ) (room : List B) (k a n : ℕ) → k < length xs → length (each f (take k xs)) ≡ a → length (f (get_or xs k d)) ≡ n
      → take n (drop a (filled z stated (each f xs) room)) ≡ f (get_or xs k d)
  unfolding filled
  filled_cut z stated room k a n h u v =
      ap (λ l. take n (drop a l)) (append_assoc (each f xs) (replicate (stated - length (each f xs)) z) (drop stated room))
      ∙ each-cut k a n (replicate (stated - length (each f xs)) z ++ drop stated room) h u v

  -- one element more
  length_next : (k : ℕ) → k < length xs → length (each f (take (suc k) xs)) ≡ length (each f (take k xs)) + length (f (get_or xs k d))
  unfolding each
  length_next k h =
      ap length (ap (each f) (take-suc xs k d h) ∙ each_append f (take k xs) (get_or xs k d ∷ []))
      ∙ length-append (each f (take k xs)) (f (get_or xs k d) ++ [])
      ∙ (let e = length-append (f (get_or xs k d)) [] in omega arith)

  -- parts of so many entries each are so many together
  pub length_before :
      (c : ℕ) (g : ℕ → ℕ) → ((j : ℕ) → j < length xs → length (f (get_or xs j d)) ≡ c * g j)
      → (k : ℕ) → k ≤ length xs → length (each f (take k xs)) ≡ c * before g k
  unfolding each before
  length_before c g h zero l = omega arith
  length_before c g h (suc k) l = let r = length_before c g h k (omega arith) in omega (arith, length_next k l, h k l)

-- ---- computed: three meshes, of which the second is refused

-- their meshes room
three : List ℕ
three = 0 ∷ 0 ∷ 1 ∷ 1 ∷ 5 ∷ 0 ∷ 0 ∷ 0 ∷ 0 ∷ 0 ∷ 5 ∷ 2 ∷ []

-- the third begins behind one point, one face and one report
third_begins : (before (points_at three) 2 ≡ 1) × (before (faces_at three) 2 ≡ 1) × (before (accepted_at three) 2 ≡ 1)
unfolding three before points_at faces_at accepted_at
third_begins = (refl, refl, refl)

-- all have six points, three faces and two reports
all_have : (before (points_at three) 3 ≡ 6) × (before (faces_at three) 3 ≡ 3) × (before (accepted_at three) 3 ≡ 2)
unfolding three before points_at faces_at accepted_at
all_have = (refl, refl, refl)
