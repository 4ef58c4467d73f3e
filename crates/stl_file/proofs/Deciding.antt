-- The checks of a file in their order. Assumes nothing.
use mathlib.Core.Path.{◌≡◌, sym, ap, ◌∙◌}
use mathlib.Core.List.{List, [], ◌∷◌}
use Prim.Native.Nat.{ℕ, ◌+◌, ◌*◌, ◌≤◌, ◌<◌}
use lib.ListN.{length}
use Rattle.rules.specs.Refusal.{Check, ok, no, decided, no2, no4, no6, most_faces}
use Rattle.rules.specs.Bytes.{u32_at}
use Rattle.rules.specs.Stl.{facets, corners_of, no12, stl_rooms}
use Rattle.refuse.proofs.Groups.{last, stop_at, go_past}
use Rattle.refuse.proofs.Singles.{few, many}
use Rattle.stl_file.specs.Files.{Whole, stl_list}
use Rattle.stl_file.proofs.Checks.{wrong, short, right}

module _ (file : List ℕ) (points faces work : ℕ) where
  -- a file under 84 bytes
  pub is_short : length file < 84 → no 12 0 ≡ decided (stl_list file points faces work)
  is_short h = stop_at _ _ _ _ (short file h)

  module _ (n : ℕ) (e : n ≡ u32_at file 80) where
    -- the count that was read
    facets_is : facets file ≡ n
    unfolding facets
    facets_is = sym e

    -- another length
    pub is_wrong : (length file ≡ 84 + 50 * n → ⊥) → no 12 0 ≡ decided (stl_list file points faces work)
    is_wrong h = stop_at _ _ _ _ (wrong file (λ q. h (q ∙ ap (λ k. 84 + 50 * k) facets_is)))

    module _ (l : length file ≡ 84 + 50 * n) where
      -- 12 finds nothing
      is_right : {r : Check} (ys : List Check) → r ≡ decided ys → r ≡ decided (no12 file ∷ ys)
      is_right {r} ys q = go_past _ ys r (right file (l ∙ ap (λ k. 84 + 50 * k) (sym facets_is))) q

      -- too many facets
      pub is_many : most_faces < n → no 2 1 ≡ decided (stl_list file points faces work)
      is_many h = is_right _ (stop_at _ _ _ _ (many 1 (facets file) most_faces (rw facets_is h)))

      module _ (h : n ≤ most_faces) where
        -- the file is whole
        pub is_whole : Whole file n
        is_whole = record { long = l; counted = facets_is; few = h }

        -- 2 finds nothing
        is_few : {r : Check} (ys : List Check) → r ≡ decided ys → r ≡ decided (no12 file ∷ no2 1 (facets file) most_faces ∷ ys)
        is_few {r} ys q = is_right _ (go_past _ ys r (few 1 (facets file) most_faces (rw facets_is h)) q)

        -- 4 finds something
        pub is_far : (a b : ℕ) → no a b ≡ no4 (corners_of file) → no a b ≡ decided (stl_list file points faces work)
        is_far a b q = is_few _ (stop_at _ _ a b q)

        -- 4 finds nothing, and 6 decides
        pub is_near : (r : Check) → ok ≡ no4 (corners_of file) → r ≡ no6 (stl_rooms n) (points ∷ faces ∷ work ∷ []) → r ≡ decided (stl_list file points faces work)
        is_near r q s = is_few _ (go_past _ _ r q (last _ r (s ∙ ap (λ k. no6 (stl_rooms k) (points ∷ faces ∷ work ∷ [])) (sym facets_is))))
