-- The line of a split, put part by part, and that it is the rules' line. Assumes nothing.
use mathlib.Core.Path.{◌≡◌, sym, ap, ◌∙◌}
use mathlib.Core.List.{List, [], ◌∷◌, ◌++◌, map, append_assoc}
use Prim.Native.Nat.{ℕ, suc, ◌+◌, ◌*◌, ◌≤◌, ◌<◌}
use native.Mathlib.Omega.{arith}
use lib.ListN.{length, get_or, set, length-append}
use Rattle.byte_rows.specs.Put.{Puts}
use Rattle.byte_rows.proofs.Putting.{puts_one}
use Rattle.rows.specs.Region.{part}
use Rattle.rows.proofs.Regions.{length_part}
use Rattle.rules.specs.Lists.{below, filter, each, has}
use Rattle.rules.specs.Mesh.{faces_of, face, corners}
use Rattle.rules.specs.Line.{bytes, decimal}
use Rattle.rules.specs.Text.{text_line}
use Rattle.rules.specs.Mending.{split_point, line_text}
use Rattle.rule_laws.proofs.Lists.{each_map}
use Rattle.mending_rows.specs.Told.{splits_told}
use Rattle.list_text.specs.declared.Rows.{Rows}
use Rattle.list_text.specs.Written.{field, takers_of, fields_of, run_text, split_text, splits_text, start_of, Sorted}
use Rattle.list_text.proofs.Onward.{Sofar, begin, room, on, finish}
use Rattle.list_text.proofs.Corners.{run_is}
use Rattle.list_text.proofs.Once.{once_is}

-- ---- one split

module _ (w origins : List ℕ) (rows : Rows) where
  -- its line, in the rules' words
  abbrev pub line_of : ℕ → List ℕ
  line_of j = line_text (split_point (get_or w (rows.olds + j) 0) (rows.points + j) (takers_of (part w rows.column (3 * rows.left)) origins rows.left (rows.points + j)))

  -- the lines of all splits
  pub splits_are : splits_text w origins rows ≡ each line_of (below rows.splits)
  unfolding splits_told
  splits_are = each_map line_text (λ j. split_point (get_or w (rows.olds + j) 0) (rows.points + j) (takers_of (part w rows.column (3 * rows.left)) origins rows.left (rows.points + j))) (below rows.splits)

  -- the line, part by part
  split_parts : (old new : ℕ) (is : List ℕ) → line_text (split_point old new (map (λ i. get_or origins i 0) is)) ≡ 115 ∷ (field old ++ (field new ++ (each (λ i. field (get_or origins i 0)) is ++ (10 ∷ []))))
  unfolding line_text bytes text_line each
  split_parts old new is =
      let fs = each (λ f. 9 ∷ f) (map decimal (map (λ i. get_or origins i 0) is)) in
      let e : fs ≡ each (λ i. field (get_or origins i 0)) is = each_map (λ f. 9 ∷ f) decimal (map (λ i. get_or origins i 0) is) ∙ each_map field (λ i. get_or origins i 0) is in
      ap (λ (l : List ℕ). 115 ∷ l)
      (append_assoc (field old) (field new ++ fs) (10 ∷ []) ∙ ap (λ (l : List ℕ). field old ++ l) (append_assoc (field new) fs (10 ∷ []) ∙ ap (λ (l : List ℕ). field new ++ (l ++ (10 ∷ []))) e))

  -- the corners at the new point name the faces that take it
  pub split_is : Sorted w rows → (j : ℕ) → j < rows.splits → split_text w origins rows j (start_of w rows (rows.points + j)) (start_of w rows (suc (rows.points + j))) ≡ line_of j
  split_is s j h =
      let v = rows.points + j in
      let xs = part w rows.column (3 * rows.left) in
      ap (λ (ids : List ℕ). 115 ∷ (field (get_or w (rows.olds + j) 0) ++ (field v ++ (fields_of origins rows.left ids ++ (10 ∷ []))))) (run_is s v (omega arith))
      ∙ ap (λ (is : List ℕ). 115 ∷ (field (get_or w (rows.olds + j) 0) ++ (field v ++ (each (λ i. field (get_or origins i 0)) is ++ (10 ∷ [])))))
      (once_is xs rows.left v (length_part w rows.column (3 * rows.left) s.column_fit))
      ∙ sym (split_parts (get_or w (rows.olds + j) 0) v (filter (λ i. has v (corners (face (faces_of xs) i))) (below rows.left)))

-- ---- a split's line is put

module _ (w origins : List ℕ) (rows : Rows) (j from to : ℕ) where
  -- what is left behind the new point, and behind the old one
  abbrev pub behind-new : List ℕ
  behind-new = run_text w origins rows from to ++ (10 ∷ [])

  abbrev pub behind-old : List ℕ
  behind-old = field (rows.points + j) ++ behind-new

  abbrev pub behind-letter : List ℕ
  behind-letter = field (get_or w (rows.olds + j) 0) ++ behind-old

  -- the letter
  pub split_letter : (w₀ : List ℕ) (at : ℕ) → at + length (split_text w origins rows j from to) ≤ length w₀ → Sofar (split_text w origins rows j from to) w₀ at (set w₀ at 115) (at + 1) behind-letter
  split_letter w₀ at h =
      let s : Sofar (split_text w origins rows j from to) w₀ at w₀ at (split_text w origins rows j from to) = begin h in
      on (115 ∷ []) behind-letter s (puts_one w₀ at 115 (omega (arith, room (115 ∷ []) behind-letter s)))

  -- how long the line is
  pub split_long : length (split_text w origins rows j from to) ≡ 4 + length (decimal (get_or w (rows.olds + j) 0)) + length (decimal (rows.points + j)) + length (run_text w origins rows from to)
  split_long =
      omega (arith, length-append (field (get_or w (rows.olds + j) 0)) behind-old, length-append (field (rows.points + j)) behind-new, length-append (run_text w origins rows from to) (10 ∷ []))

  module _ (w₀ : List ℕ) (at : ℕ) (h : at + length (split_text w origins rows j from to) ≤ length w₀) where
    -- the old point has room
    pub old_room : at + 1 + length (field (get_or w (rows.olds + j) 0)) ≤ length (set w₀ at 115)
    old_room = room (field (get_or w (rows.olds + j) 0)) behind-old (split_letter w₀ at h)

    module _ {w₁ : List ℕ} {r₁ : ℕ} (p₁ : Puts (set w₀ at 115) (at + 1) (field (get_or w (rows.olds + j) 0)) w₁ r₁) where
      -- it is put, and the new one has room
      old_put : Sofar (split_text w origins rows j from to) w₀ at w₁ r₁ behind-old
      old_put = on (field (get_or w (rows.olds + j) 0)) behind-old (split_letter w₀ at h) p₁

      pub new_room : r₁ + length (field (rows.points + j)) ≤ length w₁
      new_room = room (field (rows.points + j)) behind-new old_put

      module _ {w₂ : List ℕ} {r₂ : ℕ} (p₂ : Puts w₁ r₁ (field (rows.points + j)) w₂ r₂) where
        -- it is put, and the faces have room
        new_put : Sofar (split_text w origins rows j from to) w₀ at w₂ r₂ behind-new
        new_put = on (field (rows.points + j)) behind-new old_put p₂

        pub run_room : r₂ + length (run_text w origins rows from to) ≤ length w₂
        run_room = room (run_text w origins rows from to) (10 ∷ []) new_put

        module _ {w₃ : List ℕ} {r₃ : ℕ} (p₃ : Puts w₂ r₂ (run_text w origins rows from to) w₃ r₃) where
          -- they are put, and the newline has room
          run_put : Sofar (split_text w origins rows j from to) w₀ at w₃ r₃ (10 ∷ [])
          run_put = on (run_text w origins rows from to) (10 ∷ []) new_put p₃

          pub end_room : r₃ < length w₃
          end_room = omega (arith, room (10 ∷ []) [] run_put)

          -- the line is put
          pub split_done : Puts w₀ at (split_text w origins rows j from to) (set w₃ r₃ 10) (r₃ + 1)
          split_done = finish (on (10 ∷ []) [] run_put (puts_one w₃ r₃ 10 end_room))
