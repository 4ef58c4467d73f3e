-- The whole text, section by section. Assumes nothing.
use mathlib.Core.Path.{◌≡◌, refl, ap, ◌∙◌}
use mathlib.Core.List.{List, [], ◌++◌, append_assoc, append-nil}
use Prim.Native.Nat.{ℕ, ◌+◌, ◌≤◌}
use native.Mathlib.Omega.{arith}
use lib.ListN.{length, length-append}
use Rattle.byte_rows.specs.Put.{Puts}
use Rattle.rules.specs.Lists.{each}
use Rattle.rules.specs.Mending.{Line, for_duplicate, for_edge, for_direction, line_text}
use Rattle.rule_laws.proofs.Lists.{each_append}
use Rattle.mending_rows.specs.Told.{code, first_told, drops_told, exchanges_told, splits_told, unused_told, told}
use Rattle.list_text.specs.declared.Rows.{Rows}
use Rattle.list_text.specs.Written.{fates_of, list_text_by_rows, row_text, splits_text}
use Rattle.list_text.proofs.Onward.{Sofar, begin, room, on, finish}
use Rattle.list_text.proofs.EachKind.{drops_row, first_row, exchanges_row, unused_row}

-- the text of two lists of lines
both : (ks ls : List Line) {xs ys : List ℕ} → each line_text ks ≡ xs → each line_text ls ≡ ys → each line_text (ks ++ ls) ≡ xs ++ ys
both ks ls e f = each_append line_text ks ls ∙ (λ t. e t ++ f t)

-- seven texts, the first one first
seven : (a b c d e f g : List ℕ) → a ++ b ++ c ++ d ++ e ++ f ++ g ≡ a ++ (b ++ (c ++ (d ++ (e ++ (f ++ (g ++ []))))))
seven a b c d e f g =
    rw (append-nil g)
    (append_assoc (a ++ b ++ c ++ d ++ e) f g ∙ append_assoc (a ++ b ++ c ++ d) e (f ++ g) ∙ append_assoc (a ++ b ++ c) d (e ++ (f ++ g))
    ∙ append_assoc (a ++ b) c (d ++ (e ++ (f ++ g))) ∙ append_assoc a b (c ++ (d ++ (e ++ (f ++ g)))))

module _ (w origins : List ℕ) (rows : Rows) where
  -- what is left from each section on
  abbrev from-7 : List ℕ
  from-7 = row_text w rows.unused (rows.points + rows.splits) 7 7 ++ []

  abbrev from-6 : List ℕ
  from-6 = splits_text w origins rows ++ from-7

  abbrev from-5 : List ℕ
  from-5 = row_text w rows.fates rows.faces 5 5 ++ from-6

  abbrev from-4 : List ℕ
  from-4 = row_text w rows.fates rows.faces 6 6 ++ from-5

  abbrev from-3 : List ℕ
  from-3 = row_text w rows.fates rows.faces 4 4 ++ from-4

  abbrev from-2 : List ℕ
  from-2 = row_text w rows.fates rows.faces 3 3 ++ from-3

  -- the sections in their order
  abbrev pub sections : List ℕ
  sections = row_text w rows.fates rows.faces 1 2 ++ from-2

  -- they are the text
  pub sections_are : list_text_by_rows w origins rows ≡ sections
  unfolding told code unused_told
  sections_are =
      let t = fates_of w origins rows in
      let a = first_told t.fate rows.faces in
      let b = drops_told t.fate for_duplicate rows.faces in
      let c = drops_told t.fate for_edge rows.faces in
      let d = exchanges_told t.fate rows.faces in
      let e = drops_told t.fate for_direction rows.faces in
      let f = splits_told rows.points t in
      let g = unused_told rows.points t in
      both (a ++ b ++ c ++ d ++ e ++ f) g
      (both (a ++ b ++ c ++ d ++ e) f
      (both (a ++ b ++ c ++ d) e
      (both (a ++ b ++ c) d
      (both (a ++ b) c
      (both a b (first_row w rows.fates rows.faces) (drops_row w rows.fates for_duplicate rows.faces))
      (drops_row w rows.fates for_edge rows.faces))
      (exchanges_row w rows.fates rows.faces))
      (drops_row w rows.fates for_direction rows.faces))
      refl)
      (unused_row w rows.unused (rows.points + rows.splits))
      ∙ seven (row_text w rows.fates rows.faces 1 2) (row_text w rows.fates rows.faces 3 3) (row_text w rows.fates rows.faces 4 4) (row_text w rows.fates rows.faces 6 6) (row_text w rows.fates rows.faces 5 5) (splits_text w origins rows) (row_text w rows.unused (rows.points + rows.splits) 7 7)

  -- how long it is
  pub sections_long :
      length (list_text_by_rows w origins rows)
      ≡ length (row_text w rows.fates rows.faces 1 2) + length (row_text w rows.fates rows.faces 3 3) + length (row_text w rows.fates rows.faces 4 4)
      + length (row_text w rows.fates rows.faces 6 6) + length (row_text w rows.fates rows.faces 5 5) + length (splits_text w origins rows)
      + length (row_text w rows.unused (rows.points + rows.splits) 7 7)
  sections_long =
      ap length sections_are
      ∙ omega (
        arith,
        length-append (row_text w rows.fates rows.faces 1 2) from-2,
        length-append (row_text w rows.fates rows.faces 3 3) from-3,
        length-append (row_text w rows.fates rows.faces 4 4) from-4,
        length-append (row_text w rows.fates rows.faces 6 6) from-5,
        length-append (row_text w rows.fates rows.faces 5 5) from-6,
        length-append (splits_text w origins rows) from-7,
        length-append (row_text w rows.unused (rows.points + rows.splits) 7 7) [],
      )

  -- ---- the sections are put one behind the other
  module _ (w₀ : List ℕ) (h : length (list_text_by_rows w origins rows) ≤ length w₀) where
    -- all is left
    at_1 : Sofar sections w₀ 0 w₀ 0 sections
    at_1 = begin (omega (arith, ap length sections_are))

    pub room_1 : 0 + length (row_text w rows.fates rows.faces 1 2) ≤ length w₀
    room_1 = room (row_text w rows.fates rows.faces 1 2) from-2 at_1

    -- pass 1
    module _ {w₁ : List ℕ} {r₁ : ℕ} (p₁ : Puts w₀ 0 (row_text w rows.fates rows.faces 1 2) w₁ r₁) where
      at_2 : Sofar sections w₀ 0 w₁ r₁ from-2
      at_2 = on (row_text w rows.fates rows.faces 1 2) from-2 at_1 p₁

      pub room_2 : r₁ + length (row_text w rows.fates rows.faces 3 3) ≤ length w₁
      room_2 = room (row_text w rows.fates rows.faces 3 3) from-3 at_2

      -- pass 2
      module _ {w₂ : List ℕ} {r₂ : ℕ} (p₂ : Puts w₁ r₁ (row_text w rows.fates rows.faces 3 3) w₂ r₂) where
        at_3 : Sofar sections w₀ 0 w₂ r₂ from-3
        at_3 = on (row_text w rows.fates rows.faces 3 3) from-3 at_2 p₂

        pub room_3 : r₂ + length (row_text w rows.fates rows.faces 4 4) ≤ length w₂
        room_3 = room (row_text w rows.fates rows.faces 4 4) from-4 at_3

        -- pass 3
        module _ {w₃ : List ℕ} {r₃ : ℕ} (p₃ : Puts w₂ r₂ (row_text w rows.fates rows.faces 4 4) w₃ r₃) where
          at_4 : Sofar sections w₀ 0 w₃ r₃ from-4
          at_4 = on (row_text w rows.fates rows.faces 4 4) from-4 at_3 p₃

          pub room_4 : r₃ + length (row_text w rows.fates rows.faces 6 6) ≤ length w₃
          room_4 = room (row_text w rows.fates rows.faces 6 6) from-5 at_4

          -- the exchanges
          module _ {w₄ : List ℕ} {r₄ : ℕ} (p₄ : Puts w₃ r₃ (row_text w rows.fates rows.faces 6 6) w₄ r₄) where
            at_5 : Sofar sections w₀ 0 w₄ r₄ from-5
            at_5 = on (row_text w rows.fates rows.faces 6 6) from-5 at_4 p₄

            pub room_5 : r₄ + length (row_text w rows.fates rows.faces 5 5) ≤ length w₄
            room_5 = room (row_text w rows.fates rows.faces 5 5) from-6 at_5

            -- the drops of pass 4
            module _ {w₅ : List ℕ} {r₅ : ℕ} (p₅ : Puts w₄ r₄ (row_text w rows.fates rows.faces 5 5) w₅ r₅) where
              at_6 : Sofar sections w₀ 0 w₅ r₅ from-6
              at_6 = on (row_text w rows.fates rows.faces 5 5) from-6 at_5 p₅

              pub room_6 : r₅ + length (splits_text w origins rows) ≤ length w₅
              room_6 = room (splits_text w origins rows) from-7 at_6

              -- the splits
              module _ {w₆ : List ℕ} {r₆ : ℕ} (p₆ : Puts w₅ r₅ (splits_text w origins rows) w₆ r₆) where
                at_7 : Sofar sections w₀ 0 w₆ r₆ from-7
                at_7 = on (splits_text w origins rows) from-7 at_6 p₆

                pub room_7 : r₆ + length (row_text w rows.unused (rows.points + rows.splits) 7 7) ≤ length w₆
                room_7 = room (row_text w rows.unused (rows.points + rows.splits) 7 7) [] at_7

                -- the unused points
                module _ {w₇ : List ℕ} {r₇ : ℕ} (p₇ : Puts w₆ r₆ (row_text w rows.unused (rows.points + rows.splits) 7 7) w₇ r₇) where
                  at_8 : Sofar sections w₀ 0 w₇ r₇ []
                  at_8 = on (row_text w rows.unused (rows.points + rows.splits) 7 7) [] at_7 p₇

                  pub list_done : Puts w₀ 0 (list_text_by_rows w origins rows) w₇ r₇
                  list_done = rw sections_are (finish at_8)
