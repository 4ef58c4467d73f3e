-- The text in its room and the work room cleared, or the text too long and nothing written. Assumes nothing.
use mathlib.Core.Path.{◌≡◌, refl, sym, ap, subst, ◌∙◌}
use mathlib.Core.List.{List, ◌++◌, append-nil}
use Prim.Native.Nat.{ℕ, ◌+◌, ◌-◌, ◌*◌, ◌/◌, ◌≤◌, ◌<◌}
use native.Mathlib.Omega.{arith}
use lib.Ieee.{Float}
use lib.ListN.{length, drop, replicate}
use Rattle.byte_rows.specs.Put.{Puts}
use Rattle.byte_rows.proofs.Putting.{puts_front}
use Rattle.rules.specs.Rooms.{work_room, filled}
use Rattle.refuse.specs.Verdicts.{Limits}
use Rattle.list_text.specs.Written.{list_text_by_rows}
use Rattle.list_text.specs.declared.Rows.{Rows}
use Rattle.list_rows.specs.Prepared.{PrepareAsks, PrepareGives}
use Rattle.list_room.specs.Parts.{Changed, FillGives}
use Rattle.list_room.specs.Put.{text_of, PutGives}
use Rattle.list_room.proofs.Joined.{changed_both, wiped}

-- a text at the front of its room fills it
fills : {t w w' : List ℕ} {r : ℕ} → Puts w 0 t w' r → (k : ℕ) → k ≡ length t → w' ≡ filled 0 k t w
unfolding filled
fills {t} {w} p k e =
    let z : k - length t ≡ 0 = omega arith in
    puts_front p ∙ ap (λ l. l ++ drop (length t) w) (sym (append-nil t))
    ∙ ap (λ m. t ++ replicate m 0 ++ drop (length t) w) (sym z) ∙ ap (λ m. t ++ replicate (k - length t) 0 ++ drop m w) (sym e)

module _ {ps : List Float} {fs xs os w : List ℕ} (p : PrepareAsks ps fs xs os w) where
  -- P and F are not too large
  pub limits : Limits (length ps / 3) (length fs / 3)
  limits = let a = p.input.faces_fine in record { points = a.points; faces = a.few }

  module _ {options : ℕ} {s : Float} {xs₁ os₁ w₁ : List ℕ} {rows : Rows} (g : PrepareGives options s ps fs xs os w xs₁ os₁ w₁ rows) where
    -- the stated part of the rest
    pub rest_fits : {n : ℕ} → n ≡ 16 * (length ps / 3) + 60 * (length fs / 3) + 64 → n ≤ length w₁
    rest_fits e = omega (arith, p.rest_fits, g.only_rest.long)

    -- what the rows change
    rows_changed : Changed xs os w (16 * (length ps / 3) + 60 * (length fs / 3) + 64) xs₁ os₁ w₁
    rows_changed = record { long_corners = g.long_corners; long_origins = g.long_origins; only_rest = g.only_rest }

    module _ {bytes : ℕ} (e : bytes ≡ length (list_text_by_rows w₁ os₁ rows)) where
      -- how long the text is
      bytes_are : bytes ≡ length (text_of ps fs s options)
      bytes_are = e ∙ ap length g.tells

      -- it does not fit
      pub too_long : {text : List ℕ} → length text < bytes → PutGives ps fs s options text xs os w text xs₁ os₁ w₁ bytes
      too_long h =
          record {
            long = bytes_are;
            written = λ l. absurd (omega arith);
            wiped = λ l. absurd (omega arith);
            kept = λ l. refl;
            long_text = refl;
            changed = rows_changed;
          }

      -- it fits
      pub text_put :
          {text text₁ xs₂ os₂ w₂ : List ℕ} {r n : ℕ} → bytes ≤ length text → Puts text 0 (list_text_by_rows w₁ os₁ rows) text₁ r → n ≡ 16 * (length ps / 3) + 60 * (length fs / 3) + 64
          → FillGives xs₁ os₁ w₁ n 0 xs₂ os₂ w₂ → PutGives ps fs s options text xs os w text₁ xs₂ os₂ w₂ bytes
      unfolding work_room
      text_put {text} {text₁} {xs₂} {os₂} {w₂} {r} {n} h q m f =
          let o : Changed xs os w n xs₁ os₁ w₁ = subst (λ k. Changed xs os w k xs₁ os₁ w₁) (sym m) rows_changed in
          record {
            long = bytes_are;
            written = λ l. fills (subst (λ t. Puts text 0 t text₁ r) g.tells q) bytes bytes_are;
            wiped = λ l. wiped (omega (arith, p.rest_fits)) o f (16 * (length ps / 3) + 64 * (length fs / 3) + 64) (omega (arith, p.corners_are, p.origins_are));
            kept = λ l. absurd (omega arith);
            long_text = q.only.long;
            changed = subst (λ k. Changed xs os w k xs₂ os₂ w₂) m (changed_both o f.changed);
          }
