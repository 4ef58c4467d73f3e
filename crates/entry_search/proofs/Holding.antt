-- The choice when one face more was looked at. Assumes nothing.
use mathlib.Core.Path.{◌≡◌, refl, sym, ap, ◌∙◌}
use mathlib.Core.Bool.{Bool, true, false, cond}
use mathlib.Core.List.{List}
use Prim.Native.Nat.{ℕ, ◌+◌, ◌*◌, ◌/◌, ◌<◌}
use native.Mathlib.Omega.{arith}
use lib.ListN.{length, get_or}
use lib.Ieee.{Float}
use Rattle.rules.specs.Float.{quality}
use Rattle.rules.specs.Lists.{filter}
use Rattle.rules.specs.Mesh.{Face, face, faces_of, points_of, exchanged}
use Rattle.rules.specs.Steps.{Step, walks, quality_of}
use Rattle.rule_laws.proofs.Flat.{face_at}
use Rattle.rank.specs.Ranks.{above}
use Rattle.rank.proofs.RankLaws.{better_none, better_some}
use Rattle.measure.specs.Measure as measured
use Rattle.face_words.specs.Words.{stands, straight, view}
use Rattle.face_words.specs.Views.{seen_as, ViewAsks}
use Rattle.face_words.proofs.Places.{every_face_is}
use Rattle.face_words.specs.declared.Corners.{Corners}
use Rattle.std.specs.Prelude.{Option, None, Some}
use Rattle.rank.specs.declared.Choice.{Choice}
use Rattle.entry_search.specs.Choosing.{value_at, wanted, admits, Chosen, BetterGives, ConsiderAsks, ConsiderGives}

-- ---- the better of two

-- what a comparison says of both qualities, it says of the values
compared : {f : ℕ} {x : Float} {b : Choice} {r : Bool} → r ≡ above x f b.quality b.face → (q : ℕ → Float) → x ≡ q f → b.quality ≡ q b.face → r ≡ above (q f) f (q b.face) b.face
compared o q k h = o ∙ cc (k, h)

-- a face with its value
fresh : {f : ℕ} {x : Float} (q : ℕ → Float) (F : ℕ) → f < F → x ≡ q f → Chosen q F (record { face = f; quality = x })
fresh q F l k = record { here = l; value = k }

module _ {ps : List Float} {g : Corners} {f : ℕ} {best : Option Choice} {x : Float} (e : x ≡ quality (points_of ps) (seen_as g 0)) where
  -- none so far
  pub taken_first : best ≡ None → BetterGives ps g f best (record { face = f; quality = x })
  taken_first n = record { chosen = λ q F l k h. fresh q F l (e ∙ sym k); picked = λ q F l k h. rw n (better_none F q F f refl) }

  module _ {b : Choice} (n : best ≡ Some b) {r : Bool} (o : r ≡ above x f b.quality b.face) where
    pub taken : r ≡ true → BetterGives ps g f best (record { face = f; quality = x })
    taken t =
        record {
          chosen = λ q F l k h. fresh q F l (e ∙ sym k);
          picked = λ q F l k h. let c = rw n at h in rw n (better_some F q b.face f (omega (arith, c.here)) true (sym t ∙ compared o q (e ∙ sym k) c.value));
        }

    pub left : r ≡ false → BetterGives ps g f best b
    left t =
        record {
          chosen = λ q F l k h. rw n at h;
          picked = λ q F l k h. let c = rw n at h in rw n (better_some F q b.face f (omega (arith, c.here)) false (sym t ∙ compared o q (e ∙ sym k) c.value));
        }

-- ---- a face that is looked at

module _ {ps : List Float} {xs w : List ℕ} {f : ℕ} {b : Option Choice} (p : ConsiderAsks ps xs w f b) where
  view_ok : ViewAsks xs w f
  view_ok = record { worded = p.asks.worded; here = p.here }

  -- its corners are points
  corners_in : (v : Face) → v ≡ view xs w f → measured.Corners ps v.a v.b v.c
  unfolding view exchanged
  corners_in v e = rw e (go (straight w f))
    where
      at_a : get_or xs (3 * f) 0 < length ps / 3
      at_a = p.asks.inside (3 * f) (omega (arith, p.asks.worded, p.here))

      at_b : get_or xs (3 * f + 1) 0 < length ps / 3
      at_b = p.asks.inside (3 * f + 1) (omega (arith, p.asks.worded, p.here))

      at_c : get_or xs (3 * f + 2) 0 < length ps / 3
      at_c = p.asks.inside (3 * f + 2) (omega (arith, p.asks.worded, p.here))

      input : face (faces_of xs) f ≡ record { a = get_or xs (3 * f) 0; b = get_or xs (3 * f + 1) 0; c = get_or xs (3 * f + 2) 0; origin = f }
      input = face_at xs f (omega (arith, p.asks.worded, p.here))

      go : (s : Bool) → let u = cond s (face (faces_of xs) f) (exchanged (face (faces_of xs) f)) in measured.Corners ps u.a u.b u.c
      go true = rw input (record { a_in = at_a; b_in = at_b; c_in = at_c })
      go false = rw input (record { a_in = at_a; b_in = at_c; c_in = at_b })

  -- its value
  value_is : {g : Corners} → seen_as g f ≡ view xs w f → value_at ps xs w f ≡ quality (points_of ps) (seen_as g 0)
  unfolding quality_of quality
  value_is {g} e = ap (quality (points_of ps)) (every_face_is xs w f p.here ∙ sym e)

  pub better_ok : {g : Corners} → seen_as g f ≡ view xs w f → measured.Corners ps g.a g.b g.c
  better_ok {g} e = corners_in (seen_as g f) e

  module _ (d : Bool) (t : Step) (walk : Option Bool) (but : Option ℕ) where
    -- it is gone
    pub gone : {r : Bool} → r ≡ stands w f → r ≡ false → ConsiderGives ps xs w f d t walk but b b
    gone e k = record { chosen = p.chosen; picked = rw (← e, k) }

    module _ {r : Bool} (e : r ≡ stands w f) (k : r ≡ true) {g : Corners} (s : seen_as g f ≡ view xs w f) {y : Bool} (o : y ≡ admits walk but d t (seen_as g 0) f) where
      -- what is asked of its corners is asked of the face
      of_view : y ≡ admits walk but d t (view xs w f) f
      unfolding admits wanted filter walks
      of_view = o ∙ ap (λ v. admits walk but d t v f) s

      pub unwanted : y ≡ false → ConsiderGives ps xs w f d t walk but b b
      unwanted n = record { chosen = p.chosen; picked = rw (← e, k, ← of_view, n) }

      pub taken_in : {c : Choice} → y ≡ true → BetterGives ps g f b c → ConsiderGives ps xs w f d t walk but b (Some c)
      taken_in n h =
          record {
            chosen = h.chosen (value_at ps xs w) (length w) p.here (value_is s) p.chosen;
            picked = h.picked (value_at ps xs w) (length w) p.here (value_is s) p.chosen ∙ rw (← e, k, ← of_view, n);
          }
