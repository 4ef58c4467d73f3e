-- The faces of a split take the new point one after the other, as a fact of lists: what is still to be done makes what the rule makes. Assumes nothing.
use mathlib.Core.Path.{◌≡◌, refl, sym, ap, ◌∙◌, subst}
use mathlib.Core.Bool.{Bool, true, false, ◌||◌, cond}
use mathlib.Core.List.{List, [], ◌∷◌, map, map-map}
use mathlib.Core.Logic.{◌⊎◌, inl, inr}
use Prim.Native.Nat.{ℕ, ◌+◌, ◌-◌, ◌*◌, ◌≤◌, ◌<◌}
use native.Mathlib.Omega.{arith}
use native.Mathlib.Decide.{ℕ_discrete}
use borrow.Author.Tests.{eq-eqb, ne_eqb}
use lib.Dec.{eqb}
use lib.ListN.{length, get_or}
use Rattle.rows.specs.Region.{Out, Only}
use Rattle.rows.proofs.Regions.{only_none, only_both, only_more, in_or_out}
use Rattle.rules.specs.Lists.{any, has}
use Rattle.rules.specs.Mesh.{Face, renamed}
use Rattle.rules.specs.Applying.{wholes}
use Rattle.rule_laws.proofs.Rising.{All}
use Rattle.leaving.specs.Pass.{standing}
use Rattle.list_lines.specs.Lines.{Faces, FaceAsks, FaceGives, faces_from_row, numbers_of, tabbed}
use Rattle.list_changes.specs.Changes.{instead, FaceChanged, TakenOver}
use Rattle.list_changes.proofs.Facing.{face_changed}
use Rattle.apply_lines.specs.Runs.{TakeAsks}

module _ (old new : ℕ) where
  -- a face under the new point, where it is one of fs
  abbrev over : List ℕ → Face → Face
  over fs g = cond (has g.origin fs) (renamed (instead old new) g) g

  -- a corner takes it once
  once : old < new → (x : ℕ) → instead old new (instead old new x) ≡ instead old new x
  once l x = go (ℕ_discrete x old)
    where
      go : Dec (x ≡ old) → instead old new (instead old new x) ≡ instead old new x
      go (yes e) = rw (eq-eqb x old e, ne_eqb new old (omega arith)) refl
      go (no e) = rw (ne_eqb x old e, ne_eqb x old e) refl

  -- so does a face
  once_face : old < new → (g : Face) → renamed (instead old new) (renamed (instead old new) g) ≡ renamed (instead old new) g
  unfolding renamed
  once_face l g = λ k. record { a = once l g.a k; b = once l g.b k; c = once l g.c k; origin = g.origin }

  -- the origin stays
  pub renamed_own : (g : Face) → (renamed (instead old new) g).origin ≡ g.origin
  unfolding renamed
  renamed_own g = refl

  -- the first of some faces, and then the others
  over_cons : old < new → (f : ℕ) (fs : List ℕ) (g : Face) → over (f ∷ fs) g ≡ over fs (cond (eqb f g.origin) (renamed (instead old new) g) g)
  unfolding has any
  over_cons l f fs g = go (ℕ_discrete f g.origin)
    where
      twice : (t : Bool) → renamed (instead old new) g ≡ cond t (renamed (instead old new) (renamed (instead old new) g)) (renamed (instead old new) g)
      twice true = sym (once_face l g)
      twice false = refl

      go : Dec (f ≡ g.origin) → over (f ∷ fs) g ≡ over fs (cond (eqb f g.origin) (renamed (instead old new) g) g)
      go (yes e) = rw (eq-eqb f g.origin e, eq-eqb g.origin f (sym e)) (twice (has (renamed (instead old new) g).origin fs))
      go (no e) = rw (ne_eqb f g.origin e, ne_eqb g.origin f (λ d. e (sym d))) refl

  -- all of them
  overs_cons : old < new → (f : ℕ) (fs : List ℕ) (gs : List Face) → map (over (f ∷ fs)) gs ≡ map (over fs) (map (λ g. cond (eqb f g.origin) (renamed (instead old new) g) g) gs)
  overs_cons l f fs gs =
      ap (λ (h : Face → Face). map h gs) (λ k g. over_cons l f fs g k)
      ∙ sym (map-map (over fs) (λ g. cond (eqb f g.origin) (renamed (instead old new) g) g) gs)

  -- none
  overs_none : (gs : List Face) → map (over []) gs ≡ gs
  unfolding has any
  overs_none [] = refl
  overs_none (g ∷ gs) = ap (λ l. g ∷ l) (overs_none gs)

-- no face is left where the fields end
no_faces : (text : List ℕ) (end : ℕ) → faces_from_row text end end ≡ []
unfolding faces_from_row numbers_of tabbed wholes
no_faces text end = let e : end - end ≡ 0 = omega arith in rw e refl

-- a renamed face has the corners that it had, or the new point
pub renamed_inside :
    (old : ℕ) {f new : ℕ} {xs xs' : List ℕ} (m k : ℕ) → 3 * f + 3 ≤ m → new < k → FaceChanged (renamed (instead old new)) f xs xs' → ((i : ℕ) → i < m → get_or xs i 0 < k)
    → (i : ℕ) → i < m → get_or xs' i 0 < k
unfolding renamed
renamed_inside old {f} {new} {xs} {xs'} m k l n c h i q = go (in_or_out (3 * f) 3 i)
  where
    low : (x : ℕ) → x < k → instead old new x < k
    low x p = one (eqb x old)
      where
        one : (t : Bool) → cond t new x < k
        one true = n
        one false = p

    at : Dec (i ≡ 3 * f) → Dec (i ≡ 3 * f + 1) → (3 * f ≤ i) × (i < 3 * f + 3) → get_or xs' i 0 < k
    at (yes e) t p = rw e (omega (arith, c.first, low (get_or xs (3 * f) 0) (h (3 * f) (omega arith))))
    at (no e) (yes d) p = rw d (omega (arith, c.second, low (get_or xs (3 * f + 1) 0) (h (3 * f + 1) (omega arith))))
    at (no e) (no d) p =
        let j : i ≡ 3 * f + 2 = omega (arith, p.0, p.1) in
        rw j (omega (arith, c.third, low (get_or xs (3 * f + 2) 0) (h (3 * f + 2) (omega arith))))

    go : ((3 * f ≤ i) × (i < 3 * f + 3)) ⊎ Out (3 * f) 3 i → get_or xs' i 0 < k
    go (inl p) = at (ℕ_discrete i (3 * f)) (ℕ_discrete i (3 * f + 1)) p
    go (inr p) = omega (arith, c.only.same i p, h i q)

-- the loop's invariant: what is left to be done from `at` on makes what is asked
pub record Taking (text : List ℕ) (from end : ℕ) (xs₀ : List ℕ) (F old new : ℕ) (xs : List ℕ) (at : ℕ) : Type 0 where
  pub faces : Faces text at end
  pub low : All (λ f. f < F) (faces_from_row text at end)
  pub only : Only 0 (3 * F) xs₀ xs
  pub rest : map (over old new (faces_from_row text from end)) (standing xs₀ F) ≡ map (over old new (faces_from_row text at end)) (standing xs F)
  pub inside : (k : ℕ) → new < k → ((i : ℕ) → i < 3 * F → get_or xs₀ i 0 < k) → (i : ℕ) → i < 3 * F → get_or xs i 0 < k

-- before the first turn all is left
pub begin : {text : List ℕ} {from end : ℕ} {xs : List ℕ} {F old new : ℕ} → TakeAsks text from end xs F old new → Taking text from end xs F old new xs from
begin p = record { faces = p.faces; low = p.low; only = only_none _ _ _; rest = refl; inside = λ k n h. h }

module _ {text : List ℕ} {from end : ℕ} {xs₀ : List ℕ} {F old new : ℕ} {xs : List ℕ} {at : ℕ} (p : TakeAsks text from end xs₀ F old new) (v : Taking text from end xs₀ F old new xs at) where
  -- a face is left
  pub face_asks : at < end → FaceAsks text at end
  face_asks h = record { faces = v.faces; left = h }

  module _ {f next : ℕ} (g : FaceGives text at end f next) where
    -- it is one of the F
    pub face_low : f < F
    face_low = (subst (All (λ k. k < F)) g.told v.low).0

    -- so it has room
    pub face_fits : 3 * f + 3 ≤ length xs
    face_fits = let l = v.only.long in omega (arith, face_low, p.fit)

    -- and takes the new point
    pub again : {xs' : List ℕ} → FaceChanged (renamed (instead old new)) f xs xs' → Taking text from end xs₀ F old new xs' next
    again {xs'} c =
        let l = v.only.long in
        let h = face_low in
        record {
          faces = g.faces;
          low = (subst (All (λ k. k < F)) g.told v.low).1;
          only = only_both v.only (only_more (omega arith) (omega arith) c.only);
          rest =
              v.rest
              ∙ ap (λ fs. map (over old new fs) (standing xs F)) g.told
              ∙ overs_cons old new p.other f (faces_from_row text next end) (standing xs F)
              ∙ ap (map (over old new (faces_from_row text next end))) (sym (face_changed (renamed_own old new) c F (omega (arith, p.fit))));
          inside = λ k n q. renamed_inside old (3 * F) k (omega arith) n c (v.inside k n q);
        }

  -- when none is left it is done
  pub done : end ≤ at → TakenOver (faces_from_row text from end) old new F xs₀ xs
  done h =
      let e : at ≡ end = omega (arith, v.faces.begins) in
      record {
        only = v.only;
        faces = sym (v.rest ∙ ap (λ k. map (over old new (faces_from_row text k end)) (standing xs F)) e ∙ ap (λ fs. map (over old new fs) (standing xs F)) (no_faces text end) ∙ overs_none old new (standing xs F));
        inside = v.inside;
      }
