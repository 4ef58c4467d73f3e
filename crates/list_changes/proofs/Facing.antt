-- One face of a room changed by stores, and the faces that then stand: the same but for it. Assumes nothing.
use mathlib.Core.Path.{◌≡◌, refl, sym, ap, ◌∙◌}
use mathlib.Core.Logic.{◌⊎◌, inl, inr}
use mathlib.Core.Bool.{Bool, true, false, cond}
use mathlib.Core.List.{List, map}
use Prim.Native.Nat.{ℕ, ◌+◌, ◌*◌, ◌≤◌, ◌<◌}
use native.Mathlib.Nat.{add-zero}
use native.Mathlib.Omega.{arith}
use native.Mathlib.Decide.{ℕ_discrete}
use borrow.Author.Tests.{eq-eqb, ne_eqb}
use lib.Dec.{eqb}
use lib.ListN.{length, get_or, set, length-set, length-map}
use lib.Seq.{get_or-set_same, get_or-set_other, ext_get_or}
use Rattle.rows.specs.Region.{Out, Out.below, Out.above}
use Rattle.rows.proofs.Regions.{only_set, only_both, in_or_out}
use Rattle.rules.specs.Mesh.{Face, face, exchanged, renamed}
use Rattle.rule_laws.proofs.Lists.{get_or_map_in}
use Rattle.rule_laws.proofs.Flat.{length_faces_take, same_face}
use Rattle.leaving.specs.Pass.{standing}
use Rattle.leaving.proofs.Standing.{standing_face}
use Rattle.list_changes.specs.Changes.{instead, face_at, FaceChanged}

-- corners 1 and 2 are stored one over the other
pub exchange_stored : (xs : List ℕ) (f : ℕ) → 3 * f + 3 ≤ length xs → FaceChanged exchanged f xs (set (set xs (3 * f + 1) (get_or xs (3 * f + 2) 0)) (3 * f + 2) (get_or xs (3 * f + 1) 0))
unfolding exchanged
exchange_stored xs f h =
    let y = get_or xs (3 * f + 2) 0 in
    let x = get_or xs (3 * f + 1) 0 in
    record {
      only = only_both (only_set xs (3 * f + 1) y (omega arith) (omega arith)) (only_set (set xs (3 * f + 1) y) (3 * f + 2) x (omega arith) (omega arith));
      first = get_or-set_other (set xs (3 * f + 1) y) (3 * f + 2) (3 * f) x 0 (omega arith) ∙ get_or-set_other xs (3 * f + 1) (3 * f) y 0 (omega arith);
      second = get_or-set_other (set xs (3 * f + 1) y) (3 * f + 2) (3 * f + 1) x 0 (omega arith) ∙ get_or-set_same xs (3 * f + 1) y 0 (omega arith);
      third = get_or-set_same (set xs (3 * f + 1) y) (3 * f + 2) x 0 (simp length-set (omega arith));
    }

-- all three corners are stored
pub corners_stored :
    (h : Face → Face) (xs : List ℕ) (f a b c : ℕ) → 3 * f + 3 ≤ length xs → a ≡ (h (face_at xs f)).a → b ≡ (h (face_at xs f)).b → c ≡ (h (face_at xs f)).c
    → FaceChanged h f xs (set (set (set xs (3 * f) a) (3 * f + 1) b) (3 * f + 2) c)
corners_stored h xs f a b c l p q r =
    let ys = set xs (3 * f) a in
    let zs = set ys (3 * f + 1) b in
    record {
      only = only_both (only_both (only_set xs (3 * f) a (omega arith) (omega arith)) (only_set ys (3 * f + 1) b (omega arith) (omega arith))) (only_set zs (3 * f + 2) c (omega arith) (omega arith));
      first = get_or-set_other zs (3 * f + 2) (3 * f) c 0 (omega arith) ∙ get_or-set_other ys (3 * f + 1) (3 * f) b 0 (omega arith) ∙ get_or-set_same xs (3 * f) a 0 (omega arith) ∙ p;
      second = get_or-set_other zs (3 * f + 2) (3 * f + 1) c 0 (omega arith) ∙ get_or-set_same ys (3 * f + 1) b 0 (simp length-set (omega arith)) ∙ q;
      third = get_or-set_same zs (3 * f + 2) c 0 (simp length-set (omega arith)) ∙ r;
    }

-- the three corners of a face under other numbers
pub rename_stored :
    (xs : List ℕ) (f old new : ℕ) → 3 * f + 3 ≤ length xs
    → FaceChanged (renamed (instead old new)) f xs (set (set (set xs (3 * f) (instead old new (get_or xs (3 * f) 0))) (3 * f + 1) (instead old new (get_or xs (3 * f + 1) 0))) (3 * f + 2) (instead old new (get_or xs (3 * f + 2) 0)))
unfolding renamed
rename_stored xs f old new l = corners_stored (renamed (instead old new)) xs f _ _ _ l refl refl refl

module _ {h : Face → Face} {f : ℕ} {xs xs' : List ℕ} (own : (g : Face) → (h g).origin ≡ g.origin) (c : FaceChanged h f xs xs') where
  -- face i is what h makes of it, or as it was
  at_face : (i : ℕ) → Dec (f ≡ i) → face_at xs' i ≡ cond (eqb f i) (h (face_at xs i)) (face_at xs i)
  at_face i (yes e) =
      rw (eq-eqb f i e)
      (rw (← e) (same_face (face_at xs' f) (h (face_at xs f)) c.first c.second c.third (sym (own (face_at xs f)))))
  at_face i (no e) =
      rw (ne_eqb f i e)
      (same_face (face_at xs' i) (face_at xs i) (c.only.same (3 * i) (rw add-zero at (other i e 0 (omega arith)))) (c.only.same (3 * i + 1) (other i e 1 (omega arith))) (c.only.same (3 * i + 2) (other i e 2 (omega arith))) refl)
    where
      other : (i : ℕ) → (f ≡ i → ⊥) → (k : ℕ) → k < 3 → Out (3 * f) 3 (3 * i + k)
      other i e k l = go (in_or_out (3 * f) 3 (3 * i + k))
        where
          go : ((3 * f ≤ 3 * i + k) × (3 * i + k < 3 * f + 3)) ⊎ Out (3 * f) 3 (3 * i + k) → Out (3 * f) 3 (3 * i + k)
          go (inl p) = absurd (e (omega (arith, p.0, p.1)))
          go (inr p) = p

  -- the faces that stand are the same but for it
  pub face_changed : (n : ℕ) → 3 * n ≤ length xs → standing xs' n ≡ map (λ g. cond (eqb f g.origin) (h g) g) (standing xs n)
  unfolding face
  face_changed n fit =
      let l = c.only.long in
      let a = length_faces_take xs' n (omega arith) in
      let b = length_faces_take xs n fit in
      ext_get_or d (standing xs' n) (map change (standing xs n)) (a ∙ sym (length-map (standing xs n) change ∙ b))
      (λ i k.
      let q : i < n = omega arith in
      standing_face xs' n (omega arith) i q
      ∙ at_face i (ℕ_discrete f i)
      ∙ sym (get_or_map_in change (standing xs n) i d d (omega arith) ∙ ap change (standing_face xs n fit i q)))
    where
      d : Face
      d = record { a = 0; b = 0; c = 0; origin = 0 }

      change : Face → Face
      change = λ g. cond (eqb f g.origin) (h g) g

-- an exchanged face has the corners that it had
pub exchanged_inside : {f : ℕ} {xs xs' : List ℕ} (m k : ℕ) → 3 * f + 3 ≤ m → FaceChanged exchanged f xs xs' → ((i : ℕ) → i < m → get_or xs i 0 < k) → (i : ℕ) → i < m → get_or xs' i 0 < k
unfolding exchanged
exchanged_inside {f} {xs} {xs'} m k l c h i q = go (in_or_out (3 * f) 3 i)
  where
    three : (3 * f ≤ i) × (i < 3 * f + 3) → (i ≡ 3 * f) ⊎ ((i ≡ 3 * f + 1) ⊎ (i ≡ 3 * f + 2))
    three p = which (ℕ_discrete i (3 * f)) (ℕ_discrete i (3 * f + 1))
      where
        which : Dec (i ≡ 3 * f) → Dec (i ≡ 3 * f + 1) → (i ≡ 3 * f) ⊎ ((i ≡ 3 * f + 1) ⊎ (i ≡ 3 * f + 2))
        which (yes e) t = inl e
        which (no e) (yes s) = inr (inl s)
        which (no e) (no s) = inr (inr (omega (arith, p.0, p.1)))

    at : (i ≡ 3 * f) ⊎ ((i ≡ 3 * f + 1) ⊎ (i ≡ 3 * f + 2)) → get_or xs' i 0 < k
    at (inl e) = rw e (omega (arith, c.first, h (3 * f) (omega arith)))
    at (inr (inl e)) = rw e (omega (arith, c.second, h (3 * f + 2) (omega arith)))
    at (inr (inr e)) = rw e (omega (arith, c.third, h (3 * f + 1) (omega arith)))

    go : ((3 * f ≤ i) × (i < 3 * f + 3)) ⊎ Out (3 * f) 3 i → get_or xs' i 0 < k
    go (inl p) = at (three p)
    go (inr p) = omega (arith, c.only.same i p, h i q)
