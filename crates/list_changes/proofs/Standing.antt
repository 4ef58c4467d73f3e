-- A bench that stands in the rooms: what a line that applies to it says, and that it still stands when the line's change is made. Assumes nothing.
use mathlib.Core.Path.{◌≡◌, refl, sym, ap, ap₂, ◌∙◌, subst}
use mathlib.Core.Bool.{Bool, true, false, not, ◌&&◌, ◌||◌, cond, or-false}
use mathlib.Core.List.{List, [], ◌∷◌, ◌++◌, map}
use Prim.Native.Nat.{ℕ, suc, ◌+◌, ◌*◌, ◌≤◌, ◌<◌}
use native.Mathlib.Nat.{zero-add}
use native.Mathlib.Omega.{arith}
use borrow.Author.Tests.{eq-eqb, ne_eqb}
use lib.Dec.{T, eqb, ltb, eqb→eq, ltb→lt}
use lib.Ieee.{Float, nan}
use lib.ListN.{length, get_or, set, take, length-set}
use lib.Seq.{take-add, length-take-le}
use Rattle.rows.specs.Region.{Apart.before, Apart.after, part, Holds}
use Rattle.rows.specs.Retain.{MoveGives}
use Rattle.rows.proofs.Regions.{only_set, holds_set, holds_kept, kept}
use Rattle.rules.specs.Lists.{filter, any, all, each, has}
use Rattle.rules.specs.Mesh.{Point, Face, face, point, corners, coordinates, exchanged, renamed, points_of, flat_points}
use Rattle.rules.specs.Pass6.{used}
use Rattle.rules.specs.Mending.{Reason, dropped_face, exchange, split_point, isolated_point}
use Rattle.rules.specs.Applying.{Bench, present, present_with, applies, change}
use Rattle.rule_laws.proofs.Tests.{and_elim}
use Rattle.rule_laws.proofs.Lists.{each_append}
use Rattle.rule_laws.proofs.Flat.{length_faces_take, flat_points_back, points_flat}
use Rattle.rule_laws.proofs.Rising.{All, all_from, all_imp, all_filter}
use Rattle.rule_laws.proofs.Members.{any_elim, all_elim}
use Rattle.leaving.specs.Pass.{standing, Flagged}
use Rattle.leaving.proofs.Leaving.{point_row, length_points_take}
use Rattle.leaving.proofs.Standing.{standing_face}
use Rattle.list_changes.specs.Changes.{instead, FaceChanged, TakenOver, Stands}
use Rattle.list_changes.proofs.Facing.{face_changed, exchanged_inside}
use Rattle.list_changes.proofs.Gone.{left, one_more_gone, left_changed}

-- ---- what a line that applies says

-- the faces that stand are numbered
standing_low : (xs : List ℕ) (n : ℕ) → 3 * n ≤ length xs → All (λ g. g.origin < n) (standing xs n)
unfolding face
standing_low xs n fit =
    all_from (λ g. g.origin < n) (record { a = 0; b = 0; c = 0; origin = 0 }) (standing xs n)
    (λ i q.
    let l : i < n = omega (arith, length_faces_take xs n fit) in
    rw (standing_face xs n fit i l) l)

module _ {P F : ℕ} {b : Bench} {ps : List Float} {n : ℕ} {xs w : List ℕ} (s : Stands P F b ps n xs w) where
  -- and so are those that are left
  low : All (λ g. g.origin < F) b.faces
  low =
      subst (All (λ g. g.origin < F)) (sym s.faces)
      (all_imp (λ g. (g.origin < F) × T (not (s.gone g.origin))) (λ g. g.origin < F) (λ g h. h.0) (left s.gone (standing xs F))
      (all_filter (λ g. g.origin < F) (λ g. not (s.gone g.origin)) (standing xs F) (standing_low xs F s.faces_fit)))

  -- a face that is there is one of the input
  pub there : (f : ℕ) → T (present b f) → f < F
  unfolding present
  there f t =
      let m = any_elim (λ g. eqb f g.origin) (λ g. g.origin < F) b.faces low t in
      rw (eqb→eq f m.0.origin m.2) m.1

  -- so is one that has a point
  pub there_with : (v f : ℕ) → T (present_with b v f) → f < F
  unfolding present_with
  there_with v f t =
      let m = any_elim (λ g. eqb f g.origin && has v (corners g)) (λ g. g.origin < F) b.faces low t in
      rw (eqb→eq f m.0.origin (and_elim (eqb f m.0.origin) (has v (corners m.0)) m.2).0) m.1

  -- there are n points
  pub points_count : length b.points ≡ n
  points_count = ap length s.points ∙ length_points_take ps n (omega (arith, s.points_fit, s.most))

-- a split that applies
pub record Splits (P F : ℕ) (b : Bench) (n old new : ℕ) (fs : List ℕ) : Type 0 where
  pub more : b.splits < 3 * F
  pub old_low : old < P
  pub next : new ≡ n
  pub faces_low : All (λ f. f < F) fs

module _ {P F : ℕ} {b : Bench} {ps : List Float} {n : ℕ} {xs w : List ℕ} (s : Stands P F b ps n xs w) where
  -- the face of a line `d`
  pub drop_applies : (f : ℕ) (why : Reason) → T (applies P F b (dropped_face f why)) → f < F
  unfolding applies
  drop_applies f why t = there s f t

  -- the face of a line `o`
  pub exchange_applies : (f : ℕ) → T (applies P F b (exchange f)) → f < F
  unfolding applies
  exchange_applies f t = there s f t

  -- the point of a line `u`
  pub isolated_applies : (v : ℕ) → T (applies P F b (isolated_point v)) → v < n
  unfolding applies
  isolated_applies v t = omega (arith, points_count s, ltb→lt v (length b.points) (and_elim (ltb v (length b.points)) (not (used b.faces v)) t).0)

  -- the numbers of a line `s`
  pub split_applies : (old new : ℕ) (fs : List ℕ) → T (applies P F b (split_point old new fs)) → Splits P F b n old new fs
  unfolding applies
  split_applies old new fs t =
      let x = and_elim (ltb b.splits (3 * F) && ltb old P && eqb new (length b.points)) (all (present_with b old) fs) t in
      let y = and_elim (ltb b.splits (3 * F) && ltb old P) (eqb new (length b.points)) x.0 in
      let z = and_elim (ltb b.splits (3 * F)) (ltb old P) y.0 in
      record {
        more = ltb→lt b.splits (3 * F) z.0;
        old_low = ltb→lt old P z.1;
        next = eqb→eq new (length b.points) y.1 ∙ points_count s;
        faces_low = all_imp (λ f. T (present_with b old f)) (λ f. f < F) (λ f h. there_with s old f h) fs (all_elim (present_with b old) fs x.1);
      }

-- ---- the four changes

-- a flag that is set
set_so : (t : Bool) → ◌≡◌ {A = ℕ} 1 (cond (t || true) 1 0)
set_so true = refl
set_so false = refl

-- a flag that stays
same_so : (t : Bool) → ◌≡◌ {A = ℕ} (cond t 1 0) (cond (t || false) 1 0)
same_so true = refl
same_so false = refl

-- a face is flagged
flag_more : {w : List ℕ} {F : ℕ} (gone : ℕ → Bool) (f : ℕ) → F ≤ length w → f < F → Flagged w 0 F gone → Flagged (set w f 1) 0 F (λ i. gone i || eqb f i)
flag_more {w} {F} gone f fit l h =
    rw zero-add at
    (holds_set {a = 0} {g = λ i. cond (gone i) 1 0} {h = λ i. cond (gone i || eqb f i) 1 0} {w = w} f 1 (omega arith) l (rw (eq-eqb f f refl) (set_so (gone f))) (λ i q e. rw (ne_eqb f i e) (same_so (gone i))) h)

-- `d`
pub drop_stands : {P F : ℕ} {b : Bench} {ps : List Float} {n : ℕ} {xs w : List ℕ} (f : ℕ) (why : Reason) (last : List ℕ) → Stands P F b ps n xs w → f < F → Stands P F (change b (dropped_face f why) last) ps n xs (set w f 1)
unfolding change
drop_stands {P} {F} {b} {ps} {n} {xs} {w} f why last s l =
    record {
      points_fit = s.points_fit;
      faces_fit = s.faces_fit;
      work_fit = rw (length-set w f 1) s.work_fit;
      splits = s.splits;
      most = s.most;
      inside = s.inside;
      points = s.points;
      gone = λ i. s.gone i || eqb f i;
      flags = flag_more s.gone f (omega (arith, s.work_fit)) l s.flags;
      faces = ap (filter (λ g. not (eqb f g.origin))) s.faces ∙ one_more_gone s.gone f (standing xs F);
      named = holds_kept (only_set {a = 0} {n = F} w f 1 (omega arith) (omega arith)) (after (omega arith)) s.named;
    }

-- an exchange keeps the origin
exchanged_own : (g : Face) → (exchanged g).origin ≡ g.origin
unfolding exchanged
exchanged_own g = refl

-- `o`
pub exchange_stands : {P F : ℕ} {b : Bench} {ps : List Float} {n : ℕ} {xs w xs' : List ℕ} (f : ℕ) (last : List ℕ) → Stands P F b ps n xs w → f < F → FaceChanged exchanged f xs xs' → Stands P F (change b (exchange f) last) ps n xs' w
unfolding change
exchange_stands {P} {F} {b} {ps} {n} {xs} {w} {xs'} f last s l c =
    let e = c.only.long in
    record {
      points_fit = s.points_fit;
      faces_fit = omega (arith, s.faces_fit);
      work_fit = s.work_fit;
      splits = s.splits;
      most = s.most;
      inside = exchanged_inside (3 * F) n (omega arith) c s.inside;
      points = s.points;
      gone = s.gone;
      flags = s.flags;
      faces = ap (map h) s.faces ∙ left_changed s.gone h own (standing xs F) ∙ ap (left s.gone) (sym (face_changed exchanged_own c F s.faces_fit));
      named = s.named;
    }
  where
    h : Face → Face
    h = λ g. cond (eqb f g.origin) (exchanged g) g

    one : (t : Bool) (g : Face) → (cond t (exchanged g) g).origin ≡ g.origin
    one true g = exchanged_own g
    one false g = refl

    own : (g : Face) → (h g).origin ≡ g.origin
    own g = one (eqb f g.origin) g

-- a point more
flat_snoc : (pts : List Point) (p : Point) → flat_points (pts ++ (p ∷ [])) ≡ flat_points pts ++ coordinates p
unfolding flat_points each
flat_snoc pts p = each_append coordinates pts (p ∷ [])

-- a copy of point v behind n points
points_copied :
    (ps ps' : List Float) (n v : ℕ) → v < n → 3 * (n + 1) ≤ length ps → MoveGives nan ps v n ps'
    → points_of (take (3 * n) ps) ++ (point (points_of (take (3 * n) ps)) v ∷ []) ≡ points_of (take (3 * (n + 1)) ps')
points_copied ps ps' n v l fit g =
    let pts = points_of (take (3 * n) ps) in
    let e : 3 * (n + 1) ≡ 3 * n + 3 = omega arith in
    let m = length-take-le (3 * n) ps (omega arith) in
    sym
    (ap (λ k. points_of (take k ps')) e
    ∙ ap points_of
    (take-add (3 * n) 3 ps'
    ∙ ap₂ (λ x y. x ++ y) (kept g.only 0 (3 * n) (before (omega arith)) (omega arith) ∙ sym (flat_points_back (take (3 * n) ps) (omega arith))) (g.moved ∙ point_row ps n (omega arith) v l)
    ∙ sym (flat_snoc pts (point pts v)))
    ∙ points_flat (pts ++ (point pts v ∷ [])))

-- `s`
pub split_stands :
    {P F : ℕ} {b : Bench} {ps : List Float} {n : ℕ} {xs w : List ℕ} {ps' : List Float} {xs' : List ℕ} {old new : ℕ} {fs : List ℕ} (last : List ℕ)
    → Stands P F b ps n xs w → Splits P F b n old new fs → MoveGives nan ps old n ps' → TakenOver fs old new F xs xs' → Stands P F (change b (split_point old new fs) last) ps' (n + 1) xs' w
unfolding change
split_stands {P} {F} {b} {ps} {n} {xs} {w} {ps'} {xs'} {old} {new} {fs} last s a g t =
    let e = t.only.long in
    let d = g.only.long in
    let k : n < P + 3 * F = omega (arith, s.splits, a.more) in
    let o : old < n = omega (arith, s.splits, a.old_low) in
    record {
      points_fit = omega (arith, s.points_fit);
      faces_fit = omega (arith, s.faces_fit);
      work_fit = s.work_fit;
      splits = omega (arith, s.splits);
      most = omega arith;
      inside = t.inside (n + 1) (omega (arith, a.next)) (λ i h. omega (arith, s.inside i h));
      points = ap (λ l. l ++ (point l old ∷ [])) s.points ∙ points_copied ps ps' n old o (omega (arith, s.points_fit)) g;
      gone = s.gone;
      flags = s.flags;
      faces = ap (map h) s.faces ∙ left_changed s.gone h own (standing xs F) ∙ ap (left s.gone) (sym t.faces);
      named = s.named;
    }
  where
    h : Face → Face
    h = λ g. cond (has g.origin fs) (renamed (instead old new) g) g

    one : (t : Bool) (g : Face) → (cond t (renamed (instead old new) g) g).origin ≡ g.origin
    one true g = unfold renamed in refl
    one false g = refl

    own : (g : Face) → (h g).origin ≡ g.origin
    own g = one (has g.origin fs) g

-- one number more
has_snoc : (u v : ℕ) (xs : List ℕ) → has u (xs ++ (v ∷ [])) ≡ (has u xs || eqb u v)
unfolding has any
has_snoc u v [] = or-false (eqb u v)
has_snoc u v (x ∷ xs) = go (eqb u x) (has_snoc u v xs)
  where
    go : (t : Bool) → has u (xs ++ (v ∷ [])) ≡ (has u xs || eqb u v) → (t || has u (xs ++ (v ∷ []))) ≡ ((t || has u xs) || eqb u v)
    go true e = refl
    go false e = e

-- `u`
pub isolated_stands : {P F : ℕ} {b : Bench} {ps : List Float} {n : ℕ} {xs w : List ℕ} (v : ℕ) (last : List ℕ) → Stands P F b ps n xs w → v < n → Stands P F (change b (isolated_point v) last) ps n xs (set w (F + v) 1)
unfolding change
isolated_stands {P} {F} {b} {ps} {n} {xs} {w} v last s l =
    record {
      points_fit = s.points_fit;
      faces_fit = s.faces_fit;
      work_fit = rw (length-set w (F + v) 1) s.work_fit;
      splits = s.splits;
      most = s.most;
      inside = s.inside;
      points = s.points;
      gone = s.gone;
      flags = holds_kept (only_set {a = F} {n = P + 3 * F} w (F + v) 1 (omega arith) (omega (arith, s.most))) (before (omega arith)) s.flags;
      faces = s.faces;
      named =
          holds_set {a = F} {g = λ u. cond (has u b.unused) 1 0} {h = λ u. cond (has u (b.unused ++ (v ∷ []))) 1 0} {w = w} v 1 (omega (arith, s.work_fit)) (omega (arith, s.most))
          (rw (has_snoc v v b.unused, eq-eqb v v refl) (set_so (has v b.unused)))
          (λ i q e. rw (has_snoc i v b.unused, ne_eqb i v (λ d. e (sym d))) (same_so (has i b.unused)))
          s.named;
    }
