-- The faces of a split, one after the other: whether each has the point, and the point leaving each. Assumes nothing.
use mathlib.Core.Path.{◌≡◌, refl, sym, ap, ◌∙◌}
use mathlib.Core.Bool.{Bool, true, false, not, cond, ◌&&◌, ◌||◌}
use mathlib.Core.List.{List, [], ◌∷◌}
use Prim.Native.Nat.{ℕ, ◌+◌, ◌*◌, ◌≤◌, ◌<◌}
use native.Mathlib.Omega.{arith}
use borrow.Author.Tests.{ltb-true}
use lib.Dec.{eqb, ltb}
use lib.ListN.{length, get_or}
use Rattle.rules.specs.Lists.{any, all, has}
use Rattle.rule_laws.proofs.Rising.{All, all_imp}
use Rattle.list_lines.specs.Lines as lines
use Rattle.list_lines.specs.Lines.{faces_from_row, FaceGives}
use Rattle.list_lines.proofs.Telling.{faces_end}
use Rattle.face_marks.specs.Marks.{here, keeps, has_face, Small, FaceAsks, Sized, SplitAsks, TakeAsks, TakeGives, TakeAllAsks, TakeAllGives}

-- ---- whether each has the point

-- the faces before `at` do
pub record Looked (text : List ℕ) (from end : ℕ) (xs m : List ℕ) (n v at : ℕ) : Type 0 where
  pub faces : lines.Faces text at end
  pub left : all (has_face xs m n v) (faces_from_row text at end) ≡ all (has_face xs m n v) (faces_from_row text from end)

pub looked_begin : {text : List ℕ} {from end : ℕ} {xs m : List ℕ} {n : ℕ} (v : ℕ) → SplitAsks text from end xs m n → Looked text from end xs m n v from
looked_begin v p = record { faces = p.faces; left = refl }

-- a face that is there
pub here_face : (xs m : List ℕ) (n f : ℕ) → Sized xs m n → true ≡ (ltb f n && here m f) → FaceAsks xs m f
here_face xs m n f s h = go (ltb f n) refl h
  where
    go : (t : Bool) → ltb f n ≡ t → true ≡ (t && here m f) → FaceAsks xs m f
    go true e q =
        let l = ltb-true f n e in
        let c = s.corners in
        let b = s.bytes in
        record { corners = omega arith; byte = omega arith }
    go false e q = let z : ◌≡◌ {A = ℕ} 0 1 = cc in absurd (omega arith)

module _ {text : List ℕ} {from end : ℕ} {xs m : List ℕ} {n v at : ℕ} (i : Looked text from end xs m n v at) {f next : ℕ} (g : FaceGives text at end f next) where
  -- the next face, and the others
  looked_on : all (has_face xs m n v) (faces_from_row text at end) ≡ (has_face xs m n v f && all (has_face xs m n v) (faces_from_row text next end))
  unfolding all
  looked_on = ap (all (has_face xs m n v)) g.told

  -- it is not there
  pub looked_gone : false ≡ (ltb f n && here m f) → false ≡ all (has_face xs m n v) (faces_from_row text from end)
  looked_gone h = sym (sym i.left ∙ looked_on ∙ rw (← h) refl)

  -- it has not the point
  pub looked_without : true ≡ (ltb f n && here m f) → false ≡ keeps xs m f v → false ≡ all (has_face xs m n v) (faces_from_row text from end)
  looked_without h k = sym (sym i.left ∙ looked_on ∙ rw (← h, ← k) refl)

  -- it has
  pub looked_again : true ≡ (ltb f n && here m f) → true ≡ keeps xs m f v → Looked text from end xs m n v next
  looked_again h k =
      let e : has_face xs m n v f ≡ true = rw (← h, ← k) refl in
      record { faces = g.faces; left = sym (sym i.left ∙ looked_on ∙ ap (λ (t : Bool). t && all (has_face xs m n v) (faces_from_row text next end)) e) }

-- all have it
pub looked_done : {text : List ℕ} {from end : ℕ} {xs m : List ℕ} {n v at : ℕ} → Looked text from end xs m n v at → end ≤ at → true ≡ all (has_face xs m n v) (faces_from_row text from end)
unfolding all
looked_done {text} {from} {end} {xs} {m} {n} {v} {at} i h =
    let e : at ≡ end = omega (arith, i.faces.begins) in
    sym (sym i.left ∙ ap (all (has_face xs m n v)) (faces_end text at end e))

-- ---- the point leaving each

-- it has left the faces before `at`
pub record Leaving (text : List ℕ) (from end : ℕ) (xs m₀ : List ℕ) (v : ℕ) (m : List ℕ) (at : ℕ) : Type 0 where
  pub faces : lines.Faces text at end
  pub each : All (FaceAsks xs m₀) (faces_from_row text at end)
  pub long : length m ≡ length m₀
  pub small : Small m
  pub same_here : (g : ℕ) → here m g ≡ here m₀ g
  pub left : (g w : ℕ) → (keeps xs m g w && not (has g (faces_from_row text at end) && eqb w v)) ≡ (keeps xs m₀ g w && not (has g (faces_from_row text from end) && eqb w v))

pub leaving_begin : {text : List ℕ} {from end : ℕ} {xs m : List ℕ} (v : ℕ) → TakeAllAsks text from end xs m → Leaving text from end xs m v m from
leaving_begin v p = record { faces = p.faces; each = p.each; long = refl; small = p.small; same_here = λ g. refl; left = λ g w. refl }

-- a face more
step : (k x y h : Bool) → ((k && not (x && y)) && not (h && y)) ≡ (k && not ((x || h) && y))
step true true true true = refl
step true true true false = refl
step true true false true = refl
step true true false false = refl
step true false true true = refl
step true false true false = refl
step true false false true = refl
step true false false false = refl
step false x y h = refl

module _ {text : List ℕ} {from end : ℕ} {xs m₀ : List ℕ} {v : ℕ} {m : List ℕ} {at : ℕ} (i : Leaving text from end xs m₀ v m at) {f next : ℕ} (g : FaceGives text at end f next) where
  -- the next face
  next_asks : All (FaceAsks xs m₀) (f ∷ faces_from_row text next end)
  next_asks = rw g.told at i.each

  -- its byte is there
  pub leaving_asks : TakeAsks xs m f
  leaving_asks =
      let l = i.long in
      let p = next_asks.0 in
      record { face = record { corners = p.corners; byte = omega (arith, p.byte) }; small = i.small }

  -- the point leaves it
  pub leaving_again : {m' : List ℕ} → TakeGives xs m f v m' → Leaving text from end xs m₀ v m' next
  unfolding has any
  leaving_again {m'} t =
      record {
        faces = g.faces;
        each = next_asks.1;
        long = t.long ∙ i.long;
        small = t.small;
        same_here = λ h. t.same_here h ∙ i.same_here h;
        left = λ h w.
            ap (λ (b : Bool). b && not (has h (faces_from_row text next end) && eqb w v)) (t.told h w)
            ∙ step (keeps xs m h w) (eqb h f) (eqb w v) (has h (faces_from_row text next end))
            ∙ ap (λ (fs : List ℕ). keeps xs m h w && not (has h fs && eqb w v)) (sym g.told)
            ∙ i.left h w;
      }

-- it has left all
and_true : (b : Bool) → b ≡ (b && not false)
and_true true = refl
and_true false = refl

pub leaving_done : {text : List ℕ} {from end : ℕ} {xs m₀ : List ℕ} {v : ℕ} {m : List ℕ} {at : ℕ} → Leaving text from end xs m₀ v m at → end ≤ at → TakeAllGives xs m₀ (faces_from_row text from end) v m
unfolding has any
leaving_done {text} {from} {end} {xs} {m₀} {v} {m} {at} i h =
    let e : at ≡ end = omega (arith, i.faces.begins) in
    record {
      long = i.long;
      small = i.small;
      same_here = i.same_here;
      told = λ g w.
          and_true (keeps xs m g w)
          ∙ ap (λ (fs : List ℕ). keeps xs m g w && not (has g fs && eqb w v)) (sym (faces_end text at end e))
          ∙ i.left g w;
    }
