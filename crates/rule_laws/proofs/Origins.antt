-- What each pass does to the origins: faces that leave take theirs along, and passes 4, 5 and 6 keep them. Assumes nothing.
use mathlib.Core.Path.{◌≡◌, refl, sym, ap, ◌∙◌}
use mathlib.Core.Bool.{Bool, true, false, cond}
use mathlib.Core.List.{List, [], ◌∷◌, map, map-map}
use Prim.Native.Nat.{ℕ, suc, ◌<◌}
use native.Mathlib.Omega.{arith}
use lib.ListN.{length, drop}
use lib.Dec.{eqb, ltb}
use Rattle.rules.specs.Lists.{below, has, leave, through}
use Rattle.rules.specs.Mesh.{Face, face, faces_of, renamed}
use Rattle.rules.specs.State.{State, counted, vertices_split}
use Rattle.rules.specs.Pass4.{oriented}
use Rattle.rules.specs.Pass5.{fans, split_off, split, pass5}
use Rattle.rules.specs.Pass6.{number, pass6}
use Rattle.rule_laws.proofs.Lists.{through_keeps}
use Rattle.rule_laws.proofs.Flat.{numbered}
use Rattle.rule_laws.proofs.Turning.{Turned, turned_origin, oriented_turned}
use Rattle.rule_laws.proofs.Splitting.{faces_by_place}

-- the origins of faces, in their order
abbrev pub origins : List Face → List ℕ
origins fs = map (λ f. f.origin) fs

module _ {A B : Type 0} (g : A → B) where
  -- what is read of each element leaves with it
  pub leave_map : (marked : ℕ → Bool) (xs : List A) → map g (leave marked xs) ≡ leave marked (map g xs)
  unfolding leave
  leave_map marked [] = refl
  leave_map marked (x ∷ xs) = go (marked 0) (leave_map (λ i. marked (suc i)) xs)
    where
      go : (b : Bool) → map g (leave (λ i. marked (suc i)) xs) ≡ leave (λ i. marked (suc i)) (map g xs)
          → map g (cond b (leave (λ i. marked (suc i)) xs) (x ∷ leave (λ i. marked (suc i)) xs)) ≡ cond b (leave (λ i. marked (suc i)) (map g xs)) (g x ∷ leave (λ i. marked (suc i)) (map g xs))
      go true e = e
      go false e = ap (λ l. g x ∷ l) e

-- an exchange keeps the origin
pub turned_origins : (fs gs : List Face) → Turned fs gs → origins gs ≡ origins fs
unfolding face
turned_origins [] [] t = refl
turned_origins [] (g ∷ gs) t = absurd (omega (arith, t.0))
turned_origins (f ∷ fs) [] t = absurd (omega (arith, t.0))
turned_origins (f ∷ fs) (g ∷ gs) t =
    let r = turned_origins fs gs (omega (arith, t.0), λ i. t.1 (suc i)) in
    λ i. turned_origin f g (t.1 0) i ∷ r i

-- so does the first half of pass 4
pub oriented_origins : (fs : List Face) → origins (oriented fs).walk.faces ≡ origins fs
oriented_origins fs = turned_origins fs (oriented fs).walk.faces (oriented_turned fs)

-- so that each face of a call's list stays its own
pub oriented_own : (xs : List ℕ) (i : ℕ) → i < length (oriented (faces_of xs)).walk.faces → (face (oriented (faces_of xs)).walk.faces i).origin ≡ i
oriented_own xs i h =
    let t = oriented_turned (faces_of xs) in
    turned_origin (face (faces_of xs) i) (face (oriented (faces_of xs)).walk.faces i) (t.1 i) ∙ numbered xs i (rw t.0 at h)

-- a group that is split off keeps the origins of its faces
pub off_origins : (v : ℕ) (m : State) (fan : List ℕ) → origins (split_off v m fan).faces ≡ origins m.faces
unfolding split_off
off_origins v m fan =
    map-map (λ g. g.origin) (λ i. cond (has i fan) (renamed new (face m.faces i)) (face m.faces i)) (below (length m.faces))
    ∙ ap (λ (h : ℕ → ℕ). map h (below (length m.faces))) (λ k i. one (has i fan) (face m.faces i) k)
    ∙ sym (map-map (λ g. g.origin) (face m.faces) (below (length m.faces)))
    ∙ ap origins (sym (faces_by_place m.faces))
  where
    new : ℕ → ℕ
    new = λ x. cond (eqb x v) (length m.points) x

    one : (b : Bool) (f : Face) → (cond b (renamed new f) f).origin ≡ f.origin
    one true f = unfold renamed in refl
    one false f = refl

-- so does pass 5
pub pass5_origins : (m : State) → origins (pass5 m).faces ≡ origins m.faces
unfolding pass5 split counted
pass5_origins m =
    through_keeps (λ x. origins x.faces ≡ origins m.faces) split
    (λ x v h.
    through_keeps (λ y. origins y.faces ≡ origins m.faces) (split_off v)
    (λ y fan q. off_origins v y fan ∙ q)
    (drop 1 (fans x.faces v)) (counted vertices_split (cond (ltb 1 (length (fans x.faces v))) 1 0) x) h)
    (below (length m.points)) m refl

-- and pass 6
pub pass6_origins : (m : State) → origins (pass6 m).faces ≡ origins m.faces
unfolding pass6 renamed
pass6_origins m = map-map (λ g. g.origin) (renamed (number m.faces)) m.faces
