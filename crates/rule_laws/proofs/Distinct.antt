-- Pass 1 leaves no face that repeats a corner, and no later pass makes one: with all six options the output has none. Assumes nothing.
use mathlib.Core.Path.{◌≡◌, refl, sym, ap, ◌∙◌, subst}
use mathlib.Core.Logic.{inl, inr, ◌≢◌}
use mathlib.Core.Bool.{Bool, true, false, not, ◌||◌, cond}
use mathlib.Core.List.{List, [], ◌∷◌, map, Memᴰ}
use Prim.Native.Nat.{ℕ, zero, suc, ◌≤◌, ◌<◌}
use native.Mathlib.Omega.{arith}
use borrow.Author.Tests.{eqb-false}
use lib.ListN.{length, get_or, drop}
use lib.Dec.{T, eqb}
use lib.Ieee.{Float}
use Rattle.rules.specs.Lists.{below, leave, through}
use Rattle.rules.specs.Mesh.{Point, Face, point, face, corners, exchanged, renamed}
use Rattle.rules.specs.Float.{Shape, good, repeated, thin, repeats, flat, shape, is_repeated, is_thin}
use Rattle.rules.specs.State.{State, start, counted, with_faces, dropped}
use Rattle.rules.specs.Pass1.{pass1, repeated1, thin1, marked1}
use Rattle.rules.specs.Pass2.{pass2, marked2}
use Rattle.rules.specs.Pass3.{pass3, marked3}
use Rattle.rules.specs.Pass4.{oriented, pass4, marked4}
use Rattle.rules.specs.Pass5.{fans, split, pass5}
use Rattle.rules.specs.Pass6.{number, pass6}
use Rattle.rules.specs.Repair.{optional, repaired}
use Rattle.rule_laws.proofs.Demand.{Distinct}
use Rattle.rule_laws.proofs.Lists.{through_last}
use Rattle.rule_laws.proofs.Rising.{All, all_at, all_imp, below_all, all_from, all_leave, all_map, left_passes}
use Rattle.rule_laws.proofs.Members.{all_members}
use Rattle.rule_laws.proofs.Turning.{OrExchanged, oriented_turned, Turned}
use Rattle.rule_laws.proofs.Once.{Inside, face_inside}
use Rattle.rule_laws.proofs.Numbering.{number_injective}
use Rattle.rule_laws.proofs.Splitting.{instead, target, split_is}
use Rattle.rule_laws.proofs.Fans.{target_new}
use Rattle.rule_laws.proofs.Pass5.{home, home_back, turns}
use Rattle.rule_laws.proofs.Pass6.{corner_used}
use Rattle.rule_laws.proofs.Manifold.{opted, before4, after23_has, before4_fine, pass4_fine, all_six}

-- pass 1 marks a face with these corners
abbrev leaves : Float → List Point → Face → Bool
leaves s ps f = is_repeated (shape s ps f) || is_thin (shape s ps f)

-- a face that it does not mark has three different corners
sound_distinct : (s : Float) (ps : List Point) (f : Face) → T (not (leaves s ps f)) → Distinct f
unfolding shape is_repeated is_thin repeats
sound_distinct s ps f t = go (eqb f.a f.b) (eqb f.b f.c) (eqb f.c f.a) refl refl refl t
  where
    found : Bool → Shape
    found r = cond r repeated (cond (flat s (point ps f.a) (point ps f.b) (point ps f.c)) thin good)

    go : (x y z : Bool) → eqb f.a f.b ≡ x → eqb f.b f.c ≡ y → eqb f.c f.a ≡ z
        → T (not (is_repeated (found ((x || y) || z)) || is_thin (found ((x || y) || z)))) → Distinct f
    go false false false p q r t = (eqb-false f.a f.b p, eqb-false f.b f.c q, eqb-false f.c f.a r)
    go false false true p q r t = absurd t
    go false true z p q r t = absurd t
    go true y z p q r t = absurd t

-- after pass 1 no face repeats a corner
pub pass1_distinct : (s : Float) (m : State) → All Distinct (pass1 s m).faces
unfolding pass1 counted with_faces repeated1 thin1 marked1 face
pass1_distinct s m =
    all_imp (λ f. T (not (leaves s m.points f))) Distinct (sound_distinct s m.points)
    (leave (λ i. leaves s m.points (get_or m.faces i (record { a = 0; b = 0; c = 0; origin = 0 }))) m.faces)
    (left_passes (leaves s m.points) (record { a = 0; b = 0; c = 0; origin = 0 }) m.faces)

-- ---- an exchange, a split and a renumbering keep them different

-- an exchange of corners keeps them different
turned_distinct : (fs gs : List Face) → Turned fs gs → All Distinct fs → All Distinct gs
unfolding face
turned_distinct fs gs t h =
    all_from Distinct (record { a = 0; b = 0; c = 0; origin = 0 }) gs
    (λ i l. go (face fs i) (face gs i) (t.1 i) (all_at Distinct fs (record { a = 0; b = 0; c = 0; origin = 0 }) i h (rw t.0 at l)))
  where
    go : (f g : Face) → OrExchanged f g → Distinct f → Distinct g
    go f g (inl e) d = subst Distinct (sym e) d
    go f g (inr e) d = subst Distinct (sym e) (unfold exchanged in ((λ q. d.2 (sym q)), (λ q. d.1 (sym q)), (λ q. d.0 (sym q))))

module _ (m : State) (v : ℕ) (inside : Inside (length m.points) m.faces) (hv : v < length m.points) where
  -- a split keeps them different: v and its copies are no other corner
  split_distinct : All Distinct m.faces → All Distinct (split m v).faces
  unfolding renamed face
  split_distinct h =
      rw (split_is m v hv)
      (all_map Distinct (λ i. renamed (instead v (t i)) (face m.faces i)) (below (length m.faces))
      (all_imp (λ i. i < length m.faces) (λ i. Distinct (renamed (instead v (t i)) (face m.faces i))) one (below (length m.faces)) (below_all (length m.faces))))
    where
      gs : List (List ℕ)
      gs = drop 1 (fans m.faces v)

      t : ℕ → ℕ
      t i = target v (length m.points) gs i

      apart : (i x y : ℕ) → x < length m.points → y < length m.points → x ≢ y → instead v (t i) x ≢ instead v (t i) y
      apart i x y hx hy ne e =
          let w = target_new v (length m.points) gs i in
          ne (sym (home_back (length m.points) v (t i) x hv hx w) ∙ ap (home (length m.points) v) e ∙ home_back (length m.points) v (t i) y hv hy w)

      one : (i : ℕ) → i < length m.faces → Distinct (renamed (instead v (t i)) (face m.faces i))
      one i l =
          let b = face_inside (length m.points) m.faces inside i l in
          let d = all_at Distinct m.faces (record { a = 0; b = 0; c = 0; origin = 0 }) i h l in (
            apart i (face m.faces i).a (face m.faces i).b b.0 b.1 d.0,
            apart i (face m.faces i).b (face m.faces i).c b.1 b.2 d.1,
            apart i (face m.faces i).c (face m.faces i).a b.2 b.0 d.2,
          )

-- so do the splits at the vertices below k
turns_distinct : (m : State) → Inside (length m.points) m.faces → All Distinct m.faces → (k : ℕ) → k ≤ length m.points → All Distinct (through split m (below k)).faces
turns_distinct m inside d zero h = unfold through below in d
turns_distinct m inside d (suc k) h =
    subst (λ s. All Distinct s.faces) (sym (through_last split m k))
    (split_distinct (through split m (below k)) k (turns m inside k (omega arith)).inside (omega (arith, (turns m inside k (omega arith)).grown)) (turns_distinct m inside d k (omega arith)))

-- a renumbering of used points keeps them different
renumbered_distinct :
    (fs gs : List Face) → All (λ f. Memᴰ f fs) gs → All Distinct gs → All Distinct (map (renamed (number fs)) gs)
unfolding renamed
renumbered_distinct fs [] k d = tt
renumbered_distinct fs (f ∷ gs) k d = (
  (
    apart f.a f.b (Memᴰ.head refl) (Memᴰ.tail (Memᴰ.head refl)) d.0.0,
    apart f.b f.c (Memᴰ.tail (Memᴰ.head refl)) (Memᴰ.tail (Memᴰ.tail (Memᴰ.head refl))) d.0.1,
    apart f.c f.a (Memᴰ.tail (Memᴰ.tail (Memᴰ.head refl))) (Memᴰ.head refl) d.0.2,
  ),
  renumbered_distinct fs gs k.1 d.1,
)
  where
    apart : (x y : ℕ) → Memᴰ x (corners f) → Memᴰ y (corners f) → x ≢ y → number fs x ≢ number fs y
    apart x y mx my ne e = ne (number_injective fs x y (corner_used fs f x k.0 mx) (corner_used fs f y k.0 my) e)

-- with pass 1, whether or not passes 2 and 3 run, no face of the output repeats a corner
pub distinct : (two three : Bool) (s : Float) (ps : List Point) (fs : List Face) → Inside (length ps) fs → All Distinct (repaired s (opted true two three) ps fs).faces
distinct two three s ps fs h =
    let m3 = before4 true two three s ps fs in
    let f3 = before4_fine true two three s ps fs h in
    let m4 = pass4 m3 in
    let f4 = pass4_fine m3 f3 in
    subst (λ m. All Distinct m.faces) (sym (all_six true two three s ps fs)) (last_two m4 f4 (fourth m3 first_three))
  where
    first_three : All Distinct (before4 true two three s ps fs).faces
    first_three =
        unfold before4 optional in
        (after23_has (λ m. All Distinct m.faces) (λ m d. unfold pass2 counted dropped with_faces in all_leave Distinct (marked2 m.faces) m.faces d)
        (λ m d. unfold pass3 counted dropped with_faces in all_leave Distinct (marked3 m.points m.faces) m.faces d) two three
        (pass1 s (start ps fs)) (pass1_distinct s (start ps fs)))

    fourth : (m : State) → All Distinct m.faces → All Distinct (pass4 m).faces
    fourth m d =
        let gs4 = (oriented m.faces).walk.faces in
        unfold pass4 dropped counted with_faces in
        (all_leave Distinct (marked4 m.points gs4) gs4 (turned_distinct m.faces gs4 (oriented_turned m.faces) d))

    last_two : (m : State) → Inside (length m.points) m.faces → All Distinct m.faces → All Distinct (pass6 (pass5 m)).faces
    last_two m inside d =
        unfold pass6 in
        (renumbered_distinct (pass5 m).faces (pass5 m).faces (all_members (pass5 m).faces)
        (unfold pass5 in turns_distinct m inside d (length m.points) (omega arith)))
