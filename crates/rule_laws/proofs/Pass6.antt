-- Pass 6 renumbers the points: it keeps each directed edge walked at most once, and one fan at every point. Assumes nothing.
use mathlib.Core.Path.{◌≡◌, refl, sym, ◌∙◌, subst}
use mathlib.Core.Bool.{not}
use mathlib.Core.List.Memᴰ
use mathlib.Core.List.{List, [], ◌∷◌, map, Memᴰ}
use Prim.Native.Nat.{ℕ, ◌<◌}
use lib.ListN.{length, get_or, length-map}
use lib.Dec.{T}
use Rattle.rules.specs.Lists.{below, leave, has}
use Rattle.rules.specs.Mesh.{Face, face, corners, renamed}
use Rattle.rules.specs.State.{State}
use Rattle.rules.specs.Pass6.{used, marked6, number, pass6}
use Rattle.rule_laws.proofs.Lists.{length_below, get_or_map_in, leave_at, leave_count}
use Rattle.rule_laws.proofs.Rising.{All, get_or_below}
use Rattle.rule_laws.proofs.Members.{all_members, any_intro, has_mem, mem_at, mem_has}
use Rattle.rule_laws.proofs.Counting.{count_onto}
use Rattle.rule_laws.proofs.Demand.{Chain, stay, link, OneFan, across_edge}
use Rattle.rule_laws.proofs.Groups.{chain_end}
use Rattle.rule_laws.proofs.Once.{Inside, Once}
use Rattle.rule_laws.proofs.Numbering.{number_injective}
use Rattle.rule_laws.proofs.Fans.{across_intro, across_elim, share_intro, share_elim}
use Rattle.rule_laws.proofs.Renaming.{once_back}

-- a corner of a face of the list is used
pub corner_used : (fs : List Face) (f : Face) (x : ℕ) → Memᴰ f fs → Memᴰ x (corners f) → T (used fs x)
unfolding used
corner_used fs f x mf mx = any_intro (λ g. has x (corners g)) f fs mf (mem_has x (corners f) mx)

-- the number that a new number stands for
was : ℕ → List Face → ℕ → ℕ
was P fs k = get_or (leave (λ i. not (used fs i)) (below P)) k 0

-- it is the number before
was_number : (P : ℕ) (fs : List Face) (v : ℕ) → v < P → T (used fs v) → was P fs (number fs v) ≡ v
unfolding was number
was_number P fs v h t = leave_at (used fs) (below P) v 0 (rw (length_below P) h) t ∙ get_or_below P v h

-- so renumbered faces can be had back
renumbered_back : (P : ℕ) (fs gs : List Face) → All (λ f. Memᴰ f fs) gs → Inside P gs → map (renamed (was P fs)) (map (renamed (number fs)) gs) ≡ gs
unfolding renamed
renumbered_back P fs [] h k = refl
renumbered_back P fs (f ∷ gs) h k =
    let a = was_number P fs f.a k.0.0 (corner_used fs f f.a h.0 (Memᴰ.head refl)) in
    let b = was_number P fs f.b k.0.1 (corner_used fs f f.b h.0 (Memᴰ.tail (Memᴰ.head refl))) in
    let c = was_number P fs f.c k.0.2 (corner_used fs f f.c h.0 (Memᴰ.tail (Memᴰ.tail (Memᴰ.head refl)))) in
    let r = renumbered_back P fs gs h.1 k.1 in
    λ i. record { a = a i; b = b i; c = c i; origin = f.origin } ∷ r i

-- pass 6 keeps each directed edge walked at most once
pub pass6_once : (m : State) → Inside (length m.points) m.faces → Once m.faces → Once (pass6 m).faces
unfolding pass6
pass6_once m inside once =
    once_back (was (length m.points) m.faces) (map (renamed (number m.faces)) m.faces)
    (subst Once (sym (renumbered_back (length m.points) m.faces m.faces (all_members m.faces) inside)) once)

-- ---- the fans

-- face i of changed faces is face i, changed
pub face_map : (g : Face → Face) (fs : List Face) (i : ℕ) → i < length fs → face (map g fs) i ≡ g (face fs i)
unfolding face
face_map g fs i h = get_or_map_in g fs i _ _ h

-- face i is among the faces
pub face_mem : (fs : List Face) (i : ℕ) → i < length fs → Memᴰ (face fs i) fs
unfolding face
face_mem fs i h = mem_at fs i _ h

module _ (fs : List Face) where
  -- the renumbered faces
  abbrev out : List Face
  out = map (renamed (number fs)) fs

  -- they are as many
  long : length out ≡ length fs
  long = length-map fs (renamed (number fs))

  -- a corner has its new number after
  to_new : (i x : ℕ) → i < length fs → Memᴰ x (corners (face fs i)) → Memᴰ (number fs x) (corners (face out i))
  unfolding renamed
  to_new i x h k = rw (face_map (renamed (number fs)) fs i h) (Memᴰ.map (number fs) k)

  -- a corner of a face is used
  in_use : (i x : ℕ) → i < length fs → Memᴰ x (corners (face fs i)) → T (used fs x)
  in_use i x h k = corner_used fs (face fs i) x (face_mem fs i h) k

  -- a new number among the corners comes from the number before
  from_new : (i v : ℕ) → i < length fs → T (used fs v) → Memᴰ (number fs v) (corners (face out i)) → Memᴰ v (corners (face fs i))
  unfolding renamed
  from_new i v h u k =
      let w = Memᴰ.of_map (number fs) (corners (face fs i)) (subst (λ f. Memᴰ (number fs v) (corners f)) (face_map (renamed (number fs)) fs i h) k) in
      subst (λ y. Memᴰ y (corners (face fs i))) (sym (number_injective fs v w.0 u (in_use i w.0 h w.1) (sym w.2))) w.1

  -- a vertex with one fan has one under its new number
  pub renumbered_fan : (v : ℕ) → T (used fs v) → OneFan fs v → OneFan out (number fs v)
  renumbered_fan v u fan i j hi hj ti tj =
      let hi' : i < length fs = rw long at hi in
      let hj' : j < length fs = rw long at hj in
      moved hi' (fan i j hi' hj' (mem_has v (corners (face fs i)) (from_new i v hi' u (has_mem (number fs v) (corners (face out i)) ti)))
      (mem_has v (corners (face fs j)) (from_new j v hj' u (has_mem (number fs v) (corners (face out j)) tj))))
    where
      edge_moved : (k l : ℕ) → k < length fs → l < length fs → T (across_edge fs v k l) → T (across_edge out (number fs v) k l)
      edge_moved k l hk hl t =
          let p = across_elim fs v k l t in
          let w = share_elim v (face fs k) (face fs l) p.2 in
          across_intro out (number fs v) k l (to_new k v hk p.0) (to_new l v hl p.1)
          (share_intro (number fs v) (face out k) (face out l) (number fs w.0)
          (λ e. w.1 (number_injective fs w.0 v (in_use k w.0 hk w.2) u e))
          (to_new k w.0 hk w.2) (to_new l w.0 hl w.3))

      moved : {k l : ℕ} → k < length fs → Chain (across_edge fs v) (length fs) k l → Chain (across_edge out (number fs v)) (length out) k l
      moved h stay = stay
      moved h (link {j = k} {k = l} c t b) = link (moved h c) (edge_moved k l (chain_end h c) b t) (rw long b)

-- pass 6 keeps one fan at every point
pub pass6_fans :
    (m : State) → ((u : ℕ) → u < length m.points → OneFan m.faces u)
    → (t : ℕ) → t < length (pass6 m).points → OneFan (pass6 m).faces t
unfolding pass6 marked6 number
pass6_fans m fan t h =
    let w = count_onto (used m.faces) (length m.points) t (rw (leave_count (used m.faces) m.points) at h) in
    subst (λ y. OneFan (map (renamed (number m.faces)) m.faces) y) w.3 (renumbered_fan m.faces w.0 w.2 (fan w.0 w.1))
