-- The loops can be read off the two rooms in which the loop call leaves them: all vertices in a row, cut at the running totals. Assumes nothing.
use mathlib.Core.Path.{◌≡◌, refl, sym, ap, ap₂, ◌∙◌}
use mathlib.Core.List.{List, [], ◌∷◌, ◌++◌, map, append_assoc, append-nil, map-map}
use Prim.Native.Nat.{ℕ, suc, ◌+◌, ◌-◌, ◌*◌, ◌/◌}
use native.Mathlib.Omega.{arith}
use native.Mathlib.Nat.{zero-add, add_assoc}
use lib.ListN.{length, get_or, take, drop, length-append}
use lib.Seq.{take_at, drop_at}
use lib.Ieee.{Float}
use Rattle.rules.specs.Lists.{below, each}
use Rattle.rules.specs.Mesh.{Face, faces_of}
use Rattle.rules.specs.Rooms.{accepted}
use Rattle.rules.specs.Edges.{loops, loop_vertices, loop_ends}
use Rattle.rules.specs.LoopsCall.{LoopsRooms, loops_check, find_loops}
use Rattle.rule_laws.proofs.Lists.{below_suc}
use Rattle.rule_laws.proofs.Growing.{vertices}
use Rattle.rule_laws.proofs.Called.{outcome_ok, filled_front}

-- the pieces of a list from place a on that end at the given places
unfoldable pub cut : List ℕ → ℕ → List ℕ → List (List ℕ)
cut vs a [] = []
cut vs a (e ∷ es) = take (e - a) (drop a vs) ∷ cut vs e es

-- running totals of the loops' lengths
totals : List (List ℕ) → List ℕ
totals ls = map (λ k. length (vertices (take (suc k) ls))) (below (length ls))

-- the first loop's length, and the others' totals on top of it
totals_cons : (l : List ℕ) (ls : List (List ℕ)) → totals (l ∷ ls) ≡ length l ∷ map (λ n. length l + n) (totals ls)
unfolding totals each
totals_cons l ls =
    rw (below_suc (length ls))
    (ap₂ (λ x xs. x ∷ xs) (ap length (append-nil l))
    (map-map (λ k. length (vertices (take (suc k) (l ∷ ls)))) suc (below (length ls))
    ∙ ap (λ (f : ℕ → ℕ). map f (below (length ls))) (λ i k. length-append l (vertices (take (suc k) ls)) i)
    ∙ sym (map-map (λ n. length l + n) (λ k. length (vertices (take (suc k) ls))) (below (length ls)))))

-- behind a front of other vertices
cut_after : (front : List ℕ) (ls : List (List ℕ)) → cut (front ++ vertices ls) (length front) (map (λ n. length front + n) (totals ls)) ≡ ls
unfolding cut each
cut_after front [] = unfold totals below in refl
cut_after front (l ∷ ls) =
    ap (λ ts. cut (front ++ (l ++ vertices ls)) (length front) (map (λ n. length front + n) ts)) (totals_cons l ls)
    ∙ ap₂ (λ x xs. x ∷ xs) here (ap (cut (front ++ (l ++ vertices ls)) (length front + length l)) (map-map (λ n. length front + n) (λ n. length l + n) (totals ls)) ∙ there (cut_after (front ++ l) ls))
  where
    here : take (length front + length l - length front) (drop (length front) (front ++ (l ++ vertices ls))) ≡ l
    here =
        let e : length front + length l - length front ≡ length l = omega arith in
        ap (take (length front + length l - length front)) (drop_at front (l ++ vertices ls) (length front) refl) ∙ take_at l (vertices ls) (length front + length l - length front) (sym e)

    there : cut (front ++ l ++ vertices ls) (length (front ++ l)) (map (λ n. length (front ++ l) + n) (totals ls)) ≡ ls
        → cut (front ++ (l ++ vertices ls)) (length front + length l) (map (λ n. length front + (length l + n)) (totals ls)) ≡ ls
    there r =
        ap (cut (front ++ (l ++ vertices ls)) (length front + length l))
        (ap (λ (f : ℕ → ℕ). map f (totals ls)) (λ i n. sym (add_assoc (length front) (length l) n) i))
        ∙ ap (λ n. cut (front ++ (l ++ vertices ls)) n (map (λ k. n + k) (totals ls))) (sym (length-append front l))
        ∙ ap (λ vs. cut vs (length (front ++ l)) (map (λ k. length (front ++ l) + k) (totals ls))) (sym (append_assoc front l (vertices ls)))
        ∙ r

-- cut at the loop ends, the loop vertices are the loops
pub cut_loops : (P : ℕ) (fs : List Face) → cut (loop_vertices P fs) 0 (loop_ends P fs) ≡ loops P fs
unfolding loop_vertices loop_ends totals
cut_loops P fs =
    ap (cut (vertices (loops P fs)) 0) (sym (same (totals (loops P fs)))) ∙ cut_after [] (loops P fs)
  where
    same : (ts : List ℕ) → map (λ n. 0 + n) ts ≡ ts
    same [] = refl
    same (t ∷ ts) = ap₂ (λ x xs. x ∷ xs) (zero-add t) (same ts)

-- the loops that an accepted loop call left in its rooms are the rules' loops
pub loops_read :
    (points : List Float) (faces : List ℕ) (r : LoopsRooms) (n : List ℕ) → (find_loops points faces r).answer ≡ accepted n
    → cut (take (get_or n 0 0) (find_loops points faces r).rooms.loop_vertices) 0 (take (get_or n 1 0) (find_loops points faces r).rooms.loop_ends)
    ≡ loops (length points / 3) (faces_of faces)
unfolding find_loops
loops_read points faces r n e = ap₂ (λ vs es. cut vs 0 es) vertices_are ends_are ∙ cut_loops P fs
  where
    P : ℕ
    P = length points / 3

    fs : List Face
    fs = faces_of faces

    vertices_are : take (get_or n 0 0) (find_loops points faces r).rooms.loop_vertices ≡ loop_vertices P fs
    vertices_are =
        ap (λ o. take (get_or n 0 0) o.loop_vertices) (outcome_ok (loops_check points faces r) r _ _ n e).2
        ∙ filled_front 0 (3 * (length faces / 3)) (get_or n 0 0) (loop_vertices P fs) r.loop_vertices (ap (λ l. get_or l 0 0) (outcome_ok (loops_check points faces r) r _ _ n e).1)

    ends_are : take (get_or n 1 0) (find_loops points faces r).rooms.loop_ends ≡ loop_ends P fs
    ends_are =
        ap (λ o. take (get_or n 1 0) o.loop_ends) (outcome_ok (loops_check points faces r) r _ _ n e).2
        ∙ filled_front 0 (3 * (length faces / 3)) (get_or n 1 0) (loop_ends P fs) r.loop_ends (ap (λ l. get_or l 1 0) (outcome_ok (loops_check points faces r) r _ _ n e).1)
