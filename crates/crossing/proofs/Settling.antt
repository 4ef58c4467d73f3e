-- An edge is crossed for the first time, or was. Assumes nothing.
use mathlib.Core.Path.{◌≡◌, sym, ap, ap₂, subst, ◌∙◌}
use mathlib.Core.List.{List, map}
use Prim.Native.Nat.{ℕ, ◌+◌, ◌-◌, ◌*◌, ◌/◌, ◌≤◌, ◌<◌, min, max}
use native.Mathlib.Omega.{arith}
use native.Mathlib.Decide.{ℕ_discrete}
use lib.ListN.{length, get_or}
use Rattle.rows.specs.Region.{part, Apart.after, Only, Out.below, Out.above}
use Rattle.rows.proofs.Regions.{only_none, only_both, only_more, kept}
use Rattle.rules.specs.Lists.{through}
use Rattle.rules.specs.Mesh.{faces_of}
use Rattle.rules.specs.Steps.{step, edge, opposite, users, edges}
use Rattle.rule_laws.proofs.Rising.{All, all_imp}
use Rattle.rule_laws.proofs.Flat.{length_faces}
use Rattle.table.proofs.Places.{none, id_in, tabled_kept}
use Rattle.table.proofs.Theorems.{runs_fit, users_row}
use Rattle.table.proofs.Handing.{at_run}
use Rattle.orienting.specs.Reaching.{reach, lone}
use Rattle.orienting.proofs.Reached.{all_reached, reach_none}
use Rattle.orienting.proofs.Users.{users_walk}
use Rattle.reaching.specs.Walking.{walk_of, faces_in, RunAsks, ReachRunGives}
use Rattle.reaching.proofs.Visiting.{ready_as}
use Rattle.crossing.specs.Crossing.{Crossed, NoteAsks, NoteGives, SettleAsks, SettleGives}
use Rattle.crossing.proofs.Mating.{Bounds, mated_kept}
use Rattle.crossing.proofs.Keeping.{Later, later_reach, later_to, walk_kept, crossed_kept}

module _ {w xs : List ℕ} {n r x y : ℕ} (p : SettleAsks w xs n r x y) where
  -- as many faces as said
  long_faces : length (faces_of xs) ≡ n
  long_faces = length_faces xs ∙ (let l = p.going.ready.fits.long in omega arith)

  -- they hold
  pub settle_bounds : Bounds w xs n r
  settle_bounds =
      let g = p.going in
      let f = runs_fit g.tabled r p.here in
      let a = at_run g.tabled r p.here in
      record {
        few = g.ready.fits.few;
        long = g.ready.fits.long;
        fit = a.fit;
        here = omega (arith, a.here, a.runs, g.ready.fits.long);
        rise = f.0;
        last = f.1;
      }

  -- the run's places
  abbrev order : ℕ
  order = 3 + 14 * n + 3 * length xs

  abbrev from : ℕ
  from = order + get_or w (3 + 14 * n + 4 * length xs + r) 0

  abbrev to : ℕ
  to = order + get_or w (3 + 14 * n + 4 * length xs + (r + 1)) 0

  -- its entries are entries of faces
  entry_in : (k : ℕ) → from ≤ k → k < to → get_or w k 0 < 3 * n
  entry_in k a b =
      let u = settle_bounds in
      let e : order + (k - order) ≡ k = omega arith in
      let t = p.going.tabled in
      let i = id_in t.asks t.table (k - order) (omega (arith, u)) in
      omega (arith, i, ap (λ z. get_or w z 0) e, u)

  -- so the run may be gone through
  pub run_asks : RunAsks w xs n from to
  run_asks =
      let u = settle_bounds in
      record { ready = p.going.ready; rising = omega (arith, u); behind = omega arith; inside = omega (arith, u); entries = entry_in }

  -- and of the users of the edge
  faces_are : faces_in w from to ≡ users (faces_of xs) (edge (step x y))
  faces_are =
      let u = settle_bounds in
      let e : to - from ≡ get_or w (3 + 14 * n + 4 * length xs + (r + 1)) 0 - get_or w (3 + 14 * n + 4 * length xs + r) 0 = omega arith in
      ap (λ m. map (λ id. id / 3) (part w from m)) e ∙ users_row p.going.tabled r p.here ∙ ap (users (faces_of xs)) p.along

  -- the users are faces of the walk
  users_in : All (λ i. i < length (walk_of (faces_of xs) n w).visited) (users (faces_of xs) (edge (step x y)))
  users_in =
      let l = p.going.ready.sound.flags in
      let m = long_faces in
      all_imp (λ i. (i < length (faces_of xs)) × _) (λ i. i < length (walk_of (faces_of xs) n w).visited) (λ i h. omega (arith, h.0)) (users (faces_of xs) (edge (step x y)))
      (users_walk (faces_of xs) (step x y))

  module _ {w₁ : List ℕ} (h : ReachRunGives w xs n from to x y w₁) where
    -- and again when its faces are reached
    pub note_asks : NoteAsks w₁ xs n r from to
    note_asks =
        let u = settle_bounds in
        let l = h.only.long in
        record {
          run = record {
            ready = h.ready;
            rising = omega (arith, u);
            behind = omega arith;
            inside = omega (arith, u);
            entries = λ k a b. rw (h.only.same k (above (omega arith))) (entry_in k a b);
          };
          here = u.here;
        }

    -- the run is as it was
    same_faces : faces_in w₁ from to ≡ users (faces_of xs) (edge (step x y))
    same_faces =
        let u = settle_bounds in
        ap (map (λ id. id / 3)) (kept h.only from (to - from) (after (omega arith)) (omega (arith, u))) ∙ faces_are

    module _ {low high : ℕ} (el : low ≡ min x y) (eh : high ≡ max x y) {w₂ : List ℕ} (q : NoteGives w₁ xs n r from to low high w₂) where
      -- a note changes nothing of the walk
      same_walk : walk_of (faces_of xs) n w₂ ≡ walk_of (faces_of xs) n w₁
      same_walk =
          let u = settle_bounds in
          walk_kept (faces_of xs) n w₁ w₂ q.only.long (omega (arith, u, h.only.long)) h.ready.top (λ j l. q.only.same j (below l))

      -- the users of the edge are reached
      walk_is : walk_of (faces_of xs) n w₂ ≡ through (reach (step x y)) (walk_of (faces_of xs) n w) (users (faces_of xs) (edge (step x y)))
      walk_is = same_walk ∙ h.walk ∙ ap (through (reach (step x y)) (walk_of (faces_of xs) n w)) faces_are

      -- visited faces stay as they are
      later_w : Later (walk_of (faces_of xs) n w) (walk_of (faces_of xs) n w₂)
      later_w = later_to (later_reach (step x y) (walk_of (faces_of xs) n w) (users (faces_of xs) (edge (step x y)))) walk_is

      -- the ends of the edge
      is_edge : step low high ≡ edge (step x y)
      is_edge = unfold edge in ap₂ (λ a b. step a b) el eh

      -- and the other way
      is_opposite : step high low ≡ opposite (edge (step x y))
      is_opposite = unfold edge opposite in ap₂ (λ a b. step a b) eh el

      -- the edge is crossed
      settled : Crossed w₂ xs n (edge (step x y)) r
      settled =
          let us = users (faces_of xs) (edge (step x y)) in
          record {
            seen = rw walk_is (all_reached (step x y) (walk_of (faces_of xs) n w) us users_in);
            up = q.up
                ∙ ap (λ v. lone (n + 1) v.faces (step high low) (faces_in w₁ from to)) (sym same_walk)
                ∙ ap₂ (λ s us. lone (n + 1) (walk_of (faces_of xs) n w₂).faces s us) is_opposite same_faces;
            down = q.down
                ∙ ap (λ v. lone (n + 1) v.faces (step low high) (faces_in w₁ from to)) (sym same_walk)
                ∙ ap₂ (λ s us. lone (n + 1) (walk_of (faces_of xs) n w₂).faces s us) is_edge same_faces;
          }

      -- nothing but rows of the walk and of edges is changed
      only_all : Only 0 (3 + 11 * n) w w₂
      only_all = only_both (only_more (omega arith) (omega arith) h.only) (only_more (omega arith) (omega arith) q.only)

      -- what was known of the others still is
      still : (k : ℕ) → k < p.going.runs → (get_or w₂ (3 + 2 * n + 3 * k) 0 ≡ 0 → ⊥) → Crossed w₂ xs n (get_or (edges p.going.points (faces_of xs)) k none) k
      still k l z = go (ℕ_discrete k r)
        where
          few : k < 3 * n
          few = let a = at_run p.going.tabled k l in omega (arith, a.here, a.runs, p.going.ready.fits.long)

          go : Dec (k ≡ r) → Crossed w₂ xs n (get_or (edges p.going.points (faces_of xs)) k none) k
          go (yes e) = rw (e, p.along) settled
          go (no ne) =
              let o = q.others k ne few in
              crossed_kept later_w
              (o.1 ∙ h.only.same (3 + 2 * n + 3 * k + 1) (above (omega arith)))
              (o.2 ∙ h.only.same (3 + 2 * n + 3 * k + 2) (above (omega arith)))
              (p.going.crossed k l (λ e. z (o.0 ∙ h.only.same (3 + 2 * n + 3 * k) (above (omega arith)) ∙ e)))

      -- so the edge is crossed, and the walk goes on
      pub settle_gives : SettleGives w xs n r x y w₂
      settle_gives =
          let u = settle_bounds in
          record {
            only = only_all;
            going = record {
              ready = ready_as h.ready q.only.long (omega (arith, q.only.same 0 (below (omega arith)), h.ready.top)) same_walk h.ready.sound;
              points = p.going.points;
              runs = p.going.runs;
              tabled = tabled_kept only_all (after (omega arith)) p.going.tabled;
              mated = mated_kept only_all (omega arith) p.going.mated;
              crossed = still;
            };
            walk = walk_is;
            few = u.here;
            crossed = settled;
          }

  -- where it was crossed, all its users are visited
  pub was_crossed : (get_or w (3 + 2 * n + 3 * r) 0 ≡ 0 → ⊥) → SettleGives w xs n r x y w
  was_crossed z =
      let c : Crossed w xs n (edge (step x y)) r = subst (λ e. Crossed w xs n e r) p.along (p.going.crossed r p.here z) in
      record {
        only = only_none 0 (3 + 11 * n) w;
        going = p.going;
        walk = sym (reach_none (step x y) (walk_of (faces_of xs) n w) (users (faces_of xs) (edge (step x y))) c.seen);
        few = settle_bounds.here;
        crossed = c;
      }
