-- One face is visited or reached. Assumes nothing.
use mathlib.Core.Path.{◌≡◌, refl, sym, ap, ap₂, ◌∙◌}
use mathlib.Core.Bool.{Bool, true, false, not, cond}
use mathlib.Core.List.{List, [], ◌∷◌, map}
use Prim.Native.Nat.{ℕ, zero, suc, ◌+◌, ◌-◌, ◌*◌, ◌≤◌, ◌<◌}
use native.Mathlib.Omega.{arith}
use native.Mathlib.Numerals.{add-one}
use native.Mathlib.Decide.{ℕ_discrete}
use borrow.Author.Tests.{eq-eqb, ne_eqb}
use lib.Dec.{eqb}
use lib.ListN.{length, get_or, set, length-set}
use lib.Seq.{get_or-set_same, get_or-set_other, ext_get_or}
use Rattle.rows.specs.Region.{part}
use Rattle.rows.proofs.Regions.{length_part, get_d_part, only_none, only_both, only_set}
use Rattle.rules.specs.Mesh.{Face, faces_of, face, exchanged}
use Rattle.rules.specs.Steps.{Step, step, opposite, walks}
use Rattle.rules.specs.Pass4.{Walk, visit}
use Rattle.orienting.specs.Reaching.{reach, turn, turned_by}
use Rattle.orienting.proofs.Turns.{set_turned, set_straight, face_turned}
use Rattle.orienting.proofs.Room.{Sound, has_room, reach_sound}
use Rattle.reaching.specs.Walking.{stack_of, walk_of, Ready, VisitAsks, VisitGives, ReachAsks, ReachGives}
use Rattle.reaching.proofs.Reading.{stack_same, length_stack, visited_at}

-- a flag that is set
pub map_set : (f : ℕ → Bool) (ss : List ℕ) (i s : ℕ) → map f (set ss i s) ≡ set (map f ss) i (f s)
map_set f [] i s = refl
map_set f (k ∷ ss) zero s = refl
map_set f (k ∷ ss) (suc i) s = ap (λ l. f k ∷ l) (map_set f ss i s)

module _ {w : List ℕ} {n i state : ℕ} (p : VisitAsks w n i state) where
  -- how many are on the stack
  abbrev top : ℕ
  top = get_or w 0 0

  -- the row after each store
  abbrev w₁ : List ℕ
  w₁ = set w (3 + n + top) i

  abbrev w₂ : List ℕ
  w₂ = set w₁ 0 (top + 1)

  abbrev w₃ : List ℕ
  w₃ = set w₂ 1 (get_or w 1 0 + (state - 1))

  abbrev w₄ : List ℕ
  w₄ = set w₃ (3 + i) state

  -- no store changes the length
  long₁ : length w₁ ≡ length w
  long₁ = length-set w (3 + n + top) i

  long₂ : length w₂ ≡ length w
  long₂ = length-set w₁ 0 (top + 1) ∙ long₁

  long₃ : length w₃ ≡ length w
  long₃ = length-set w₂ 1 (get_or w 1 0 + (state - 1)) ∙ long₂

  -- each store is within
  pub record Bounds : Type 0 where
    pub few : n ≤ 4194304
    pub fit_push : 3 + n + top < length w
    pub fit_top : 0 < length w₁
    pub fit_exchanges : 1 < length w₂
    pub fit_state : 3 + i < length w₃
    pub here : i < n
    pub top_below : top < n
    pub turns_below : get_or w 1 0 < n
    pub least : 1 ≤ state
    pub most : state ≤ 2

  -- they hold
  pub bounds : Bounds
  bounds =
      record {
        few = p.few;
        fit_push = omega (arith, p.fit, p.top);
        fit_top = omega (arith, p.fit, long₁);
        fit_exchanges = omega (arith, p.fit, long₂);
        fit_state = omega (arith, p.fit, p.here, long₃);
        here = p.here;
        top_below = p.top;
        turns_below = p.turns;
        least = p.least;
        most = p.most;
      }

  -- what is not stored to is as it was
  others : (q : ℕ) → (q ≡ 3 + i → ⊥) → (q ≡ 1 → ⊥) → (q ≡ 0 → ⊥) → (q ≡ 3 + n + top → ⊥) → get_or w₄ q 0 ≡ get_or w q 0
  others q a b c d =
      get_or-set_other w₃ (3 + i) q state 0 a
      ∙ get_or-set_other w₂ 1 q (get_or w 1 0 + (state - 1)) 0 b
      ∙ get_or-set_other w₁ 0 q (top + 1) 0 c
      ∙ get_or-set_other w (3 + n + top) q i 0 d

  -- one more is on the stack
  top_is : get_or w₄ 0 0 ≡ top + 1
  top_is =
      get_or-set_other w₃ (3 + i) 0 state 0 (λ z. absurd (omega arith))
      ∙ get_or-set_other w₂ 1 0 (get_or w 1 0 + (state - 1)) 0 (λ z. absurd (omega arith))
      ∙ get_or-set_same w₁ 0 (top + 1) 0 (omega (arith, p.fit, long₁))

  -- as many more were exchanged as the state says
  exchanges_is : get_or w₄ 1 0 ≡ get_or w 1 0 + (state - 1)
  exchanges_is =
      get_or-set_other w₃ (3 + i) 1 state 0 (λ z. absurd (omega arith))
      ∙ get_or-set_same w₂ 1 (get_or w 1 0 + (state - 1)) 0 (omega (arith, p.fit, long₂))

  -- the face on top is i
  pushed : get_or w₄ (3 + n + top) 0 ≡ i
  pushed =
      get_or-set_other w₃ (3 + i) (3 + n + top) state 0 (λ z. absurd (omega (arith, p.here)))
      ∙ get_or-set_other w₂ 1 (3 + n + top) (get_or w 1 0 + (state - 1)) 0 (λ z. absurd (omega arith))
      ∙ get_or-set_other w₁ 0 (3 + n + top) (top + 1) 0 (λ z. absurd (omega arith))
      ∙ get_or-set_same w (3 + n + top) i 0 bounds.fit_push

  -- the stack has one more
  stack_is : stack_of w₄ (3 + n) (get_or w₄ 0 0) ≡ i ∷ stack_of w (3 + n) top
  unfolding stack_of
  stack_is =
      ap (stack_of w₄ (3 + n)) (top_is ∙ add-one top)
      ∙ ap₂ (λ x l. x ∷ l) pushed
      (stack_same w w₄ (3 + n) top (λ j q. others (3 + n + j) (λ z. absurd (omega (arith, p.here))) (λ z. absurd (omega arith)) (λ z. absurd (omega arith)) (λ z. absurd (omega arith))))

  -- the states have one changed
  states_is : part w₄ 3 n ≡ set (part w 3 n) i state
  states_is = ext_get_or 0 (part w₄ 3 n) (set (part w 3 n) i state) (long ∙ sym (length-set (part w 3 n) i state ∙ length_part w 3 n (omega (arith, p.fit)))) (λ j q. at j (omega (arith, long)) (ℕ_discrete j i))
    where
      long : length (part w₄ 3 n) ≡ n
      long = length_part w₄ 3 n (omega (arith, p.fit, length-set w₃ (3 + i) state, long₃))

      at : (j : ℕ) → j < n → Dec (j ≡ i) → get_or (part w₄ 3 n) j 0 ≡ get_or (set (part w 3 n) i state) j 0
      at j q (yes e) =
          get_d_part w₄ 3 n j q
          ∙ ap (λ k. get_or w₄ (3 + k) 0) e
          ∙ get_or-set_same w₃ (3 + i) state 0 bounds.fit_state
          ∙ sym (ap (λ k. get_or (set (part w 3 n) i state) k 0) e ∙ get_or-set_same (part w 3 n) i state 0 (omega (arith, p.here, p.fit, length_part w 3 n (omega (arith, p.fit)))))
      at j q (no e) =
          get_d_part w₄ 3 n j q
          ∙ others (3 + j) (λ z. e (omega arith)) (λ z. absurd (omega arith)) (λ z. absurd (omega arith)) (λ z. absurd (omega (arith, p.fit)))
          ∙ sym (get_or-set_other (part w 3 n) i j state 0 e ∙ get_d_part w 3 n j q)

  -- the mark is as it was
  mark_is : get_or w₄ 2 0 ≡ get_or w 2 0
  mark_is = others 2 (λ z. absurd (omega arith)) (λ z. absurd (omega arith)) (λ z. absurd (omega arith)) (λ z. absurd (omega arith))

  -- the walk's face i is exchanged where its state is 2
  faces_is : (fs : List Face) → turned_by (set (part w 3 n) i state) fs ≡ cond (not (eqb state 2)) (turned_by (part w 3 n) fs) (set (turned_by (part w 3 n) fs) i (exchanged (face (turned_by (part w 3 n) fs) i)))
  faces_is fs = go (ℕ_discrete state 2)
    where
      unseen : get_or (part w 3 n) i 0 ≡ 0
      unseen = get_d_part w 3 n i p.here ∙ p.unseen

      was : face (turned_by (part w 3 n) fs) i ≡ face fs i
      was = face_turned (part w 3 n) fs i ∙ ap (λ s. turn s (face fs i)) unseen ∙ (unfold turn in refl)

      go : Dec (state ≡ 2) → turned_by (set (part w 3 n) i state) fs ≡ cond (not (eqb state 2)) (turned_by (part w 3 n) fs) (set (turned_by (part w 3 n) fs) i (exchanged (face (turned_by (part w 3 n) fs) i)))
      go (yes e) =
          rw (eq-eqb state 2 e, was)
          (set_turned (part w 3 n) fs i state (omega (arith, p.here, p.fit, length_part w 3 n (omega (arith, p.fit))))
          ∙ ap (λ s. set (turned_by (part w 3 n) fs) i (turn s (face fs i))) e
          ∙ (unfold turn in refl))
      go (no e) = rw (ne_eqb state 2 e) (set_straight (part w 3 n) fs i state (ap (λ s. eqb s 2) unseen ∙ ne_eqb 0 2 (λ z. absurd (omega arith))) (ne_eqb state 2 e))

  -- the exchange is counted
  counted : get_or w 1 0 + (state - 1) ≡ cond (not (eqb state 2)) (get_or w 1 0) (suc (get_or w 1 0))
  counted = go (ℕ_discrete state 2)
    where
      go : Dec (state ≡ 2) → get_or w 1 0 + (state - 1) ≡ cond (not (eqb state 2)) (get_or w 1 0) (suc (get_or w 1 0))
      go (yes e) = rw (eq-eqb state 2 e) (omega arith)
      go (no e) = rw (ne_eqb state 2 e) (omega (arith, p.least, p.most))

  -- so face i is visited
  pub visit_gives : VisitGives w n i state w₄
  unfolding walk_of visit
  visit_gives =
      record {
        only =
            only_both (only_set w (3 + n + top) i (omega arith) (omega (arith, p.top)))
            (only_both (only_set w₁ 0 (top + 1) (omega arith) (omega arith))
            (only_both (only_set w₂ 1 (get_or w 1 0 + (state - 1)) (omega arith) (omega arith))
            (only_set w₃ (3 + i) state (omega arith) (omega (arith, p.here)))));
        top = top_is;
        walk = λ fs.
            let e : eqb state 0 ≡ false = ne_eqb state 0 (λ z. absurd (omega (arith, p.least))) in
            let v : map (λ s. not (eqb s 0)) (part w₄ 3 n) ≡ set (map (λ s. not (eqb s 0)) (part w 3 n)) i true =
            ap (map (λ s. not (eqb s 0))) states_is ∙ map_set (λ s. not (eqb s 0)) (part w 3 n) i state ∙ ap (λ b. set (map (λ s. not (eqb s 0)) (part w 3 n)) i (not b)) e
            in
            let f = ap (λ ss. turned_by ss fs) states_is ∙ faces_is fs in
            let x = exchanges_is ∙ counted in
            rw (f, v, stack_is, x, mark_is);
      }

-- ---- a face is reached

-- an unvisited face is visited
reach_unseen : (s : Step) (v : Walk) (i : ℕ) → get_or v.visited i false ≡ false → visit (walks (face v.faces i) (step s.to s.from)) i v ≡ reach s v i
unfolding reach opposite
reach_unseen s v i e = rw e

-- a sound walk over the same faces
pub ready_as : {w w' xs : List ℕ} {n : ℕ} {v : Walk} → Ready w xs n → length w' ≡ length w → get_or w' 0 0 ≤ n → walk_of (faces_of xs) n w' ≡ v → Sound n v → Ready w' xs n
ready_as r l t e k = let f = r.fits in record { fits = record { long = f.long; few = f.few; fit = omega (arith, f.fit) }; top = t; sound = rw e k }

module _ {w xs : List ℕ} {n i : ℕ} where
  -- an unvisited face may be visited
  pub visit_asks : (state : ℕ) → ReachAsks w xs n i → get_or w (3 + i) 0 ≡ 0 → 1 ≤ state → state ≤ 2 → VisitAsks w n i state
  unfolding walk_of
  visit_asks state p e a b =
      let r = p.ready in
      let f = r.fits in
      let h = has_room r.sound i p.here (visited_at (faces_of xs) n w (omega (arith, f.fit)) i p.here ∙ ap (λ s. not (eqb s 0)) e ∙ ap not (eq-eqb 0 0 refl)) in
      record {
        few = f.few;
        fit = f.fit;
        here = p.here;
        top = omega (arith, h.0, length_stack w (3 + n) (get_or w 0 0));
        turns = h.1;
        unseen = e;
        least = a;
        most = b;
      }

  -- it is visited now
  pub reached_new : (x y : ℕ) → ReachAsks w xs n i → get_or w (3 + i) 0 ≡ 0
      → {state : ℕ} → 1 ≤ state → state ≤ 2 → not (eqb state 2) ≡ walks (face (walk_of (faces_of xs) n w).faces i) (step y x)
      → {w' : List ℕ} → VisitGives w n i state w' → ReachGives w xs n i x y w'
  reached_new x y p e {state} a b s {w'} g =
      let r = p.ready in
      let f = r.fits in
      let q = visit_asks state p e a b in
      let t : walk_of (faces_of xs) n w' ≡ reach (step x y) (walk_of (faces_of xs) n w) i = g.walk (faces_of xs) ∙ is_reach in
      record { only = g.only; ready = ready_as r g.only.long (omega (arith, g.top, q.top)) t (reach_sound r.sound (step x y) i p.here); walk = t }
    where
      is_reach : visit (not (eqb state 2)) i (walk_of (faces_of xs) n w) ≡ reach (step x y) (walk_of (faces_of xs) n w) i
      is_reach =
          let v : get_or (walk_of (faces_of xs) n w).visited i false ≡ false =
          visited_at (faces_of xs) n w (omega (arith, p.ready.fits.fit)) i p.here ∙ ap (λ k. not (eqb k 0)) e ∙ ap not (eq-eqb 0 0 refl)
          in
          ap (λ c. visit c i (walk_of (faces_of xs) n w)) s ∙ reach_unseen (step x y) (walk_of (faces_of xs) n w) i v

  -- or it was
  pub reached_old : (x y : ℕ) → ReachAsks w xs n i → (get_or w (3 + i) 0 ≡ 0 → ⊥) → ReachGives w xs n i x y w
  unfolding reach
  reached_old x y p e =
      let r = p.ready in
      let v : get_or (walk_of (faces_of xs) n w).visited i false ≡ true = visited_at (faces_of xs) n w (omega (arith, r.fits.fit)) i p.here ∙ ap not (ne_eqb (get_or w (3 + i) 0) 0 e) in
      record { only = only_none 0 (3 + 2 * n) w; ready = r; walk = rw v }
