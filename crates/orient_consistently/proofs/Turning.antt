-- The faces under their states: corners 1 and 2 of each whose state is 2 are exchanged. Assumes nothing.
use mathlib.Core.Path.{◌≡◌, refl, sym, ap, ◌∙◌}
use mathlib.Core.Bool.{Bool, true, false, cond}
use mathlib.Core.List.{List, [], ◌∷◌}
use Prim.Native.Nat.{ℕ, ◌+◌, ◌*◌, ◌%◌, ◌≤◌, ◌<◌}
use native.Mathlib.Omega.{arith}
use borrow.Author.Count.{below_more}
use borrow.Author.Tests.{ne_eqb}
use lib.Dec.{eqb}
use lib.ListN.{length, get_or, set, take, length-set}
use lib.Seq.{get_or-set_same, get_or-set_other, ext_get_or}
use Rattle.std.specs.List.{swap}
use Rattle.std.proofs.lemmas.Grind.{get_or_default_zero}
use Rattle.rows.specs.Region.{part, Only, Out.above}
use Rattle.rows.proofs.Regions.{length_part, get_d_part, only_none, only_both, only_more, only_set}
use Rattle.rules.specs.Mesh.{Face, faces_of, flat_faces, face, exchanged}
use Rattle.rule_laws.proofs.Flat.{face_in, length_faces, flat_faces_back}
use Rattle.leaving.specs.Pass.{standing}
use Rattle.orienting.specs.Reaching.{turn, turned_by}
use Rattle.orienting.proofs.Turns.{length_turned, face_turned}
use Rattle.orient_consistently.specs.Walked.{TurnAsks, TurnGives}

-- an exchange as two writes
swap_is : (xs : List ℕ) (i j : ℕ) → i < length xs → j < length xs → swap xs i j ≡ set (set xs i (get_or xs j 0)) j (get_or xs i 0)
swap_is [] i j h k = refl
swap_is (d ∷ ys) i j h k = rw (get_or_default_zero (d ∷ ys) i d h, get_or_default_zero (d ∷ ys) j d k)

-- face k of a flat list
abbrev pub corner_face : List ℕ → ℕ → Face
corner_face xs k = record { a = get_or xs (3 * k) 0; b = get_or xs (3 * k + 1) 0; c = get_or xs (3 * k + 2) 0; origin = k }

-- the corners of face k in ys are those of f
abbrev Stands : List ℕ → ℕ → Face → Type 0
Stands ys k f = (get_or ys (3 * k) 0 ≡ f.a) × (get_or ys (3 * k + 1) 0 ≡ f.b) × (get_or ys (3 * k + 2) 0 ≡ f.c)

-- a turned face keeps its origin
turn_origin : (s : ℕ) (f : Face) → (turn s f).origin ≡ f.origin
unfolding turn exchanged
turn_origin s f = go (eqb s 2)
  where
    go : (b : Bool) → (cond b (exchanged f) f).origin ≡ f.origin
    go true = refl
    go false = refl

-- the corners of face k of the first n
pub front_face : (xs : List ℕ) (n k : ℕ) → 3 * n ≤ length xs → k < n → face (faces_of (take (3 * n) xs)) k ≡ corner_face xs k
front_face xs n k l h =
    let m = length_part xs 0 (3 * n) (omega arith) in
    let at : (j : ℕ) → j < 3 * n → get_or (take (3 * n) xs) j 0 ≡ get_or xs j 0 = λ j q. get_d_part xs 0 (3 * n) j q ∙ ap (λ z. get_or xs z 0) (omega arith) in
    let a = at (3 * k) (omega arith) in
    let b = at (3 * k + 1) (omega arith) in
    let c = at (3 * k + 2) (omega arith) in
    face_in (take (3 * n) xs) k (omega arith) ∙ (λ z. record { a = a z; b = b z; c = c z; origin = k })

-- lists of the same faces
faces_ext : (fs gs : List Face) → length fs ≡ length gs → ((k : ℕ) → k < length fs → face fs k ≡ face gs k) → fs ≡ gs
unfolding face
faces_ext fs gs l h = ext_get_or (record { a = 0; b = 0; c = 0; origin = 0 }) fs gs l h

-- the first i faces are under their states
pub record TurnInv (xs₀ w : List ℕ) (n : ℕ) (xs : List ℕ) (i : ℕ) : Type 0 where
  pub at_most : i ≤ n
  pub only : Only 0 (3 * i) xs₀ xs
  pub turned : (k : ℕ) → k < i → Stands xs k (turn (get_or w (3 + k) 0) (corner_face xs₀ k))

-- at first none is
pub turn_begin : {xs w : List ℕ} {n : ℕ} → TurnAsks xs w n → TurnInv xs w n xs 0
turn_begin {xs} p = record { at_most = omega arith; only = only_none 0 (3 * 0) xs; turned = λ k h. absurd (omega arith) }

-- what the code reads
pub record Turn (xs w : List ℕ) (n i : ℕ) : Type 0 where
  pub few : n ≤ 4194304
  pub here : i < n
  pub fit : 3 * n ≤ length xs
  pub room : 3 + n ≤ length w

module _ {xs₀ w : List ℕ} {n : ℕ} {xs : List ℕ} {i : ℕ} (p : TurnAsks xs₀ w n) (u : TurnInv xs₀ w n xs i) where
  module _ (h : i < n) where
    -- they hold
    pub turn_turn : Turn xs w n i
    turn_turn =
        let l = u.only.long in
        record { few = p.few; here = h; fit = omega (arith, p.fit); room = p.room }

    -- face i is as it was
    was : (q : ℕ) → 3 * i ≤ q → get_or xs q 0 ≡ get_or xs₀ q 0
    was q l = u.only.same q (above (omega arith))

    -- state 2
    turn_exchanged : get_or w (3 + i) 0 ≡ 2 → TurnInv xs₀ w n (set (set xs (3 * i + 1) (get_or xs (3 * i + 2) 0)) (3 * i + 2) (get_or xs (3 * i + 1) 0)) (i + 1)
    turn_exchanged e =
        record {
          at_most = omega arith;
          only =
              only_both (only_more (omega arith) (omega arith) u.only)
              (only_both (only_set xs (3 * i + 1) (get_or xs (3 * i + 2) 0) (omega arith) (omega arith)) (only_set ys (3 * i + 2) (get_or xs (3 * i + 1) 0) (omega arith) (omega arith)));
          turned = below_more (λ k. Stands zs k (turn (get_or w (3 + k) 0) (corner_face xs₀ k))) i before here;
        }
      where
        ys : List ℕ
        ys = set xs (3 * i + 1) (get_or xs (3 * i + 2) 0)

        zs : List ℕ
        zs = set ys (3 * i + 2) (get_or xs (3 * i + 1) 0)

        others : (q : ℕ) → (q ≡ 3 * i + 2 → ⊥) → (q ≡ 3 * i + 1 → ⊥) → get_or zs q 0 ≡ get_or xs q 0
        others q a b = get_or-set_other ys (3 * i + 2) q (get_or xs (3 * i + 1) 0) 0 a ∙ get_or-set_other xs (3 * i + 1) q (get_or xs (3 * i + 2) 0) 0 b

        before : (k : ℕ) → k < i → Stands zs k (turn (get_or w (3 + k) 0) (corner_face xs₀ k))
        before k l =
            let t = u.turned k l in (
              others (3 * k) (λ z. absurd (omega arith)) (λ z. absurd (omega arith)) ∙ t.0,
              others (3 * k + 1) (λ z. absurd (omega arith)) (λ z. absurd (omega arith)) ∙ t.1,
              others (3 * k + 2) (λ z. absurd (omega arith)) (λ z. absurd (omega arith)) ∙ t.2,
            )

        here : Stands zs i (turn (get_or w (3 + i) 0) (corner_face xs₀ i))
        here =
            let b = turn_turn in
            let l = length-set xs (3 * i + 1) (get_or xs (3 * i + 2) 0) in
            let t : exchanged (corner_face xs₀ i) ≡ turn (get_or w (3 + i) 0) (corner_face xs₀ i) = unfold turn in ap (λ s. turn s (corner_face xs₀ i)) (sym e) in
            let x : exchanged (corner_face xs₀ i) ≡ record { a = get_or xs₀ (3 * i) 0; b = get_or xs₀ (3 * i + 2) 0; c = get_or xs₀ (3 * i + 1) 0; origin = i } = unfold exchanged in refl in
            let y = sym x ∙ t in (
              others (3 * i) (λ z. absurd (omega arith)) (λ z. absurd (omega arith)) ∙ was (3 * i) (omega arith) ∙ ap (λ f. f.a) y,
              get_or-set_other ys (3 * i + 2) (3 * i + 1) (get_or xs (3 * i + 1) 0) 0 (λ z. absurd (omega arith))
                  ∙ get_or-set_same xs (3 * i + 1) (get_or xs (3 * i + 2) 0) 0 (omega (arith, b))
                  ∙ was (3 * i + 2) (omega arith) ∙ ap (λ f. f.b) y,
              get_or-set_same ys (3 * i + 2) (get_or xs (3 * i + 1) 0) 0 (omega (arith, b)) ∙ was (3 * i + 1) (omega arith) ∙ ap (λ f. f.c) y,
            )

    -- the same, by the places that the code has
    pub turn_pair : get_or w (3 + i) 0 ≡ 2 → TurnInv xs₀ w n (swap xs (3 * i + 1) (3 * i + 2)) (i + 1)
    turn_pair e = let t = turn_turn in rw (swap_is xs (3 * i + 1) (3 * i + 2) (omega (arith, t)) (omega (arith, t))) (turn_exchanged e)

    -- another state
    pub turn_straight : (get_or w (3 + i) 0 ≡ 2 → ⊥) → TurnInv xs₀ w n xs (i + 1)
    turn_straight e =
        record {
          at_most = omega arith;
          only = only_more (omega arith) (omega arith) u.only;
          turned = below_more (λ k. Stands xs k (turn (get_or w (3 + k) 0) (corner_face xs₀ k))) i u.turned here;
        }
      where
        here : Stands xs i (turn (get_or w (3 + i) 0) (corner_face xs₀ i))
        here =
            let t : corner_face xs₀ i ≡ turn (get_or w (3 + i) 0) (corner_face xs₀ i) =
            unfold turn in ap (λ c. cond c (exchanged (corner_face xs₀ i)) (corner_face xs₀ i)) (sym (ne_eqb (get_or w (3 + i) 0) 2 e))
            in
            (was (3 * i) (omega arith) ∙ ap (λ f. f.a) t, was (3 * i + 1) (omega arith) ∙ ap (λ f. f.b) t, was (3 * i + 2) (omega arith) ∙ ap (λ f. f.c) t)

  -- the flat list is that of the faces under their states
  pub turn_done : n ≤ i → TurnGives xs₀ w n xs
  turn_done l =
      let e : i ≡ n = omega (arith, u.at_most) in
      record {
        only = rw e at u.only;
        faces = sym (flat_faces_back (take (3 * n) xs) whole) ∙ ap flat_faces faces_are;
      }
    where
      is_n : i ≡ n
      is_n = omega (arith, u.at_most)

      long : length (take (3 * n) xs) ≡ 3 * n
      long = length_part xs 0 (3 * n) (omega (arith, p.fit, u.only.long))

      long₀ : length (take (3 * n) xs₀) ≡ 3 * n
      long₀ = length_part xs₀ 0 (3 * n) (omega (arith, p.fit))

      whole : length (take (3 * n) xs) % 3 ≡ 0
      whole = omega (arith, long)

      faces_are : faces_of (take (3 * n) xs) ≡ turned_by (part w 3 n) (standing xs₀ n)
      faces_are =
          let m : length (faces_of (take (3 * n) xs)) ≡ n = length_faces (take (3 * n) xs) ∙ omega (arith, long) in
          let m₀ : length (faces_of (take (3 * n) xs₀)) ≡ n = length_faces (take (3 * n) xs₀) ∙ omega (arith, long₀) in
          faces_ext (faces_of (take (3 * n) xs)) (turned_by (part w 3 n) (standing xs₀ n)) (m ∙ sym (length_turned (part w 3 n) (standing xs₀ n) ∙ m₀))
          (λ k q.
          let h : k < n = omega arith in
          let t = u.turned k (omega (arith, is_n)) in
          front_face xs n k (omega (arith, p.fit, u.only.long)) h
          ∙ (λ z. record { a = t.0 z; b = t.1 z; c = t.2 z; origin = sym (turn_origin (get_or w (3 + k) 0) (corner_face xs₀ k)) z })
          ∙ sym (face_turned (part w 3 n) (standing xs₀ n) k ∙ ap (λ s. turn s (face (standing xs₀ n) k)) (get_d_part w 3 n k h) ∙ ap (turn (get_or w (3 + k) 0)) (front_face xs₀ n k p.fit h)))
