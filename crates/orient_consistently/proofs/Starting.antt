-- A component is started. Assumes nothing.
use mathlib.Core.Path.{◌≡◌, refl, sym, ap, ◌∙◌}
use mathlib.Core.Bool.{true, not}
use mathlib.Core.List.{List, [], ◌∷◌, map}
use Prim.Native.Nat.{ℕ, ◌+◌, ◌<◌}
use native.Mathlib.Omega.{arith}
use native.Mathlib.Decide.{ℕ_discrete}
use lib.Dec.{eqb}
use lib.ListN.{length, get_or, set, length-set}
use lib.Seq.{get_or-set_same, get_or-set_other, ext_get_or}
use Rattle.rows.specs.Region.{part}
use Rattle.rows.proofs.Regions.{length_part, get_d_part, only_both, only_set}
use Rattle.rules.specs.Pass4.{started}
use Rattle.orienting.specs.Reaching.{turned_by}
use Rattle.orienting.proofs.Turns.{set_straight}
use Rattle.reaching.specs.Walking.{stack_of, walk_of}
use Rattle.reaching.proofs.Visiting.{map_set}
use Rattle.orient_consistently.specs.Walked.{StartAsks, StartGives}

module _ {w : List ℕ} {n i : ℕ} (p : StartAsks w n i) where
  -- the row after each store
  abbrev w₁ : List ℕ
  w₁ = set w (3 + n) i

  abbrev w₂ : List ℕ
  w₂ = set w₁ 0 1

  abbrev w₃ : List ℕ
  w₃ = set w₂ 2 0

  abbrev w₄ : List ℕ
  w₄ = set w₃ (3 + i) 1

  -- no store changes the length
  long₁ : length w₁ ≡ length w
  long₁ = length-set w (3 + n) i

  long₂ : length w₂ ≡ length w
  long₂ = length-set w₁ 0 1 ∙ long₁

  long₃ : length w₃ ≡ length w
  long₃ = length-set w₂ 2 0 ∙ long₂

  -- what is not stored to is as it was
  others : (q : ℕ) → (q ≡ 3 + i → ⊥) → (q ≡ 2 → ⊥) → (q ≡ 0 → ⊥) → (q ≡ 3 + n → ⊥) → get_or w₄ q 0 ≡ get_or w q 0
  others q a b c d = get_or-set_other w₃ (3 + i) q 1 0 a ∙ get_or-set_other w₂ 2 q 0 0 b ∙ get_or-set_other w₁ 0 q 1 0 c ∙ get_or-set_other w (3 + n) q i 0 d

  -- one face is on the stack
  top_is : get_or w₄ 0 0 ≡ 1
  top_is =
      get_or-set_other w₃ (3 + i) 0 1 0 (λ z. absurd (omega arith))
      ∙ get_or-set_other w₂ 2 0 0 0 (λ z. absurd (omega arith))
      ∙ get_or-set_same w₁ 0 1 0 (omega (arith, p.fit, long₁))

  -- the component is unmarked
  mark_is : get_or w₄ 2 0 ≡ 0
  mark_is = get_or-set_other w₃ (3 + i) 2 1 0 (λ z. absurd (omega arith)) ∙ get_or-set_same w₂ 2 0 0 (omega (arith, p.fit, long₂))

  -- the face is i
  pushed : get_or w₄ (3 + n + 0) 0 ≡ i
  pushed =
      let e : 3 + n + 0 ≡ 3 + n = omega arith in
      ap (λ q. get_or w₄ q 0) e
      ∙ get_or-set_other w₃ (3 + i) (3 + n) 1 0 (λ z. absurd (omega (arith, p.here)))
      ∙ get_or-set_other w₂ 2 (3 + n) 0 0 (λ z. absurd (omega arith))
      ∙ get_or-set_other w₁ 0 (3 + n) 1 0 (λ z. absurd (omega arith))
      ∙ get_or-set_same w (3 + n) i 0 (omega (arith, p.fit))

  -- the states have one changed
  states_is : part w₄ 3 n ≡ set (part w 3 n) i 1
  states_is =
      ext_get_or 0 (part w₄ 3 n) (set (part w 3 n) i 1) (long ∙ sym (length-set (part w 3 n) i 1 ∙ length_part w 3 n (omega (arith, p.fit))))
      (λ j q. at j (omega (arith, long)) (ℕ_discrete j i))
    where
      long : length (part w₄ 3 n) ≡ n
      long = length_part w₄ 3 n (omega (arith, p.fit, length-set w₃ (3 + i) 1, long₃))

      at : (j : ℕ) → j < n → Dec (j ≡ i) → get_or (part w₄ 3 n) j 0 ≡ get_or (set (part w 3 n) i 1) j 0
      at j q (yes e) =
          get_d_part w₄ 3 n j q
          ∙ ap (λ k. get_or w₄ (3 + k) 0) e
          ∙ get_or-set_same w₃ (3 + i) 1 0 (omega (arith, p.fit, p.here, long₃))
          ∙ sym (ap (λ k. get_or (set (part w 3 n) i 1) k 0) e ∙ get_or-set_same (part w 3 n) i 1 0 (omega (arith, p.here, length_part w 3 n (omega (arith, p.fit)))))
      at j q (no e) =
          get_d_part w₄ 3 n j q
          ∙ others (3 + j) (λ z. e (omega arith)) (λ z. absurd (omega arith)) (λ z. absurd (omega arith)) (λ z. absurd (omega arith))
          ∙ sym (get_or-set_other (part w 3 n) i j 1 0 e ∙ get_d_part w 3 n j q)

  -- so a component is started at face i
  pub start_gives : StartGives w n i w₄
  unfolding walk_of started stack_of
  start_gives =
      record {
        only =
            only_both (only_set w (3 + n) i (omega arith) (omega (arith, p.here)))
            (only_both (only_set w₁ 0 1 (omega arith) (omega arith))
            (only_both (only_set w₂ 2 0 (omega arith) (omega arith)) (only_set w₃ (3 + i) 1 (omega arith) (omega (arith, p.here)))));
        top = top_is;
        walk = λ fs.
            let f : turned_by (part w₄ 3 n) fs ≡ turned_by (part w 3 n) fs =
            ap (λ ss. turned_by ss fs) states_is ∙ set_straight (part w 3 n) fs i 1 (ap (λ s. eqb s 2) (get_d_part w 3 n i p.here ∙ p.unseen)) refl
            in
            let v : map (λ s. not (eqb s 0)) (part w₄ 3 n) ≡ set (map (λ s. not (eqb s 0)) (part w 3 n)) i true =
            ap (map (λ s. not (eqb s 0))) states_is ∙ map_set (λ s. not (eqb s 0)) (part w 3 n) i 1
            in
            let k : stack_of w₄ (3 + n) (get_or w₄ 0 0) ≡ i ∷ [] = ap (stack_of w₄ (3 + n)) top_is ∙ ap (λ x. x ∷ []) pushed in
            let x : get_or w₄ 1 0 ≡ get_or w 1 0 = others 1 (λ z. absurd (omega arith)) (λ z. absurd (omega arith)) (λ z. absurd (omega arith)) (λ z. absurd (omega arith)) in
            rw (f, v, k, x, mark_is);
      }
