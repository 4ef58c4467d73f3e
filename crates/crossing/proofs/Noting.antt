-- Who disagrees is noted of an edge, and read again; the component is marked. Assumes nothing.
use mathlib.Core.Path.{◌≡◌, sym, ◌∙◌}
use mathlib.Core.Bool.{or-false}
use mathlib.Core.List.{List}
use Prim.Native.Nat.{ℕ, suc, ◌+◌, ◌*◌, ◌≤◌, ◌<◌}
use native.Mathlib.Omega.{arith}
use native.Mathlib.Numerals.{add-one}
use borrow.Author.Tests.{eq-eqb, ne_eqb, le-leb, lt-leb}
use lib.ListN.{length, get_or, set, length-set}
use lib.Seq.{get_or-set_same, get_or-set_other}
use Rattle.rows.proofs.Regions.{only_none, only_both, only_set}
use Rattle.rules.specs.Mesh.{faces_of}
use Rattle.rules.specs.Steps.{step}
use Rattle.rules.specs.Pass4.{remark}
use Rattle.orienting.specs.Reaching.{other, lone}
use Rattle.reaching.specs.Walking.{walk_of, faces_in}
use Rattle.reaching.proofs.Neighbours.{marked}
use Rattle.crossing.specs.Crossing.{NoteAsks, NoteGives, WhoAsks, disagreeing, MarkAsks, MarkGives}

-- ---- note

-- the bounds of the three stores
pub record Bounds (w : List ℕ) (n r : ℕ) : Type 0 where
  pub few : n ≤ 4194304
  pub fit : 3 + 11 * n ≤ length w
  pub here : r < 3 * n

module _ {w xs : List ℕ} {n r from to : ℕ} (p : NoteAsks w xs n r from to) where
  -- they hold
  pub note_bounds : Bounds w n r
  note_bounds = record { few = p.run.ready.fits.few; fit = p.run.ready.fits.fit; here = p.here }

module _ {w xs : List ℕ} {n r from to : ℕ} (p : NoteAsks w xs n r from to) (low high up down : ℕ) where
  -- the row after each store
  abbrev w₁ : List ℕ
  w₁ = set w (3 + 2 * n + 3 * r + 1) up

  abbrev w₂ : List ℕ
  w₂ = set w₁ (3 + 2 * n + 3 * r + 2) down

  abbrev w₃ : List ℕ
  w₃ = set w₂ (3 + 2 * n + 3 * r) 1

  -- the other entries are as they were
  others : (q : ℕ) → (q ≡ 3 + 2 * n + 3 * r → ⊥) → (q ≡ 3 + 2 * n + 3 * r + 2 → ⊥) → (q ≡ 3 + 2 * n + 3 * r + 1 → ⊥) → get_or w₃ q 0 ≡ get_or w q 0
  others q a b c = get_or-set_other w₂ (3 + 2 * n + 3 * r) q 1 0 a ∙ get_or-set_other w₁ (3 + 2 * n + 3 * r + 2) q down 0 b ∙ get_or-set_other w (3 + 2 * n + 3 * r + 1) q up 0 c

  -- so edge r is noted
  pub note_gives :
      up ≡ lone (n + 1) (walk_of (faces_of xs) n w).faces (step high low) (faces_in w from to)
      → down ≡ lone (n + 1) (walk_of (faces_of xs) n w).faces (step low high) (faces_in w from to)
      → NoteGives w xs n r from to low high w₃
  note_gives u d =
      let k = note_bounds p in
      let l₁ = length-set w (3 + 2 * n + 3 * r + 1) up in
      let l₂ = length-set w₁ (3 + 2 * n + 3 * r + 2) down in
      record {
        only =
            only_both (only_set w (3 + 2 * n + 3 * r + 1) up (omega arith) (omega (arith, k)))
            (only_both (only_set w₁ (3 + 2 * n + 3 * r + 2) down (omega arith) (omega (arith, k)))
            (only_set w₂ (3 + 2 * n + 3 * r) 1 (omega arith) (omega (arith, k))));
        others = λ q ne h. (
          others (3 + 2 * n + 3 * q) (λ z. ne (omega arith)) (λ z. absurd (omega arith)) (λ z. absurd (omega arith)),
          others (3 + 2 * n + 3 * q + 1) (λ z. absurd (omega (arith, k))) (λ z. absurd (omega arith)) (λ z. ne (omega arith)),
          others (3 + 2 * n + 3 * q + 2) (λ z. absurd (omega (arith, k))) (λ z. ne (omega arith)) (λ z. absurd (omega (arith, k))),
        );
        up = get_or-set_other w₂ (3 + 2 * n + 3 * r) (3 + 2 * n + 3 * r + 1) 1 0 (λ z. absurd (omega (arith, k)))
            ∙ get_or-set_other w₁ (3 + 2 * n + 3 * r + 2) (3 + 2 * n + 3 * r + 1) down 0 (λ z. absurd (omega (arith, k)))
            ∙ get_or-set_same w (3 + 2 * n + 3 * r + 1) up 0 (omega (arith, k)) ∙ u;
        down = get_or-set_other w₂ (3 + 2 * n + 3 * r) (3 + 2 * n + 3 * r + 2) 1 0 (λ z. absurd (omega (arith, k)))
            ∙ get_or-set_same w₁ (3 + 2 * n + 3 * r + 2) down 0 (omega (arith, k)) ∙ d;
      }

-- ---- who

-- as it is noted for the way of the step
pub who_up : {w : List ℕ} {n r : ℕ} → WhoAsks w n r → (x y : ℕ) → x ≤ y → get_or w (3 + 2 * n + 3 * r + 1) 0 ≡ disagreeing w n r x y
who_up p x y h = rw (le-leb x y h)

-- or for the other way
pub who_down : {w : List ℕ} {n r : ℕ} → WhoAsks w n r → (x y : ℕ) → y < x → get_or w (3 + 2 * n + 3 * r + 2) 0 ≡ disagreeing w n r x y
who_down p x y h = rw (lt-leb x y h)

-- ---- mark

module _ {w : List ℕ} {n j known : ℕ} (p : MarkAsks w n j) where
  -- nobody
  pub mark_none : known ≡ 0 → MarkGives w n j known w
  unfolding other remark
  mark_none e = record { only = only_none 2 1 w; walk = λ fs. rw (eq-eqb known 0 e, or-false (walk_of fs n w).mark) }

  -- the face itself
  pub mark_self : (known ≡ 0 → ⊥) → known ≡ j + 1 → MarkGives w n j known w
  unfolding other remark
  mark_self z e = record { only = only_none 2 1 w; walk = λ fs. rw (ne_eqb known 0 z, eq-eqb known (suc j) (e ∙ add-one j), or-false (walk_of fs n w).mark) }

  -- another
  pub mark_other : (known ≡ 0 → ⊥) → (known ≡ j + 1 → ⊥) → MarkGives w n j known (set w 2 1)
  unfolding other
  mark_other z e =
      record {
        only = only_set w 2 1 (omega arith) (omega arith);
        walk = λ fs. rw (ne_eqb known 0 z, ne_eqb known (suc j) (λ q. e (q ∙ sym (add-one j)))) (marked fs n w (omega (arith, p.fit)));
      }
