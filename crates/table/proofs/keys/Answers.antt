-- `table::keys` meets its contract. The invariant: both rows hold the keys of the faces passed, and nothing else is changed.
-- Assumes nothing.
use mathlib.Core.Path.{◌≡◌, refl, sym, ap, ◌∙◌}
use mathlib.Core.Bool.{Bool}
use mathlib.Core.List.{List}
use Prim.Native.Nat.{ℕ, ◌+◌, ◌*◌, ◌/◌, ◌^◌, ◌%◌, ◌≤◌, ◌<◌}
use native.Mathlib.Omega.{arith}
use borrow.Author.Tests.{eq-eqb, ne_eqb}
use lib.ListN.{length, get_or, set, length-set}
use Rattle.rows.specs.Region.{Only}
use Rattle.rows.proofs.Regions.{apart_sym, only_set, only2_none, only2_left, only2_right, only2_both, holds_none, holds_next, holds_kept}
use Rattle.rules.specs.Mesh.{faces_of}
use Rattle.rules.specs.Steps.{step}
use Rattle.table.specs.Entries.{next, step_at, under}
use Rattle.table.specs.Table.{put, PutAsks, KeysAsks, KeysGives}
use Rattle.table.proofs.Frames.{apart_inner}
use Rattle.table.proofs.Ids.{step_flat}
use Rattle.table.proofs.keys.Invariants.{Passed}
use Rattle.table.proofs.keys.Goals as goal

-- what a turn reads is a whole face
record Turn (xs : List ℕ) (i : ℕ) : Type 0 where
  few : length xs < 2 ^ 32
  here : i + 2 < length xs

begin : {w xs : List ℕ} {d : Bool} {first second : ℕ} → KeysAsks w xs first second → Passed w xs d first second w 0
begin p = record { at_most = omega arith; only = only2_none _ _ _ _ _; firsts = holds_none; seconds = holds_none }

-- the corners of a face follow each other, and the first follows the last
module _ (i : ℕ) (h : i % 3 ≡ 0) where
  after_first : i + 1 ≡ next i
  after_first = rw (ne_eqb (i % 3) 2 (omega arith)) refl

  after_second : i + 2 ≡ next (i + 1)
  after_second = rw (ne_eqb ((i + 1) % 3) 2 (omega arith)) (omega arith)

  after_third : i ≡ next (i + 2)
  after_third = rw (eq-eqb ((i + 2) % 3) 2 (omega arith)) (omega arith)

module _ {w₀ xs : List ℕ} {d : Bool} {first second : ℕ} (p : KeysAsks w₀ xs first second) {w : List ℕ} {i : ℕ} (v : Passed w₀ xs d first second w i) (h : i < length xs) where
  -- there is a place for the keys of entry i
  fits : PutAsks w first second i
  fits = let l = v.only.long in record { first_fit = omega (arith, p.first_fit); second_fit = omega (arith, p.second_fit) }

  -- and one entry more is passed
  one : (j : ℕ) → j ≡ next i → Passed w₀ xs d first second (put w d first second i (step (get_or xs i 0) (get_or xs j 0))) (i + 1)
  one j e =
      let l = v.only.long in
      let s : step (get_or xs i 0) (get_or xs j 0) ≡ step_at (faces_of xs) i = ap (λ k. step (get_or xs i 0) (get_or xs k 0)) e ∙ sym (step_flat xs p.whole i h) in
      let a = (under d (step (get_or xs i 0) (get_or xs j 0))).from in
      let b = (under d (step (get_or xs i 0) (get_or xs j 0))).to in
      let w₁ = set w (first + i) a in
      let o₁ : Only first (length xs) w w₁ = only_set w (first + i) a (omega arith) (omega arith) in
      let o₂ : Only second (length xs) w₁ (set w₁ (second + i) b) = only_set w₁ (second + i) b (omega arith) (omega arith) in
      record {
        at_most = omega arith;
        only = only2_both v.only (only2_both (only2_left o₁) (only2_right o₂));
        firsts = holds_kept o₂ (apart_inner first (i + 1) (omega arith) (omega arith) p.apart) (holds_next a (omega (arith, p.first_fit)) (ap (λ t. (under d t).from) s) v.firsts);
        seconds = holds_next b (rw length-set (omega (arith, p.second_fit))) (ap (λ t. (under d t).to) s) (holds_kept o₁ (apart_inner second i (omega arith) (omega arith) (apart_sym p.apart)) v.seconds);
      }

module _ {w₀ xs : List ℕ} {d : Bool} {first second : ℕ} {w : List ℕ} {f : ℕ} (p : KeysAsks w₀ xs first second) (v : Passed w₀ xs d first second w (3 * f)) (h : f < length xs / 3) where
  -- the first entry of face f
  abbrev i : ℕ
  i = 3 * f

  whole : i % 3 ≡ 0
  whole = omega arith

  turn : Turn xs i
  turn = record { few = p.few; here = omega (arith, p.whole) }

  put_ok : PutAsks w first second i
  put_ok = fits p v (omega (arith, turn))

  module _ {w₁ : List ℕ} (e₁ : w₁ ≡ put w d first second i (step (get_or xs i 0) (get_or xs (i + 1) 0))) where
    passed₁ : Passed w₀ xs d first second w₁ (i + 1)
    passed₁ = rw e₁ (one p v (omega (arith, turn)) (i + 1) (after_first i whole))

    put_ok_2 : PutAsks w₁ first second (i + 1)
    put_ok_2 = fits p passed₁ (omega (arith, turn))

    module _ {w₂ : List ℕ} (e₂ : w₂ ≡ put w₁ d first second (i + 1) (step (get_or xs (i + 1) 0) (get_or xs (i + 2) 0))) where
      passed₂ : Passed w₀ xs d first second w₂ (i + 2)
      passed₂ =
          let e : i + 1 + 1 ≡ i + 2 = omega arith in
          rw e₂ (rw e at (one p passed₁ (omega (arith, turn)) (i + 2) (after_second i whole)))

      put_ok_3 : PutAsks w₂ first second (i + 2)
      put_ok_3 = fits p passed₂ (omega (arith, turn))

      again : {w₃ : List ℕ} → w₃ ≡ put w₂ d first second (i + 2) (step (get_or xs (i + 2) 0) (get_or xs i 0)) → Passed w₀ xs d first second w₃ (3 * (f + 1))
      again e₃ =
          let e : i + 2 + 1 ≡ 3 * (f + 1) = omega arith in
          rw e₃ (rw e at (one p passed₂ (omega (arith, turn)) i (after_third i whole)))

done : {w₀ xs : List ℕ} {d : Bool} {first second : ℕ} {w : List ℕ} {f : ℕ} → KeysAsks w₀ xs first second → Passed w₀ xs d first second w (3 * f) → length xs / 3 ≤ f → KeysGives w₀ xs d first second w
done {w₀} {xs} {d} {first} {second} {w} {f} p v h =
    let e : 3 * f ≡ length xs = omega (arith, v.at_most, p.whole) in
    record { only = v.only; firsts = rw e at v.firsts; seconds = rw e at v.seconds }

pub loop-f-init : goal.loop-f-init
loop-f-init c = begin c.requires

pub offset_bounds-faces-i : goal.offset_bounds-faces-i
offset_bounds-faces-i c = omega (arith, turn c.requires c.loop-f.invariant c.loop-f-test.true)

pub bounds-faces-i : goal.bounds-faces-i
bounds-faces-i c = omega (arith, turn c.requires c.loop-f.invariant c.loop-f-test.true)

pub overflow_add-y : goal.overflow_add-y
overflow_add-y c = omega (arith, turn c.requires c.loop-f.invariant c.loop-f-test.true)

pub offset_bounds-faces-i-in-loop-f : goal.offset_bounds-faces-i-in-loop-f
offset_bounds-faces-i-in-loop-f c = omega (arith, turn c.requires c.loop-f.invariant c.loop-f-test.true)

pub bounds-faces-i-in-loop-f : goal.bounds-faces-i-in-loop-f
bounds-faces-i-in-loop-f c = omega (arith, turn c.requires c.loop-f.invariant c.loop-f-test.true)

pub overflow_add-z : goal.overflow_add-z
overflow_add-z c = omega (arith, turn c.requires c.loop-f.invariant c.loop-f-test.true)

pub offset_bounds-faces-i-in-loop-f-2 : goal.offset_bounds-faces-i-in-loop-f-2
offset_bounds-faces-i-in-loop-f-2 c = omega (arith, turn c.requires c.loop-f.invariant c.loop-f-test.true)

pub bounds-faces-i-in-loop-f-2 : goal.bounds-faces-i-in-loop-f-2
bounds-faces-i-in-loop-f-2 c = omega (arith, turn c.requires c.loop-f.invariant c.loop-f-test.true)

pub put-requires : goal.put-requires
put-requires c = put_ok c.requires c.loop-f.invariant c.loop-f-test.true

pub overflow_add-i : goal.overflow_add-i
overflow_add-i c = omega (arith, turn c.requires c.loop-f.invariant c.loop-f-test.true)

pub put-requires-in-loop-f : goal.put-requires-in-loop-f
put-requires-in-loop-f c = put_ok_2 c.requires c.loop-f.invariant c.loop-f-test.true c.put.ensures

pub overflow_add-i-in-loop-f : goal.overflow_add-i-in-loop-f
overflow_add-i-in-loop-f c = omega (arith, turn c.requires c.loop-f.invariant c.loop-f-test.true)

pub put-requires-in-loop-f-2 : goal.put-requires-in-loop-f-2
put-requires-in-loop-f-2 c = put_ok_3 c.requires c.loop-f.invariant c.loop-f-test.true c.put.ensures c.put-in-loop-f.ensures

pub loop-f-preserved : goal.loop-f-preserved
loop-f-preserved c = again c.requires c.loop-f.invariant c.loop-f-test.true c.put.ensures c.put-in-loop-f.ensures c.put-in-loop-f-2.ensures

pub shape_of-work : goal.shape_of-work
shape_of-work c = c.loop-f.invariant.only.long

pub returns : goal.returns
returns c = done c.requires c.loop-f.invariant c.loop-f-test.false
