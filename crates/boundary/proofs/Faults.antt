-- Refusal 8 from the rows, and the third row where there is none. Assumes nothing.
use mathlib.Core.Path.{◌≡◌, refl, sym, ◌∙◌, subst}
use mathlib.Core.Bool.{Bool, true, false, not, ◌&&◌}
use mathlib.Core.List.{List}
use Prim.Native.Nat.{ℕ, ◌+◌, ◌*◌, ◌≤◌, ◌<◌}
use native.Mathlib.Omega.{arith}
use borrow.Author.Tests.{leb-true}
use lib.ListN.{get_or}
use lib.Dec.{T, eqb, leb}
use Rattle.rows.specs.Region.{Holds}
use Rattle.rules.specs.Lists.{below}
use Rattle.rules.specs.Mesh.{faces_of}
use Rattle.rules.specs.Refusal.{ok}
use Rattle.rules.specs.Refusal as rule
use Rattle.rules.specs.Edges.{boundary, begins, ends, no8}
use Rattle.rule_laws.proofs.Lists.{length_below}
use Rattle.rule_laws.proofs.Rising.{get_or_below}
use Rattle.rule_laws.proofs.Firsts.{none_at_fault, at_fault}
use Rattle.boundary.specs.Rows.{NoneOf, FirstAt, uneven, onward, Counted}

-- where no fault is found, at most one begins
one_begins : (b e : ℕ) → not (eqb b e && leb b 1) ≡ false → b ≤ 1
one_begins b e h = leb-true b 1 (go (eqb b e) (leb b 1) h)
  where
    go : (x y : Bool) → not (x && y) ≡ false → y ≡ true
    go true true q = refl
    go true false q = sym q
    go false y q = absurd (subst T q tt)

module _ (xs : List ℕ) {w : List ℕ} {P row : ℕ} (c : Counted P row (boundary (faces_of xs)) w) where
  -- the rules' test of a vertex
  abbrev fault : ℕ → Bool
  fault v = not (eqb (begins (faces_of xs) v) (ends (faces_of xs) v) && leb (begins (faces_of xs) v) 1)

  -- is that of the rows
  fault_is : (v : ℕ) → v < P → fault (get_or (below P) v 0) ≡ uneven w row (row + P) v
  unfolding begins ends
  fault_is v h = rw (get_or_below P v h, c.begins.each v h, c.ends.each v h)

  -- the first uneven vertex is 8's place
  pub eight_found : {r : ℕ} → FirstAt (uneven w row (row + P)) P r → no8 P (faces_of xs) ≡ rule.no 8 r
  unfolding no8
  eight_found {r} f =
      let h = f.within in
      at_fault fault 0 8 (below P) r (omega (arith, length_below P)) (λ j l. fault_is j (omega arith) ∙ f.before.none j l) (fault_is r h ∙ f.found)

  module _ (f : NoneOf (uneven w row (row + P)) P) where
    -- where no vertex is uneven, 8 is not given
    pub eight_none : no8 P (faces_of xs) ≡ ok
    unfolding no8
    eight_none =
        none_at_fault fault 0 8 (below P) (λ j l. let q : j < P = omega (arith, length_below P) in fault_is j q ∙ f.none j (omega arith))

    -- and the third row has where the boundary goes on from each vertex
    pub next_row : Holds (row + 2 * P) P (onward P (boundary (faces_of xs))) w
    next_row =
        record {
          each = λ v l.
              c.next v l
              (omega (
                arith,
                c.begins.each v l,
                one_begins (get_or w (row + v) 0) (get_or w (row + P + v) 0) (f.none v (omega arith)),
              ));
        }
