-- The rules' verdict from a right one. Assumes nothing.
use mathlib.Core.Path.{◌≡◌, ap, ◌∙◌}
use mathlib.Core.Bool.{Bool, true, false, not, ◌&&◌}
use mathlib.Core.List.{List, [], ◌∷◌}
use Prim.Native.Nat.{ℕ, ◌*◌, ◌≤◌, ◌<◌}
use native.Mathlib.Omega.{arith}
use native.Mathlib.Decide.{ℕ_discrete, dec_le}
use borrow.Author.Tests.{eq-eqb, ne_eqb, le-leb, lt-leb}
use lib.ListN.{length, get_or}
use lib.Dec.{eqb, leb}
use Rattle.rules.specs.Lists.{below}
use Rattle.rules.specs.Mesh.{faces_of}
use Rattle.rules.specs.Edges.{begins, ends, no7, no8}
use Rattle.rules.specs.Refusal.{ok, decided}
use Rattle.rules.specs.Refusal as rule
use Rattle.rule_laws.proofs.Lists.{length_below}
use Rattle.rule_laws.proofs.Rising.{get_or_below}
use Rattle.rule_laws.proofs.Firsts.{none_at_fault, at_fault}
use Rattle.refuse.specs.Accepted.{Faces}
use Rattle.refuse.specs.Verdicts.{check_of}
use Rattle.std.specs.Prelude.{Result}
use Rattle.refuse.specs.declared.Refusal.{Refusal}
use Rattle.halves.specs.Scan.{Fair, beginsTo, endsTo}
use Rattle.halves.specs.Gather.{halves}
use Rattle.halves.specs.Right.{Right, Right.edge, Right.vertex, Right.fine}
use Rattle.verdict.proofs.Boundary.{begins_are, ends_are}
use Rattle.verdict.proofs.Seven.{seven_none, seven_found}

-- a vertex that begins as many as it ends, 0 or 1, passes the rules' test
fault_no : (b e : ℕ) → Fair b e → not (eqb b e && leb b 1) ≡ false
fault_no b e h = rw (eq-eqb b e h.even, le-leb b 1 h.once)

-- any other does not
fault_yes : (b e : ℕ) → (Fair b e → ⊥) → not (eqb b e && leb b 1) ≡ true
fault_yes b e h = go (ℕ_discrete b e) (dec_le b 1)
  where
    go : Dec (b ≡ e) → Dec (b ≤ 1) → not (eqb b e && leb b 1) ≡ true
    go (yes p) (yes q) = absurd (h (record { even = p; once = q }))
    go (yes p) (no q) = rw (eq-eqb b e p, lt-leb b 1 (omega arith))
    go (no p) q = rw (ne_eqb b e p)

module _ (f : List ℕ) (P : ℕ) (q : Faces P f) where
  -- the rules' test of a vertex
  abbrev fault : ℕ → Bool
  fault v = not (eqb (begins (faces_of f) v) (ends (faces_of f) v) && leb (begins (faces_of f) v) 1)

  -- what the scan knows of a vertex
  abbrev FairAt : ℕ → Type 0
  FairAt v = Fair (beginsTo (halves f P (length f)) P (P * P) v) (endsTo (halves f P (length f)) P (P * P) v)

  -- is what the rules count
  fair_no : (v : ℕ) → v < P → FairAt v → fault v ≡ false
  fair_no v h t = fault_no (begins (faces_of f) v) (ends (faces_of f) v) (rw (begins_are f P q v h, ends_are f P q v h) t)

  -- the vertex at place j of all is j
  fault_at : (j : ℕ) → j < P → fault (get_or (below P) j 0) ≡ fault j
  fault_at j l = ap (λ (v : ℕ). fault v) (get_or_below P j l)

  -- where every vertex is fair, 8 is not given
  eight_none : ((v : ℕ) → v < P → FairAt v) → no8 P (faces_of f) ≡ ok
  unfolding no8
  eight_none t =
      none_at_fault fault 0 8 (below P) (λ j l. let h : j < P = omega (arith, length_below P) in fault_at j h ∙ fair_no j h (t j h))

  -- the lowest vertex that is not fair is 8's place
  eight_found : (v : ℕ) → v < P → ((w : ℕ) → w < v → FairAt w) → (FairAt v → ⊥) → no8 P (faces_of f) ≡ rule.no 8 v
  unfolding no8
  eight_found v h t n =
      at_fault fault 0 8 (below P) v (omega (arith, length_below P)) (λ j l. fault_at j (omega arith) ∙ fair_no j (omega arith) (t j l))
      (fault_at v h ∙ fault_yes (begins (faces_of f) v) (ends (faces_of f) v) (λ g. n (rw (begins_are f P q v h, ends_are f P q v h) at g)))

  -- the verdict is the one that the rules give
  pub verdict_is : (r : Result Unit Refusal) → Right (halves f P (length f)) P r → check_of r ≡ decided (no7 P (faces_of f) ∷ no8 P (faces_of f) ∷ [])
  unfolding decided
  verdict_is r (edge t) = rw (seven_found f P q t)
  verdict_is r (vertex c h t n) = rw (seven_none f P q c, eight_found _ h t n)
  verdict_is r (fine c t) = rw (seven_none f P q c, eight_none t)
