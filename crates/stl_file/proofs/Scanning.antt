-- The corners of a file, and the first that is outside its domain. Assumes nothing.
use mathlib.Core.Path.{◌≡◌, refl, sym, ap, subst, ◌∙◌}
use mathlib.Core.Bool.{Bool, true, false, not, ◌&&◌}
use mathlib.Core.List.{List}
use Prim.Native.Nat.{ℕ, ◌+◌, ◌*◌, ◌/◌, ◌%◌, ◌≤◌, ◌<◌}
use native.Mathlib.Omega.{arith}
use lib.ListN.{length, get_or, length-map}
use lib.Ieee.{Float}
use Rattle.rules.specs.Lists.{below, all}
use Rattle.rules.specs.Mesh.{Point, zero64}
use Rattle.rules.specs.Refusal.{ok, no, in_domain, no4, most_faces}
use Rattle.rules.specs.Stl.{facets, coordinate, corner_at, place_of, corners_of}
use Rattle.rule_laws.proofs.Lists.{length_below, get_or_map_in}
use Rattle.rule_laws.proofs.Rising.{get_or_below}
use Rattle.rule_laws.proofs.Firsts.{none_at_fault, at_fault}
use Rattle.refuse.specs.Verdicts.{far}
use Rattle.refuse.proofs.Scans.{Clean}
use Rattle.stl_file.specs.Files.{Whole, CornerAsks}

-- where a corner begins
pub place_is : (c : ℕ) → 96 + 50 * (c / 3) + 12 * (c % 3) ≡ place_of c
unfolding place_of
place_is c = refl

-- a corner of a whole file stands in it
pub corner_asks : {file : List ℕ} {count c : ℕ} → Whole file count → c < 3 * count → CornerAsks file c
unfolding place_of
corner_asks {file} {count} {c} p h = record { few = omega (arith, p.few); fit = omega (arith, p.long) }

-- ---- one corner is far unless all its coordinates are inside
pub far_is :
    (file : List ℕ) (i : ℕ)
    → not ((in_domain (coordinate file i) && in_domain (coordinate file (i + 4))) && in_domain (coordinate file (i + 8))) ≡ far (corner_at file i)
unfolding all corner_at
far_is file i = ap not (go (in_domain (coordinate file i)) (in_domain (coordinate file (i + 4))) (in_domain (coordinate file (i + 8))))
  where
    go : (a b c : Bool) → ((a && b) && c) ≡ (a && (b && (c && true)))
    go false b c = refl
    go true false c = refl
    go true true false = refl
    go true true true = refl

-- ---- all corners

-- there are 3F
pub length_corners : (file : List ℕ) → length (corners_of file) ≡ 3 * facets file
unfolding corners_of
length_corners file = length-map (below (3 * facets file)) (λ c. corner_at file (place_of c)) ∙ length_below (3 * facets file)

-- corner c
pub corner_is : (file : List ℕ) (c : ℕ) (d : Point) → c < 3 * facets file → get_or (corners_of file) c d ≡ corner_at file (place_of c)
unfolding corners_of
corner_is file c d h =
    get_or_map_in (λ c. corner_at file (place_of c)) (below (3 * facets file)) c 0 d (rw (length_below (3 * facets file)) h)
    ∙ ap (λ k. corner_at file (place_of k)) (get_or_below (3 * facets file) c h)

-- whether it is far
abbrev pub far_at : List ℕ → ℕ → Bool
far_at file c = far (corner_at file (place_of c))

module _ {file : List ℕ} {count : ℕ} (p : Whole file count) (c : ℕ) (v : Clean (far_at file) (3 * count) c) where
  -- the rules' corner j
  at_fault_is : (j : ℕ) → j < 3 * count → far (get_or (corners_of file) j (record { x = zero64; y = zero64; z = zero64 })) ≡ far_at file j
  at_fault_is j h = ap far (corner_is file j (record { x = zero64; y = zero64; z = zero64 }) (rw p.counted h))

  -- 4: no corner at fault
  pub no4_none : 3 * count ≤ c → ok ≡ no4 (corners_of file)
  unfolding no4
  no4_none h =
      sym
      (none_at_fault far (record { x = zero64; y = zero64; z = zero64 }) 4 (corners_of file)
      (λ j l. let q : j < 3 * count = omega (arith, length_corners file, p.counted) in at_fault_is j q ∙ v.none j (omega arith)))

  -- 4: corner c is the first at fault
  pub no4_at : c < 3 * count → far_at file c ≡ true → no 4 c ≡ no4 (corners_of file)
  unfolding no4
  no4_at h t =
      sym
      (at_fault far (record { x = zero64; y = zero64; z = zero64 }) 4 (corners_of file) c (omega (arith, length_corners file, p.counted))
      (λ j l. at_fault_is j (omega arith) ∙ v.none j l) (at_fault_is c h ∙ t))

-- what a turn needs
pub record Turn (count : ℕ) : Type 0 where
  pub few : count ≤ most_faces

pub turn : {file : List ℕ} {count : ℕ} → Whole file count → Turn count
turn p = record { few = p.few }

-- the corner of the place that was reckoned
pub here : (file : List ℕ) (c : ℕ) {i : ℕ} {b : Bool} → i ≡ place_of c → b ≡ far (corner_at file i) → b ≡ far (corner_at file (place_of c))
here file c {i} {b} e h = subst (λ k. b ≡ far (corner_at file k)) e h

-- what the test of a coordinate found
pub inside : {x y : Float} {b : Bool} (t : Bool) → x ≡ y → b ≡ in_domain x → b ≡ t → in_domain y ≡ t
inside t e q r = ap in_domain (sym e) ∙ sym q ∙ r
