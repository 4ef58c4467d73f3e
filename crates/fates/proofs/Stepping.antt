-- One pass: amounts are added at the origins, and marked faces leave. What then stands, what became of each fate, and which lines it tells. Assumes nothing.
use mathlib.Core.Path.{◌≡◌, refl, sym, ap, ◌∙◌, subst}
use mathlib.Core.Bool.{Bool, true, false, cond}
use mathlib.Core.List.{List, [], ◌∷◌}
use Prim.Native.Nat.{ℕ, suc, ◌+◌, ◌*◌, ◌%◌, ◌≤◌, ◌<◌}
use native.Mathlib.Omega.{arith}
use lib.ListN.{length, get_or, take}
use lib.Seq.{get_or-take, length-take-le}
use Rattle.leaving.specs.Pass.{carried, LeaveGives}
use Rattle.leaving.proofs.Standing.{left_inside, carried_left}
use Rattle.rules.specs.Lists.{below, each, leave}
use Rattle.rules.specs.Mesh.{face, points_of}
use Rattle.rules.specs.State.{State}
use Rattle.rules.specs.Mending.{Reason, Line, dropped_face, drops}
use Rattle.rule_laws.proofs.Rising.{All, Up}
use Rattle.fates.specs.Fating.{Rooms, rooms, points_in, faces_in, fate_in, Stands, Has, Became, Became.same, Became.fresh}
use Rattle.fates.proofs.Sums.{Summed}
use Rattle.fates.proofs.ByOrigin.{by_origin, added_at, Met, Met.met, Met.passed, met_at}
use Rattle.fates.proofs.Standing.{origin_up, origin_low, origin_untold, reads, carried_many, carried_origin}

-- what leaves a rising list leaves it rising
up_from : (a b : ℕ) (xs : List ℕ) → a ≤ b → Up b xs → Up a xs
up_from a b [] l h = tt
up_from a b (x ∷ xs) l h = (omega (arith, h.0), h.1)

leave_up : (a : ℕ) (marked : ℕ → Bool) (xs : List ℕ) → Up a xs → Up a (leave marked xs)
unfolding leave
leave_up a marked [] h = tt
leave_up a marked (x ∷ xs) h = go (marked 0) (leave_up (suc x) (λ i. marked (suc i)) xs h.1)
  where
    go : (b : Bool) → Up (suc x) (leave (λ i. marked (suc i)) xs) → Up a (cond b (leave (λ i. marked (suc i)) xs) (x ∷ leave (λ i. marked (suc i)) xs))
    go true r = up_from a (suc x) (leave (λ i. marked (suc i)) xs) (omega (arith, h.0)) r
    go false r = (h.0, r)

-- what holds where the mark is not set holds of all that stay
leave_unmarked : (Q : ℕ → Type 0) (marked : ℕ → Bool) (xs : List ℕ) → ((i : ℕ) → i < length xs → marked i ≡ false → Q (get_or xs i 0)) → All Q (leave marked xs)
unfolding leave
leave_unmarked Q marked [] h = tt
leave_unmarked Q marked (x ∷ xs) h = go (marked 0) refl (leave_unmarked Q (λ i. marked (suc i)) xs (λ i l e. h (suc i) (omega arith) e))
  where
    go : (b : Bool) → marked 0 ≡ b → All Q (leave (λ i. marked (suc i)) xs) → All Q (cond b (leave (λ i. marked (suc i)) xs) (x ∷ leave (λ i. marked (suc i)) xs))
    go true e r = r
    go false e r = (h 0 (omega arith) e, r)

module _ {most : ℕ} {r : Rooms} (a : Stands most r) where
  -- lines by place are lines by origin
  pub lines_by : (h g : ℕ → List Line) → ((i : ℕ) → i < r.n → h i ≡ g (get_or r.origins i 0)) → ((f : ℕ) → f < faces_in r → ((i : ℕ) → i < r.n → get_or r.origins i 0 ≡ f → ⊥) → g f ≡ []) → each h (below r.n) ≡ each g (below (faces_in r))
  lines_by h g at off = by_origin (λ i. get_or r.origins i 0) h g r.n (faces_in r) (record { up = origin_up a; low = origin_low a; at = at; off = off })

  -- the lines of faces that leave
  pub drops_by :
      (mark : ℕ → Bool) (why : ℕ → Reason) (g : ℕ → List Line) → ((i : ℕ) → i < r.n → cond (mark i) (dropped_face (get_or r.origins i 0) (why i) ∷ []) [] ≡ g (get_or r.origins i 0))
      → ((f : ℕ) → f < faces_in r → ((i : ℕ) → i < r.n → get_or r.origins i 0 ≡ f → ⊥) → g f ≡ [])
      → drops mark why (carried r.faces r.origins r.n) ≡ each g (below (faces_in r))
  unfolding drops
  drops_by mark why g at off =
      ap (λ (k : ℕ). each (λ i. cond (mark i) (dropped_face (face (carried r.faces r.origins r.n) i).origin (why i) ∷ []) []) (below k)) (carried_many a)
      ∙ lines_by _ g (λ i l. ap (λ (o : ℕ). cond (mark i) (dropped_face o (why i) ∷ []) []) (carried_origin a i l) ∙ at i l) off

  -- ---- amounts are added

  module _ {amount : ℕ → ℕ} {w : List ℕ} (g : Summed amount r.origins r.n r.work r.fates w) where
    -- what became of each fate
    pub met_so : (f : ℕ) → f < faces_in r → Met amount r.origins r.n f (fate_in r f) (get_or w (r.fates + f) 0)
    met_so f h = met_at amount r.origins r.n f (fate_in r f) (get_or w (r.fates + f) 0) (origin_up a) (λ i l e. ap (fate_in r) (sym e) ∙ origin_untold a i l) (g.sums.each f h)

    -- of a face that stands
    pub told_at : (i : ℕ) → i < r.n → get_or w (r.fates + get_or r.origins i 0) 0 ≡ amount i
    told_at i l = omega (arith, g.sums.each (get_or r.origins i 0) (origin_low a i l), origin_untold a i l, added_at amount r.origins r.n (origin_up a) i l)

    -- of one that does not
    pub told_off : (f : ℕ) → f < faces_in r → ((i : ℕ) → i < r.n → get_or r.origins i 0 ≡ f → ⊥) → get_or w (r.fates + f) 0 ≡ fate_in r f
    told_off f h none = go (met_so f h)
      where
        go : Met amount r.origins r.n f (fate_in r f) (get_or w (r.fates + f) 0) → get_or w (r.fates + f) 0 ≡ fate_in r f
        go (met i l d z b) = absurd (none i l d)
        go (passed q b) = b

    -- none is above the amounts
    pub least_so : (top : ℕ) → most ≤ top → ((i : ℕ) → i < r.n → amount i ≤ top) → (f : ℕ) → f < faces_in r → get_or w (r.fates + f) 0 ≤ top
    least_so top h small f l = go (met_so f l)
      where
        go : Met amount r.origins r.n f (fate_in r f) (get_or w (r.fates + f) 0) → get_or w (r.fates + f) 0 ≤ top
        go (met i l d z b) = omega (arith, b, small i l)
        go (passed q b) = omega (arith, b, a.least f l)

    -- none has a reason of an earlier pass anew
    pub became_so : (code : ℕ) → ((i : ℕ) → i < r.n → (c : ℕ) → 0 < c → c < code → amount i % 8 ≡ c → ⊥) → (f : ℕ) → f < faces_in r → Became code (fate_in r f) (get_or w (r.fates + f) 0)
    became_so code apart f l = go (met_so f l)
      where
        go : Met amount r.origins r.n f (fate_in r f) (get_or w (r.fates + f) 0) → Became code (fate_in r f) (get_or w (r.fates + f) 0)
        go (met i l d z b) = fresh z (λ c p q e. apart i l c p q (ap (λ (x : ℕ). x % 8) (sym b) ∙ e))
        go (passed q b) = same b

  -- ---- marked faces leave

  module _ {marked : ℕ → Bool} {xs os : List ℕ} {k : ℕ} (l : LeaveGives marked r.faces r.origins r.n xs os k) where
    -- what holds of the origins that are not marked holds of those that stay
    left_all : (Q : ℕ → Type 0) → ((i : ℕ) → i < r.n → marked i ≡ false → Q (get_or r.origins i 0)) → All Q (take k os)
    left_all Q h =
        subst (All Q) (sym l.origins)
        (leave_unmarked Q marked (take r.n r.origins)
        (λ i q e. let q' : i < r.n = omega (arith, length-take-le r.n r.origins a.own) in subst Q (sym (get_or-take r.n r.origins i 0 q')) (h i q' e)))

    -- they rise
    pub left_up : Up 0 (take k os)
    left_up = subst (Up 0) (sym l.origins) (leave_up 0 marked (take r.n r.origins) a.up)

    -- and are input faces
    pub left_low : All (λ o. o < length os) (take k os)
    left_low = left_all (λ o. o < length os) (λ i q e. omega (arith, origin_low a i q, l.only_origins.long))

    -- they have an origin each
    pub left_own : k ≤ length os
    left_own = omega (arith, l.number, a.own, l.only_origins.long)

    -- their corners are points
    pub corners_left : (i : ℕ) → i < 3 * k → get_or xs i 0 < points_in r
    corners_left = left_inside (reads a 0 (omega arith)) l

    -- there is room for them
    pub left_fit : 3 * k ≤ length xs
    left_fit = omega (arith, l.number, a.fit, l.only_faces.long)

    -- the rooms hold what the rules leave
    pub left_has : {m' : State} {w : List ℕ} → m'.points ≡ points_of r.points → (mark : ℕ → Bool) → m'.faces ≡ leave mark (carried r.faces r.origins r.n) → mark ≡ marked → Has m' (rooms r.points xs os k w r.fates)
    left_has p mark e q =
        record {
          points = p;
          faces = e ∙ ap (λ (b : ℕ → Bool). leave b (carried r.faces r.origins r.n)) q ∙ sym (carried_left r.faces r.origins r.n a.fit a.own l);
        }

    -- ---- both

    module _ {amount : ℕ → ℕ} {w : List ℕ} (g : Summed amount r.origins r.n r.work r.fates w) where
      -- what stands
      pub stands_so :
          (top : ℕ) → most ≤ top → ((i : ℕ) → i < r.n → amount i ≤ top) → ((i : ℕ) → i < r.n → marked i ≡ false → amount i ≡ 0)
          → Stands top (rooms r.points xs os k w r.fates)
      stands_so top h small none =
          let e = l.only_origins.long in
          record {
            whole = a.whole;
            points = a.points;
            few = omega (arith, a.few, e);
            own = left_own;
            fit = left_fit;
            inside = corners_left;
            up = left_up;
            low = left_low;
            behind = omega (arith, a.behind, e);
            room = omega (arith, a.room, e, g.long);
            untold = left_all (λ o. get_or w (r.fates + o) 0 ≡ 0) (λ i q d. told_at g i q ∙ none i q d);
            least = λ f q. least_so g top h small f (omega (arith, e));
          }
