-- The sorted corners by place: the corners at v stand in one run, and after it none is at v. Assumes nothing.
use mathlib.Core.Path.{◌≡◌, refl, sym, ap, ◌∙◌}
use mathlib.Core.Logic.{◌≢◌}
use mathlib.Core.Bool.{◌&&◌}
use mathlib.Core.List.{List, ◌∷◌, ◌++◌}
use Prim.Native.Nat.{ℕ, zero, suc, ◌+◌, ◌*◌, ◌-◌, ◌≤◌, ◌<◌}
use native.Mathlib.Omega.{arith}
use native.Mathlib.Decide.{dec_lt}
use lib.ListN.{length, get_or, length-append, get_or-append}
use lib.Seq.{get_or-append-add}
use lib.Dec.{eqb, ltb}
use Rattle.rows.proofs.Regions.{get_d_part, length_part}
use Rattle.rules.specs.Lists.{below, each}
use Rattle.rules.specs.Mesh.{Face, faces_of}
use Rattle.rules.specs.Groups.{leads}
use Rattle.rule_laws.proofs.Lists.{each_append}
use Rattle.rule_laws.proofs.Rising.{All, all_imp, all_each, all_at, all_from, below_at}
use Rattle.rule_laws.proofs.Counting.{count_below_le}
use Rattle.table.proofs.Ids.{three_faces}
use Rattle.splitting.specs.Corners.{corner_at, joined_at, corners_at, extra, extras, base}
use Rattle.splitting.proofs.AllAtOnce.{each_last}
use Rattle.splitting.proofs.Entries.{as_many, corner_is, joined_turns}
use Rattle.corner_groups.proofs.Joining.{corner_flat}
use Rattle.corner_groups.proofs.Laid.{leads_own}
use Rattle.corner_numbers.specs.Numbers.{extra_by, EndAsks, EndGives}
use Rattle.split_bowtie_vertices.specs.Splits.{Rows}

module _ (fs : List Face) where
  -- the corners before those at v
  abbrev pub before_of : ℕ → ℕ
  before_of v = length (each (corners_at fs) (below v))

  -- and before those at the next point
  pub before_suc : (v : ℕ) → before_of (suc v) ≡ before_of v + length (corners_at fs v)
  before_suc v = ap length (each_last (corners_at fs) v) ∙ length-append (each (corners_at fs) (below v)) (corners_at fs v)

  -- the k-th corner at v is a corner, and at v
  pub is_corner : (v k : ℕ) → k < length (corners_at fs v) → (get_or (corners_at fs v) k 0 < 3 * length fs) × (corner_at fs (get_or (corners_at fs v) k 0) ≡ v)
  is_corner v k h = corner_is fs v k (omega (arith, as_many fs v))

  -- all corners: those before v, those at v, and those behind, none of which is at v
  cut : (P v : ℕ) → v < P → (zs : List ℕ) × (each (corners_at fs) (below P) ≡ each (corners_at fs) (below v) ++ (corners_at fs v ++ zs)) × All (λ id. corner_at fs id ≢ v) zs
  cut P v h =
      let w = below_at v P h in (
        each (corners_at fs) w.0,
        ap (each (corners_at fs)) w.1 ∙ each_append (corners_at fs) (below v) (v ∷ w.0) ∙ (unfold each in refl),
        all_each (λ id. corner_at fs id ≢ v) (corners_at fs) w.0 (all_imp (λ y. (v < y) × (y < P)) (λ y. All (λ id. corner_at fs id ≢ v) (corners_at fs y)) (λ y q. other y q.0) w.0 w.2),
      )
    where
      other : (y : ℕ) → v < y → All (λ id. corner_at fs id ≢ v) (corners_at fs y)
      other y l = all_from (λ id. corner_at fs id ≢ v) 0 (corners_at fs y) (λ k b e. absurd (omega (arith, (is_corner y k b).1)))

  -- at the places from `before_of v` on stand the corners at v
  pub at_place : (P v j : ℕ) → v < P → j < length (corners_at fs v) → get_or (each (corners_at fs) (below P)) (before_of v + j) 0 ≡ get_or (corners_at fs v) j 0
  at_place P v j h l =
      let c = cut P v h in
      ap (λ zs. get_or zs (before_of v + j) 0) c.1
      ∙ get_or-append-add (each (corners_at fs) (below v)) (corners_at fs v ++ c.0) j 0
      ∙ get_or-append (corners_at fs v) c.0 0 j l

  -- there are as many places
  pub places_fit : (P v : ℕ) → v < P → before_of v + length (corners_at fs v) ≤ before_of P
  places_fit P v h =
      let c = cut P v h in
      omega (arith, ap length c.1, length-append (each (corners_at fs) (below v)) (corners_at fs v ++ c.0), length-append (corners_at fs v) c.0)

  -- and none stands behind them
  pub past_place : (P v q : ℕ) → v < P → before_of v + length (corners_at fs v) ≤ q → q < before_of P → corner_at fs (get_or (each (corners_at fs) (below P)) q 0) ≢ v
  past_place P v q h l b =
      let c = cut P v h in
      let t = q - before_of v - length (corners_at fs v) in
      let e : q ≡ before_of v + (length (corners_at fs v) + t) = omega arith in
      let d : t < length c.0 = omega (arith, ap length c.1, length-append (each (corners_at fs) (below v)) (corners_at fs v ++ c.0), length-append (corners_at fs v) c.0) in
      let is : get_or (each (corners_at fs) (below P)) q 0 ≡ get_or c.0 t 0 =
      ap (λ k. get_or (each (corners_at fs) (below P)) k 0) e
      ∙ ap (λ zs. get_or zs (before_of v + (length (corners_at fs v) + t)) 0) c.1
      ∙ get_or-append-add (each (corners_at fs) (below v)) (corners_at fs v ++ c.0) (length (corners_at fs v) + t) 0
      ∙ get_or-append-add (corners_at fs v) c.0 t 0 in
      λ z. all_at (λ id. corner_at fs id ≢ v) c.0 0 t c.2 d (ap (corner_at fs) (sym is) ∙ z)

  -- no more groups are split off than there are corners
  pub few_extras : (v : ℕ) → extras fs v ≤ length (corners_at fs v)
  unfolding extras
  few_extras v = count_below_le (extra fs v) (length (corners_at fs v))

  -- so no more points than corners are added
  pub base_most : (P v : ℕ) → base fs P v ≤ P + before_of v
  unfolding base
  base_most P zero = omega arith
  base_most P (suc v) = omega (arith, base_most P v, few_extras v, before_suc v)

-- ---- read from the rows

module _ {ys : List ℕ} {P : ℕ} {w : List ℕ} (r : Rows ys P w) where
  -- the faces
  abbrev fs' : List Face
  fs' = faces_of ys

  -- three corners for each face
  three : 3 * length fs' ≡ length ys
  three = three_faces ys r.whole

  -- as many places as corners
  pub all_places : before_of fs' P ≡ length ys
  all_places = sym (sym (length_part w (12 * length ys + 2 + P) (length ys) (omega (arith, r.fit))) ∙ ap length r.sorted)

  -- the corner at a place
  pub place_row : (q : ℕ) → q < length ys → get_or w (12 * length ys + 2 + P + q) 0 ≡ get_or (each (corners_at fs') (below P)) q 0
  place_row q h = sym (get_d_part w (12 * length ys + 2 + P) (length ys) q h) ∙ ap (λ l. get_or l q 0) r.sorted

  -- the point at a corner
  pub column_row : (id : ℕ) → id < length ys → get_or w id 0 ≡ corner_at fs' id
  column_row id h = (let e : id ≡ 0 + id = omega arith in ap (λ k. get_or w k 0) e) ∙ r.column.each id h ∙ sym (corner_flat ys r.whole id)

  -- the run of v
  pub run_fits : (v : ℕ) → v < P → before_of fs' v + length (corners_at fs' v) ≤ length ys
  run_fits v h = omega (arith, places_fit fs' P v h, all_places)

  -- and the corners in it
  pub run_row : (v j : ℕ) → v < P → j < length (corners_at fs' v) → get_or w (12 * length ys + 2 + P + (before_of fs' v + j)) 0 ≡ get_or (corners_at fs' v) j 0
  run_row v j h l = place_row (before_of fs' v + j) (omega (arith, run_fits v h)) ∙ at_place fs' P v j h l

  -- what stands at places are corners
  place_in : (q : ℕ) → q < length ys → get_or w (12 * length ys + 2 + P + q) 0 < length ys
  place_in q h =
      let a = all_from_each q h in
      omega (arith, place_row q h, three)
    where
      corners_all : All (λ id. id < 3 * length fs') (each (corners_at fs') (below P))
      corners_all = all_each (λ id. id < 3 * length fs') (corners_at fs') (below P) (all_from (λ v. All (λ id. id < 3 * length fs') (corners_at fs' v)) 0 (below P) (λ k b. all_from (λ id. id < 3 * length fs') 0 (corners_at fs' (get_or (below P) k 0)) (λ j l. (is_corner fs' (get_or (below P) k 0) j l).0)))

      all_from_each : (q : ℕ) → q < length ys → get_or (each (corners_at fs') (below P)) q 0 < 3 * length fs'
      all_from_each q h = all_at (λ id. id < 3 * length fs') (each (corners_at fs') (below P)) 0 q corners_all (omega (arith, all_places))

  -- what the search for the end of a run asks
  pub end_ok : (v begin : ℕ) → v < P → begin ≡ before_of fs' v → EndAsks w (12 * length ys + 2 + P) begin (length ys)
  end_ok v begin h e =
      let f = r.fit in
      record { from = omega (arith, run_fits v h); fit = omega arith; column = omega arith; id = place_in }

  -- where the run of v ends
  pub end_is : (v begin end : ℕ) → v < P → begin ≡ before_of fs' v → EndGives w (12 * length ys + 2 + P) begin (length ys) v end → end ≡ begin + length (corners_at fs' v)
  end_is v begin end h e g = go (dec_lt end (begin + length (corners_at fs' v))) (dec_lt (begin + length (corners_at fs' v)) end)
    where
      sorted_at : (q : ℕ) → q < length ys → get_or w (get_or w (12 * length ys + 2 + P + q) 0) 0 ≡ corner_at fs' (get_or (each (corners_at fs') (below P)) q 0)
      sorted_at q b = column_row (get_or w (12 * length ys + 2 + P + q) 0) (place_in q b) ∙ ap (corner_at fs') (place_row q b)

      short : end < begin + length (corners_at fs' v) → ⊥
      short l =
          let f = run_fits v h in
          let b : end < length ys = omega arith in
          let j = end - begin in
          let k : end ≡ before_of fs' v + j = omega (arith, g.least) in
          let jl : j < length (corners_at fs' v) = omega (arith, g.least) in
          g.stop b (sorted_at end b ∙ ap (corner_at fs') (ap (λ z. get_or (each (corners_at fs') (below P)) z 0) k ∙ at_place fs' P v j h jl) ∙ (is_corner fs' v j jl).1)

      far : begin + length (corners_at fs' v) < end → ⊥
      far l =
          let q = begin + length (corners_at fs' v) in
          let b : q < length ys = omega (arith, g.most) in
          past_place fs' P v q h (omega arith) (omega (arith, all_places)) (sym (sorted_at q b) ∙ g.inside q (omega arith) l)

      go : Dec (end < begin + length (corners_at fs' v)) → Dec (begin + length (corners_at fs' v) < end) → end ≡ begin + length (corners_at fs' v)
      go (yes l) d = absurd (short l)
      go (no l) (yes k) = absurd (far k)
      go (no l) (no k) = omega arith

  -- a corner leads exactly if it is noted as its own first member
  leads_row : (id : ℕ) → id < length ys → eqb (get_or w (10 * length ys + 2 + P + id) 0) id ≡ leads (joined_at fs') (length ys) id
  leads_row id h = ap (λ x. eqb x id) (r.led.each id h) ∙ leads_own (joined_at fs') (length ys) (joined_turns fs') id h

  -- the test on the rows is that on the corners
  pub extra_row : (v j : ℕ) → v < P → j < length (corners_at fs' v) → extra_by w (12 * length ys + 2 + P + before_of fs' v) (10 * length ys + 2 + P) j ≡ extra fs' v j
  unfolding extra
  extra_row v j h l =
      let e : 12 * length ys + 2 + P + before_of fs' v + j ≡ 12 * length ys + 2 + P + (before_of fs' v + j) = omega arith in
      let id = ap (λ k. get_or w k 0) e ∙ run_row v j h l in
      ap (λ x. ltb 0 j && eqb (get_or w (10 * length ys + 2 + P + x) 0) x) id
      ∙ ap (λ b. ltb 0 j && b) (leads_row (get_or (corners_at fs' v) j 0) (omega (arith, (is_corner fs' v j l).0, three)))
      ∙ ap (λ n. ltb 0 j && leads (joined_at fs') n (get_or (corners_at fs' v) j 0)) (sym three)
