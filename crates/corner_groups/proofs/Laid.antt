-- The corners at the ends of the steps, run after run, joined by `flood`: the leaders are those of pass 5's joining. Assumes nothing.
use mathlib.Core.Path.{◌≡◌, refl, sym, ap, ◌∙◌, subst}
use mathlib.Core.Logic.{◌⊎◌, inl, inr, ◌≢◌}
use mathlib.Core.Bool.{Bool, false}
use mathlib.Core.List.{List, Memᴰ}
use Prim.Native.Nat.{ℕ, suc, ◌+◌, ◌*◌, ◌-◌, ◌^◌, ◌%◌, ◌≤◌, ◌<◌, min, max}
use native.Mathlib.Omega.{arith}
use native.Mathlib.Numerals.{add-one}
use native.Mathlib.Decide.{dec_lt}
use lib.ListN.{length, get_or}
use lib.Dec.{T, eqb, eqb→eq, eqb_refl}
use Rattle.rows.specs.Region.{Apart.before, Holds}
use Rattle.rules.specs.Mesh.{faces_of}
use Rattle.rules.specs.Steps.{step, edge, same}
use Rattle.rules.specs.Groups.{group, leads}
use Rattle.rule_laws.proofs.Tests.{both_ways}
use Rattle.rule_laws.proofs.Groups.{Chain, Chain.stay, Chain.link, chain_end, group_chain, chain_group, covered, group_self}
use Rattle.rule_laws.proofs.Leaders.{leads_le, leads_of, group_trans}
use Rattle.rules.specs.Lists.{first}
use Rattle.table.specs.Entries.{step_at, keys_of, start_of}
use Rattle.table.specs.Table.{Tabled, run_of}
use Rattle.table.proofs.Places.{start_zero, starts_rise, starts_mono, last_start, id_in, key_at_is, run_number, run_in, placed}
use Rattle.flood.specs.Plan.{Plan, plan, begins, thing, joins, FloodAsks}
use Rattle.flood.specs.Uniting.{Turns}
use Rattle.flood.specs.Answers.{leader_of}
use Rattle.flood.proofs.Runs.{joins_intro, joined_same, meets_turns}
use Rattle.flood.proofs.Leading.{leader_is}
use Rattle.splitting.specs.Corners.{joined_at}
use Rattle.splitting.proofs.Entries.{joined_turns}
use Rattle.corner_groups.specs.Sides.{lower_of, higher_of, SideAsks}
use Rattle.corner_groups.proofs.Ends.{lower_in, higher_in}
use Rattle.corner_groups.proofs.Joining.{joined_elim, lowers_joined, highers_joined, between, Between}

-- ---- leaders of a joining, and of one that joins more

module _ (joined : ℕ → ℕ → Bool) (n : ℕ) (turns : (x y : ℕ) → T (joined x y) → T (joined y x)) where
  -- the joining goes both ways
  abbrev t : Turns joined
  t = record { each = turns }

  -- the leader leads, and has x in its group
  pub leader_of_is : (x : ℕ) → x < n → (leader_of joined n x < n) × T (leads joined n (leader_of joined n x)) × Memᴰ x (group joined n (leader_of joined n x))
  leader_of_is x h =
      let c = covered joined n turns x h in
      let e = leader_is joined n t x c.0 h c.1 c.2 c.3 in
      rw e (c.1, c.2, c.3)

  -- a thing leads exactly if it is its own leader
  pub leads_own : (x : ℕ) → x < n → eqb (leader_of joined n x) x ≡ leads joined n x
  leads_own x h = both_ways (eqb (leader_of joined n x) x) (leads joined n x) to from
    where
      to : T (eqb (leader_of joined n x) x) → T (leads joined n x)
      to e = subst (λ y. T (leads joined n y)) (eqb→eq (leader_of joined n x) x e) (leader_of_is x h).1

      from : T (leads joined n x) → T (eqb (leader_of joined n x) x)
      from l = let e = leader_is joined n t x x h h l (group_self joined n x h) in rw e (eqb_refl x)

  -- joined things have one leader
  pub one_leads : (x y : ℕ) → x < n → y < n → T (joined x y) → leader_of joined n x ≡ leader_of joined n y
  one_leads x y hx hy j =
      let c = covered joined n turns x hx in
      leader_is joined n t x c.0 hx c.1 c.2 c.3
      ∙ sym (leader_is joined n t y c.0 hy c.1 c.2 (group_trans joined n turns c.0 x y c.1 c.3 (chain_group joined n hx (link stay j hy))))

  -- Another joining that joins these, and only things of one leader, has the same leaders.
  module _ (joined' : ℕ → ℕ → Bool) (turns' : Turns joined') (more : (x y : ℕ) → x < n → y < n → T (joined x y) → T (joined' x y))
      (only : (x y : ℕ) → T (joined' x y) → leader_of joined n x ≡ leader_of joined n y) where
    chain_more : {x y : ℕ} → x < n → Chain joined n x y → Chain joined' n x y
    chain_more h stay = stay
    chain_more h (link {j = j} {k = k} c j' b) = link (chain_more h c) (more j k (chain_end h c) b j') b

    chain_only : {x y : ℕ} → Chain joined' n x y → leader_of joined n x ≡ leader_of joined n y
    chain_only stay = refl
    chain_only (link {j = j} {k = k} c j' b) = chain_only c ∙ only j k j'

    pub same_leader : (x : ℕ) → x < n → leader_of joined' n x ≡ leader_of joined n x
    same_leader x h =
        let l = leader_of_is x h in
        leader_is joined' n turns' x (leader_of joined n x) h l.0
        (leads_of joined' n (leader_of joined n x) (λ y m. first_of x y l.0 l.1 l.2 h (group_chain joined' n (leader_of joined n x) y m)))
        (chain_group joined' n l.0 (chain_more l.0 (group_chain joined n (leader_of joined n x) x l.2)))
      where
        first_of : (x y : ℕ) → leader_of joined n x < n → T (leads joined n (leader_of joined n x)) → Memᴰ x (group joined n (leader_of joined n x)) → x < n → Chain joined' n (leader_of joined n x) y → leader_of joined n x ≤ y
        first_of x y hl tl ml h c =
            let hy = chain_end hl c in
            let k = leader_of_is y hy in
            let a : leader_of joined n (leader_of joined n x) ≡ leader_of joined n x = leader_is joined n t (leader_of joined n x) (leader_of joined n x) hl hl tl (chain_group joined n hl stay) in
            let b : leader_of joined n x ≡ leader_of joined n y = sym a ∙ chain_only c in
            omega (arith, leads_le joined n (leader_of joined n y) y k.1 k.2)

-- ---- the rows

-- the corners at the lower ends and at the higher ends, in the table's order, and where their runs begin
pub record Laid (w xs : List ℕ) (P at m starts order labels : ℕ) : Type 0 where
  pub tabled : Tabled w xs P false at m
  pub few : length xs < 2 ^ 31
  pub lows : Holds order (length xs) (λ p. lower_of xs (get_or w (at + 3 * length xs + p) 0)) w
  pub highs : Holds (order + length xs) (length xs) (λ p. higher_of xs (get_or w (at + 3 * length xs + p) 0)) w
  pub starts_low : Holds starts m (start_of false P (faces_of xs)) w
  pub starts_high : Holds (starts + m) (m + 1) (λ r. length xs + start_of false P (faces_of xs) r) w
  pub starts_in : starts + (2 * m + 1) ≤ labels
  pub order_in : order + 2 * length xs ≤ labels
  pub labels_in : labels + length xs ≤ length w

module _ {w xs : List ℕ} {P at m starts order labels : ℕ} (z : Laid w xs P at m starts order labels) where
  -- where the rows stand
  abbrev g : Plan
  g = plan (length xs) (2 * m) starts order labels

  -- where run r of the table begins
  abbrev S : ℕ → ℕ
  S r = start_of false P (faces_of xs) r

  -- the step at a place of the table's order
  abbrev id : ℕ → ℕ
  id p = get_or w (at + 3 * length xs + p) 0

  -- the faces are whole
  whole : length xs % 3 ≡ 0
  whole = z.tabled.asks.whole

  -- the joining of pass 5
  abbrev joined : ℕ → ℕ → Bool
  joined = joined_at (faces_of xs)

  -- as many runs as edges
  m_is : m ≡ length (keys_of false P (faces_of xs))
  m_is = z.tabled.count

  -- the first run begins at 0
  SZero : S 0 ≡ 0
  SZero = start_zero false P (faces_of xs)

  -- the last one ends where the order does
  SLast : S m ≡ length xs
  SLast = ap S m_is ∙ last_start z.tabled.asks z.tabled.table

  -- no run is empty
  SRise : (r : ℕ) → r < m → S r < S (r + 1)
  SRise r h = rw (add-one r) (starts_rise false P (faces_of xs) r (omega (arith, m_is)))

  -- a run begins within the order
  SIn : (r : ℕ) → r ≤ m → S r ≤ length xs
  SIn r h = omega (arith, starts_mono false P (faces_of xs) r m h, SLast)

  -- where the runs begin
  begins_low : (r : ℕ) → r ≤ m → begins w g r ≡ S r
  begins_low r h = go (dec_lt r m)
    where
      go : Dec (r < m) → begins w g r ≡ S r
      go (yes l) = z.starts_low.each r l
      go (no l) =
          let e : r ≡ m = omega arith in
          let f : starts + r ≡ starts + m + 0 = omega arith in
          ap (λ k. get_or w k 0) f ∙ z.starts_high.each 0 (omega arith) ∙ omega (arith, SZero, SLast, ap S e)

  -- and those of the higher ends
  begins_high : (r : ℕ) → r ≤ m → begins w g (m + r) ≡ length xs + S r
  begins_high r h = let f : starts + (m + r) ≡ starts + m + r = omega arith in ap (λ k. get_or w k 0) f ∙ z.starts_high.each r (omega arith)

  -- what stands at a place
  thing_low : (p : ℕ) → p < length xs → thing w g p ≡ lower_of xs (id p)
  thing_low p h = z.lows.each p h

  -- and in the second half
  thing_high : (p : ℕ) → p < length xs → thing w g (length xs + p) ≡ higher_of xs (id p)
  thing_high p h = let f : order + (length xs + p) ≡ order + length xs + p = omega arith in ap (λ k. get_or w k 0) f ∙ z.highs.each p h

  -- a step of the order is one of the faces
  step_in : (p : ℕ) → p < length xs → SideAsks xs (id p)
  step_in p h = record { whole = whole; few = z.few; here = id_in z.tabled.asks z.tabled.table p h }

  -- a run of lower ends or one of higher ends
  half : (r : ℕ) → r < 2 * m → (r < m) ⊎ ((q : ℕ) × (q < m) × (r ≡ m + q))
  half r h = go (dec_lt r m)
    where
      go : Dec (r < m) → (r < m) ⊎ ((q : ℕ) × (q < m) × (r ≡ m + q))
      go (yes l) = inl l
      go (no l) = inr (r - m, omega arith, omega arith)

  -- the rows are what `flood` asks
  pub flood_asks : FloodAsks w g
  flood_asks =
      let e = begins_high m (omega arith) in
      let f : 2 * m ≡ m + m = omega arith in
      let last : begins w g (2 * m) ≡ length xs + length xs = ap (begins w g) f ∙ e ∙ ap (λ k. length xs + k) SLast in
      record {
        few = omega (arith, z.few);
        labels_fit = z.labels_in;
        starts_fit = omega (arith, z.starts_in, z.labels_in);
        starts_apart = before (omega (arith, z.starts_in));
        rising = λ r h. rises r h (half r h);
        order_fit = omega (arith, z.order_in, z.labels_in);
        order_apart = before (omega (arith, z.order_in));
        inside = λ p l h. things p (omega (arith, last)) (dec_lt p (length xs));
      }
    where
      rises : (r : ℕ) → r < 2 * m → (r < m) ⊎ ((q : ℕ) × (q < m) × (r ≡ m + q)) → begins w g r ≤ begins w g (r + 1)
      rises r h (inl l) = omega (arith, begins_low r (omega arith), begins_low (r + 1) (omega arith), SRise r l)
      rises r h (inr k) =
          let e = k.2 in
          let l = k.1 in
          let f : r + 1 ≡ m + (k.0 + 1) = omega arith in
          omega (arith, ap (begins w g) e, ap (begins w g) f, begins_high k.0 (omega arith), begins_high (k.0 + 1) (omega arith), SRise k.0 l)

      things : (p : ℕ) → p < length xs + length xs → Dec (p < length xs) → thing w g p < length xs
      things p h (yes l) = omega (arith, thing_low p l, lower_in (step_in p l))
      things p h (no l) =
          let b : p - length xs < length xs = omega arith in
          let f : p ≡ length xs + (p - length xs) = omega arith in
          omega (arith, ap (thing w g) f, thing_high (p - length xs) b, higher_in (step_in (p - length xs) b))

  -- entries of one run are under one edge
  one_edge : (r p q : ℕ) → r < m → S r ≤ p → p < S (r + 1) → S r ≤ q → q < S (r + 1) → edge (step_at (faces_of xs) (id p)) ≡ edge (step_at (faces_of xs) (id q))
  one_edge r p q h a b c d =
      let f = ap S (add-one r) in
      let k : r < length (keys_of false P (faces_of xs)) = omega (arith, m_is) in
      key_at_is z.tabled.asks z.tabled.table r p k a (omega arith) ∙ sym (key_at_is z.tabled.asks z.tabled.table r q k c (omega arith))

  -- the leader in pass 5's joining
  abbrev lead : ℕ → ℕ
  lead x = leader_of joined (length xs) x

  -- corners that are one or joined have one leader
  led_alike : (x y : ℕ) → x < length xs → y < length xs → (x ≡ y) ⊎ T (joined x y) → lead x ≡ lead y
  led_alike x y hx hy (inl e) = ap lead e
  led_alike x y hx hy (inr j) = one_leads joined (length xs) (joined_turns (faces_of xs)) x y hx hy j

  -- neighbours in a run have one leader
  near : (r : ℕ) → r < 2 * m → (p : ℕ) → begins w g r ≤ p → p + 1 < begins w g (r + 1) → lead (thing w g p) ≡ lead (thing w g (p + 1))
  near r h p a b = go (half r h)
    where
      go : (r < m) ⊎ ((q : ℕ) × (q < m) × (r ≡ m + q)) → lead (thing w g p) ≡ lead (thing w g (p + 1))
      go (inl l) =
          let c = begins_low r (omega arith) in
          let d = begins_low (r + 1) (omega arith) in
          let i = SIn (r + 1) (omega arith) in
          let k : p < length xs = omega arith in
          let k' : p + 1 < length xs = omega arith in
          ap lead (thing_low p k)
          ∙ led_alike (lower_of xs (id p)) (lower_of xs (id (p + 1))) (lower_in (step_in p k)) (lower_in (step_in (p + 1) k'))
          (lowers_joined xs whole (id p) (id (p + 1)) (step_in p k).here (step_in (p + 1) k').here (one_edge r p (p + 1) l (omega arith) (omega arith) (omega arith) (omega arith)))
          ∙ ap lead (sym (thing_low (p + 1) k'))
      go (inr s) =
          let l = s.1 in
          let q = s.0 in
          let e = s.2 in
          let f : r + 1 ≡ m + (q + 1) = omega arith in
          let c = ap (begins w g) e ∙ begins_high q (omega arith) in
          let d = ap (begins w g) f ∙ begins_high (q + 1) (omega arith) in
          let i = SIn (q + 1) (omega arith) in
          let o = p - length xs in
          let k : o < length xs = omega arith in
          let k' : o + 1 < length xs = omega arith in
          let u : p ≡ length xs + o = omega arith in
          let u' : p + 1 ≡ length xs + (o + 1) = omega arith in
          ap (λ j. lead (thing w g j)) u ∙ ap lead (thing_high o k)
          ∙ led_alike (higher_of xs (id o)) (higher_of xs (id (o + 1))) (higher_in (step_in o k)) (higher_in (step_in (o + 1) k'))
          (highers_joined xs whole (id o) (id (o + 1)) (step_in o k).here (step_in (o + 1) k').here (one_edge q o (o + 1) l (omega arith) (omega arith) (omega arith) (omega arith)))
          ∙ sym (ap (λ j. lead (thing w g j)) u' ∙ ap lead (thing_high (o + 1) k'))

  -- two steps of one edge stand in one run
  pub record Together (s t : ℕ) : Type 0 where
    pub r : ℕ
    pub p : ℕ
    pub q : ℕ
    pub run : r < m
    pub s_at : id p ≡ s
    pub t_at : id q ≡ t
    pub p_from : S r ≤ p
    pub p_to : p < S (r + 1)
    pub q_from : S r ≤ q
    pub q_to : q < S (r + 1)

  -- so do any two
  together : (s t : ℕ) → s < length xs → t < length xs → edge (step_at (faces_of xs) s) ≡ edge (step_at (faces_of xs) t) → Together s t
  together s t hs ht e =
      let a = placed z.tabled.asks z.tabled.table s hs in
      let b = placed z.tabled.asks z.tabled.table t ht in
      let c = run_in z.tabled.asks z.tabled.table a.0 a.1 in
      let d = run_in z.tabled.asks z.tabled.table b.0 b.1 in
      let x = run_number z.tabled.asks z.tabled.table c.0 a.0 c.1 c.2 c.3 in
      let y = run_number z.tabled.asks z.tabled.table d.0 b.0 d.1 d.2 d.3 in
      let o : run_of xs P false (id a.0) ≡ run_of xs P false (id b.0) = ap (λ k. first (same k) (keys_of false P (faces_of xs))) (ap (λ k. edge (step_at (faces_of xs) k)) a.2 ∙ e ∙ sym (ap (λ k. edge (step_at (faces_of xs) k)) b.2)) in
      let v : d.0 ≡ c.0 = sym (sym x ∙ o ∙ y) in
      record {
        r = c.0;
        p = a.0;
        q = b.0;
        run = omega (arith, c.1, m_is);
        s_at = a.2;
        t_at = b.2;
        p_from = c.2;
        p_to = rw (add-one c.0) c.3;
        q_from = subst (λ k. S k ≤ b.0) v d.2;
        q_to = rw (add-one c.0) (subst (λ k. b.0 < S (suc k)) v d.3);
      }

  -- corners that pass 5 joins stand in one run
  pub joins_more : (x y : ℕ) → x < length xs → y < length xs → T (joined x y) → T (joins w g x y)
  joins_more x y hx hy j =
      let e = joined_elim xs whole x y j in
      let b = between xs whole x e.1.0 hx e.1.1 e.1.2 in
      let c = between xs whole y e.1.0 hy (λ q. e.1.1 (q ∙ sym e.0)) e.1.3 in
      let d = together b.0 c.0 b.1.here c.1.here (b.1.along ∙ ap (λ v. step (min v e.1.0) (max v e.1.0)) e.0 ∙ sym c.1.along) in
      go e.1.0 e.1.1 e.0 b.0 c.0 b.1 c.1 d (dec_lt (get_or xs x 0) e.1.0)
    where
      go : (u : ℕ) → u ≢ get_or xs x 0 → get_or xs x 0 ≡ get_or xs y 0 → (s t : ℕ) → Between xs whole (get_or xs x 0) u x s → Between xs whole (get_or xs y 0) u y t → Together s t → Dec (get_or xs x 0 < u) → T (joins w g x y)
      go u ne e s t b c d (yes l) =
          let i = SIn (d.r + 1) (omega (arith, d.run)) in
          let f = begins_low d.r (omega (arith, d.run)) in
          let h = begins_low (d.r + 1) (omega (arith, d.run)) in
          let X : thing w g d.p ≡ x = thing_low d.p (omega (arith, d.p_to)) ∙ ap (lower_of xs) d.s_at ∙ b.up l in
          let Y : thing w g d.q ≡ y = thing_low d.q (omega (arith, d.q_to)) ∙ ap (lower_of xs) d.t_at ∙ c.up (omega arith) in
          subst (λ k. T (joins w g k y)) X (subst (λ k. T (joins w g (thing w g d.p) k)) Y
          (joins_intro flood_asks d.r d.p d.q (omega (arith, d.run)) (omega (arith, d.p_from)) (omega (arith, d.p_to)) (omega (arith, d.q_from)) (omega (arith, d.q_to))))
      go u ne e s t b c d (no l) =
          let i = SIn (d.r + 1) (omega (arith, d.run)) in
          let k : m + d.r + 1 ≡ m + (d.r + 1) = omega arith in
          let f = begins_high d.r (omega (arith, d.run)) in
          let h = ap (begins w g) k ∙ begins_high (d.r + 1) (omega (arith, d.run)) in
          let X : thing w g (length xs + d.p) ≡ x = thing_high d.p (omega (arith, d.p_to)) ∙ ap (higher_of xs) d.s_at ∙ b.down (omega arith) in
          let Y : thing w g (length xs + d.q) ≡ y = thing_high d.q (omega (arith, d.q_to)) ∙ ap (higher_of xs) d.t_at ∙ c.down (omega arith) in
          subst (λ k. T (joins w g k y)) X (subst (λ k. T (joins w g (thing w g (length xs + d.p)) k)) Y
          (joins_intro flood_asks (m + d.r) (length xs + d.p) (length xs + d.q) (omega (arith, d.run)) (omega (arith, d.p_from)) (omega (arith, d.p_to)) (omega (arith, d.q_from)) (omega (arith, d.q_to))))

  -- so the leaders are those of pass 5
  pub leaders_are : (x : ℕ) → x < length xs → leader_of (joins w g) (length xs) x ≡ leader_of joined (length xs) x
  leaders_are x h =
      same_leader joined (length xs) (joined_turns (faces_of xs)) (joins w g) (meets_turns _) joins_more
      (λ a b j. joined_same flood_asks lead near a b j) x h
