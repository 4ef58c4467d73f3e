-- One face crosses its edges. Assumes nothing.
use mathlib.Core.Path.{◌≡◌, sym, ap, ap₂, ◌∙◌}
use mathlib.Core.Bool.{Bool, true, false, not, ◌||◌, cond}
use mathlib.Core.List.{List, [], ◌∷◌}
use Prim.Native.Nat.{ℕ, ◌+◌, ◌-◌, ◌*◌, ◌%◌, ◌≤◌, ◌<◌}
use native.Mathlib.Omega.{arith}
use native.Mathlib.Decide.{ℕ_discrete, dec_le}
use borrow.Author.Tests.{ne_eqb, le-leb, lt-leb}
use lib.Dec.{eqb}
use lib.ListN.{length, get_or}
use Rattle.rows.specs.Region.{part, Out.below}
use Rattle.rows.proofs.Regions.{only_both, only_more}
use Rattle.rules.specs.Lists.{filter, through}
use Rattle.rules.specs.Mesh.{faces_of, face, exchanged}
use Rattle.rules.specs.Steps.{Step, step, steps, edge, opposite, walks, users, edges}
use Rattle.rules.specs.Pass4.{remark, meet, across}
use Rattle.rule_laws.proofs.Rising.{All, all_imp}
use Rattle.rule_laws.proofs.Flat.{face_in}
use Rattle.table.specs.Entries.{step_at, keys_of}
use Rattle.table.specs.Table.{Tabled, run_of}
use Rattle.table.proofs.Ids.{step_flat, edges_keys}
use Rattle.table.proofs.Places.{none, placed, run_in, run_number, key_at_is}
use Rattle.table.proofs.Handing.{at_run}
use Rattle.orienting.specs.Reaching.{reach, other, lone, turn}
use Rattle.orienting.proofs.Turns.{users_turned, edge_opposite}
use Rattle.orienting.proofs.Reached.{Along, across_is}
use Rattle.orienting.proofs.Room.{remark_sound}
use Rattle.orienting.proofs.Users.{users_walk}
use Rattle.reaching.specs.Walking.{walk_of, ReachAsks, MeetGives}
use Rattle.reaching.proofs.Reading.{turned_at}
use Rattle.reaching.proofs.Visiting.{ready_as}
use Rattle.crossing.specs.Crossing.{Leads, Crossed, SettleAsks, SettleGives, WhoAsks, disagreeing, MarkAsks, MarkGives, ManyAsks, CrossAsks, CrossGives, ThreeAsks, ThreeGives, FaceAsks, FaceGives}
use Rattle.crossing.proofs.Keeping.{Later, later_both, later_reach, later_remark, later_meets, later_to, going_kept}

-- ---- the run of an entry

-- the run of an entry is its edge's
module _ {w xs : List ℕ} {P at m : ℕ} (t : Tabled w xs P false at m) (id : ℕ) (h : id < length xs) where
  pub run_of_is : (get_or w (at + 2 * length xs + id) 0 < m) × (get_or (edges P (faces_of xs)) (get_or w (at + 2 * length xs + id) 0) none ≡ edge (step_at (faces_of xs) id))
  run_of_is =
      let j = placed t.asks t.table id h in
      let r = run_in t.asks t.table j.0 j.1 in
      let n : run_of xs P false id ≡ r.0 = ap (run_of xs P false) (sym j.2) ∙ run_number t.asks t.table r.0 j.0 r.1 r.2 r.3 in
      let e : get_or w (at + 2 * length xs + id) 0 ≡ r.0 = t.runs.each id h ∙ n in
      let k : edge (step_at (faces_of xs) id) ≡ get_or (keys_of false P (faces_of xs)) r.0 none =
      ap (λ i. edge (step_at (faces_of xs) i)) (sym j.2) ∙ key_at_is t.asks t.table r.0 j.0 r.1 r.2 r.3
      in
      (omega (arith, e, r.1, t.count), ap (λ q. get_or (edges P (faces_of xs)) q none) e ∙ ap (λ es. get_or es r.0 none) (sym (edges_keys P (faces_of xs))) ∙ sym k)

-- what the code reads
pub record Bounds (w xs : List ℕ) (n id : ℕ) : Type 0 where
  pub few : n ≤ 4194304
  pub long : length xs ≡ 3 * n
  pub fit : 3 + 14 * n + 5 * length xs + 1 ≤ length w
  pub entry : id < 3 * n
  pub run : get_or w (3 + 14 * n + 2 * length xs + id) 0 < 3 * n
  pub across : get_or w (3 + 11 * n + id) 0 ≤ n

-- who disagrees with the step is noted for its way
noted : {w xs : List ℕ} {n r : ℕ} (x y : ℕ) → Crossed w xs n (edge (step x y)) r
    → disagreeing w n r x y ≡ lone (n + 1) (walk_of (faces_of xs) n w).faces (opposite (step x y)) (users (faces_of xs) (edge (step x y)))
noted {w} {xs} {n} {r} x y c = go (dec_le x y)
  where
    l : Step → ℕ
    l s = lone (n + 1) (walk_of (faces_of xs) n w).faces s (users (faces_of xs) (edge (step x y)))

    go : Dec (x ≤ y) → disagreeing w n r x y ≡ l (opposite (step x y))
    go (yes h) =
        let e : edge (step x y) ≡ step x y = unfold edge in ap₂ (λ a b. step a b) (omega arith) (omega arith) in
        rw (le-leb x y h) (c.up ∙ ap (λ s. l (opposite s)) e)
    go (no h) =
        let e : edge (step x y) ≡ opposite (step x y) = unfold edge opposite in ap₂ (λ a b. step a b) (omega arith) (omega arith) in
        rw (lt-leb x y (omega arith)) (c.down ∙ ap l e)

-- the users of an edge are those of the faces as they were
users_are : (xs : List ℕ) (n : ℕ) (w : List ℕ) (s : Step) → users (walk_of (faces_of xs) n w).faces (edge s) ≡ users (faces_of xs) (edge s)
unfolding walk_of
users_are xs n w s = users_turned (part w 3 n) (faces_of xs) (edge s)

-- ---- cross_many

module _ {w xs : List ℕ} {n j r x y : ℕ} (p : ManyAsks w xs n j r x y) where
  -- the users are along the step
  all_along : All (Along (step x y) (walk_of (faces_of xs) n w)) (users (walk_of (faces_of xs) n w).faces (edge (step x y)))
  all_along =
      let v = walk_of (faces_of xs) n w in
      let a = p.settle.going.ready.sound.flags in
      let b = p.settle.going.ready.sound.whole in
      all_imp (λ i. (i < length v.faces) × ((walks (face v.faces i) (step x y) || walks (face v.faces i) (opposite (step x y))) ≡ true)) (Along (step x y) v)
      (λ i h. (omega (arith, h.0), h.0, h.1)) (users v.faces (edge (step x y))) (users_walk v.faces (step x y))

  module _ {w₁ : List ℕ} (h : SettleGives w xs n r x y w₁) where
    -- the number may be read
    pub who_asks : WhoAsks w₁ n r
    who_asks = record { few = p.settle.going.ready.fits.few; fit = omega (arith, p.settle.going.ready.fits.fit, h.only.long); here = h.few }

    -- and the mark set
    pub mark_asks : MarkAsks w₁ n j
    mark_asks = record { few = p.settle.going.ready.fits.few; fit = omega (arith, p.settle.going.ready.fits.fit, h.only.long); here = p.here }

    module _ {known : ℕ} (e : known ≡ disagreeing w₁ n r x y) {w₂ : List ℕ} (m : MarkGives w₁ n j known w₂) where
      -- the rule's crossing
      walk_is : walk_of (faces_of xs) n w₂ ≡ across j (walk_of (faces_of xs) n w) (step x y)
      walk_is =
          let us = users (faces_of xs) (edge (step x y)) in
          let k : known ≡ lone (n + 1) (through (reach (step x y)) (walk_of (faces_of xs) n w) us).faces (opposite (step x y)) us =
          e ∙ noted x y h.crossed ∙ ap (λ v. lone (n + 1) v.faces (opposite (step x y)) us) h.walk
          in
          m.walk (faces_of xs)
          ∙ ap₂ (λ c v. remark (not (other j c)) v) k h.walk
          ∙ sym (across_is (n + 1) j (walk_of (faces_of xs) n w) (step x y) us (omega (arith, p.here)) p.seen (users_are xs n w (step x y)) (rw (users_are xs n w (step x y)) at all_along))

      -- a mark changes no face
      marked_later : Later (walk_of (faces_of xs) n w₁) (walk_of (faces_of xs) n w₂)
      marked_later = later_to (later_remark (not (other j known)) (walk_of (faces_of xs) n w₁)) (m.walk (faces_of xs))

      -- face j stays visited
      still : get_or (walk_of (faces_of xs) n w₂).visited j false ≡ true
      still =
          let a : Later (walk_of (faces_of xs) n w) (walk_of (faces_of xs) n w₁) = later_to (later_reach (step x y) (walk_of (faces_of xs) n w) (users (faces_of xs) (edge (step x y)))) h.walk in
          ((later_both a marked_later).stay j p.seen).0

      -- face j has crossed
      pub cross_gives : CrossGives w xs n j x y w₂
      cross_gives =
          let g = h.going in
          record {
            only = only_both h.only (only_more (omega arith) (omega arith) m.only);
            going =
                going_kept marked_later g
                (ready_as g.ready m.only.long (omega (arith, m.only.same 0 (below (omega arith)), g.ready.top)) (m.walk (faces_of xs)) (remark_sound g.ready.sound (not (other j known))))
                (only_more (omega arith) (omega arith) m.only);
            walk = walk_is;
            stay = still;
          }

-- ---- cross

module _ {w xs : List ℕ} {n j id x y : ℕ} (p : CrossAsks w xs n j id x y) where
  -- what is noted of the face across is 0 or leads to a face
  few_across : Dec (get_or w (3 + 11 * n + id) 0 ≡ 0) → get_or w (3 + 11 * n + id) 0 ≤ n
  few_across (yes z) = omega arith
  few_across (no z) = (p.going.mated.each id p.entry z).few

  -- the bounds hold
  pub cross_bounds : Bounds w xs n id
  cross_bounds =
      let g = p.going in
      let f = g.ready.fits in
      let k = run_of_is g.tabled id (omega (arith, f, p.entry)) in
      record {
        few = f.few;
        long = f.long;
        fit = omega (arith, g.tabled.asks.fit);
        entry = p.entry;
        run = omega (arith, k.0, (at_run g.tabled (get_or w (3 + 14 * n + 2 * length xs + id) 0) k.0).runs, f);
        across = few_across (ℕ_discrete (get_or w (3 + 11 * n + id) 0) 0);
      }

  -- the number of the edge
  abbrev r : ℕ
  r = get_or w (3 + 14 * n + 2 * length xs + id) 0

  -- so the step is along that edge
  pub settle_asks : SettleAsks w xs n r x y
  settle_asks =
      let u = cross_bounds in
      let k = run_of_is p.going.tabled id (omega (arith, u)) in
      record { going = p.going; here = k.0; along = k.1 ∙ p.along }

  -- or the edge may be crossed by what is noted
  pub many_asks : ManyAsks w xs n j r x y
  many_asks = record { settle = settle_asks; here = p.here; seen = p.seen }

  module _ (z : get_or w (3 + 11 * n + id) 0 ≡ 0 → ⊥) where
    -- the face across
    leads : Leads xs n id (get_or w (3 + 11 * n + id) 0)
    leads = p.going.mated.each id p.entry z

    -- it may be met
    pub meet_asks : ReachAsks w xs n (get_or w (3 + 11 * n + id) 0 - 1)
    meet_asks = record { ready = p.going.ready; here = omega (arith, leads.few) }

    -- face j has met the users of the edge, as there is none besides
    pub meet_gives : {w' : List ℕ} → MeetGives w xs n j (get_or w (3 + 11 * n + id) 0 - 1) x y w' → CrossGives w xs n j x y w'
    unfolding across
    meet_gives g =
        let v = walk_of (faces_of xs) n w in
        let q : ℕ → Bool = λ i. not (eqb i j) in
        let later = later_to (later_meets (step x y) v (filter q ((get_or w (3 + 11 * n + id) 0 - 1) ∷ []))) g.walk in
        let us : filter q ((get_or w (3 + 11 * n + id) 0 - 1) ∷ []) ≡ filter q (users v.faces (edge (step x y))) =
        sym (rw p.own at leads.others) ∙ ap (λ e. filter q (users (faces_of xs) e)) p.along ∙ ap (filter q) (sym (users_are xs n w (step x y)))
        in
        record {
          only = only_more (omega arith) (omega arith) g.only;
          going = going_kept later p.going g.ready g.only;
          walk = g.walk ∙ ap (through (meet (step x y)) v) us;
          stay = (later.stay j p.seen).0;
        }

-- ---- cross_three

module _ {w xs : List ℕ} {n j a b c first last : ℕ} (p : ThreeAsks w xs n j a b c first last) where
  -- the first edge
  pub first_asks : CrossAsks w xs n j first a b
  first_asks = record { going = p.going; here = p.here; seen = p.seen; entry = p.is_first; own = p.own_first; along = p.along_first }

  module _ {w₁ : List ℕ} (h : CrossGives w xs n j a b w₁) where
    -- the second
    pub second_asks : CrossAsks w₁ xs n j (3 * j + 1) b c
    second_asks = record { going = h.going; here = p.here; seen = h.stay; entry = omega (arith, p.here); own = omega arith; along = p.along_second }

    module _ {w₂ : List ℕ} (k : CrossGives w₁ xs n j b c w₂) where
      -- the last
      pub last_asks : CrossAsks w₂ xs n j last c a
      last_asks = record { going = k.going; here = p.here; seen = k.stay; entry = p.is_last; own = p.own_last; along = p.along_last }

      -- all three, in order
      pub three_gives : {w₃ : List ℕ} → CrossGives w₂ xs n j c a w₃ → ThreeGives w xs n j a b c w₃
      unfolding through
      three_gives m =
          record {
            only = only_both h.only (only_both k.only m.only);
            going = m.going;
            walk = m.walk ∙ ap (λ v. across j v (step c a)) (k.walk ∙ ap (λ v. across j v (step b c)) h.walk);
          }

-- ---- cross_face

-- what the code reads
pub record FaceBounds (w xs : List ℕ) (n j : ℕ) : Type 0 where
  pub few : n ≤ 4194304
  pub long : length xs ≡ 3 * n
  pub fit : 3 + 11 * n ≤ length w
  pub here : j < n

module _ {w xs : List ℕ} {n j : ℕ} (p : FaceAsks w xs n j) where
  -- they hold
  pub face_bounds : FaceBounds w xs n j
  face_bounds = let f = p.going.ready.fits in record { few = f.few; long = f.long; fit = f.fit; here = p.here }

  -- its corners as they were
  abbrev a : ℕ
  a = get_or xs (3 * j) 0

  abbrev b : ℕ
  b = get_or xs (3 * j + 1) 0

  abbrev c : ℕ
  c = get_or xs (3 * j + 2) 0

  -- and its entries
  whole : length xs % 3 ≡ 0
  whole = let u = face_bounds in omega (arith, u)

  -- the step of its first entry
  entry_first : step_at (faces_of xs) (3 * j) ≡ step a b
  entry_first =
      let u = face_bounds in
      let e : 3 * j % 3 ≡ 0 = omega arith in
      step_flat xs whole (3 * j) (omega (arith, u)) ∙ ap (λ f. step a (get_or xs (cond f (3 * j - 2) (3 * j + 1)) 0)) (ap (λ z. eqb z 2) e)

  -- of its second
  entry_second : step_at (faces_of xs) (3 * j + 1) ≡ step b c
  entry_second =
      let u = face_bounds in
      let e : (3 * j + 1) % 3 ≡ 1 = omega arith in
      let k : 3 * j + 1 + 1 ≡ 3 * j + 2 = omega arith in
      step_flat xs whole (3 * j + 1) (omega (arith, u)) ∙ ap (λ f. step b (get_or xs (cond f (3 * j + 1 - 2) (3 * j + 1 + 1)) 0)) (ap (λ z. eqb z 2) e) ∙ ap (λ z. step b (get_or xs z 0)) k

  -- of its last
  entry_last : step_at (faces_of xs) (3 * j + 2) ≡ step c a
  entry_last =
      let u = face_bounds in
      let e : (3 * j + 2) % 3 ≡ 2 = omega arith in
      let k : 3 * j + 2 - 2 ≡ 3 * j = omega arith in
      step_flat xs whole (3 * j + 2) (omega (arith, u)) ∙ ap (λ f. step c (get_or xs (cond f (3 * j + 2 - 2) (3 * j + 2 + 1)) 0)) (ap (λ z. eqb z 2) e) ∙ ap (λ z. step c (get_or xs z 0)) k

  -- the edge either way
  turned_edge : (s t : ℕ) → edge (step s t) ≡ edge (step t s)
  turned_edge s t = unfold opposite in edge_opposite (step t s)

  -- as it was
  pub straight_asks : ThreeAsks w xs n j a b c (3 * j) (3 * j + 2)
  straight_asks =
      record {
        going = p.going;
        here = p.here;
        seen = p.seen;
        is_first = omega (arith, p.here);
        is_last = omega (arith, p.here);
        own_first = omega arith;
        own_last = omega arith;
        along_first = ap edge entry_first;
        along_second = ap edge entry_second;
        along_last = ap edge entry_last;
      }

  -- exchanged: its entries from the last to the first
  pub turned_asks : ThreeAsks w xs n j a c b (3 * j + 2) (3 * j)
  turned_asks =
      record {
        going = p.going;
        here = p.here;
        seen = p.seen;
        is_first = omega (arith, p.here);
        is_last = omega (arith, p.here);
        own_first = omega arith;
        own_last = omega arith;
        along_first = ap edge entry_last ∙ turned_edge c a;
        along_second = ap edge entry_second ∙ turned_edge b c;
        along_last = ap edge entry_first ∙ turned_edge a b;
      }

  -- the face as it stands
  stands : face (walk_of (faces_of xs) n w).faces j ≡ turn (get_or w (3 + j) 0) (record { a = a; b = b; c = c; origin = j })
  stands =
      let u = face_bounds in
      turned_at (faces_of xs) n w (omega (arith, u)) j p.here ∙ ap (turn (get_or w (3 + j) 0)) (face_in xs j (omega (arith, u)))

  -- an exchanged face has crossed
  pub turned_gives : get_or w (3 + j) 0 ≡ 2 → {w' : List ℕ} → ThreeGives w xs n j a c b w' → FaceGives w xs n j w'
  unfolding turn exchanged
  turned_gives e g =
      record {
        only = g.only;
        going = g.going;
        walk = g.walk ∙ ap (λ f. through (across j) (walk_of (faces_of xs) n w) (steps f)) (sym (stands ∙ ap (λ s. turn s (record { a = a; b = b; c = c; origin = j })) e));
      }

  -- another
  pub straight_gives : (get_or w (3 + j) 0 ≡ 2 → ⊥) → {w' : List ℕ} → ThreeGives w xs n j a b c w' → FaceGives w xs n j w'
  unfolding turn
  straight_gives e g =
      record {
        only = g.only;
        going = g.going;
        walk = g.walk
            ∙ ap (λ f. through (across j) (walk_of (faces_of xs) n w) (steps f))
            (sym (stands ∙ ap (λ s. cond s (exchanged (record { a = a; b = b; c = c; origin = j })) (record { a = a; b = b; c = c; origin = j })) (ne_eqb (get_or w (3 + j) 0) 2 e)));
      }
